-- `files::graphs::read_graph` meets its contract: one law for each way the questions end.
use Rattle.skew.specs.Graph.{arc_of}
use Rattle.frames.proofs.Questions.{passed_on}
use Rattle.files.proofs.GraphFiles.{graph_header, graph_five, header_long, GraphBody, graph_body, body_read, graph_eight, graph_room, graph_refused, graph_read, graph_nine}
use Rattle.files.proofs.graphs.read_graph.Goals as goal
use Rattle.files.proofs.graphs.read_graph.Goals.{In_ok-count}

-- past questions 2 to 7
body_at : (c : In_ok-count) →
    GraphBody c.args.f.now c.in_ok-next.next c.number_at-pairs.result c.number_at-source.result c.in_ok-count.field-0.count c.in_ok-count.field-0.firsts
body_at c =
    body_read c.in_ok-next.ensures c.number_at-pairs.ensures c.number_at-source.ensures c.header_fits.ensures c.in_ok-ask.ensures c.in_ok-count.ensures

pub returns-in_err-next : goal.returns-in_err-next
returns-in_err-next c = rw (passed_on c.from_residual.ensures) (graph_refused _ (graph_header _ c.in_err-next.ensures))

pub number_at-source-requires-clause-inside : goal.number_at-source-requires-clause-inside
number_at-source-requires-clause-inside c = header_long c.in_ok-next.ensures

pub returns-in_err-ask : goal.returns-in_err-ask
returns-in_err-ask c =
    rw (passed_on c.from_residual-in_err-ask.ensures)
    (graph_refused _ (graph_five c.in_ok-next.ensures c.number_at-pairs.ensures c.number_at-source.ensures c.header_fits.ensures _ c.in_err-ask.ensures))

pub returns-in_err-count : goal.returns-in_err-count
returns-in_err-count c =
    rw (passed_on c.from_residual-in_err-count.ensures)
    (graph_refused _
    (graph_body c.in_ok-next.ensures c.number_at-pairs.ensures c.number_at-source.ensures c.header_fits.ensures _ c.in_ok-ask.ensures c.in_err-count.ensures))

pub returns-in_err-ask-2 : goal.returns-in_err-ask-2
returns-in_err-ask-2 c =
    let body = body_at (goal.at.returns-in_err-ask-2 c).In_ok-count in
    rw (passed_on c.from_residual-in_err-ask-2.ensures) (graph_refused _ (graph_eight body c.arcs_fit.ensures _ c.in_err-ask-2.ensures))

pub store-requires : goal.store-requires
store-requires c = graph_room (body_at (goal.at.store-requires c).In_ok-count) c.arcs_fit.ensures c.in_ok-ask-2.ensures _ c.requires

pub returns-in_err-ask_arcs : goal.returns-in_err-ask_arcs
returns-in_err-ask_arcs c =
    let body = body_at (goal.at.returns-in_err-ask_arcs c).In_ok-count in
    rw (passed_on c.from_residual-in_err-ask_arcs.ensures)
    (graph_nine body c.arcs_fit.ensures c.in_ok-ask-2.ensures (c.store.ensures.stored arc_of (λ x y e. e)) _ c.in_err-ask_arcs.ensures)

pub returns : goal.returns
returns c =
    let body = body_at (goal.at.returns c).In_ok-count in
    graph_read body c.arcs_fit.ensures c.in_ok-ask-2.ensures (c.store.ensures.stored arc_of (λ x y e. e)) c.in_ok-ask_arcs.ensures
