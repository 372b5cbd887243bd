-- `files::stocks::read_stock` meets its contract: one law for each way the questions end.
use Rattle.frames.proofs.Questions.{passed_on}
use Rattle.files.proofs.StockFiles.{stock_header, stock_five, StockBody, stock_body, body_read, stock_eight, fits_room, lit_room, Stocked, stocked, stock_refused, stock_read, stock_nine}
use Rattle.files.proofs.stocks.read_stock.Goals as goal
use Rattle.files.proofs.stocks.read_stock.Goals.{In_ok-firsts, After-store-other}

-- past questions 2 to 7
body_at : (c : In_ok-firsts) →
    StockBody c.args.f.now c.in_ok-next.next c.number_at-cameras.result c.in_ok-firsts.field-0.count c.in_ok-firsts.field-0.firsts
body_at c = body_read c.in_ok-next.ensures c.number_at-cameras.ensures c.in_ok-ask.ensures c.in_ok-firsts.ensures

-- the pairs are stored
stocked_at : (c : After-store-other) →
    Stocked c.args.f.now c.args.fits.now c.store-one.new.out c.args.lit.now c.store-other.new.out c.in_ok-firsts.field-0.firsts c.store-other.result.count
stocked_at c =
    stocked (body_at (goal.at.After-store-other c).In_ok-firsts) (c.store-one.ensures.stored (λ x. x) (λ x y e. e)) (c.store-other.ensures.stored (λ x. x) (λ x y e. e))

pub returns-in_err-next : goal.returns-in_err-next
returns-in_err-next c = rw (passed_on c.from_residual.ensures) (stock_refused _ (stock_header _ c.in_err-next.ensures))

pub returns-in_err-ask : goal.returns-in_err-ask
returns-in_err-ask c =
    rw (passed_on c.from_residual-in_err-ask.ensures)
    (stock_refused _ (stock_five c.in_ok-next.ensures c.number_at-cameras.ensures _ c.in_err-ask.ensures))

pub returns-in_err-firsts : goal.returns-in_err-firsts
returns-in_err-firsts c =
    rw (passed_on c.from_residual-in_err-firsts.ensures)
    (stock_refused _ (stock_body c.in_ok-next.ensures c.number_at-cameras.ensures _ c.in_ok-ask.ensures c.in_err-firsts.ensures))

pub returns-in_err-ask-2 : goal.returns-in_err-ask-2
returns-in_err-ask-2 c =
    let body = body_at (goal.at.returns-in_err-ask-2 c).In_ok-firsts in
    rw (passed_on c.from_residual-in_err-ask-2.ensures) (stock_refused _ (stock_eight body _ c.in_err-ask-2.ensures))

pub store-one-requires : goal.store-one-requires
store-one-requires c = fits_room (body_at (goal.at.store-one-requires c).In_ok-firsts) _ c.in_ok-ask-2.ensures c.requires.0

pub store-other-requires : goal.store-other-requires
store-other-requires c =
    lit_room (body_at (goal.at.store-other-requires c).In_ok-firsts) (c.store-one.ensures.stored (λ x. x) (λ x y e. e)) _ c.requires.1

pub returns-in_err-ask_pairs : goal.returns-in_err-ask_pairs
returns-in_err-ask_pairs c =
    let at = goal.at.returns-in_err-ask_pairs c in
    rw (passed_on c.from_residual-in_err-ask_pairs.ensures)
    (stock_nine (body_at at.In_ok-firsts) (stocked_at at.After-store-other) c.in_ok-ask-2.ensures _ c.in_err-ask_pairs.ensures)

pub returns : goal.returns
returns c =
    let at = goal.at.returns c in
    stock_read (body_at at.In_ok-firsts) (stocked_at at.After-store-other) c.in_ok-ask-2.ensures c.in_ok-ask_pairs.ensures
