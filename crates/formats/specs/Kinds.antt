-- Kinds of frames (document 01, "Frames"): of each file its header, its body lines and its end; and the programs' own lines.
--   graph_kind, arc_kind, graph_end               a graph
--   stock_kind, fit_kind, lit_kind, stock_end     a stock: fits, then lit pairs
--   path_kind, step_kind, path_end                a path: arc numbers
--   barrier_kind, class_kind, barrier_end         a barrier: node and class
--   sheet_kind, mark_kind, sheet_end              a standing sheet: camera and mark
--   plan_kind, pair_kind, plan_end                a plan
--   budget_kind, budget_end                       what a budget of searches comes to (document 02, L4): its lines are a plan's
--   verdict_kind, refusal_kind                    a check's yes or no, and a refusal
--   kind_number k                                 the number of a kind, as code has it
use Rattle.std.specs.Prelude.{ℕ}
use Rattle.formats.specs.declared.kinds.Kind.{Kind}
use Rattle.formats.specs.declared.kinds.Kind.TheVariants as kind

abbrev pub graph_kind : ℕ
graph_kind = 0x01

abbrev pub arc_kind : ℕ
arc_kind = 0x02

abbrev pub graph_end : ℕ
graph_end = 0x0F

abbrev pub stock_kind : ℕ
stock_kind = 0x11

abbrev pub fit_kind : ℕ
fit_kind = 0x12

abbrev pub lit_kind : ℕ
lit_kind = 0x13

abbrev pub stock_end : ℕ
stock_end = 0x1F

abbrev pub path_kind : ℕ
path_kind = 0x21

abbrev pub step_kind : ℕ
step_kind = 0x22

abbrev pub path_end : ℕ
path_end = 0x2F

abbrev pub barrier_kind : ℕ
barrier_kind = 0x31

abbrev pub class_kind : ℕ
class_kind = 0x32

abbrev pub barrier_end : ℕ
barrier_end = 0x3F

abbrev pub sheet_kind : ℕ
sheet_kind = 0x41

abbrev pub mark_kind : ℕ
mark_kind = 0x43

abbrev pub sheet_end : ℕ
sheet_end = 0x4F

abbrev pub plan_kind : ℕ
plan_kind = 0x51

abbrev pub pair_kind : ℕ
pair_kind = 0x52

abbrev pub plan_end : ℕ
plan_end = 0x5F

abbrev pub budget_kind : ℕ
budget_kind = 0x61

abbrev pub budget_end : ℕ
budget_end = 0x6F

abbrev pub verdict_kind : ℕ
verdict_kind = 0x7A

abbrev pub refusal_kind : ℕ
refusal_kind = 0x7E

abbrev pub kind_number : Kind → ℕ
kind_number kind.Graph = graph_kind
kind_number kind.Arc = arc_kind
kind_number kind.GraphEnd = graph_end
kind_number kind.Stock = stock_kind
kind_number kind.Fit = fit_kind
kind_number kind.Lit = lit_kind
kind_number kind.StockEnd = stock_end
kind_number kind.Path = path_kind
kind_number kind.Step = step_kind
kind_number kind.PathEnd = path_end
kind_number kind.Barrier = barrier_kind
kind_number kind.Class = class_kind
kind_number kind.BarrierEnd = barrier_end
kind_number kind.Sheet = sheet_kind
kind_number kind.Mark = mark_kind
kind_number kind.SheetEnd = sheet_end
kind_number kind.Plan = plan_kind
kind_number kind.Pair = pair_kind
kind_number kind.PlanEnd = plan_end
kind_number kind.Budget = budget_kind
kind_number kind.BudgetEnd = budget_end
kind_number kind.Verdict = verdict_kind
kind_number kind.Refusal = refusal_kind
