-- `lanes_print::argument::most_said` meets its contract: nothing, or another byte than a digit, or the digits one behind the other.
use Rattle.std.proofs.Common.{rules, sym, ◌∙◌}
use Rattle.std.proofs.lemmas.Iterator.{YieldsList-from_slice}
use Rattle.std.proofs.lemmas.Iterator.Consumers.{fold_from_yields_List}
use Rattle.files.proofs.PairScans.{all_of}
use Rattle.lanes_print.specs.Argument.{is_decimal, with_digit}
use Rattle.lanes_print.proofs.Arguments.{said_digits, said_other}
use Rattle.lanes_print.proofs.argument.most_said.Goals as goal
use Rattle.lanes_print.proofs.argument.most_said.Goals.{then-is_empty-via-then-is_empty, then-is_empty-via-else-is_empty+then-not-all}

pub returns-then-is_empty : goal.returns-then-is_empty
returns-then-is_empty c =
    elim c.then-is_empty.branch [
      | then-is_empty-via-then-is_empty w ↦ rw (sym c.is_empty.ensures ∙ w.if-is_empty.true)
      | then-is_empty-via-else-is_empty+then-not-all w ↦
          said_other _ (sym c.is_empty.ensures ∙ w.if-is_empty.false)
          (sym (all_of is_decimal (YieldsList-from_slice c.args.text.now cc) w.all.ensures.ran (λ x b q k. search rules)) ∙ w.if-not-all.true)
    ]

pub returns : goal.returns
returns c =
    let digits = all_of is_decimal (YieldsList-from_slice c.args.text.now cc) c.all.ensures.ran (λ x b q k. search rules) in
    fold_from_yields_List _ with_digit _ _ c.fold.ensures.ran (YieldsList-from_slice c.args.text.now cc) (λ a x b q k. search rules) ∙
    said_digits _ (sym c.is_empty.ensures ∙ c.if-is_empty.false) (sym digits ∙ c.if-not-all.false)
