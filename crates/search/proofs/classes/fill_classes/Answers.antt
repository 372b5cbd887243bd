use Rattle.std.proofs.Common.{◌∙◌, arith, rules}
use Rattle.std.proofs.lemmas.List.Edits.{fill_by_more}
use Rattle.search.proofs.ClassTables.{numbering_start, classes_told}
use Rattle.search.proofs.classes.fill_classes.Goals as goal

pub loop-v-init : goal.loop-v-init
loop-v-init c = let N = numbering_start c.requires.exhausted in search rules

pub loop-v-preserved : goal.loop-v-preserved
loop-v-preserved c =
    let E = c.class_at.ensures in (E.0, rw E.1 (fill_by_more _ c.loop-v.class c.loop-v.v 0 (omega (arith, c.loop-v.auto.class)) c.loop-v.invariant.1))

pub returns : goal.returns
returns c = classes_told c.requires.exhausted (c.loop-v.auto.class ∙ c.requires.class_len) (λ u l. c.loop-v.invariant.1 u (omega arith))
