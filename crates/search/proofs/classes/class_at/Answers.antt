-- The four kinds of node in turn.
use mathlib.Core.Path.{refl}
use Rattle.search.proofs.ClassTables.{class_outside, class_X}
use Rattle.search.proofs.classes.class_at.Goals as goal

pub returns-in-false-false : goal.returns-in-false-false
returns-in-false-false c =
    class_outside c.requires.numbering c.requires.v_in_bounds c.in-false-false.ensures (rw c.mate_of.ensures at c.in-false-false.ensures') refl

pub returns-in-false-true : goal.returns-in-false-true
returns-in-false-true c =
    class_outside c.requires.numbering c.requires.v_in_bounds c.in-false-true.ensures (rw c.mate_of.ensures at c.in-false-true.ensures') refl

pub returns-in-true-false : goal.returns-in-true-false
returns-in-true-false c =
    class_outside c.requires.numbering c.requires.v_in_bounds c.in-true-false.ensures (rw c.mate_of.ensures at c.in-true-false.ensures') refl

pub returns-in-true-true : goal.returns-in-true-true
returns-in-true-true c =
    class_X c.requires.numbering c.requires.v_in_bounds c.in-true-true.ensures (rw c.mate_of.ensures at c.in-true-true.ensures') c.root_of.ensures
    c.number_at.ensures
