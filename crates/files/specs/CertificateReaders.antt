-- What reading a certificate answers: the number of the first question answered no, or 0 and what the file holds, in slices that the caller lends.
-- A path's questions ask how many arcs the graph has, a barrier's how many nodes. Beside a refusal the count is 0; the slices hold what was
-- stored before it, and nothing else in them differs.
--   CertificateAnswer questions ..  the first no of the questions, and beside it how many body lines there are
--   PathHeld, PathRead              arc numbers, each below the number of arcs
--   BarrierHeld, BarrierRead        a barrier's lines, and their classes
use Rattle.std.specs.Prelude.{◌≡◌, List, ℕ, ◌≤◌, ◌<◌, length, get_or, take}
use Rattle.counting.specs.Pairs.{seconds_of}
use Rattle.counting.specs.declared.Pair.{Pair}
use Rattle.frames.specs.Frames.{body_lines}
use Rattle.frames.specs.Questions.{Question, first_no, answered}
use Rattle.frames.specs.Stores.{StoredFirst}
use Rattle.files.specs.CertificateFile.{path_arcs, path_questions, path_stored, barrier_classes, barrier_questions, barrier_stored}

pub record CertificateAnswer (questions : List Question) (f : List ℕ) (number count : ℕ) : Type 0 where
  pub says : number ≡ first_no questions
  pub counts : count ≡ answered number (length (body_lines f))

pub record PathHeld (f arcs : List ℕ) (bound count : ℕ) : Type 0 where
  pub room : count ≤ length arcs
  pub arcs_are : take count arcs ≡ path_arcs f
  pub below : (k : ℕ) → k < length (take count arcs) → get_or (take count arcs) k 0 < bound

pub record PathRead (f arcs arcs_after : List ℕ) (bound number count : ℕ) : Type 0 where
  pub answer : CertificateAnswer (path_questions bound f) f number count
  pub stores : StoredFirst (path_stored f) arcs arcs_after

pub record BarrierHeld (f classes : List ℕ) (count : ℕ) : Type 0 where
  pub room : count ≤ length classes
  pub classes_are : take count classes ≡ barrier_classes f

pub record BarrierRead (f : List ℕ) (lines : List Pair) (classes : List ℕ) (lines_after : List Pair) (classes_after : List ℕ) (bound number count : ℕ) : Type 0 where
  pub answer : CertificateAnswer (barrier_questions bound f) f number count
  pub stores : StoredFirst (barrier_stored bound f) lines lines_after
  pub stores_classes : StoredFirst (seconds_of (barrier_stored bound f)) classes classes_after
