-- What is promised of two files of the same lines, and of a file with carriage returns put in (document 02, L1).
--   SameLines f g      the same lines, the last ended in both or in neither; both short enough, or neither
--   ReadAlike f g      both hold the same graph, stock, certificate and plan, and the same question of each kind of file is the first answered no
--   TooLong f          every kind of file is refused with 2
--   LinesTell          files of the same lines are read alike
--   EndsTell           so are files written of the same lines, whichever end each line has
--   ReturnsRead        a file with carriage returns put before its line feeds is read as the file without them, or is too long
use Rattle.std.specs.Prelude.{◌≡◌, Bool, true, List, ℕ, ◌≤◌, ◌<◌, leb, length}
use Rattle.formats.specs.Limits.{file_most}
use Rattle.counting.specs.Tests.{all}
use Rattle.counting.specs.declared.Pair.{Pair}
use Rattle.frames.specs.Frames.{lines_of, ends_whole}
use Rattle.frames.specs.EitherEnd.{with_returns, EndedLine, text_of, bytes_of, is_inner}
use Rattle.skew.specs.Graph.{Graph}
use Rattle.files.specs.GraphFile.{graph_in, graph_fault}
use Rattle.files.specs.StockFile.{stock_in, stock_fault}
use Rattle.files.specs.PlanFile.{plan_pairs, plan_fault}
use Rattle.files.specs.CertificateFile.{cert_fault, cert_holds}

abbrev pub SameLines : (one other : List ℕ) → Type 0
SameLines f g =
    (lines_of f ≡ lines_of g) × (ends_whole f ≡ ends_whole g) × (leb (length f) file_most ≡ leb (length g) file_most)

abbrev pub ReadAlike : (one other : List ℕ) → Type 0
ReadAlike f g =
    (graph_fault f ≡ graph_fault g) × (graph_in f ≡ graph_in g) × (stock_fault f ≡ stock_fault g) × (stock_in f ≡ stock_in g) ×
    ((h : Graph) → (cert_fault h f ≡ cert_fault h g) × (cert_holds h f ≡ cert_holds h g)) ×
    ((n : ℕ) (fs : List Pair) → plan_fault n fs f ≡ plan_fault n fs g) × (plan_pairs f ≡ plan_pairs g)

abbrev pub TooLong : (file : List ℕ) → Type 0
TooLong f = (graph_fault f ≡ 2) × (stock_fault f ≡ 2) × ((h : Graph) → cert_fault h f ≡ 2) × ((n : ℕ) (fs : List Pair) → plan_fault n fs f ≡ 2)

abbrev pub LinesTell : Type 0
LinesTell = (f g : List ℕ) → SameLines f g → ReadAlike f g

abbrev pub EndsTell : Type 0
EndsTell =
    (ls ms : List EndedLine) → all (all is_inner) (bytes_of ls) ≡ true → bytes_of ls ≡ bytes_of ms → length (text_of ls) ≤ file_most →
    length (text_of ms) ≤ file_most → ReadAlike (text_of ls) (text_of ms)

abbrev pub ReturnsRead : Type 0
ReturnsRead =
    (chosen : ℕ → Bool) (f : List ℕ) →
    (length (with_returns chosen f) ≤ file_most → ReadAlike (with_returns chosen f) f) ×
    (file_most < length (with_returns chosen f) → TooLong (with_returns chosen f))
