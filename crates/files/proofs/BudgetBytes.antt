-- What a budget of searches comes to, read off its bytes.
--   budget_header     the numbers in the header, whatever stands behind the answer
use mathlib.Core.Path.{◌≡◌}
use mathlib.Core.List.{List, ◌++◌}
use Prim.Native.Nat.{ℕ, ◌<◌}
use lib.ListN.{length}
use Rattle.counting.specs.declared.Pair.{Pair}
use Rattle.frames.specs.Frames.{hex_at, hex_bytes}
use Rattle.frames.proofs.Writes.{two_value}
use Rattle.files.specs.StockFile.{budget_text}

pub budget_header : (k m : ℕ) (ps : List Pair) (rest : List ℕ) → length ps < 256 → k < 256 → m < 256 →
    (hex_at 2 2 (budget_text k m ps ++ rest) ≡ length ps) × (hex_at 4 2 (budget_text k m ps ++ rest) ≡ k) × (hex_at 6 2 (budget_text k m ps ++ rest) ≡ m)
unfolding hex_bytes
budget_header k m ps rest p q r = (two_value (length ps) p, two_value k q, two_value m r)
