-- What a plan's bytes tell.
--   plan_header                                the number in its header, whatever stands behind the plan
--   header_line n, pair_line x, end_line n     lines of a plan of n pairs, without their ends: the first, a pair's, the last
--   plan_lines_lem                             all lines of a plan
--   plan_first, plan_body, plan_last           the first; those between header and end are those of its pairs; the last
--   pairs_read_lem                             and the pairs that they say
use mathlib.Core.Path.{◌≡◌, refl, ap, ◌∙◌}
use mathlib.Core.Logic.{inl, inr}
use mathlib.Core.List.{List, [], ◌∷◌, ◌++◌, map}
use Prim.Native.Nat.{ℕ, ◌-◌, ◌<◌}
use native.Mathlib.Omega.{arith}
use lib.ListN.{length, length-append}
use lib.Seq.{take-append_seam, get_or-append_seam}
use Rattle.formats.specs.Kinds.{pair_kind, plan_end, plan_kind}
use Rattle.counting.specs.Lists.{In}
use Rattle.counting.specs.declared.Pair.{Pair}
use Rattle.frames.specs.Frames.{lines_of, hex_from, hex_at, first_line, last_line, body_lines, pairs_in, hex_bytes, frame_of4}
use Rattle.frames.proofs.Writes.{two_value}
use Rattle.frames.proofs.EitherEnd.{frame4_line, frame6_line, frame_of4_line}
use Rattle.files.specs.StockFile.{plan_lines, plan_text}

pub plan_header : (ps : List Pair) (rest : List ℕ) → length ps < 256 → hex_at 2 2 (plan_text ps ++ rest) ≡ length ps
unfolding hex_bytes
plan_header ps rest h = two_value (length ps) h

-- LINES
abbrev pub header_line : (pairs : ℕ) → List ℕ
header_line n = hex_bytes 2 plan_kind ++ hex_bytes 2 n

abbrev pub pair_line : Pair → List ℕ
pair_line x = hex_bytes 2 pair_kind ++ hex_bytes 2 x.first ++ hex_bytes 2 x.second

abbrev pub end_line : (pairs : ℕ) → List ℕ
end_line n = hex_bytes 2 plan_end ++ hex_bytes 4 n

lines_read : (ps : List Pair) (r : List ℕ) → lines_of (plan_lines ps ++ r) ≡ map pair_line ps ++ lines_of r
unfolding plan_lines hex_bytes
lines_read [] r = refl
lines_read (x ∷ xs) r =
    frame6_line pair_kind x.first x.second (plan_lines xs ++ r) ∙ ap (λ (ls : List (List ℕ)). pair_line x ∷ ls) (lines_read xs r)

pub plan_lines_lem : (ps : List Pair) → lines_of (plan_text ps) ≡ header_line (length ps) ∷ (map pair_line ps ++ end_line (length ps) ∷ [])
unfolding hex_bytes lines_of
plan_lines_lem ps =
    let n = length ps in
    frame4_line plan_kind n (plan_lines ps ++ frame_of4 plan_end n) ∙
    ap (λ (ls : List (List ℕ)). header_line n ∷ ls)
    (lines_read ps (frame_of4 plan_end n) ∙ ap (λ (ls : List (List ℕ)). map pair_line ps ++ ls) (frame_of4_line plan_end n []))

module _ (ps : List Pair) where
  last_at : length (map pair_line ps ++ end_line (length ps) ∷ []) - 1 ≡ length (map pair_line ps)
  last_at = omega (arith, length-append (map pair_line ps) (end_line (length ps) ∷ []))

  pub plan_first : first_line (plan_text ps) ≡ header_line (length ps)
  plan_first = rw (plan_lines_lem ps)

  pub plan_body : body_lines (plan_text ps) ≡ map pair_line ps
  plan_body = rw (plan_lines_lem ps, last_at) (take-append_seam (map pair_line ps) (end_line (length ps) ∷ []))

  pub plan_last : last_line (plan_text ps) ≡ end_line (length ps)
  plan_last = rw (plan_lines_lem ps, last_at) (get_or-append_seam (map pair_line ps) (end_line (length ps)) [] [])

-- THE PAIRS
pub pairs_read_lem : (ps : List Pair) → ((x : Pair) → In x ps → (x.first < 256) × (x.second < 256)) → pairs_in pair_kind (map pair_line ps) ≡ ps
unfolding pairs_in hex_bytes hex_from
pairs_read_lem [] h = refl
pairs_read_lem (x ∷ xs) h =
    let low = h x (inl refl) in
    rw (two_value x.first low.0, two_value x.second low.1) (ap (λ (ys : List Pair). x ∷ ys) (pairs_read_lem xs (λ y m. h y (inr m))))
