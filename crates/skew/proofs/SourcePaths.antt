-- Each reached node lies on a regular path from the source, which goes from fragment to fragment over base arcs.
--   source_path           a reached node's path, through fragments no later than its own
use mathlib.Core.Path.{◌≡◌, refl, ap, subst}
use mathlib.Core.Logic.{◌⊎◌, inl, inr, ◌≢◌, ⊎_elim}
use mathlib.Core.Bool.{true}
use mathlib.Core.List.{List, ◌∷◌, ◌++◌}
use Prim.Native.Nat.{ℕ, zero, suc, ◌≤◌, ◌<◌}
use native.Mathlib.Omega.{arith}
use Rattle.skew.specs.Graph.{Graph}
use Rattle.skew.specs.Paths.{tail, head, RegularPath, SkewSymmetric}
use Rattle.skew.specs.Search.{State, InFragment, Invariant}
use Rattle.counting.proofs.Booleans.{same_or}
use Rattle.skew.proofs.RegularPaths.{path_widen, concat}
use Rattle.skew.proofs.Fragments.{fragment_closed}

module _ (g : Graph) (d : SkewSymmetric g) (st : State) (I : Invariant g st) where
  abbrev UpTo : ℕ → ℕ → Type 0
  UpTo n x = st.birth (st.base x) ≤ n

  abbrev Before : ℕ → ℕ → Type 0
  Before n x = st.birth (st.base x) < n

  abbrev SourcePath : ℕ → Type 0
  SourcePath u = (p : List ℕ) × RegularPath g (UpTo (st.birth (st.base u))) g.source u p

  -- induction on the birth of the node's base
  by_birth : (n u : ℕ) → Before n u → st.reached u ≡ true → SourcePath u
  by_birth zero u h l = absurd (omega arith)
  by_birth (suc n) u h l = go (same_or b g.source) (by_birth n)
    where
      b : ℕ
      b = st.base u

      up_to : (x : ℕ) → InFragment st b x → UpTo (st.birth b) x
      up_to x e = rw e (omega arith)

      go : (b ≡ g.source) ⊎ (b ≢ g.source) → ((w : ℕ) → Before n w → st.reached w ≡ true → SourcePath w) → SourcePath u
      go (inl e) ih =
          let r = I.path u l in
          (r.0, subst (λ (k : ℕ). RegularPath g (UpTo (st.birth b)) k u r.0) e (path_widen up_to r.1))
      go (inr ne) ih =
          let a = I.base_arc b (I.base_base u l) ne in
          let x = tail g (st.via b) in
          let r = ih x (omega (arith, a.base_earlier)) a.tail_reached in
          let q = I.path u l in
          let P : RegularPath g (Before (st.birth b)) g.source x r.0 = path_widen (λ y h. omega (arith, a.base_earlier)) r.1 in
          let Q : RegularPath g (InFragment st b) (head g (st.via b)) u q.0 = rw a.head_is q.1 in (
            r.0 ++ st.via b ∷ q.0,
            path_widen (λ y. ⊎_elim (λ h. omega arith) (up_to y))
                (concat d (λ y h. rw (I.base_mate y) h) (fragment_closed g st I b) (λ y h e. omega (arith, ap st.birth e)) P
                a.is_arc refl Q),
          )

  pub source_path : (u : ℕ) → st.reached u ≡ true → SourcePath u
  source_path u l = by_birth (suc (st.birth (st.base u))) u (omega arith) l
