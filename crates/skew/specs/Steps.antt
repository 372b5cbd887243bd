-- The two steps of a search as relations between states (document 000, section 2.3), and the states that ask for no step.
--   TreeStep g st e new                    arc e reaches its head, new as its mate is
--   InUnion st C b x                       x has base b, or its base is one of C
--   reached_after st C b                   the nodes reached once a bud of b has absorbed the fragments of C
--   BudStep st C b via new                 the fragments of C become part of the bud of b, and b's mate is reached; new labels via
--   Absorbable g st C b via                what makes that step right: the labels give regular paths within the new bud
--   Settled g st i                         within one bud, or a base arc, or the mate of one
--   SettledArc g st i                      settled, with tail and head's mate reached
--   SettledKind g st i                     the three ways: within a bud, into a base, out of a base's mate
--   Touched g st i                         the arc's head or the head's mate is reached
--   Closed g st                            every arc of a reached node is touched, and settled where the head's mate is reached
use Rattle.std.specs.Prelude.{◌≡◌, ◌⊎◌, ◌≢◌, Bool, true, false, ◌||◌, ℕ, suc, ◌≤◌, ◌<◌, eqb, length}
use Rattle.skew.specs.Graph.{Graph, mate}
use Rattle.skew.specs.Paths.{tail, head}
use Rattle.skew.specs.Segments.{LabelledPath}
use Rattle.skew.specs.Search.{State, IsBase, ReachedEnds}

pub record TreeStep (g : Graph) (st : State) (e : ℕ) (new : State) : Type 0 where
  pub reached_head : new.reached (head g e) ≡ true
  pub reached_other : (u : ℕ) → u ≢ head g e → new.reached u ≡ st.reached u
  pub base_head : new.base (head g e) ≡ head g e
  pub base_head_mate : new.base (mate (head g e)) ≡ head g e
  pub base_other : (u : ℕ) → (u ≢ head g e) × (u ≢ mate (head g e)) → new.base u ≡ st.base u
  pub via_head : new.via (head g e) ≡ e
  pub via_other : (u : ℕ) → u ≢ head g e → new.via u ≡ st.via u
  pub birth_head : new.birth (head g e) ≡ st.clock
  pub birth_other : (u : ℕ) → u ≢ head g e → new.birth u ≡ st.birth u
  pub clock_next : new.clock ≡ suc st.clock

abbrev pub InUnion : State → (ℕ → Bool) → ℕ → ℕ → Type 0
InUnion st C b x = (st.base x ≡ b) ⊎ (C (st.base x) ≡ true)

abbrev pub reached_after : State → (ℕ → Bool) → ℕ → ℕ → Bool
reached_after st C b u = st.reached u || (C (st.base u) || eqb u (mate b))

pub record BudStep (st : State) (C : ℕ → Bool) (b : ℕ) (via : ℕ → ℕ) (new : State) : Type 0 where
  pub reached_in : (u : ℕ) → C (st.base u) ≡ true → new.reached u ≡ true
  pub reached_mate : new.reached (mate b) ≡ true
  pub reached_still : (u : ℕ) → st.reached u ≡ true → new.reached u ≡ true
  pub reached_back : (u : ℕ) → new.reached u ≡ true → (st.reached u ≡ true) ⊎ ((C (st.base u) ≡ true) ⊎ (u ≡ mate b))
  pub base_in : (u : ℕ) → C (st.base u) ≡ true → new.base u ≡ b
  pub base_out : (u : ℕ) → C (st.base u) ≡ false → new.base u ≡ st.base u
  pub via_is : (u : ℕ) → new.via u ≡ via u
  pub birth_old : (u : ℕ) → st.reached u ≡ true → new.birth u ≡ st.birth u
  pub birth_new : (u : ℕ) → st.reached u ≡ false → new.reached u ≡ true → new.birth u ≡ st.clock
  pub clock_next : new.clock ≡ suc st.clock

pub record Absorbable (g : Graph) (st : State) (C : ℕ → Bool) (b : ℕ) (via : ℕ → ℕ) : Type 0 where
  pub via_old : (u : ℕ) → st.reached u ≡ true → via u ≡ st.via u
  pub via_new : (u : ℕ) → (C (st.base u) ≡ true) ⊎ (u ≡ mate b) → st.reached u ≡ false → ReachedEnds g st (via u)
  pub base_is : IsBase st b
  pub out : C b ≡ false
  pub bases : (c : ℕ) → C c ≡ true → IsBase st c
  pub not_source : (c : ℕ) → C c ≡ true → c ≢ g.source
  pub births : (c : ℕ) → C c ≡ true → st.birth b ≤ st.birth c
  pub path : (u : ℕ) → C (st.base u) ≡ true → LabelledPath g (InUnion st C b) (reached_after st C b) via b u
  pub path_mate : (st.reached (mate b) ≡ true) ⊎ LabelledPath g (InUnion st C b) (reached_after st C b) via b (mate b)

abbrev pub Settled : Graph → State → (arc : ℕ) → Type 0
Settled g st i =
    ((st.base (tail g i) ≡ st.base (head g i)) × (st.reached (head g i) ≡ true)) ⊎
    ((i ≡ st.via (st.base (head g i))) ⊎ (mate i ≡ st.via (st.base (tail g i))))

pub record SettledArc (g : Graph) (st : State) (i : ℕ) : Type 0 where
  pub tail_reached : st.reached (tail g i) ≡ true
  pub mate_reached : st.reached (mate (head g i)) ≡ true
  pub settled : Settled g st i

pub data SettledKind (g : Graph) (st : State) (i : ℕ) : Type 0 where
  within : st.base (tail g i) ≡ st.base (head g i) → st.reached (head g i) ≡ true → st.reached (mate (tail g i)) ≡ true → SettledKind g st i
  enters : IsBase st (head g i) → i ≡ st.via (head g i) → SettledKind g st i
  leaves : IsBase st (mate (tail g i)) → mate i ≡ st.via (mate (tail g i)) → SettledKind g st i

abbrev pub Touched : Graph → State → (arc : ℕ) → Type 0
Touched g st i = (st.reached (head g i) ≡ true) ⊎ (st.reached (mate (head g i)) ≡ true)

pub record Closed (g : Graph) (st : State) : Type 0 where
  pub touched : (i : ℕ) → i < length g.arcs → st.reached (tail g i) ≡ true → Touched g st i
  pub settled : (i : ℕ) → i < length g.arcs → st.reached (tail g i) ≡ true → st.reached (mate (head g i)) ≡ true → Settled g st i
