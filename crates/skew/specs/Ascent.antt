-- How a bud is found. An arc e leads from v₀ to the mate of z₀, both reached. Two ends v and z start there; the one with the later base is moved to
-- the tail of its base arc, that base's fragment is absorbed, and so on until both ends stand in one fragment. C is the set of absorbed bases, via
-- the labels with those of newly reached mates of bases.
--   Bridge g st e v₀ z₀                      such an arc
--   Unsettled g st e v z                     it is not settled
--   PathInto g S v u                         from v over an arc into the set S, and inside S to u
--   PathThrough g S v z                      from v through the set S to the mate of z
--   InAbsorbed st C x                        x lies in an absorbed fragment
--   Labels st C via                          later labels that agree with via at nodes reached or absorbed
--   Extends g st C via v u l                 with such labels a segment to v goes on to u by the arcs l
--   ReachesInto g st C via v u               a path into the absorbed fragments that such labels give
--   Ends g st C via v₀ z₀ v z dv dz          the two ends, and the arcs dv, dz from them down to v₀, z₀
--   NoneAbsorbed, SomeAbsorbed               before and after the first absorption
--   Ascent g st C via e v₀ z₀ v z            either of the two
--   AddsBase st C via c e C' via'            c is absorbed too, its mate labelled with e where it is new
--   AscentEnds st C via v z                  what is read off the two ends
use Rattle.std.specs.Prelude.{◌≡◌, ◌⊎◌, ◌≢◌, Bool, true, false, List, [], ◌∷◌, ◌++◌, ℕ, ◌≤◌, ◌<◌, length}
use Rattle.counting.specs.Lists.{reverse_map}
use Rattle.skew.specs.Graph.{Graph, mate}
use Rattle.skew.specs.Paths.{tail, head, RegularPath}
use Rattle.skew.specs.Segments.{Seg}
use Rattle.skew.specs.Search.{State, IsBase, ReachedEnds}

pub record Bridge (g : Graph) (st : State) (e v₀ z₀ : ℕ) : Type 0 where
  pub is_arc : e < length g.arcs
  pub tail_is : tail g e ≡ v₀
  pub head_is : head g e ≡ mate z₀
  pub reached_v₀ : st.reached v₀ ≡ true
  pub reached_z₀ : st.reached z₀ ≡ true

-- between two fragments it is the base arc of neither way; within one fragment that one is plain
pub record Unsettled (g : Graph) (st : State) (e v z : ℕ) : Type 0 where
  pub not_base_arcs : st.base v ≢ st.base z → (e ≢ st.via (st.base z)) × (mate e ≢ st.via (st.base v))
  pub mate_new : st.base v ≡ st.base z → st.reached (mate (st.base v)) ≡ false

pub record PathInto (g : Graph) (S : ℕ → Type 0) (v u : ℕ) : Type 0 where
  pub entry : ℕ
  pub inside : List ℕ
  pub is_arc : entry < length g.arcs
  pub tail_is : tail g entry ≡ v
  pub path : RegularPath g S (head g entry) u inside

pub record PathThrough (g : Graph) (S : ℕ → Type 0) (v z : ℕ) : Type 0 where
  pub last : ℕ
  pub into : PathInto g S v last
  pub exit : ℕ
  pub exit_is_arc : exit < length g.arcs
  pub exit_tail : tail g exit ≡ last
  pub exit_head : head g exit ≡ mate z
  pub not_mates : into.entry ≢ mate exit

abbrev pub InAbsorbed : State → (ℕ → Bool) → ℕ → Type 0
InAbsorbed st C x = C (st.base x) ≡ true

pub record Labels (st : State) (C : ℕ → Bool) (via : ℕ → ℕ) : Type 0 where
  pub reached' : ℕ → Bool
  pub via' : ℕ → ℕ
  pub keeps : (u : ℕ) → (st.reached u ≡ true) ⊎ InAbsorbed st C u → (reached' u ≡ true) × (via' u ≡ via u)

abbrev pub Extends : Graph → State → (ℕ → Bool) → (ℕ → ℕ) → (v u : ℕ) → List ℕ → Type 0
Extends g st C via v u l =
    (N : Labels st C via) (a : ℕ) (p : List ℕ) → C (st.base a) ≡ false → Seg g N.reached' N.via' a v p →
    Seg g N.reached' N.via' a u (p ++ l)

abbrev pub ReachesInto : Graph → State → (ℕ → Bool) → (ℕ → ℕ) → (v u : ℕ) → Type 0
ReachesInto g st C via v u = (H : PathInto g (InAbsorbed st C) v u) × Extends g st C via v u (H.entry ∷ H.inside)

pub record Ends (g : Graph) (st : State) (C : ℕ → Bool) (via : ℕ → ℕ) (v₀ z₀ v z : ℕ) (dv dz : List ℕ) : Type 0 where
  -- absorbed are bases, not the source, no earlier than the ends' bases
  pub bases : (c : ℕ) → C c ≡ true → IsBase st c
  pub not_source : (c : ℕ) → C c ≡ true → c ≢ g.source
  pub birth_v : (c : ℕ) → C c ≡ true → st.birth (st.base v) ≤ st.birth c
  pub birth_z : (c : ℕ) → C c ≡ true → st.birth (st.base z) ≤ st.birth c
  -- the ends are reached and not absorbed
  pub out_v : C (st.base v) ≡ false
  pub out_z : C (st.base z) ≡ false
  pub reached_v : st.reached v ≡ true
  pub reached_z : st.reached z ≡ true
  -- labels of reached nodes are as they were, new ones rest on reached nodes
  pub via_old : (u : ℕ) → st.reached u ≡ true → via u ≡ st.via u
  pub via_new : (u : ℕ) → C (st.base u) ≡ true → st.reached u ≡ false → ReachedEnds g st (via u)
  -- labels lead from the ends down to the bridge
  pub seg_v : Extends g st C via v v₀ dv
  pub seg_z : Extends g st C via z z₀ dz

pub record NoneAbsorbed (g : Graph) (st : State) (C : ℕ → Bool) (via : ℕ → ℕ) (e v₀ z₀ v z : ℕ) : Type 0 where
  pub v_is : v ≡ v₀
  pub z_is : z ≡ z₀
  pub none : (c : ℕ) → C c ≡ true → ⊥
  pub via_old : (u : ℕ) → st.reached u ≡ true → via u ≡ st.via u
  pub unsettled : Unsettled g st e v z

pub record SomeAbsorbed (g : Graph) (st : State) (C : ℕ → Bool) (via : ℕ → ℕ) (e v₀ z₀ v z : ℕ) : Type 0 where
  pub dv : List ℕ
  pub dz : List ℕ
  pub ends : Ends g st C via v₀ z₀ v z dv dz
  pub some : (c : ℕ) × (C c ≡ true)
  -- the arcs from v down, over the bridge and up to z's mate are a path through the absorbed fragments
  pub through : PathThrough g (InAbsorbed st C) v z
  pub arcs : through.into.entry ∷ (through.into.inside ++ through.exit ∷ []) ≡ dv ++ e ∷ reverse_map mate dz
  -- each absorbed node is reached from one of the ends
  pub from_ends : (u : ℕ) → InAbsorbed st C u → ReachesInto g st C via v u ⊎ ReachesInto g st C via z u

abbrev pub Ascent : (g : Graph) (st : State) (C : ℕ → Bool) (via : ℕ → ℕ) (e v₀ z₀ v z : ℕ) → Type 0
Ascent g st C via e v₀ z₀ v z = NoneAbsorbed g st C via e v₀ z₀ v z ⊎ SomeAbsorbed g st C via e v₀ z₀ v z

pub record AddsBase (st : State) (C : ℕ → Bool) (via : ℕ → ℕ) (c e : ℕ) (C' : ℕ → Bool) (via' : ℕ → ℕ) : Type 0 where
  pub here : C' c ≡ true
  pub old : (k : ℕ) → C k ≡ true → C' k ≡ true
  pub back : (k : ℕ) → C' k ≡ true → (k ≡ c) ⊎ (C k ≡ true)
  pub via_new : st.reached (mate c) ≡ false → via' (mate c) ≡ e
  pub via_old : (u : ℕ) → (st.reached u ≡ true) ⊎ InAbsorbed st C u → via' u ≡ via u

pub record AscentEnds (st : State) (C : ℕ → Bool) (via : ℕ → ℕ) (v z : ℕ) : Type 0 where
  pub reached_v : st.reached v ≡ true
  pub reached_z : st.reached z ≡ true
  pub out_v : C (st.base v) ≡ false
  pub out_z : C (st.base z) ≡ false
  pub via_old : (u : ℕ) → st.reached u ≡ true → via u ≡ st.via u
