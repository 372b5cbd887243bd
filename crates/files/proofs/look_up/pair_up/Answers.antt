use Rattle.std.proofs.Common.{rules, ⊎_elim, inl, inr}
use Rattle.counting.proofs.SliceVecs.{extending_next}
use Rattle.files.proofs.Tables.{store_room, store_end, zip_next, zip_none}
use Rattle.files.proofs.look_up.pair_up.Goals as goal

pub push-requires : goal.push-requires
push-requires c = let s = c.in-Some.ensures.steps in store_room c.new-paired.ensures c.loop-first.invariant (zip_next s.0 s.1) c.requires

pub loop-first-preserved : goal.loop-first-preserved
loop-first-preserved c = let s = c.in-Some.ensures.steps in extending_next c.loop-first.invariant _ (zip_next s.0 s.1) c.push.ensures

pub returns : goal.returns
returns c =
    let none = ⊎_elim (λ r. inl r.1.0) (λ r. inr r.1.0) c.in-None.ensures.steps in
    store_end c.new-paired.ensures c.loop-first.invariant (zip_none _ _ none) (search rules)
