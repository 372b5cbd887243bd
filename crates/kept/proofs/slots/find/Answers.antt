-- `kept::slots::find` meets its contract: the slots are looked at from the last one down.
use Rattle.std.proofs.Common.{rules, tests}
use Rattle.std.proofs.lemmas.Iterator.{YieldsList-from_map_by}
use Rattle.std.proofs.lemmas.Iterator.Consumers.{YieldsList-at}
use Rattle.std.proofs.lemmas.Iterator.Search.{find_from_yields_List}
use Rattle.std.proofs.lemmas.List.{map-id}
use Rattle.kept.specs.declared.slot.Slot.{Slot}
use Rattle.kept.proofs.Names.{has_name, slots_downward, found_last}
use Rattle.kept.proofs.slots.find.Goals as goal

pub returns : goal.returns
returns c =
    let numbers = rw c.kept_in.ensures at (slots_downward c.rev.result c.rev.ensures.source) in
    found_last c.args.state.now c.args.name _
    (rw map-id at (find_from_yields_List (has_name c.args.state.now c.args.name) _ _ _ c.find.ensures.ran
    (YieldsList-from_map_by _ (λ (s : Slot). s.number) (λ x. x) (YieldsList-at c.map.ensures.source numbers) c.map.ensures.closure (λ x r q k. search rules))
    (λ x b q k. search (rules, tests))))
