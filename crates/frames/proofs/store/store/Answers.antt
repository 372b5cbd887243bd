use Rattle.frames.proofs.store.store.Goals as goal

pub returns-clause-stored : goal.returns-clause-stored
returns-clause-stored g c = rw c.from.ensures at c.store_by.ensures.stored
