use Rattle.abs_heap.proofs.writes.store_ref.Goals as goal

pub returns-clause-child : goal.returns-clause-child
returns-clause-child g c = c.write_child.ensures.child
