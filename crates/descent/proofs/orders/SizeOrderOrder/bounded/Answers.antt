use Rattle.descent.proofs.orders.SizeOrderOrder.bounded.Goals as goal

pub returns-clause-fault : goal.returns-clause-fault
returns-clause-fault c = rw c.new.ensures at c.starts.ensures.fault
