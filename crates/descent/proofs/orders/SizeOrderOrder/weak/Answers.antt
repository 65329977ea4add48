use Rattle.descent.proofs.orders.SizeOrderOrder.weak.Goals as goal

pub returns-clause-fault : goal.returns-clause-fault
returns-clause-fault c = rw c.new.ensures at c.falls.ensures.fault
