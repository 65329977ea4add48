use Rattle.abs_plans.proofs.calls.class_of.Goals as goal

pub returns-in-Some-Obj-clause-low : goal.returns-in-Some-Obj-clause-low
returns-in-Some-Obj-clause-low g c = (rw c.in-Some-Obj.field-0-is at c.in-Some-Obj.ensures.sound).0
