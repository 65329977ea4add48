use Rattle.class_world.specs.Worlds.{classes_of}
use Rattle.class_calls.specs.describe.inner.Rows.{AreListedTo}
use Rattle.class_calls.proofs.describe.whole.row.Given as goal

abbrev pub invariant-loop-i : goal.invariant-loop-i
invariant-loop-i l = AreListedTo (classes_of l.world) l.listed l.slots l.pairs l.j l.i
