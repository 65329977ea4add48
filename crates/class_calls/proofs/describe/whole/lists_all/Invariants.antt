use Rattle.class_world.specs.Worlds.{classes_of}
use Rattle.class_calls.specs.describe.inner.Rows.{AreListedBelow}
use Rattle.class_calls.proofs.describe.whole.lists_all.Given as goal

abbrev pub invariant-loop-j : goal.invariant-loop-j
invariant-loop-j l = AreListedBelow (classes_of l.world) l.listed l.slots l.pairs l.j
