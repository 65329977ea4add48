use Rattle.prove_core.proofs.Targets.{AreMarked}
use Rattle.prove_core.proofs.cutting.marks_of.Given as goal

abbrev pub invariant-loop-n : goal.invariant-loop-n
invariant-loop-n g l = AreMarked l.graph l.n l.marks.items
