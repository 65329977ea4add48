use Rattle.std.proofs.Common.{◌≡◌, ◌++◌, drop}
use Rattle.prove_core.specs.inner.Words.{cuts_from}
use Rattle.prove_core.proofs.cutting.numbers_of.Given as goal

abbrev pub invariant-loop-n : goal.invariant-loop-n
invariant-loop-n l = l.cuts ++ cuts_from l.n (drop l.n l.marks) ≡ cuts_from 0 l.marks
