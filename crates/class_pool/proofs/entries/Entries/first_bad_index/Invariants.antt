use Rattle.class_pool.proofs.Names.{NoneBelow}
use Rattle.class_pool.proofs.entries.Entries.first_bad_index.Given as goal

abbrev pub invariant-loop-i : goal.invariant-loop-i
invariant-loop-i l = NoneBelow l.self l.i
