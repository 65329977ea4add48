use Rattle.std.proofs.Common.{◌≡◌, replicate, None}
use Rattle.its_front.proofs.rows.free_table.Given as goal

abbrev pub invariant-loop-n : goal.invariant-loop-n
invariant-loop-n l = l.table.items ≡ replicate l._n None
