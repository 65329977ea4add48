use Rattle.std.proofs.Common.{◌≤◌, ◌+◌, length}
use Rattle.tools_cli.proofs.describing.contents.Given as goal

abbrev pub invariant-loop-n : goal.invariant-loop-n
invariant-loop-n g l = (length l.contents.items + 1 ≤ l.n) × (l.n ≤ 257)
