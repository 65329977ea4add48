use Rattle.std.proofs.Common.{◌≤◌, ◌+◌, length}
use Rattle.tools_cli.proofs.certifying.class_files.Given as goal

abbrev pub invariant-loop-n : goal.invariant-loop-n
invariant-loop-n g l = (length l.contents.items + l.first ≤ l.n) × (l.n ≤ 256 + l.first)
