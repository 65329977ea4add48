use Rattle.std.proofs.Common.{◌≡◌, ◌++◌, drop}
use Rattle.throw_report.specs.inner.Words.{below}
use Rattle.throw_report.proofs.rising.push_below.Given as goal

abbrev pub invariant-loop-n : goal.invariant-loop-n
invariant-loop-n l = l.more ++ below l.number (drop l.n-index l.list) ≡ l.initial.more ++ below l.number l.list
