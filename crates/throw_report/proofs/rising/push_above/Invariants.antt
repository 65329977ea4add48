use Rattle.std.proofs.Common.{◌≡◌, ◌++◌, drop}
use Rattle.throw_report.specs.inner.Words.{above}
use Rattle.throw_report.proofs.rising.push_above.Given as goal

abbrev pub invariant-loop-n : goal.invariant-loop-n
invariant-loop-n l = l.more ++ above l.number (drop l.n-index l.list) ≡ l.initial.more ++ above l.number l.list
