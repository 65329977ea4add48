use Rattle.std.proofs.Common.{◌≡◌, drop}
use Rattle.its_front.specs.Terms.{numbered}
use Rattle.its_front.proofs.Gathered.{behind}
use Rattle.its_front.proofs.rows.numbered.Given as goal

abbrev pub invariant-loop-term : goal.invariant-loop-term
invariant-loop-term l = behind l.found (numbered l.vars (drop l.term-index l.terms)) ≡ numbered l.vars l.terms
