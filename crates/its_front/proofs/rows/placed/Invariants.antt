use Rattle.std.proofs.Common.{◌≡◌, drop}
use Rattle.its_front.specs.Terms.{placed}
use Rattle.its_front.proofs.rows.placed.Given as goal

abbrev pub invariant-loop-term : goal.invariant-loop-term
invariant-loop-term l = placed l.table.items (drop l.term-index l.terms) ≡ placed l.initial.table.items l.terms
