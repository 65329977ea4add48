use Rattle.descent.proofs.Classes.{IsTabled}
use Rattle.descent.proofs.reaching.rows.Given as goal

abbrev pub invariant-loop-rule : goal.invariant-loop-rule
invariant-loop-rule l = IsTabled l.rules l.table l.rule
