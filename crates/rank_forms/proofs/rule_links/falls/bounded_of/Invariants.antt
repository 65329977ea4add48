use Rattle.std.proofs.Common.{None, true}
use Rattle.rank_forms.specs.rule_links.Falls.{TellsSteps}
use Rattle.rank_forms.proofs.Told.{AreTold}
use Rattle.rank_forms.proofs.rule_links.falls.bounded_of.Given as goal

abbrev pub invariant-loop-n : goal.invariant-loop-n
invariant-loop-n l = AreTold (TellsSteps true l.negative l.rule) l.places None l.bounded l.n
