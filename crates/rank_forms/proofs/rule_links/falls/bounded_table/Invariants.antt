use Rattle.std.proofs.Common.{[], true}
use Rattle.rank_forms.specs.rule_links.Falls.{TellAll, TellsSteps}
use Rattle.rank_forms.proofs.Told.{AreTold}
use Rattle.rank_forms.proofs.rule_links.falls.bounded_table.Given as goal

abbrev pub invariant-loop-n : goal.invariant-loop-n
invariant-loop-n l = AreTold (λ rule. TellAll (TellsSteps true l.negative rule) l.places) l.rules [] l.bounded l.n
