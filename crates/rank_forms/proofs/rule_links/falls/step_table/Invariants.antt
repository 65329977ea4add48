use Rattle.std.proofs.Common.{[], false}
use Rattle.rank_forms.specs.rule_links.Falls.{TellAll, TellsSteps}
use Rattle.rank_forms.proofs.Told.{AreTold}
use Rattle.rank_forms.proofs.rule_links.falls.step_table.Given as goal

abbrev pub invariant-loop-rule : goal.invariant-loop-rule
invariant-loop-rule l = AreTold (λ rule. TellAll (TellsSteps false l.negative rule) l.places) l.rules [] l.table l.rule-index
