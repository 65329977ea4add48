use Rattle.std.proofs.Common.{[]}
use Rattle.rank_forms.specs.rule_links.Falls.{TellAll}
use Rattle.rank_forms.specs.rule_links.Ties.{TellsChange}
use Rattle.rank_forms.proofs.Told.{AreTold}
use Rattle.rank_forms.proofs.rule_links.falls.change_table.Given as goal

abbrev pub invariant-loop-rule : goal.invariant-loop-rule
invariant-loop-rule l = AreTold (λ rule. TellAll (TellsChange rule) l.places) l.rules [] l.table l.rule-index
