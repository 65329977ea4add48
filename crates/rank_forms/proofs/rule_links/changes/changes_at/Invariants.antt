use Rattle.std.proofs.Common.{None}
use Rattle.rank_forms.specs.rule_links.Ties.{TellsChange}
use Rattle.rank_forms.proofs.Told.{AreTold}
use Rattle.rank_forms.proofs.rule_links.changes.changes_at.Given as goal

abbrev pub invariant-loop-place : goal.invariant-loop-place
invariant-loop-place l = AreTold (TellsChange l.rule) l.places None l.changes l.place-index
