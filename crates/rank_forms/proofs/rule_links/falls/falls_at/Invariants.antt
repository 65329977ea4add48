use Rattle.std.proofs.Common.{None}
use Rattle.rank_forms.specs.rule_links.inner.Rising.{TellsWays}
use Rattle.rank_forms.proofs.Told.{AreTold}
use Rattle.rank_forms.proofs.rule_links.falls.falls_at.Given as goal

abbrev pub invariant-loop-place : goal.invariant-loop-place
invariant-loop-place l = AreTold (TellsWays l.size l.ties l.rule) l.places None l.falls l.place-index
