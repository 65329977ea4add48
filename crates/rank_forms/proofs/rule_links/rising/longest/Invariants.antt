use Rattle.rank_forms.proofs.Raised.{IsRaising}
use Rattle.rank_forms.proofs.rule_links.rising.longest.Given as goal

abbrev pub invariant-loop-tie : goal.invariant-loop-tie
invariant-loop-tie l = IsRaising l.ties l.first l.tie-index l.known.items
