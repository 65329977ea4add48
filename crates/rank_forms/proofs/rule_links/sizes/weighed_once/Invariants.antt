use Rattle.std.proofs.Common.{◌≡◌, ◌+ℤ◌, drop}
use Rattle.rank_forms.specs.rule_links.SizeLinks.{weighed_once}
use Rattle.rank_forms.proofs.rule_links.sizes.weighed_once.Given as goal

abbrev pub invariant-loop-weight : goal.invariant-loop-weight
invariant-loop-weight l = l.weighed +ℤ weighed_once (drop l.weight-index l.weights) ≡ weighed_once l.weights
