use Rattle.std.proofs.Common.{◌+◌, cond}
use Rattle.rank_forms.specs.rule_links.inner.Searching.{unknown}
use Rattle.rank_forms.proofs.Reached.{IsRelaxing}
use Rattle.rank_forms.proofs.rule_links.reaching.reach.Given as goal

abbrev pub invariant-loop-any : goal.invariant-loop-any
invariant-loop-any l = IsRelaxing l.ties l.first l.any l.known.items

abbrev pub decreases-loop-any : goal.decreases-loop-any
decreases-loop-any l = unknown l.known.items + cond l.any 1 0
