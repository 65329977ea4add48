use Rattle.std.proofs.Common.{◌≡◌, drop}
use Rattle.rank_search.specs.inner.Heads.{has_size}
use Rattle.rank_search.proofs.graph_rules.has_size.Given as goal

abbrev pub invariant-loop-term : goal.invariant-loop-term
invariant-loop-term l = has_size l.rows (drop l.term-index l.terms) ≡ has_size l.rows l.terms
