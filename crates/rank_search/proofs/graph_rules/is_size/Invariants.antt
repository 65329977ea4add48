use Rattle.std.proofs.Common.{◌≡◌, drop}
use Rattle.rank_search.specs.inner.Heads.{is_size}
use Rattle.rank_search.proofs.graph_rules.is_size.Given as goal

abbrev pub invariant-loop-row : goal.invariant-loop-row
invariant-loop-row l = is_size (drop l.row-index l.rows) l.variable ≡ is_size l.rows l.variable
