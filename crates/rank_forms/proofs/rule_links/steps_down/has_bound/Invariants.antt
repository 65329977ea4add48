use Rattle.std.proofs.Common.{◌≡◌, drop}
use Rattle.rank_forms.specs.rule_links.Falls.{has_bound}
use Rattle.rank_forms.proofs.rule_links.steps_down.has_bound.Given as goal

abbrev pub invariant-loop-row : goal.invariant-loop-row
invariant-loop-row l = has_bound l.negative l.start (drop l.row-index l.rows) ≡ has_bound l.negative l.start l.rows
