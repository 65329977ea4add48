use Rattle.std.proofs.Common.{◌≡◌, ◌++◌, ◌-◌, length}
use Rattle.rank_forms.specs.rule_links.Ties.{trail_from}
use Rattle.rank_forms.proofs.rule_links.trails.trail.Given as goal

abbrev pub invariant-loop-n : goal.invariant-loop-n
invariant-loop-n l = l.ties ++ trail_from (length l.known - l._n) l.known l.at ≡ trail_from (length l.known) l.known l.finish
