use Rattle.std.proofs.Common.{◌≡◌, drop}
use Rattle.std.specs.Prelude.{◌||◌}
use Rattle.rank_forms.specs.rule_links.Ties.{any_moves, relaxed}
use Rattle.rank_forms.proofs.rule_links.reaching.pass.Given as goal

abbrev pub invariant-loop-tie : goal.invariant-loop-tie
invariant-loop-tie l = record {
  any : (l.any || any_moves (drop l.tie-index l.ties) l.known.items) ≡ any_moves l.ties
      l.initial.known.items;
  known : relaxed (drop l.tie-index l.ties) l.known.items ≡ relaxed l.ties l.initial.known.items;
}
