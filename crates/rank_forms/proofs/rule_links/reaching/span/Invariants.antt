use Rattle.std.proofs.Common.{◌≡◌, ℕ, suc, ◌<◌, ◌≤◌, drop, get_or}
use Rattle.rank_forms.specs.declared.rule_links.links.Tie.{Tie}
use Rattle.rank_forms.specs.rule_links.Ties.{span_from}
use Rattle.rank_forms.proofs.rule_links.reaching.span.Given as goal

abbrev pub invariant-loop-tie : goal.invariant-loop-tie
invariant-loop-tie l = record {
  value : span_from l.span (drop l.tie-index l.ties) ≡ span_from (suc l.first) l.ties;
  first : l.first < l.span;
  ties : (k : ℕ) (d : Tie) → k < l.tie-index → (get_or l.ties k d).link.to < l.span;
  low : l.span ≤ 4294967296;
}
