use Rattle.std.proofs.Common.{◌≡◌, ◌++◌, drop}
use Rattle.rank_forms.specs.rule_links.inner.Rising.{given_ties}
use Rattle.rank_forms.proofs.rule_links.sizes.add_all_given.Given as goal

abbrev pub invariant-loop-term : goal.invariant-loop-term
invariant-loop-term l = l.ties ++ given_ties l.rows l.k l.row l.terms (drop l.term-index l.terms) ≡ l.initial.ties ++ given_ties
    l.rows l.k l.row l.terms l.terms
