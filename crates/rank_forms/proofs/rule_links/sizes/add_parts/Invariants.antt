use Rattle.std.proofs.Common.{◌≡◌, ◌++◌, drop}
use Rattle.rank_forms.specs.rule_links.inner.Rising.{part_ties}
use Rattle.rank_forms.proofs.rule_links.sizes.add_parts.Given as goal

abbrev pub invariant-loop-term : goal.invariant-loop-term
invariant-loop-term l = l.ties ++ part_ties l.u l.k l.row (drop l.term-index l.terms) ≡ l.initial.ties ++ part_ties l.u l.k l.row l.terms
