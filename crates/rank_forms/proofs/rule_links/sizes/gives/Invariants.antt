use Rattle.std.proofs.Common.{◌≡◌, drop}
use Rattle.rank_forms.specs.rule_links.inner.Rising.{gives}
use Rattle.rank_forms.proofs.rule_links.sizes.gives.Given as goal

abbrev pub invariant-loop-term : goal.invariant-loop-term
invariant-loop-term l = gives l.rows l.u (drop l.term-index l.terms) ≡ gives l.rows l.u l.terms
