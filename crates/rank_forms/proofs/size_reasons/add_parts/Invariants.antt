use Rattle.std.proofs.Common.{◌≡◌, ◌++◌, drop}
use Rattle.rank_forms.specs.Reasons.{part_entries}
use Rattle.rank_forms.proofs.size_reasons.add_parts.Given as goal

abbrev pub invariant-loop-term : goal.invariant-loop-term
invariant-loop-term l = l.entries ++ part_entries l.rows l.link (drop l.term-index l.terms) ≡ l.initial.entries ++ part_entries
    l.rows l.link l.terms
