use Rattle.std.proofs.Common.{◌≡◌, drop}
use Rattle.std.specs.List.{list_any}
use Rattle.descent.specs.declared.rules.Place.{Place}
use Rattle.rank_forms.specs.rule_links.Positions.{is_place}
use Rattle.rank_forms.proofs.rule_links.positions.is_among.Given as goal

abbrev pub invariant-loop-other : goal.invariant-loop-other
invariant-loop-other l = list_any (λ (other : Place). is_place other l.place) (drop l.other-index l.places) ≡ list_any
    (λ (other : Place). is_place other l.place) l.places
