use Rattle.std.proofs.Common.{◌≡◌, ◌∙◌, sym, ap}
use Rattle.descent.proofs.Classes.{if_ok_then}
use Rattle.rank_forms.specs.rule_links.Falls.{ArePlacesOf, places_at_start, places_in}
use Rattle.rank_forms.proofs.Placed.{first_places, starts_there}
use Rattle.rank_forms.proofs.rule_links.places.first_places.Goals as goal

pub returns-in-Some-clause-all : goal.returns-in-Some-clause-all
returns-in-Some-clause-all c = if_ok_then _ _ c.places_in.result _ (λ places. ArePlacesOf c.args.rules.now c.args.size places)
    c.places_in.ensures (λ places e. first_places c.args.rules.now c.args.size c.in-Some.rule.now places c.in-Some.ensures
    (e ∙ ap (places_in c.args.size) c.as_slice.ensures))

pub returns-in-Some-clause-is : goal.returns-in-Some-clause-is
returns-in-Some-clause-is c = if_ok_then _ _ c.places_in.result _ (λ places. places ≡ places_at_start c.args.size c.args.rules.now)
    c.places_in.ensures (λ places e. e ∙ ap (places_in c.args.size) c.as_slice.ensures
    ∙ sym (starts_there c.args.size c.args.rules.now c.in-Some.rule.now c.in-Some.ensures))
