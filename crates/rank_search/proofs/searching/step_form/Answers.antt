use Rattle.std.proofs.Common.{List, false, true, subst, sym}
use Rattle.descent.specs.declared.rules.Place.{Place}
use Rattle.rank_forms.specs.rule_links.Falls.{ArePlacesOf, TellsSteps}
use Rattle.rank_search.proofs.Lowered.{table_at}
use Rattle.rank_search.proofs.searching.step_form.Goals as goal

pub steps_in-requires-clause-places : goal.steps_in-requires-clause-places
steps_in-requires-clause-places c = subst (λ (l : List Place). ArePlacesOf c.args.rules.now false l) (sym c.as_slice-4.ensures)
    c.in_ok-places.ensures.all

pub bounded_table-requires : goal.bounded_table-requires
bounded_table-requires c = table_at (TellsSteps false c.args.negative) c.args.rules.now _ _ _ _ _ c.as_slice.ensures
    c.as_slice-2.ensures c.as_slice-3.ensures c.in_ok-weak.ensures

pub steps_in-requires-clause-weak : goal.steps_in-requires-clause-weak
steps_in-requires-clause-weak c = table_at (TellsSteps false c.args.negative) c.args.rules.now _ _ _ _ _ c.as_slice.ensures
    c.as_slice-4.ensures c.as_slice-5.ensures c.in_ok-weak.ensures

pub steps_in-requires-clause-strict : goal.steps_in-requires-clause-strict
steps_in-requires-clause-strict c = table_at (TellsSteps true c.args.negative) c.args.rules.now _ _ _ _ _ c.as_slice-2.ensures
    c.as_slice-4.ensures c.as_slice-6.ensures c.in_ok-strict.ensures
