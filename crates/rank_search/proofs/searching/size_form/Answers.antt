use Rattle.std.proofs.Common.{List, true, subst, sym}
use Rattle.descent.specs.declared.rules.Place.{Place}
use Rattle.rank_forms.specs.rule_links.Falls.{ArePlacesOf, TellsSize}
use Rattle.rank_search.proofs.Lowered.{table_at}
use Rattle.rank_search.proofs.searching.size_form.Goals as goal

pub size_in-requires-clause-places : goal.size_in-requires-clause-places
size_in-requires-clause-places c = subst (λ (l : List Place). ArePlacesOf c.args.rules.now true l) (sym c.as_slice-2.ensures)
    c.in_ok-places.ensures.all

pub size_in-requires-clause-table : goal.size_in-requires-clause-table
size_in-requires-clause-table c = table_at TellsSize c.args.rules.now _ _ _ _ _ c.as_slice.ensures c.as_slice-2.ensures
    c.as_slice-3.ensures c.in_ok-table.ensures
