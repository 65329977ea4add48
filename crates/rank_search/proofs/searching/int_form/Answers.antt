use Rattle.std.proofs.Common.{List, false, subst, sym}
use Rattle.descent.specs.declared.rules.Place.{Place}
use Rattle.rank_forms.specs.rule_links.Falls.{ArePlacesOf}
use Rattle.rank_forms.specs.rule_links.Ties.{TellsChange}
use Rattle.rank_search.proofs.Lowered.{table_at}
use Rattle.rank_search.proofs.searching.int_form.Goals as goal

pub ints_in-requires-clause-places : goal.ints_in-requires-clause-places
ints_in-requires-clause-places c = subst (λ (l : List Place). ArePlacesOf c.args.rules.now false l) (sym c.as_slice-2.ensures)
    c.in_ok-places.ensures.all

pub ints_in-requires-clause-table : goal.ints_in-requires-clause-table
ints_in-requires-clause-table c = table_at TellsChange c.args.rules.now _ _ _ _ _ c.as_slice.ensures c.as_slice-2.ensures
    c.as_slice-3.ensures c.in_ok-table.ensures
