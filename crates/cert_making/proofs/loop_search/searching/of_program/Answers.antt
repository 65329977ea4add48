use Rattle.std.proofs.Common.{ℕ, List, IsTrue, sym, subst}
use Rattle.std.specs.List.{list_all}
use Rattle.class_base.specs.ClassNames.{is_class_name}
use Rattle.cert_making.proofs.loop_search.searching.of_program.Goals as goal

pub search-requires-clause-names : goal.search-requires-clause-names
search-requires-clause-names c = subst (λ (ns : List (List ℕ)). IsTrue (list_all is_class_name ns)) (sym c.in_ok-names.ensures)
    c.requires.names

pub search-requires-clause-own_names : goal.search-requires-clause-own_names
search-requires-clause-own_names c = c.in_ok-names.ensures
