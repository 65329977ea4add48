use Rattle.std.proofs.Common.{ℕ, List, sym, subst}
use Rattle.std.specs.Prelude.{IsTrue}
use Rattle.std.specs.List.{list_all}
use Rattle.class_base.specs.ClassNames.{is_class_name}
use Rattle.check_call.proofs.filled.fill_bytes.Goals as goal

pub fill_content-requires-clause-are_names : goal.fill_content-requires-clause-are_names
fill_content-requires-clause-are_names c = subst (λ (ns : List (List ℕ)). IsTrue (list_all is_class_name ns))
    (sym c.in_ok-names.ensures) c.requires.names
