use Rattle.std.proofs.Common.{ℕ, List, IsTrue, sym, subst}
use Rattle.std.specs.List.{list_all}
use Rattle.class_base.specs.ClassNames.{is_class_name}
use Rattle.class_program.specs.Views.{program_of}
use Rattle.code_verify.specs.Typings.{typing_at}
use Rattle.prove_call.proofs.Saying.{found_says, found_ends}
use Rattle.prove_call.proofs.call.prove_given.Goals as goal

pub search-requires-clause-names : goal.search-requires-clause-names
search-requires-clause-names c = subst (λ (ns : List (List ℕ)). IsTrue (list_all is_class_name ns)) (sym c.in_ok-names.ensures)
    c.requires.names

pub search-requires-clause-own_names : goal.search-requires-clause-own_names
search-requires-clause-own_names c = c.in_ok-names.ensures

pub returns-in-Ok-clause-says : goal.returns-in-Ok-clause-says
returns-in-Ok-clause-says c =
    let p = program_of c.args.given.now.program in
    found_says c.args.nodes p (typing_at c.args.given.now.typing) c.args.given.now.desc c.in_ok-names.names c.in_ok-names.ensures
    c.in-Ok.found c.told.result c.in-Ok.ensures c.told.ensures

pub returns-in-Ok-clause-ends : goal.returns-in-Ok-clause-ends
returns-in-Ok-clause-ends c = λ proved.
    let p = program_of c.args.given.now.program in
    let ready = c.requires.ready in
    found_ends c.args.nodes p (typing_at c.args.given.now.typing) c.args.given.now.desc c.in_ok-names.names c.in-Ok.found
    c.told.result c.certified_runs_end.ensures c.is_good.ensures.closed c.is_good.ensures.widths ready.typing ready.own
    c.in-Ok.ensures c.told.ensures proved
