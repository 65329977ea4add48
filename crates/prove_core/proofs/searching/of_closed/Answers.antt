use Rattle.std.proofs.Common.{sym, subst}
use Rattle.class_program.specs.Views.{program_of}
use Rattle.code_verify.specs.Typings.{typing_at}
use Rattle.abs_cells.specs.AbstractStates.{AbstractState}
use Rattle.prove_core.specs.Answers.{SearchesOr}
use Rattle.prove_core.specs.Reasons.{aim_of}
use Rattle.prove_core.specs.inner.Words.{IsGrownGraph}
use Rattle.prove_core.proofs.searching.of_closed.Goals as goal

pub of_graph-requires-clause-grown : goal.of_graph-requires-clause-grown
of_graph-requires-clause-grown g c =
    let p = program_of c.args.program.now in
    let typing = typing_at c.args.typing.now in
    subst (λ (root : AbstractState). IsGrownGraph (aim_of p typing root) c.args.graph) (sym c.in_ok-root.ensures.is) c.requires.grown

pub returns : goal.returns
returns g c =
    let p = program_of c.args.program.now in
    let typing = typing_at c.args.typing.now in
    λ limit few. subst (λ (root : AbstractState). SearchesOr (aim_of p typing root) c.args.names.now limit c.of_graph.result)
    c.in_ok-root.ensures.is (c.of_graph.ensures limit few)
