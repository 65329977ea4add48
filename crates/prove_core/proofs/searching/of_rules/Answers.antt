use Rattle.std.proofs.Common.{subst}
use Rattle.class_program.specs.Views.{program_of}
use Rattle.code_verify.specs.Typings.{typing_at}
use Rattle.chain_proofs.specs.declared.proving.Proved.{Proved}
use Rattle.chain_proofs.specs.Answers.{IsClosed, IsLean, ProvesOr}
use Rattle.prove_core.proofs.Readying.{proved}
use Rattle.prove_core.proofs.searching.of_rules.Goals as goal

pub given-requires-clause-proved : goal.given-requires-clause-proved
given-requires-clause-proved g c =
    let rules = c.args.rules.now in
    proved (program_of c.args.program.now) (typing_at c.args.typing.now) c.args.root.now c.args.graph c.args.links.now.nodes c.args.cuts
    rules c.in-Whole.proof.steps c.requires.whole c.requires.paths
    (subst (λ (one : Proved). ProvesOr rules one) c.in-Whole.is c.in_ok-proof.ensures.found)
    (subst (λ (one : Proved). IsClosed rules one) c.in-Whole.is c.in_ok-proof.ensures.closed)
    (subst (λ (one : Proved). IsLean rules one) c.in-Whole.is c.in_ok-proof.ensures.lean)
