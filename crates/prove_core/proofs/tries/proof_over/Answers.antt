use Rattle.std.proofs.Common.{ℕ, List, sym, subst}
use Rattle.class_program.specs.Views.{program_of}
use Rattle.code_verify.specs.Typings.{typing_at}
use Rattle.prove_core.specs.Cuts.{AreTargets}
use Rattle.prove_core.proofs.Readying.{ready}
use Rattle.prove_core.proofs.tries.proof_over.Goals as goal

pub paths-requires-clause-ready : goal.paths-requires-clause-ready
paths-requires-clause-ready g c =
    let cuts = c.as_slice.result.now in
    let targets = subst (λ (cs : List ℕ). AreTargets c.args.graph.now cs) (sym c.as_slice.ensures) c.in_ok-cuts.ensures in
    ready c.links_fit.ensures (program_of c.args.program.now) (typing_at c.args.typing.now) c.args.graph.now c.args.root.now
    c.args.links.now.nodes cuts c.is_good.ensures.widths c.requires.typing c.requires.good targets
