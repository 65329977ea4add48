use Rattle.class_program.specs.Views.{program_of}
use Rattle.code_verify.specs.Typings.{typing_at}
use Rattle.std.proofs.Common.{◌∙◌, ap, Err}
use Rattle.std.proofs.lemmas.Result.{err_from_is_err_and}
use Rattle.graph_check.specs.declared.failure.Failure.{Failure}
use Rattle.graph_check.proofs.Answering.{memory_leaves}
use Rattle.graph_check.proofs.leaving.node_links.Goals as goal

pub returns-in_err-node-clause-leaves : goal.returns-in_err-node-clause-leaves
returns-in_err-node-clause-leaves g c =
    let p = err_from_is_err_and c.from_residual.result c.from_residual.ensures.1 in
    memory_leaves (program_of c.args.program.now) (typing_at c.args.typing.now) (g.S.NodeSource.graph c.args.source.now)
    c.args.number c.from_residual.result c.requires.there (p.1 ∙ ap (λ (e : Failure). Err e) p.2)
