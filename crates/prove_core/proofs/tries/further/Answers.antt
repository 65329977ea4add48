use Rattle.std.proofs.Common.{IfOk, IfSome, subst}
use Rattle.abs_cells.specs.AbstractStates.{AbstractState}
use Rattle.class_program.specs.Views.{program_of}
use Rattle.code_verify.specs.Typings.{typing_at}
use Rattle.prove_core.specs.Answers.{IsCertificate}
use Rattle.prove_core.specs.Reasons.{aim_of}
use Rattle.prove_core.proofs.tries.further.Goals as goal

pub returns : goal.returns
returns g c =
    let p = program_of c.args.program.now in
    let typing = typing_at c.args.typing.now in
    subst (λ (root : AbstractState). IfOk c.first_of.result (λ found. IfSome found
    (λ bytes. IsCertificate (aim_of p typing root) c.args.names.now bytes))) c.in_ok-root.ensures.is c.first_of.ensures
