use Rattle.std.proofs.Common.{subst, Err}
use Rattle.abs_cells.specs.AbstractStates.{AbstractState}
use Rattle.class_program.specs.Views.{program_of}
use Rattle.code_verify.specs.Typings.{typing_at}
use Rattle.loop_check.specs.Laws.{AllGoOn}
use Rattle.loop_check.specs.Loops.{NeverEnds}
use Rattle.loop_check.specs.inner.Words.{Answers}
use Rattle.loop_check.proofs.Answering.{loop_fails, loop_told, on_ok}
use Rattle.loop_check.proofs.looping.check_loop.Goals as goal

pub returns-in-Ok-clause-tells : goal.returns-in-Ok-clause-tells
returns-in-Ok-clause-tells g c =
    let p = program_of c.args.program.now in
    let typing = typing_at c.args.typing.now in
    let nodes = g.S.NodeSource.graph c.args.source.now in
    loop_told p typing c.args.desc.now nodes c.args.input.now c.given_fits.result
    (subst (λ (s : AbstractState). NeverEnds p typing nodes s) c.requires.root c.in-Ok.ensures.tells) c.given_fits.ensures

pub returns-in-Ok-clause-forever : goal.returns-in-Ok-clause-forever
returns-in-Ok-clause-forever g c =
    let p = program_of c.args.program.now in
    let typing = typing_at c.args.typing.now in
    let nodes = g.S.NodeSource.graph c.args.source.now in
    on_ok c.given_fits.result (AllGoOn p c.args.desc.now) (c.loops_never_end.ensures p typing c.args.desc.now nodes
    c.is_good.ensures.closed c.is_good.ensures.widths c.requires.typing c.requires.own
    (subst (λ (s : AbstractState). NeverEnds p typing nodes s) c.requires.root c.in-Ok.ensures.tells))

pub returns-in-Err-clause-tells : goal.returns-in-Err-clause-tells
returns-in-Err-clause-tells g c =
    let p = program_of c.args.program.now in
    let typing = typing_at c.args.typing.now in
    let nodes = g.S.NodeSource.graph c.args.source.now in
    loop_fails p typing c.args.desc.now nodes c.args.input.now c.in-Err.fault
    (subst (λ (s : AbstractState). Answers p typing nodes s (Err c.in-Err.fault)) c.requires.root c.in-Err.ensures.tells)
