use Rattle.std.proofs.Common.{map, subst}
use Rattle.desc_steps.specs.Answers.{AnswersAs}
use Rattle.check_call.specs.Lines.{accepted}
use Rattle.jterm.proofs.GenerateSaying.{accepts_cut, accepted_status, accepted_refused}
use Rattle.jterm.proofs.made_cert.is_accepted.Goals as goal

pub returns-in-Ok : goal.returns-in-Ok
returns-in-Ok c =
    accepted_status c.in-Ok.outcome
    (subst (AnswersAs accepted) c.in-Ok.is
    (accepts_cut c.args.out.now c.certificate.result.now c.description.result.now (map (λ file. file.items) c.args.files.now)
    c.check_line.result
    c.requires.has c.certificate.ensures c.description.ensures c.check_line.ensures.answers))

pub returns-in-Err : goal.returns-in-Err
returns-in-Err c =
    accepted_refused c.in-Err.refused
    (subst (AnswersAs accepted) c.in-Err.is
    (accepts_cut c.args.out.now c.certificate.result.now c.description.result.now (map (λ file. file.items) c.args.files.now)
    c.check_line.result
    c.requires.has c.certificate.ensures c.description.ensures c.check_line.ensures.answers))
