use Rattle.std.proofs.Common.{map}
use Rattle.desc_steps.proofs.Answering.{given_goes, given_refused}
use Rattle.check_call.specs.FillAnswers.{AnswersCert}
use Rattle.check_call.proofs.fill.fill_line.Goals as goal

pub returns-in-Ok : goal.returns-in-Ok
returns-in-Ok c = given_goes (λ p typing described. AnswersCert c.args.cert.now p typing) c.args.desc.now
    (map (λ file. file.items) c.args.files.now) c.in-Ok.given c.fill_bytes.result c.in-Ok.ensures.answers c.fill_bytes.ensures

pub returns-in-Err : goal.returns-in-Err
returns-in-Err c = given_refused (λ p typing described. AnswersCert c.args.cert.now p typing) c.args.desc.now
    (map (λ file. file.items) c.args.files.now) c.in-Err.refused c.in-Err.ensures.answers
