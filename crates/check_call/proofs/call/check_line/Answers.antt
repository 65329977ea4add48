use Rattle.std.proofs.Common.{map}
use Rattle.class_program.specs.Views.{program_of}
use Rattle.desc_steps.proofs.Answering.{given_goes, given_refused, all_end}
use Rattle.check_call.specs.Answers.{AnswersCert}
use Rattle.check_call.proofs.call.check_line.Goals as goal

pub returns-in-Ok-clause-answers : goal.returns-in-Ok-clause-answers
returns-in-Ok-clause-answers c = given_goes (AnswersCert c.args.cert.now) c.args.desc.now
    (map (λ file. file.items) c.args.files.now) c.in-Ok.given c.check_bytes.result c.in-Ok.ensures.answers c.check_bytes.ensures.cert

pub returns-in-Ok-clause-headline : goal.returns-in-Ok-clause-headline
returns-in-Ok-clause-headline c = λ accepts. all_end c.args.desc.now (map (λ file. file.items) c.args.files.now)
    (program_of c.in-Ok.given.program) c.in-Ok.given.desc c.in-Ok.ensures.named (c.check_bytes.ensures.ends accepts)

pub returns-in-Err-clause-answers : goal.returns-in-Err-clause-answers
returns-in-Err-clause-answers c = given_refused (AnswersCert c.args.cert.now) c.args.desc.now
    (map (λ file. file.items) c.args.files.now) c.in-Err.refused c.in-Err.ensures.answers
