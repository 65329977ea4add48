use Rattle.std.proofs.Common.{map}
use Rattle.class_program.specs.Views.{program_of}
use Rattle.desc_steps.proofs.Answering.{given_goes, given_refused}
use Rattle.check_call.specs.Answers.{OfCert}
use Rattle.cert_calls.specs.throws_call.Answers.{SaysReport}
use Rattle.cert_calls.proofs.ThrowsSaying.{claimed}
use Rattle.cert_calls.proofs.throws_call.call.throws_line.Goals as goal

pub returns-in-Ok-clause-answers : goal.returns-in-Ok-clause-answers
returns-in-Ok-clause-answers c = given_goes (OfCert SaysReport c.args.cert.now) c.args.desc.now
    (map (λ file. file.items) c.args.files.now) c.in-Ok.given c.report_bytes.result c.in-Ok.ensures.answers c.report_bytes.ensures.cert

pub returns-in-Ok-clause-headline : goal.returns-in-Ok-clause-headline
returns-in-Ok-clause-headline c = claimed c.args.desc.now (map (λ file. file.items) c.args.files.now)
    (program_of c.in-Ok.given.program) c.in-Ok.given.desc c.report_bytes.result c.in-Ok.ensures.named c.report_bytes.ensures.ends

pub returns-in-Err-clause-answers : goal.returns-in-Err-clause-answers
returns-in-Err-clause-answers c = given_refused (OfCert SaysReport c.args.cert.now) c.args.desc.now
    (map (λ file. file.items) c.args.files.now) c.in-Err.refused c.in-Err.ensures.answers
