use Rattle.std.proofs.Common.{map}
use Rattle.desc_steps.proofs.Answering.{given_goes, given_refused}
use Rattle.check_call.specs.Answers.{OfCert}
use Rattle.cert_making.specs.migrate_call.Answers.{SaysMigrated}
use Rattle.cert_making.proofs.MigrateClaiming.{claimed}
use Rattle.cert_making.proofs.migrate_call.call.migrate_line.Goals as goal

pub returns-in-Ok-clause-answers : goal.returns-in-Ok-clause-answers
returns-in-Ok-clause-answers c = given_goes (OfCert SaysMigrated c.args.cert.now) c.args.desc.now
    (map (λ file. file.items) c.args.files.now) c.in-Ok.given c.migrate_bytes.result c.in-Ok.ensures.answers c.migrate_bytes.ensures.cert

pub returns-in-Ok-clause-headline : goal.returns-in-Ok-clause-headline
returns-in-Ok-clause-headline c = claimed c.args.desc.now (map (λ file. file.items) c.args.files.now) c.in-Ok.given c.args.cert.now
    c.migrate_bytes.result c.in-Ok.ensures.answers c.in-Ok.ensures.named c.in-Ok.ensures.ready.typing c.migrate_bytes.ensures.written

pub returns-in-Err-clause-answers : goal.returns-in-Err-clause-answers
returns-in-Err-clause-answers c = given_refused (OfCert SaysMigrated c.args.cert.now) c.args.desc.now
    (map (λ file. file.items) c.args.files.now) c.in-Err.refused c.in-Err.ensures.answers
