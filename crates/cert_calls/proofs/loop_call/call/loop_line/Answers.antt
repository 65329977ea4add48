use Rattle.std.proofs.Common.{map}
use Rattle.cert_calls.specs.loop_call.Answers.{OfCert}
use Rattle.cert_calls.specs.loop_call.inner.Words.{Shows}
use Rattle.cert_calls.proofs.LoopClaiming.{claimed}
use Rattle.cert_calls.proofs.Stepping.{files_on}
use Rattle.cert_calls.proofs.loop_call.call.loop_line.Goals as goal

pub returns-clause-answers : goal.returns-clause-answers
returns-clause-answers c = files_on (Shows c.args.cert.now) (OfCert c.args.cert.now) (λ p typing described input result h. h.0)
    c.args.state.now c.args.desc.now (map (λ file. file.items) c.args.files.now) c.of_files.result c.of_files.ensures

pub returns-clause-headline : goal.returns-clause-headline
returns-clause-headline c = claimed c.args.cert.now c.args.state.now c.args.desc.now (map (λ file. file.items) c.args.files.now)
    c.of_files.result c.of_files.ensures
