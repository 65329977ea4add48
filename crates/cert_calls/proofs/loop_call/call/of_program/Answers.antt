use Rattle.class_program.specs.Views.{program_of}
use Rattle.code_verify.specs.Typings.{typing_at}
use Rattle.cert_calls.specs.loop_call.inner.Words.{Shows}
use Rattle.cert_calls.proofs.Stepping.{calls_refused, types_refused, desc_refused, input_refused, program_goes}
use Rattle.cert_calls.proofs.loop_call.call.of_program.Goals as goal

pub returns-in-Err : goal.returns-in-Err
returns-in-Err c = calls_refused (Shows c.args.cert.now) c.args.text c.args.given (program_of c.args.program.now) c.in-Err.refused
    c.in-Err.ensures.refused

pub returns-in-Err-typings : goal.returns-in-Err-typings
returns-in-Err-typings c = types_refused (Shows c.args.cert.now) c.args.text c.args.given (program_of c.args.program.now)
    c.in-Err-typings.refused c.in-Ok.ensures.acyclic c.in-Err-typings.ensures.refused

pub returns-in-Err-described : goal.returns-in-Err-described
returns-in-Err-described c = desc_refused (Shows c.args.cert.now) c.args.text c.args.given (program_of c.args.program.now)
    (typing_at _) c.in-Err-described.refused c.in-Ok.ensures.acyclic c.in-Ok-typings.ensures.typing c.in-Err-described.ensures.refused

pub returns : goal.returns
returns c = input_refused (Shows c.args.cert.now) c.args.text c.args.given (program_of c.args.program.now)
    (typing_at _) c.in-Ok-described.desc c.in-Err-input_of.refused c.in-Ok.ensures.acyclic c.in-Ok-typings.ensures.typing
    c.in-Ok-described.ensures.described c.in-Err-input_of.ensures.refused

pub returns-in-Ok-input_of : goal.returns-in-Ok-input_of
returns-in-Ok-input_of c = program_goes (Shows c.args.cert.now) c.args.text c.args.given (program_of c.args.program.now)
    (typing_at _) c.in-Ok-described.desc c.in-Ok-input_of.input _ c.in-Ok.ensures.acyclic c.in-Ok-typings.ensures.typing
    c.in-Ok-described.ensures.described c.in-Ok-input_of.ensures.input c.loop_bytes.ensures
