use Rattle.class_program.specs.Views.{program_of}
use Rattle.jvm_run.specs.code_verify.Typings.{typing_at}
use Rattle.class_calls.proofs.Answering.{calls_refused, types_refused, input_is_refused, program_runs}
use Rattle.class_calls.proofs.run_call.call.run_program.Goals as goal

pub returns-in-Err : goal.returns-in-Err
returns-in-Err c = calls_refused c.args.fuel c.args.text (program_of c.args.program.now) c.in-Err.refused c.in-Err.ensures.refused

pub returns-in-Err-typings : goal.returns-in-Err-typings
returns-in-Err-typings c = types_refused c.args.fuel c.args.text (program_of c.args.program.now) c.in-Err-typings.refused
    c.in-Ok.ensures.acyclic c.in-Err-typings.ensures.refused

pub answer-requires-clause-typings : goal.answer-requires-clause-typings
answer-requires-clause-typings c = (typing_at _, c.in-Ok-typings.ensures.typing)

pub returns-in-Err-input_of : goal.returns-in-Err-input_of
returns-in-Err-input_of c = input_is_refused c.args.fuel c.args.text (program_of c.args.program.now) c.in-Err-input_of.refused
    c.in-Ok.ensures.acyclic (typing_at _, c.in-Ok-typings.ensures.typing) c.in-Err-input_of.ensures.refused

pub returns-in-Ok-input_of : goal.returns-in-Ok-input_of
returns-in-Ok-input_of c = program_runs c.args.fuel c.args.text (program_of c.args.program.now) c.in-Ok-input_of.input _
    c.in-Ok.ensures.acyclic (typing_at _, c.in-Ok-typings.ensures.typing) c.in-Ok-input_of.ensures.input c.answer.ensures
