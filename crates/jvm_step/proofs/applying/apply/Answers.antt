use Rattle.jvm_values.specs.States.{state_of}
use Rattle.class_program.specs.Views.{program_of}
use Rattle.jvm_step.specs.declared.after.After.TheVariants as afters
use Rattle.jvm_step.proofs.Light.{as_said, raise_heavy}
use Rattle.jvm_step.proofs.applying.apply.Goals as goal

pub returns-in_err-raise-in-Raise-clause-memory : goal.returns-in_err-raise-in-Raise-clause-memory
returns-in_err-raise-in-Raise-clause-memory c light = absurd
    (raise_heavy (program_of c.args.program.now) c.args.state.now.heap c.args.state.now.mode c.args.state.now.statics
    c.args.state.now.frames.0 c.args.next (state_of c.args.state.now).frames c.in-Raise.class
    (as_said (program_of c.args.program.now) c.args.state.now.heap c.args.state.now.mode c.args.state.now.statics
    c.args.state.now.frames.0 c.args.next (state_of c.args.state.now).frames c.args.after (afters.Raise c.in-Raise.class)
    c.in-Raise.is light))

pub returns-in-Invoke-clause-memory : goal.returns-in-Invoke-clause-memory
returns-in-Invoke-clause-memory c light = c.call.ensures.memory c.args.next
    (as_said (program_of c.args.program.now) c.args.state.now.heap c.args.state.now.mode c.args.state.now.statics
    c.args.state.now.frames.0 c.args.next (state_of c.args.state.now).frames c.args.after
    (afters.Invoke c.in-Invoke.number c.in-Invoke.count) c.in-Invoke.is light)

pub returns-in-Return-clause-memory : goal.returns-in-Return-clause-memory
returns-in-Return-clause-memory c light = c.return_from.ensures.memory c.args.next
    (as_said (program_of c.args.program.now) c.args.state.now.heap c.args.state.now.mode c.args.state.now.statics
    c.args.state.now.frames.0 c.args.next (state_of c.args.state.now).frames c.args.after (afters.Return c.in-Return.value)
    c.in-Return.is light)
