use Rattle.std.proofs.Common.{refl, length}
use Rattle.std.proofs.lemmas.Option.{slice_get_read, slice_get_past}
use Rattle.jvm_values.specs.States.{state_of}
use Rattle.class_program.specs.Views.{program_of}
use Rattle.jvm_step.proofs.Handlers.{handler_with, handler_without}
use Rattle.jvm_step.proofs.throwing.handler_in.Goals as goal

pub returns-in-Some : goal.returns-in-Some
returns-in-Some c = handler_with (program_of c.args.program.now) (state_of c.args.state.now) c.args.r c.args.state.now.frames.0
    c.at-frame.result.now c.in-Some.method.now c.handler_of.result c.requires c.at-frame.ensures
    (slice_get_read c.args.program.now.methods (length c.args.program.now.methods) c.at-frame.result.now.method c.in-Some.method.now
    refl c.in-Some.ensures.0 c.in-Some.ensures.1) c.handler_of.ensures

pub returns-in-None : goal.returns-in-None
returns-in-None c = handler_without (program_of c.args.program.now) (state_of c.args.state.now) c.args.r c.args.state.now.frames.0
    c.at-frame.result.now c.requires c.at-frame.ensures
    (slice_get_past c.args.program.now.methods c.at-frame.result.now.method c.in-None.ensures)
