use Rattle.std.proofs.Common.{sym, ◌∙◌}
use Rattle.class_program.specs.Views.{program_of}
use Rattle.jvm_step.proofs.Applied.{place_of_caller, mapped, returned, unreturned}
use Rattle.jvm_step.proofs.Light.{return_heavy}
use Rattle.jvm_step.proofs.applying.return_to_caller.Goals as goal

pub returns-in_ok-give_back-in-Some-clause-state : goal.returns-in_ok-give_back-in-Some-clause-state
returns-in_ok-give_back-in-Some-clause-state c next = returned (program_of c.args.program.now) next c.args.state.now.heap
    c.args.state.now.mode c.args.state.now.statics _ c.in-Some.place c.args.value _ (mapped 1 c.args.state.now.frames.0 c.requires)
    (place_of_caller (program_of c.args.program.now) c.args.state.now.frames.0 c.at.result.now _ c.requires c.at.ensures
    c.in-Some.ensures) c.in_ok-give_back-in-Some.ensures.state

pub returns-in-None-clause-state : goal.returns-in-None-clause-state
returns-in-None-clause-state c next = unreturned (program_of c.args.program.now) next c.args.state.now.heap c.args.state.now.mode
    c.args.state.now.statics _ c.args.value _ (mapped 1 c.args.state.now.frames.0 c.requires)
    (place_of_caller (program_of c.args.program.now) c.args.state.now.frames.0 c.at.result.now _ c.requires c.at.ensures c.in-None.ensures)

pub returns-in_err-give_back-in-Some-clause-memory : goal.returns-in_err-give_back-in-Some-clause-memory
returns-in_err-give_back-in-Some-clause-memory c next light = absurd
    (return_heavy (program_of c.args.program.now) c.args.state.now.heap c.args.state.now.mode c.args.state.now.statics next
    c.args.state.now.frames.0 c.in-Some.place c.args.value
    (place_of_caller (program_of c.args.program.now) c.args.state.now.frames.0 c.at.result.now _ c.requires c.at.ensures
    c.in-Some.ensures) c.in_err-give_back-in-Some.ensures.memory light)
