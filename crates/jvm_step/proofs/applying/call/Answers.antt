use Rattle.std.proofs.Common.{rules, ◌≡◌, refl, length}
use Rattle.jvm_values.specs.States.{state_of}
use Rattle.std.proofs.lemmas.Option.{slice_get_read, slice_get_past}
use Rattle.class_program.specs.Views.{program_of}
use Rattle.jvm_step.proofs.Applied.{runs, called, uncalled}
use Rattle.jvm_step.proofs.Light.{call_heavy}
use Rattle.jvm_step.proofs.applying.call.Goals as goal

pub returns-in_err-invoke-in-Some-clause-state : goal.returns-in_err-invoke-in-Some-clause-state
returns-in_err-invoke-in-Some-clause-state c next = let r = runs c.args.state.now.frames.0 c.requires in
    let e : state_of c.invoke.new.state ≡ state_of c.args.state.now = c.in_err-invoke-in-Some.ensures.state r.frame r.below r.are in
    search rules

pub returns-in_err-invoke-in-Some-clause-room : goal.returns-in_err-invoke-in-Some-clause-room
returns-in_err-invoke-in-Some-clause-room c = c.in_err-invoke-in-Some.ensures.room c.args.program.now.methods
    (slice_get_read c.args.program.now.methods (length c.args.program.now.methods) c.args.number c.in-Some.method.now refl
    c.in-Some.ensures.0 c.in-Some.ensures.1)

pub returns-in_ok-invoke-in-Some-clause-state : goal.returns-in_ok-invoke-in-Some-clause-state
returns-in_ok-invoke-in-Some-clause-state c next =
    let r = runs c.args.state.now.frames.0 c.requires in
    called (program_of c.args.program.now) next c.args.state.now.heap c.args.state.now.mode c.args.state.now.statics _ r.frame
    r.below c.args.number c.args.count c.in-Some.method.now _ r.are
    (slice_get_read c.args.program.now.methods (length c.args.program.now.methods) c.args.number c.in-Some.method.now refl
    c.in-Some.ensures.0 c.in-Some.ensures.1) (c.in_ok-invoke-in-Some.ensures.state r.frame r.below r.are)

pub returns-in_ok-invoke-in-Some-clause-room : goal.returns-in_ok-invoke-in-Some-clause-room
returns-in_ok-invoke-in-Some-clause-room c = c.in_ok-invoke-in-Some.ensures.room c.args.program.now.methods
    (slice_get_read c.args.program.now.methods (length c.args.program.now.methods) c.args.number c.in-Some.method.now refl
    c.in-Some.ensures.0 c.in-Some.ensures.1)

pub returns-in-None-clause-state : goal.returns-in-None-clause-state
returns-in-None-clause-state c next = uncalled (program_of c.args.program.now) next c.args.state.now.heap c.args.state.now.mode
    c.args.state.now.statics _ c.args.number c.args.count _ (slice_get_past c.args.program.now.methods c.args.number c.in-None.ensures)

pub returns-in_err-invoke-in-Some-clause-memory : goal.returns-in_err-invoke-in-Some-clause-memory
returns-in_err-invoke-in-Some-clause-memory c next light = absurd
    (call_heavy (program_of c.args.program.now) c.args.state.now.heap c.args.state.now.mode c.args.state.now.statics
    c.args.state.now.frames.0 next (state_of c.args.state.now).frames c.args.number c.args.count light)
