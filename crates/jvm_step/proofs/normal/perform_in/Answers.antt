use Rattle.std.proofs.Common.{sym, subst}
use Rattle.op_forms.specs.Forms.{form_seen}
use Rattle.class_program.specs.Views.{program_of}
use Rattle.jvm_step.specs.Steps.{HasRoom}
use Rattle.jvm_step.proofs.NormalSteps.{performed}
use Rattle.jvm_step.proofs.Rooms.{room_kept, rooms_with}
use Rattle.jvm_step.proofs.Light.{wants_in}
use Rattle.jvm_step.proofs.normal.perform_in.Goals as goal

pub returns-clause-state : goal.returns-clause-state
returns-clause-state c = performed (program_of c.args.program.now) c.args.state.now.heap c.args.state.now.mode
    c.args.state.now.statics c.args.method.now (form_seen c.args.form.now) c.args.state.now.frames.0 c.at_mut.result.now
    c.perform.new.frame c.perform.new.statics c.perform.new.heap c.perform.result c.requires.some c.at_mut.ensures.item
    c.perform.ensures.effect

pub returns-clause-room : goal.returns-clause-room
returns-clause-room c methods h = rooms_with methods c.args.state.now.frames.0 0 c.perform.new.frame h
    (room_kept methods c.at_mut.result.now c.perform.new.frame c.perform.ensures.method c.perform.ensures.room
    (subst (HasRoom methods) (sym c.at_mut.ensures.item) (h 0 c.at_mut.result.now c.requires.some)))

pub returns-clause-memory : goal.returns-clause-memory
returns-clause-memory c = wants_in (program_of c.args.program.now) c.args.method.now (form_seen c.args.form.now)
    c.args.state.now.statics c.args.state.now.heap c.args.state.now.frames.0 c.at_mut.result.now c.perform.result c.requires.some
    c.at_mut.ensures.item c.perform.ensures.memory
