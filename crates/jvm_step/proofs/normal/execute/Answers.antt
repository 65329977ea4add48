use Rattle.class_program.specs.Views.{program_of}
use Rattle.jvm_values.specs.States.{state_of}
use Rattle.op_forms.specs.Forms.{form_seen}
use Rattle.jvm_step.proofs.NormalSteps.{normal_done, form_running, unchanged}
use Rattle.jvm_step.proofs.Light.{light_applies, light_performs}
use Rattle.jvm_step.proofs.normal.execute.Goals as goal

pub perform_in-requires-clause-here : goal.perform_in-requires-clause-here
perform_in-requires-clause-here c = form_running (program_of c.args.program.now) c.args.state.now.heap c.args.state.now.mode
    c.args.state.now.statics (state_of c.args.state.now).frames c.args.method.now (form_seen c.args.form.now) c.args.next c.requires.runs

pub returns-in-Ok-clause-state : goal.returns-in-Ok-clause-state
returns-in-Ok-clause-state c = normal_done (program_of c.args.program.now) c.args.state.now.heap c.args.state.now.mode
    c.args.state.now.statics (state_of c.args.state.now).frames c.args.method.now (form_seen c.args.form.now) c.args.next
    c.in-Ok.after (state_of c.perform_in.new.state) (state_of c.apply.new.state) c.apply.result c.requires.runs
    c.in-Ok.ensures.state c.apply.ensures.fails c.apply.ensures.state

pub returns-in-Err-clause-state : goal.returns-in-Err-clause-state
returns-in-Err-clause-state c = unchanged _ c.in-Err.fault (state_of c.args.state.now) (state_of c.perform_in.new.state)
    c.in-Err.ensures.state

pub returns-in-Ok-clause-memory : goal.returns-in-Ok-clause-memory
returns-in-Ok-clause-memory c light = light_applies (program_of c.args.program.now) c.args.state.now.heap c.args.state.now.mode
    c.args.state.now.statics (state_of c.args.state.now).frames c.args.method.now (form_seen c.args.form.now) c.args.next
    c.in-Ok.after (state_of c.perform_in.new.state) c.apply.result c.requires.runs c.in-Ok.ensures.state c.args.state.now.frames.0
    c.perform_in.new.state.frames.0 (c.in-Ok.ensures.room c.args.program.now.methods) c.apply.ensures.fails c.apply.ensures.memory light

pub returns-in-Err-clause-memory : goal.returns-in-Err-clause-memory
returns-in-Err-clause-memory c light = absurd
    (light_performs (program_of c.args.program.now) c.args.state.now.heap c.args.state.now.mode c.args.state.now.statics
    c.args.state.now.frames.0 c.args.method.now (form_seen c.args.form.now) c.args.next c.requires.runs c.in-Err.ensures.memory light)
