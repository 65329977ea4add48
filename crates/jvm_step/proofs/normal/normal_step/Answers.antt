use Rattle.std.proofs.Common.{rules, ◌≡◌, Ok, refl, sym, length}
use Rattle.std.proofs.lemmas.Option.{slice_get_read, slice_get_past}
use Rattle.op_forms.specs.Forms.{form_seen}
use Rattle.class_program.specs.Views.{program_of}
use Rattle.jvm_step.specs.declared.outcome.Outcome.TheVariants as outcomes
use Rattle.jvm_step.proofs.NormalSteps.{no_frame, no_method, no_form, running, some_if}
use Rattle.jvm_step.proofs.normal.normal_step.Goals as goal

pub returns-then-is_empty-clause-state : goal.returns-then-is_empty-clause-state
returns-then-is_empty-clause-state c =
    let empty : length c.args.state.now.frames.0 ≡ 0 = search rules in
    no_frame (program_of c.args.program.now) c.args.state.now.heap c.args.state.now.mode c.args.state.now.statics
    c.args.state.now.frames.0 (Ok outcomes.Going) _ empty

pub execute-requires-clause-runs : goal.execute-requires-clause-runs
execute-requires-clause-runs c = running (program_of c.args.program.now) c.args.state.now.frames.0 c.at-frame.result.now
    c.in-Some.method.now (form_seen c.in-Some-form_at.form) c.in-Some-form_at.next
    (some_if (length c.args.state.now.frames.0) c.is_empty.result c.is_empty.ensures c.if-is_empty.false) c.at-frame.ensures
    (slice_get_read c.args.program.now.methods (length c.args.program.now.methods) c.at-frame.result.now.method c.in-Some.method.now
    refl c.in-Some.ensures.0 c.in-Some.ensures.1) (sym c.in-Some-form_at.ensures)

pub returns-in-None-form_at-clause-state : goal.returns-in-None-form_at-clause-state
returns-in-None-form_at-clause-state c = no_form (program_of c.args.program.now) c.args.state.now.heap c.args.state.now.mode
    c.args.state.now.statics c.args.state.now.frames.0 c.at-frame.result.now c.in-Some.method.now (Ok outcomes.Going) _
    (some_if (length c.args.state.now.frames.0) c.is_empty.result c.is_empty.ensures c.if-is_empty.false) c.at-frame.ensures
    (slice_get_read c.args.program.now.methods (length c.args.program.now.methods) c.at-frame.result.now.method c.in-Some.method.now
    refl c.in-Some.ensures.0 c.in-Some.ensures.1) (sym c.in-None-form_at.ensures)

pub returns-in-None-clause-state : goal.returns-in-None-clause-state
returns-in-None-clause-state c = no_method (program_of c.args.program.now) c.args.state.now.heap c.args.state.now.mode
    c.args.state.now.statics c.args.state.now.frames.0 c.at-frame.result.now (Ok outcomes.Going) _
    (some_if (length c.args.state.now.frames.0) c.is_empty.result c.is_empty.ensures c.if-is_empty.false) c.at-frame.ensures
    (slice_get_past c.args.program.now.methods c.at-frame.result.now.method c.in-None.ensures)
