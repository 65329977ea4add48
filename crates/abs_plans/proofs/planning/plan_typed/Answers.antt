use Rattle.std.proofs.Common.{◌∙◌, ℕ, Some, None, reverse, ap}
use Rattle.jvm_values.specs.States.{types_of}
use Rattle.class_program.specs.Views.{program_of}
use Rattle.abs_turns.specs.code_verify.Typings.{typing_at}
use Rattle.abs_turns.specs.op_forms.Forms.{form_seen}
use Rattle.std.specs.Option.{option_map_or}
use Rattle.abs_plans.proofs.MadePlans.{made_is}
use Rattle.abs_plans.proofs.PlannedStates.{asked_at, with_types, without_types}
use Rattle.abs_plans.proofs.planning.plan_typed.Goals as goal

pub returns-in-Some : goal.returns-in-Some
returns-in-Some g c =
    made_is _ _ c.plan_of_form.result
    (with_types (program_of c.args.program.now) (typing_at c.args.typing.now) c.args.state.now c.args.frame.now
    (reverse c.args.below.now) (form_seen c.args.form.now) c.args.next
    (typing_at c.args.typing.now c.args.frame.now.method c.args.frame.now.pc) (types_of c.in-Some.types.now)
    c.place_after-after.result c.new-spot.result
    (asked_at (typing_at c.args.typing.now) c.method.result c.pc-place.result c.args.frame.now.method c.args.frame.now.pc
    (Some (types_of c.in-Some.types.now)) c.method.ensures c.pc-place.ensures c.in-Some.ensures)
    (c.place_after-after.ensures ∙ ap (option_map_or (λ (place : ℕ). place) c.args.next) c.pc-place.ensures)
    c.new-spot.ensures)
    c.plan_of_form.ensures

pub returns-in-None : goal.returns-in-None
returns-in-None g c =
    c.no_child.ensures
    ∙ without_types (program_of c.args.program.now) (typing_at c.args.typing.now) c.args.state.now c.args.frame.now
    (reverse c.args.below.now) (form_seen c.args.form.now) c.args.next
    (typing_at c.args.typing.now c.args.frame.now.method c.args.frame.now.pc)
    (asked_at (typing_at c.args.typing.now) c.method.result c.pc-place.result c.args.frame.now.method c.args.frame.now.pc None
    c.method.ensures c.pc-place.ensures c.in-None.ensures)
