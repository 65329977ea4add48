use Rattle.std.proofs.Common.{◌∙◌, ◌-◌, length, reverse, take, refl, sym}
use Rattle.class_program.specs.Views.{program_of}
use Rattle.abs_turns.specs.code_verify.Typings.{typing_at}
use Rattle.abs_plans.proofs.MadePlans.{made_is}
use Rattle.abs_plans.proofs.PlannedStates.{none_turned, first_turned, no_frames, at_frame}
use Rattle.abs_plans.proofs.planning.plan_in_frames.Goals as goal

pub returns-then-is_empty : goal.returns-then-is_empty
returns-then-is_empty g c =
    c.no_child.ensures
    ∙ no_frames (program_of c.args.program.now) (typing_at c.args.typing.now) c.args.state.now
    (none_turned c.args.state.now.frames c.frames-frames.result.now c.frames-frames.ensures
    (sym c.is_empty.ensures ∙ c.if-is_empty.true))

pub returns : goal.returns
returns g c =
    made_is _ _ c.plan_running.result
    (at_frame (program_of c.args.program.now) (typing_at c.args.typing.now) c.args.state.now c.index-frames-last.result
    (reverse (take (length c.frames-frames.result.now - 1) c.frames-frames.result.now))
    (first_turned c.args.state.now.frames c.frames-frames.result.now (length c.frames-frames.result.now - 1)
    c.index-frames-last.result c.frames-frames.ensures (sym c.is_empty.ensures ∙ c.if-is_empty.false) refl c.index-frames-last.is))
    c.plan_running.ensures
