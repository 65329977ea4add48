-- The law at every state: in normal mode by the form of the instruction, in throwing mode by the handler.
use Rattle.std.proofs.Common.{◌≡◌, ℕ, List, [], ◌∷◌, Option, Some, None, refl, subst}
use Rattle.jvm_values.specs.States.{MachineState}
use Rattle.abs_cells.specs.AbstractStates.{AbstractFrame, AbstractState}
use Rattle.abs_cells.specs.Fits.{Meaning}
use Rattle.class_world.specs.World.{World}
use Rattle.class_world.specs.BuiltIns.{IsWorld, HasNoInterfacesBelow}
use Rattle.jvm_step.specs.class_program.Programs.{Program, IsClosed}
use Rattle.jvm_step.specs.class_program.Widths.{HasWidths}
use Rattle.frame_types.specs.Tables.{CodeTypes}
use Rattle.object_steps.specs.jvm_run.Laws.{StepsAreTyped}
use Rattle.object_steps.specs.abs_expand.Laws.{IsMet, EndsEnd, StepsFitChildren}
use Rattle.object_steps.specs.abs_expand.Expansions.{plan_of}
use Rattle.object_steps.specs.form_steps.inner.Lows.{Lows, AreThrowablesErased}
use Rattle.step_laws.proofs.Premises.{throwables_erased}
use Rattle.step_laws.proofs.Covering.{covered}
use Rattle.step_laws.proofs.Meeting.{to_child, stands, wide, plan_meets}
use Rattle.step_laws.proofs.Throwing.{throwing_meets}
use Rattle.object_steps.proofs.form_steps.TurnKinds.{Meets}

module _ (typed_steps : StepsAreTyped) (p : Program) (typing : ℕ → CodeTypes) (state : AbstractState) (machine : MachineState)
    (meaning : Meaning) (lows : Lows) (closed : IsClosed p) (widths : HasWidths p) (erased : AreThrowablesErased p)
    (met : IsMet p typing state machine meaning) where
  plan_met : (thrown : Option ℕ) → state.throwing ≡ thrown → (frames : List AbstractFrame) → state.frames ≡ frames
      → Meets p state machine meaning (plan_of p typing state)
  plan_met thrown e [] f = absurd (met.good.sound.framed f)
  plan_met None e (frame ∷ lower) f =
      let s = stands lows typed_steps p typing state machine meaning closed widths met e frame lower f in
      plan_meets lows typed_steps p typing state machine meaning closed widths met e frame lower f
      (covered p typing state machine meaning s
      (wide lows typed_steps p typing state machine meaning closed widths met e frame lower f) s.form refl)
  plan_met (Some x) e (frame ∷ lower) f = throwing_meets lows p typing state machine meaning closed erased met x e frame lower f

  pub met_plan : Meets p state machine meaning (plan_of p typing state)
  met_plan = plan_met state.throwing refl state.frames refl

pub ended : StepsAreTyped → Lows → ((world : World) → IsWorld world → HasNoInterfacesBelow world) → EndsEnd
ended typed_steps lows erased p typing state machine meaning closed widths met e = subst (Meets p state machine meaning) e
    (met_plan typed_steps p typing state machine meaning lows closed widths (throwables_erased erased p closed) met)

pub gone_on : StepsAreTyped → Lows → ((world : World) → IsWorld world → HasNoInterfacesBelow world) → StepsFitChildren
gone_on typed_steps lows erased p typing state machine meaning children closed widths met x = to_child lows.drop p state machine
    meaning (plan_of p typing state) children
    (met_plan typed_steps p typing state machine meaning lows closed widths (throwables_erased erased p closed) met) x
