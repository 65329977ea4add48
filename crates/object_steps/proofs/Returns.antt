-- Returns: the run ends, or the caller goes on after its call.
use Rattle.std.proofs.Common.{◌≡◌, ◌∙◌, inl, ℕ, ℤ, Bool, true, false, cond, List, [], ◌∷◌, ◌++◌, map, Option, Some, None, refl, sym}
use Rattle.std.proofs.Common.{ap, subst}
use Rattle.std.specs.Prelude.{unwrap_or}
use Rattle.std.specs.List.{AllByRecursion, AllZip}
use Rattle.std.specs.Option.{option_map, option_and_then, option_to_list}
use Rattle.std.proofs.lemmas.List.Elements.{All-nil}
use Rattle.jvm_values.specs.declared.heap.Value.{Value}
use Rattle.jvm_values.specs.declared.heap.Value.TheVariants as values
use Rattle.jvm_values.specs.declared.types.Slot.{Slot}
use Rattle.jvm_values.specs.declared.heap.Heap.{Heap}
use Rattle.jvm_values.specs.States.{MachineFrame, MachineState}
use Rattle.jvm_values.specs.TypedHeaps.{WorldTypes}
use Rattle.abs_cells.specs.declared.cells.Cell.TheVariants as cells
use Rattle.abs_cells.specs.AbstractStates.{AbstractFrame, AbstractState}
use Rattle.abs_cells.specs.Cells.{HasCell}
use Rattle.abs_cells.specs.Fits.{Meaning, FitsFrame, with_statics}
use Rattle.jvm_step.specs.class_world.WorldTypes.{types_of}
use Rattle.jvm_step.specs.class_program.declared.op.Op.{Op}
use Rattle.jvm_step.specs.class_program.Programs.{Program, insn_at}
use Rattle.frame_types.specs.Tables.{CodeTypes}
use Rattle.jvm_step.specs.Effects.{Effect, is_number_slot, ireturn_effect, is_returned, areturn_effect, return_effect}
use Rattle.jvm_step.specs.Operands.{top_int, top_reference}
use Rattle.jvm_step.specs.Table.{Work, effect_of, on_frame}
use Rattle.jvm_step.specs.Running.{Step, step, with_result, returns, IsEnd}
use Rattle.form_steps.specs.TermGraphEdges.{HoldsBetween}
use Rattle.form_steps.specs.abs_expand.Plans.{Plan, no_rows}
use Rattle.form_steps.specs.abs_expand.inner.Building.{HoldsIds}
use Rattle.form_steps.specs.abs_expand.Table.{step_if, returned_to, value_plan}
use Rattle.form_steps.specs.abs_expand.Turns.{moves}
use Rattle.form_steps.proofs.Tops.{FitFrames, tops, from_tops, stacked}
use Rattle.form_steps.proofs.Standing.{Stands, here, Work_, lower_held, going, by_effect, not_stuck, no_frame_effect}
use Rattle.form_steps.proofs.TurnKinds.{Meets, moving_turn}
use Rattle.form_steps.proofs.Operands.{by_int}
use Rattle.object_steps.proofs.Moves.{by_reference}

ireturn_by : (result : Option Slot) (f : MachineFrame) (n : ℤ) (below : List Value) → top_int f.stack ≡ Some (n, below)
    → ireturn_effect result f ≡ cond (is_number_slot result) (Some (Effect.Return (Some (values.Int n)))) None
unfolding ireturn_effect
ireturn_by result f n below e = rw e refl

ireturn_stuck : (result : Option Slot) (f : MachineFrame) → top_int f.stack ≡ None → ireturn_effect result f ≡ None
unfolding ireturn_effect
ireturn_stuck result f e = rw e refl

areturn_by : (types : WorldTypes) (result : Option Slot) (heap : Heap) (f : MachineFrame) (value : Value) (below : List Value)
    → top_reference f.stack ≡ Some (value, below) → areturn_effect types result heap f ≡ cond (is_returned types heap result value)
    (Some (Effect.Return (Some value))) None
unfolding areturn_effect
areturn_by types result heap f value below e = rw e refl

areturn_stuck : (types : WorldTypes) (result : Option Slot) (heap : Heap) (f : MachineFrame) → top_reference f.stack ≡ None
    → areturn_effect types result heap f ≡ None
unfolding areturn_effect
areturn_stuck types result heap f e = rw e refl

-- what a call that returns gives its caller's machine frame
returns_none : (p : Program) (value : Option Value) (work : Work) → returns p [] value work ≡ Some (Step.Returned value)
unfolding returns
returns_none p value work = refl

returns_some : (p : Program) (caller : MachineFrame) (below : List MachineFrame) (value : Option Value) (work : Work)
    (found : Option (Op × Option ℕ)) → insn_at p.methods caller.method caller.pc ≡ found
    → returns p (caller ∷ below) value work ≡ option_map
    (λ (place : ℕ). Step.Going (going (record caller { pc = place; stack = with_result value caller.stack } ∷ below) work.heap
    work.statics)) (option_and_then (λ (at : Op × Option ℕ). at.1) found)
unfolding returns
returns_some p caller below value work None e = rw e refl
returns_some p caller below value work (Some (op, None)) e = rw e refl
returns_some p caller below value work (Some (op, Some place)) e = rw e refl

module _ (p : Program) (typing : ℕ → CodeTypes) (state : AbstractState) (machine : MachineState) (meaning : Meaning)
    (s : Stands p typing state machine meaning) where
  abbrev Covered : Plan → Type 0
  Covered = Meets p state machine meaning

  abbrev Holds : ℕ → Type 0
  Holds = HasCell (λ _. true) state

  abbrev Effects : Option (Effect MachineFrame) → Type 0
  Effects effect = effect_of p s.method s.form (Work_ p typing state machine meaning s) ≡ on_frame
      (Work_ p typing state machine meaning s) effect

  -- the value that is returned is that of an id, or there is none
  abbrev IsResult : Option ℕ → Option Value → Type 0
  IsResult None None = Unit {0}
  IsResult None (Some value) = ⊥
  IsResult (Some x) None = ⊥
  IsResult (Some x) (Some value) = Holds x × (value ≡ meaning x)

  result_stack : (x : Option ℕ) (value : Option Value) → IsResult x value → (ids : List ℕ) (stack : List Value)
      → stack ≡ map meaning ids → with_result value stack ≡ map meaning (option_to_list x ++ ids)
  result_stack None None r ids stack e = e
  result_stack None (Some value) r ids stack e = absurd r
  result_stack (Some x) None r ids stack e = absurd r
  result_stack (Some x) (Some value) r ids stack e = ap (λ (vs : List Value). value ∷ vs) e ∙ ap (λ (v : Value). v ∷ map meaning ids) r.1

  result_held : (x : Option ℕ) (value : Option Value) → IsResult x value → (ids : List ℕ) → AllByRecursion Holds ids
      → AllByRecursion Holds (option_to_list x ++ ids)
  result_held None value r ids h = h
  result_held (Some x) None r ids h = absurd r
  result_held (Some x) (Some value) r ids h = (r.0, h)

  -- it returns
  pub returned : (x : Option ℕ) (value : Option Value) (effect : Option (Effect MachineFrame)) → IsResult x value → Effects effect
      → effect ≡ Some (Effect.Return value) → Covered (returned_to (here p typing state machine meaning s) x s.lower)
  returned x value effect r is e = at s.lower s.below refl refl
    where
      steps_by : step p machine ≡ unwrap_or (returns p s.below value (Work_ p typing state machine meaning s)) Step.Stuck
      steps_by = by_effect p typing state machine meaning s (Some (Effect.Return value))
          (is ∙ ap (on_frame (Work_ p typing state machine meaning s)) e)

      fit_lower : (lower : List AbstractFrame) (below : List MachineFrame) → s.lower ≡ lower → s.below ≡ below
          → AllZip (FitsFrame meaning) lower (with_statics machine.statics below)
      fit_lower lower below f g = subst
          (λ (l : List AbstractFrame). AllZip (FitsFrame meaning) l (with_statics machine.statics below)) f
          (subst (λ (b : List MachineFrame). AllZip (FitsFrame meaning) s.lower (with_statics machine.statics b)) g s.fit.lower_fit)

      resumed : (caller : AbstractFrame) (lower : List AbstractFrame) (waiting : MachineFrame) (below : List MachineFrame)
          → AllByRecursion (HoldsIds state) (caller ∷ lower) → FitFrames meaning caller lower machine.statics waiting below
          → (found : Option (Op × Option ℕ)) → insn_at p.methods caller.method caller.pc ≡ found
          → step p machine ≡ unwrap_or
          (option_map (λ (place : ℕ). Step.Going
          (going (record waiting { pc = place; stack = with_result value waiting.stack } ∷ below) machine.heap
          machine.statics)) (option_and_then (λ (at : Op × Option ℕ). at.1) found)) Step.Stuck
          → Covered (step_if (option_map
          (λ (place : ℕ). moves (record caller { pc = place; stack = option_to_list x ++ caller.stack } ∷ lower))
          (option_and_then (λ (at : Op × Option ℕ). at.1) found)))
      resumed caller lower waiting below h fit None e g = absurd (not_stuck p typing state machine meaning s g)
      resumed caller lower waiting below h fit (Some (op, None)) e g = absurd (not_stuck p typing state machine meaning s g)
      resumed caller lower waiting below h fit (Some (op, Some place)) e g =
          inl (moving_turn p typing state machine meaning s []
          (record { method = caller.method; pc = place; locals = caller.locals; stack = option_to_list x ++ caller.stack }
          ∷ lower) no_rows (record waiting { pc = place; stack = with_result value waiting.stack } ∷ below) machine.statics tt
          (record { locals = h.0.locals; stack = result_held x value r caller.stack h.0.stack }, h.1)
          (from_tops meaning (record {
            method = caller.method;
            pc = place;
            locals = caller.locals;
            stack = option_to_list x
                ++ caller.stack;
          }) lower machine.statics (record waiting { pc = place; stack = with_result value waiting.stack }) below
          (stacked meaning caller lower machine.statics waiting below place (option_to_list x ++ caller.stack)
          (with_result value waiting.stack) (result_stack x value r caller.stack waiting.stack fit.top.stack) fit))
          (λ id. All-nil (HoldsBetween meaning meaning)) g)

      at : (lower : List AbstractFrame) (below : List MachineFrame) → s.lower ≡ lower → s.below ≡ below
          → Covered (returned_to (here p typing state machine meaning s) x lower)
      at [] [] f g =
          subst IsEnd (sym (steps_by
          ∙ ap (λ (b : List MachineFrame). unwrap_or (returns p b value (Work_ p typing state machine meaning s))
          Step.Stuck) g ∙ ap (λ (o : Option Step). unwrap_or o Step.Stuck)
          (returns_none p value (Work_ p typing state machine meaning s)))) tt
      at [] (waiting ∷ []) f g = absurd (fit_lower [] (waiting ∷ []) f g)
      at [] (waiting ∷ next ∷ below) f g = absurd (fit_lower [] (waiting ∷ next ∷ below) f g)
      at (caller ∷ lower) [] f g = absurd (fit_lower (caller ∷ lower) [] f g)
      at (caller ∷ lower) (waiting ∷ below) f g =
          let fit = tops meaning caller lower machine.statics waiting below (fit_lower (caller ∷ lower) (waiting ∷ below) f g) in
          resumed caller lower waiting below
          (subst (AllByRecursion (HoldsIds state)) f (lower_held p typing state machine meaning s)) fit
          (insn_at p.methods caller.method caller.pc) refl
          (steps_by ∙ ap (λ (b : List MachineFrame). unwrap_or (returns p b value (Work_ p typing state machine meaning s)) Step.Stuck) g
          ∙ ap (λ (o : Option Step). unwrap_or o Step.Stuck)
          (returns_some p waiting below value (Work_ p typing state machine meaning s)
          (insn_at p.methods caller.method caller.pc) (ap (λ (m : ℕ). insn_at p.methods m waiting.pc) fit.top.method
          ∙ ap (insn_at p.methods caller.method) fit.top.pc)))

  none : (effect : Option (Effect MachineFrame)) → Effects effect → effect ≡ None → ⊥
  none = no_frame_effect p typing state machine meaning s

  given : (test : Bool) (value : Value) (x : ℕ) (effect : Option (Effect MachineFrame)) → Holds x → value ≡ meaning x
      → Effects effect → effect ≡ cond test (Some (Effect.Return (Some value))) None
      → Covered (returned_to (here p typing state machine meaning s) (Some x) s.lower)
  given true value x effect h v is e = returned (Some x) (Some value) effect (h, v) is e
  given false value x effect h v is e = absurd (none effect is e)

  pub int_returned : Effects (ireturn_effect s.method.result s.running)
      → Covered (value_plan (here p typing state machine meaning s) s.frame.stack)
  int_returned is =
      by_int p typing state machine meaning s (value_plan (here p typing state machine meaning s))
      (λ f. none (ireturn_effect s.method.result s.running) is (ireturn_stuck s.method.result s.running f)) (λ a rest e t.
      given (is_number_slot s.method.result) (values.Int t.number) a (ireturn_effect s.method.result s.running)
      (record { cell = cells.Int t.int.old; is = t.int.at; sort_is = refl }) (sym t.int.is) is
      (ireturn_by s.method.result s.running t.number (map meaning rest) (ap top_int (e ∙ t.stack)))) s.frame.stack refl

  pub reference_returned : Effects (areturn_effect (types_of p.world) s.method.result machine.heap s.running)
      → Covered (value_plan (here p typing state machine meaning s) s.frame.stack)
  reference_returned is =
      by_reference p typing state machine meaning s (value_plan (here p typing state machine meaning s))
      (λ f. none (areturn_effect (types_of p.world) s.method.result machine.heap s.running) is
      (areturn_stuck (types_of p.world) s.method.result machine.heap s.running f)) (λ a rest h e t.
      given (is_returned (types_of p.world) machine.heap s.method.result (meaning a)) (meaning a) a
      (areturn_effect (types_of p.world) s.method.result machine.heap s.running) h.0 refl is
      (areturn_by (types_of p.world) s.method.result machine.heap s.running (meaning a) (map meaning rest) t)) s.frame.stack refl

  pub nothing_returned : Effects (return_effect s.method.result s.running)
      → Covered (returned_to (here p typing state machine meaning s) None s.lower)
  nothing_returned is = at s.method.result refl
    where
      at : (result : Option Slot) → s.method.result ≡ result → Covered (returned_to (here p typing state machine meaning s) None s.lower)
      at None f = returned None None (return_effect s.method.result s.running) tt is
          (ap (λ (r : Option Slot). return_effect r s.running) f)
      at (Some slot) f = absurd (none (return_effect s.method.result s.running) is (ap (λ (r : Option Slot). return_effect r s.running) f))
