-- Where a state and a machine's state that fits it stand: at an instruction of the running frame. What the machine's step does there.
use Rattle.std.proofs.Common.{◌≡◌, ◌∙◌, ℕ, List, [], ◌∷◌, length, Option, Some, None, IsTrue, slice_get, refl, sym, ap, subst}
use Rattle.std.specs.Prelude.{All, unwrap_or}
use Rattle.std.specs.List.{AllZip, AllByRecursion}
use Rattle.std.specs.Option.{option_map, option_map_or, option_and_then}
use Rattle.jvm_values.specs.declared.heap.Value.{Value}
use Rattle.jvm_values.specs.declared.heap.Heap.{Heap}
use Rattle.jvm_values.specs.declared.state.Mode.{Mode}
use Rattle.jvm_values.specs.declared.state.Mode.TheVariants.{Normal, Throwing}
use Rattle.jvm_values.specs.declared.typing.PlaceType.{PlaceType}
use Rattle.jvm_values.specs.States.{MachineFrame, MachineState, PlaceTypes}
use Rattle.jvm_values.specs.TypedHeaps.{WorldTypes, AreLawful, Holds, IsTypedHeap}
use Rattle.abs_cells.specs.AbstractStates.{AbstractFrame, AbstractState}
use Rattle.abs_cells.specs.Sound.{IsSound}
use Rattle.abs_cells.specs.Fits.{Meaning, Fits, IsClosedState}
use Rattle.abs_expand.specs.ClassWorldBuiltIns.{HasBuiltIns}
use Rattle.abs_expand.specs.ClassWorldLinking.{is_linked}
use Rattle.abs_expand.specs.ClassWorldWorldTypes.{types_of}
use Rattle.abs_expand.specs.ClassProgramOp.{Op}
use Rattle.abs_expand.specs.ClassProgramMethod.{Method}
use Rattle.abs_expand.specs.ClassProgramStaticField.{StaticField}
use Rattle.abs_expand.specs.ClassProgramPrograms.{Program, insn_at}
use Rattle.jvm_run.specs.OpFormsForms.{Form, form_of}
use Rattle.frame_types.specs.Places.{IsOfWorld, IsSet}
use Rattle.frame_types.specs.Tables.{CodeTypes}
use Rattle.jvm_run.specs.code_verify.Rows.{types_after}
use Rattle.jvm_run.specs.code_verify.TypedStates.{HasStack}
use Rattle.jvm_run.specs.jvm_step.Effects.{Effect, new_instance}
use Rattle.jvm_run.specs.jvm_step.Table.{Work, effect_of, on_frame, on_heap, on_statics}
use Rattle.jvm_run.specs.jvm_step.Running.{Step, step, step_in, normal_step, with_object, applied, work_of}
use Rattle.jvm_run.specs.Laws.{GoesTyped}
use Rattle.jvm_run.proofs.Named.{IsNamed}
use Rattle.abs_expand.specs.inner.Building.{HoldsIds}
use Rattle.abs_expand.specs.Turns.{Here}
use Rattle.form_steps.specs.inner.Lows.{Lows}
use Rattle.form_steps.proofs.Formed.{frames_held}
use Rattle.form_steps.proofs.Tops.{FitFrames}
use Rattle.form_steps.proofs.Bottoms.{StandsOnStatics, last_of}

-- the running frame is at an instruction of a form
pub record Runs (p : Program) (machine : MachineState) (running : MachineFrame) (below : List MachineFrame) (m : Method) (op : Op)
    (next : Option ℕ) (form : Form) : Type 0 where
  pub frames_are : machine.frames ≡ running ∷ below
  pub normal : machine.mode ≡ Normal
  pub is_method : slice_get p.methods running.method ≡ Some m
  pub insn : insn_at p.methods running.method running.pc ≡ Some (op, next)
  pub is_form : form_of op ≡ Some form

-- a good state and a typed state of the machine that fits
pub record Stands (p : Program) (typing : ℕ → CodeTypes) (state : AbstractState) (machine : MachineState) (meaning : Meaning) : Type
    0 where
  pub lows : Lows
  pub sound : IsSound (types_of p.world) state
  pub laws : AreLawful (types_of p.world)
  pub built_ins : HasBuiltIns p.world
  pub linked : IsTrue (is_linked p.world)
  pub heap : IsTypedHeap (types_of p.world) machine.heap
  pub closed : IsClosedState machine state meaning
  pub fits : Fits (types_of p.world) state machine meaning
  pub frame : AbstractFrame
  pub lower : List AbstractFrame
  pub frames_are : state.frames ≡ frame ∷ lower
  pub running : MachineFrame
  pub below : List MachineFrame
  pub fit : FitFrames meaning frame lower machine.statics running below
  pub on_statics : StandsOnStatics p state meaning machine.statics (last_of frame lower) (running ∷ below)
  pub statics_typed : AllZip (λ (field : StaticField) (value : Value). Holds (types_of p.world) machine.heap field.slot value)
      p.statics machine.statics
  pub there : PlaceTypes
  pub typed : HasStack (types_of p.world) machine.heap there.stack running.stack
  pub set : All IsSet there.stack
  pub of_world : All (IsOfWorld (types_of p.world)) there.stack
  -- each local that the typing has is given
  pub given : (n : ℕ) (place : PlaceType) → slice_get there.locals n ≡ Some place → IsSet place → (x : ℕ)
      × (slice_get frame.locals n ≡ Some (Some x))
  pub method : Method
  pub op : Op
  pub next : Option ℕ
  pub form : Form
  pub after : PlaceTypes
  pub types_are : types_after p method form there ≡ Some after
  pub named : IsNamed p method.class op form
  pub runs : Runs p machine running below method op next form
  pub goes : GoesTyped p typing (step p machine)

-- what a test of an id and a split rest on
pub record Rests (p : Program) (state : AbstractState) (machine : MachineState) (meaning : Meaning) : Type 0 where
  pub lows : Lows
  pub sound : IsSound (types_of p.world) state
  pub laws : AreLawful (types_of p.world)
  pub heap : IsTypedHeap (types_of p.world) machine.heap
  pub closed : IsClosedState machine state meaning
  pub fits : Fits (types_of p.world) state machine meaning

pub rests : (p : Program) (typing : ℕ → CodeTypes) (state : AbstractState) (machine : MachineState) (meaning : Meaning)
    → Stands p typing state machine meaning → Rests p state machine meaning
rests p typing state machine meaning s = record {
  lows = s.lows;
  sound = s.sound;
  laws = s.laws;
  heap = s.heap;
  closed = s.closed;
  fits = s.fits;
}

-- the state with these frames, in normal mode
abbrev pub going : List MachineFrame → Heap → List Value → MachineState
going frames heap statics = record { frames = frames; heap = heap; mode = Normal; statics = statics }

module _ (p : Program) (typing : ℕ → CodeTypes) (state : AbstractState) (machine : MachineState) (meaning : Meaning)
    (s : Stands p typing state machine meaning) where
  abbrev pub types : WorldTypes
  types = types_of p.world

  abbrev pub onward : ℕ
  onward = option_map_or (λ (place : ℕ). place) s.next s.frame.pc

  abbrev pub here : Here
  here = record { program = p; state = state; frame = s.frame; below = s.lower; places = s.there.stack; next = onward }

  abbrev pub Work_ : Work
  Work_ = work_of machine s.running

  abbrev pub all_held : AllByRecursion (HoldsIds state) (s.frame ∷ s.lower)
  all_held = subst (AllByRecursion (HoldsIds state)) s.frames_are (frames_held state s.sound.well_formed)

  pub held : HoldsIds state s.frame
  held = all_held.0

  pub lower_held : AllByRecursion (HoldsIds state) s.lower
  lower_held = all_held.1

  -- ---- the step by the effect

  pub stepped : step p machine ≡ unwrap_or (option_and_then (applied p s.below s.next Work_) (effect_of p s.method s.form Work_))
      Step.Stuck
  unfolding step normal_step
  stepped =
      ap (λ (mode : Mode). unwrap_or (step_in p machine mode) Step.Stuck) s.runs.normal
      ∙ ap (λ (frames : List MachineFrame). unwrap_or (normal_step p machine frames) Step.Stuck) s.runs.frames_are
      ∙ ap (λ (found : Option Method). unwrap_or
      (option_and_then (λ (x : Method). option_and_then
      (λ (at : Op × Option ℕ). option_and_then
      (λ (f : Form). option_and_then (applied p s.below at.1 Work_) (effect_of p x f Work_)) (form_of at.0))
      (insn_at p.methods s.running.method s.running.pc)) found) Step.Stuck) s.runs.is_method
      ∙ ap (λ (found : Option (Op × Option ℕ)). unwrap_or
      (option_and_then (λ (at : Op × Option ℕ). option_and_then
      (λ (f : Form). option_and_then (applied p s.below at.1 Work_) (effect_of p s.method f Work_)) (form_of at.0)) found)
      Step.Stuck) s.runs.insn
      ∙ ap (λ (found : Option Form). unwrap_or
      (option_and_then (λ (f : Form). option_and_then (applied p s.below s.next Work_) (effect_of p s.method f Work_)) found)
      Step.Stuck) s.runs.is_form

  pub by_effect : (effect : Option (Effect Work)) → effect_of p s.method s.form Work_ ≡ effect
      → step p machine ≡ unwrap_or (option_and_then (applied p s.below s.next Work_) effect) Step.Stuck
  by_effect effect e = stepped
      ∙ ap (λ (x : Option (Effect Work)). unwrap_or (option_and_then (applied p s.below s.next Work_) x) Step.Stuck) e

  pub not_stuck : step p machine ≡ Step.Stuck → ⊥
  not_stuck e = subst (GoesTyped p typing) e s.goes

  pub some_effect : effect_of p s.method s.form Work_ ≡ None → ⊥
  some_effect e = not_stuck (by_effect None e)

  pub no_frame_effect : (effect : Option (Effect MachineFrame)) → effect_of p s.method s.form Work_ ≡ on_frame Work_ effect
      → effect ≡ None → ⊥
  no_frame_effect effect is e = some_effect (is ∙ ap (on_frame Work_) e)

  pub no_heap_effect : (effect : Option (Effect (MachineFrame × Heap))) → effect_of p s.method s.form Work_ ≡ on_heap Work_ effect
      → effect ≡ None → ⊥
  no_heap_effect effect is e = some_effect (is ∙ ap (on_heap Work_) e)

  -- the next instruction runs
  pub goes_after : (after : Work) → effect_of p s.method s.form Work_ ≡ Some (Effect.Next after)
      → step p machine ≡ Step.Going (going (record after.frame { pc = onward } ∷ s.below) after.heap after.statics)
  goes_after after e = at s.next refl (by_effect (Some (Effect.Next after)) e)
    where
      at : (n : Option ℕ) → s.next ≡ n
          → step p machine ≡ unwrap_or
          (option_map (λ (place : ℕ). Step.Going (going (record after.frame { pc = place } ∷ s.below) after.heap after.statics))
          s.next) Step.Stuck → step p machine ≡ Step.Going
          (going (record after.frame { pc = onward } ∷ s.below) after.heap after.statics)
      at None f g = absurd (not_stuck
          (g ∙ ap (λ (n : Option ℕ). unwrap_or
          (option_map (λ (place : ℕ). Step.Going
          (going (record after.frame { pc = place } ∷ s.below) after.heap after.statics)) n) Step.Stuck) f))
      at (Some place) f g =
          g ∙ ap (λ (n : Option ℕ). unwrap_or
          (option_map (λ (to : ℕ). Step.Going (going (record after.frame { pc = to } ∷ s.below) after.heap after.statics)) n)
          Step.Stuck) f
          ∙ ap (λ (n : Option ℕ). Step.Going
          (going (record after.frame { pc = option_map_or (λ (to : ℕ). to) n s.frame.pc } ∷ s.below) after.heap
          after.statics)) (sym f)

  pub goes_next : (effect : Option (Effect MachineFrame)) (after : MachineFrame)
      → effect_of p s.method s.form Work_ ≡ on_frame Work_ effect → effect ≡ Some (Effect.Next after)
      → step p machine ≡ Step.Going (going (record after { pc = onward } ∷ s.below) machine.heap machine.statics)
  goes_next effect after is e = goes_after (record Work_ { frame = after }) (is ∙ ap (on_frame Work_) e)

  pub goes_to : (effect : Option (Effect MachineFrame)) (place : ℕ) (after : MachineFrame)
      → effect_of p s.method s.form Work_ ≡ on_frame Work_ effect → effect ≡ Some (Effect.Jump place after)
      → step p machine ≡ Step.Going (going (record after { pc = place } ∷ s.below) machine.heap machine.statics)
  goes_to effect place after is e = by_effect (Some (Effect.Jump place (record Work_ { frame = after }))) (is ∙ ap (on_frame Work_) e)

  -- a new object of a built-in class is thrown
  abbrev pub raised : ℕ → MachineState
  raised class = record {
    frames = record s.running { stack = [] } ∷ s.below;
    heap = with_object machine.heap
        (new_instance types class);
    mode = Throwing (length machine.heap.objects);
    statics = machine.statics;
  }

  pub raises : (class : ℕ) → effect_of p s.method s.form Work_ ≡ Some (Effect.Raise class) → step p machine ≡ Step.Going (raised class)
  raises class e = by_effect (Some (Effect.Raise class)) e

  pub raises_frame : (effect : Option (Effect MachineFrame)) (class : ℕ) → effect_of p s.method s.form Work_ ≡ on_frame Work_ effect
      → effect ≡ Some (Effect.Raise class) → step p machine ≡ Step.Going (raised class)
  raises_frame effect class is e = raises class (is ∙ ap (on_frame Work_) e)

  pub raises_heap : (effect : Option (Effect (MachineFrame × Heap))) (class : ℕ) → effect_of p s.method s.form Work_ ≡ on_heap Work_
      effect → effect ≡ Some (Effect.Raise class) → step p machine ≡ Step.Going (raised class)
  raises_heap effect class is e = raises class (is ∙ ap (on_heap Work_) e)
