-- A step in normal mode: the effect of the running frame's instruction, and what is left to do after it, are the written step.
use Rattle.std.proofs.Common.{◌≡◌, ℕ, zero, suc, ◌<◌, Bool, true, false, List, [], ◌∷◌, length, get_or, map, set, Option, Some}
use Rattle.std.proofs.Common.{None, Result, Ok, Err, refl, sym, ap, subst, ◌∙◌, arith}
use Rattle.std.specs.Prelude.{slice_get, unwrap_or, OnErr, ◌==◌}
use Rattle.std.proofs.lemmas.Bool.{false≢true}
use Rattle.std.specs.Option.{option_and_then, option_map}
use Rattle.std.proofs.lemmas.Option.{none-some}
use Rattle.jvm_values.specs.declared.heap.Value.{Value}
use Rattle.jvm_values.specs.declared.heap.Heap.{Heap}
use Rattle.jvm_values.specs.declared.state.Frame.{Frame}
use Rattle.jvm_values.specs.declared.state.Mode.{Mode}
use Rattle.jvm_values.specs.declared.state.Mode.TheVariants.{Normal, Throwing}
use Rattle.jvm_values.specs.States.{MachineFrame, MachineState, frame_of}
use Rattle.jvm_values.proofs.Options.{some_is}
use Rattle.class_program.specs.declared.op.Op.{Op}
use Rattle.class_program.specs.declared.program.Method.{Method}
use Rattle.class_program.specs.Programs.{Program, insn_at}
use Rattle.op_forms.specs.Forms.{Form, form_of}
use Rattle.jvm_step.specs.declared.after.After.{After}
use Rattle.jvm_step.specs.declared.after.After.TheVariants as afters
use Rattle.jvm_step.specs.declared.outcome.Outcome.{Outcome}
use Rattle.jvm_step.specs.declared.outcome.Outcome.TheVariants as outcomes
use Rattle.jvm_step.specs.Acts.{Did, Acts, Tries}
use Rattle.jvm_step.specs.Effects.{Effect, effect_on}
use Rattle.jvm_step.specs.Table.{Work, effect_of}
use Rattle.jvm_step.specs.Running.{Step, work_of, applied, normal_step, throwing_step, step_in, step, goes_on}
use Rattle.jvm_step.specs.Steps.{Does, Steps, MayFail, work_seen, form_at, with_work, effect_in, applied_in, left_to_do, form_here}
use Rattle.jvm_step.specs.Steps.{form_in, IsRunning}
use Rattle.jvm_step.proofs.Doing.{tries_on}

-- ---- what the definitions have in common

pub does_steps : {E : Type 0} (step : Step) (result : Result Outcome E) (old new : MachineState) → Does step result old new
    → Steps step result old new
does_steps (Step.Going state) result old new h = h
does_steps (Step.Returned value) result old new h = h
does_steps (Step.Threw r) result old new h = h
does_steps Step.Stuck result old new h = tt

pub unchanged : {E : Type 0} (step : Step) (fault : E) (old new : MachineState) → new ≡ old → Steps {E = E} step (Err fault) old new
unchanged step fault old new e = does_steps step (Err fault) old new e

stuck : {E : Type 0} (o : Option Step) (result : Result Outcome E) (old new : MachineState) → o ≡ None
    → Steps (unwrap_or o Step.Stuck) result old new
stuck o result old new e = subst (λ (x : Option Step). Steps (unwrap_or x Step.Stuck) result old new) (sym e) tt

form_then_by : (on : Form → Option ℕ → Option Step) (next : Option ℕ) (form : Option Form)
    → option_and_then (λ (f : Form). on f next) form ≡ option_and_then (λ (x : Form × Option ℕ). on x.0 x.1)
    (option_and_then (λ (f : Form). Some (f, next)) form)
form_then_by on next None = refl
form_then_by on next (Some form) = refl

-- the instruction at a place, with what is done with its form
form_then : (on : Form → Option ℕ → Option Step) (o : Option (Op × Option ℕ))
    → option_and_then (λ (here : Op × Option ℕ). option_and_then (λ (form : Form). on form here.1) (form_of here.0)) o
    ≡ option_and_then (λ (x : Form × Option ℕ). on x.0 x.1)
    (option_and_then (λ (here : Op × Option ℕ). option_and_then (λ (form : Form). Some (form, here.1)) (form_of here.0)) o)
form_then on None = refl
form_then on (Some here) = form_then_by on here.1 (form_of here.0)

form_alone_by : (next : Option ℕ) (form : Option Form) (x : Form × Option ℕ)
    → option_and_then (λ (f : Form). Some (f, next)) form ≡ Some x → form ≡ Some x.0
form_alone_by next None x e = absurd (none-some x e)
form_alone_by next (Some form) x e = ap (λ (y : Form × Option ℕ). Some y.0) (some_is e)

form_alone : (o : Option (Op × Option ℕ)) (x : Form × Option ℕ)
    → option_and_then (λ (here : Op × Option ℕ). option_and_then (λ (form : Form). Some (form, here.1)) (form_of here.0)) o ≡ Some x
    → option_and_then form_of (option_map (λ (y : Op × Option ℕ). y.0) o) ≡ Some x.0
form_alone None x e = absurd (none-some x e)
form_alone (Some here) x e = form_alone_by here.1 (form_of here.0) x e

pub form_there : (p : Program) (frame : MachineFrame) (x : Form × Option ℕ) → form_here p frame ≡ Some x
    → form_at p frame.method frame.pc ≡ Some x.0
unfolding form_here
form_there p frame x e = form_alone (insn_at p.methods frame.method frame.pc) x e

module _ (p : Program) (heap : Heap) (mode : Mode) (statics : List Value) where
  abbrev at : List MachineFrame → MachineState
  at frames = record { frames = frames; heap = heap; mode = mode; statics = statics }

  -- ---- where no instruction runs

  pub no_frame : {E : Type 0} (frames : List Frame) (result : Result Outcome E) (new : MachineState) → length frames ≡ 0
      → Steps (unwrap_or (normal_step p (at (map frame_of frames)) (map frame_of frames)) Step.Stuck) result (at (map frame_of frames)) new
  unfolding normal_step
  no_frame [] result new e = tt
  no_frame (frame ∷ below) result new e = absurd (omega (arith, e))

  no_method_by : (frame : MachineFrame) (below : List MachineFrame) → slice_get p.methods frame.method ≡ None
      → normal_step p (at (frame ∷ below)) (frame ∷ below) ≡ None
  unfolding normal_step
  no_method_by frame below e = rw e refl

  pub no_method : {E : Type 0} (frames : List Frame) (frame : Frame) (result : Result Outcome E) (new : MachineState)
      → 0 < length frames → frame ≡ get_or frames 0 frame → slice_get p.methods frame.method ≡ None
      → Steps (unwrap_or (normal_step p (at (map frame_of frames)) (map frame_of frames)) Step.Stuck) result (at (map frame_of frames)) new
  no_method [] frame result new l e n = absurd (omega (arith, l))
  no_method (first ∷ below) frame result new l e n = stuck _ result _ new
      (no_method_by (frame_of first) (map frame_of below) (subst (λ (f : Frame). slice_get p.methods f.method ≡ None) e n))

  pub normal_is : (frame : MachineFrame) (below : List MachineFrame) (m : Method) (here : Option (Form × Option ℕ))
      → slice_get p.methods frame.method ≡ Some m → form_here p frame ≡ here
      → normal_step p (at (frame ∷ below)) (frame ∷ below) ≡ option_and_then
      (λ (x : Form × Option ℕ). option_and_then (λ (e : Effect Work). applied p below x.1 (work_of (at (frame ∷ below)) frame) e)
      (effect_of p m x.0 (work_of (at (frame ∷ below)) frame))) here
  unfolding normal_step form_here
  normal_is frame below m here s e =
      let on : Form → Option ℕ → Option Step = λ (form : Form) (next : Option ℕ). option_and_then
      (λ (x : Effect Work). applied p below next (work_of (at (frame ∷ below)) frame) x)
      (effect_of p m form (work_of (at (frame ∷ below)) frame)) in
      rw s (form_then on (insn_at p.methods frame.method frame.pc) ∙ ap (option_and_then (λ (x : Form × Option ℕ). on x.0 x.1)) e)

  pub no_form : {E : Type 0} (frames : List Frame) (frame : Frame) (m : Method) (result : Result Outcome E) (new : MachineState)
      → 0 < length frames → frame ≡ get_or frames 0 frame → slice_get p.methods frame.method ≡ Some m
      → form_here p (frame_of frame) ≡ None
      → Steps (unwrap_or (normal_step p (at (map frame_of frames)) (map frame_of frames)) Step.Stuck) result (at (map frame_of frames)) new
  no_form [] frame m result new l e s n = absurd (omega (arith, l))
  no_form (first ∷ below) frame m result new l e s n = stuck _ result _ new
      (normal_is (frame_of first) (map frame_of below) m None (subst (λ (f : Frame). slice_get p.methods f.method ≡ Some m) e s)
      (subst (λ (f : Frame). form_here p (frame_of f) ≡ None) e n))

  -- ---- the effect of the running frame's instruction

  pub performed : {E : Type 0} (m : Method) (form : Form) (frames : List Frame) (frame after : Frame) (others : List Value)
      (objects : Heap) (result : Result After E) → 0 < length frames → frame ≡ get_or frames 0 frame
      → Tries (effect_of p m form (work_seen frame statics heap)) result (work_seen frame statics heap)
      (work_seen after others objects) → Tries (effect_in p m form (at (map frame_of frames)) (map frame_of frames)) result
      (at (map frame_of frames)) (record { frames = map frame_of (set frames 0 after); heap = objects; mode = mode; statics = others })
  performed m form [] frame after others objects result l e h = absurd (omega (arith, l))
  performed m form (first ∷ below) frame after others objects result l e h = tries_on
      (with_work (at (frame_of first ∷ map frame_of below))) (effect_of p m form (work_seen first statics heap)) result
      (work_seen first statics heap) (work_seen after others objects)
      (subst (λ (f : Frame). Tries (effect_of p m form (work_seen f statics heap)) result (work_seen f statics heap)
      (work_seen after others objects)) e h)

  -- ---- and what is left to do

  goes_done : {E : Type 0} (frame : MachineFrame) (below : List MachineFrame) (place : ℕ) (work : Work) (mid new : MachineState)
      (result : Result Outcome E) → OnErr result ⊥ → Does (goes_on below place work) result mid new
      → Does (goes_on below place work) result (at (frame ∷ below)) new
  goes_done frame below place work mid new (Err fault) m h = absurd m
  goes_done frame below place work mid new (Ok outcomes.Going) m h = h
  goes_done frame below place work mid new (Ok (outcomes.Returned value)) m h = absurd h
  goes_done frame below place work mid new (Ok (outcomes.Threw r)) m h = absurd h

  next_done : {E : Type 0} (frame : MachineFrame) (below : List MachineFrame) (next : Option ℕ) (work : Work)
      (mid new : MachineState) (result : Result Outcome E) → OnErr result ⊥
      → Does (unwrap_or (option_map (λ (place : ℕ). goes_on below place work) next) Step.Stuck) result mid new
      → Does (unwrap_or (option_map (λ (place : ℕ). goes_on below place work) next) Step.Stuck) result (at (frame ∷ below)) new
  next_done frame below (Some place) work mid new result m h = goes_done frame below place work mid new result m h
  next_done frame below None work mid new (Err fault) m h = absurd m
  next_done frame below None work mid new (Ok outcome) m h = tt

  same_done : {E : Type 0} (frame : MachineFrame) (below : List MachineFrame) (next : Option ℕ) (e : Effect Work) (after : After)
      (mid new : MachineState) (result : Result Outcome E) → mid ≡ at (frame ∷ below)
      → left_to_do after (work_of (at (frame ∷ below)) frame) ≡ e → Does (applied_in p next after mid mid.frames) result mid new
      → Does (unwrap_or (applied p below next (work_of (at (frame ∷ below)) frame) e) Step.Stuck) result (at (frame ∷ below)) new
  same_done frame below next e after mid new result is f h =
      let k : Does (applied_in p next after (at (frame ∷ below)) (frame ∷ below)) result (at (frame ∷ below)) new = subst
      (λ (s : MachineState). Does (applied_in p next after s s.frames) result s new) is h in
      subst (λ (x : Effect Work). Does (unwrap_or (applied p below next (work_of (at (frame ∷ below)) frame) x) Step.Stuck) result
      (at (frame ∷ below)) new) f k

  done_with : {E : Type 0} (frame : MachineFrame) (below : List MachineFrame) (next : Option ℕ) (e : Effect Work) (after : After)
      (mid new : MachineState) (result : Result Outcome E)
      → Did (effect_on (with_work (at (frame ∷ below))) e) after (at (frame ∷ below)) mid → OnErr result (MayFail after)
      → Does (applied_in p next after mid mid.frames) result mid new
      → Does (unwrap_or (applied p below next (work_of (at (frame ∷ below)) frame) e) Step.Stuck) result (at (frame ∷ below)) new
  done_with frame below next (Effect.Next x) afters.Next mid new result h f k = next_done frame below next x mid new result f
      (subst (λ (s : MachineState). Does (applied_in p next afters.Next s s.frames) result mid new) h k)
  done_with frame below next (Effect.Next x) (afters.Jump to) mid new result h f k = absurd h
  done_with frame below next (Effect.Next x) (afters.Raise raised) mid new result h f k = absurd h
  done_with frame below next (Effect.Next x) (afters.Throw thrown) mid new result h f k = absurd h
  done_with frame below next (Effect.Next x) (afters.Invoke method taken) mid new result h f k = absurd h
  done_with frame below next (Effect.Next x) (afters.Return result_value) mid new result h f k = absurd h
  done_with frame below next (Effect.Jump place x) afters.Next mid new result h f k = absurd h
  done_with frame below next (Effect.Jump place x) (afters.Jump to) mid new result h f k = goes_done frame below place x mid new
      result f (subst (λ (q : ℕ). Does (goes_on below q x) result mid new) h.0
      (subst (λ (s : MachineState). Does (applied_in p next (afters.Jump to) s s.frames) result mid new) h.1 k))
  done_with frame below next (Effect.Jump place x) (afters.Raise raised) mid new result h f k = absurd h
  done_with frame below next (Effect.Jump place x) (afters.Throw thrown) mid new result h f k = absurd h
  done_with frame below next (Effect.Jump place x) (afters.Invoke method taken) mid new result h f k = absurd h
  done_with frame below next (Effect.Jump place x) (afters.Return result_value) mid new result h f k = absurd h
  done_with frame below next (Effect.Raise class) afters.Next mid new result h f k = absurd h
  done_with frame below next (Effect.Raise class) (afters.Jump to) mid new result h f k = absurd h
  done_with frame below next (Effect.Raise class) (afters.Raise raised) mid new result h f k = same_done frame below next
      (Effect.Raise class) (afters.Raise raised) mid new result h.1 (ap Effect.Raise h.0) k
  done_with frame below next (Effect.Raise class) (afters.Throw thrown) mid new result h f k = absurd h
  done_with frame below next (Effect.Raise class) (afters.Invoke method taken) mid new result h f k = absurd h
  done_with frame below next (Effect.Raise class) (afters.Return result_value) mid new result h f k = absurd h
  done_with frame below next (Effect.Throw r) afters.Next mid new result h f k = absurd h
  done_with frame below next (Effect.Throw r) (afters.Jump to) mid new result h f k = absurd h
  done_with frame below next (Effect.Throw r) (afters.Raise raised) mid new result h f k = absurd h
  done_with frame below next (Effect.Throw r) (afters.Throw thrown) mid new result h f k = same_done frame below next
      (Effect.Throw r) (afters.Throw thrown) mid new result h.1 (ap Effect.Throw h.0) k
  done_with frame below next (Effect.Throw r) (afters.Invoke method taken) mid new result h f k = absurd h
  done_with frame below next (Effect.Throw r) (afters.Return result_value) mid new result h f k = absurd h
  done_with frame below next (Effect.Invoke number count) afters.Next mid new result h f k = absurd h
  done_with frame below next (Effect.Invoke number count) (afters.Jump to) mid new result h f k = absurd h
  done_with frame below next (Effect.Invoke number count) (afters.Raise raised) mid new result h f k = absurd h
  done_with frame below next (Effect.Invoke number count) (afters.Throw thrown) mid new result h f k = absurd h
  done_with frame below next (Effect.Invoke number count) (afters.Invoke method taken) mid new result h f k = same_done frame below
      next (Effect.Invoke number count) (afters.Invoke method taken) mid new result h.2 (ap (λ (q : ℕ). Effect.Invoke q taken) h.0
      ∙ ap (λ (q : ℕ). Effect.Invoke number q) h.1) k
  done_with frame below next (Effect.Invoke number count) (afters.Return result_value) mid new result h f k = absurd h
  done_with frame below next (Effect.Return value) afters.Next mid new result h f k = absurd h
  done_with frame below next (Effect.Return value) (afters.Jump to) mid new result h f k = absurd h
  done_with frame below next (Effect.Return value) (afters.Raise raised) mid new result h f k = absurd h
  done_with frame below next (Effect.Return value) (afters.Throw thrown) mid new result h f k = absurd h
  done_with frame below next (Effect.Return value) (afters.Invoke method taken) mid new result h f k = absurd h
  done_with frame below next (Effect.Return value) (afters.Return result_value) mid new result h f k = same_done frame below next
      (Effect.Return value) (afters.Return result_value) mid new result h.1 (ap Effect.Return h.0) k

  done_or_stuck : {E : Type 0} (frame : MachineFrame) (below : List MachineFrame) (next : Option ℕ) (e : Option (Effect Work))
      (after : After) (mid new : MachineState) (result : Result Outcome E)
      → Acts (option_map (effect_on (with_work (at (frame ∷ below)))) e) after (at (frame ∷ below)) mid
      → OnErr result (MayFail after) → Does (applied_in p next after mid mid.frames) result mid new
      → Steps (unwrap_or (option_and_then (λ (x : Effect Work). applied p below next (work_of (at (frame ∷ below)) frame) x) e)
      Step.Stuck) result (at (frame ∷ below)) new
  done_or_stuck frame below next None after mid new result a f h = tt
  done_or_stuck frame below next (Some e) after mid new result a f h = does_steps
      (unwrap_or (applied p below next (work_of (at (frame ∷ below)) frame) e) Step.Stuck) result (at (frame ∷ below)) new
      (done_with frame below next e after mid new result a f h)

  pub normal_done : {E : Type 0} (frames : List MachineFrame) (m : Method) (form : Form) (next : Option ℕ) (after : After)
      (mid new : MachineState) (result : Result Outcome E) → IsRunning p frames m form next
      → Acts (effect_in p m form (at frames) frames) after (at frames) mid → OnErr result (MayFail after)
      → Does (applied_in p next after mid mid.frames) result mid new
      → Steps (unwrap_or (normal_step p (at frames) frames) Step.Stuck) result (at frames) new
  normal_done [] m form next after mid new result runs a f h = absurd runs
  normal_done (frame ∷ below) m form next after mid new result runs a f h = subst
      (λ (o : Option Step). Steps (unwrap_or o Step.Stuck) result (at (frame ∷ below)) new)
      (sym (normal_is frame below m (Some (form, next)) runs.0 runs.1))
      (done_or_stuck frame below next (effect_of p m form (work_of (at (frame ∷ below)) frame)) after mid new result a f h)

  pub form_running : (frames : List MachineFrame) (m : Method) (form : Form) (next : Option ℕ) → IsRunning p frames m form next
      → form_in p frames ≡ Some form
  form_running [] m form next runs = absurd runs
  form_running (frame ∷ below) m form next runs = form_there p frame (form, next) runs.1

pub running : (p : Program) (frames : List Frame) (frame : Frame) (m : Method) (form : Form) (next : Option ℕ) → 0 < length frames
    → frame ≡ get_or frames 0 frame → slice_get p.methods frame.method ≡ Some m → form_here p (frame_of frame) ≡ Some (form, next)
    → IsRunning p (map frame_of frames) m form next
running p [] frame m form next l e s f = absurd (omega (arith, l))
running p (first ∷ below) frame m form next l e s f = (
  subst (λ (x : Frame). slice_get p.methods x.method ≡ Some m) e s,
  subst
      (λ (x : Frame). form_here p (frame_of x) ≡ Some (form, next)) e f,
)

pub step_normal : (p : Program) (s : MachineState) → s.mode ≡ Normal → step p s ≡ unwrap_or (normal_step p s s.frames) Step.Stuck
unfolding step
step_normal p s e = ap (λ (m : Mode). unwrap_or (step_in p s m) Step.Stuck) e

pub step_throwing : (p : Program) (s : MachineState) (r : ℕ) → s.mode ≡ Throwing r
    → step p s ≡ unwrap_or (throwing_step p s r s.frames) Step.Stuck
unfolding step
step_throwing p s r e = ap (λ (m : Mode). unwrap_or (step_in p s m) Step.Stuck) e

-- what a test for no frames says
pub some_if : (n : ℕ) (b : Bool) → b ≡ (n == 0) → b ≡ false → 0 < n
some_if zero b e f = absurd (false≢true (sym f ∙ e))
some_if (suc n) b e f = omega arith
