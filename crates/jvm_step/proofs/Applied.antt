-- What is left to do after an instruction, done: the changes of the state are what the definitions make of it.
use Rattle.std.proofs.Common.{◌≡◌, ℕ, ◌<◌, List, [], ◌∷◌, length, get_or, map, take, reverse, Option, Some, None, refl, sym, ap}
use Rattle.std.proofs.Common.{subst, ◌∙◌, arith}
use Rattle.std.specs.Prelude.{slice_get, unwrap_or}
use Rattle.std.specs.Option.{option_and_then}
use Rattle.std.proofs.lemmas.List.{length-map}
use Rattle.std.proofs.lemmas.Option.{none-some}
use Rattle.jvm_values.specs.declared.heap.Value.{Value}
use Rattle.jvm_values.specs.declared.heap.Heap.{Heap}
use Rattle.jvm_values.specs.declared.state.Frame.{Frame}
use Rattle.jvm_values.specs.declared.state.Mode.{Mode}
use Rattle.jvm_values.specs.States.{MachineFrame, MachineState, frame_of}
use Rattle.class_program.specs.declared.op.Op.{Op}
use Rattle.class_program.specs.declared.program.Method.{Method}
use Rattle.class_program.specs.Programs.{Program, insn_at}
use Rattle.jvm_step.specs.declared.after.After.TheVariants as afters
use Rattle.jvm_step.specs.declared.outcome.Outcome.TheVariants as outcomes
use Rattle.jvm_step.specs.Effects.{types_of, new_instance}
use Rattle.jvm_step.specs.Running.{Step, new_frame, entered, invokes, returns, goes_on, with_result}
use Rattle.jvm_step.specs.Steps.{Stepped, applied_in, going_at, thrown_in, raised_in, called_in, returned_in}

head_is : (x y : MachineFrame) (xs ys : List MachineFrame) → x ∷ xs ≡ y ∷ ys → x ≡ y
head_is x y xs ys e = cc

-- the caller with the result on its stack
abbrev given_to : MachineFrame → Option Value → MachineFrame
given_to caller value = record caller { stack = with_result value caller.stack }

pub behind : (o : Option (Op × Option ℕ)) (place : ℕ) (on : ℕ → Step) → option_and_then (λ (x : Op × Option ℕ). x.1) o ≡ Some place
    → option_and_then (λ (here : Op × Option ℕ). option_and_then (λ (q : ℕ). Some (on q)) here.1) o ≡ Some (on place)
behind None place on e = absurd (none-some place e)
behind (Some here) place on e = ap (option_and_then (λ (q : ℕ). Some (on q))) e

none_behind : (o : Option (Op × Option ℕ)) (on : ℕ → Step) → option_and_then (λ (x : Op × Option ℕ). x.1) o ≡ None
    → option_and_then (λ (here : Op × Option ℕ). option_and_then (λ (q : ℕ). Some (on q)) here.1) o ≡ None
none_behind None on e = refl
none_behind (Some here) on e = ap (option_and_then (λ (q : ℕ). Some (on q))) e

-- the place behind the one where the running frame's caller is
abbrev pub place_in : Program → List MachineFrame → Option ℕ
place_in p [] = None
place_in p (frame ∷ []) = None
place_in p (frame ∷ caller ∷ below) = option_and_then (λ (x : Op × Option ℕ). x.1) (insn_at p.methods caller.method caller.pc)

pub place_of_caller : (p : Program) (frames : List Frame) (caller : Frame) (place : Option ℕ) → 1 < length frames
    → caller ≡ get_or frames 1 caller
    → place ≡ option_and_then (λ (x : Op × Option ℕ). x.1) (insn_at p.methods caller.method caller.pc)
    → place_in p (map frame_of frames) ≡ place
place_of_caller p [] caller place l e f = absurd (omega (arith, l))
place_of_caller p (frame ∷ []) caller place l e f = absurd (omega (arith, l))
place_of_caller p (frame ∷ other ∷ below) caller place l e f = ap
    (λ (x : Frame). option_and_then (λ (y : Op × Option ℕ). y.1) (insn_at p.methods x.method x.pc)) (sym e) ∙ sym f

-- the running frame of the code, and those below it
pub record Runs (frames : List Frame) : Type 0 where
  pub frame : MachineFrame
  pub below : List MachineFrame
  pub are : map frame_of frames ≡ frame ∷ below

pub runs : (frames : List Frame) → 0 < length frames → Runs frames
runs [] l = absurd (omega (arith, l))
runs (frame ∷ below) l = record { frame = frame_of frame; below = map frame_of below; are = refl }

pub mapped : (n : ℕ) (frames : List Frame) → n < length frames → n < length (map frame_of frames)
mapped n frames l = subst (λ (k : ℕ). n < k) (sym (length-map frames frame_of)) l

pub few_mapped : (n : ℕ) (frames : List Frame) → length frames < n → length (map frame_of frames) < n
few_mapped n frames l = subst (λ (k : ℕ). k < n) (sym (length-map frames frame_of)) l

module _ (p : Program) (next : Option ℕ) (heap : Heap) (mode : Mode) (statics : List Value) where
  abbrev at : List MachineFrame → MachineState
  at frames = record { frames = frames; heap = heap; mode = mode; statics = statics }

  pub jumped : (frames : List MachineFrame) (place : ℕ) (new : MachineState) → 0 < length frames → new ≡ going_at place (at frames)
      → Stepped (applied_in p next (afters.Jump place) (at frames) frames) outcomes.Going (at frames) new
  jumped [] place new l e = absurd (omega (arith, l))
  jumped (frame ∷ below) place new l e = e

  pub thrown : (frames : List MachineFrame) (r : ℕ) (new : MachineState) → 0 < length frames → new ≡ thrown_in r (at frames)
      → Stepped (applied_in p next (afters.Throw r) (at frames) frames) outcomes.Going (at frames) new
  thrown [] r new l e = absurd (omega (arith, l))
  thrown (frame ∷ below) r new l e = e

  pub raised : (frames : List MachineFrame) (class : ℕ) (new : MachineState) → 0 < length frames
      → new ≡ raised_in (new_instance (types_of p.world) class) (at frames)
      → Stepped (applied_in p next (afters.Raise class) (at frames) frames) outcomes.Going (at frames) new
  raised [] class new l e = absurd (omega (arith, l))
  raised (frame ∷ below) class new l e = e

  pub ended : (frames : List MachineFrame) (value : Option Value) (new : MachineState) → length frames < 2 → new ≡ at frames
      → Stepped (applied_in p next (afters.Return value) (at frames) frames) (outcomes.Returned value) (at frames) new
  unfolding returns
  ended [] value new m e = tt
  ended (frame ∷ []) value new m e = (refl, e)
  ended (frame ∷ caller ∷ below) value new m e = absurd (omega (arith, m))

  nexted_by : (frames : List MachineFrame) (n : Option ℕ) (place : ℕ) (new : MachineState) → n ≡ Some place → 0 < length frames
      → new ≡ going_at place (at frames) → Stepped (applied_in p n afters.Next (at frames) frames) outcomes.Going (at frames) new
  nexted_by [] n place new s l e = absurd (omega (arith, l))
  nexted_by (frame ∷ below) n place new s l e = subst
      (λ (m : Option ℕ). Stepped (applied_in p m afters.Next (at (frame ∷ below)) (frame ∷ below)) outcomes.Going
      (at (frame ∷ below)) new) (sym s) e

  pub nexted : (frames : List MachineFrame) (place : ℕ) (new : MachineState) → next ≡ Some place → 0 < length frames
      → new ≡ going_at place (at frames) → Stepped (applied_in p next afters.Next (at frames) frames) outcomes.Going (at frames) new
  nexted frames place new s l e = nexted_by frames next place new s l e

  pub none_next : (frames : List MachineFrame) (n : Option ℕ) (new : MachineState) → n ≡ None
      → Stepped (applied_in p n afters.Next (at frames) frames) outcomes.Going (at frames) new
  none_next [] n new s = tt
  none_next (frame ∷ below) n new s = subst
      (λ (m : Option ℕ). Stepped (applied_in p m afters.Next (at (frame ∷ below)) (frame ∷ below)) outcomes.Going
      (at (frame ∷ below)) new) (sym s) tt

  pub called : (frames : List MachineFrame) (frame : MachineFrame) (below : List MachineFrame) (number count : ℕ) (m : Method)
      (new : MachineState) → frames ≡ frame ∷ below → slice_get p.methods number ≡ Some m
      → new ≡ called_in (new_frame number m (reverse (take count frame.stack))) count (at frames)
      → Stepped (applied_in p next (afters.Invoke number count) (at frames) frames) outcomes.Going (at frames) new
  unfolding invokes entered
  called [] frame below number count m new are s e = absurd (cc)
  called (first ∷ others) frame below number count m new are s e = subst
      (λ (f : MachineFrame). new ≡ called_in (new_frame number m (reverse (take count f.stack))) count (at (first ∷ others))
      → Stepped (applied_in p next (afters.Invoke number count) (at (first ∷ others)) (first ∷ others)) outcomes.Going
      (at (first ∷ others)) new) (head_is first frame others below are)
      (λ (h : new ≡ called_in (new_frame number m (reverse (take count first.stack))) count (at (first ∷ others))). rw s h) e

  pub uncalled : (frames : List MachineFrame) (number count : ℕ) (new : MachineState) → slice_get p.methods number ≡ None
      → Stepped (applied_in p next (afters.Invoke number count) (at frames) frames) outcomes.Going (at frames) new
  unfolding invokes entered
  uncalled [] number count new s = tt
  uncalled (frame ∷ below) number count new s = rw s tt

  pub returned : (frames : List MachineFrame) (place : ℕ) (value : Option Value) (new : MachineState) → 1 < length frames
      → place_in p frames ≡ Some place → new ≡ returned_in place value (at frames)
      → Stepped (applied_in p next (afters.Return value) (at frames) frames) outcomes.Going (at frames) new
  unfolding returns
  returned [] place value new l s e = absurd (omega (arith, l))
  returned (frame ∷ []) place value new l s e = absurd (omega (arith, l))
  returned (frame ∷ caller ∷ below) place value new l s e = subst
      (λ (o : Option Step). Stepped (unwrap_or o Step.Stuck) outcomes.Going (at (frame ∷ caller ∷ below)) new)
      (sym (behind (insn_at p.methods caller.method caller.pc) place
      (λ (q : ℕ). goes_on below q (record { frame = given_to caller value; statics = statics; heap = heap })) s)) e

  pub unreturned : (frames : List MachineFrame) (value : Option Value) (new : MachineState) → 1 < length frames
      → place_in p frames ≡ None → Stepped (applied_in p next (afters.Return value) (at frames) frames) outcomes.Going (at frames) new
  unfolding returns
  unreturned [] value new l s = tt
  unreturned (frame ∷ []) value new l s = absurd (omega (arith, l))
  unreturned (frame ∷ caller ∷ below) value new l s = subst
      (λ (o : Option Step). Stepped (unwrap_or o Step.Stuck) outcomes.Going (at (frame ∷ caller ∷ below)) new)
      (sym (none_behind (insn_at p.methods caller.method caller.pc)
      (λ (q : ℕ). goes_on below q (record { frame = given_to caller value; statics = statics; heap = heap })) s)) tt
