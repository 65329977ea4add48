-- Throwing mode: the entry that takes the object, and what it makes of the state, are the written step.
use Rattle.std.proofs.Common.{◌≡◌, ℕ, ◌<◌, List, [], ◌∷◌, length, get_or, map, Option, Some, None, Result, refl, sym, ap, subst}
use Rattle.std.proofs.Common.{◌∙◌, arith}
use Rattle.std.specs.Prelude.{slice_get, unwrap_or}
use Rattle.std.specs.List.{find}
use Rattle.std.specs.Option.{option_and_then, option_map}
use Rattle.jvm_values.specs.declared.heap.Object.{Object}
use Rattle.jvm_values.specs.declared.state.Frame.{Frame}
use Rattle.jvm_values.specs.States.{MachineFrame, MachineState, frame_of}
use Rattle.class_program.specs.declared.program.CatchRange.{CatchRange}
use Rattle.class_program.specs.declared.program.Method.{Method}
use Rattle.class_program.specs.Programs.{Program}
use Rattle.jvm_step.specs.declared.outcome.Outcome.{Outcome}
use Rattle.jvm_step.specs.Operands.{object_at}
use Rattle.jvm_step.specs.Running.{Step, takes, handled, throwing_step}
use Rattle.jvm_step.specs.Steps.{Does, handler_in, handled_in}

found_by : (o : Option Object) (range : Object → Option CatchRange)
    → option_map range o ≡ option_and_then (λ (object : Object). Some (range object)) o
found_by None range = refl
found_by (Some object) range = refl

pub handler_with : (p : Program) (s : MachineState) (r : ℕ) (frames : List Frame) (frame : Frame) (m : Method)
    (found : Option (Option CatchRange)) → 0 < length frames → frame ≡ get_or frames 0 frame
    → slice_get p.methods frame.method ≡ Some m
    → found ≡ option_map (λ (object : Object). find (takes p.world object frame.pc) m.table) (object_at s.heap r)
    → found ≡ handler_in p s r (map frame_of frames)
unfolding handler_in
handler_with p s r [] frame m found l e t f = absurd (omega (arith, l))
handler_with p s r (first ∷ below) frame m found l e t f =
    let g : found ≡ option_and_then (λ (object : Object). Some (find (takes p.world object frame.pc) m.table)) (object_at s.heap r)
    = f ∙ found_by (object_at s.heap r) (λ (object : Object). find (takes p.world object frame.pc) m.table) in
    let h : slice_get p.methods first.method ≡ Some m = subst (λ (x : Frame). slice_get p.methods x.method ≡ Some m) e t in
    let k : found ≡ option_and_then (λ (object : Object). Some (find (takes p.world object first.pc) m.table)) (object_at s.heap r)
    = subst (λ (x : Frame). found ≡ option_and_then (λ (object : Object). Some (find (takes p.world object x.pc) m.table))
    (object_at s.heap r)) e g in
    rw h k

pub handler_without : (p : Program) (s : MachineState) (r : ℕ) (frames : List Frame) (frame : Frame) → 0 < length frames
    → frame ≡ get_or frames 0 frame → slice_get p.methods frame.method ≡ None → None ≡ handler_in p s r (map frame_of frames)
unfolding handler_in
handler_without p s r [] frame l e t = absurd (omega (arith, l))
handler_without p s r (first ∷ below) frame l e t =
    let h : slice_get p.methods first.method ≡ None = subst (λ (x : Frame). slice_get p.methods x.method ≡ None) e t in
    rw h refl

handled_by : (m : Option Method) (o : Option Object) (range : Method → Object → Option CatchRange) (on : Option CatchRange → Step)
    → option_and_then (λ (x : Method). option_and_then (λ (object : Object). Some (on (range x object))) o) m ≡ option_map on
    (option_and_then (λ (x : Method). option_and_then (λ (object : Object). Some (range x object)) o) m)
handled_by None o range on = refl
handled_by (Some m) None range on = refl
handled_by (Some m) (Some object) range on = refl

pub throwing_is : (p : Program) (s : MachineState) (r : ℕ) (frames : List MachineFrame)
    → throwing_step p s r frames ≡ option_map (λ (found : Option CatchRange). handled_in s r found frames) (handler_in p s r frames)
unfolding throwing_step handler_in
throwing_is p s r [] = refl
throwing_is p s r (frame ∷ below) = handled_by (slice_get p.methods frame.method) (object_at s.heap r)
    (λ (m : Method) (object : Object). find (takes p.world object frame.pc) m.table) (handled s r frame below)

pub handled_found : {E : Type 0} (p : Program) (s : MachineState) (r : ℕ) (frames : List MachineFrame)
    (o : Option (Option CatchRange)) (found : Option CatchRange) (result : Result Outcome E) (new : MachineState)
    → o ≡ handler_in p s r frames → o ≡ Some found → Does (handled_in s r found frames) result s new
    → Does (unwrap_or (throwing_step p s r frames) Step.Stuck) result s new
handled_found p s r frames o found result new e f h =
    let is : handled_in s r found frames ≡ unwrap_or (throwing_step p s r frames) Step.Stuck = sym
    (ap (λ (x : Option Step). unwrap_or x Step.Stuck)
    (throwing_is p s r frames ∙ ap (option_map (λ (y : Option CatchRange). handled_in s r y frames)) (sym e ∙ f))) in
    subst (λ (x : Step). Does x result s new) is h

pub stuck_without : (p : Program) (s : MachineState) (r : ℕ) (frames : List MachineFrame) (o : Option (Option CatchRange))
    → o ≡ handler_in p s r frames → o ≡ None → unwrap_or (throwing_step p s r frames) Step.Stuck ≡ Step.Stuck
stuck_without p s r frames o e f = ap (λ (x : Option Step). unwrap_or x Step.Stuck)
    (throwing_is p s r frames ∙ ap (option_map (λ (y : Option CatchRange). handled_in s r y frames)) (sym e ∙ f))

pub stuck_empty : (p : Program) (s : MachineState) (r : ℕ) (frames : List Frame) → length frames ≡ 0
    → unwrap_or (throwing_step p s r (map frame_of frames)) Step.Stuck ≡ Step.Stuck
unfolding throwing_step
stuck_empty p s r [] e = refl
stuck_empty p s r (frame ∷ below) e = absurd (omega (arith, e))
