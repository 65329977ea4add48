-- Frames that go on typed.
use Rattle.std.proofs.Common.{◌≡◌, ℕ, zero, suc, ◌+◌, ◌-◌, ◌<◌, ◌≤◌, Bool, true, false, List, [], ◌∷◌, ◌++◌, length, map, take}
use Rattle.std.proofs.Common.{drop, replicate, reverse, Option, Some, None, IsTrue, refl, sym, ap, ◌∙◌, subst, arith}
use Rattle.std.specs.Prelude.{slice_get, All, IfSome}
use Rattle.std.specs.List.{AllZip}
use Rattle.std.proofs.lemmas.List.Elements.{All-nil, All-cons, All-head, All-tail, All-append, All-replicate, All-drop, All-weaker}
use Rattle.std.proofs.lemmas.Slice.Zip.{AllZip-long}
use Rattle.jvm_values.specs.declared.heap.Value.{Value}
use Rattle.jvm_values.specs.declared.heap.Value.TheVariants as values
use Rattle.jvm_values.specs.declared.heap.Heap.{Heap}
use Rattle.jvm_values.specs.declared.types.Slot.{Slot}
use Rattle.jvm_values.specs.declared.types.Slot.TheVariants as slots
use Rattle.jvm_values.specs.declared.typing.PlaceType.{PlaceType}
use Rattle.jvm_values.specs.declared.typing.PlaceType.TheVariants as places
use Rattle.jvm_values.specs.States.{MachineFrame, PlaceTypes}
use Rattle.jvm_values.specs.Heaps.{IsInHeap}
use Rattle.jvm_values.specs.TypedHeaps.{WorldTypes, AreLawful}
use Rattle.class_program.specs.class_world.WorldTypes.{types_of}
use Rattle.class_program.specs.declared.program.Method.{Method}
use Rattle.class_program.specs.Programs.{Program}
use Rattle.code_verify.specs.FrameTypesPlaces.{IsWithin, IsSet}
use Rattle.code_verify.specs.FrameTypesTables.{CodeTypes, Takes}
use Rattle.code_verify.specs.Operands.{place_of}
use Rattle.code_verify.specs.Typings.{IsTyping, entry_frame}
use Rattle.code_verify.specs.TypedStates.{HasPlaceType, HasStack, IsTypedFrame, IsRunning, IsUnwinding, IsCaller, AreCallers}
use Rattle.jvm_step.specs.Running.{new_frame}
use Rattle.jvm_run.proofs.Lists.{zip_append, zip_through}
use Rattle.jvm_run.proofs.Values.{Grows, place_wider, placed_in_heap, in_heap_grown}
use Rattle.jvm_run.proofs.Forms.{stack_grown, locals_grown, references_grown}

-- ---- references of a stack

pub stack_in_heap : (types : WorldTypes) (heap : Heap) (wanted : List PlaceType) (stack : List Value) → All IsSet wanted
    → HasStack types heap wanted stack → All (IsInHeap (length heap.objects)) stack
stack_in_heap types heap [] [] set_ h = All-nil (IsInHeap (length heap.objects))
stack_in_heap types heap [] (value ∷ rest) set_ h = absurd h
stack_in_heap types heap (place ∷ wanted) [] set_ h = absurd h
stack_in_heap types heap (place ∷ wanted) (value ∷ rest) set_ h =
    All-cons (IsInHeap (length heap.objects)) value rest
    (placed_in_heap types heap place value (All-head IsSet place wanted set_) h.0)
    (stack_in_heap types heap wanted rest (All-tail IsSet place wanted set_) h.1)

-- ---- wider types

pub locals_wider : (types : WorldTypes) → AreLawful types
    → (heap : Heap) (narrow wide : List PlaceType) (locals : List (Option Value)) → AllZip (IsWithin types) narrow wide
    → AllZip (HasPlaceType types heap) narrow locals → AllZip (HasPlaceType types heap) wide locals
locals_wider types laws heap narrow wide locals w h = zip_through (IsWithin types) (HasPlaceType types heap)
    (HasPlaceType types heap) (place_wider types laws heap) narrow wide locals w h

pub stack_wider : (types : WorldTypes) → AreLawful types → (heap : Heap) (narrow wide : List PlaceType) (stack : List Value)
    → AllZip (IsWithin types) narrow wide → HasStack types heap narrow stack → HasStack types heap wide stack
stack_wider types laws heap narrow wide stack w h = zip_through (IsWithin types)
    (λ place value. HasPlaceType types heap place (Some value)) (λ place value. HasPlaceType types heap place (Some value))
    (λ a b value. place_wider types laws heap a b (Some value)) narrow wide stack w h

-- ---- a frame that goes on at a place that takes its types

-- a frame of the same method, with as many locals, has the types that come to a place
pub running_at : (p : Program) (typing : ℕ → CodeTypes) → AreLawful (types_of p.world)
    → (heap : Heap) (m : Method) (number place : ℕ) (after : PlaceTypes) (locals : List (Option Value)) (stack : List Value)
    → slice_get p.methods number ≡ Some m → IsTyping p m (typing number) → length locals ≡ m.max_locals
    → Takes (types_of p.world) (typing number) (record { to = place; frame = after })
    → AllZip (HasPlaceType (types_of p.world) heap) after.locals locals
    → All (λ local. IfSome local (IsInHeap (length heap.objects))) locals → HasStack (types_of p.world) heap after.stack stack
    → IsRunning p typing heap (record { method = number; pc = place; locals = locals; stack = stack })
running_at p typing laws heap m number place after locals stack is_m typed count takes has refs has_stack =
    let types = types_of p.world in
    let wide : HasStack types heap takes.there.stack stack = stack_wider types laws heap after.stack takes.there.stack stack
    takes.wide.stack has_stack in
    record {
      there = takes.there;
      typed = record {
        method = m;
        is_method = is_m;
        count = count;
        is_there = takes.is_there;
        locals = locals_wider types laws heap after.locals takes.there.locals locals takes.wide.locals has;
        local_references = refs;
        stack_references = stack_in_heap types heap takes.there.stack stack
            (typed.each place takes.there takes.is_there).limits.proper.set wide;
      };
      stack = wide;
    }

-- ---- frames in heaps that grow

pub frame_grown : (p : Program) (typing : ℕ → CodeTypes) (old new : Heap) → Grows old new
    → (frame : MachineFrame) (there : PlaceTypes) → IsTypedFrame p typing old frame there → IsTypedFrame p typing new frame there
frame_grown p typing old new g frame there h = record {
  method = h.method;
  is_method = h.is_method;
  count = h.count;
  is_there = h.is_there;
  locals = locals_grown (types_of p.world) old new g there.locals frame.locals h.locals;
  local_references = references_grown old new g frame.locals h.local_references;
  stack_references = All-weaker (IsInHeap (length old.objects)) (IsInHeap (length new.objects)) (in_heap_grown old new g)
      frame.stack h.stack_references;
}

pub caller_grown : (p : Program) (typing : ℕ → CodeTypes) (old new : Heap) → Grows old new → (callee : ℕ) (frame : MachineFrame)
    → IsCaller p typing old callee frame → IsCaller p typing new callee frame
caller_grown p typing old new g callee frame h = record {
  there = h.there;
  typed = frame_grown p typing old new g frame h.there h.typed;
  op = h.op;
  stands = h.stands;
  runs = h.runs;
  stack = stack_grown (types_of p.world) old new g _ frame.stack h.stack;
}

pub callers_grown : (p : Program) (typing : ℕ → CodeTypes) (old new : Heap) → Grows old new
    → (callee : ℕ) (frames : List MachineFrame) → AreCallers p typing old callee frames → AreCallers p typing new callee frames
callers_grown p typing old new g callee [] h = tt
callers_grown p typing old new g callee (frame ∷ frames) h =
    (caller_grown p typing old new g callee frame h.0, callers_grown p typing old new g frame.method frames h.1)

-- ---- a frame whose stack is emptied

pub emptied_frame : (p : Program) (typing : ℕ → CodeTypes) (heap : Heap) (frame : MachineFrame) (there : PlaceTypes)
    → IsTypedFrame p typing heap frame there → IsUnwinding p typing heap (record frame { stack = [] })
emptied_frame p typing heap frame there h = record {
  there = there;
  typed = record {
    method = h.method;
    is_method = h.is_method;
    count = h.count;
    is_there = h.is_there;
    locals = h.locals;
    local_references = h.local_references;
    stack_references = All-nil (IsInHeap (length heap.objects));
  };
  stack = refl;
}

-- ---- the frame of a call

entered_locals : (types : WorldTypes) (heap : Heap) (params : List Slot) (arguments : List Value)
    → AllZip (λ slot value. HasPlaceType types heap (place_of types slot) (Some value)) params arguments
    → AllZip (HasPlaceType types heap) (map (place_of types) params) (map Some arguments)
entered_locals types heap [] [] h = tt
entered_locals types heap [] (value ∷ rest) h = absurd h
entered_locals types heap (slot ∷ params) [] h = absurd h
entered_locals types heap (slot ∷ params) (value ∷ rest) h = (h.0, entered_locals types heap params rest h.1)

unset_locals : (types : WorldTypes) (heap : Heap) (count : ℕ)
    → AllZip (HasPlaceType types heap) (replicate count places.Unset) (replicate count None)
unset_locals types heap zero = tt
unset_locals types heap (suc count) = (tt, unset_locals types heap count)

slot_is_set : (types : WorldTypes) (slot : Slot) → place_of types slot ≡ places.Unset → ⊥
slot_is_set types (slots.Num kind) e = cc
slot_is_set types (slots.Ref t) e = cc

entered_references : (types : WorldTypes) (heap : Heap) (params : List Slot) (arguments : List Value)
    → AllZip (λ slot value. HasPlaceType types heap (place_of types slot) (Some value)) params arguments
    → All (λ local. IfSome local (IsInHeap (length heap.objects))) (map Some arguments)
entered_references types heap [] [] h = All-nil (λ local. IfSome local (IsInHeap (length heap.objects)))
entered_references types heap [] (value ∷ rest) h = absurd h
entered_references types heap (slot ∷ params) [] h = absurd h
entered_references types heap (slot ∷ params) (value ∷ rest) h =
    All-cons (λ local. IfSome local (IsInHeap (length heap.objects))) (Some value) (map Some rest)
    (placed_in_heap types heap (place_of types slot) value (slot_is_set types slot) h.0)
    (entered_references types heap params rest h.1)

-- the frame of a method that begins with arguments of its parameters' types
pub entered_running : (p : Program) (typing : ℕ → CodeTypes) → AreLawful (types_of p.world)
    → (heap : Heap) (m : Method) (number : ℕ) (arguments : List Value) → slice_get p.methods number ≡ Some m
    → IsTyping p m (typing number)
    → AllZip (λ slot value. HasPlaceType (types_of p.world) heap (place_of (types_of p.world) slot) (Some value)) m.params arguments
    → IsRunning p typing heap (new_frame number m arguments)
entered_running p typing laws heap m number arguments is_m typed h =
    let types = types_of p.world in
    let P : Option Value → Type 0 = λ local. IfSome local (IsInHeap (length heap.objects)) in
    let same : length m.params ≡ length arguments = sym
    (AllZip-long (λ slot value. HasPlaceType types heap (place_of types slot) (Some value)) m.params arguments h) in
    let rest : AllZip (HasPlaceType types heap) (replicate (m.max_locals - length m.params) places.Unset)
    (replicate (m.max_locals - length arguments) None) = subst
    (λ (n : ℕ). AllZip (HasPlaceType types heap) (replicate (m.max_locals - length m.params) places.Unset)
    (replicate (m.max_locals - n) None)) same (unset_locals types heap (m.max_locals - length m.params)) in
    let locals : List (Option Value) = map Some arguments ++ replicate (m.max_locals - length arguments) None in
    let has : AllZip (HasPlaceType types heap) (entry_frame types m).locals locals = zip_append (HasPlaceType types heap)
    (map (place_of types) m.params) (map Some arguments) (replicate (m.max_locals - length m.params) places.Unset)
    (replicate (m.max_locals - length arguments) None) (entered_locals types heap m.params arguments h) rest in
    let takes = typed.entry in
    let wide : AllZip (HasPlaceType types heap) takes.there.locals locals = locals_wider types laws heap
    (entry_frame types m).locals takes.there.locals locals takes.wide.locals has in
    let count : length locals ≡ m.max_locals = AllZip-long (HasPlaceType types heap) takes.there.locals locals wide
    ∙ (typed.each 0 takes.there takes.is_there).limits.proper.count in
    running_at p typing laws heap m number 0 (entry_frame types m) locals [] is_m typed count takes has
    (All-append P (map Some arguments) (replicate (m.max_locals - length arguments) None)
    (entered_references types heap m.params arguments h) (All-replicate P (m.max_locals - length arguments) None tt)) tt
