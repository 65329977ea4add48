-- What a form finds where its types are, and what is asked of its effect: typed states go on from it.
use Rattle.std.proofs.Common.{◌≡◌, ℕ, zero, suc, ◌+◌, ◌<◌, ◌≤◌, ℤ, pos, negsuc, Bool, true, false, cond, ◌&&◌, List, [], ◌∷◌, ◌++◌}
use Rattle.std.proofs.Common.{length, map, take, drop, reverse, Option, Some, None, IsTrue, refl, sym, ap, ◌∙◌, subst, arith}
use Rattle.std.specs.Prelude.{slice_get, All, IfSome, nat_eq}
use Rattle.std.specs.List.{AllZip, list_any}
use Rattle.std.specs.Option.{option_map, option_map_or, option_and_then}
use Rattle.std.proofs.lemmas.Bool.{false≢true, and_parts}
use Rattle.std.proofs.lemmas.List.Elements.{All-weaker}
use Rattle.std.proofs.lemmas.Option.{none-some}
use Rattle.list_views.proofs.Options.{cond_guarded, then_some}
use Rattle.list_views.specs.Options.{asked}
use Rattle.jvm_values.specs.declared.heap.Value.{Value}
use Rattle.jvm_values.specs.declared.heap.Value.TheVariants as values
use Rattle.jvm_values.specs.declared.heap.Object.{Object}
use Rattle.jvm_values.specs.declared.heap.Heap.{Heap}
use Rattle.jvm_values.specs.declared.types.Ty.{Ty}
use Rattle.jvm_values.specs.declared.types.Kind.TheVariants as kinds
use Rattle.jvm_values.specs.declared.types.Slot.{Slot}
use Rattle.jvm_values.specs.declared.types.Slot.TheVariants as slots
use Rattle.jvm_values.specs.declared.typing.PlaceType.{PlaceType}
use Rattle.jvm_values.specs.declared.typing.PlaceType.TheVariants as places
use Rattle.jvm_values.specs.States.{MachineFrame, PlaceTypes}
use Rattle.jvm_values.specs.Heaps.{IsInHeap}
use Rattle.jvm_values.specs.Kinds.{IsOfKind}
use Rattle.jvm_values.specs.Subtyping.{class_type}
use Rattle.jvm_values.specs.TypedHeaps.{WorldTypes, AreLawful, type_of, HasType, Holds, IsTypedHeap}
use Rattle.jvm_values.proofs.Options.{some_is}
use Rattle.class_program.specs.class_world.BuiltIns.{HasBuiltIns, throwable}
use Rattle.class_program.specs.class_world.Linking.{is_linked}
use Rattle.class_program.specs.class_world.WorldTypes.{types_of}
use Rattle.class_program.specs.declared.op.Op.{Op}
use Rattle.class_program.specs.declared.program.Method.{Method}
use Rattle.class_program.specs.Programs.{Program}
use Rattle.class_program.specs.Good.{IsGood}
use Rattle.class_program.specs.Selected.{CanRun}
use Rattle.jvm_step.specs.op_forms.declared.form.ItemKind.{ItemKind}
use Rattle.jvm_step.specs.op_forms.Forms.{Form}
use Rattle.code_verify.specs.declared.want.Want.{Want}
use Rattle.code_verify.specs.declared.want.Want.TheVariants as wants
use Rattle.code_verify.specs.Operands.{fits, want_of, place_of, is_reference}
use Rattle.code_verify.specs.Rows.{taken, with_result, acted}
use Rattle.code_verify.specs.Flows.{falls, jumps}
use Rattle.code_verify.specs.TypedStates.{HasPlaceType, HasStack, argument_count}
use Rattle.jvm_step.specs.Effects.{Effect, effect_on, with_stack, on_object}
use Rattle.jvm_step.specs.Operands.{top, top_int, top_reference, is_of_type, is_passed}
use Rattle.jvm_step.specs.Table.{Work, on_frame, on_heap, on_statics}
use Rattle.jvm_run.proofs.Lists.{zip_map}
use Rattle.jvm_run.proofs.Values.{Grows, grows_same, holds_grown, place_grown, local_grown, type_wider}

-- ---- where a form stands

-- an instruction and its form, in a method of a program; the types before it, and what it works on
pub record Here : Type 0 where
  pub program : Program
  pub method : Method
  pub op : Op
  pub form : Form
  pub before : PlaceTypes
  pub work : Work

abbrev pub types_here : Here → WorldTypes
types_here here = types_of here.program.world

-- what it works on has these types
pub record Stands (here : Here) : Type 0 where
  pub good : IsGood here.program
  pub current : here.method.class < length here.program.world
  pub linked : IsTrue (is_linked here.program.world)
  pub laws : AreLawful (types_here here)
  pub built_ins : HasBuiltIns here.program.world
  pub heap : IsTypedHeap (types_here here) here.work.heap
  pub statics : AllZip (λ field value. Holds (types_here here) here.work.heap field.slot value) here.program.statics here.work.statics
  pub locals : AllZip (HasPlaceType (types_here here) here.work.heap) here.before.locals here.work.frame.locals
  pub references : All (λ local. IfSome local (IsInHeap (length here.work.heap.objects))) here.work.frame.locals
  pub stack : HasStack (types_here here) here.work.heap here.before.stack here.work.frame.stack

-- ---- what is left of it

-- a frame of the same method, with as many locals, has types
pub record Fits (types : WorldTypes) (heap : Heap) (there : PlaceTypes) (old frame : MachineFrame) : Type 0 where
  pub method : frame.method ≡ old.method
  pub count : length frame.locals ≡ length old.locals
  pub locals : AllZip (HasPlaceType types heap) there.locals frame.locals
  pub references : All (λ local. IfSome local (IsInHeap (length heap.objects))) frame.locals
  pub stack : HasStack types heap there.stack frame.stack

abbrev pub FrameGood : Here → PlaceTypes → MachineFrame → Type 0
FrameGood here after frame = Fits (types_here here) here.work.heap after here.work.frame frame

pub record HeapGood (here : Here) (after : PlaceTypes) (x : MachineFrame × Heap) : Type 0 where
  pub grows : Grows here.work.heap x.1
  pub heap : IsTypedHeap (types_here here) x.1
  pub fits : Fits (types_here here) x.1 after here.work.frame x.0

pub record StaticsGood (here : Here) (after : PlaceTypes) (x : MachineFrame × List Value) : Type 0 where
  pub statics : AllZip (λ field value. Holds (types_here here) here.work.heap field.slot value) here.program.statics x.1
  pub fits : Fits (types_here here) here.work.heap after here.work.frame x.0

pub record WorkGood (here : Here) (after : PlaceTypes) (work : Work) : Type 0 where
  pub grows : Grows here.work.heap work.heap
  pub heap : IsTypedHeap (types_here here) work.heap
  pub statics : AllZip (λ field value. Holds (types_here here) work.heap field.slot value) here.program.statics work.statics
  pub fits : Fits (types_here here) work.heap after here.work.frame work.frame

-- the method of a number is called, which the instruction can run, with arguments of its parameters' types
pub record IsCalling (here : Here) (number count : ℕ) : Type 0 where
  pub runs : CanRun here.program here.op number
  pub count_is : count ≡ argument_count here.op
  pub callee : Method
  pub is_callee : slice_get here.program.methods number ≡ Some callee
  pub arguments : AllZip (λ slot value. HasPlaceType (types_here here) here.work.heap (place_of (types_here here) slot)
      (Some value)) callee.params (reverse (take count here.work.frame.stack))
  pub below : HasStack (types_here here) here.work.heap (drop count here.before.stack) (drop count here.work.frame.stack)

-- a value is returned, or none, as the method's result says
abbrev pub IsResult : WorldTypes → Heap → Option Slot → Option Value → Type 0
IsResult types heap (Some slot) (Some value) = HasPlaceType types heap (place_of types slot) (Some value)
IsResult types heap (Some slot) None = ⊥
IsResult types heap None (Some value) = ⊥
IsResult types heap None None = Unit {0}

-- There is an effect. What it changes is good, and it goes where the form may lead; what is thrown, called or returned has
-- the types that are asked for.
abbrev pub Well : {X : Type 0} → Here → (X → Type 0) → Option (Effect X) → Type 0
Well here Good None = ⊥
Well here Good (Some (Effect.Next x)) = IsTrue (falls here.form) × Good x
Well here Good (Some (Effect.Jump place x)) = IsTrue (list_any (nat_eq place) (jumps here.form)) × Good x
Well here Good (Some (Effect.Raise class)) = (class < 15) × (0 < class)
Well here Good (Some (Effect.Throw r)) = HasType (types_here here) here.work.heap (values.Ref r) (class_type throwable)
Well here Good (Some (Effect.Invoke number count)) = IsCalling here number count
Well here Good (Some (Effect.Return value)) = IsResult (types_here here) here.work.heap here.method.result value

-- ---- effects on larger things

well_on : {X Y : Type 0} (here : Here) (G : X → Type 0) (H : Y → Type 0) (into : X → Y) → ((x : X) → G x → H (into x))
    → (o : Option (Effect X)) → Well here G o → Well here H (option_map (effect_on into) o)
well_on here G H into f None h = absurd h
well_on here G H into f (Some (Effect.Next x)) h = (h.0, f x h.1)
well_on here G H into f (Some (Effect.Jump place x)) h = (h.0, f x h.1)
well_on here G H into f (Some (Effect.Raise class)) h = h
well_on here G H into f (Some (Effect.Throw r)) h = h
well_on here G H into f (Some (Effect.Invoke number count)) h = h
well_on here G H into f (Some (Effect.Return value)) h = h

pub well_frame : (here : Here) → Stands here → (after : PlaceTypes) (o : Option (Effect MachineFrame))
    → Well here (FrameGood here after) o → Well here (WorkGood here after) (on_frame here.work o)
well_frame here s after o h = well_on here (FrameGood here after) (WorkGood here after)
    (λ (frame : MachineFrame). record here.work { frame = frame })
    (λ (frame : MachineFrame) (fit : FrameGood here after frame). record
    { grows = grows_same here.work.heap; heap = s.heap; statics = s.statics; fits = fit }) o h

pub well_heap : (here : Here) → Stands here → (after : PlaceTypes) (o : Option (Effect (MachineFrame × Heap)))
    → Well here (HeapGood here after) o → Well here (WorkGood here after) (on_heap here.work o)
well_heap here s after o h = well_on here (HeapGood here after) (WorkGood here after)
    (λ (x : MachineFrame × Heap). record here.work { frame = x.0; heap = x.1 })
    (λ (x : MachineFrame × Heap) (good : HeapGood here after x). record {
      grows = good.grows;
      heap = good.heap;
      statics = zip_map _ _ (λ field value. holds_grown (types_here here) here.work.heap x.1 good.grows field.slot value)
          here.program.statics here.work.statics s.statics;
      fits = good.fits;
    }) o h

pub well_statics : (here : Here) → Stands here → (after : PlaceTypes) (o : Option (Effect (MachineFrame × List Value)))
    → Well here (StaticsGood here after) o → Well here (WorkGood here after) (on_statics here.work o)
well_statics here s after o h = well_on here (StaticsGood here after) (WorkGood here after)
    (λ (x : MachineFrame × List Value). record here.work { frame = x.0; statics = x.1 })
    (λ (x : MachineFrame × List Value) (good : StaticsGood here after x). record
    { grows = grows_same here.work.heap; heap = s.heap; statics = good.statics; fits = good.fits }) o h

-- ---- operands that leave the stack, and the result

pub record IsActed (types : WorldTypes) (asks : List Want) (result : Option PlaceType) (before after : PlaceTypes) : Type 0 where
  pub below : List PlaceType
  pub taken_is : taken types asks before.stack ≡ Some below
  pub after_is : after ≡ record { locals = before.locals; stack = with_result result below }

pub acted_of : (types : WorldTypes) (asks : List Want) (result : Option PlaceType) (before after : PlaceTypes)
    → acted types asks result before ≡ Some after → IsActed types asks result before after
unfolding acted
acted_of types asks result before after e =
    let g = then_some _ (taken types asks before.stack) after e in
    record { below = g.0; taken_is = g.1.0; after_is = sym (some_is g.1.1) }

-- the stack is what is below the operands
pub left : (here : Here) → Stands here → (after : PlaceTypes) (below : List PlaceType) (rest : List Value)
    → after ≡ record { locals = here.before.locals; stack = below } → HasStack (types_here here) here.work.heap below rest
    → FrameGood here after (with_stack here.work.frame rest)
left here s after below rest e k =
    subst (λ (a : PlaceTypes). Fits (types_here here) here.work.heap a here.work.frame (with_stack here.work.frame rest)) (sym e)
    (record { method = refl; count = refl; locals = s.locals; references = s.references; stack = k })

-- a value is pushed on it
pub pushed : (here : Here) → Stands here → (after : PlaceTypes) (place : PlaceType) (below : List PlaceType) (value : Value)
    (rest : List Value) → after ≡ record { locals = here.before.locals; stack = place ∷ below }
    → HasPlaceType (types_here here) here.work.heap place (Some value) → HasStack (types_here here) here.work.heap below rest
    → FrameGood here after (with_stack here.work.frame (value ∷ rest))
pushed here s after place below value rest e h k = left here s after (place ∷ below) (value ∷ rest) e (h, k)

-- ---- ints on the top

pub record TopInt (types : WorldTypes) (heap : Heap) (more : List Want) (below : List PlaceType) (stack : List Value) : Type 0 where
  pub number : ℤ
  pub rest : List Value
  pub under : List PlaceType
  pub is_top : top_int stack ≡ Some (number, rest)
  pub kind : IsOfKind kinds.Int number
  pub has : HasStack types heap under rest
  pub others : taken types more under ≡ Some below

pub top_int_of : (types : WorldTypes) (heap : Heap) (more : List Want) (below wanted : List PlaceType) (stack : List Value)
    → HasStack types heap wanted stack → taken types (wants.Int ∷ more) wanted ≡ Some below → TopInt types heap more below stack
top_int_of types heap more below [] stack h e = absurd (none-some below e)
top_int_of types heap more below (place ∷ under) [] h e = absurd h
top_int_of types heap more below (places.Unset ∷ under) (value ∷ rest) h e = absurd (none-some below e)
top_int_of types heap more below (places.Int ∷ under) (values.Int n ∷ rest) h e = record
    { number = n; rest = rest; under = under; is_top = refl; kind = h.0; has = h.1; others = e }
top_int_of types heap more below (places.Int ∷ under) (values.Null ∷ rest) h e = absurd h.0
top_int_of types heap more below (places.Int ∷ under) (values.Ref r ∷ rest) h e = absurd h.0
top_int_of types heap more below (places.Null ∷ under) (value ∷ rest) h e = absurd (none-some below e)
top_int_of types heap more below (places.Ref t ∷ under) (value ∷ rest) h e = absurd (none-some below e)

-- nothing more is taken
pub rest_has : (types : WorldTypes) (heap : Heap) (under below : List PlaceType) (rest : List Value)
    → taken types [] under ≡ Some below → HasStack types heap under rest → HasStack types heap below rest
rest_has types heap under below rest e h = subst (λ (x : List PlaceType). HasStack types heap x rest) (some_is e) h

-- ---- references on the top

-- what is asked for is a reference
abbrev pub AsksReference : WorldTypes → Want → Type 0
AsksReference types want = (place : PlaceType) → fits types want place ≡ true → is_reference place ≡ true

pub record TopReference (types : WorldTypes) (heap : Heap) (want : Want) (more : List Want) (below : List PlaceType)
    (stack : List Value) : Type 0 where
  pub place : PlaceType
  pub value : Value
  pub rest : List Value
  pub under : List PlaceType
  pub fit : fits types want place ≡ true
  pub reference : is_reference place ≡ true
  pub is_top : top_reference stack ≡ Some (value, rest)
  pub typed : HasPlaceType types heap place (Some value)
  pub has : HasStack types heap under rest
  pub others : taken types more under ≡ Some below

pub reference_top : (types : WorldTypes) (heap : Heap) (place : PlaceType) (value : Value) (rest : List Value)
    → is_reference place ≡ true → HasPlaceType types heap place (Some value) → top_reference (value ∷ rest) ≡ Some (value, rest)
reference_top types heap places.Unset value rest r h = absurd (false≢true r)
reference_top types heap places.Int value rest r h = absurd (false≢true r)
reference_top types heap places.Null (values.Int n) rest r h = absurd h
reference_top types heap places.Null values.Null rest r h = refl
reference_top types heap places.Null (values.Ref a) rest r h = absurd h
reference_top types heap (places.Ref t) (values.Int n) rest r h = absurd h
reference_top types heap (places.Ref t) values.Null rest r h = refl
reference_top types heap (places.Ref t) (values.Ref a) rest r h = refl

pub top_reference_of : (types : WorldTypes) (heap : Heap) (want : Want) (more : List Want) (below wanted : List PlaceType)
    (stack : List Value) → AsksReference types want → HasStack types heap wanted stack
    → taken types (want ∷ more) wanted ≡ Some below → TopReference types heap want more below stack
top_reference_of types heap want more below [] stack asks h e = absurd (none-some below e)
top_reference_of types heap want more below (place ∷ under) [] asks h e = absurd h
top_reference_of types heap want more below (place ∷ under) (value ∷ rest) asks h e =
    let g = cond_guarded (fits types want place) (taken types more under) below e in
    record {
      place = place;
      value = value;
      rest = rest;
      under = under;
      fit = g.0;
      reference = asks place g.0;
      is_top = reference_top types heap place value rest (asks place g.0) h.0;
      typed = h.0;
      has = h.1;
      others = g.1;
    }

pub asks_any : (types : WorldTypes) → AsksReference types wants.Reference
asks_any types place e = e

pub asks_below : (types : WorldTypes) (t : Ty) → AsksReference types (wants.Below t)
asks_below types t places.Unset e = e
asks_below types t places.Int e = e
asks_below types t places.Null e = refl
asks_below types t (places.Ref s) e = refl

pub asks_both : (types : WorldTypes) (s t : Ty) → AsksReference types (wants.BelowBoth s t)
asks_both types s t places.Unset e = e
asks_both types s t places.Int e = e
asks_both types s t places.Null e = refl
asks_both types s t (places.Ref u) e = refl

pub asks_array : (types : WorldTypes) → AsksReference types wants.Array
asks_array types places.Unset e = e
asks_array types places.Int e = e
asks_array types places.Null e = refl
asks_array types (places.Ref s) e = refl

pub asks_numbers : (types : WorldTypes) (for : ItemKind) → AsksReference types (wants.Numbers for)
asks_numbers types for places.Unset e = e
asks_numbers types for places.Int e = e
asks_numbers types for places.Null e = refl
asks_numbers types for (places.Ref s) e = refl

pub asks_references : (types : WorldTypes) → AsksReference types wants.References
asks_references types places.Unset e = e
asks_references types places.Int e = e
asks_references types places.Null e = refl
asks_references types (places.Ref s) e = refl

-- ---- what is done to the object of a reference

-- the object that a reference of a type names
pub record Named (types : WorldTypes) (heap : Heap) (place : PlaceType) (r : ℕ) : Type 0 where
  pub t : Ty
  pub place_is : place ≡ places.Ref t
  pub object : Object
  pub there : slice_get heap.objects r ≡ Some object
  pub below : IsTrue (types.sub (type_of object) t)

pub named_by : (types : WorldTypes) (heap : Heap) (place : PlaceType) (r : ℕ) → is_reference place ≡ true
    → HasPlaceType types heap place (Some (values.Ref r)) → Named types heap place r
named_by types heap places.Unset r e h = absurd (false≢true e)
named_by types heap places.Int r e h = absurd h
named_by types heap places.Null r e h = absurd h
named_by types heap (places.Ref t) r e h = record { t = t; place_is = refl; object = h.0; there = h.1.0; below = h.1.1 }

-- an object of the heap, of a type that was asked for
pub record Found (types : WorldTypes) (heap : Heap) (want : Want) (place : PlaceType) (r : ℕ) (object : Object) : Type 0 where
  pub t : Ty
  pub place_is : place ≡ places.Ref t
  pub there : slice_get heap.objects r ≡ Some object
  pub below : IsTrue (types.sub (type_of object) t)
  pub fit : fits types want (places.Ref t) ≡ true

-- null throws, and what is done to an object is as is asked
pub on_object_well : {X : Type 0} (here : Here) (G : X → Type 0) (want : Want) (place : PlaceType) (value : Value) (act : ℕ → Object
    → Option (Effect X)) → fits (types_here here) want place ≡ true → is_reference place ≡ true
    → HasPlaceType (types_here here) here.work.heap place (Some value)
    → ((r : ℕ) (object : Object) → value ≡ values.Ref r → Found (types_here here) here.work.heap want place r object
    → Well here G (act r object))
    → Well here G (on_object here.work.heap value act)
on_object_well here G want place (values.Int n) act fit r h k = let e = reference_top (types_here here) here.work.heap place
    (values.Int n) [] r h in absurd (none-some _ e)
on_object_well here G want place values.Null act fit r h k = (omega arith, omega arith)
on_object_well {X} here G want place (values.Ref a) act fit r h k =
    let n = named_by (types_here here) here.work.heap place a r h in
    let found : Found (types_here here) here.work.heap want place a n.object = record {
      t = n.t;
      place_is = n.place_is;
      there = n.there;
      below = n.below;
      fit = subst
          (λ (x : PlaceType). fits (types_here here) want x ≡ true) n.place_is fit;
    } in
    subst (λ (o : Option Object). Well here G (option_and_then (act a) o)) (sym n.there) (k a n.object refl found)

-- ---- one step after another

pub bind_well : {X A : Type 0} (here : Here) (G : X → Type 0) (o : Option A) (act : A → Option (Effect X)) (a : A) → o ≡ Some a
    → Well here G (act a) → Well here G (option_and_then act o)
bind_well {X} {A} here G o act a e h = subst (λ (x : Option A). Well here G (option_and_then act x)) (sym e) h

pub asked_well : {X : Type 0} (here : Here) (G : X → Type 0) (test : Bool) (act : Unit {0} → Option (Effect X)) → test ≡ true
    → Well here G (act tt) → Well here G (option_and_then act (asked test))
asked_well here G test act e h = subst (λ (b : Bool). Well here G (option_and_then act (asked b))) (sym e) h

pub if_well : {X : Type 0} (here : Here) (G : X → Type 0) (test : Bool) (o : Option (Effect X)) → test ≡ true → Well here G o
    → Well here G (cond test o None)
if_well here G test o e h = subst (λ (b : Bool). Well here G (cond b o None)) (sym e) h

-- ---- frames in heaps that grow

pub stack_grown : (types : WorldTypes) (old new : Heap) → Grows old new → (wanted : List PlaceType) (stack : List Value)
    → HasStack types old wanted stack → HasStack types new wanted stack
stack_grown types old new g wanted stack h = zip_map _ _ (λ place value. place_grown types old new g place (Some value)) wanted stack h

pub locals_grown : (types : WorldTypes) (old new : Heap) → Grows old new → (wanted : List PlaceType) (locals : List (Option Value))
    → AllZip (HasPlaceType types old) wanted locals → AllZip (HasPlaceType types new) wanted locals
locals_grown types old new g wanted locals h = zip_map (HasPlaceType types old) (HasPlaceType types new)
    (place_grown types old new g) wanted locals h

pub references_grown : (old new : Heap) → Grows old new → (locals : List (Option Value))
    → All (λ local. IfSome local (IsInHeap (length old.objects))) locals
    → All (λ local. IfSome local (IsInHeap (length new.objects))) locals
references_grown old new g locals h = All-weaker (λ local. IfSome local (IsInHeap (length old.objects)))
    (λ local. IfSome local (IsInHeap (length new.objects))) (local_grown old new g) locals h

pub fits_grown : (types : WorldTypes) (old new : Heap) → Grows old new → (there : PlaceTypes) (before frame : MachineFrame)
    → Fits types old there before frame → Fits types new there before frame
fits_grown types old new g there before frame f = record {
  method = f.method;
  count = f.count;
  locals = locals_grown types old new g there.locals frame.locals f.locals;
  references = references_grown old new g frame.locals f.references;
  stack = stack_grown types old new g there.stack frame.stack f.stack;
}

-- ---- what is passed

pub of_type_by : (types : WorldTypes) (heap : Heap) (t : Ty) (value : Value) → HasType types heap value (types.erase t)
    → is_of_type types heap t value ≡ true
of_type_by types heap t (values.Int n) h = absurd h
of_type_by types heap t values.Null h = refl
of_type_by types heap t (values.Ref r) h = subst
    (λ (o : Option Object). option_map_or (λ object. types.sub (type_of object) (types.erase t)) o false ≡ true) (sym h.1.0) h.1.1

pub passed_by : (types : WorldTypes) (heap : Heap) (slot : Slot) (value : Value)
    → HasPlaceType types heap (place_of types slot) (Some value) → is_passed types heap slot value ≡ true
passed_by types heap (slots.Num kind) (values.Int n) h = refl
passed_by types heap (slots.Num kind) values.Null h = absurd h
passed_by types heap (slots.Num kind) (values.Ref r) h = absurd h
passed_by types heap (slots.Ref t) value h = of_type_by types heap t value h

pub fits_slot : (types : WorldTypes) → AreLawful types → (heap : Heap) (slot : Slot) (place : PlaceType) (value : Value)
    → fits types (want_of slot) place ≡ true → HasPlaceType types heap place (Some value)
    → HasPlaceType types heap (place_of types slot) (Some value)
fits_slot types laws heap (slots.Num kind) places.Unset value f h = absurd (false≢true f)
fits_slot types laws heap (slots.Num kind) places.Int value f h = h
fits_slot types laws heap (slots.Num kind) places.Null value f h = absurd (false≢true f)
fits_slot types laws heap (slots.Num kind) (places.Ref s) value f h = absurd (false≢true f)
fits_slot types laws heap (slots.Ref t) places.Unset value f h = absurd (false≢true f)
fits_slot types laws heap (slots.Ref t) places.Int value f h = absurd (false≢true f)
fits_slot types laws heap (slots.Ref t) places.Null (values.Int n) f h = absurd h
fits_slot types laws heap (slots.Ref t) places.Null values.Null f h = tt
fits_slot types laws heap (slots.Ref t) places.Null (values.Ref r) f h = absurd h
fits_slot types laws heap (slots.Ref t) (places.Ref s) value f h = type_wider types laws heap value s (types.erase t) f h

-- a value of a slot on the top
pub record TopPassed (types : WorldTypes) (heap : Heap) (slot : Slot) (more : List Want) (below : List PlaceType)
    (stack : List Value) : Type 0 where
  pub value : Value
  pub rest : List Value
  pub under : List PlaceType
  pub is_top : top stack ≡ Some (value, rest)
  pub typed : HasPlaceType types heap (place_of types slot) (Some value)
  pub has : HasStack types heap under rest
  pub others : taken types more under ≡ Some below

pub top_passed_of : (types : WorldTypes) → AreLawful types
    → (heap : Heap) (slot : Slot) (more : List Want) (below wanted : List PlaceType) (stack : List Value)
    → HasStack types heap wanted stack → taken types (want_of slot ∷ more) wanted ≡ Some below → TopPassed types heap slot more below stack
top_passed_of types laws heap slot more below [] stack h e = absurd (none-some below e)
top_passed_of types laws heap slot more below (place ∷ under) [] h e = absurd h
top_passed_of types laws heap slot more below (place ∷ under) (value ∷ rest) h e =
    let g = cond_guarded (fits types (want_of slot) place) (taken types more under) below e in
    record {
      value = value;
      rest = rest;
      under = under;
      is_top = refl;
      typed = fits_slot types laws heap slot place value g.0 h.0;
      has = h.1;
      others = g.1;
    }
