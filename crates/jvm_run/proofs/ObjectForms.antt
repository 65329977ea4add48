-- Forms over objects: new instances, casts, throws and returns.
use Rattle.std.proofs.Common.{◌≡◌, ℕ, zero, suc, ◌+◌, ◌<◌, ◌≤◌, ℤ, pos, negsuc, Bool, true, false, cond, ◌&&◌, eqb, ltb, List, []}
use Rattle.std.proofs.Common.{◌∷◌, ◌++◌, length, map, set, get_or, replicate, Option, Some, None, IsTrue, refl, sym, ap, ◌∙◌, subst}
use Rattle.std.proofs.Common.{◌⊎◌, inl, inr, length-set, arith}
use Rattle.std.specs.Prelude.{slice_get, All, IfSome, nat_lt}
use Rattle.std.specs.List.{AllZip}
use Rattle.std.specs.Option.{option_and_then, option_map, option_map_or}
use Rattle.std.proofs.lemmas.Bool.{false≢true, and_from, lt-ltb, ltb-true}
use Rattle.std.proofs.lemmas.Option.{slice_get_within, none-some}
use Rattle.std.proofs.lemmas.List.{length-replicate}
use Rattle.std.proofs.lemmas.List.Elements.{All-set, All-replicate}
use Rattle.std.proofs.lemmas.Int.{ints}
use Rattle.jvm_values.specs.declared.heap.Value.{Value}
use Rattle.jvm_values.specs.declared.heap.Value.TheVariants as values
use Rattle.jvm_values.specs.declared.heap.Object.{Object}
use Rattle.jvm_values.specs.declared.heap.Heap.{Heap}
use Rattle.jvm_values.specs.declared.types.Ty.{Ty}
use Rattle.jvm_values.specs.declared.types.Base.TheVariants as bases
use Rattle.jvm_values.specs.declared.types.Kind.{Kind}
use Rattle.jvm_values.specs.declared.types.Kind.TheVariants as kinds
use Rattle.jvm_values.specs.declared.types.Slot.{Slot}
use Rattle.jvm_values.specs.declared.types.Slot.TheVariants as slots
use Rattle.jvm_values.specs.declared.typing.PlaceType.{PlaceType}
use Rattle.jvm_values.specs.declared.typing.PlaceType.TheVariants as places
use Rattle.jvm_values.specs.States.{MachineFrame, PlaceTypes}
use Rattle.jvm_values.specs.Kinds.{IsOfKind}
use Rattle.jvm_values.specs.Subtyping.{class_type, IsReference}
use Rattle.jvm_values.specs.TypedHeaps.{WorldTypes, AreLawful, type_of, HasType, IsTypedObject}
use Rattle.jvm_values.proofs.Options.{some_is}
use Rattle.class_program.specs.class_world.BuiltIns.{throwable}
use Rattle.class_program.specs.class_world.Fields.{can_be_made}
use Rattle.class_program.specs.class_world.Types.{erase}
use Rattle.class_program.specs.Good.{IsGoodNew}
use Rattle.code_verify.specs.declared.want.Want.{Want}
use Rattle.code_verify.specs.declared.want.Want.TheVariants as wants
use Rattle.code_verify.specs.Operands.{is_reference}
use Rattle.code_verify.specs.Rows.{acted, ireturn_types, areturn_types, return_types}
use Rattle.code_verify.specs.Flows.{falls}
use Rattle.code_verify.specs.TypedStates.{HasPlaceType, HasStack}
use Rattle.jvm_step.specs.Effects.{Effect, with_stack, makes, new_instance, instance_of, new_effect, checkcast_effect}
use Rattle.jvm_step.specs.Effects.{instanceof_effect, athrow_effect, ireturn_effect, areturn_effect, return_effect, is_number_slot}
use Rattle.jvm_step.specs.Effects.{is_returned}
use Rattle.jvm_step.specs.Operands.{is_null_or_below, is_below, is_assignable, top_reference, top_int}
use Rattle.jvm_run.proofs.Values.{own_type}
use Rattle.jvm_run.proofs.Forms.{Here, Stands, Well, FrameGood, HeapGood, IsResult, types_here, acted_of, pushed, top_reference_of}
use Rattle.jvm_run.proofs.Forms.{asks_any, asks_below, rest_has, on_object_well, bind_well, if_well, of_type_by, fits_slot}
use Rattle.jvm_run.proofs.IntForms.{one_int}
use Rattle.jvm_run.proofs.ArrayForms.{made_good}
use Rattle.jvm_run.proofs.Objects.{defaults_held}

-- ---- new instances

instance_made : (types : WorldTypes) (class : ℕ) → types.can_be_made class ≡ true
    → instance_of types 0 (bases.Class class) ≡ Some (new_instance types class)
instance_made types class e = ap (λ (b : Bool). cond b (Some (new_instance types class)) None) e

new_by : (here : Here) → Stands here → IsTrue (falls here.form) → (class : ℕ) → class < (types_here here).classes
    → (types_here here).can_be_made class ≡ true → (after : PlaceTypes)
    → acted (types_here here) [] (Some (places.Ref ((types_here here).erase (class_type class)))) here.before ≡ Some after
    → Well here (HeapGood here after) (new_effect (types_here here) (class_type class) here.work.frame here.work.heap)
unfolding new_effect
new_by here s f class l made after e =
    let types = types_here here in
    let heap = here.work.heap in
    let frame = here.work.frame in
    let t : Ty = types.erase (class_type class) in
    let a = acted_of types [] (Some (places.Ref t)) here.before after e in
    let object : Object = new_instance types class in
    let typed : IsTypedObject types heap object = (l, (made, defaults_held types heap (types.fields class))) in
    bind_well here (HeapGood here after) (instance_of types 0 (bases.Class class))
    (λ (o : Object). Some (makes o frame.stack frame heap)) object (instance_made types class made) (
      f,
      made_good here s after a.below frame.stack t object a.after_is
          (rest_has types heap here.before.stack a.below frame.stack a.taken_is s.stack) typed
          (s.laws.erase_up (class_type class) (omega arith, l)),
    )

pub new_well : (here : Here) → Stands here → IsTrue (falls here.form) → (t : Ty) → IsGoodNew here.program.world t
    → (after : PlaceTypes) → acted (types_here here) [] (Some (places.Ref ((types_here here).erase t))) here.before ≡ Some after
    → Well here (HeapGood here after) (new_effect (types_here here) t here.work.frame here.work.heap)
new_well here s f t good after e =
    subst (λ (x : Ty). acted (types_here here) [] (Some (places.Ref ((types_here here).erase x))) here.before ≡ Some after
    → Well here (HeapGood here after) (new_effect (types_here here) x here.work.frame here.work.heap)) (sym good.type_is)
    (new_by here s f good.class good.within good.made after) e

-- ---- casts

-- whether a reference passes a cast is known, and where it does, it has the type
record Cast (types : WorldTypes) (heap : Heap) (t : Ty) (value : Value) : Type 0 where
  passes : Bool
  is : is_null_or_below types heap t value ≡ Some passes
  typed : passes ≡ true → HasType types heap value (types.erase t)

cast : (types : WorldTypes) → AreLawful types → (heap : Heap) (t : Ty) → IsReference types.classes t
    → (place : PlaceType) (value : Value) → is_reference place ≡ true → HasPlaceType types heap place (Some value)
    → Cast types heap t value
cast types laws heap t r places.Unset value e h = absurd (false≢true e)
cast types laws heap t r places.Int value e h = absurd (false≢true e)
cast types laws heap t r places.Null (values.Int n) e h = absurd h
cast types laws heap t r places.Null values.Null e h = record { passes = true; is = refl; typed = λ p. tt }
cast types laws heap t r places.Null (values.Ref a) e h = absurd h
cast types laws heap t r (places.Ref u) (values.Int n) e h = absurd h
cast types laws heap t r (places.Ref u) values.Null e h = record { passes = true; is = refl; typed = λ p. tt }
cast types laws heap t r (places.Ref u) (values.Ref a) e h = record {
  passes = types.sub (type_of h.0) t;
  is = ap (option_map (λ (object : Object). types.sub (type_of object) t)) h.1.0;
  typed = λ p. own_type types heap a h.0 (types.erase t) h.1.0 (laws.transitive (type_of h.0) t (types.erase t) p (laws.erase_up t r));
}

-- the frame as it was, whose top has another type
same_frame : (here : Here) → Stands here → (after : PlaceTypes) (place : PlaceType) (below : List PlaceType) (value : Value)
    (rest : List Value) → after ≡ record { locals = here.before.locals; stack = place ∷ below }
    → here.work.frame.stack ≡ value ∷ rest → HasPlaceType (types_here here) here.work.heap place (Some value)
    → HasStack (types_here here) here.work.heap below rest → FrameGood here after here.work.frame
same_frame here s after place below value rest e q h k = subst
    (λ (stack : List Value). FrameGood here after (with_stack here.work.frame stack)) (sym q)
    (pushed here s after place below value rest e h k)

pub top_is : (stack : List Value) (value : Value) (rest : List Value) → top_reference stack ≡ Some (value, rest) → stack ≡ value ∷ rest
top_is [] value rest e = absurd (none-some _ e)
top_is (values.Int n ∷ more) value rest e = absurd (none-some _ e)
top_is (values.Null ∷ more) value rest e = ap (λ (x : Value × List Value). x.0 ∷ x.1) (some_is e)
top_is (values.Ref r ∷ more) value rest e = ap (λ (x : Value × List Value). x.0 ∷ x.1) (some_is e)

pub checkcast_well : (here : Here) → Stands here → IsTrue (falls here.form) → (t : Ty) → IsReference (types_here here).classes t
    → (after : PlaceTypes) → acted (types_here here) (wants.Reference ∷ []) (Some (places.Ref ((types_here here).erase t)))
    here.before ≡ Some after → Well here (FrameGood here after) (checkcast_effect (types_here here) t here.work.heap here.work.frame)
unfolding checkcast_effect
checkcast_well here s f t r after e =
    let types = types_here here in
    let heap = here.work.heap in
    let frame = here.work.frame in
    let G : MachineFrame → Type 0 = FrameGood here after in
    let a = acted_of types (wants.Reference ∷ []) (Some (places.Ref (types.erase t))) here.before after e in
    let top = top_reference_of types heap wants.Reference [] a.below here.before.stack frame.stack (asks_any types) s.stack a.taken_is in
    let c = cast types s.laws heap t r top.place top.value top.reference top.typed in
    let ends : (b : Bool) → (b ≡ true → HasType types heap top.value (types.erase t))
    → Well here G (Some (cond b (Effect.Next frame) (Effect.Raise 9))) = λ (b : Bool). elim b as
    (λ (b : Bool). (b ≡ true → HasType types heap top.value (types.erase t))
    → Well here G (Some (cond b (Effect.Next frame) (Effect.Raise 9)))) [
      | true ↦ λ h. (
        f,
        same_frame here s after (places.Ref (types.erase t)) a.below top.value top.rest a.after_is
            (top_is frame.stack top.value top.rest top.is_top) (h refl)
            (rest_has types heap top.under a.below top.rest top.others top.has),
      )
      | false ↦ λ h. (omega arith, omega arith)
    ] in
    bind_well here G (top_reference frame.stack) _ (top.value, top.rest) top.is_top
    (bind_well here G (is_null_or_below types heap t top.value) (λ (b : Bool). Some (cond b (Effect.Next frame) (Effect.Raise 9)))
    c.passes c.is (ends c.passes c.typed))

below_known : (types : WorldTypes) (heap : Heap) (t : Ty) (place : PlaceType) (value : Value) → is_reference place ≡ true
    → HasPlaceType types heap place (Some value) → (b : Bool) × (is_below types heap t value ≡ Some b)
below_known types heap t places.Unset value e h = absurd (false≢true e)
below_known types heap t places.Int value e h = absurd (false≢true e)
below_known types heap t places.Null (values.Int n) e h = absurd h
below_known types heap t places.Null values.Null e h = (false, refl)
below_known types heap t places.Null (values.Ref a) e h = absurd h
below_known types heap t (places.Ref u) (values.Int n) e h = absurd h
below_known types heap t (places.Ref u) values.Null e h = (false, refl)
below_known types heap t (places.Ref u) (values.Ref a) e h =
    (types.sub (type_of h.0) t, ap (option_map (λ (object : Object). types.sub (type_of object) t)) h.1.0)

bit_is : (b : Bool) → IsOfKind kinds.Int (cond b (pos 1) (pos 0))
bit_is true = (omega (arith, ints), omega (arith, ints))
bit_is false = (omega (arith, ints), omega (arith, ints))

pub instanceof_well : (here : Here) → Stands here → IsTrue (falls here.form) → (t : Ty) (after : PlaceTypes)
    → acted (types_here here) (wants.Reference ∷ []) (Some places.Int) here.before ≡ Some after
    → Well here (FrameGood here after) (instanceof_effect (types_here here) t here.work.heap here.work.frame)
unfolding instanceof_effect
instanceof_well here s f t after e =
    let types = types_here here in
    let heap = here.work.heap in
    let frame = here.work.frame in
    let a = acted_of types (wants.Reference ∷ []) (Some places.Int) here.before after e in
    let top = top_reference_of types heap wants.Reference [] a.below here.before.stack frame.stack (asks_any types) s.stack a.taken_is in
    let k = below_known types heap t top.place top.value top.reference top.typed in
    rw (top.is_top, k.1) (
      f,
      pushed here s after places.Int a.below (values.Int (cond k.0 (pos 1) (pos 0))) top.rest a.after_is
          (bit_is k.0) (rest_has types heap top.under a.below top.rest top.others top.has),
    )

-- ---- throws

pub athrow_well : (here : Here) → Stands here → (after : PlaceTypes)
    → acted (types_here here) (wants.Below (class_type throwable) ∷ []) None here.before ≡ Some after
    → Well here (FrameGood here after) (athrow_effect (types_here here) here.work.heap here.work.frame)
unfolding athrow_effect
athrow_well here s after e =
    let types = types_here here in
    let heap = here.work.heap in
    let frame = here.work.frame in
    let G : MachineFrame → Type 0 = FrameGood here after in
    let want : Want = wants.Below (class_type throwable) in
    let a = acted_of types (want ∷ []) None here.before after e in
    let top = top_reference_of types heap want [] a.below here.before.stack frame.stack (asks_below types (class_type throwable))
    s.stack a.taken_is in
    let erased : types.erase (class_type throwable) ≡ class_type throwable = s.laws.made_is_erased throwable
    (s.built_ins.there throwable (omega arith)) (s.built_ins.made throwable (omega arith)) in
    rw top.is_top (on_object_well here G want top.place top.value _ top.fit top.reference top.typed (λ r object is found.
    let sub : is_assignable types object (class_type throwable) ≡ true = s.laws.transitive (type_of object) found.t
    (types.erase (class_type throwable)) found.below found.fit in
    if_well here G (is_assignable types object (class_type throwable)) (Some (Effect.Throw r)) sub
    (own_type types heap r object (class_type throwable) found.there
    (subst (λ (t : Ty). IsTrue (types.sub (type_of object) t)) erased sub))))

-- ---- returns

pub ireturn_well : (here : Here) → Stands here → (after : PlaceTypes)
    → ireturn_types (types_here here) here.method.result here.before ≡ Some after
    → Well here (FrameGood here after) (ireturn_effect here.method.result here.work.frame)
unfolding ireturn_effect
ireturn_well here s after e = by here.method.result refl e
  where
    by : (result : Option Slot) → here.method.result ≡ result → ireturn_types (types_here here) result here.before ≡ Some after
        → Well here (FrameGood here after)
        (option_and_then (λ (value : ℤ × List Value). cond (is_number_slot result)
        (Some (Effect.Return (Some (values.Int value.0)))) None) (top_int here.work.frame.stack))
    by (Some (slots.Num kind)) p q =
        let a = acted_of (types_here here) (wants.Int ∷ []) None here.before after q in
        let one = one_int here s a.below a.taken_is in
        let typed : IsResult (types_here here) here.work.heap here.method.result (Some (values.Int one.number)) = subst
        (λ (o : Option Slot). IsResult (types_here here) here.work.heap o (Some (values.Int one.number))) (sym p) one.kind in
        rw one.is_top typed
    by (Some (slots.Ref t)) p q = absurd (none-some after q)
    by None p q = absurd (none-some after q)

pub areturn_well : (here : Here) → Stands here → (after : PlaceTypes)
    → areturn_types (types_here here) here.method.result here.before ≡ Some after
    → Well here (FrameGood here after) (areturn_effect (types_here here) here.method.result here.work.heap here.work.frame)
unfolding areturn_effect
areturn_well here s after e = by here.method.result refl e
  where
    by : (result : Option Slot) → here.method.result ≡ result → areturn_types (types_here here) result here.before ≡ Some after
        → Well here (FrameGood here after)
        (option_and_then (λ (value : Value × List Value). cond (is_returned (types_here here) here.work.heap result value.0)
        (Some (Effect.Return (Some value.0))) None) (top_reference here.work.frame.stack))
    by (Some (slots.Num kind)) p q = absurd (none-some after q)
    by (Some (slots.Ref t)) p q =
        let types = types_here here in
        let heap = here.work.heap in
        let a = acted_of types (wants.Below t ∷ []) None here.before after q in
        let top = top_reference_of types heap (wants.Below t) [] a.below here.before.stack here.work.frame.stack
        (asks_below types t) s.stack a.taken_is in
        let typed = fits_slot types s.laws heap (slots.Ref t) top.place top.value top.fit top.typed in
        let result : IsResult types heap here.method.result (Some top.value) = subst
        (λ (o : Option Slot). IsResult types heap o (Some top.value)) (sym p) typed in
        rw top.is_top (if_well here (FrameGood here after) (is_returned types heap (Some (slots.Ref t)) top.value)
        (Some (Effect.Return (Some top.value))) (of_type_by types heap t top.value typed) result)
    by None p q = absurd (none-some after q)

pub return_well : (here : Here) → Stands here → (after : PlaceTypes) → return_types here.method.result here.before ≡ Some after
    → Well here (FrameGood here after) (return_effect here.method.result here.work.frame)
return_well here s after e = by here.method.result refl e
  where
    by : (result : Option Slot) → here.method.result ≡ result → return_types result here.before ≡ Some after
        → Well here (FrameGood here after) (return_effect result here.work.frame)
    by (Some slot) p q = absurd (none-some after q)
    by None p q = subst (λ (o : Option Slot). IsResult (types_here here) here.work.heap o None) (sym p) tt
