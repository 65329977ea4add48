-- Forms over static fields and fields of objects.
use Rattle.std.proofs.Common.{◌≡◌, ℕ, zero, suc, ◌+◌, ◌<◌, ◌≤◌, ℤ, pos, negsuc, Bool, true, false, cond, ◌&&◌, eqb, ltb, List, []}
use Rattle.std.proofs.Common.{◌∷◌, ◌++◌, length, map, set, get_or, replicate, Option, Some, None, IsTrue, refl, sym, ap, ◌∙◌, subst}
use Rattle.std.proofs.Common.{◌⊎◌, inl, inr, length-set, arith}
use Rattle.std.specs.Prelude.{slice_get, All, IfSome, nat_lt}
use Rattle.std.specs.List.{AllZip}
use Rattle.std.specs.Option.{option_and_then, option_map, option_map_or}
use Rattle.std.proofs.lemmas.Bool.{false≢true, and_from, lt-ltb, ltb-true}
use Rattle.std.proofs.lemmas.Option.{slice_get_within, none-some}
use Rattle.std.proofs.lemmas.List.{length-replicate}
use Rattle.std.proofs.lemmas.List.Elements.{All-set, All-replicate}
use Rattle.std.proofs.lemmas.Int.{ints}
use Rattle.std.proofs.lemmas.Slice.Zip.{AllZip-long}
use Rattle.list_views.proofs.Options.{then_some}
use Rattle.list_views.specs.Options.{asked}
use Rattle.jvm_values.specs.declared.heap.Value.{Value}
use Rattle.jvm_values.specs.declared.heap.Value.TheVariants as values
use Rattle.jvm_values.specs.declared.heap.Object.{Object}
use Rattle.jvm_values.specs.declared.heap.Object.TheVariants.{Instance}
use Rattle.jvm_values.specs.declared.heap.Heap.{Heap}
use Rattle.jvm_values.specs.declared.types.Ty.{Ty}
use Rattle.jvm_values.specs.declared.types.Base.TheVariants as bases
use Rattle.jvm_values.specs.declared.types.Kind.{Kind}
use Rattle.jvm_values.specs.declared.types.Kind.TheVariants as kinds
use Rattle.jvm_values.specs.declared.types.Slot.{Slot}
use Rattle.jvm_values.specs.declared.types.Slot.TheVariants as slots
use Rattle.jvm_values.specs.declared.typing.PlaceType.{PlaceType}
use Rattle.jvm_values.specs.declared.typing.PlaceType.TheVariants as places
use Rattle.jvm_values.specs.States.{MachineFrame, PlaceTypes}
use Rattle.jvm_values.specs.Subtyping.{class_type}
use Rattle.jvm_values.specs.TypedHeaps.{WorldTypes, AreLawful, type_of, Holds, IsTypedObject}
use Rattle.jvm_values.proofs.Options.{some_is}
use Rattle.class_program.specs.class_world.Fields.{fields_of}
use Rattle.class_program.specs.class_world.lemmas.Linked.{class_order}
use Rattle.class_program.specs.class_world.Types.{is_class_below, erase}
use Rattle.class_program.specs.declared.op.FieldUse.{FieldUse}
use Rattle.class_program.specs.declared.program.StaticField.{StaticField}
use Rattle.class_program.specs.Good.{IsGoodField}
use Rattle.code_verify.specs.declared.want.Want.{Want}
use Rattle.code_verify.specs.declared.want.Want.TheVariants as wants
use Rattle.code_verify.specs.Operands.{fits, place_of, want_of}
use Rattle.code_verify.specs.Rows.{acted, static_slot, getstatic_types, putstatic_types}
use Rattle.code_verify.specs.Flows.{falls}
use Rattle.code_verify.specs.TypedStates.{HasPlaceType}
use Rattle.jvm_step.specs.Effects.{Effect, with_stack, pushes, fields_in, getstatic_effect, putstatic_effect, getfield_effect}
use Rattle.jvm_step.specs.Effects.{putfield_effect, with_item}
use Rattle.jvm_step.specs.Operands.{kept, is_assignable, is_passed}
use Rattle.jvm_run.proofs.Lists.{zip_get, zip_set_right}
use Rattle.jvm_run.proofs.Numbers.{narrowed_is}
use Rattle.jvm_run.proofs.Values.{Grows, grows_set, held, heap_set}
use Rattle.jvm_run.proofs.Forms.{Here, Stands, Well, FrameGood, HeapGood, StaticsGood, types_here, acted_of, left, pushed}
use Rattle.jvm_run.proofs.Forms.{top_reference_of, asks_below, rest_has, Found, on_object_well, bind_well, asked_well, fits_grown}
use Rattle.jvm_run.proofs.Forms.{passed_by, top_passed_of}
use Rattle.jvm_run.proofs.Objects.{erased_class, class_below_by, instance_or_root, typed_at}

-- what a field keeps of a value that is put into it
pub kept_held : (types : WorldTypes) (heap : Heap) (slot : Slot) (value : Value)
    → HasPlaceType types heap (place_of types slot) (Some value) → Holds types heap slot (kept slot value)
kept_held types heap (slots.Num kind) (values.Int n) h = narrowed_is kind n h
kept_held types heap (slots.Num kind) values.Null h = absurd h
kept_held types heap (slots.Num kind) (values.Ref r) h = absurd h
kept_held types heap (slots.Ref t) (values.Int n) h = absurd h
kept_held types heap (slots.Ref t) values.Null h = tt
kept_held types heap (slots.Ref t) (values.Ref r) h = h

-- ---- static fields

record StaticThere (here : Here) (place : ℕ) (slot : Slot) : Type 0 where
  field_ : StaticField
  there : slice_get here.program.statics place ≡ Some field_
  slot_is : field_.slot ≡ slot

static_there : (here : Here) (place : ℕ) (slot : Slot) → static_slot here.program place ≡ Some slot → StaticThere here place slot
static_there here place slot e = go (slice_get here.program.statics place) refl e
  where
    go : (o : Option StaticField) → slice_get here.program.statics place ≡ o
        → option_map (λ (f : StaticField). f.slot) o ≡ Some slot → StaticThere here place slot
    go None p q = absurd (none-some slot q)
    go (Some f) p q = record { field_ = f; there = p; slot_is = some_is q }

pub getstatic_well : (here : Here) → Stands here → IsTrue (falls here.form) → (place : ℕ) (after : PlaceTypes)
    → getstatic_types here.program place here.before ≡ Some after
    → Well here (FrameGood here after) (getstatic_effect place here.work.statics here.work.frame)
unfolding getstatic_effect getstatic_types
getstatic_well here s f place after e =
    let types = types_here here in
    let heap = here.work.heap in
    let g = then_some _ (static_slot here.program place) after e in
    let there = static_there here place g.0 g.1.0 in
    let b = zip_get (λ (field_ : StaticField) (value : Value). Holds types heap field_.slot value) here.program.statics
    here.work.statics place there.field_ s.statics there.there in
    let a = acted_of types [] (Some (place_of types g.0)) here.before after g.1.1 in
    let typed : HasPlaceType types heap (place_of types g.0) (Some b.other) = held types heap g.0 b.other
    (subst (λ (x : Slot). Holds types heap x b.other) there.slot_is b.alike) in
    rw b.there (
      f,
      pushed here s after (place_of types g.0) a.below b.other here.work.frame.stack a.after_is typed
          (rest_has types heap here.before.stack a.below here.work.frame.stack a.taken_is s.stack),
    )

pub putstatic_well : (here : Here) → Stands here → IsTrue (falls here.form) → (place : ℕ) (after : PlaceTypes)
    → putstatic_types here.program place here.before ≡ Some after
    → Well here (StaticsGood here after)
    (putstatic_effect (types_here here) here.program.statics place here.work.heap here.work.frame here.work.statics)
unfolding putstatic_effect putstatic_types
putstatic_well here s f place after e =
    let types = types_here here in
    let heap = here.work.heap in
    let frame = here.work.frame in
    let statics = here.work.statics in
    let R : StaticField → Value → Type 0 = λ (x : StaticField) (value : Value). Holds types heap x.slot value in
    let g = then_some _ (static_slot here.program place) after e in
    let there = static_there here place g.0 g.1.0 in
    let a = acted_of types (want_of g.0 ∷ []) None here.before after g.1.1 in
    let top = top_passed_of types s.laws heap g.0 [] a.below here.before.stack frame.stack s.stack a.taken_is in
    let slot : Slot = there.field_.slot in
    let typed : HasPlaceType types heap (place_of types slot) (Some top.value) = subst
    (λ (x : Slot). HasPlaceType types heap (place_of types x) (Some top.value)) (sym there.slot_is) top.typed in
    let within : ltb place (length statics) ≡ true = lt-ltb place (length statics)
    (subst (λ (n : ℕ). place < n) (sym (AllZip-long R here.program.statics statics s.statics))
    (slice_get_within here.program.statics place there.field_ there.there)) in
    let both : (is_passed types heap slot top.value && ltb place (length statics)) ≡ true = and_from
    (is_passed types heap slot top.value) (ltb place (length statics)) (passed_by types heap slot top.value typed) within in
    let good : StaticsGood here after (with_stack frame top.rest, set statics place (kept slot top.value)) = record {
      statics = zip_set_right R here.program.statics statics place there.field_ (kept slot top.value) s.statics there.there
          (kept_held types heap slot top.value typed);
      fits = left here s after a.below top.rest a.after_is (rest_has types heap top.under a.below top.rest top.others top.has);
    } in
    rw (there.there, top.is_top)
    (asked_well here (StaticsGood here after) (is_passed types heap slot top.value && ltb place (length statics)) _ both (f, good))

-- ---- fields of objects

-- an object that a field's class is asked of is an instance with the field
record HasField (here : Here) (used : FieldUse) (object : Object) : Type 0 where
  own : ℕ
  fields : List Value
  object_is : object ≡ Instance own fields
  typed : IsTypedObject (types_here here) here.work.heap (Instance own fields)
  assignable : is_assignable (types_here here) (Instance own fields) (class_type used.class) ≡ true
  slot_is : slice_get (fields_of here.program.world own) used.place ≡ Some used.slot

no_field : (here : Here) → Stands here → (used : FieldUse) → IsGoodField here.program.world used → used.class ≡ 0 → ⊥
no_field here s used good z =
    let world = here.program.world in
    let order = class_order world s.linked in
    let below : is_class_below world 0 used.class ≡ true = subst (λ (c : ℕ). is_class_below world 0 c ≡ true) (sym z) (order.same 0) in
    let slot = good.right 0 order.some below in
    none-some used.slot (ap (λ (fields : List Slot). slice_get fields used.place) (sym (s.built_ins.without_fields 0 (omega arith)))
    ∙ slot)

has_field : (here : Here) → Stands here → (used : FieldUse) → IsGoodField here.program.world used → (object : Object)
    → IsTypedObject (types_here here) here.work.heap object → is_assignable (types_here here) object (class_type used.class) ≡ true
    → HasField here used object
has_field here s used good object typed e =
    let world = here.program.world in
    let types = types_here here in
    let under : IsTrue (types.sub (type_of object) (class_type used.class)) = subst
    (λ (t : Ty). IsTrue (types.sub (type_of object) t)) (erased_class world used.class good.no_interface) e in
    elim (instance_or_root types s.laws here.work.heap object used.class typed under) [
      | inl i ↦ record {
        own = i.own;
        fields = i.fields;
        object_is = i.object_is;
        typed = i.typed;
        assignable = subst (λ (o : Object). is_assignable types o (class_type used.class) ≡ true) i.object_is e;
        slot_is = good.right i.own i.typed.0
            (class_below_by world s.linked i.own used.class
            (subst (λ (o : Object). IsTrue (types.sub (type_of o) (class_type used.class))) i.object_is under));
      }
      | inr z ↦ absurd (no_field here s used good z)
    ]

found_assignable : (types : WorldTypes) → AreLawful types → (heap : Heap) (t : Ty) (place : PlaceType) (r : ℕ) (object : Object)
    → Found types heap (wants.Below t) place r object → is_assignable types object t ≡ true
found_assignable types laws heap t place r object found = laws.transitive (type_of object) found.t (types.erase t) found.below found.fit

pub getfield_well : (here : Here) → Stands here → IsTrue (falls here.form) → (used : FieldUse) → IsGoodField here.program.world used
    → (after : PlaceTypes)
    → acted (types_here here) (wants.Below (class_type used.class) ∷ []) (Some (place_of (types_here here) used.slot)) here.before
    ≡ Some after → Well here (FrameGood here after) (getfield_effect (types_here here) used here.work.heap here.work.frame)
unfolding getfield_effect
getfield_well here s f used good after e =
    let types = types_here here in
    let heap = here.work.heap in
    let frame = here.work.frame in
    let G : MachineFrame → Type 0 = FrameGood here after in
    let want : Want = wants.Below (class_type used.class) in
    let a = acted_of types (want ∷ []) (Some (place_of types used.slot)) here.before after e in
    let top = top_reference_of types heap want [] a.below here.before.stack frame.stack (asks_below types (class_type used.class))
    s.stack a.taken_is in
    rw top.is_top (on_object_well here G want top.place top.value _ top.fit top.reference top.typed (λ r object is found.
    let h = has_field here s used good object (typed_at types heap r object s.heap found.there)
    (found_assignable types s.laws heap (class_type used.class) top.place r object found) in
    let b = zip_get (Holds types heap) (fields_of here.program.world h.own) h.fields used.place used.slot h.typed.1.1 h.slot_is in
    let done : Well here G (Some (pushes b.other top.rest frame)) = (
      f,
      pushed here s after (place_of types used.slot) a.below b.other top.rest a.after_is
          (held types heap used.slot b.other b.alike) (rest_has types heap top.under a.below top.rest top.others top.has),
    ) in
    subst (λ (o : Object). Well here G
    (option_and_then (λ (u : Unit {0}). option_and_then
    (λ (fields : List Value). option_and_then (λ (value : Value). Some (pushes value top.rest frame))
    (slice_get fields used.place)) (fields_in o)) (asked (is_assignable types o (class_type used.class))))) (sym h.object_is)
    (asked_well here G (is_assignable types (Instance h.own h.fields) (class_type used.class))
    (λ (u : Unit {0}). option_and_then (λ (value : Value). Some (pushes value top.rest frame))
    (slice_get h.fields used.place)) h.assignable
    (bind_well here G (slice_get h.fields used.place) (λ (value : Value). Some (pushes value top.rest frame)) b.other b.there done))))

-- an instance with another value in a field
pub instance_put : (types : WorldTypes) (heap : Heap) (own : ℕ) (fields : List Value) (place : ℕ) (slot : Slot) (value : Value)
    → IsTypedObject types heap (Instance own fields) → slice_get (types.fields own) place ≡ Some slot → Holds types heap slot value
    → IsTypedObject types heap (Instance own (set fields place value))
instance_put types heap own fields place slot value h e k =
    (h.0, (h.1.0, zip_set_right (Holds types heap) (types.fields own) fields place slot value h.1.1 e k))

pub putfield_well : (here : Here) → Stands here → IsTrue (falls here.form) → (used : FieldUse) → IsGoodField here.program.world used
    → (after : PlaceTypes) → acted (types_here here) (want_of used.slot ∷ wants.Below (class_type used.class) ∷ []) None here.before
    ≡ Some after → Well here (HeapGood here after) (putfield_effect (types_here here) used here.work.frame here.work.heap)
unfolding putfield_effect
putfield_well here s f used good after e =
    let types = types_here here in
    let heap = here.work.heap in
    let frame = here.work.frame in
    let G : MachineFrame × Heap → Type 0 = HeapGood here after in
    let want : Want = wants.Below (class_type used.class) in
    let a = acted_of types (want_of used.slot ∷ want ∷ []) None here.before after e in
    let first = top_passed_of types s.laws heap used.slot (want ∷ []) a.below here.before.stack frame.stack s.stack a.taken_is in
    let top = top_reference_of types heap want [] a.below first.under first.rest (asks_below types (class_type used.class))
    first.has first.others in
    let v : Value = kept used.slot first.value in
    rw (first.is_top, top.is_top)
    (asked_well here G (is_passed types heap used.slot first.value) _ (passed_by types heap used.slot first.value first.typed)
    (on_object_well here G want top.place top.value _ top.fit top.reference top.typed (λ r object is found.
    let h = has_field here s used good object (typed_at types heap r object s.heap found.there)
    (found_assignable types s.laws heap (class_type used.class) top.place r object found) in
    let there : slice_get heap.objects r ≡ Some (Instance h.own h.fields) = found.there ∙ ap Some h.object_is in
    let put : Object = Instance h.own (set h.fields used.place v) in
    let new : Heap = record { objects = set heap.objects r put } in
    let grows : Grows heap new = grows_set heap r (Instance h.own h.fields) put there refl in
    let b = zip_get (Holds types heap) (fields_of here.program.world h.own) h.fields used.place used.slot h.typed.1.1 h.slot_is in
    let within : ltb used.place (length h.fields) ≡ true = lt-ltb used.place (length h.fields)
    (slice_get_within h.fields used.place b.other b.there) in
    let good_ : HeapGood here after (with_stack frame top.rest, new) = record {
      grows = grows;
      heap = heap_set types heap r (Instance h.own h.fields) put there refl s.heap
          (instance_put types heap h.own h.fields used.place used.slot v h.typed h.slot_is
          (kept_held types heap used.slot first.value first.typed));
      fits = fits_grown types heap new grows after frame (with_stack frame top.rest)
          (left here s after a.below top.rest a.after_is (rest_has types heap top.under a.below top.rest top.others top.has));
    } in
    let last : (fields : List Value) → Option (Effect (MachineFrame × Heap)) = λ (fields : List Value). option_and_then
    (λ (u : Unit {0}). Some (Effect.Next (with_stack frame top.rest, with_item heap r used.place v (Instance h.own h.fields))))
    (asked (ltb used.place (length fields))) in
    subst (λ (o : Object). Well here G
    (option_and_then (λ (u : Unit {0}). option_and_then
    (λ (fields : List Value). option_and_then
    (λ (w : Unit {0}). Some (Effect.Next (with_stack frame top.rest, with_item heap r used.place v o)))
    (asked (ltb used.place (length fields)))) (fields_in o)) (asked (is_assignable types o (class_type used.class)))))
    (sym h.object_is)
    (asked_well here G (is_assignable types (Instance h.own h.fields) (class_type used.class)) (λ (u : Unit {0}). last h.fields)
    h.assignable
    (asked_well here G (ltb used.place (length h.fields))
    (λ (u : Unit {0}). Some
    (Effect.Next (with_stack frame top.rest, with_item heap r used.place v (Instance h.own h.fields)))) within (f, good_))))))
