-- Forms over arrays.
use Rattle.std.proofs.Common.{◌≡◌, ℕ, zero, suc, ◌+◌, ◌<◌, ◌≤◌, ℤ, pos, negsuc, Bool, true, false, cond, ◌&&◌, eqb, ltb, List, []}
use Rattle.std.proofs.Common.{◌∷◌, ◌++◌, length, map, set, get_or, replicate, Option, Some, None, IsTrue, refl, sym, ap, ◌∙◌, subst}
use Rattle.std.proofs.Common.{◌⊎◌, inl, inr, length-set, arith}
use Rattle.std.specs.Prelude.{slice_get, All, IfSome, nat_lt}
use Rattle.std.specs.List.{AllZip}
use Rattle.std.specs.Option.{option_and_then, option_map, option_map_or, is_some}
use Rattle.std.proofs.lemmas.Bool.{false≢true, and_from, lt-ltb, ltb-true}
use Rattle.std.proofs.lemmas.Option.{slice_get_within, none-some}
use Rattle.std.proofs.lemmas.List.{length-replicate}
use Rattle.std.proofs.lemmas.List.Elements.{All-set, All-replicate}
use Rattle.std.proofs.lemmas.Int.{ints}
use Rattle.list_views.proofs.Quantified.{all_at}
use Rattle.list_views.proofs.Items.{get_last}
use Rattle.list_views.proofs.Options.{then_some}
use Rattle.jvm_values.specs.declared.heap.Value.{Value}
use Rattle.jvm_values.specs.declared.heap.Value.TheVariants as values
use Rattle.jvm_values.specs.declared.heap.Object.{Object}
use Rattle.jvm_values.specs.declared.heap.Object.TheVariants.{Nums, Refs}
use Rattle.jvm_values.specs.declared.heap.Heap.{Heap}
use Rattle.jvm_values.specs.declared.types.Ty.{Ty}
use Rattle.jvm_values.specs.declared.types.Base.TheVariants as bases
use Rattle.jvm_values.specs.declared.types.Kind.{Kind}
use Rattle.jvm_values.specs.declared.types.Kind.TheVariants as kinds
use Rattle.jvm_values.specs.declared.types.Slot.{Slot}
use Rattle.jvm_values.specs.declared.types.Slot.TheVariants as slots
use Rattle.jvm_values.specs.declared.typing.PlaceType.{PlaceType}
use Rattle.jvm_values.specs.declared.typing.PlaceType.TheVariants as places
use Rattle.jvm_values.specs.States.{MachineFrame, PlaceTypes}
use Rattle.jvm_values.specs.Kinds.{IsOfKind, narrowed}
use Rattle.jvm_values.specs.Subtyping.{array_of, array_of_numbers, IsReference}
use Rattle.jvm_values.specs.TypedHeaps.{WorldTypes, AreLawful, type_of, HasType, IsTypedObject}
use Rattle.jvm_values.proofs.Options.{some_is}
use Rattle.class_program.specs.class_world.Types.{erase}
use Rattle.code_verify.specs.declared.want.Want.{Want}
use Rattle.code_verify.specs.declared.want.Want.TheVariants as wants
use Rattle.jvm_step.specs.op_forms.declared.form.ItemKind.{ItemKind}
use Rattle.code_verify.specs.Operands.{fits, is_reference, item_place, is_references}
use Rattle.code_verify.specs.Rows.{taken, acted, top_place, aaload_types}
use Rattle.code_verify.specs.Flows.{falls}
use Rattle.code_verify.specs.TypedStates.{HasPlaceType, HasStack}
use Rattle.code_verify.proofs.RowLaws.{array_reference}
use Rattle.jvm_values.specs.Joins.{item_of}
use Rattle.jvm_step.specs.Effects.{Effect, with_stack, pushes, on_item, item_at, index_below, length_of, numbers_in, references_in}
use Rattle.jvm_step.specs.Effects.{with_number, with_item, array_made, zeros, nulls, newarray_effect, anewarray_effect}
use Rattle.jvm_step.specs.Effects.{arraylength_effect, number_load_effect, aaload_effect, number_store_effect, aastore_effect}
use Rattle.jvm_step.specs.Operands.{is_null_or_below, top_int}
use Rattle.jvm_run.proofs.Numbers.{of_int, narrowed_is, zero_is}
use Rattle.jvm_run.proofs.Values.{Grows, grows_by, grows_set, heap_with, heap_set, own_type, type_wider}
use Rattle.jvm_run.proofs.Forms.{Here, Stands, Well, FrameGood, HeapGood, Fits, types_here, acted_of, left, pushed, top_int_of}
use Rattle.jvm_run.proofs.Forms.{top_reference_of, asks_any, asks_array, asks_numbers, asks_references, reference_top, rest_has}
use Rattle.jvm_run.proofs.Forms.{on_object_well, bind_well, asked_well, fits_grown}
use Rattle.jvm_run.proofs.IntForms.{one_int}
use Rattle.jvm_run.proofs.Objects.{reference_numbers, number_array, ReferenceArray, reference_array_of, some_array, typed_at}

-- ---- new arrays

-- a new object is put at the heap's end, and its reference on the stack
pub made_good : (here : Here) → Stands here
    → (after : PlaceTypes) (below : List PlaceType) (rest : List Value) (t : Ty) (object : Object)
    → after ≡ record { locals = here.before.locals; stack = places.Ref t ∷ below }
    → HasStack (types_here here) here.work.heap below rest → IsTypedObject (types_here here) here.work.heap object
    → IsTrue ((types_here here).sub (type_of object) t)
    → HeapGood here after (
      with_stack here.work.frame (values.Ref (length here.work.heap.objects) ∷ rest),
      record
          { objects = here.work.heap.objects ++ object ∷ [] },
    )
made_good here s after below rest t object e h o sub =
    let types = types_here here in
    let heap = here.work.heap in
    let new : Heap = record { objects = heap.objects ++ object ∷ [] } in
    let grows : Grows heap new = grows_by heap object in
    let under : PlaceTypes = record { locals = here.before.locals; stack = below } in
    let fit : Fits types new under here.work.frame (with_stack here.work.frame rest) = fits_grown types heap new grows under
    here.work.frame (with_stack here.work.frame rest) (left here s under below rest refl h) in
    let typed : HasType types new (values.Ref (length heap.objects)) t = own_type types new (length heap.objects) object t
    (get_last heap.objects object) sub in
    record {
      grows = grows;
      heap = heap_with types heap object s.heap o;
      fits = subst (λ (a : PlaceTypes). Fits types new a here.work.frame
          (with_stack here.work.frame (values.Ref (length heap.objects) ∷ rest))) (sym e) (record {
            method = refl;
            count = refl;
            locals = fit.locals;
            references = fit.references;
            stack = (typed, fit.stack);
          });
    }

small_count : (n : ℕ) → IsOfKind kinds.Int (pos n) → n ≤ 2147483647
small_count n h = let k = h.1 in omega (arith, ints, k)

zeros_typed : (types : WorldTypes) (heap : Heap) (kind : Kind) (n : ℕ) → n ≤ 2147483647
    → IsTypedObject types heap (Nums kind (replicate n (pos 0)))
zeros_typed types heap kind n l = (omega (arith, l, length-replicate n (pos 0)), All-replicate (IsOfKind kind) n (pos 0) (zero_is kind))

newarray_by : (here : Here) → Stands here → IsTrue (falls here.form)
    → (kind : Kind) (after : PlaceTypes) (below : List PlaceType) (rest : List Value) (count : ℤ)
    → after ≡ record { locals = here.before.locals; stack = places.Ref (array_of_numbers kind) ∷ below }
    → HasStack (types_here here) here.work.heap below rest → IsOfKind kinds.Int count
    → Well here (HeapGood here after) (Some (array_made (zeros kind count) rest here.work.frame here.work.heap))
newarray_by here s f kind after below rest (negsuc n) e h k = (omega arith, omega arith)
newarray_by here s f kind after below rest (pos n) e h k =
    let types = types_here here in (
      f,
      made_good here s after below rest (array_of_numbers kind) (Nums kind (replicate n (pos 0))) e h
          (zeros_typed types here.work.heap kind n (small_count n k))
          (s.laws.reflexive (array_of_numbers kind) (reference_numbers types.classes kind)),
    )

pub newarray_well : (here : Here) → Stands here → IsTrue (falls here.form) → (kind : Kind) (after : PlaceTypes)
    → acted (types_here here) (wants.Int ∷ []) (Some (places.Ref (array_of_numbers kind))) here.before ≡ Some after
    → Well here (HeapGood here after) (newarray_effect kind here.work.frame here.work.heap)
unfolding newarray_effect
newarray_well here s f kind after e =
    let a = acted_of (types_here here) (wants.Int ∷ []) (Some (places.Ref (array_of_numbers kind))) here.before after e in
    let one = one_int here s a.below a.taken_is in
    rw one.is_top (newarray_by here s f kind after a.below one.rest one.number a.after_is one.has one.kind)

nulls_typed : (types : WorldTypes) (heap : Heap) (t : Ty) (n : ℕ) → IsReference types.classes t → t.dims < 255 → n ≤ 2147483647
    → IsTypedObject types heap (Refs t (replicate n values.Null))
nulls_typed types heap t n r d l =
    (omega (arith, l, length-replicate n values.Null), (d, (r, All-replicate (λ value. HasType types heap value t) n values.Null tt)))

anewarray_by : (here : Here) → Stands here → IsTrue (falls here.form) → (t : Ty) → IsReference (types_here here).classes t
    → t.dims < 255 → (after : PlaceTypes) (below : List PlaceType) (rest : List Value) (count : ℤ)
    → after ≡ record { locals = here.before.locals; stack = places.Ref ((types_here here).erase (array_of t)) ∷ below }
    → HasStack (types_here here) here.work.heap below rest → IsOfKind kinds.Int count
    → Well here (HeapGood here after) (Some (array_made (nulls t count) rest here.work.frame here.work.heap))
anewarray_by here s f t r d after below rest (negsuc n) e h k = (omega arith, omega arith)
anewarray_by here s f t r d after below rest (pos n) e h k =
    let types = types_here here in (
      f,
      made_good here s after below rest (types.erase (array_of t)) (Refs t (replicate n values.Null)) e h
          (nulls_typed types here.work.heap t n r d (small_count n k))
          (s.laws.erase_up (array_of t) (array_reference types.classes t r d)),
    )

pub anewarray_well : (here : Here) → Stands here → IsTrue (falls here.form) → (t : Ty) → IsReference (types_here here).classes t
    → t.dims < 255 → (after : PlaceTypes)
    → acted (types_here here) (wants.Int ∷ []) (Some (places.Ref ((types_here here).erase (array_of t)))) here.before ≡ Some after
    → Well here (HeapGood here after) (anewarray_effect t here.work.frame here.work.heap)
unfolding anewarray_effect
anewarray_well here s f t r d after e =
    let a = acted_of (types_here here) (wants.Int ∷ []) (Some (places.Ref ((types_here here).erase (array_of t)))) here.before after e in
    let one = one_int here s a.below a.taken_is in
    rw one.is_top (anewarray_by here s f t r d after a.below one.rest one.number a.after_is one.has one.kind)

-- ---- lengths

pub arraylength_well : (here : Here) → Stands here → IsTrue (falls here.form) → (after : PlaceTypes)
    → acted (types_here here) (wants.Array ∷ []) (Some places.Int) here.before ≡ Some after
    → Well here (FrameGood here after) (arraylength_effect here.work.heap here.work.frame)
unfolding arraylength_effect
arraylength_well here s f after e =
    let types = types_here here in
    let heap = here.work.heap in
    let frame = here.work.frame in
    let G : MachineFrame → Type 0 = FrameGood here after in
    let a = acted_of types (wants.Array ∷ []) (Some places.Int) here.before after e in
    let top = top_reference_of types heap wants.Array [] a.below here.before.stack frame.stack (asks_array types) s.stack a.taken_is in
    rw top.is_top (on_object_well here G wants.Array top.place top.value _ top.fit top.reference top.typed (λ r object is found.
    let k = some_array types s.laws heap object found.t (typed_at types heap r object s.heap found.there) found.below
    (ltb-true 0 found.t.dims found.fit) in
    bind_well here G (length_of object) _ k.count k.count_is
    (asked_well here G (ltb k.count 2147483648) _ (lt-ltb k.count 2147483648 (omega (arith, k.small))) (
      f,
      pushed here s after places.Int a.below (values.Int (pos k.count)) top.rest a.after_is (is_int k.count k.small)
          (rest_has types heap top.under a.below top.rest top.others top.has),
    ))))
  where
    is_int : (n : ℕ) → n ≤ 2147483647 → IsOfKind kinds.Int (pos n)
    is_int n l = (omega (arith, ints), omega (arith, ints, l))

-- ---- loads

-- what is at an index of a list, all of whose items are so
item_well : {A X : Type 0} (here : Here) (G : X → Type 0) (P : A → Type 0) (list : List A) (index : ℤ) (act : A → Effect X)
    → All P list → ((a : A) → P a → Well here G (Some (act a))) → Well here G (Some (on_item (item_at list index) act))
item_well here G P list (negsuc i) act h k = (omega arith, omega arith)
item_well {A} here G P list (pos i) act h k = go (slice_get list i) refl
  where
    go : (o : Option A) → slice_get list i ≡ o → Well here G (Some (on_item o act))
    go None e = (omega arith, omega arith)
    go (Some x) e = k x (all_at P list i x h e)

pub number_load_well : (here : Here) → Stands here → IsTrue (falls here.form) → (for : ItemKind) (after : PlaceTypes)
    → acted (types_here here) (wants.Int ∷ wants.Numbers for ∷ []) (Some places.Int) here.before ≡ Some after
    → Well here (FrameGood here after) (number_load_effect for here.work.heap here.work.frame)
unfolding number_load_effect
number_load_well here s f for after e =
    let types = types_here here in
    let heap = here.work.heap in
    let frame = here.work.frame in
    let G : MachineFrame → Type 0 = FrameGood here after in
    let want : Want = wants.Numbers for in
    let a = acted_of types (wants.Int ∷ want ∷ []) (Some places.Int) here.before after e in
    let index = top_int_of types heap (want ∷ []) a.below here.before.stack frame.stack s.stack a.taken_is in
    let top = top_reference_of types heap want [] a.below index.under index.rest (asks_numbers types for) index.has index.others in
    let under = rest_has types heap top.under a.below top.rest top.others top.has in
    let then_ : Kind × List ℤ → Option (Effect MachineFrame) = λ (numbers : Kind × List ℤ). Some
    (on_item (item_at numbers.1 index.number) (λ (n : ℤ). pushes (values.Int n) top.rest frame)) in
    rw (index.is_top, top.is_top) (on_object_well here G want top.place top.value _ top.fit top.reference top.typed (λ r object is found.
    let k = number_array types s.laws heap for object found.t (typed_at types heap r object s.heap found.there) found.below found.fit in
    subst (λ (o : Object). Well here G (option_and_then then_ (numbers_in for o))) (sym k.object_is)
    (bind_well here G (numbers_in for (Nums k.kind k.list)) then_ (k.kind, k.list) k.found
    (item_well here G (IsOfKind k.kind) k.list index.number (λ (n : ℤ). pushes (values.Int n) top.rest frame) k.typed.1
    (λ n h. (f, pushed here s after places.Int a.below (values.Int n) top.rest a.after_is (of_int k.kind n h) under))))))

record Loads (here : Here) (after : PlaceTypes) : Type 0 where
  below : List PlaceType
  int_is : taken (types_here here) (wants.Int ∷ []) here.before.stack ≡ Some below
  array : PlaceType
  under : List PlaceType
  below_is : below ≡ array ∷ under
  item : PlaceType
  item_is : item_place array ≡ Some item
  after_is : after ≡ record { locals = here.before.locals; stack = item ∷ under }

loads : (here : Here) (after : PlaceTypes) → aaload_types (types_here here) here.before ≡ Some after → Loads here after
unfolding aaload_types
loads here after e =
    let g = then_some _ (taken (types_here here) (wants.Int ∷ []) here.before.stack) after e in
    let h = then_some _ (top_place g.0) after g.1.1 in
    let k = then_some _ (item_place h.0.0) after h.1.1 in
    record {
      below = g.0;
      int_is = g.1.0;
      array = h.0.0;
      under = h.0.1;
      below_is = is_top g.0 h.0 h.1.0;
      item = k.0;
      item_is =
          k.1.0;
      after_is = sym (some_is k.1.1);
    }
  where
    is_top : (xs : List PlaceType) (x : PlaceType × List PlaceType) → top_place xs ≡ Some x → xs ≡ x.0 ∷ x.1
    is_top [] x f = absurd (none-some x f)
    is_top (y ∷ ys) x f = ap (λ (z : PlaceType × List PlaceType). z.0 ∷ z.1) (some_is f)

item_reference : (place item : PlaceType) → item_place place ≡ Some item → is_reference place ≡ true
item_reference places.Unset item e = absurd (none-some item e)
item_reference places.Int item e = absurd (none-some item e)
item_reference places.Null item e = refl
item_reference (places.Ref t) item e = refl

-- the items' type of an array that a type is above
record ItemType (t : Ty) (item : PlaceType) : Type 0 where
  of : Ty
  of_is : item_of t ≡ Some of
  item_is : item ≡ places.Ref of

item_type : (t : Ty) (item : PlaceType) → item_place (places.Ref t) ≡ Some item → ItemType t item
item_type t item e = go (item_of t) refl e
  where
    go : (o : Option Ty) → item_of t ≡ o → option_map places.Ref o ≡ Some item → ItemType t item
    go None p q = absurd (none-some item q)
    go (Some of) p q = record { of = of; of_is = p; item_is = sym (some_is q) }

load_item : (here : Here) → Stands here → IsTrue (falls here.form)
    → (after : PlaceTypes) (under : List PlaceType) (item : PlaceType) (index : ℤ) (rest : List Value) (t : Ty) (object : Object)
    → item_place (places.Ref t) ≡ Some item → after ≡ record { locals = here.before.locals; stack = item ∷ under }
    → HasStack (types_here here) here.work.heap under rest → IsTypedObject (types_here here) here.work.heap object
    → IsTrue ((types_here here).sub (type_of object) t)
    → Well here (FrameGood here after)
    (option_and_then (λ (references : Ty × List Value). Some
    (on_item (item_at references.1 index) (λ (value : Value). pushes value rest here.work.frame))) (references_in object))
load_item here s f after under item index rest t object i a has o sub =
    let types = types_here here in
    let heap = here.work.heap in
    let frame = here.work.frame in
    let G : MachineFrame → Type 0 = FrameGood here after in
    let of = item_type t item i in
    let k = reference_array_of types s.laws heap object t of.of o sub of.of_is in
    let then_ : Ty × List Value → Option (Effect MachineFrame) = λ (references : Ty × List Value). Some
    (on_item (item_at references.1 index) (λ (value : Value). pushes value rest frame)) in
    subst (λ (x : Object). Well here G (option_and_then then_ (references_in x))) (sym k.object_is)
    (item_well here G (λ (value : Value). HasType types heap value k.element) k.list index
    (λ (value : Value). pushes value rest frame) k.typed.1.1.1
    (λ value h. (
      f,
      pushed here s after item under value rest a
          (subst (λ (x : PlaceType). HasPlaceType types heap x (Some value)) (sym of.item_is)
          (type_wider types s.laws heap value k.element of.of k.below h)) has,
    )))

aaload_by : (here : Here) → Stands here → IsTrue (falls here.form)
    → (after : PlaceTypes) (array : PlaceType) (under : List PlaceType) (item : PlaceType) (index : ℤ) (stack : List Value)
    → item_place array ≡ Some item → after ≡ record { locals = here.before.locals; stack = item ∷ under }
    → top_int here.work.frame.stack ≡ Some (index, stack) → HasStack (types_here here) here.work.heap (array ∷ under) stack
    → Well here (FrameGood here after) (aaload_effect here.work.heap here.work.frame)
unfolding aaload_effect
aaload_by here s f after array under item index [] i a t h = absurd h
aaload_by here s f after array under item index (value ∷ rest) i a t h =
    let types = types_here here in
    let heap = here.work.heap in
    let r = item_reference array item i in
    rw (t, reference_top types heap array value rest r h.0)
    (on_object_well here (FrameGood here after) wants.Reference array value _ r r h.0 (λ k object is found.
    load_item here s f after under item index rest found.t object
    (subst (λ (x : PlaceType). item_place x ≡ Some item) found.place_is i) a h.1
    (typed_at types heap k object s.heap found.there) found.below))

pub aaload_well : (here : Here) → Stands here → IsTrue (falls here.form) → (after : PlaceTypes)
    → aaload_types (types_here here) here.before ≡ Some after
    → Well here (FrameGood here after) (aaload_effect here.work.heap here.work.frame)
aaload_well here s f after e =
    let l = loads here after e in
    let index = one_int here s l.below l.int_is in
    aaload_by here s f after l.array l.under l.item index.number index.rest l.item_is l.after_is index.is_top
    (subst (λ (x : List PlaceType). HasStack (types_here here) here.work.heap x index.rest) l.below_is index.has)

-- ---- stores

-- an index of so many items
index_well : {X : Type 0} (here : Here) (G : X → Type 0) (count : ℕ) (index : ℤ) (act : ℕ → Effect X)
    → ((i : ℕ) → i < count → Well here G (Some (act i))) → Well here G (Some (on_item (index_below count index) act))
index_well here G count (negsuc i) act k = (omega arith, omega arith)
index_well here G count (pos i) act k = go (ltb i count) refl
  where
    go : (b : Bool) → ltb i count ≡ b → Well here G (Some (on_item (cond b (Some i) None) act))
    go true e = k i (ltb-true i count e)
    go false e = (omega arith, omega arith)

-- an object is replaced by one of its type, and the operands leave the stack
pub stored_good : (here : Here) → Stands here
    → (after : PlaceTypes) (below : List PlaceType) (rest : List Value) (r : ℕ) (object new : Object)
    → after ≡ record { locals = here.before.locals; stack = below } → HasStack (types_here here) here.work.heap below rest
    → slice_get here.work.heap.objects r ≡ Some object → type_of new ≡ type_of object
    → IsTypedObject (types_here here) here.work.heap new
    → HeapGood here after (with_stack here.work.frame rest, record { objects = set here.work.heap.objects r new })
stored_good here s after below rest r object new e h there same typed =
    let types = types_here here in
    let heap = here.work.heap in
    let grown : Heap = record { objects = set heap.objects r new } in
    let grows : Grows heap grown = grows_set heap r object new there same in
    record {
      grows = grows;
      heap = heap_set types heap r object new there same s.heap typed;
      fits = fits_grown types heap grown grows after here.work.frame (with_stack here.work.frame rest) (left here s after below rest e h);
    }

number_put : (types : WorldTypes) (heap : Heap) (kind : Kind) (list : List ℤ) (i : ℕ) (n : ℤ)
    → IsTypedObject types heap (Nums kind list) → IsOfKind kind n → IsTypedObject types heap (Nums kind (set list i n))
number_put types heap kind list i n h k = (omega (arith, h.0, length-set list i n), All-set (IsOfKind kind) list i n k h.1)

pub number_store_well : (here : Here) → Stands here → IsTrue (falls here.form) → (for : ItemKind) (after : PlaceTypes)
    → acted (types_here here) (wants.Int ∷ wants.Int ∷ wants.Numbers for ∷ []) None here.before ≡ Some after
    → Well here (HeapGood here after) (number_store_effect for here.work.frame here.work.heap)
unfolding number_store_effect
number_store_well here s f for after e =
    let types = types_here here in
    let heap = here.work.heap in
    let frame = here.work.frame in
    let G : MachineFrame × Heap → Type 0 = HeapGood here after in
    let want : Want = wants.Numbers for in
    let a = acted_of types (wants.Int ∷ wants.Int ∷ want ∷ []) None here.before after e in
    let value = top_int_of types heap (wants.Int ∷ want ∷ []) a.below here.before.stack frame.stack s.stack a.taken_is in
    let index = top_int_of types heap (want ∷ []) a.below value.under value.rest value.has value.others in
    let top = top_reference_of types heap want [] a.below index.under index.rest (asks_numbers types for) index.has index.others in
    let under = rest_has types heap top.under a.below top.rest top.others top.has in
    rw (value.is_top, index.is_top, top.is_top) (on_object_well here G want top.place top.value _ top.fit top.reference top.typed
    (λ r object is found.
    let then_ : Kind × List ℤ → Option (Effect (MachineFrame × Heap)) = λ (numbers : Kind × List ℤ). Some
    (on_item (index_below (length numbers.1) index.number)
    (λ (i : ℕ). Effect.Next (with_stack frame top.rest, with_number heap r numbers i value.number))) in
    let k = number_array types s.laws heap for object found.t (typed_at types heap r object s.heap found.there) found.below found.fit in
    let there : slice_get heap.objects r ≡ Some (Nums k.kind k.list) = found.there ∙ ap Some k.object_is in
    subst (λ (o : Object). Well here G (option_and_then then_ (numbers_in for o))) (sym k.object_is)
    (bind_well here G (numbers_in for (Nums k.kind k.list)) then_ (k.kind, k.list) k.found
    (index_well here G (length k.list) index.number
    (λ (i : ℕ). Effect.Next (with_stack frame top.rest, with_number heap r (k.kind, k.list) i value.number))
    (λ i l. (
      f,
      stored_good here s after a.below top.rest r (Nums k.kind k.list) (Nums k.kind (set k.list i (narrowed k.kind value.number)))
          a.after_is under there refl
          (number_put types heap k.kind k.list i (narrowed k.kind value.number) k.typed (narrowed_is k.kind value.number value.kind)),
    ))))))

reference_put : (types : WorldTypes) (heap : Heap) (element : Ty) (list : List Value) (i : ℕ) (value : Value)
    → IsTypedObject types heap (Refs element list) → HasType types heap value element
    → IsTypedObject types heap (Refs element (set list i value))
reference_put types heap element list i value h k =
    (omega (arith, h.0, length-set list i value), (h.1.0, (h.1.1.0, All-set (λ v. HasType types heap v element) list i value k h.1.1.1)))

-- whether a reference can be stored is known, and where it can, it has the type
record Storable (types : WorldTypes) (heap : Heap) (element : Ty) (value : Value) : Type 0 where
  fits_ : Bool
  is : is_null_or_below types heap element value ≡ Some fits_
  typed : fits_ ≡ true → HasType types heap value element

storable : (types : WorldTypes) (heap : Heap) (element : Ty) (place : PlaceType) (value : Value) → is_reference place ≡ true
    → HasPlaceType types heap place (Some value) → Storable types heap element value
storable types heap element places.Unset value e h = absurd (false≢true e)
storable types heap element places.Int value e h = absurd (false≢true e)
storable types heap element places.Null (values.Int n) e h = absurd h
storable types heap element places.Null values.Null e h = record { fits_ = true; is = refl; typed = λ p. tt }
storable types heap element places.Null (values.Ref r) e h = absurd h
storable types heap element (places.Ref t) (values.Int n) e h = absurd h
storable types heap element (places.Ref t) values.Null e h = record { fits_ = true; is = refl; typed = λ p. tt }
storable types heap element (places.Ref t) (values.Ref r) e h = record {
  fits_ = types.sub (type_of h.0) element;
  is = ap (option_map (λ (object : Object). types.sub (type_of object) element)) h.1.0;
  typed = λ p. own_type types heap r h.0 element h.1.0 p;
}

references_array : (types : WorldTypes) → AreLawful types → (heap : Heap) (object : Object) (t : Ty)
    → IsTypedObject types heap object → IsTrue (types.sub (type_of object) t) → is_references (places.Ref t) ≡ true
    → (item : Ty) × ReferenceArray types heap item object
references_array types laws heap object t o sub e = go (item_of t) refl e
  where
    go : (x : Option Ty) → item_of t ≡ x → is_some x ≡ true → (item : Ty) × ReferenceArray types heap item object
    go None p q = absurd (false≢true q)
    go (Some item) p q = (item, reference_array_of types laws heap object t item o sub p)

pub aastore_well : (here : Here) → Stands here → IsTrue (falls here.form) → (after : PlaceTypes)
    → acted (types_here here) (wants.Reference ∷ wants.Int ∷ wants.References ∷ []) None here.before ≡ Some after
    → Well here (HeapGood here after) (aastore_effect (types_here here) here.work.frame here.work.heap)
unfolding aastore_effect
aastore_well here s f after e =
    let types = types_here here in
    let heap = here.work.heap in
    let frame = here.work.frame in
    let G : MachineFrame × Heap → Type 0 = HeapGood here after in
    let a = acted_of types (wants.Reference ∷ wants.Int ∷ wants.References ∷ []) None here.before after e in
    let value = top_reference_of types heap wants.Reference (wants.Int ∷ wants.References ∷ []) a.below here.before.stack
    frame.stack (asks_any types) s.stack a.taken_is in
    let index = top_int_of types heap (wants.References ∷ []) a.below value.under value.rest value.has value.others in
    let top = top_reference_of types heap wants.References [] a.below index.under index.rest (asks_references types) index.has
    index.others in
    let under = rest_has types heap top.under a.below top.rest top.others top.has in
    rw (value.is_top, index.is_top, top.is_top) (on_object_well here G wants.References top.place top.value _ top.fit top.reference
    top.typed (λ r object is found.
    let k = (references_array types s.laws heap object found.t (typed_at types heap r object s.heap found.there) found.below
    found.fit).1 in
    let there : slice_get heap.objects r ≡ Some (Refs k.element k.list) = found.there ∙ ap Some k.object_is in
    let st = storable types heap k.element value.place value.value value.reference value.typed in
    let act : Object → Bool → ℕ → Effect (MachineFrame × Heap) = λ (o : Object) (b : Bool) (i : ℕ). cond b
    (Effect.Next (with_stack frame top.rest, with_item heap r i value.value o)) (Effect.Raise 10) in
    let then_ : Object → Ty × List Value → Option (Effect (MachineFrame × Heap)) = λ (o : Object) (references : Ty × List Value).
    option_and_then (λ (b : Bool). Some (on_item (index_below (length references.1) index.number) (act o b)))
    (is_null_or_below types heap references.0 value.value) in
    let stores : (b : Bool) → (b ≡ true → HasType types heap value.value k.element) → (i : ℕ)
    → Well here G (Some (act (Refs k.element k.list) b i)) = λ (b : Bool). elim b as
    (λ (b : Bool). (b ≡ true → HasType types heap value.value k.element) → (i : ℕ)
    → Well here G (Some (act (Refs k.element k.list) b i))) [
      | true ↦ λ h i. (
        f,
        stored_good here s after a.below top.rest r (Refs k.element k.list)
            (Refs k.element (set k.list i value.value)) a.after_is under there refl
            (reference_put types heap k.element k.list i value.value k.typed (h refl)),
      )
      | false ↦ λ h i. (omega arith, omega arith)
    ] in
    subst (λ (o : Object). Well here G (option_and_then (then_ o) (references_in o))) (sym k.object_is)
    (bind_well here G (is_null_or_below types heap k.element value.value)
    (λ (b : Bool). Some (on_item (index_below (length k.list) index.number) (act (Refs k.element k.list) b))) st.fits_ st.is
    (index_well here G (length k.list) index.number (act (Refs k.element k.list) st.fits_) (λ i l. stores st.fits_ st.typed i)))))
