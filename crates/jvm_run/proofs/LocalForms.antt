-- Forms over locals.
use Rattle.std.proofs.Common.{◌≡◌, ℕ, zero, suc, ◌+◌, ◌<◌, ◌≤◌, ℤ, pos, negsuc, ◌+ℤ◌, Bool, true, false, cond, ltb, List, [], ◌∷◌}
use Rattle.std.proofs.Common.{length, set, Option, Some, None, IsTrue, refl, sym, ap, ◌∙◌, subst, length-set, arith}
use Rattle.std.specs.Prelude.{slice_get, All, IfSome, nat_lt}
use Rattle.std.specs.List.{AllZip}
use Rattle.std.specs.Int.{int_wrap, w32}
use Rattle.std.specs.Option.{option_and_then}
use Rattle.std.proofs.lemmas.Bool.{false≢true, ltb-true, lt-ltb}
use Rattle.std.proofs.lemmas.List.Elements.{All-set}
use Rattle.std.proofs.lemmas.Option.{slice_get_within, none-some}
use Rattle.std.proofs.lemmas.Slice.Zip.{AllZip-long}
use Rattle.list_views.proofs.Options.{cond_guarded, then_some}
use Rattle.list_views.specs.Options.{asked}
use Rattle.jvm_values.specs.declared.heap.Value.{Value}
use Rattle.jvm_values.specs.declared.heap.Value.TheVariants as values
use Rattle.jvm_values.specs.declared.heap.Heap.{Heap}
use Rattle.jvm_values.specs.declared.types.Kind.TheVariants as kinds
use Rattle.jvm_values.specs.declared.typing.PlaceType.{PlaceType}
use Rattle.jvm_values.specs.declared.typing.PlaceType.TheVariants as places
use Rattle.jvm_values.specs.States.{MachineFrame, PlaceTypes}
use Rattle.jvm_values.specs.Heaps.{IsInHeap}
use Rattle.jvm_values.specs.Kinds.{IsOfKind}
use Rattle.jvm_values.specs.TypedHeaps.{WorldTypes}
use Rattle.jvm_values.proofs.Options.{some_is}
use Rattle.code_verify.specs.declared.want.Want.TheVariants as wants
use Rattle.code_verify.specs.Operands.{is_int, is_reference}
use Rattle.code_verify.specs.Rows.{taken, top_place, iload_types, aload_types, istore_types, astore_types, iinc_types, sets as types_set}
use Rattle.code_verify.specs.Flows.{falls}
use Rattle.code_verify.specs.TypedStates.{HasPlaceType, HasStack}
use Rattle.jvm_step.specs.Effects.{Effect, int_of_local, reference_of_local, sets, iload_effect, aload_effect, istore_effect}
use Rattle.jvm_step.specs.Effects.{astore_effect, iinc_effect}
use Rattle.jvm_step.specs.Operands.{reference_of, top_reference}
use Rattle.jvm_run.proofs.Lists.{zip_get, zip_set, zip_set_right}
use Rattle.jvm_run.proofs.Numbers.{wrapped_is_int}
use Rattle.jvm_run.proofs.Values.{placed_in_heap}
use Rattle.jvm_run.proofs.Forms.{Here, Stands, Well, FrameGood, Fits, types_here, pushed, reference_top}
use Rattle.jvm_run.proofs.IntForms.{one_int}

-- ---- what a local holds

pub record IntLocal (types : WorldTypes) (heap : Heap) (locals : List (Option Value)) (n : ℕ) : Type 0 where
  pub number : ℤ
  pub there : slice_get locals n ≡ Some (Some (values.Int number))
  pub kind : IsOfKind kinds.Int number

int_in : (types : WorldTypes) (heap : Heap) (place : PlaceType) (local : Option Value) → is_int place ≡ true
    → HasPlaceType types heap place local → (number : ℤ) × ((local ≡ Some (values.Int number)) × IsOfKind kinds.Int number)
int_in types heap places.Unset local e h = absurd (false≢true e)
int_in types heap places.Int (Some (values.Int n)) e h = (n, (refl, h))
int_in types heap places.Int (Some values.Null) e h = absurd h
int_in types heap places.Int (Some (values.Ref r)) e h = absurd h
int_in types heap places.Int None e h = absurd h
int_in types heap places.Null local e h = absurd (false≢true e)
int_in types heap (places.Ref t) local e h = absurd (false≢true e)

pub int_local : (here : Here) → Stands here → (n : ℕ) (place : PlaceType) → slice_get here.before.locals n ≡ Some place
    → is_int place ≡ true → IntLocal (types_here here) here.work.heap here.work.frame.locals n
int_local here s n place there i =
    let b = zip_get (HasPlaceType (types_here here) here.work.heap) here.before.locals here.work.frame.locals n place s.locals there in
    let k = int_in (types_here here) here.work.heap place b.other i b.alike in
    record { number = k.0; there = b.there ∙ ap Some k.1.0; kind = k.1.1 }

int_found : (locals : List (Option Value)) (n : ℕ) (number : ℤ) → slice_get locals n ≡ Some (Some (values.Int number))
    → int_of_local locals n ≡ Some number
unfolding int_of_local
int_found locals n number e = rw e refl

pub record ReferenceLocal (types : WorldTypes) (heap : Heap) (locals : List (Option Value)) (n : ℕ) (place : PlaceType) : Type 0 where
  pub value : Value
  pub found : reference_of_local locals n ≡ Some value
  pub typed : HasPlaceType types heap place (Some value)

reference_found : (locals : List (Option Value)) (n : ℕ) (value : Value) → slice_get locals n ≡ Some (Some value)
    → reference_of value ≡ Some value → reference_of_local locals n ≡ Some value
unfolding reference_of_local
reference_found locals n value e r = rw e r

reference_in : (types : WorldTypes) (heap : Heap) (place : PlaceType) (local : Option Value) → is_reference place ≡ true
    → HasPlaceType types heap place local → (value : Value) × ((local ≡ Some value) × (reference_of value ≡ Some value))
reference_in types heap places.Unset local e h = absurd (false≢true e)
reference_in types heap places.Int local e h = absurd (false≢true e)
reference_in types heap places.Null (Some (values.Int n)) e h = absurd h
reference_in types heap places.Null (Some values.Null) e h = (values.Null, (refl, refl))
reference_in types heap places.Null (Some (values.Ref r)) e h = absurd h
reference_in types heap places.Null None e h = absurd h
reference_in types heap (places.Ref t) (Some (values.Int n)) e h = absurd h
reference_in types heap (places.Ref t) (Some values.Null) e h = (values.Null, (refl, refl))
reference_in types heap (places.Ref t) (Some (values.Ref r)) e h = (values.Ref r, (refl, refl))
reference_in types heap (places.Ref t) None e h = absurd h

pub reference_local : (here : Here) → Stands here → (n : ℕ) (place : PlaceType) → slice_get here.before.locals n ≡ Some place
    → is_reference place ≡ true → ReferenceLocal (types_here here) here.work.heap here.work.frame.locals n place
reference_local here s n place there i =
    let b = zip_get (HasPlaceType (types_here here) here.work.heap) here.before.locals here.work.frame.locals n place s.locals there in
    let k = reference_in (types_here here) here.work.heap place b.other i b.alike in
    record {
      value = k.0;
      found = reference_found here.work.frame.locals n k.0 (b.there ∙ ap Some k.1.0) k.1.1;
      typed = subst (λ (o : Option Value). HasPlaceType (types_here here) here.work.heap place o) k.1.0 b.alike;
    }

-- ---- loads

-- what a test lets through
asked_given : {A : Type 0} (test : Bool) (x y : A) → option_and_then (λ (u : Unit {0}). Some x) (asked test) ≡ Some y
    → (test ≡ true) × (y ≡ x)
asked_given true x y e = (refl, sym (some_is e))
asked_given false x y e = absurd (none-some y e)

record Loaded (locals : List PlaceType) (n : ℕ) (test : PlaceType → Bool) (result : PlaceType → PlaceTypes)
    (after : PlaceTypes) : Type 0 where
  place : PlaceType
  there : slice_get locals n ≡ Some place
  passes : test place ≡ true
  after_is : after ≡ result place

loaded : (locals : List PlaceType) (n : ℕ) (test : PlaceType → Bool) (result : PlaceType → PlaceTypes) (after : PlaceTypes)
    → option_and_then (λ (local : PlaceType). option_and_then (λ (u : Unit {0}). Some (result local)) (asked (test local)))
    (slice_get locals n) ≡ Some after → Loaded locals n test result after
loaded locals n test result after e =
    let g = then_some (λ (local : PlaceType). option_and_then (λ (u : Unit {0}). Some (result local)) (asked (test local)))
    (slice_get locals n) after e in
    let k = asked_given (test g.0) (result g.0) after g.1.1 in
    record { place = g.0; there = g.1.0; passes = k.0; after_is = k.1 }

pub iload_well : (here : Here) → Stands here → IsTrue (falls here.form) → (n : ℕ) (after : PlaceTypes)
    → iload_types n here.before ≡ Some after → Well here (FrameGood here after) (iload_effect n here.work.frame)
unfolding iload_effect iload_types
iload_well here s f n after e =
    let l = loaded here.before.locals n is_int
    (λ (local : PlaceType). record here.before { stack = places.Int ∷ here.before.stack }) after e in
    let k = int_local here s n l.place l.there l.passes in
    rw (int_found here.work.frame.locals n k.number k.there)
    (f, pushed here s after places.Int here.before.stack (values.Int k.number) here.work.frame.stack l.after_is k.kind s.stack)

pub aload_well : (here : Here) → Stands here → IsTrue (falls here.form) → (n : ℕ) (after : PlaceTypes)
    → aload_types n here.before ≡ Some after → Well here (FrameGood here after) (aload_effect n here.work.frame)
unfolding aload_effect aload_types
aload_well here s f n after e =
    let l = loaded here.before.locals n is_reference
    (λ (local : PlaceType). record here.before { stack = local ∷ here.before.stack }) after e in
    let k = reference_local here s n l.place l.there l.passes in
    rw k.found (f, pushed here s after l.place here.before.stack k.value here.work.frame.stack l.after_is k.typed s.stack)

-- ---- stores

-- a local is set to a value of a place's type
set_well : (here : Here) → Stands here → IsTrue (falls here.form)
    → (n : ℕ) (place : PlaceType) (value : Value) (below : List PlaceType) (rest : List Value) (after : PlaceTypes)
    → types_set n place below here.before ≡ Some after → (place ≡ places.Unset → ⊥)
    → HasPlaceType (types_here here) here.work.heap place (Some value) → HasStack (types_here here) here.work.heap below rest
    → Well here (FrameGood here after) (sets n value rest here.work.frame)
set_well here s f n place value below rest after e set_ h k =
    let types = types_here here in
    let heap = here.work.heap in
    let frame = here.work.frame in
    let g = cond_guarded (ltb n (length here.before.locals))
    (Some (record { locals = set here.before.locals n place; stack = below })) after e in
    let long : length here.before.locals ≡ length frame.locals = sym
    (AllZip-long (HasPlaceType types heap) here.before.locals frame.locals s.locals) in
    let within : ltb n (length frame.locals) ≡ true = subst (λ (k : ℕ). ltb n k ≡ true) long g.0 in
    let new : MachineFrame = record frame { locals = set frame.locals n (Some value); stack = rest } in
    let fit : FrameGood here after new = subst (λ (a : PlaceTypes). Fits types heap a frame new) (some_is g.1) (record {
      method = refl;
      count = length-set frame.locals n (Some value);
      locals = zip_set (HasPlaceType types heap) here.before.locals frame.locals n place (Some value) s.locals h;
      references = All-set (λ local. IfSome local (IsInHeap (length heap.objects))) frame.locals n (Some value)
          (placed_in_heap types heap place value set_ h) s.references;
      stack = k;
    }) in
    subst (λ (b : Bool). Well here (FrameGood here after) (cond b (Some (Effect.Next new)) None)) (sym within) (f, fit)

int_is_set : places.Int ≡ places.Unset → ⊥
int_is_set e = cc

reference_is_set : (place : PlaceType) → is_reference place ≡ true → place ≡ places.Unset → ⊥
reference_is_set place e u = false≢true (ap is_reference (sym u) ∙ e)

pub istore_well : (here : Here) → Stands here → IsTrue (falls here.form) → (n : ℕ) (after : PlaceTypes)
    → istore_types (types_here here) n here.before ≡ Some after → Well here (FrameGood here after) (istore_effect n here.work.frame)
unfolding istore_effect istore_types
istore_well here s f n after e =
    let g = then_some _ (taken (types_here here) (wants.Int ∷ []) here.before.stack) after e in
    let one = one_int here s g.0 g.1.0 in
    rw one.is_top (set_well here s f n places.Int (values.Int one.number) g.0 one.rest after g.1.1 int_is_set one.kind one.has)

record TopPlace (here : Here) : Type 0 where
  place : PlaceType
  under : List PlaceType
  value : Value
  rest : List Value
  place_is : top_place here.before.stack ≡ Some (place, under)
  stack_is : here.work.frame.stack ≡ value ∷ rest
  typed : HasPlaceType (types_here here) here.work.heap place (Some value)
  has : HasStack (types_here here) here.work.heap under rest

top_by : (here : Here) (wanted : List PlaceType) (stack : List Value) (top : PlaceType × List PlaceType)
    → here.before.stack ≡ wanted → here.work.frame.stack ≡ stack → HasStack (types_here here) here.work.heap wanted stack
    → top_place wanted ≡ Some top → TopPlace here
top_by here [] stack top p q h e = absurd (none-some top e)
top_by here (place ∷ under) [] top p q h e = absurd h
top_by here (place ∷ under) (value ∷ rest) top p q h e = record {
  place = place;
  under = under;
  value = value;
  rest = rest;
  place_is = ap top_place p;
  stack_is = q;
  typed = h.0;
  has = h.1;
}

pub astore_well : (here : Here) → Stands here → IsTrue (falls here.form) → (n : ℕ) (after : PlaceTypes)
    → astore_types n here.before ≡ Some after → Well here (FrameGood here after) (astore_effect n here.work.frame)
unfolding astore_effect astore_types
astore_well here s f n after e =
    let types = types_here here in
    let heap = here.work.heap in
    let g = then_some _ (top_place here.before.stack) after e in
    let top = top_by here here.before.stack here.work.frame.stack g.0 refl refl s.stack g.1.0 in
    let same : g.0 ≡ (top.place, top.under) = some_is (sym g.1.0 ∙ top.place_is) in
    let k = then_some _ (asked (is_reference g.0.0)) after g.1.1 in
    let passes : is_reference top.place ≡ true = ap (λ (x : PlaceType × List PlaceType). is_reference x.0) (sym same)
    ∙ asked_is (is_reference g.0.0) k.0 k.1.0 in
    let stored : types_set n top.place top.under here.before ≡ Some after = subst
    (λ (x : PlaceType × List PlaceType). types_set n x.0 x.1 here.before ≡ Some after) same k.1.1 in
    let is_top : top_reference here.work.frame.stack ≡ Some (top.value, top.rest) = ap top_reference top.stack_is
    ∙ reference_top types heap top.place top.value top.rest passes top.typed in
    rw is_top (set_well here s f n top.place top.value top.under top.rest after stored (reference_is_set top.place passes) top.typed
    top.has)
  where
    asked_is : (b : Bool) (u : Unit {0}) → asked b ≡ Some u → b ≡ true
    asked_is true u e = refl
    asked_is false u e = absurd (none-some u e)

pub iinc_well : (here : Here) → Stands here → IsTrue (falls here.form) → (n : ℕ) (by : ℤ) (after : PlaceTypes)
    → iinc_types n here.before ≡ Some after → Well here (FrameGood here after) (iinc_effect n by here.work.frame)
unfolding iinc_effect iinc_types
iinc_well here s f n by after e =
    let types = types_here here in
    let heap = here.work.heap in
    let frame = here.work.frame in
    let l = loaded here.before.locals n is_int (λ (local : PlaceType). here.before) after e in
    let k = int_local here s n l.place l.there l.passes in
    let sum : ℤ = int_wrap w32 (k.number +ℤ by) in
    let new : MachineFrame = record frame { locals = set frame.locals n (Some (values.Int sum)); stack = frame.stack } in
    let typed : HasPlaceType types heap l.place (Some (values.Int sum)) = int_typed types heap l.place sum l.passes
    (wrapped_is_int (k.number +ℤ by)) in
    let fit : FrameGood here after new = subst (λ (a : PlaceTypes). Fits types heap a frame new) (sym l.after_is) (record {
      method = refl;
      count = length-set frame.locals n (Some (values.Int sum));
      locals = zip_set_right (HasPlaceType types heap) here.before.locals frame.locals n l.place (Some (values.Int sum)) s.locals
          l.there typed;
      references = All-set (λ local. IfSome local (IsInHeap (length heap.objects))) frame.locals n (Some (values.Int sum))
          (placed_in_heap types heap places.Int (values.Int sum) int_is_set (wrapped_is_int (k.number +ℤ by))) s.references;
      stack = s.stack;
    }) in
    let within : ltb n (length frame.locals) ≡ true = lt-ltb n (length frame.locals)
    (slice_get_within frame.locals n (Some (values.Int k.number)) k.there) in
    rw (int_found frame.locals n k.number k.there)
    (subst (λ (b : Bool). Well here (FrameGood here after) (cond b (Some (Effect.Next new)) None)) (sym within) (f, fit))
  where
    int_typed : (types : WorldTypes) (heap : Heap) (place : PlaceType) (n : ℤ) → is_int place ≡ true → IsOfKind kinds.Int n
        → HasPlaceType types heap place (Some (values.Int n))
    int_typed types heap places.Unset n e h = tt
    int_typed types heap places.Int n e h = h
    int_typed types heap places.Null n e h = absurd (false≢true e)
    int_typed types heap (places.Ref t) n e h = absurd (false≢true e)
