-- Values for inputs that can be given, and the objects that they name: the object of each input has the input's number.
use Rattle.std.proofs.Common.{◌≡◌, ◌∙◌, ◌+◌, ℕ, zero, suc, ℤ, ◌≤ℤ◌, Bool, true, false, cond, List, [], ◌∷◌, map}
use Rattle.std.proofs.Common.{Some, None, slice_get, inl, inr, refl, sym, ap, subst, arith}
use Rattle.std.specs.Prelude.{int_le, option_map}
use Rattle.std.specs.Int.{int_max, int_min}
use Rattle.std.specs.Int.Signed.{≤ℤ_refl}
use Rattle.std.specs.List.{AllZip, AllByRecursion}
use Rattle.list_views.proofs.Orders.{int_le_true}
use Rattle.jvm_values.specs.declared.heap.Heap.{Heap}
use Rattle.jvm_values.specs.declared.heap.Object.{Object}
use Rattle.jvm_values.specs.declared.heap.Object.TheVariants.{Nums}
use Rattle.jvm_values.specs.declared.heap.Value.{Value}
use Rattle.jvm_values.specs.declared.heap.Value.TheVariants as values
use Rattle.jvm_values.specs.declared.shape.Shape.{Shape}
use Rattle.jvm_values.specs.declared.types.Kind.TheVariants as kinds
use Rattle.jvm_values.specs.declared.types.Slot.{Slot}
use Rattle.jvm_values.specs.declared.types.Slot.TheVariants as slots
use Rattle.jvm_values.specs.declared.types.Ty.{Ty}
use Rattle.jvm_values.specs.Heaps.{target, HasShape}
use Rattle.jvm_values.specs.Kinds.{IsOfKind, least_of, greatest_of}
use Rattle.jvm_values.specs.TypedHeaps.{IsTypedObject}
use Rattle.jvm_values.proofs.Options.{some_is}
use Rattle.class_world.specs.Types.{is_sub}
use Rattle.class_world.specs.World.{World}
use Rattle.class_world.specs.WorldTypes.{types_of}
use Rattle.input_text.specs.declared.texts.InputText.{InputText}
use Rattle.input_text.specs.declared.texts.InputText.TheVariants as texts
use Rattle.input_desc.specs.declared.desc.Input.{Input}
use Rattle.input_desc.specs.declared.desc.Input.TheVariants.{Int, Ref}
use Rattle.input_desc.specs.Descs.{input_of, inputs_from}
use Rattle.input_desc.specs.Fitting.{FitsInput}
use Rattle.input_desc.proofs.Wider.{Laws}
use Rattle.input_root.proofs.Holding.{reference_is}
use Rattle.std.proofs.lemmas.List.Elements.{All-nil}
use Rattle.desc_steps.specs.Givable.{CanBeGiven}
use Rattle.desc_steps.proofs.BareHeaps.{IsBare, new_of, new_type, new_typed, new_bare}

-- ---- intervals

-- an int has an interval with an int in it
abbrev pub HasAnInt : Input → Type 0
HasAnInt (Int bounds) = bounds.lo ≤ℤ bounds.hi
HasAnInt (Ref ty null shape) = Unit {0}

of_bounds : (lo hi : ℤ) (input : Input) (t : Bool) → int_le lo hi ≡ t
    → Some input ≡ option_map Int (cond t (Some (record { lo = lo; hi = hi })) None) → HasAnInt input
of_bounds lo hi input true q e =
    let same : input ≡ Int (record { lo = lo; hi = hi }) = cc in subst HasAnInt (sym same) (int_le_true lo hi q)
of_bounds lo hi input false q e = absurd (cc)

has_an_int : (world : World) (slot : Slot) (text : InputText) (input : Input) → Some input ≡ input_of world slot text → HasAnInt input
has_an_int world (slots.Num kind) (texts.Int lo hi) input e =
    let low : ℤ = int_max (least_of kind) lo in
    let high : ℤ = int_min (greatest_of kind) hi in
    of_bounds low high input (int_le low high) refl e
has_an_int world (slots.Ref t) (texts.Int lo hi) input e = absurd (cc)
has_an_int world slot (texts.Ref ty null shape) input e =
    let is = reference_is world slot ty null shape input e in subst HasAnInt (sym is.input_is) tt

-- so it is of each input that is described
pub have_ints : (world : World) (wanted : List Slot) (texts' : List InputText) (inputs : List Input)
    → map Some inputs ≡ inputs_from world wanted texts' → AllByRecursion HasAnInt inputs
have_ints world wanted texts' [] e = tt
have_ints world [] texts' (input ∷ inputs) e = absurd (cc)
have_ints world (slot ∷ wanted) [] (input ∷ inputs) e = absurd (cc)
have_ints world (slot ∷ wanted) (text ∷ texts') (input ∷ inputs) e =
    let first : Some input ≡ input_of world slot text = cc in
    let rest : map Some inputs ≡ inputs_from world wanted texts' = cc in
    (has_an_int world slot text input first, have_ints world wanted texts' inputs rest)

-- ---- one input

-- the least int, null where it may be, or the object of the input's number
abbrev pub value_for : (world : World) → ℕ → (input : Input) → CanBeGiven world input → Value
value_for world n (Int bounds) can = values.Int bounds.lo
value_for world n (Ref ty null shape) (inl may) = values.Null
value_for world n (Ref ty null shape) (inr has) = values.Ref n

-- a new object of a type that has some; an array of numbers where none is asked for
abbrev pub object_for : (world : World) → (input : Input) → CanBeGiven world input → Object
object_for world (Int bounds) can = Nums kinds.Int []
object_for world (Ref ty null shape) (inl may) = Nums kinds.Int []
object_for world (Ref ty null shape) (inr has) = new_of world has.0.dims has.0.base

typed_for : (world : World) (heap : Heap) (input : Input) (can : CanBeGiven world input) → Laws world
    → IsTypedObject (types_of world) heap (object_for world input can)
typed_for world heap (Int bounds) can laws = (omega arith, All-nil (IsOfKind kinds.Int))
typed_for world heap (Ref ty null shape) (inl may) laws = (omega arith, All-nil (IsOfKind kinds.Int))
typed_for world heap (Ref ty null shape) (inr has) laws =
    let is = (laws.of_world has.0 ty has.1.0).0 in new_typed world heap has.0.dims has.0.base is.0 is.1 has.1.1

bare_for : (world : World) (input : Input) (can : CanBeGiven world input) → IsBare (object_for world input can)
bare_for world (Int bounds) can = λ i. refl
bare_for world (Ref ty null shape) (inl may) = λ i. refl
bare_for world (Ref ty null shape) (inr has) = new_bare world has.0.dims has.0.base

module _ (world : World) (heap : Heap) (laws : Laws world) (shaped : (shape : Shape) (value : Value) → HasShape shape heap value) where
  fits_for : (n : ℕ) (input : Input) (can : CanBeGiven world input) → HasAnInt input
      → slice_get heap.objects n ≡ Some (object_for world input can)
      → FitsInput (types_of world) heap input (value_for world n input can)
  fits_for n (Int bounds) can some there = (bounds.lo, (refl, (≤ℤ_refl bounds.lo, some)))
  fits_for n (Ref ty null shape) (inl may) some there = (λ e. may, (tt, shaped shape values.Null))
  fits_for n (Ref ty null shape) (inr has) some there =
      let is = (laws.of_world has.0 ty has.1.0).0 in
      let below = subst (λ (t : Ty). is_sub world t ty ≡ true) (sym (new_type world has.0.dims has.0.base is.1)) has.1.0 in (
        λ e. absurd (let bad : values.Ref n ≡ values.Null = e in cc),
        (
          (object_for world (Ref ty null shape) (inr has), (there, below)),
          shaped shape (values.Ref n),
        ),
      )

-- the object that a value names has the input's number
names_own : (world : World) (n : ℕ) (input : Input) (can : CanBeGiven world input) (o : ℕ)
    → target (value_for world n input can) ≡ Some o → o ≡ n
names_own world n (Int bounds) can o e = absurd (cc)
names_own world n (Ref ty null shape) (inl may) o e = absurd (cc)
names_own world n (Ref ty null shape) (inr has) o e = sym (some_is e)

-- ---- all inputs

-- the values of inputs that are numbered from a number on
abbrev pub values_from : (world : World) → ℕ → (inputs : List Input) → AllByRecursion (CanBeGiven world) inputs → List Value
values_from world n [] can = []
values_from world n (input ∷ inputs) can = value_for world n input can.0 ∷ values_from world (suc n) inputs can.1

abbrev pub objects_for : (world : World) → (inputs : List Input) → AllByRecursion (CanBeGiven world) inputs → List Object
objects_for world [] can = []
objects_for world (input ∷ inputs) can = object_for world input can.0 ∷ objects_for world inputs can.1

pub all_typed : (world : World) (heap : Heap) (inputs : List Input) (can : AllByRecursion (CanBeGiven world) inputs) → Laws world
    → AllByRecursion (IsTypedObject (types_of world) heap) (objects_for world inputs can)
all_typed world heap [] can laws = tt
all_typed world heap (input ∷ inputs) can laws = (typed_for world heap input can.0 laws, all_typed world heap inputs can.1 laws)

pub all_bare : (world : World) (inputs : List Input) (can : AllByRecursion (CanBeGiven world) inputs)
    → AllByRecursion IsBare (objects_for world inputs can)
all_bare world [] can = tt
all_bare world (input ∷ inputs) can = (bare_for world input can.0, all_bare world inputs can.1)

module _ (world : World) (heap : Heap) (laws : Laws world) (shaped : (shape : Shape) (value : Value) → HasShape shape heap value) where
  pub all_fit : (n : ℕ) (inputs : List Input) (can : AllByRecursion (CanBeGiven world) inputs) → AllByRecursion HasAnInt inputs
      → ((k : ℕ) → slice_get heap.objects (k + n) ≡ slice_get (objects_for world inputs can) k)
      → AllZip (FitsInput (types_of world) heap) inputs (values_from world n inputs can)
  all_fit n [] can some there = tt
  all_fit n (input ∷ inputs) can some there = (
    fits_for world heap laws shaped n input can.0 some.0
        (let here : n ≡ zero + n = omega arith in ap (slice_get heap.objects) here ∙ there zero),
    all_fit (suc n) inputs can.1 some.1
        (λ k. let same : k + suc n ≡ suc k + n = omega arith in ap (slice_get heap.objects) same ∙ there (suc k)),
  )

-- the object that the value of an input names has its number
pub names_place : (world : World) (n : ℕ) (inputs : List Input) (can : AllByRecursion (CanBeGiven world) inputs) (i o : ℕ)
    (v : Value) → slice_get (values_from world n inputs can) i ≡ Some v → target v ≡ Some o → o ≡ i + n
names_place world n [] can i o v e t = absurd (cc)
names_place world n (input ∷ inputs) can zero o v e t =
    let is = names_own world n input can.0 o (ap target (some_is e) ∙ t) in omega (arith, is)
names_place world n (input ∷ inputs) can (suc i) o v e t =
    let is = names_place world (suc n) inputs can.1 i o v e t in omega (arith, is)
