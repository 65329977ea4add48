-- The values of inputs that fit a description have the types of their parameters and static fields.
use Rattle.std.proofs.Common.{◌≡◌, ℕ, zero, suc, ◌≤◌, ℤ, ◌≤ℤ◌, Bool, true, false, cond, List, [], ◌∷◌, length, map, Option, Some}
use Rattle.std.proofs.Common.{None, sym, refl, ap, subst, ◌∙◌, arith}
use Rattle.std.specs.Prelude.{slice_get, int_le, option_and_then, option_map}
use Rattle.std.specs.List.{AllZip}
use Rattle.std.specs.Int.{int_max, int_min}
use Rattle.std.proofs.lemmas.Int.{ints, clamps}
use Rattle.abs_cells.specs.lin_core.Intervals.{IsIn}
use Rattle.jvm_values.specs.declared.types.Kind.{Kind}
use Rattle.jvm_values.specs.declared.types.Ty.{Ty}
use Rattle.jvm_values.specs.declared.types.Slot.{Slot}
use Rattle.jvm_values.specs.declared.types.Slot.TheVariants as slots
use Rattle.jvm_values.specs.declared.heap.Value.{Value}
use Rattle.jvm_values.specs.declared.heap.Heap.{Heap}
use Rattle.jvm_values.specs.declared.shape.Shape.{Shape}
use Rattle.jvm_values.specs.Kinds.{IsOfKind, least_of, greatest_of}
use Rattle.jvm_values.specs.TypedHeaps.{WorldTypes, Holds}
use Rattle.input_desc.specs.ClassWorldWorld.{World}
use Rattle.input_desc.specs.ClassWorldWorldTypes.{types_of}
use Rattle.input_desc.specs.ClassWorldTypes.{is_sub, erase}
use Rattle.input_desc.specs.InputTextInputText.{InputText}
use Rattle.input_desc.specs.InputTextInputText.TheVariants as texts
use Rattle.input_desc.specs.declared.desc.Input.{Input}
use Rattle.input_desc.specs.declared.desc.Input.TheVariants.{Int, Ref}
use Rattle.input_desc.specs.TypeNames.{type_named}
use Rattle.input_desc.specs.Descs.{ints_of, erased_below, input_of, inputs_from}
use Rattle.input_desc.specs.Fitting.{FitsInput}
use Rattle.input_desc.proofs.Wider.{Laws, has_wider, erased_twice}

-- ---- one input

-- the ints of a part of a kind's range
part_of_kind : (kind : Kind) (lo hi n : ℤ) → IsIn n (record { lo = int_max (least_of kind) lo; hi = int_min (greatest_of kind) hi })
    → IsOfKind kind n
part_of_kind kind lo hi n h = low_high (least_of kind) (greatest_of kind) lo hi n h.0 h.1
  where
    low_high : (least greatest lo hi n : ℤ) → int_max least lo ≤ℤ n → n ≤ℤ int_min greatest hi → (least ≤ℤ n) × (n ≤ℤ greatest)
    low_high least greatest lo hi n l h = (omega (arith, ints, clamps), omega (arith, ints, clamps))

of_ints : (types : WorldTypes) (heap : Heap) (slot : Slot) (lo hi : ℤ) (input : Input) (value : Value)
    → Some input ≡ ints_of slot lo hi → FitsInput types heap input value → Holds types heap slot value
of_ints types heap (slots.Num kind) lo hi input value e h = go (int_le (int_max (least_of kind) lo) (int_min (greatest_of kind) hi)) e
  where
    fits : FitsInput types heap (Int (record { lo = int_max (least_of kind) lo; hi = int_min (greatest_of kind) hi })) value
        → Holds types heap (slots.Num kind) value
    fits k = subst (λ v. Holds types heap (slots.Num kind) v) (sym k.1.0) (part_of_kind kind lo hi k.0 k.1.1)

    go : (b : Bool) → Some input ≡ option_map Int
        (cond b (Some (record { lo = int_max (least_of kind) lo; hi = int_min (greatest_of kind) hi })) None)
        → Holds types heap (slots.Num kind) value
    go true f =
        let same : input ≡ Int (record { lo = int_max (least_of kind) lo; hi = int_min (greatest_of kind) hi }) = cc in
        fits (subst (λ i. FitsInput types heap i value) same h)
    go false f = absurd cc
of_ints types heap (slots.Ref t) lo hi input value e h = absurd cc

-- what a reference input is: of a type that is its own erasure, below the slot's erased type
pub record IsReferenceOf (world : World) (slot : Slot) (null : Bool) (shape : Shape) (input : Input) : Type 0 where
  pub slot_type : Ty
  pub slot_is : slot ≡ slots.Ref slot_type
  pub own : Ty
  pub input_is : input ≡ Ref own null shape
  pub below : is_sub world own (erase world slot_type) ≡ true
  pub named : Ty
  pub erased : own ≡ erase world named

pub reference_is : (world : World) (slot : Slot) (ty : List ℕ) (null : Bool) (shape : Shape) (input : Input)
    → Some input ≡ input_of world slot (texts.Ref ty null shape) → IsReferenceOf world slot null shape input
reference_is world (slots.Num kind) ty null shape input e = absurd cc
reference_is world (slots.Ref t) ty null shape input e = go (type_named world ty) e
  where
    go : (o : Option Ty) → Some input ≡ option_map (λ s. Ref s null shape) (option_and_then (erased_below world (erase world t)) o)
        → IsReferenceOf world (slots.Ref t) null shape input
    go None f = absurd cc
    go (Some s) f = by (is_sub world (erase world s) (erase world t)) refl f
      where
        by : (b : Bool) → is_sub world (erase world s) (erase world t) ≡ b
            → Some input ≡ option_map (λ s. Ref s null shape) (cond b (Some (erase world s)) None)
            → IsReferenceOf world (slots.Ref t) null shape input
        by true q g =
            let same : input ≡ Ref (erase world s) null shape = cc in
            record { slot_type = t; slot_is = refl; own = erase world s; input_is = same; below = q; named = s; erased = refl }
        by false q g = absurd cc

of_input : (world : World) (heap : Heap) (slot : Slot) (text : InputText) (input : Input) (value : Value) → Laws world
    → Some input ≡ input_of world slot text → FitsInput (types_of world) heap input value → Holds (types_of world) heap slot value
of_input world heap slot (texts.Int lo hi) input value laws e h = of_ints (types_of world) heap slot lo hi input value e h
of_input world heap slot (texts.Ref ty null shape) input value laws e h =
    let is = reference_is world slot ty null shape input e in
    let fits = subst (λ i. FitsInput (types_of world) heap i value) is.input_is h in
    subst (λ s. Holds (types_of world) heap s value) (sym is.slot_is)
    (has_wider world heap value is.own (erase world is.slot_type) laws fits.1.0 is.below)

-- ---- all inputs

pub all_hold : (world : World) (heap : Heap) (wanted : List Slot) (texts' : List InputText) (inputs : List Input)
    (given : List Value) → Laws world → length texts' ≡ length wanted → map Some inputs ≡ inputs_from world wanted texts'
    → AllZip (FitsInput (types_of world) heap) inputs given → AllZip (Holds (types_of world) heap) wanted given
all_hold world heap [] texts' [] [] laws l e h = tt
all_hold world heap [] texts' [] (value ∷ given) laws l e h = absurd h
all_hold world heap [] texts' (input ∷ inputs) given laws l e h = absurd cc
all_hold world heap (slot ∷ wanted) [] inputs given laws l e h = absurd (omega (arith, l))
all_hold world heap (slot ∷ wanted) (text ∷ texts') [] given laws l e h = absurd cc
all_hold world heap (slot ∷ wanted) (text ∷ texts') (input ∷ inputs) [] laws l e h = absurd h
all_hold world heap (slot ∷ wanted) (text ∷ texts') (input ∷ inputs) (value ∷ given) laws l e h =
    let first : Some input ≡ input_of world slot text = cc in
    let rest : map Some inputs ≡ inputs_from world wanted texts' = cc in (
      of_input world heap slot text input value laws first h.0,
      all_hold world heap wanted texts' inputs given laws
          (omega (arith, l)) rest h.1,
    )

-- ---- types

pub input_erased : (world : World) (wanted : List Slot) (texts' : List InputText) (inputs : List Input) (k : ℕ) (t : Ty)
    (null : Bool) (shape : Shape) → map Some inputs ≡ inputs_from world wanted texts' → slice_get inputs k ≡ Some (Ref t null shape)
    → erase world t ≡ t
input_erased world wanted texts' [] k t null shape e f = absurd cc
input_erased world [] texts' (input ∷ inputs) k t null shape e f = absurd cc
input_erased world (slot ∷ wanted) [] (input ∷ inputs) k t null shape e f = absurd cc
input_erased world (slot ∷ wanted) (text ∷ texts') (input ∷ inputs) zero t null shape e f =
    let first : Some input ≡ input_of world slot text = cc in
    let here : input ≡ Ref t null shape = cc in
    one slot text (sym (ap Some here) ∙ first)
  where
    one : (slot : Slot) (text : InputText) → Some (Ref t null shape) ≡ input_of world slot text → erase world t ≡ t
    one (slots.Num kind) (texts.Int lo hi) g = go (int_le (int_max (least_of kind) lo) (int_min (greatest_of kind) hi)) g
      where
        go : (b : Bool) → Some (Ref t null shape) ≡ option_map Int
            (cond b (Some (record { lo = int_max (least_of kind) lo; hi = int_min (greatest_of kind) hi })) None) → erase world t ≡ t
        go true f = absurd cc
        go false f = absurd cc
    one (slots.Ref s) (texts.Int lo hi) g = absurd cc
    one slot (texts.Ref ty null' shape') g =
        let is = reference_is world slot ty null' shape' (Ref t null shape) g in
        let same : t ≡ erase world is.named = let k : t ≡ is.own = let j : Ref t null shape ≡ Ref is.own null' shape' = is.input_is
        in cc in k ∙ is.erased in
        ap (erase world) same ∙ erased_twice world is.named ∙ sym same
input_erased world (slot ∷ wanted) (text ∷ texts') (input ∷ inputs) (suc k) t null shape e f =
    let rest : map Some inputs ≡ inputs_from world wanted texts' = cc in
    input_erased world wanted texts' inputs k t null shape rest f
