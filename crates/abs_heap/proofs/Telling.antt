-- Two cells that describe one object are compatible.
use Rattle.std.proofs.Common.{◌≡◌, ℕ, ◌+◌, ◌<◌, ◌||◌, Bool, true, false, not, List, [], ◌∷◌, Option, Some, inl, inr, refl, sym, ap}
use Rattle.std.proofs.Common.{subst, ◌∙◌, arith, All, IsTrue}
use Rattle.std.specs.Prelude.{slice_get}
use Rattle.std.proofs.lemmas.Bool.{false≢true, and_from, or_left, or_right, cases_eq}
use Rattle.std.proofs.lemmas.List.Elements.{All-head, All-tail}
use Rattle.std.proofs.lemmas.Option.{none-some}
use Rattle.list_views.proofs.Quantified.{all_at}
use Rattle.jvm_values.specs.declared.heap.Value.{Value}
use Rattle.jvm_values.specs.declared.heap.Value.TheVariants as values
use Rattle.jvm_values.specs.declared.heap.Object.{Object}
use Rattle.jvm_values.specs.declared.heap.Object.TheVariants as objects
use Rattle.jvm_values.specs.declared.heap.Heap.{Heap}
use Rattle.jvm_values.specs.declared.types.Ty.{Ty}
use Rattle.jvm_values.specs.declared.types.Base.{Base}
use Rattle.jvm_values.specs.declared.types.Base.TheVariants as bases
use Rattle.jvm_values.specs.Heaps.{target}
use Rattle.jvm_values.specs.Subtyping.{class_type, array_of, array_of_numbers, IsErased, IsReference, IsReferenceBase}
use Rattle.jvm_values.specs.TypedHeaps.{WorldTypes, AreLawful, type_of, IsTypedHeap, IsTypedObject}
use Rattle.jvm_values.proofs.Options.{some_is}
use Rattle.abs_cells.specs.declared.cells.Cell.{Cell}
use Rattle.abs_cells.specs.declared.cells.Cell.TheVariants as cells
use Rattle.abs_cells.specs.AbstractStates.{AbstractState}
use Rattle.abs_cells.specs.Cells.{is_int, is_known, is_reference, type_of_cell, are_compatible, are_compatible_types, is_comparable}
use Rattle.abs_cells.specs.Cells.{cell_in, cell_at}
use Rattle.abs_cells.specs.Sound.{IsSound, IsSoundCell}
use Rattle.abs_cells.specs.Fits.{Meaning, Describes}
use Rattle.abs_heap.specs.Laws.{AreSoundReferences}
use Rattle.abs_heap.proofs.Placing.{cell_here, cell_later}

-- what a cell tells of the type of the object that it describes
pub record Tells (types : WorldTypes) (c : Cell) (object : Object) : Type 0 where
  pub t : Ty
  pub is : type_of_cell c ≡ Some t
  pub above : IsTrue (types.sub (type_of object) t)
  pub erased : IsErased types.erase t
  pub exact : is_known c ≡ true → t ≡ type_of object

sound_in : (types : WorldTypes) (state : AbstractState) (list : List (ℕ × Cell)) (id : ℕ) (c : Cell)
    → All (λ e. IsSoundCell types state e.1) list → cell_in list id ≡ Some c → IsSoundCell types state c
sound_in types state [] id c a e = absurd (none-some c e)
sound_in types state (x ∷ list) id c a e = elim (cases_eq x.0 id) [
  | inl s ↦ subst (λ (d : Cell). IsSoundCell types state d) (some_is (sym (cell_here x list id s) ∙ e))
      (All-head (λ (y : ℕ × Cell). IsSoundCell types state y.1) x list a)
  | inr s ↦ sound_in types state list id c (All-tail (λ (y : ℕ × Cell). IsSoundCell types state y.1) x list a)
      (sym (cell_later x list id s) ∙ e)
]

pub sound_at : (types : WorldTypes) (state : AbstractState) (id : ℕ) (c : Cell) → IsSound types state → cell_at state id ≡ Some c
    → IsSoundCell types state c
sound_at types state id c sound e = sound_in types state state.cells id c sound.cells e

pub sound_references : (types : WorldTypes) (state : AbstractState) → IsSound types state → AreSoundReferences types state
sound_references types state sound id c e n = sound_at types state id c sound e

pub reference_no_int : (c : Cell) → is_reference c ≡ true → is_int c ≡ false
reference_no_int (cells.Int interval) r = absurd (false≢true r)
reference_no_int cells.Null r = refl
reference_no_int (cells.Obj class ids) r = refl
reference_no_int (cells.Nums kind len) r = refl
reference_no_int (cells.Refs element len shape) r = refl
reference_no_int (cells.Unk bound nullable shape) r = refl

-- the array's item type of an object in a typed heap
pub array_typed : (types : WorldTypes) (heap : Heap) (o : ℕ) (item : Ty) (items : List Value) → IsTypedHeap types heap
    → slice_get heap.objects o ≡ Some (objects.Refs item items) → IsTypedObject types heap (objects.Refs item items)
array_typed types heap o item items typed e = all_at (IsTypedObject types heap) heap.objects o (objects.Refs item items) typed e

pub array_reference : (types : WorldTypes) (item : Ty) → item.dims < 255 → IsReference types.classes item
    → IsReference types.classes (array_of item)
array_reference types item l r = (omega (arith, l), based types.classes item.dims item.base r.1)
  where
    based : (n d : ℕ) (base : Base) → IsReferenceBase n d base → IsReferenceBase n (d + 1) base
    based n d (bases.Class class) h = h
    based n d (bases.Num kind) h = omega arith

same_place : (value : Value) (place o : ℕ) → value ≡ values.Ref place → target value ≡ Some o → place ≡ o
same_place value place o e t = some_is (sym (ap target e) ∙ t)

pub tells : (types : WorldTypes) (state : AbstractState) (heap : Heap) (m : Meaning) (laws : AreLawful types)
    (typed : IsTypedHeap types heap) (c : Cell) (value : Value) (o : ℕ) (object : Object) → IsSoundCell types state c
    → Describes types heap m c value → target value ≡ Some o → slice_get heap.objects o ≡ Some object → Tells types c object
tells types state heap m laws typed (cells.Int interval) value o object s d t e = absurd (none-some o (ap target (sym d.1.0) ∙ t))
tells types state heap m laws typed cells.Null value o object s d t e = absurd (none-some o (ap target (sym d) ∙ t))
tells types state heap m laws typed (cells.Obj class ids) value o object s d t e =
    let same : d.object ≡ object = some_is (sym d.stands ∙ ap (slice_get heap.objects) (same_place value d.place o d.names t) ∙ e) in
    let is : class_type class ≡ type_of object = ap type_of (sym d.holds ∙ same) in
    record {
      t = class_type class;
      is = refl;
      above = subst (λ (x : Ty). IsTrue (types.sub x (class_type class))) is (laws.reflexive (class_type class) (omega arith, s.0));
      erased = laws.made_is_erased class s.0 s.1.0;
      exact = λ k. is;
    }
tells types state heap m laws typed (cells.Nums kind len) value o object s d t e =
    let same : d.object ≡ object = some_is (sym d.stands ∙ ap (slice_get heap.objects) (same_place value d.place o d.names t) ∙ e) in
    let is : array_of_numbers kind ≡ type_of object = ap type_of (sym d.holds.is ∙ same) in
    record {
      t = array_of_numbers kind;
      is = refl;
      above = subst (λ (x : Ty). IsTrue (types.sub x (array_of_numbers kind))) is
          (laws.reflexive (array_of_numbers kind) (omega arith, omega arith));
      erased = laws.erase_numbers kind;
      exact = λ k. is;
    }
tells types state heap m laws typed (cells.Refs element len shape) value o object s d t e =
    let same : d.object ≡ object = some_is (sym d.stands ∙ ap (slice_get heap.objects) (same_place value d.place o d.names t) ∙ e) in
    let is : array_of d.holds.item ≡ type_of object = ap type_of (sym d.holds.is ∙ same) in
    let own = array_typed types heap d.place d.holds.item d.holds.items typed (d.stands ∙ ap Some d.holds.is) in
    record {
      t = array_of element;
      is = refl;
      above = subst (λ (x : Ty). IsTrue (types.sub x (array_of element))) is
          (laws.below_array d.holds.item element (array_reference types d.holds.item own.1.0 own.1.1.0) s.1.1.0 d.holds.below);
      erased = s.1.1.1;
      exact = λ k. absurd (false≢true k);
    }
tells types state heap m laws typed (cells.Unk bound nullable shape) value o object s (inl d) t e = absurd
    (none-some o (ap target (sym d.1) ∙ t))
tells types state heap m laws typed (cells.Unk bound nullable shape) value o object s (inr d) t e =
    let same : d.object ≡ object = some_is (sym d.stands ∙ ap (slice_get heap.objects) (same_place value d.place o d.names t) ∙ e) in
    record {
      t = bound;
      is = refl;
      above = subst (λ (x : Object). IsTrue (types.sub (type_of x) bound)) same d.holds;
      erased = s.1;
      exact = λ k. absurd (false≢true k);
    }

if_known : (known sub : Bool) → (known ≡ true → sub ≡ true) → (not known || sub) ≡ true
if_known true sub h = h refl
if_known false sub h = refl

pub told_compatible : (types : WorldTypes) (laws : AreLawful types) (c d : Cell) (object : Object) → Tells types c object
    → Tells types d object → are_compatible types.sub c d ≡ true
told_compatible types laws c d object a b =
    let comparable : is_comparable types.sub a.t b.t ≡ true = elim
    (laws.chain (type_of object) a.t b.t a.above b.above a.erased b.erased) [ inl l ↦ or_left _ _ l | inr l ↦ or_right _ _ l ] in
    let left : is_known c ≡ true → types.sub a.t b.t ≡ true = λ k. subst (λ (x : Ty). IsTrue (types.sub x b.t)) (sym (a.exact k))
    b.above in
    let right : is_known d ≡ true → types.sub b.t a.t ≡ true = λ k. subst (λ (x : Ty). IsTrue (types.sub x a.t)) (sym (b.exact k))
    a.above in
    ap (λ (x : Option Ty). are_compatible_types types.sub (is_known c) (is_known d) x (type_of_cell d)) a.is
    ∙ ap (λ (x : Option Ty). are_compatible_types types.sub (is_known c) (is_known d) (Some a.t) x) b.is
    ∙ and_from _ _ comparable (and_from _ _ (if_known _ _ left) (if_known _ _ right))
