-- What is asked of an operand is kept by what is narrower; and operands leave what is below them.
use Rattle.std.proofs.Common.{◌≡◌, ℕ, zero, suc, ◌+◌, ◌<◌, ◌≤◌, Bool, true, false, cond, ltb, eqb, ◌&&◌, List, [], ◌∷◌, length}
use Rattle.std.proofs.Common.{Option, Some, None, ◌⊎◌, inl, inr, refl, sym, ap, subst, ◌∙◌, arith}
use Rattle.std.specs.Prelude.{IsTrue, All}
use Rattle.std.specs.List.{AllZip}
use Rattle.std.specs.Option.{is_some, option_map}
use Rattle.std.proofs.lemmas.Bool.{false≢true, ltb-true, lt-ltb, eqb-true, and_parts}
use Rattle.std.proofs.lemmas.List.Elements.{All-head, All-tail}
use Rattle.std.proofs.lemmas.Option.{none-some}
use Rattle.list_views.proofs.Options.{cond_guarded}
use Rattle.jvm_values.specs.declared.types.Ty.{Ty}
use Rattle.jvm_values.specs.declared.types.Kind.{Kind}
use Rattle.jvm_values.specs.declared.types.Base.{Base}
use Rattle.jvm_values.specs.declared.types.Base.TheVariants.{Class, Num}
use Rattle.jvm_values.specs.declared.types.Slot.{Slot}
use Rattle.jvm_values.specs.declared.types.Slot.TheVariants as slots
use Rattle.jvm_values.specs.declared.typing.PlaceType.{PlaceType}
use Rattle.jvm_values.specs.declared.typing.PlaceType.TheVariants as places
use Rattle.jvm_values.specs.Subtyping.{array_of_numbers, IsSlot}
use Rattle.jvm_values.specs.TypedHeaps.{WorldTypes, AreLawful}
use Rattle.jvm_values.specs.Joins.{item_of}
use Rattle.jvm_values.proofs.Options.{some_is}
use Rattle.jvm_values.proofs.Joining.{same_type}
use Rattle.op_forms.specs.declared.form.ItemKind.{ItemKind}
use Rattle.frame_types.specs.Places.{IsWithin, IsOfWorld}
use Rattle.code_verify.specs.declared.want.Want.{Want}
use Rattle.code_verify.specs.declared.want.Want.TheVariants as wants
use Rattle.code_verify.specs.Operands.{is_int, is_reference, is_below, is_array, is_base_for, is_numbers, is_references, fits}
use Rattle.code_verify.specs.Operands.{place_of, item_place}
use Rattle.code_verify.specs.Rows.{taken}
use Rattle.code_verify.proofs.TypeShapes.{items_below, numbers_below_same, dims_below, item_erased, erased_of_world, array_of_item}

some_item : (o : Option Ty) → is_some o ≡ true → (x : Ty) × (o ≡ Some x)
some_item None h = absurd (false≢true h)
some_item (Some x) h = (x, refl)

number_base : (for : ItemKind) (base : Base) → is_base_for for base ≡ true → (kind : Kind) × (base ≡ Num kind)
number_base for (Class c) h = absurd (false≢true h)
number_base for (Num kind) h = (kind, refl)

module _ (types : WorldTypes) (laws : AreLawful types) where
  int_narrower : (a b : PlaceType) → IsWithin types a b → is_int b ≡ true → is_int a ≡ true
  int_narrower a places.Unset w h = absurd (false≢true h)
  int_narrower places.Int places.Int w h = refl
  int_narrower places.Unset places.Int w h = absurd w
  int_narrower places.Null places.Int w h = absurd w
  int_narrower (places.Ref s) places.Int w h = absurd w
  int_narrower a places.Null w h = absurd (false≢true h)
  int_narrower a (places.Ref t) w h = absurd (false≢true h)

  pub int_within : (a b : PlaceType) → IsWithin types a b → is_int b ≡ true → is_int a ≡ true
  int_within a b w h = int_narrower a b w h

  pub reference_within : (a b : PlaceType) → IsWithin types a b → is_reference b ≡ true → is_reference a ≡ true
  reference_within a places.Unset w h = absurd (false≢true h)
  reference_within a places.Int w h = absurd (false≢true h)
  reference_within places.Unset places.Null w h = absurd w
  reference_within places.Int places.Null w h = absurd w
  reference_within places.Null places.Null w h = refl
  reference_within (places.Ref s) places.Null w h = absurd w
  reference_within places.Unset (places.Ref t) w h = absurd w
  reference_within places.Int (places.Ref t) w h = absurd w
  reference_within places.Null (places.Ref t) w h = refl
  reference_within (places.Ref s) (places.Ref t) w h = refl

  below_within : (u : Ty) (a b : PlaceType) → IsWithin types a b → is_below types u b ≡ true → is_below types u a ≡ true
  below_within u a places.Unset w h = absurd (false≢true h)
  below_within u a places.Int w h = absurd (false≢true h)
  below_within u places.Unset places.Null w h = absurd w
  below_within u places.Int places.Null w h = absurd w
  below_within u places.Null places.Null w h = refl
  below_within u (places.Ref s) places.Null w h = absurd w
  below_within u places.Unset (places.Ref t) w h = absurd w
  below_within u places.Int (places.Ref t) w h = absurd w
  below_within u places.Null (places.Ref t) w h = refl
  below_within u (places.Ref s) (places.Ref t) w h = laws.transitive s t (types.erase u) w h

  array_within : (a b : PlaceType) → IsOfWorld types a → IsWithin types a b → is_array b ≡ true → is_array a ≡ true
  array_within a places.Unset o w h = absurd (false≢true h)
  array_within a places.Int o w h = absurd (false≢true h)
  array_within places.Unset places.Null o w h = absurd w
  array_within places.Int places.Null o w h = absurd w
  array_within places.Null places.Null o w h = refl
  array_within (places.Ref s) places.Null o w h = absurd w
  array_within places.Unset (places.Ref t) o w h = absurd w
  array_within places.Int (places.Ref t) o w h = absurd w
  array_within places.Null (places.Ref t) o w h = refl
  array_within (places.Ref s) (places.Ref t) o w h = lt-ltb 0 s.dims (dims_below types laws s t o.0 w (ltb-true 0 t.dims h))

  numbers_within : (for : ItemKind) (a b : PlaceType) → IsOfWorld types a → IsWithin types a b → is_numbers for b ≡ true
      → is_numbers for a ≡ true
  numbers_within for a places.Unset o w h = absurd (false≢true h)
  numbers_within for a places.Int o w h = absurd (false≢true h)
  numbers_within for places.Unset places.Null o w h = absurd w
  numbers_within for places.Int places.Null o w h = absurd w
  numbers_within for places.Null places.Null o w h = refl
  numbers_within for (places.Ref s) places.Null o w h = absurd w
  numbers_within for places.Unset (places.Ref t) o w h = absurd w
  numbers_within for places.Int (places.Ref t) o w h = absurd w
  numbers_within for places.Null (places.Ref t) o w h = refl
  numbers_within for (places.Ref s) (places.Ref t) o w h =
      let p = and_parts (eqb t.dims 1) (is_base_for for t.base) h in
      let k = number_base for t.base p.1 in
      let is : t ≡ array_of_numbers k.0 = same_type t (array_of_numbers k.0) (eqb-true t.dims 1 p.0) k.1 in
      subst (λ (x : Ty). is_numbers for (places.Ref x) ≡ true) (sym (numbers_below_same types laws s t k.0 o.0 w is)) h

  references_within : (a b : PlaceType) → IsOfWorld types a → IsWithin types a b → is_references b ≡ true → is_references a ≡ true
  references_within a places.Unset o w h = absurd (false≢true h)
  references_within a places.Int o w h = absurd (false≢true h)
  references_within places.Unset places.Null o w h = absurd w
  references_within places.Int places.Null o w h = absurd w
  references_within places.Null places.Null o w h = refl
  references_within (places.Ref s) places.Null o w h = absurd w
  references_within places.Unset (places.Ref t) o w h = absurd w
  references_within places.Int (places.Ref t) o w h = absurd w
  references_within places.Null (places.Ref t) o w h = refl
  references_within (places.Ref s) (places.Ref t) o w h =
      let i = some_item (item_of t) h in
      let x = items_below types laws s t i.0 o.0 w i.1 in
      ap is_some x.1.0

  and_true : (a b : Bool) → a ≡ true → b ≡ true → (a && b) ≡ true
  and_true a b p q = ap (λ (x : Bool). x && b) p ∙ q

  -- what is narrower is what is asked for too
  pub fits_within : (want : Want) (a b : PlaceType) → IsOfWorld types a → IsWithin types a b → fits types want b ≡ true
      → fits types want a ≡ true
  fits_within wants.Int a b o w h = int_within a b w h
  fits_within wants.Reference a b o w h = reference_within a b w h
  fits_within (wants.Below t) a b o w h = below_within t a b w h
  fits_within (wants.BelowBoth s t) a b o w h =
      let p = and_parts (is_below types s b) (is_below types t b) h in
      and_true (is_below types s a) (is_below types t a) (below_within s a b w p.0) (below_within t a b w p.1)
  fits_within wants.Array a b o w h = array_within a b o w h
  fits_within (wants.Numbers for) a b o w h = numbers_within for a b o w h
  fits_within wants.References a b o w h = references_within a b o w h

  -- the items of what is narrower are narrower
  pub item_within : (a b j : PlaceType) → IsOfWorld types a → IsWithin types a b → item_place b ≡ Some j
      → (i : PlaceType) × ((item_place a ≡ Some i) × IsWithin types i j)
  item_within a places.Unset j o w e = absurd (none-some j e)
  item_within a places.Int j o w e = absurd (none-some j e)
  item_within places.Unset places.Null j o w e = absurd w
  item_within places.Int places.Null j o w e = absurd w
  item_within places.Null places.Null j o w e = (places.Null, (refl, subst (IsWithin types places.Null) (some_is e) tt))
  item_within (places.Ref s) places.Null j o w e = absurd w
  item_within places.Unset (places.Ref t) j o w e = absurd w
  item_within places.Int (places.Ref t) j o w e = absurd w
  item_within places.Null (places.Ref t) j o w e = go (item_of t) refl e
    where
      go : (x : Option Ty) → item_of t ≡ x → option_map places.Ref x ≡ Some j
          → (i : PlaceType) × ((Some places.Null ≡ Some i) × IsWithin types i j)
      go None f g = absurd (none-some j g)
      go (Some y) f g = (places.Null, (refl, subst (IsWithin types places.Null) (some_is g) tt))
  item_within (places.Ref s) (places.Ref t) j o w e = go (item_of t) refl e
    where
      go : (x : Option Ty) → item_of t ≡ x → option_map places.Ref x ≡ Some j
          → (i : PlaceType) × ((option_map places.Ref (item_of s) ≡ Some i) × IsWithin types i j)
      go None f g = absurd (none-some j g)
      go (Some y) f g =
          let x = items_below types laws s t y o.0 w f in
          (places.Ref x.0, (ap (option_map places.Ref) x.1.0, subst (IsWithin types (places.Ref x.0)) (some_is g) x.1.1))

  pub item_of_world : (a i : PlaceType) → IsOfWorld types a → item_place a ≡ Some i → IsOfWorld types i
  item_of_world places.Unset i o e = absurd (none-some i e)
  item_of_world places.Int i o e = absurd (none-some i e)
  item_of_world places.Null i o e = subst (IsOfWorld types) (some_is e) tt
  item_of_world (places.Ref s) i o e = go (item_of s) refl e
    where
      go : (x : Option Ty) → item_of s ≡ x → option_map places.Ref x ≡ Some i → IsOfWorld types i
      go None f g = absurd (none-some i g)
      go (Some y) f g = subst (IsOfWorld types) (some_is g)
          ((array_of_item types.classes s y o.0 f).1, item_erased types laws s y o.0 o.1 f)

  pub slot_of_world : (slot : Slot) → IsSlot types.classes slot → IsOfWorld types (place_of types slot)
  slot_of_world (slots.Num kind) s = tt
  slot_of_world (slots.Ref t) s = erased_of_world types laws t s

  -- ---- operands

  pub taken_within : (asks : List Want) (xs ys rest : List PlaceType) → All (IsOfWorld types) xs → AllZip (IsWithin types) xs ys
      → taken types asks ys ≡ Some rest
      → (below : List PlaceType) × ((taken types asks xs ≡ Some below) × AllZip (IsWithin types) below rest)
  taken_within [] xs ys rest o w e = (xs, (refl, subst (AllZip (IsWithin types) xs) (some_is e) w))
  taken_within (want ∷ asks) [] [] rest o w e = absurd (none-some rest e)
  taken_within (want ∷ asks) [] (y ∷ ys) rest o w e = absurd w
  taken_within (want ∷ asks) (x ∷ xs) [] rest o w e = absurd w
  taken_within (want ∷ asks) (x ∷ xs) (y ∷ ys) rest o w e =
      let c = cond_guarded (fits types want y) (taken types asks ys) rest e in
      let f = fits_within want x y (All-head (IsOfWorld types) x xs o) w.0 c.0 in
      let r = taken_within asks xs ys rest (All-tail (IsOfWorld types) x xs o) w.1 c.1 in
      (r.0, (ap (λ (b : Bool). cond b (taken types asks xs) None) f ∙ r.1.0, r.1.1))

  -- what is below operands was there
  pub taken_all : (P : PlaceType → Type 0) (asks : List Want) (xs rest : List PlaceType) → All P xs
      → taken types asks xs ≡ Some rest → All P rest
  taken_all P [] xs rest o e = subst (All P) (some_is e) o
  taken_all P (want ∷ asks) [] rest o e = absurd (none-some rest e)
  taken_all P (want ∷ asks) (x ∷ xs) rest o e = taken_all P asks xs rest (All-tail P x xs o)
      (cond_guarded (fits types want x) (taken types asks xs) rest e).1
