-- A descriptor is read as a type exactly where it is the text of one.
use Rattle.std.proofs.Common.{◌≡◌, ℕ, zero, suc, ◌≤◌, Bool, true, false, cond, ltb, eqb, ◌&&◌, List, [], ◌∷◌, ◌++◌, length, get_or}
use Rattle.std.proofs.Common.{take, drop, Option, Some, None, refl, sym, ap, subst, ◌∙◌, append_assoc, arith, inl, inr}
use Rattle.std.specs.Prelude.{position, replicate}
use Rattle.std.specs.List.{list_all, position_or_len}
use Rattle.std.specs.Option.{option_and_then}
use Rattle.std.specs.Str.{is_utf8}
use Rattle.std.proofs.lemmas.Bool.{cases_Bool, ltb-false, lt-ltb, le-ltb, eqb-true, and_parts}
use Rattle.std.proofs.lemmas.Option.{cond_some, same_Some}
use Rattle.std.proofs.lemmas.List.{take_at, drop_at, take-append-drop, length-append, append-nil, length-replicate, nil_from_length}
use Rattle.std.proofs.lemmas.List.Quantifiers.{position-Some}
use Rattle.std.proofs.Math.Seq.{drop-cons}
use Rattle.class_base.specs.declared.types.Element.{Element}
use Rattle.class_base.specs.declared.types.Element.TheVariants.{Primitive, Object}
use Rattle.class_base.specs.declared.types.FieldType.{FieldType}
use Rattle.class_base.specs.ClassNames.{is_name_byte, is_class_name}
use Rattle.class_base.specs.Types.{is_primitive, IsElement, IsType, element_text, type_text, array_depth, object_at, element_at}
use Rattle.class_base.specs.Types.{type_at, field_type, IsFieldType}

-- ---- options

pub then_some : {A B : Type 0} (o : Option A) (f : A → Option B) (y : B) → option_and_then f o ≡ Some y
    → (x : A) × (o ≡ Some x) × (f x ≡ Some y)
then_some (Some x) f y e = (x, refl, e)
then_some None f y e = absurd cc

chosen_some : {A : Type 0} (b : Bool) (x : Option A) (y : A) → cond b None x ≡ Some y → (b ≡ false) × (x ≡ Some y)
chosen_some true x y e = absurd cc
chosen_some false x y e = (refl, e)

-- what was read, and what is left
abbrev pub read_to : {A : Type 0} → A → List ℕ → A × List ℕ
read_to x rest = (x, rest)

parts_of : {A : Type 0} (x y : A × List ℕ) → x ≡ y → (x.0 ≡ y.0) × (x.1 ≡ y.1)
parts_of x y e = (ap (λ p. p.0) e, ap (λ p. p.1) e)

pub read_is : {A : Type 0} (x : A) (rest : List ℕ) (y : A) (end : List ℕ) → Some (read_to x rest) ≡ Some (read_to y end)
    → (x ≡ y) × (rest ≡ end)
read_is x rest y end e = parts_of (read_to x rest) (read_to y end) (same_Some (read_to x rest) (read_to y end) e)

-- ---- class names up to a semicolon

no_semicolon : (b : ℕ) → is_name_byte b ≡ true → eqb b 59 ≡ false
no_semicolon b h = elim (cases_Bool (eqb b 59)) [
  | inl is ↦
      let same : b ≡ 59 = eqb-true b 59 is in
      let no : is_name_byte 59 ≡ true = subst (λ (n : ℕ). is_name_byte n ≡ true) same h in
      absurd cc
  | inr other ↦ other
]

semicolon_at : (name rest : List ℕ) → list_all is_name_byte name ≡ true → position_or_len (λ b. eqb b 59) (name ++ 59 ∷ rest) ≡ length name
semicolon_at [] rest h = refl
semicolon_at (b ∷ name) rest h =
    let h2 = and_parts (is_name_byte b) (list_all is_name_byte name) h in
    let others = semicolon_at name rest h2.1 in
    rw (no_semicolon b h2.0) (omega (arith, others))

position_again : (name rest : List ℕ) → list_all is_name_byte name ≡ true
    → position (λ b. eqb b 59) (name ++ 59 ∷ rest) ≡ Some (length name)
position_again name rest h =
    let at = semicolon_at name rest h in
    let inside : ltb (length name) (length (name ++ 59 ∷ rest)) ≡ true = lt-ltb _ _ (omega (arith, length-append name (59 ∷ rest))) in
    rw (at, inside) refl

name_bytes : (name : List ℕ) → is_class_name name ≡ true → list_all is_name_byte name ≡ true
name_bytes name h = (and_parts (ltb 0 (length name)) (list_all is_name_byte name)
    (and_parts (ltb 0 (length name) && list_all is_name_byte name) (is_utf8 name) h).0).1

object_again : (name rest : List ℕ) → is_class_name name ≡ true → object_at ((name ++ 59 ∷ []) ++ rest) ≡ Some (Object name, rest)
unfolding object_at
object_again name rest h =
    ap object_at (append_assoc name (59 ∷ []) rest)
    ∙ rw (
      position_again name rest (name_bytes name h),
      take_at name (59 ∷ rest) (length name) refl,
      drop_at name (59 ∷ rest)
          (length name) refl,
      h,
    ) refl

object_takes : (bytes : List ℕ) (x : Element) (rest : List ℕ) → object_at bytes ≡ Some (x, rest)
    → (name : List ℕ) × (is_class_name name ≡ true) × (bytes ≡ (name ++ 59 ∷ []) ++ rest) × (x ≡ Object name)
unfolding object_at
object_takes bytes x rest e =
    let p = then_some (position (λ b. eqb b 59) bytes)
    (λ i. cond (is_class_name (take i bytes)) (Some (Object (take i bytes), drop 1 (drop i bytes))) None) (x, rest) e in
    let i : ℕ = p.0 in
    let c = cond_some (is_class_name (take i bytes)) (read_to (Object (take i bytes)) (drop 1 (drop i bytes))) (x, rest) p.2 in
    let h = parts_of (read_to (Object (take i bytes)) (drop 1 (drop i bytes))) (x, rest) c.1 in
    let at = position-Some (λ b. eqb b 59) bytes i 0 p.1 in
    let semi : get_or bytes i 0 ≡ 59 = eqb-true _ _ at.1 in
    let front : drop i bytes ≡ 59 ∷ drop (suc i) bytes = drop-cons bytes i 0 at.0 ∙ ap (λ (b : ℕ). b ∷ drop (suc i) bytes) semi in
    let after : drop (suc i) bytes ≡ rest = sym (ap (drop 1) front) ∙ h.1 in (
      take i bytes,
      c.0,
      sym (take-append-drop i bytes)
          ∙ ap (λ (r : List ℕ). take i bytes ++ r) (front ∙ ap (λ (r : List ℕ). 59 ∷ r) after)
          ∙ sym (append_assoc (take i bytes) (59 ∷ []) rest),
      sym h.0,
    )

-- ---- elements

is_no_object : (b : ℕ) → is_primitive b ≡ true → eqb b 76 ≡ false
is_no_object b h = elim (cases_Bool (eqb b 76)) [
  | inl is ↦
      let no : is_primitive 76 ≡ true = subst (λ (n : ℕ). is_primitive n ≡ true) (eqb-true b 76 is) h in
      absurd cc
  | inr other ↦ other
]

element_again : (e : Element) (rest : List ℕ) → IsElement e → element_at (element_text e ++ rest) ≡ Some (e, rest)
unfolding element_at
element_again (Primitive b) rest h = rw (is_no_object b h, h) refl
element_again (Object name) rest h = object_again name rest h

-- the front is the text of what was read
record TakesElement (bytes : List ℕ) (x : Element) (rest : List ℕ) : Type 0 where
  good : IsElement x
  parts : bytes ≡ element_text x ++ rest

taken_object : (bytes : List ℕ) (x : Element) (rest name : List ℕ) → is_class_name name ≡ true
    → bytes ≡ 76 ∷ (name ++ 59 ∷ []) ++ rest → x ≡ Object name → TakesElement bytes x rest
taken_object bytes x rest name good parts is = rw is (record { good = good; parts = parts })

taken_primitive : (b : ℕ) (bytes : List ℕ) (x : Element) (rest : List ℕ) → is_primitive b ≡ true → bytes ≡ rest → Primitive b ≡ x
    → TakesElement (b ∷ bytes) x rest
taken_primitive b bytes x rest good same is = rw (← is) (record { good = good; parts = ap (λ (r : List ℕ). b ∷ r) same })

element_takes : (bytes : List ℕ) (x : Element) (rest : List ℕ) → element_at bytes ≡ Some (x, rest) → TakesElement bytes x rest
unfolding element_at
element_takes [] x rest e = absurd cc
element_takes (b ∷ bytes) x rest e = elim (cases_Bool (eqb b 76)) [
  | inl is ↦
      let here : object_at bytes ≡ Some (x, rest) = rw is at e in
      let o = object_takes bytes x rest here in
      taken_object (b ∷ bytes) x rest o.0 o.1 (ap (λ (n : ℕ). n ∷ bytes) (eqb-true b 76 is) ∙ ap (λ (r : List ℕ). 76 ∷ r) o.2) o.3
  | inr other ↦
      let here : cond (is_primitive b) (Some (Primitive b, bytes)) None ≡ Some (x, rest) = rw other at e in
      let c = cond_some (is_primitive b) (read_to (Primitive b) bytes) (x, rest) here in
      let h = parts_of (read_to (Primitive b) bytes) (x, rest) c.1 in
      taken_primitive b bytes x rest c.0 h.1 h.0
]

-- ---- types

no_array : (e : Element) (rest : List ℕ) → IsElement e → array_depth (element_text e ++ rest) ≡ 0
no_array (Primitive b) rest h = elim (cases_Bool (eqb b 91)) [
  | inl is ↦
      let no : is_primitive 91 ≡ true = subst (λ (n : ℕ). is_primitive n ≡ true) (eqb-true b 91 is) h in
      absurd cc
  | inr other ↦ rw other refl
]
no_array (Object name) rest h = refl

depth_again : (n : ℕ) (e : Element) (rest : List ℕ) → IsElement e → array_depth (replicate n 91 ++ (element_text e ++ rest)) ≡ n
depth_again zero e rest h = no_array e rest h
depth_again (suc n) e rest h = ap suc (depth_again n e rest h)

depth_parts : (bytes : List ℕ) → bytes ≡ replicate (array_depth bytes) 91 ++ drop (array_depth bytes) bytes
depth_parts [] = refl
depth_parts (b ∷ bytes) = elim (cases_Bool (eqb b 91)) [
  | inl is ↦ rw is (ap (λ (n : ℕ). n ∷ bytes) (eqb-true b 91 is) ∙ ap (λ (r : List ℕ). 91 ∷ r) (depth_parts bytes))
  | inr other ↦ rw other refl
]

pub type_again : (t : FieldType) (rest : List ℕ) → IsType t → type_at (type_text t ++ rest) ≡ Some (t, rest)
unfolding type_at
type_again t rest h =
    let regroup : type_text t ++ rest ≡ replicate t.dims 91 ++ (element_text t.element ++ rest) = append_assoc (replicate t.dims 91)
    (element_text t.element) rest in
    let depth = depth_again t.dims t.element rest h.1 in
    let few : ltb 255 t.dims ≡ false = le-ltb _ _ h.0 in
    let after : drop t.dims (replicate t.dims 91 ++ (element_text t.element ++ rest)) ≡ element_text t.element ++ rest = drop_at
    (replicate t.dims 91) (element_text t.element ++ rest) t.dims (length-replicate t.dims 91) in
    ap type_at regroup ∙ rw (depth, few, after, element_again t.element rest h.1) refl

pub record TakesType (bytes : List ℕ) (t : FieldType) (rest : List ℕ) : Type 0 where
  pub good : IsType t
  pub parts : bytes ≡ type_text t ++ rest

abbrev typed : ℕ → Element → FieldType
typed dims element = record { dims = dims; element = element }

taken_type : (bytes : List ℕ) (t : FieldType) (rest end : List ℕ) (x : Element) → array_depth bytes ≤ 255 → IsElement x
    → drop (array_depth bytes) bytes ≡ element_text x ++ rest
    → rest ≡ end → typed (array_depth bytes) x ≡ t → TakesType bytes t end
taken_type bytes t rest end x few good parts same is =
    subst (λ u. TakesType bytes u end) is (record {
      good = (few, good);
      parts =
          depth_parts bytes ∙ ap (λ (r : List ℕ). replicate (array_depth bytes) 91 ++ r)
          (parts ∙ ap (λ (r : List ℕ). element_text x ++ r) same)
          ∙ sym (append_assoc (replicate (array_depth bytes) 91) (element_text x) end);
    })

pub type_takes : (bytes : List ℕ) (t : FieldType) (rest : List ℕ) → type_at bytes ≡ Some (t, rest) → TakesType bytes t rest
unfolding type_at
type_takes bytes t rest e =
    let next : Element × List ℕ → Option (FieldType × List ℕ) = λ x. Some (typed (array_depth bytes) x.0, x.1) in
    let g = chosen_some (ltb 255 (array_depth bytes)) (option_and_then next (element_at (drop (array_depth bytes) bytes))) (t, rest) e in
    let s = then_some (element_at (drop (array_depth bytes) bytes)) next (t, rest) g.1 in
    let h = read_is (typed (array_depth bytes) s.0.0) s.0.1 t rest s.2 in
    let k = element_takes (drop (array_depth bytes) bytes) s.0.0 s.0.1 s.1 in
    taken_type bytes t s.0.1 rest s.0.0 (ltb-false _ _ g.0) k.good k.parts h.1 h.0

-- ---- a type as a whole

pub field_again : (t : FieldType) (d : List ℕ) → IsFieldType t d → field_type d ≡ Some t
unfolding field_type
field_again t d h =
    let read : type_at d ≡ Some (t, []) = ap type_at (h.text ∙ sym (append-nil (type_text t))) ∙ type_again t [] h.good in
    rw read refl

pub field_found : (t : FieldType) (d : List ℕ) → field_type d ≡ Some t → IsFieldType t d
unfolding field_type
field_found t d e =
    let s = then_some (type_at d) (λ x. cond (eqb (length x.1) 0) (Some x.0) None) t e in
    let c = cond_some (eqb (length s.0.1) 0) s.0.0 t s.2 in
    let k = type_takes d s.0.0 s.0.1 s.1 in
    let none : s.0.1 ≡ [] = nil_from_length s.0.1 (eqb-true _ _ c.0) in
    subst (λ u. IsFieldType u d) c.1
    (record { good = k.good; text = k.parts ∙ ap (λ (r : List ℕ). type_text s.0.0 ++ r) none ∙ append-nil (type_text s.0.0) })
