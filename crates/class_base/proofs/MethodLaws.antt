-- A descriptor is read as that of a method exactly where it is the text of one.
use Rattle.std.proofs.Common.{◌≡◌, ℕ, zero, suc, ◌+◌, ◌-◌, ◌<◌, ◌≤◌, Bool, true, false, cond, eqb, List, [], ◌∷◌, ◌++◌, length, ◌↔◌}
use Rattle.std.proofs.Common.{IfOk, Result, Ok, Err, Option, Some, None, refl, sym, ap, subst, ◌∙◌, append_assoc, arith, inl, inr}
use Rattle.std.specs.Prelude.{replicate, nat_le}
use Rattle.std.specs.List.{flat_map, AllByRecursion}
use Rattle.std.specs.Option.{option_and_then, option_map, option_map_or, is_some}
use Rattle.std.proofs.lemmas.Bool.{cases_Bool, leb-true, le-leb, eqb-true}
use Rattle.std.proofs.lemmas.Option.{cond_some}
use Rattle.std.proofs.lemmas.List.{length-append, append-nil, nil_from_length}
use Rattle.std.proofs.lemmas.List.Concat.{flat_map-cons}
use Rattle.list_views.proofs.Options.{map_some}
use Rattle.class_base.specs.declared.types.Element.{Element}
use Rattle.class_base.specs.declared.types.Element.TheVariants.{Primitive, Object}
use Rattle.class_base.specs.declared.types.FieldType.{FieldType}
use Rattle.class_base.specs.declared.methods.MethodType.{MethodType}
use Rattle.class_base.specs.declared.member_kind.MemberKind.{MemberKind}
use Rattle.class_base.specs.declared.member_kind.MemberKind.TheVariants.{Field, Method}
use Rattle.class_base.specs.Flags.{is_static}
use Rattle.class_base.specs.Types.{is_primitive, IsElement, IsType, element_text, type_text, type_at, field_type}
use Rattle.class_base.specs.MethodTypes.{returned_text, IsReturned, words_of, IsMethodType, HasWords, types_at, returned_at}
use Rattle.class_base.specs.MethodTypes.{method_type, method_words, method_descriptor}
use Rattle.class_base.specs.MemberKinds.{receiver_words, is_descriptor, IsDescriptor}
use Rattle.class_base.proofs.TypeLaws.{then_some, read_to, read_is, type_again, type_takes, field_again, field_found}

-- a type begins with a byte that is neither `)` nor `V`
record Starts (bytes : List ℕ) : Type 0 where
  first : ℕ
  tail : List ℕ
  parts : bytes ≡ first ∷ tail
  open_ : eqb first 41 ≡ false
  typed : eqb first 86 ≡ false

not_primitive : (b k : ℕ) → is_primitive b ≡ true → is_primitive k ≡ false → eqb b k ≡ false
not_primitive b k h other_is = elim (cases_Bool (eqb b k)) [
  | inl is ↦
      let yes : is_primitive k ≡ true = subst (λ (n : ℕ). is_primitive n ≡ true) (eqb-true b k is) h in
      absurd cc
  | inr other ↦ other
]

element_starts : (e : Element) (rest : List ℕ) → IsElement e → Starts (element_text e ++ rest)
element_starts (Primitive b) rest h = record {
  first = b;
  tail = rest;
  parts = refl;
  open_ = not_primitive b 41 h refl;
  typed =
      not_primitive b 86 h refl;
}
element_starts (Object name) rest h = record { first = 76; tail = (name ++ 59 ∷ []) ++ rest; parts = refl; open_ = refl; typed = refl }

starts_by : (n : ℕ) (e : Element) (rest : List ℕ) → IsElement e → Starts ((replicate n 91 ++ element_text e) ++ rest)
starts_by zero e rest h = element_starts e rest h
starts_by (suc n) e rest h = record {
  first = 91;
  tail = (replicate n 91 ++ element_text e) ++ rest;
  parts = refl;
  open_ = refl;
  typed = refl;
}

type_starts : (t : FieldType) (rest : List ℕ) → IsType t → Starts (type_text t ++ rest)
type_starts t rest h = starts_by t.dims t.element rest h.1

-- ---- parameters

abbrev with_first : FieldType → List FieldType × List ℕ → List FieldType × List ℕ
with_first t more = (t ∷ more.0, more.1)

turn : (turns first : ℕ) (t : FieldType) (bytes tail after : List ℕ) → bytes ≡ first ∷ tail → eqb first 41 ≡ false
    → type_at bytes ≡ Some (t, after)
    → types_at (suc turns) bytes ≡ option_map (with_first t) (types_at turns after)
unfolding types_at
turn turns first t bytes tail after is open_ read =
    let here : type_at (first ∷ tail) ≡ Some (t, after) = rw (← is) read in
    ap (types_at (suc turns)) is ∙ rw (open_, here) refl

types_again : (ts : List FieldType) (turns : ℕ) (rest : List ℕ) → AllByRecursion IsType ts → length ts < turns
    → types_at turns (flat_map type_text ts ++ 41 ∷ rest) ≡ Some (ts, rest)
unfolding types_at
types_again [] zero rest h lt = absurd (omega arith)
types_again [] (suc turns) rest h lt = refl
types_again (t ∷ ts) zero rest h lt = absurd (omega arith)
types_again (t ∷ ts) (suc turns) rest h lt =
    let tail : List ℕ = flat_map type_text ts ++ 41 ∷ rest in
    let regroup : flat_map type_text (t ∷ ts) ++ 41 ∷ rest ≡ type_text t ++ tail = ap (λ (b : List ℕ). b ++ 41 ∷ rest)
    (flat_map-cons type_text t ts) ∙ append_assoc (type_text t) (flat_map type_text ts) (41 ∷ rest) in
    let s = type_starts t tail h.0 in
    ap (types_at (suc turns)) regroup
    ∙ turn turns s.first t (type_text t ++ tail) s.tail tail s.parts s.open_ (type_again t tail h.0)
    ∙ ap (option_map (with_first t)) (types_again ts turns rest h.1 (omega arith))

record TakesTypes (bytes : List ℕ) (ts : List FieldType) (rest : List ℕ) : Type 0 where
  good : AllByRecursion IsType ts
  parts : bytes ≡ flat_map type_text ts ++ 41 ∷ rest

no_types : (b : ℕ) (bytes : List ℕ) (ts : List FieldType) (rest : List ℕ) → eqb b 41 ≡ true → [] ≡ ts → bytes ≡ rest
    → TakesTypes (b ∷ bytes) ts rest
no_types b bytes ts rest is none same =
    subst (λ us. TakesTypes (b ∷ bytes) us rest) none
    (record { good = tt; parts = ap (λ (n : ℕ). n ∷ bytes) (eqb-true b 41 is) ∙ ap (λ (r : List ℕ). 41 ∷ r) same })

types_take : (turns : ℕ) (bytes : List ℕ) (ts : List FieldType) (rest : List ℕ) → types_at turns bytes ≡ Some (ts, rest)
    → TakesTypes bytes ts rest
unfolding types_at
types_take zero bytes ts rest e = absurd cc
types_take (suc turns) [] ts rest e = absurd cc
types_take (suc turns) (b ∷ bytes) ts rest e = elim (cases_Bool (eqb b 41)) [
  | inl is ↦
      let here : Some (read_to [] bytes) ≡ Some (read_to ts rest) = rw is at e in
      let h = read_is [] bytes ts rest here in
      no_types b bytes ts rest is h.0 h.1
  | inr other ↦
      let here : option_and_then (λ x. option_map (with_first x.0) (types_at turns x.1)) (type_at (b ∷ bytes)) ≡ Some (ts, rest) =
      rw other at e in
      let s = then_some (type_at (b ∷ bytes)) (λ x. option_map (with_first x.0) (types_at turns x.1)) (ts, rest) here in
      let m = map_some (with_first s.0.0) (types_at turns s.0.1) (ts, rest) s.2 in
      let h = read_is (s.0.0 ∷ m.0.0) m.0.1 ts rest (ap Some m.1.1) in
      let k = type_takes (b ∷ bytes) s.0.0 s.0.1 s.1 in
      let u = types_take turns s.0.1 m.0.0 m.0.1 m.1.0 in
      subst (λ us. TakesTypes (b ∷ bytes) us rest) h.0 (record {
        good = (k.good, u.good);
        parts =
            k.parts ∙ ap (λ (r : List ℕ). type_text s.0.0 ++ r) (u.parts ∙ ap (λ (r : List ℕ). flat_map type_text m.0.0 ++ 41 ∷ r) h.1)
            ∙ sym (append_assoc (type_text s.0.0) (flat_map type_text m.0.0) (41 ∷ rest))
            ∙ ap (λ (b : List ℕ). b ++ 41 ∷ rest) (sym (flat_map-cons type_text s.0.0 m.0.0));
      })
]

-- ---- the result

starts_returned : (d : List ℕ) (t : FieldType) (first : ℕ) (tail : List ℕ) → d ≡ first ∷ tail → eqb first 86 ≡ false
    → field_type d ≡ Some t → returned_at d ≡ Some (Some t)
unfolding returned_at
starts_returned d t first tail is other good =
    let here : field_type (first ∷ tail) ≡ Some t = rw (← is) good in
    ap returned_at is ∙ rw (other, here) refl

returned_again : (r : Option FieldType) → IsReturned r → returned_at (returned_text r) ≡ Some r
unfolding returned_at
returned_again None h = refl
returned_again (Some t) h =
    let s = type_starts t [] h in
    starts_returned (type_text t) t s.first s.tail (sym (append-nil (type_text t)) ∙ s.parts) s.typed
    (field_again t (type_text t) (record { good = h; text = refl }))

abbrev Returns : List ℕ → Option FieldType → Type 0
Returns d r = IsReturned r × (d ≡ returned_text r)

returned_found : (d : List ℕ) (r : Option FieldType) → returned_at d ≡ Some r → Returns d r
unfolding returned_at
returned_found [] r e = absurd cc
returned_found (b ∷ d) r e = elim (cases_Bool (eqb b 86)) [
  | inl is ↦
      let here : cond (eqb (length d) 0) (Some None) None ≡ Some r = rw is at e in
      let c = cond_some (eqb (length d) 0) None r here in
      subst (Returns (b ∷ d)) c.1 (
        tt,
        ap (λ (n : ℕ). n ∷ d) (eqb-true b 86 is)
            ∙ ap (λ (r : List ℕ). 86 ∷ r) (nil_from_length d (eqb-true _ _ c.0)),
      )
  | inr other ↦
      let here : option_map Some (field_type (b ∷ d)) ≡ Some r = rw other at e in
      let m = map_some Some (field_type (b ∷ d)) r here in
      let f = field_found m.0 (b ∷ d) m.1.0 in
      subst (Returns (b ∷ d)) m.1.1 (f.good, f.text)
]

-- ---- methods

types_short : (ts : List FieldType) → AllByRecursion IsType ts → length ts ≤ length (flat_map type_text ts)
types_short [] h = omega arith
types_short (t ∷ ts) h =
    let s = type_starts t [] h.0 in
    let one : 1 ≤ length (type_text t) = omega (arith, ap length s.parts, length-append (type_text t) []) in
    let all : length (flat_map type_text (t ∷ ts)) ≡ length (type_text t) + length (flat_map type_text ts) = ap length
    (flat_map-cons type_text t ts) ∙ length-append (type_text t) (flat_map type_text ts) in
    omega (arith, one, all, types_short ts h.1)

pub method_again : (m : MethodType) (d : List ℕ) → IsMethodType m d → method_type d ≡ Some m
unfolding method_type
method_again m d h =
    let turns : length m.params < length (flat_map type_text m.params ++ 41 ∷ returned_text m.returned) = omega
    (arith, types_short m.params h.params, length-append (flat_map type_text m.params) (41 ∷ returned_text m.returned)) in
    let read = types_again m.params (length (flat_map type_text m.params ++ 41 ∷ returned_text m.returned))
    (returned_text m.returned) h.params turns in
    let here : method_type (method_descriptor m) ≡ Some m = rw (read, returned_again m.returned h.returned) refl in
    ap method_type h.text ∙ here

abbrev nothing : Option MethodType
nothing = None

no_method : (m : MethodType) → nothing ≡ Some m → ⊥
no_method m e = absurd cc

abbrev with_types : List FieldType → Option FieldType → MethodType
with_types params returned = record { params = params; returned = returned }

pub method_found : (m : MethodType) (d : List ℕ) → method_type d ≡ Some m → IsMethodType m d
unfolding method_type
method_found m [] e = absurd cc
method_found m (b ∷ d) e = elim (cases_Bool (eqb b 40)) [
  | inl is ↦
      let next : List FieldType × List ℕ → Option MethodType = λ x. option_map (with_types x.0) (returned_at x.1) in
      let here : option_and_then next (types_at (length d) d) ≡ Some m = rw is at e in
      let s = then_some (types_at (length d) d) next m here in
      let o = map_some (with_types s.0.0) (returned_at s.0.1) m s.2 in
      let k = types_take (length d) d s.0.0 s.0.1 s.1 in
      let r = returned_found s.0.1 o.0 o.1.0 in
      subst (λ n. IsMethodType n (b ∷ d)) o.1.1 (record {
        params = k.good;
        returned = r.0;
        text = ap (λ (n : ℕ). n ∷ d) (eqb-true b 40 is)
            ∙ ap (λ (x : List ℕ). 40 ∷ x) (k.parts ∙ ap (λ (x : List ℕ). flat_map type_text s.0.0 ++ 41 ∷ x) r.1);
      })
  | inr other ↦
      absurd (no_method m (rw other at e))
]

pub read_exactly : {E : Type 0} (r : Result (Option MethodType) E) (d : List ℕ) → IfOk r (λ read. read ≡ method_type d)
    → IfOk r (λ read. (m : MethodType) → (read ≡ Some m) ↔ IsMethodType m d)
read_exactly (Ok read) d is = λ m. (λ e. method_found m d (sym is ∙ e), λ h. is ∙ method_again m d h)
read_exactly (Err e) d is = tt

-- ---- words

pub words_found : (w : ℕ) (d : List ℕ) → method_words d ≡ Some w → HasWords w d
words_found w d e =
    let m = map_some (λ (x : MethodType). words_of x.params) (method_type d) w e in
    record { method = m.0; descriptor = method_found m.0 d m.1.0; words_are = m.1.1 }

pub words_again : (w : ℕ) (d : List ℕ) → HasWords w d → method_words d ≡ Some w
words_again w d h = ap (option_map (λ (x : MethodType). words_of x.params)) (method_again h.method d h.descriptor)
    ∙ ap (λ (n : ℕ). Some n) h.words_are

-- ---- descriptors of members

words_some : (o : Option ℕ) (f : ℕ → Bool) → option_map_or f o false ≡ true → (w : ℕ) × (o ≡ Some w) × (f w ≡ true)
words_some (Some w) f e = (w, refl, e)
words_some None f e = absurd cc

some_found : {A : Type 0} (o : Option A) → is_some o ≡ true → (x : A) × (o ≡ Some x)
some_found (Some x) e = (x, refl)
some_found None e = absurd cc

few_words : (words flags : ℕ) → nat_le words (255 - receiver_words flags) ≡ true → words + receiver_words flags ≤ 255
few_words words flags h = elim (cases_Bool (is_static flags)) [
  | inl is ↦
      let n : receiver_words flags ≡ 0 = rw is refl in
      omega (arith, n, leb-true _ _ h)
  | inr other ↦
      let n : receiver_words flags ≡ 1 = rw other refl in
      omega (arith, n, leb-true _ _ h)
]

pub descriptor_found : (kind : MemberKind) (flags : ℕ) (d : List ℕ) → is_descriptor kind flags d ≡ true → IsDescriptor kind flags d
unfolding is_descriptor
descriptor_found Field flags d e = let t = some_found (field_type d) e in record { type_is = t.0; field = field_found t.0 d t.1 }
descriptor_found Method flags d e =
    let s = words_some (method_words d) (λ words. nat_le words (255 - receiver_words flags)) e in
    let h = words_found s.0 d s.1 in
    record { method = h.method; descriptor = h.descriptor; words = omega (arith, h.words_are, few_words s.0 flags s.2) }

pub descriptor_again : (kind : MemberKind) (flags : ℕ) (d : List ℕ) → IsDescriptor kind flags d → is_descriptor kind flags d ≡ true
unfolding is_descriptor
descriptor_again Field flags d h = rw (field_again h.type_is d h.field) refl
descriptor_again Method flags d h =
    let read : method_words d ≡ Some (words_of h.method.params) = words_again (words_of h.method.params) d
    (record { method = h.method; descriptor = h.descriptor; words_are = refl }) in
    rw read (le-leb _ _ (omega (arith, h.words)))
