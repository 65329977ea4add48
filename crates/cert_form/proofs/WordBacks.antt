-- The words of types, shapes and kinds are read again.
use Rattle.std.proofs.Common.{◌≡◌, ℕ, zero, suc, ◌+◌, ◌<◌, ◌≤◌, ◌==◌, ◌&&◌, nat_lt, Bool, true, false, List, [], ◌∷◌, ◌++◌, length}
use Rattle.std.proofs.Common.{replicate, Ok, Option, Some, None, option_map, option_and_then, slice_get, bytes_eq, refl, sym, ap}
use Rattle.std.proofs.Common.{◌∙◌, subst, arith}
use Rattle.std.specs.List.{list_all, position_from}
use Rattle.std.specs.Option.{unwrap_or}
use Rattle.std.specs.Str.{is_utf8}
use Rattle.std.proofs.lemmas.Bool.Decides.{nat_tests}
use Rattle.std.proofs.lemmas.Slice.Eq.{bytes_eq-Decides}
use Rattle.std.proofs.lemmas.Bool.{cond-true, cond-false}
use Rattle.list_views.proofs.Items.{get_within}
use Rattle.serde_json.specs.Data.{string}
use Rattle.json_view.specs.Reading.{text_of}
use Rattle.class_base.specs.ClassNames.{is_class_name, is_name_byte}
use Rattle.class_base.specs.Types.{is_primitive, IsElement, element_text, type_text, field_type}
use Rattle.class_base.specs.declared.types.FieldType.{FieldType}
use Rattle.class_base.specs.declared.types.Element.{Element}
use Rattle.class_base.specs.declared.types.Element.TheVariants.{Primitive, Object}
use Rattle.class_base.proofs.TypeLaws.{field_again}
use Rattle.jvm_values.specs.Kinds.{kind_code, kind_of_code, kind_of_letter}
use Rattle.jvm_values.specs.Subtyping.{class_type, IsReference}
use Rattle.jvm_values.specs.declared.types.Base.{Base}
use Rattle.jvm_values.specs.declared.types.Base.TheVariants as bases
use Rattle.jvm_values.specs.declared.types.Kind.{Kind}
use Rattle.jvm_values.specs.declared.types.Kind.TheVariants as kinds
use Rattle.jvm_values.specs.declared.types.Ty.{Ty}
use Rattle.jvm_values.specs.declared.shape.Shape.{Shape}
use Rattle.jvm_values.specs.declared.shape.Shape.TheVariants.{Tree, Dag, Any}
use Rattle.cert_form.specs.Types.{class_named, base_of, array_type, type_of_word, type_in, shape_of, kind_or, kind_of}
use Rattle.cert_form.specs.Fields.{word_or}
use Rattle.cert_form.specs.cert_write.Data.{natural, kind_letter, class_name, base_text, named_base, type_word, shape_word}
use Rattle.cert_form.specs.cert_write.Readable.{AreDistinct}
use Rattle.cert_form.proofs.ClassTexts.{each_named}
use Rattle.cert_form.proofs.Backs.{Back, then_back, number_back}

-- ---- names

-- class names that each stand once
pub record AreNames (names : List (List ℕ)) : Type 0 where
  pub named : list_all is_class_name names ≡ true
  pub distinct : AreDistinct names

distinct_rest : (x : List ℕ) (xs : List (List ℕ)) → AreDistinct (x ∷ xs) → AreDistinct xs
distinct_rest x xs d m n name e f = let s : suc m ≡ suc n = d (suc m) (suc n) name e f in omega arith

position_at : (names : List (List ℕ)) (class from : ℕ) (name : List ℕ) → slice_get names class ≡ Some name → AreDistinct names
    → position_from (bytes_eq name) from names ≡ Some (from + class)
position_at [] class from name g d = let no : ⊥ = cc in absurd no
position_at (x ∷ xs) zero from name g d =
    let same : name ≡ x = cc in
    let here : from ≡ from + 0 = omega arith in
    cond-true (bytes_eq name x) (Some from) (position_from (bytes_eq name) (from + 1) xs) ((bytes_eq-Decides name x).1 same)
    ∙ ap (λ (n : ℕ). Some n) here
position_at (x ∷ xs) (suc class) from name g d = go (bytes_eq name x) refl (position_at xs class (from + 1) name g (distinct_rest x xs d))
  where
    go : (b : Bool) → bytes_eq name x ≡ b → position_from (bytes_eq name) (from + 1) xs ≡ Some ((from + 1) + class)
        → position_from (bytes_eq name) from (x ∷ xs) ≡ Some (from + suc class)
    go true t later =
        let same : name ≡ x = (bytes_eq-Decides name x).0 t in
        let first : 0 ≡ suc class = d 0 (suc class) name (ap (λ (n : List ℕ). Some n) (sym same)) g in
        absurd (omega arith)
    go false t later =
        let count : (from + 1) + class ≡ from + suc class = omega arith in
        cond-false (bytes_eq name x) (Some from) (position_from (bytes_eq name) (from + 1) xs) t ∙ later ∙ ap (λ (n : ℕ). Some n) count

named_at : (names : List (List ℕ)) (class : ℕ) (name : List ℕ) → slice_get names class ≡ Some name → AreDistinct names
    → class_named names name ≡ Some class
named_at names class name g d = let count : 0 + class ≡ class = omega arith in position_at names class 0 name g d
    ∙ ap (λ (n : ℕ). Some n) count

-- a class with its name
record HasName (names : List (List ℕ)) (class : ℕ) : Type 0 where
  good : is_class_name (class_name names class) ≡ true
  found : class_named names (class_name names class) ≡ Some class

has_name : (names : List (List ℕ)) (class : ℕ) → AreNames names → class < length names → HasName names class
has_name names class all l =
    let there = get_within names class l in
    let word : there.0 ≡ class_name names class = sym (ap (λ (o : Option (List ℕ)). unwrap_or o []) there.1) in
    record {
      good = subst (λ (n : List ℕ). is_class_name n ≡ true) word (each_named names class there.0 all.named there.1);
      found = subst (λ (n : List ℕ). class_named names n ≡ Some class) word (named_at names class there.0 there.1 all.distinct);
    }

-- ---- types

abbrev element_of : List (List ℕ) → Base → Element
element_of names (bases.Num kind) = Primitive (kind_letter kind)
element_of names (bases.Class class) = Object (class_name names class)

element_is : (names : List (List ℕ)) (base : Base) → base_text names base ≡ element_text (element_of names base)
element_is names (bases.Num kind) = refl
element_is names (bases.Class class) = refl

letter_good : (kind : Kind) → is_primitive (kind_letter kind) ≡ true
letter_good kinds.Boolean = refl
letter_good kinds.Char = refl
letter_good kinds.Byte = refl
letter_good kinds.Short = refl
letter_good kinds.Int = refl

letter_back : (kind : Kind) → kind_of_letter (kind_letter kind) ≡ Some kind
letter_back kinds.Boolean = refl
letter_back kinds.Char = refl
letter_back kinds.Byte = refl
letter_back kinds.Short = refl
letter_back kinds.Int = refl

element_good : (names : List (List ℕ)) (dims : ℕ) (base : Base) → AreNames names
    → IsReference (length names) (record { dims = dims; base = base }) → IsElement (element_of names base)
element_good names dims (bases.Num kind) all r = letter_good kind
element_good names dims (bases.Class class) all r = (has_name names class all r.1).good

base_back : (names : List (List ℕ)) (dims : ℕ) (base : Base) → AreNames names
    → IsReference (length names) (record { dims = dims; base = base }) → base_of names (element_of names base) ≡ Some base
base_back names dims (bases.Num kind) all r = ap (λ (o : Option Kind). option_map (λ kind. bases.Num kind) o) (letter_back kind)
base_back names dims (bases.Class class) all r = ap (λ (o : Option ℕ). option_map (λ class. bases.Class class) o)
    (has_name names class all r.1).found

not_zero : (d : ℕ) → (suc d == 0) ≡ false
not_zero d = grind (arith, nat_tests)

never_both : (a b c : Bool) → b ≡ false → ((a && b) && c) ≡ false
never_both true true c e = let no : ⊥ = cc in absurd no
never_both true false c e = refl
never_both false b c e = refl

no_name : (rest : List ℕ) → is_class_name (91 ∷ rest) ≡ false
no_name rest = never_both (nat_lt 0 (length (91 ∷ rest))) (list_all is_name_byte (91 ∷ rest)) (is_utf8 (91 ∷ rest)) refl

array_word : (names : List (List ℕ)) (d : ℕ) (base : Base) → type_word names (record { dims = suc d; base = base }) ≡ type_text
    (record { dims = suc d; element = element_of names base })
array_word names d base = cond-false (suc d == 0) (named_base names base) (replicate (suc d) 91 ++ base_text names base)
    (not_zero d) ∙ ap (λ (bs : List ℕ). replicate (suc d) 91 ++ bs) (element_is names base)

array_back : (names : List (List ℕ)) (d : ℕ) (base : Base) → AreNames names
    → IsReference (length names) (record { dims = suc d; base = base })
    → array_type names (record { dims = suc d; element = element_of names base }) ≡ Some (record { dims = suc d; base = base })
unfolding array_type
array_back names d base all r =
    cond-false (suc d == 0) None (option_map (λ base. record { dims = suc d; base = base }) (base_of names (element_of names base)))
    (not_zero d)
    ∙ ap (λ (o : Option Base). option_map (λ (base : Base). record { dims = suc d; base = base }) o) (base_back names (suc d) base all r)

by_parts : (names : List (List ℕ)) (dims : ℕ) (base : Base) → AreNames names
    → IsReference (length names) (record { dims = dims; base = base })
    → type_of_word names (type_word names (record { dims = dims; base = base })) ≡ Some (record { dims = dims; base = base })
unfolding type_of_word
by_parts names zero (bases.Num kind) all r = absurd (let l : 0 < 0 = r.1 in omega arith)
by_parts names zero (bases.Class class) all r =
    let name = has_name names class all r.1 in
    cond-true (is_class_name (class_name names class)) (option_map class_type (class_named names (class_name names class)))
    (option_and_then (array_type names) (field_type (class_name names class))) name.good
    ∙ ap (λ (o : Option ℕ). option_map class_type o) name.found
by_parts names (suc d) base all r =
    let whole : FieldType = record { dims = suc d; element = element_of names base } in
    ap (λ (word : List ℕ). type_of_word names word) (array_word names d base)
    ∙ cond-false (is_class_name (type_text whole)) (option_map class_type (class_named names (type_text whole)))
    (option_and_then (array_type names) (field_type (type_text whole)))
    (no_name (replicate d 91 ++ element_text (element_of names base)))
    ∙ ap (λ (o : Option FieldType). option_and_then (array_type names) o)
    (field_again whole (type_text whole) (record { good = (r.0, element_good names (suc d) base all r); text = refl }))
    ∙ array_back names d base all r

pub type_back : (names : List (List ℕ)) (t : Ty) → AreNames names → IsReference (length names) t
    → Back (type_in names) (string (type_word names t)) t
unfolding type_in text_of
type_back names t all r place = ap (λ (o : Option Ty). word_or (record { value = string (type_word names t); place = place }) o)
    (by_parts names t.dims t.base all r)

-- ---- shapes and kinds

pub shape_back : (shape : Shape) → Back shape_of (string (shape_word shape)) shape
unfolding shape_of text_of
shape_back Tree place = refl
shape_back Dag place = refl
shape_back Any place = refl

kind_by : (kind : Kind) → kind_code kind ≤ 255 → kind_of_code (kind_code kind) ≡ Some kind → Back kind_of (natural (kind_code kind)) kind
unfolding kind_of
kind_by kind l e place =
    then_back _ (λ (n : ℕ). kind_or (record { value = natural (kind_code kind); place = place }) (kind_of_code n)) (kind_code kind)
    (Ok kind) (number_back 255 (kind_code kind) l place)
    (ap (λ (o : Option Kind). kind_or (record { value = natural (kind_code kind); place = place }) o) e)

pub kind_back : (kind : Kind) → Back kind_of (natural (kind_code kind)) kind
kind_back kinds.Boolean = kind_by kinds.Boolean (omega arith) refl
kind_back kinds.Char = kind_by kinds.Char (omega arith) refl
kind_back kinds.Byte = kind_by kinds.Byte (omega arith) refl
kind_back kinds.Short = kind_by kinds.Short (omega arith) refl
kind_back kinds.Int = kind_by kinds.Int (omega arith) refl
