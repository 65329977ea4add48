-- Types and how descriptors write them (JVM specification, SE 8, section 4.3.2).
use Rattle.std.specs.Prelude.{◌≡◌, ◌||◌, ◌==◌, ℕ, suc, ◌≤◌, Bool, true, List, [], ◌∷◌, ◌++◌, length, take, drop, position}
use Rattle.std.specs.Prelude.{replicate, Option, Some, None, option_and_then, nat_lt, if◌then◌else◌}
use Rattle.class_base.specs.ClassNames.{is_class_name}
use Rattle.class_base.specs.declared.types.Element.{Element}
use Rattle.class_base.specs.declared.types.Element.TheVariants.{Primitive, Object}
use Rattle.class_base.specs.declared.types.FieldType.{FieldType}

-- ---- types

-- `B`, `C`, `D`, `F`, `I`, `J`, `S` and `Z` are the letters of the primitive types.
abbrev pub is_primitive : ℕ → Bool
is_primitive b = ((b == 66) || (b == 67) || (b == 68) || (b == 70)) || ((b == 73) || (b == 74) || (b == 83) || (b == 90))

-- an element is one: the letter of a primitive type, or a class name
abbrev pub IsElement : Element → Type 0
IsElement (Primitive b) = is_primitive b ≡ true
IsElement (Object name) = is_class_name name ≡ true

-- a type is one: it has at most 255 dimensions, and its element is one
abbrev pub IsType : FieldType → Type 0
IsType t = (t.dims ≤ 255) × IsElement t.element

-- the words that a value of an element's type takes: two for a long and a double, one for every other
abbrev pub element_words : Element → ℕ
element_words (Primitive b) = if (b == 68) || (b == 74) then 2 else 1
element_words (Object name) = 1

-- the words that a value of a type takes: an array is a reference, so it takes one, whatever its elements are
abbrev pub type_words : FieldType → ℕ
type_words t = if t.dims == 0 then element_words t.element else 1

-- ---- how they are written

-- an element in a descriptor: the letter of a primitive type, or `L`, the class's name and `;`
abbrev pub element_text : Element → List ℕ
element_text (Primitive b) = b ∷ []
element_text (Object name) = 76 ∷ name ++ 59 ∷ []

-- a type in a descriptor: a `[` for each dimension, and then the element
abbrev pub type_text : FieldType → List ℕ
type_text t = replicate t.dims 91 ++ element_text t.element

-- the bytes are the descriptor of a field of this type
pub record IsFieldType (t : FieldType) (bytes : List ℕ) : Type 0 where
  pub good : IsType t
  pub text : bytes ≡ type_text t

-- ---- reading from left to right

-- the dimensions of the type at the front: how many `[` stand there
abbrev pub array_depth : List ℕ → ℕ
array_depth [] = 0
array_depth (b ∷ bytes) = if b == 91 then suc (array_depth bytes) else 0

-- behind an `L`: the class name up to the `;`, and the bytes after it
unfoldable pub object_at : List ℕ → Option (Element × List ℕ)
object_at bytes = option_and_then (λ i. if is_class_name (take i bytes) then Some (Object (take i bytes), drop 1 (drop i bytes))
    else None) (position (λ b. b == 59) bytes)

-- the element at the front, which is `L` and a class name or the letter of a primitive type, and the bytes after it
unfoldable pub element_at : List ℕ → Option (Element × List ℕ)
element_at [] = None
element_at (b ∷ bytes) =
    if b == 76 then object_at bytes
    else (if is_primitive b then Some (Primitive b, bytes) else None)

-- the type at the front, and the bytes after it
unfoldable pub type_at : List ℕ → Option (FieldType × List ℕ)
type_at bytes =
    let depth = array_depth bytes in
    if nat_lt 255 depth then None
    else option_and_then (λ x. Some (record { dims = depth; element = x.0 }, x.1)) (element_at (drop depth bytes))

-- the type that the bytes write as a whole
unfoldable pub field_type : List ℕ → Option FieldType
field_type bytes = option_and_then (λ x. if length x.1 == 0 then Some x.0 else None) (type_at bytes)
