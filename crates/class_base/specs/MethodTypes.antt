-- Types of methods and how descriptors write them (JVM specification, SE 8, section 4.3.3).
use Rattle.std.specs.Prelude.{◌≡◌, ◌==◌, ℕ, zero, suc, ◌+◌, List, [], ◌∷◌, ◌++◌, length, Option, Some, None, option_and_then}
use Rattle.std.specs.Prelude.{if◌then◌else◌}
use Rattle.std.specs.List.{flat_map, AllByRecursion}
use Rattle.std.specs.Option.{option_map}
use Rattle.class_base.specs.declared.types.FieldType.{FieldType}
use Rattle.class_base.specs.declared.methods.MethodType.{MethodType}
use Rattle.class_base.specs.Types.{IsType, type_text, type_words, type_at, field_type}

-- ---- how they are written

-- what a method returns, as its descriptor writes it: a type, or `V` where it returns nothing
abbrev pub returned_text : Option FieldType → List ℕ
returned_text (Some t) = type_text t
returned_text None = 86 ∷ []

-- a method can return this: nothing, or a value of a type that is one
abbrev pub IsReturned : Option FieldType → Type 0
IsReturned (Some t) = IsType t
IsReturned None = Unit {0}

-- a method's descriptor: the parameters' types in round brackets, and then what the method returns
abbrev pub method_descriptor : MethodType → List ℕ
method_descriptor m = 40 ∷ flat_map type_text m.params ++ 41 ∷ returned_text m.returned

-- the words that parameters of these types take, without a receiver
abbrev pub words_of : List FieldType → ℕ
words_of [] = 0
words_of (t ∷ ts) = type_words t + words_of ts

-- the bytes are the descriptor of a method of this type
pub record IsMethodType (m : MethodType) (bytes : List ℕ) : Type 0 where
  pub params : AllByRecursion IsType m.params
  pub returned : IsReturned m.returned
  pub text : bytes ≡ method_descriptor m

-- the bytes are a method's descriptor, whose parameters have so many words
pub record HasWords (words : ℕ) (bytes : List ℕ) : Type 0 where
  pub method : MethodType
  pub descriptor : IsMethodType method bytes
  pub words_are : words_of method.params ≡ words

-- ---- reading from left to right

-- The types of a method's parameters up to the `)`, and the bytes after it. Each type has a byte, so as many turns as there
-- are bytes are enough.
unfoldable pub types_at : ℕ → List ℕ → Option (List FieldType × List ℕ)
types_at zero bytes = None
types_at (suc turns) [] = None
types_at (suc turns) (b ∷ bytes) =
    if b == 41 then Some ([], bytes)
    else option_and_then (λ x. option_map (λ more. (x.0 ∷ more.0, more.1)) (types_at turns x.1)) (type_at (b ∷ bytes))

-- the words of a method's parameters up to the `)`, and the bytes after it
abbrev pub words_at : List ℕ → Option (ℕ × List ℕ)
words_at bytes = option_map (λ x. (words_of x.0, x.1)) (types_at (length bytes) bytes)

-- what a method returns, read from the bytes after the `)`: nothing for `V`, else the type that they write
unfoldable pub returned_at : List ℕ → Option (Option FieldType)
returned_at [] = None
returned_at (b ∷ bytes) =
    if b == 86 then (if length bytes == 0 then Some None else None)
    else option_map Some (field_type (b ∷ bytes))

-- the method's type that the bytes write as a whole, none where they are no method's descriptor
unfoldable pub method_type : List ℕ → Option MethodType
method_type [] = None
method_type (b ∷ bytes) =
    if b == 40 then option_and_then (λ x. option_map (λ r. record { params = x.0; returned = r }) (returned_at x.1))
    (types_at (length bytes) bytes)
    else None

-- the words of the parameters of the method whose descriptor the bytes are, without a receiver
abbrev pub method_words : List ℕ → Option ℕ
method_words bytes = option_map (λ m. words_of m.params) (method_type bytes)
