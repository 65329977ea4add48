-- How far types are from the widest ones: what only grows comes to an end.
use Rattle.std.specs.Prelude.{ℕ, zero, suc, ◌+◌, Bool, if◌then◌else◌, List, [], ◌∷◌, ◌++◌, length, map}
use Rattle.jvm_values.specs.declared.types.Ty.{Ty}
use Rattle.jvm_values.specs.declared.types.Base.{Base}
use Rattle.jvm_values.specs.declared.types.Base.TheVariants.{Class, Num}
use Rattle.jvm_values.specs.declared.types.Kind.TheVariants as kinds
use Rattle.jvm_values.specs.declared.typing.PlaceType.{PlaceType}
use Rattle.jvm_values.specs.declared.typing.PlaceType.TheVariants as places
use Rattle.jvm_values.specs.TypedHeaps.{WorldTypes}

-- ---- the types of a world

-- the kinds of numbers, and the classes of a world of so many, which types are made of by array dimensions
abbrev pub bases : ℕ → List Base
bases zero = Num kinds.Boolean ∷ Num kinds.Char ∷ Num kinds.Byte ∷ Num kinds.Short ∷ Num kinds.Int ∷ []
bases (suc classes) = Class classes ∷ bases classes

-- the type of so many array dimensions over a class or a kind of numbers
abbrev pub of_dims : ℕ → Base → Ty
of_dims dims base = record { dims = dims; base = base }

-- the types of fewer dimensions over these
abbrev pub types_below : ℕ → List Base → List Ty
types_below zero found = []
types_below (suc dims) found = map (of_dims dims) found ++ types_below dims found

-- all reference types of a world, and some more
unfoldable pub all_types : WorldTypes → List Ty
all_types types = types_below 256 (bases types.classes)

-- ---- heights

-- how many items of a list a test holds of
abbrev pub count : {A : Type 0} → (A → Bool) → List A → ℕ
count p [] = 0
count p (x ∷ xs) = (if p x then 1 else 0) + count p xs

-- how many types are as wide as a type
unfoldable pub height : WorldTypes → Ty → ℕ
height types t = count (types.sub t) (all_types types)

-- a wider type has a lower rank, and none has a higher one than null
abbrev pub rank : WorldTypes → PlaceType → ℕ
rank types places.Unset = 0
rank types places.Int = 1
rank types (places.Ref t) = height types t + 1
rank types places.Null = length (all_types types) + 2

-- the ranks of some types, added up
abbrev pub ranks : WorldTypes → List PlaceType → ℕ
ranks types [] = 0
ranks types (x ∷ xs) = rank types x + ranks types xs

-- the highest rank, as often as there are places: no frame of so many places ranks higher
abbrev pub most : WorldTypes → ℕ → ℕ
most types zero = 0
most types (suc n) = (length (all_types types) + 2) + most types n
