-- The types of a frame's places: which are wider, and which a world has (JVM specification, sections 4.10.1.2 and 4.10.2.2).
--
-- A local variable that is unset may hold anything. A world's types are asked for as assignments see them.
use Rattle.std.specs.Prelude.{◌≡◌, ◌≢◌, ℕ, ◌≤◌, length, All, IsTrue}
use Rattle.std.specs.List.{AllZip}
use Rattle.jvm_values.specs.declared.typing.PlaceType.{PlaceType}
use Rattle.jvm_values.specs.declared.typing.PlaceType.TheVariants as places
use Rattle.jvm_values.specs.States.{PlaceTypes}
use Rattle.jvm_values.specs.Subtyping.{IsReference, IsErased}
use Rattle.jvm_values.specs.TypedHeaps.{WorldTypes}

-- ---- wider types

-- a type of a place is within another, wider one: every value that the first takes the second takes too
abbrev pub IsWithin : WorldTypes → PlaceType → PlaceType → Type 0
IsWithin types a places.Unset = Unit {0}
IsWithin types places.Int places.Int = Unit {0}
IsWithin types places.Null places.Null = Unit {0}
IsWithin types places.Null (places.Ref t) = Unit {0}
IsWithin types (places.Ref s) (places.Ref t) = IsTrue (types.sub s t)
IsWithin types places.Unset places.Int = ⊥
IsWithin types places.Unset places.Null = ⊥
IsWithin types places.Unset (places.Ref t) = ⊥
IsWithin types places.Int places.Null = ⊥
IsWithin types places.Int (places.Ref t) = ⊥
IsWithin types places.Null places.Int = ⊥
IsWithin types (places.Ref s) places.Int = ⊥
IsWithin types (places.Ref s) places.Null = ⊥

-- a frame's types are within a wider frame's, place by place, in equally many locals and stack entries
pub record IsFrameWithin (types : WorldTypes) (narrow wide : PlaceTypes) : Type 0 where
  pub locals : AllZip (IsWithin types) narrow.locals wide.locals
  pub stack : AllZip (IsWithin types) narrow.stack wide.stack

-- ---- types of a world

-- a type of a place is one of a world: nothing, an int, null, or a reference type of the world that is its own
-- erasure
abbrev pub IsOfWorld : WorldTypes → PlaceType → Type 0
IsOfWorld types places.Unset = Unit {0}
IsOfWorld types places.Int = Unit {0}
IsOfWorld types places.Null = Unit {0}
IsOfWorld types (places.Ref t) = IsReference types.classes t × IsErased types.erase t

-- no stack entry is unset
abbrev pub IsSet : PlaceType → Type 0
IsSet place = place ≢ places.Unset

-- a frame of a method with so many locals: no stack entry is unset, and the types are the world's
pub record IsProper (types : WorldTypes) (max_locals : ℕ) (frame : PlaceTypes) : Type 0 where
  pub count : length frame.locals ≡ max_locals
  pub set : All IsSet frame.stack
  pub locals : All (IsOfWorld types) frame.locals
  pub stack : All (IsOfWorld types) frame.stack

-- a frame of a method with so many locals and at most so many stack entries
pub record IsFrame (types : WorldTypes) (max_locals max_stack : ℕ) (frame : PlaceTypes) : Type 0 where
  pub proper : IsProper types max_locals frame
  pub depth : length frame.stack ≤ max_stack
