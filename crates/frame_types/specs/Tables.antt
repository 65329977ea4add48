-- Types of the frames at the places of a code, and what comes to a place.
use Rattle.std.specs.Prelude.{◌≡◌, ℕ, List, slice_get, Option, Some, option_and_then}
use Rattle.std.specs.Option.{option_map}
use Rattle.jvm_values.specs.declared.typing.FrameType.{FrameType}
use Rattle.jvm_values.specs.States.{PlaceTypes, types_of}
use Rattle.jvm_values.specs.TypedHeaps.{WorldTypes}
use Rattle.frame_types.specs.Places.{IsFrameWithin}

-- types at places of a code
abbrev pub CodeTypes : Type 0
CodeTypes = ℕ → Option PlaceTypes

-- a place that is led to, and the types that come there
pub record Flow : Type 0 where
  pub to : ℕ
  pub frame : PlaceTypes

-- the types of a code take what comes to a place: there are types at that place, as wide as those that come
pub record Takes (types : WorldTypes) (typing : CodeTypes) (flow : Flow) : Type 0 where
  pub there : PlaceTypes
  pub is_there : typing flow.to ≡ Some there
  pub wide : IsFrameWithin types flow.frame there

-- one typing of a code is at most another: each place that it gives types has types in the other, at least as wide
abbrev pub IsAtMost : WorldTypes → CodeTypes → CodeTypes → Type 0
IsAtMost types typing other = (place : ℕ) (frame : PlaceTypes) → typing place ≡ Some frame
    → Takes types other (record { to = place; frame = frame })

-- the typing that a list of frames gives, one for each place of a code, where it has one
abbrev pub types_at : List (Option FrameType) → CodeTypes
types_at found place = option_and_then (option_map types_of) (slice_get found place)
