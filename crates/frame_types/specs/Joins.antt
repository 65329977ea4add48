-- The least types that are as wide as two.
use Rattle.std.specs.Prelude.{◌≡◌, ℕ, ◌<◌, ◌≤◌, List, length, slice_index_or, All}
use Rattle.std.specs.List.{AllZip}
use Rattle.jvm_values.specs.declared.typing.PlaceType.{PlaceType}
use Rattle.jvm_values.specs.declared.typing.PlaceType.TheVariants as places
use Rattle.jvm_values.specs.States.{PlaceTypes}
use Rattle.jvm_values.specs.TypedHeaps.{WorldTypes}
use Rattle.frame_types.specs.declared.merges.Coming.{Coming}
use Rattle.frame_types.specs.declared.merges.Coming.TheVariants as comings
use Rattle.frame_types.specs.Places.{IsWithin, IsFrameWithin, IsOfWorld, IsSet, IsProper}

-- the join of two types of a place: a type of the world that is as wide as both, and the least such one
pub record IsPlaceJoin (types : WorldTypes) (a b join : PlaceType) : Type 0 where
  pub left : IsWithin types a join
  pub right : IsWithin types b join
  pub of_world : IsOfWorld types join
  pub least : (top : PlaceType) → IsOfWorld types top → IsWithin types a top → IsWithin types b top → IsWithin types join top

-- the first `count` places of a list have the joins of the types in two lists; its other places are those of the
-- first list
pub record AreJoinsBelow (types : WorldTypes) (count : ℕ) (old more new : List PlaceType) : Type 0 where
  pub long : length new ≡ length old
  pub joins : (k : ℕ) → k < count → IsPlaceJoin types (slice_index_or old k places.Unset) (slice_index_or more k places.Unset)
      (slice_index_or new k places.Unset)
  pub others : (k : ℕ) → count ≤ k → slice_index_or new k places.Unset ≡ slice_index_or old k places.Unset

-- every place of a list has the join of the types in two lists
abbrev pub AreJoins : WorldTypes → List PlaceType → List PlaceType → List PlaceType → Type 0
AreJoins types old more new = AreJoinsBelow types (length old) old more new

-- two lists of types have no join: no set types of the world are as wide as both
abbrev pub AreApart : WorldTypes → List PlaceType → List PlaceType → Type 0
AreApart types old more = (top : List PlaceType) → All IsSet top → All (IsOfWorld types) top → AllZip (IsWithin types) old top
    → AllZip (IsWithin types) more top → ⊥

-- the join of two frames: the least proper frame that is as wide as both
pub record IsFrameJoin (types : WorldTypes) (max_locals : ℕ) (old more new : PlaceTypes) : Type 0 where
  pub proper : IsProper types max_locals new
  pub left : IsFrameWithin types old new
  pub right : IsFrameWithin types more new
  pub least : (top : PlaceTypes) → IsProper types max_locals top → IsFrameWithin types old top → IsFrameWithin types more top
      → IsFrameWithin types new top

-- two frames have no join: no proper frame is as wide as both
abbrev pub AreFramesApart : WorldTypes → ℕ → PlaceTypes → PlaceTypes → Type 0
AreFramesApart types max_locals old more = (top : PlaceTypes) → IsProper types max_locals top → IsFrameWithin types old top
    → IsFrameWithin types more top → ⊥

-- what a frame becomes where another comes, by what the call answers: it grows exactly where it is not as before
abbrev pub IsMergedAs : WorldTypes → ℕ → PlaceTypes → PlaceTypes → PlaceTypes → Coming → Type 0
IsMergedAs types max_locals old more new comings.Same = IsFrameJoin types max_locals old more new × (new ≡ old)
IsMergedAs types max_locals old more new comings.Grew = IsFrameJoin types max_locals old more new × (new ≡ old → ⊥)
IsMergedAs types max_locals old more new comings.Apart = AreFramesApart types max_locals old more
