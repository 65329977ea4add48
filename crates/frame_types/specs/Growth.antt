-- How the types at the places of a code grow until they take all that comes.
use Rattle.std.specs.Prelude.{◌≡◌, ℕ, ◌<◌, ◌≤◌, ◌⊎◌, nat_eq, Bool, false, List, length, slice_index_or, Option, Some, All, IsTrue}
use Rattle.std.specs.List.{list_any}
use Rattle.jvm_values.specs.States.{PlaceTypes}
use Rattle.jvm_values.specs.TypedHeaps.{WorldTypes}
use Rattle.frame_types.specs.declared.merges.Coming.{Coming}
use Rattle.frame_types.specs.declared.merges.Coming.TheVariants as comings
use Rattle.frame_types.specs.declared.table.Table.{Table}
use Rattle.frame_types.specs.Places.{IsFrameWithin, IsProper, IsFrame}
use Rattle.frame_types.specs.Tables.{CodeTypes, Flow, Takes, IsAtMost, types_at}

-- ---- one place

-- What is at a place after a frame came there: the least proper frame that is as wide as both.
pub record IsMerged (types : WorldTypes) (max_locals : ℕ) (old : Option PlaceTypes) (more new : PlaceTypes) : Type 0 where
  pub proper : IsProper types max_locals new
  pub left : (frame : PlaceTypes) → old ≡ Some frame → IsFrameWithin types frame new
  pub right : IsFrameWithin types more new
  pub least : (top : PlaceTypes) → IsProper types max_locals top
      → ((frame : PlaceTypes) → old ≡ Some frame → IsFrameWithin types frame top) → IsFrameWithin types more top
      → IsFrameWithin types new top

-- what comes to a place cannot be joined to what is there: no proper frame is as wide as both
abbrev pub IsApart : WorldTypes → ℕ → Option PlaceTypes → PlaceTypes → Type 0
IsApart types max_locals old more = (top : PlaceTypes) → IsProper types max_locals top
    → ((frame : PlaceTypes) → old ≡ Some frame → IsFrameWithin types frame top) → IsFrameWithin types more top → ⊥

-- what an entry becomes where a frame comes, by what the call answers: it grows exactly where it is not as before
abbrev pub IsComing : WorldTypes → ℕ → Option PlaceTypes → PlaceTypes → Option PlaceTypes → Coming → Type 0
IsComing types max_locals old more new comings.Same = (frame : PlaceTypes)
    × ((new ≡ Some frame) × IsMerged types max_locals old more frame × (new ≡ old))
IsComing types max_locals old more new comings.Grew = (frame : PlaceTypes)
    × ((new ≡ Some frame) × IsMerged types max_locals old more frame × (new ≡ old → ⊥))
IsComing types max_locals old more new comings.Apart = IsApart types max_locals old more

-- ---- tables

-- a place of a code waits to be looked at, since its types have grown since it was looked at last
abbrev pub waits : List Bool → ℕ → Bool
waits waiting place = slice_index_or waiting place false

-- what holds of every table: each place has its mark, there are no more places than a code has, no place below the lowest one
-- waits, and the frames are frames of the method
pub record IsTable (types : WorldTypes) (table : Table) : Type 0 where
  pub even : length table.waiting ≡ length table.types
  pub small : length table.types ≤ 65536
  pub done : (place : ℕ) → place < table.low → waits table.waiting place ≡ false
  pub frames : (place : ℕ) (frame : PlaceTypes) → types_at table.types place ≡ Some frame
      → IsFrame types table.max_locals table.max_stack frame

-- a typing gives only frames of the table's method, within its locals and its stack
abbrev pub AreFrames : WorldTypes → Table → CodeTypes → Type 0
AreFrames types table typing = (place : ℕ) (frame : PlaceTypes) → typing place ≡ Some frame
    → IsFrame types table.max_locals table.max_stack frame

-- one of the flows leads to a place
abbrev pub is_led_to : List Flow → ℕ → Bool
is_led_to flows place = list_any (λ flow. nat_eq place flow.to) flows

-- The new table has what the old one had and takes the flows too, and is the least that does. What has changed waits, and
-- nothing else begins to.
pub record IsGrown (types : WorldTypes) (flows : List Flow) (old new : Table) : Type 0 where
  pub table : IsTable types new
  pub max_locals : new.max_locals ≡ old.max_locals
  pub max_stack : new.max_stack ≡ old.max_stack
  pub kept : IsAtMost types (types_at old.types) (types_at new.types)
  pub taken : All (Takes types (types_at new.types)) flows
  pub least : (other : CodeTypes) → AreFrames types old other → IsAtMost types (types_at old.types) other
      → All (Takes types other) flows → IsAtMost types (types_at new.types) other
  pub places : (place : ℕ) (frame : PlaceTypes) → types_at new.types place ≡ Some frame
      → ((before : PlaceTypes) × (types_at old.types place ≡ Some before)) ⊎ IsTrue (is_led_to flows place)
  pub changes : (place : ℕ) → (types_at new.types place ≡ types_at old.types place) ⊎ IsTrue (waits new.waiting place)
  pub still : (place : ℕ) → IsTrue (waits old.waiting place) → IsTrue (waits new.waiting place)
  pub begun : (place : ℕ) → IsTrue (waits new.waiting place) → IsTrue (waits old.waiting place)
      ⊎ (types_at new.types place ≡ types_at old.types place → ⊥)

-- a table cannot grow to take some flows: no typing by frames of the method has all that the table has and takes them
abbrev pub AreRefused : WorldTypes → List Flow → Table → Type 0
AreRefused types flows table = (other : CodeTypes) → AreFrames types table other → IsAtMost types (types_at table.types) other
    → All (Takes types other) flows → ⊥

-- a table with the same types, marks and limits as another, in which there may be more places without types
pub record IsRoomier (old new : Table) : Type 0 where
  pub even : length new.waiting ≡ length new.types
  pub small : length new.types ≤ 65536
  pub same : (place : ℕ) → types_at new.types place ≡ types_at old.types place
  pub marks : (place : ℕ) → waits new.waiting place ≡ waits old.waiting place
  pub low : new.low ≡ old.low
  pub max_locals : new.max_locals ≡ old.max_locals
  pub max_stack : new.max_stack ≡ old.max_stack
