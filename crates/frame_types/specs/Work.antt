-- The work that is left where types grow: what grows comes to an end.
use Rattle.std.specs.Prelude.{ℕ, zero, suc, ◌+◌, ◌*◌, Bool, if◌then◌else◌, Option, Some, None}
use Rattle.jvm_values.specs.States.{PlaceTypes}
use Rattle.jvm_values.specs.TypedHeaps.{WorldTypes}
use Rattle.frame_types.specs.declared.table.Table.{Table}
use Rattle.frame_types.specs.Tables.{types_at}
use Rattle.frame_types.specs.Growth.{waits}
use Rattle.frame_types.specs.Heights.{ranks, most}

-- how far a place of a code is from the widest types, in a method with so many locals and stack entries
abbrev pub way_up : WorldTypes → ℕ → ℕ → Option PlaceTypes → ℕ
way_up types max_locals max_stack None = most types max_locals + most types max_stack + 1
way_up types max_locals max_stack (Some frame) = ranks types frame.locals + ranks types frame.stack

-- what a function gives for each number below a bound, added up
abbrev pub sum_below : ℕ → (ℕ → ℕ) → ℕ
sum_below zero f = 0
sum_below (suc n) f = f n + sum_below n f

-- a place that waits counts as one look that is still to be taken
abbrev pub mark : Bool → ℕ
mark waiting = if waiting then 1 else 0

-- the looks that are left at a place: twice as often as it can still grow, and one more where it waits
abbrev pub work_at : WorldTypes → Table → ℕ → ℕ
work_at types table place = 2 * way_up types table.max_locals table.max_stack (types_at table.types place) + mark
    (waits table.waiting place)

-- the work that is left in a table: each look at a waiting place takes some of it
unfoldable pub work_left : WorldTypes → Table → ℕ
work_left types table = sum_below 65536 (work_at types table)
