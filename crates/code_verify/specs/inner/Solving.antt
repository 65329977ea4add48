-- Words of private calls: what holds of a method's table while it grows.
use Rattle.std.specs.Prelude.{◌≡◌, ◌≤◌, ◌<◌, ℕ, nat_lt, min, max, if◌then◌else◌, ◌⊎◌, List, Option, Some, All, IsTrue}
use Rattle.jvm_values.specs.States.{PlaceTypes}
use Rattle.class_program.specs.class_world.World.{World}
use Rattle.class_program.specs.class_world.WorldTypes.{types_of}
use Rattle.class_program.specs.declared.program.CatchRange.{CatchRange}
use Rattle.class_program.specs.declared.program.Method.{Method}
use Rattle.class_program.specs.Programs.{Program}
use Rattle.frame_types.specs.declared.table.Table.{Table}
use Rattle.frame_types.specs.Tables.{CodeTypes, Flow, Takes, IsAtMost, types_at}
use Rattle.frame_types.specs.Growth.{IsTable, waits}
use Rattle.code_verify.specs.declared.passed.Passed.{Passed}
use Rattle.code_verify.specs.declared.passed.Stretch.{Stretch}
use Rattle.code_verify.specs.Flows.{flows_from, caught, CanCatch, IsReachable}
use Rattle.code_verify.specs.Typings.{IsTyping, entry_flow}

-- types of a method take all that a place with these types leads to
pub record IsClosedAt (p : Program) (m : Method) (typing : CodeTypes) (place : ℕ) (frame : PlaceTypes) : Type 0 where
  pub flows : List Flow
  pub runs : flows_from p m place frame ≡ Some flows
  pub taken : All (Takes (types_of p.world) typing) flows

-- A method's table while the least typing is sought (JVM specification 4.10.2.2): it has what comes to the method's start,
-- and at most what each typing has; its places can be reached, and those that do not wait are closed.
pub record IsSolving (p : Program) (m : Method) (table : Table) : Type 0 where
  pub catches : All (CanCatch p.world) m.table
  pub is_table : IsTable (types_of p.world) table
  pub max_locals : table.max_locals ≡ m.max_locals
  pub max_stack : table.max_stack ≡ m.max_stack
  pub entry : Takes (types_of p.world) (types_at table.types) (entry_flow (types_of p.world) m)
  pub below : (other : CodeTypes) → IsTyping p m other → IsAtMost (types_of p.world) (types_at table.types) other
  pub reached : (place : ℕ) (frame : PlaceTypes) → types_at table.types place ≡ Some frame → IsReachable m place
  pub closed : (place : ℕ) (frame : PlaceTypes) → types_at table.types place ≡ Some frame → IsTrue (waits table.waiting place)
      ⊎ IsClosedAt p m (types_at table.types) place frame

-- Of the places around a place those that a range has, if it has that place, and else those that it has not, on the side of
-- the place.
abbrev pub narrowed : ℕ → CatchRange → Stretch → Stretch
narrowed place range around = if nat_lt place range.start then record { low = around.low; end = min around.end range.start } else
    (if nat_lt place range.end then record { low = max around.low range.start; end = min around.end range.end } else record
    { low = max around.low range.end; end = around.end })

-- The types take what comes from each of some places, where it has these locals, to the handlers of a table of ranges.
abbrev pub IsPassed : World → List CatchRange → CodeTypes → Passed → Type 0
IsPassed world ranges typing passed = (place : ℕ) (frame : PlaceTypes) → passed.places.low ≤ place → place < passed.places.end
    → frame.locals ≡ passed.locals → All (Takes (types_of world) typing) (caught world place frame ranges)
