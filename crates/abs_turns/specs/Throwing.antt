-- What becomes of an abstract state whose running frame looks for a handler (JVM specification, section 2.10).
use Rattle.std.specs.Prelude.{ℕ, Bool, true, false, not, ◌&&◌, ◌||◌, if◌then◌else◌, List, [], ◌∷◌, filter, Option, Some, None}
use Rattle.std.specs.List.{find, list_any}
use Rattle.std.specs.Option.{option_map_or, is_none}
use Rattle.jvm_values.specs.declared.types.Ty.{Ty}
use Rattle.jvm_values.specs.declared.typing.PlaceType.TheVariants as places
use Rattle.jvm_values.specs.Subtyping.{class_type}
use Rattle.jvm_values.specs.TypedHeaps.{WorldTypes}
use Rattle.abs_cells.specs.AbstractStates.{AbstractFrame, AbstractState}
use Rattle.abs_cells.specs.Cells.{type_of_cell, cell_at}
use Rattle.jvm_step.specs.class_world.BuiltIns.{throwable}
use Rattle.jvm_step.specs.class_program.declared.program.CatchRange.{CatchRange}
use Rattle.code_verify.specs.Flows.{covers}
use Rattle.abs_turns.specs.Plans.{Plan, ends, steps, no_child}
use Rattle.abs_turns.specs.Needs.{Passing, passes, fails, splits, passing_id, is_unknown, split_below}
use Rattle.abs_turns.specs.Turns.{moves}

-- an entry of an exception table takes all objects of a type: it names no class, or the type is below its class (JVM specification 2.10)
abbrev pub takes_type : WorldTypes → Option Ty → CatchRange → Bool
takes_type types None range = is_none range.catch
takes_type types (Some t) range = option_map_or (λ (class : ℕ). types.sub t (class_type class)) range.catch true

-- the type of an id's cell, below which its object's class lies; none for an int, for null and for an id without a cell
abbrev pub thrown_type : AbstractState → ℕ → Option Ty
thrown_type state x = option_map_or type_of_cell (cell_at state x) None

-- an entry of an exception table takes each object that an id can stand for
abbrev pub takes : WorldTypes → AbstractState → ℕ → CatchRange → Bool
takes types state x range = takes_type types (thrown_type state x) range

-- the class of an entry is below the type that bounds an object, so that the entry takes some objects within that bound
abbrev pub is_below_bound : WorldTypes → Option Ty → CatchRange → Bool
is_below_bound types None range = false
is_below_bound types (Some t) range = option_map_or (λ (class : ℕ). types.sub (class_type class) t) range.catch false

-- an entry of an exception table takes some objects that an id of unknown class can stand for, and not all
abbrev pub may_take : WorldTypes → AbstractState → ℕ → CatchRange → Bool
may_take types state x range = is_unknown (cell_at state x)
    && (not (takes types state x range) && is_below_bound types (thrown_type state x) range)

-- the entries of an exception table before the first that takes the object; all of them, where none does
abbrev pub before_taker : WorldTypes → AbstractState → ℕ → List CatchRange → List CatchRange
before_taker types state x [] = []
before_taker types state x (range ∷ ranges) = if takes types state x range then [] else range ∷ before_taker types state x ranges

-- what a throw leads to: a handler begins with the object alone on the stack; where nothing in the frame takes the object the frame goes,
-- and the object is thrown in its caller, whose stack is emptied; with no caller left the run ends (JVM specification 2.10, 6.5.athrow)
abbrev pub handled : ℕ → AbstractFrame → List AbstractFrame → Option CatchRange → Plan
handled x frame below (Some range) = steps (moves (record frame { pc = range.handler; stack = x ∷ [] } ∷ below) ∷ [])
handled x frame [] None = ends
handled x frame (caller ∷ below) None = steps (record (moves (record caller { stack = [] } ∷ below)) { throwing = Some x } ∷ [])

-- it isn't known which entry takes an object of unknown class: one may take it before the first that takes it for sure, or none takes it
-- for sure
abbrev pub is_open : WorldTypes → AbstractState → ℕ → List CatchRange → Bool
is_open types state x ranges = is_unknown (cell_at state x)
    && (list_any (may_take types state x) (before_taker types state x ranges) || is_none (find (takes types state x) ranges))

-- the plan of a throw, by the entries that cover its place: the object is split by class where it isn't known which of them takes it,
-- else the throw leads on
abbrev pub caught_plan : WorldTypes → AbstractState → ℕ → AbstractFrame → List AbstractFrame → List CatchRange → Plan
caught_plan types state x frame below ranges =
    if is_open types state x ranges then split_below state x (places.Ref (class_type throwable))
    else handled x frame below (find (takes types state x) ranges)

-- a plan for an object that passes its test, and no child for one that doesn't
abbrev pub if_passes : Passing → Plan → Plan
if_passes passes plan = plan
if_passes fails plan = no_child
if_passes splits plan = no_child

-- the plan of a frame in which an object is thrown (JVM specification 2.10): one that can't be a Throwable has no child; else the entries
-- of the exception table that cover the place are looked at in their order
abbrev pub throwing_plan : WorldTypes → AbstractState → ℕ → AbstractFrame → List AbstractFrame → List CatchRange → Plan
throwing_plan types state x frame below table =
    if_passes (passing_id types state (places.Ref (class_type throwable)) x)
    (caught_plan types state x frame below (filter (covers frame.pc) table))
