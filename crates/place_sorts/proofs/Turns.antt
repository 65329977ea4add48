-- Steps of a state that keep what graphs grow from: their cells are sound, their frames stand as the typing says, and
-- wait for those above them.
use Rattle.std.proofs.Common.{◌≡◌, ◌∙◌, ◌<◌, ℕ, Bool, true, false, List, [], Option, Some, None, slice_get}
use Rattle.std.proofs.Common.{sym, ap}
use Rattle.std.specs.List.{AllByRecursion}
use Rattle.std.specs.Prelude.{IsTrue}
use Rattle.lin_core.specs.Intervals.{Bounds}
use Rattle.jvm_values.specs.declared.types.Slot.{Slot}
use Rattle.jvm_values.specs.declared.types.Slot.TheVariants as slots
use Rattle.jvm_values.specs.declared.types.Kind.{Kind}
use Rattle.jvm_values.specs.declared.types.Ty.{Ty}
use Rattle.jvm_values.specs.Subtyping.{IsReference, IsErased}
use Rattle.jvm_values.specs.TypedHeaps.{WorldTypes}
use Rattle.jvm_values.proofs.Options.{some_is}
use Rattle.abs_cells.specs.declared.cells.Cell.{Cell}
use Rattle.abs_cells.specs.declared.cells.Cell.TheVariants as cells
use Rattle.abs_cells.specs.AbstractStates.{AbstractFrame, AbstractState}
use Rattle.abs_cells.specs.Cells.{is_int, cell_at, HasCell}
use Rattle.abs_cells.specs.Sound.{is_object, IsSoundCell}
use Rattle.abs_reach.specs.Instances.{is_no_int}
use Rattle.abs_turns.specs.Plans.{Act, nothing, makes, writes, item, object, array, Goal}
use Rattle.abs_turns.specs.Plans.{in_field, is_thrown, Turn, Plan, ends, steps, by_null, by_class, by_equal}
use Rattle.class_world.specs.WorldTypes.{types_of}
use Rattle.class_program.specs.Programs.{Program}
use Rattle.frame_types.specs.Tables.{CodeTypes}
use Rattle.abs_expand.specs.BadStates.{ArePlaced}
use Rattle.abs_expand.specs.inner.Making.{frames_to, thrown_to}
use Rattle.place_sorts.specs.Laws.{HasIntEnds}
use Rattle.place_sorts.specs.Growing.{WaitBelow}
use Rattle.place_sorts.proofs.Keeping.{KeepsSorts}

-- an id is an int, or is none
abbrev pub IsOfSort : Bool → AbstractState → ℕ → Type 0
IsOfSort true after id = HasCell is_int after id
IsOfSort false after id = HasCell is_no_int after id

-- an id that an act makes, by the act
abbrev pub IsMade : Act → AbstractState → ℕ → Type 0
IsMade nothing after id = Unit {0}
IsMade (makes cell) after id = IsOfSort (is_int cell) after id
IsMade (writes write) after id = Unit {0}
IsMade (item k) after id = HasCell is_no_int after id
IsMade (object class) after id = HasCell is_no_int after id
IsMade (array slot len) after id = HasCell is_no_int after id

-- an array may have items of it
abbrev pub IsItem : WorldTypes → Slot → Type 0
IsItem types (slots.Num kind) = Unit {0}
IsItem types (slots.Ref t) = IsReference types.classes t × (t.dims < 255)

module _ (types : WorldTypes) (state : AbstractState) where
  -- an id keeps its sort, and its cell says what is of the world, in each state whose ids keep theirs
  pub record IsSoundChange (c : ℕ × Cell) : Type 0 where
    pub sort : (old : Cell) → cell_at state c.0 ≡ Some old → is_int old ≡ is_int c.1
    pub sound : (after : AbstractState) → KeepsSorts state after → IsSoundCell types after c.1

  abbrev pub AreSoundChanges : List (ℕ × Cell) → Type 0
  AreSoundChanges = AllByRecursion IsSoundChange

  -- a field of an instance is an int, or a reference
  abbrev pub IsIntField : ℕ → ℕ → Type 0
  IsIntField k place = (class : ℕ) (ids : List ℕ) → cell_at state k ≡ Some (cells.Obj class ids) → (kind : Kind)
      × (slice_get (types.fields class) place ≡ Some (slots.Num kind))

  abbrev pub IsReferenceField : ℕ → ℕ → Type 0
  IsReferenceField k place = (class : ℕ) (ids : List ℕ) → cell_at state k ≡ Some (cells.Obj class ids) → (t : Ty)
      × (slice_get (types.fields class) place ≡ Some (slots.Ref t))

  -- a fresh id may go to a goal: what is thrown is an object, and what goes into a field is an int
  abbrev pub FitsGoal : List (ℕ × Cell) → Cell → Goal → Type 0
  FitsGoal changed cell is_thrown = is_object cell ≡ true
  FitsGoal changed cell (in_field k place) = (changed ≡ []) × ((is_int cell ≡ true) × IsIntField k place)
  FitsGoal changed cell _ = Unit {0}

  -- what is written into a field is a reference
  abbrev pub IsSoundWrite : List (ℕ × Cell) → ℕ → ℕ → Option ℕ → Type 0
  IsSoundWrite changed k value None = Unit {0}
  IsSoundWrite changed k value (Some place) = (changed ≡ []) × (HasCell is_no_int state value × IsReferenceField k place)

  abbrev pub IsSoundAct : List (ℕ × Cell) → Act → Goal → Type 0
  IsSoundAct changed nothing goal = Unit {0}
  IsSoundAct changed (makes cell) goal = ((after : AbstractState) → KeepsSorts state after → IsSoundCell types after cell)
      × FitsGoal changed cell goal
  IsSoundAct changed (writes write) goal = IsSoundWrite changed write.object write.value write.field
  IsSoundAct changed (item k) goal = Unit {0}
  IsSoundAct changed (object class) goal = IsTrue (types.can_be_made class)
  IsSoundAct changed (array slot len) goal = HasCell is_int state len × IsItem types slot

  -- an object is thrown, and nothing else is done
  pub record ThrowsOnly (turn : Turn) (x : ℕ) : Type 0 where
    pub object : HasCell is_object state x
    pub changed : turn.changed ≡ []
    pub act : turn.act ≡ nothing

module _ (p : Program) (typing : ℕ → CodeTypes) (state : AbstractState) where
  -- frames stand as the typing says, in each state whose ids keep their sorts and which has the id that is made
  abbrev pub Places : List AbstractFrame → Option ℕ → Act → Goal → Type 0
  Places frames throwing act goal =
      (after : AbstractState) (id : ℕ) → KeepsSorts state after → IsMade act after id → after.throwing ≡ thrown_to goal id throwing
      → ArePlaced p typing after (frames_to goal id frames)

  pub record IsGrowingTurn (turn : Turn) : Type 0 where
    pub changed : AreSoundChanges (types_of p.world) state turn.changed
    pub act : IsSoundAct (types_of p.world) state turn.changed turn.act turn.goal
    pub placed : Places turn.frames turn.throwing turn.act turn.goal
    pub waiting : WaitBelow p turn.frames
    pub framed : turn.frames ≡ [] → ⊥
    pub thrown : (x : ℕ) → turn.throwing ≡ Some x → ThrowsOnly (types_of p.world) state turn x

  abbrev pub IsGrowingPlan : Plan → Type 0
  IsGrowingPlan ends = Unit {0}
  IsGrowingPlan (steps turns) = AllByRecursion IsGrowingTurn turns
  IsGrowingPlan (by_null x) = Unit {0}
  IsGrowingPlan (by_class x wanted) = IsReference (types_of p.world).classes wanted × IsErased (types_of p.world).erase wanted
  IsGrowingPlan (by_equal x y) = Unit {0}

-- ---- changes of ints

pub int_change : (types : WorldTypes) (state : AbstractState) (x : ℕ) (interval : Bounds) → HasCell is_int state x
    → HasIntEnds interval → IsSoundChange types state (x, cells.Int interval)
int_change types state x interval h bounds = record {
  sort = λ old e. ap is_int (some_is (sym e ∙ h.is)) ∙ h.sort_is;
  sound = λ after keeps. bounds;
}
