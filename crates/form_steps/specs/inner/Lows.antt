-- Words of private calls: what the laws of low crates give, in the form in which steps ask for them.
use Rattle.std.specs.Prelude.{ℕ, true, [], ◌∷◌, IsTrue}
use Rattle.jvm_values.specs.declared.heap.Value.{Value}
use Rattle.jvm_values.specs.States.{MachineState}
use Rattle.jvm_values.specs.TypedHeaps.{WorldTypes}
use Rattle.jvm_values.specs.declared.types.Ty.{Ty}
use Rattle.jvm_values.specs.Subtyping.{class_type, IsErased}
use Rattle.jvm_values.specs.Writes.{IntWritesKeep, NumberWritesKeep}
use Rattle.abs_cells.specs.declared.cells.Cell.{Cell}
use Rattle.abs_cells.specs.declared.cells.Cell.TheVariants as cells
use Rattle.abs_cells.specs.AbstractStates.{AbstractState}
use Rattle.abs_cells.specs.Cells.{HasCell, AreEqual, Share}
use Rattle.abs_cells.specs.Sound.{IsWellFormed}
use Rattle.abs_cells.specs.Fits.{Meaning, Describes, Fits}
use Rattle.abs_cells.specs.Patterns.{IsSized}
use Rattle.abs_expand.specs.AbsReachReached.{IsDropped}
use Rattle.abs_heap.specs.Given.{IsGiven, AreFresh, with_cells}
use Rattle.abs_heap.specs.Laws.{GoesWith, NullSplits, ClassesSplit, EqualSplits, WritesGoOn, ObjectsGoOn, ArraysGoOn, ItemsGoOn}
use Rattle.abs_heap.specs.Laws.{IntWritesGoOn, NumberWritesGoOn}
use Rattle.abs_expand.specs.ClassWorldBuiltIns.{throwable}
use Rattle.abs_expand.specs.ClassWorldWorldTypes.{types_of}
use Rattle.abs_expand.specs.ClassProgramPrograms.{Program}

-- a cell is that of an int or of null, which names no ids
abbrev pub IsPlainCell : Cell → Type 0
IsPlainCell (cells.Int interval) = Unit {0}
IsPlainCell cells.Null = Unit {0}
IsPlainCell _ = ⊥

-- What fits a state fits one that has a fresh id of an int or of null besides: the id stands for a value that its cell describes, and the
-- other ids for what they stood for.
abbrev pub FreshIdsGoOn : Type 0
FreshIdsGoOn =
    (types : WorldTypes) (state child : AbstractState) (machine : MachineState) (meaning : Meaning) (id : ℕ) (cell : Cell) (value : Value)
    → IsWellFormed state → Fits types state machine meaning → IsPlainCell cell → Describes types machine.heap meaning cell value
    → AreFresh state (id ∷ []) → IsGiven state.frames state.throwing (with_cells ((id, cell) ∷ []) state) (AreEqual state)
    (Share state) child
    → GoesWith types state machine meaning child machine id value

-- An id that is sized after ids are dropped was sized before.
abbrev pub DroppedKeepSized : Type 0
DroppedKeepSized = (whole part : AbstractState) (id : ℕ) → IsDropped whole part → HasCell (λ _. true) part id → IsSized part id
    → IsSized whole id

-- the laws of heaps and of dropping ids that the steps of all instructions rest on
pub record Lows : Type 0 where
  pub null : NullSplits
  pub classes : ClassesSplit
  pub equal : EqualSplits
  pub writes : WritesGoOn
  pub fresh : FreshIdsGoOn
  pub objects : ObjectsGoOn
  pub arrays : ArraysGoOn
  pub items : ItemsGoOn
  pub int_writes : IntWritesGoOn
  pub ints_keep : IntWritesKeep
  pub number_writes : NumberWritesGoOn
  pub numbers_keep : NumberWritesKeep
  pub drop : DroppedKeepSized

-- each type below Throwable is its own erasure: it is no interface, and no array of interfaces
abbrev pub AreThrowablesErased : Program → Type 0
AreThrowablesErased p = (t : Ty) → IsTrue ((types_of p.world).sub t (class_type throwable)) → IsErased (types_of p.world).erase t
