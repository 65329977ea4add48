-- What becomes of an abstract state, as data: which cases it is split into, or what each of its steps does.
use Rattle.std.specs.Prelude.{ℕ, ◌+◌, List, [], length, Option}
use Rattle.jvm_values.specs.declared.types.Ty.{Ty}
use Rattle.jvm_values.specs.declared.types.Slot.{Slot}
use Rattle.jvm_values.specs.TypedHeaps.{WorldTypes}
use Rattle.abs_cells.specs.declared.cells.Cell.{Cell}
use Rattle.abs_cells.specs.AbstractStates.{AbstractFrame}
use Rattle.abs_heap.specs.term_graph.declared.links.LinkRow.{LinkRow}
use Rattle.abs_heap.specs.Writing.{Write}

-- what a step does to the ids of an abstract state and to its pairs: nothing; a fresh id has a cell; a reference is written; a fresh id
-- stands for an item of an array of references, for a new instance of a class, or for a new array whose length is the int of an id
pub data Act : Type 0 where
  nothing : Act
  makes : Cell → Act
  writes : Write → Act
  item : ℕ → Act
  object : ℕ → Act
  array : Slot → ℕ → Act

-- where the fresh id of a step goes: nowhere; on top of the running frame's stack; into a local of that frame; into a local of the bottom
-- frame, where the ids of the static fields follow the locals; into a field of a known id; or it is the id that is thrown
pub data Goal : Type 0 where
  nowhere : Goal
  on_stack : Goal
  in_local : ℕ → Goal
  in_bottom : ℕ → Goal
  in_field : ℕ → ℕ → Goal
  is_thrown : Goal

-- one step of an abstract state, which leads to one child: the ids whose cells become others, as ints that are narrowed; the frames and
-- the thrown id after the step; what it does to ids; where the fresh id goes; and the rows of the child's link, by the fresh id
pub record Turn : Type 0 where
  pub changed : List (ℕ × Cell)
  pub frames : List AbstractFrame
  pub throwing : Option ℕ
  pub act : Act
  pub goal : Goal
  pub rows : ℕ → List LinkRow

-- what becomes of an abstract state: the run ends with the next step of the machine; or there is a child for each of these steps, in
-- their order; or the state is split while the machine makes no step, by whether an id is null, by whether an object is of one class or
-- another, or by whether two ids are one object
pub data Plan : Type 0 where
  ends : Plan
  steps : List Turn → Plan
  by_null : ℕ → Plan
  by_class : ℕ → Ty → Plan
  by_equal : ℕ → ℕ → Plan

-- the plan without a child: no state of the machine fits an abstract state that has it
abbrev pub no_child : Plan
no_child = steps []

-- how many ids an act makes: an instance has one for itself and one for each of its class's fields
abbrev pub ids_made : WorldTypes → Act → ℕ
ids_made types nothing = 0
ids_made types (makes cell) = 1
ids_made types (writes write) = 0
ids_made types (item k) = 1
ids_made types (object class) = 1 + length (types.fields class)
ids_made types (array slot len) = 1

-- the rows of a link that says nothing of ints, whatever the fresh id is
abbrev pub no_rows : ℕ → List LinkRow
no_rows id = []
