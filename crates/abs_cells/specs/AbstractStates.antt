-- Abstract states as lists.
use Rattle.std.specs.Prelude.{ℕ, List, Option}
use Rattle.abs_cells.specs.declared.cells.Cell.{Cell}

-- a frame of an abstract state, whose places hold ids in the place of values: the method's number, the place of its
-- instruction, its locals (a local that is unset has no id), and its operand stack from the top down
pub record AbstractFrame : Type 0 where
  pub method : ℕ
  pub pc : ℕ
  pub locals : List (Option ℕ)
  pub stack : List ℕ

-- an abstract state: its frames, the running call's first, the id of the thrown object if one is thrown, a cell for each
-- id, the pairs of ids that may stand for one object, and the pairs of ids whose regions may share objects
pub record AbstractState : Type 0 where
  pub frames : List AbstractFrame
  pub throwing : Option ℕ
  pub cells : List (ℕ × Cell)
  pub eq : List (ℕ × ℕ)
  pub share : List (ℕ × ℕ)
