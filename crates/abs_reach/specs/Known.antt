-- What known cells lead to from the ids of a set.
use Rattle.std.specs.Prelude.{◌≡◌, ℕ, true, List}
use Rattle.abs_cells.specs.AbstractStates.{AbstractState}
use Rattle.abs_cells.specs.IdSets.{has_id}
use Rattle.abs_cells.specs.Cells.{HasCell}
use Rattle.abs_cells.specs.Closures.{KnownFrom, MayMeet, MayBeIn}

-- an id is in the closure of a set of ids: known cells lead to it from some id of the set that has a cell
pub record IsKnownFromSome (state : AbstractState) (set : List ℕ) (y : ℕ) : Type 0 where
  pub x : ℕ
  pub is_in : has_id set x ≡ true
  pub there : HasCell (λ _. true) state x
  pub from_x : KnownFrom state x y

-- the region of an id may meet that of some id of a set that has a cell
pub record MayMeetSome (state : AbstractState) (x : ℕ) (set : List ℕ) : Type 0 where
  pub y : ℕ
  pub is_in : has_id set y ≡ true
  pub there : HasCell (λ _. true) state y
  pub may_meet : MayMeet state x y

-- the object of some id of a set may lie in the region of another id
pub record SomeMayBeIn (state : AbstractState) (set : List ℕ) (x : ℕ) : Type 0 where
  pub k : ℕ
  pub is_in : has_id set k ≡ true
  pub may_be_in : MayBeIn state k x

-- the object of an id may lie in the region of some id of a set that has a cell
pub record MayBeInSome (state : AbstractState) (k : ℕ) (set : List ℕ) : Type 0 where
  pub y : ℕ
  pub is_in : has_id set y ≡ true
  pub there : HasCell (λ _. true) state y
  pub may_be_in : MayBeIn state k y
