-- Words of private calls: the trail of a walk, how a walk begins, and what one turn of it changes.
use Rattle.std.specs.Prelude.{◌≡◌, ℕ, ◌+◌, ◌<◌, ◌≤◌, Bool, true, false, not, ◌==◌, ◌||◌, ◌⊎◌, List, [], ◌∷◌, length, cond}
use Rattle.abs_cells.specs.declared.cells.Cell.{Cell}
use Rattle.abs_cells.specs.IdSets.{has_id}
use Rattle.abs_cells.specs.Cells.{is_of_sort, cell_in}
use Rattle.abs_reach.specs.declared.walk.Found.{Found}
use Rattle.abs_reach.specs.inner.Steps.{IsIn}

-- ---- the trail: places with the numbers of their next steps, the top first

-- a place stands on the trail
abbrev pub IsOpen : List (ℕ × ℕ) → ℕ → Type 0
IsOpen [] a = ⊥
IsOpen (e ∷ trail) a = (e.0 ≡ a) ⊎ IsOpen trail a

-- a step of a place that stands on the trail was gone
abbrev pub IsPassed : List (ℕ × ℕ) → ℕ → ℕ → Type 0
IsPassed [] a i = ⊥
IsPassed (e ∷ trail) a i = ((e.0 ≡ a) × (i < e.1)) ⊎ IsPassed trail a i

-- no place stands on the trail twice
abbrev pub AreApart : List (ℕ × ℕ) → Type 0
AreApart [] = Unit {0}
AreApart (e ∷ trail) = (IsOpen trail e.0 → ⊥) × AreApart trail

-- the sum of a weight over the cells whose ids a walk has not met
abbrev pub still : (Cell → ℕ) → List (ℕ × Cell) → List ℕ → ℕ
still weight [] met = 0
still weight (c ∷ cells) met = cond (has_id met c.0) 0 (weight c.1) + still weight cells met

-- the weight 1 of every cell, by which cells are counted
abbrev pub one : Cell → ℕ
one cell = 1

-- a walk begins: exactly the ids that it met stand on the trail, each once; no step was gone, nothing was left, and no
-- cycle or second path was found; and the trail's places and the cells that were not met are together at most all cells
pub record IsBegun (cells : List (ℕ × Cell)) (found : Found) (trail : List (ℕ × ℕ)) : Type 0 where
  pub on : (a : ℕ) → IsIn found.met a → IsOpen trail a
  pub met : (a : ℕ) → IsOpen trail a → IsIn found.met a
  pub apart : AreApart trail
  pub fresh : (a i : ℕ) → IsPassed trail a i → ⊥
  pub there : (a : ℕ) → IsIn found.met a → is_of_sort (λ _. true) (cell_in cells a) ≡ true
  pub left : (n : ℕ) → has_id found.left n ≡ false
  pub cyclic : found.cyclic ≡ false
  pub twice : found.twice ≡ false
  pub room : length trail + still one cells found.met ≤ length cells

-- ---- one turn

-- a set is another one with one number more
abbrev pub IsWith : List ℕ → List ℕ → ℕ → Type 0
IsWith now set c = (n : ℕ) → has_id now n ≡ ((n == c) || has_id set n)

-- a walk comes back from an id, which it has left from then on
pub record Leaves (old new : Found) (id : ℕ) : Type 0 where
  pub met : new.met ≡ old.met
  pub left : IsWith new.left old.left id
  pub cyclic : new.cyclic ≡ old.cyclic
  pub twice : new.twice ≡ old.twice

-- a walk comes to an id that it met before: a cycle if it has not left the id, and a second path to it if it counts
pub record Meets (old new : Found) (id : ℕ) (counts : Bool) : Type 0 where
  pub met : new.met ≡ old.met
  pub left : new.left ≡ old.left
  pub cyclic : new.cyclic ≡ (old.cyclic || not (has_id old.left id))
  pub twice : new.twice ≡ (old.twice || counts)

-- a walk comes to an id that it had not met
pub record Enters (old new : Found) (id : ℕ) : Type 0 where
  pub met : IsWith new.met old.met id
  pub left : new.left ≡ old.left
  pub cyclic : new.cyclic ≡ old.cyclic
  pub twice : new.twice ≡ old.twice
