-- How the numbers of a sum are kept, so that all of them are put to 0 at once: each has the round in which it was
-- written, and counts only in that round.
use Rattle.std.specs.Prelude.{ℕ, zero, suc, ℤ, pos, negsuc, ◌≡◌, ◌<◌, ◌≤◌, ◌==◌, Bool, true, false, List, map, count_by, if◌then◌else◌}
use Rattle.std.specs.List.{All}
use Rattle.lin_core.specs.declared.sums.Cell.{Cell}
use Rattle.lin_core.specs.declared.sums.Scratch.TheInside.{Inside}
use Rattle.lin_core.specs.Sums.{Sum}

-- what a cell is worth in a round
abbrev pub worth_in : ℕ → Cell → ℤ
worth_in round cell = if cell.round == round then cell.value else pos 0

-- whether a number is not 0
abbrev pub is_nonzero : ℤ → Bool
is_nonzero (pos zero) = false
is_nonzero (pos (suc n)) = true
is_nonzero (negsuc n) = true

-- the coefficients that the cells hold in a round, one for each variable
abbrev pub coefficients_of : List Cell → ℕ → List ℤ
coefficients_of cells round = map (worth_in round) cells

-- the sum that is kept in the cells: the coefficients of the present round, and the constant
abbrev pub sum_of_cells : Inside → Sum
sum_of_cells inside = record { coefficients = coefficients_of inside.cells.items inside.round; constant = inside.constant }

-- no cell is of a later round, and the coefficients that are not 0 are counted
pub record IsCounted (inside : Inside) : Type 0 where
  pub rounds : All (λ (cell : Cell). cell.round ≤ inside.round) inside.cells.items
  pub counted : inside.nonzero ≡ count_by is_nonzero (coefficients_of inside.cells.items inside.round)

-- every cell is of this round at the latest
abbrev pub AllUpTo : ℕ → List Cell → Type 0
AllUpTo round cells = All (λ (cell : Cell). cell.round ≤ round) cells

-- every cell is of an earlier round
abbrev pub AllBelow : ℕ → List Cell → Type 0
AllBelow round cells = All (λ (cell : Cell). cell.round < round) cells
