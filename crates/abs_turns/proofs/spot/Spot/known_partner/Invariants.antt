use Rattle.std.proofs.Common.{◌≡◌, ◌&&◌, ℕ, map, drop}
use Rattle.std.specs.List.{find}
use Rattle.abs_cells.specs.declared.cells.Cell.{Cell}
use Rattle.abs_cells.specs.Cells.{is_known, is_of_sort, cell_at}
use Rattle.abs_cells.specs.PairLists.{has}
use Rattle.abs_turns.specs.Needs.{known_partner}
use Rattle.abs_turns.proofs.spot.Spot.known_partner.Given as goal

abbrev pub invariant-loop-other : goal.invariant-loop-other
invariant-loop-other g l = find (λ (other : ℕ). is_of_sort is_known (cell_at l.self.state other) && has l.id other l.self.state.eq)
    (map (λ (c : ℕ × Cell). c.0) (drop l.other-index l.cells)) ≡ known_partner l.self.state l.id
