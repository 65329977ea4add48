use Rattle.std.proofs.Common.{◌∙◌, ap, List, ℕ}
use Rattle.std.specs.List.{list_all}
use Rattle.abs_cells.specs.declared.cells.Cell.{Cell}
use Rattle.abs_cells.specs.IdSets.{has_id}
use Rattle.abs_cells.specs.Cells.{ids_in}
use Rattle.abs_cells.proofs.Checking.{in_used, not_in_used}
use Rattle.abs_cells.proofs.checks.has_used.Goals as goal

pub returns-then-has_places : goal.returns-then-has_places
returns-then-has_places g c = in_used c.args.set.now c.args.state.now c.has_places.result c.has_cells.result c.if-has_places.true
    c.has_places.ensures (c.has_cells.ensures
    ∙ ap (λ (cells : List (ℕ × Cell)). list_all (λ x. list_all (has_id c.args.set.now) (ids_in x.1)) cells) c.cells.ensures)

pub returns-else-has_places : goal.returns-else-has_places
returns-else-has_places g c = not_in_used c.args.set.now c.args.state.now c.has_places.result c.if-has_places.false c.has_places.ensures
