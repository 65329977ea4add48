use Rattle.std.proofs.Common.{ℕ, List, ◌∙◌, ap, sym}
use Rattle.abs_cells.specs.declared.cells.Cell.{Cell}
use Rattle.abs_cells.specs.Cells.{is_of_sort, cell_in}
use Rattle.abs_cells.specs.Sound.{is_object}
use Rattle.abs_cells.proofs.Checking.{has_cell_from, has_cell_to}
use Rattle.abs_reach.proofs.abs_sound.sound.has_object.Goals as goal

pub returns : goal.returns
returns g c =
    let same = c.is_object_in.ensures ∙ ap (λ (cells : List (ℕ × Cell)). is_of_sort is_object (cell_in cells c.args.id)) c.cells.ensures in (
      λ h. has_cell_from is_object c.args.state.now c.args.id (sym same ∙ h),
      λ k. same
          ∙ has_cell_to is_object c.args.state.now c.args.id k,
    )
