use Rattle.std.proofs.Common.{true, ap, ◌∙◌, sym, ℕ, List}
use Rattle.abs_cells.specs.declared.cells.Cell.{Cell}
use Rattle.abs_cells.specs.Cells.{is_of_sort, cell_in}
use Rattle.abs_cells.proofs.Checking.{has_cell_from, has_cell_to}
use Rattle.abs_reach.proofs.Answering.{rising_of}
use Rattle.abs_reach.proofs.find.has_cell.Goals as goal

pub is_there-requires : goal.is_there-requires
is_there-requires g c = rising_of c.args.state.now c.requires c.cells.result.now c.cells.ensures

pub returns : goal.returns
returns g c =
    let same = c.is_there.ensures ∙ ap (λ (cs : List (ℕ × Cell)). is_of_sort (λ _. true) (cell_in cs c.args.id)) c.cells.ensures in (
      λ h. has_cell_from (λ _. true) c.args.state.now c.args.id (sym same ∙ h),
      λ k. same
          ∙ has_cell_to (λ _. true) c.args.state.now c.args.id k,
    )
