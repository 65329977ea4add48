use Rattle.std.proofs.Common.{ℕ, List, ◌∙◌, ap, sym}
use Rattle.abs_cells.specs.declared.cells.Cell.{Cell}
use Rattle.abs_reach.specs.abs_sound.Zips.{all_zip}
use Rattle.abs_reach.specs.abs_sound.Tests.{is_of_slot}
use Rattle.abs_reach.proofs.Cells.{fields_from, fields_to}
use Rattle.abs_reach.proofs.abs_sound.sound.are_fields.Goals as goal

pub returns : goal.returns
returns g c =
    let same = c.are_of_slots.ensures ∙ ap (λ (cells : List (ℕ × Cell)). all_zip (is_of_slot cells) c.args.slots.now c.args.ids.now)
    c.cells.ensures in (
      λ h. fields_from c.args.state.now c.args.slots.now c.args.ids.now (sym same ∙ h),
      λ k. same
          ∙ fields_to c.args.state.now c.args.slots.now c.args.ids.now k,
    )
