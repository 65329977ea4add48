use Rattle.std.proofs.Common.{sym, ◌∙◌}
use Rattle.class_program.proofs.SlotLists.{slots_same}
use Rattle.class_program.proofs.slots.Slots.is_same.Goals as goal

pub returns : goal.returns
returns c = λ same. sym c.as_slice.ensures ∙ slots_same c.as_slice.result.now c.as_slice-2.result.now (sym c.eq.ensures ∙ same)
    ∙ c.as_slice-2.ensures
