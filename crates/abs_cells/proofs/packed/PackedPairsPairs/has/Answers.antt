use Rattle.std.proofs.Common.{sym, ap, ◌∙◌}
use Rattle.abs_cells.specs.PairLists.{has}
use Rattle.abs_cells.proofs.PackedLaws.{packed_has_two}
use Rattle.abs_cells.proofs.packed.PackedPairsPairs.has.Goals as goal

pub returns : goal.returns
returns c = c.is_hit.ensures
    ∙ sym (packed_has_two c.self.inside.packed.slots.items c.self.inside.packed.words.items c.args.a c.args.b c.requires.differ)
    ∙ ap (has c.args.a c.args.b) c.self.view_is
