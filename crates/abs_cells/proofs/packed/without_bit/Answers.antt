use Rattle.abs_cells.proofs.BitLaws.{without_bit}
use Rattle.abs_cells.proofs.packed.without_bit.Goals as goal

pub returns : goal.returns
returns c n l = without_bit c.args.word c.args.bit n c.requires l
