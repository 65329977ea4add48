use Rattle.abs_cells.proofs.BitLaws.{with_bit}
use Rattle.abs_cells.proofs.sets.with_bit.Goals as goal

pub returns : goal.returns
returns c n = with_bit c.args.word c.args.bit n c.requires
