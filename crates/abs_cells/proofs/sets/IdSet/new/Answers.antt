use Rattle.std.proofs.Common.{refl, replicate}
use Rattle.abs_cells.proofs.BitLaws.{no_bit}
use Rattle.abs_cells.proofs.sets.IdSet.new.Goals as goal

pub returns : goal.returns
returns c n = no_bit (replicate 32 0) n refl
