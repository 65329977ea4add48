use Rattle.std.proofs.Common.{ap, arith}
use Rattle.jvm_values.specs.Subtyping.{array_of}
use Rattle.abs_cells.specs.Cells.{type_of_cell}
use Rattle.abs_widen.proofs.cells.type_of.Goals as goal

pub array_of-requires : goal.array_of-requires
array_of-requires c = let low = c.requires (array_of c.in-Refs.element) (ap type_of_cell c.in-Refs.is) in omega (arith, low)
