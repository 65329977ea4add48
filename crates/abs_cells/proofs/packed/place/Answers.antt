use Rattle.std.proofs.Common.{arith}
use Rattle.abs_cells.proofs.PackedCalls.{few_words}
use Rattle.abs_cells.proofs.packed.place.Goals as goal

pub overflow_mul-result : goal.overflow_mul-result
overflow_mul-result c = omega (
  arith,
  c.row_start.ensures,
  few_words c.max.result (omega (arith, c.max.ensures, c.requires.0, c.requires.1)),
  c.max.ensures,
  c.requires.0,
  c.requires.1,
)

pub overflow_add-result : goal.overflow_add-result
overflow_add-result c = omega (
  arith,
  c.row_start.ensures,
  few_words c.max.result (omega (arith, c.max.ensures, c.requires.0, c.requires.1)),
  c.max.ensures,
  c.min.ensures,
  c.from.ensures,
  c.requires.0,
  c.requires.1,
)
