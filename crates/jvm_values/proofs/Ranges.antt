-- The ends of a kind's range are ints.
use Rattle.std.proofs.Common.{arith}
use Rattle.std.proofs.lemmas.Int.{ints}
use Rattle.jvm_values.specs.declared.types.Kind.{Kind}
use Rattle.jvm_values.specs.declared.types.Kind.TheVariants.{Boolean, Char, Byte, Short, Int}
use Rattle.jvm_values.specs.Kinds.{least_of, greatest_of, IsOfKind}

pub kind_ints : (kind : Kind) → IsOfKind Int (least_of kind) × IsOfKind Int (greatest_of kind)
kind_ints Boolean = ((omega (arith, ints), omega (arith, ints)), (omega (arith, ints), omega (arith, ints)))
kind_ints Char = ((omega (arith, ints), omega (arith, ints)), (omega (arith, ints), omega (arith, ints)))
kind_ints Byte = ((omega (arith, ints), omega (arith, ints)), (omega (arith, ints), omega (arith, ints)))
kind_ints Short = ((omega (arith, ints), omega (arith, ints)), (omega (arith, ints), omega (arith, ints)))
kind_ints Int = ((omega (arith, ints), omega (arith, ints)), (omega (arith, ints), omega (arith, ints)))
