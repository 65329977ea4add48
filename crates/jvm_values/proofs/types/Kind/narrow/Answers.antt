use Rattle.jvm_values.proofs.IntLaws.{byte_in_range, short_in_range}
use Rattle.jvm_values.proofs.types.Kind.narrow.Goals as goal

pub returns-in-Byte-clause-in_range : goal.returns-in-Byte-clause-in_range
returns-in-Byte-clause-in_range c = rw c.in-Byte.is (byte_in_range _ c.low_byte.result c.low_byte.ensures)

pub returns-in-Short-clause-in_range : goal.returns-in-Short-clause-in_range
returns-in-Short-clause-in_range c = rw c.in-Short.is (short_in_range _ c.low_short.result c.low_short.ensures)
