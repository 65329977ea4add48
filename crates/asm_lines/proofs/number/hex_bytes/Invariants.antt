use Rattle.std.proofs.Common.{◌≡◌, length}
use Rattle.asm_lines.specs.Numbers.{bytes_of}
use Rattle.asm_lines.proofs.Digits.{behind}
use Rattle.asm_lines.proofs.number.hex_bytes.Given as goal

abbrev pub invariant-loop-first : goal.invariant-loop-first
invariant-loop-first l = behind l.bytes (bytes_of l.rest) ≡ bytes_of l.fn.word

abbrev pub decreases-loop-first : goal.decreases-loop-first
decreases-loop-first l = length l.rest
