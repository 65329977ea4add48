use Rattle.std.proofs.Common.{◌≡◌, drop, map}
use Rattle.asm_lines.specs.Operations.{opcode_in}
use Rattle.asm_lines.proofs.operation.opcode_in.Given as goal

abbrev pub invariant-loop-entry : goal.invariant-loop-entry
invariant-loop-entry l = opcode_in (map (λ e. (e.0.now, e.1)) (drop l.entry-index l.names)) l.word ≡ opcode_in
    (map (λ e. (e.0.now, e.1)) l.names) l.word
