use Rattle.std.proofs.Common.{◌≡◌, map}
use Rattle.asm_lines.specs.Operations.{names_below}
use Rattle.asm_lines.proofs.operation.Names.new.Given as goal

abbrev pub invariant-loop-op : goal.invariant-loop-op
invariant-loop-op l = map (λ e. (e.0.now, e.1)) l.names ≡ names_below l.op
