use Rattle.std.proofs.Common.{◌≡◌, drop, map, []}
use Rattle.asm_lines.specs.Firsts.{with_faults}
use Rattle.class_asm.specs.Rules.{seconds, method_key}
use Rattle.class_asm.proofs.rules.check_method_keys.Given as goal

abbrev pub invariant-loop-m : goal.invariant-loop-m
invariant-loop-m l = with_faults l.first.fault (seconds l.keys (map method_key (drop l.m-index l.methods))) ≡ with_faults
    l.fn.first.fault (seconds [] (map method_key l.methods))
