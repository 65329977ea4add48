use Rattle.std.proofs.Common.{◌≡◌, take}
use Rattle.std.specs.List.{flat_map}
use Rattle.asm_lines.specs.Firsts.{with_faults}
use Rattle.class_asm.specs.Rules.{method_faults}
use Rattle.class_asm.proofs.rules.check_methods.Given as goal

abbrev pub invariant-loop-m : goal.invariant-loop-m
invariant-loop-m l = l.first.fault ≡ with_faults l.fn.first.fault (flat_map method_faults (take l.m-index l.methods))
