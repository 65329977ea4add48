use Rattle.std.proofs.Common.{◌≡◌, take}
use Rattle.std.specs.List.{flat_map}
use Rattle.asm_lines.specs.Firsts.{with_faults}
use Rattle.class_asm.specs.Rules.{constant_faults}
use Rattle.class_asm.proofs.rules.check_constants.Given as goal

abbrev pub invariant-loop-c : goal.invariant-loop-c
invariant-loop-c l = l.first.fault ≡ with_faults l.fn.first.fault (flat_map constant_faults (take l.c-index l.constants))
