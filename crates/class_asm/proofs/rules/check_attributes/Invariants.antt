use Rattle.std.proofs.Common.{◌≡◌, take}
use Rattle.std.specs.List.{flat_map}
use Rattle.asm_lines.specs.Firsts.{with_faults}
use Rattle.class_asm.specs.Rules.{attribute_faults}
use Rattle.class_asm.proofs.rules.check_attributes.Given as goal

abbrev pub invariant-loop-a : goal.invariant-loop-a
invariant-loop-a l = l.first.fault ≡ with_faults l.fn.first.fault (flat_map attribute_faults (take l.a-index l.attributes))
