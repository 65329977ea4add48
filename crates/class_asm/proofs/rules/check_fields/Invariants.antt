use Rattle.std.proofs.Common.{◌≡◌, take}
use Rattle.std.specs.List.{flat_map}
use Rattle.asm_lines.specs.Firsts.{with_faults}
use Rattle.class_asm.specs.Rules.{field_faults}
use Rattle.class_asm.proofs.rules.check_fields.Given as goal

abbrev pub invariant-loop-f : goal.invariant-loop-f
invariant-loop-f l = l.first.fault ≡ with_faults l.fn.first.fault (flat_map field_faults (take l.f-index l.fields))
