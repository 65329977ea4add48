use Rattle.std.proofs.Common.{◌≡◌, drop, map, []}
use Rattle.asm_lines.specs.Firsts.{with_faults}
use Rattle.class_asm.specs.Rules.{seconds, field_key}
use Rattle.class_asm.proofs.rules.check_field_keys.Given as goal

abbrev pub invariant-loop-f : goal.invariant-loop-f
invariant-loop-f l = with_faults l.first.fault (seconds l.keys (map field_key (drop l.f-index l.fields))) ≡ with_faults
    l.fn.first.fault (seconds [] (map field_key l.fields))
