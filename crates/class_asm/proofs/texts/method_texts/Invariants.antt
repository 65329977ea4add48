use Rattle.std.proofs.Common.{◌≡◌, take, map}
use Rattle.std.specs.List.{flat_map}
use Rattle.asm_lines.specs.Firsts.{with_faults}
use Rattle.class_asm.specs.Classes.{method_text, code_faults}
use Rattle.class_asm.proofs.texts.method_texts.Given as goal

abbrev pub invariant-loop-m : goal.invariant-loop-m
invariant-loop-m l = (l.texts ≡ map (method_text l.pool) (take l.m-index l.methods))
    × (l.first.fault ≡ with_faults l.fn.first.fault (flat_map (code_faults l.pool) (take l.m-index l.methods)))
