use Rattle.std.proofs.Common.{◌≡◌, take}
use Rattle.class_asm.specs.Rules.{attribute_lines}
use Rattle.class_asm.proofs.rules.attribute_lines.Given as goal

abbrev pub invariant-loop-code : goal.invariant-loop-code
invariant-loop-code l = l.found.items ≡ attribute_lines (take l.code-index l.lines)
