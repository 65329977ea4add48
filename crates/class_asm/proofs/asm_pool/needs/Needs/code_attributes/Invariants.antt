use Rattle.std.proofs.Common.{◌≡◌, ◌++◌, take}
use Rattle.std.specs.List.{flat_map}
use Rattle.class_asm.specs.asm_pool.Needs.{line_needs, attribute_entries}
use Rattle.class_asm.proofs.asm_pool.needs.Needs.code_attributes.Given as goal

abbrev pub invariant-loop-code : goal.invariant-loop-code
invariant-loop-code l = l.self ≡ l.fn.self ++ flat_map (line_needs attribute_entries) (take l.code-index l.lines)
