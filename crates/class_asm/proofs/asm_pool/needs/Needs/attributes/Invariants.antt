use Rattle.std.proofs.Common.{◌≡◌, ◌++◌, take}
use Rattle.std.specs.List.{flat_map}
use Rattle.class_asm.specs.asm_pool.Needs.{attribute_needs}
use Rattle.class_asm.proofs.asm_pool.needs.Needs.attributes.Given as goal

abbrev pub invariant-loop-a : goal.invariant-loop-a
invariant-loop-a l = l.self ≡ l.fn.self ++ flat_map attribute_needs (take l.a-index l.attributes)
