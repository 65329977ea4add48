use Rattle.std.proofs.Common.{◌≡◌, ◌++◌, take}
use Rattle.std.specs.List.{flat_map}
use Rattle.class_asm.specs.asm_pool.Needs.{field_needs}
use Rattle.class_asm.proofs.asm_pool.needs.Needs.fields.Given as goal

abbrev pub invariant-loop-f : goal.invariant-loop-f
invariant-loop-f l = l.self ≡ l.fn.self ++ flat_map field_needs (take l.f-index l.fields)
