use Rattle.std.proofs.Common.{◌≡◌, ◌++◌, take}
use Rattle.std.specs.List.{flat_map}
use Rattle.class_asm.specs.asm_pool.Needs.{method_needs}
use Rattle.class_asm.proofs.asm_pool.needs.Needs.methods.Given as goal

abbrev pub invariant-loop-m : goal.invariant-loop-m
invariant-loop-m l = l.self ≡ l.fn.self ++ flat_map method_needs (take l.m-index l.methods)
