use Rattle.std.proofs.Common.{◌≡◌, ◌++◌, take}
use Rattle.std.specs.List.{flat_map}
use Rattle.class_asm.specs.asm_pool.Needs.{constant_needs}
use Rattle.class_asm.proofs.asm_pool.needs.Needs.constants.Given as goal

abbrev pub invariant-loop-c : goal.invariant-loop-c
invariant-loop-c l = l.self ≡ l.fn.self ++ flat_map constant_needs (take l.c-index l.constants)
