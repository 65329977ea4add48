use Rattle.std.proofs.Common.{◌≡◌, take, map}
use Rattle.class_asm.specs.asm_pool.Entries.{Class}
use Rattle.class_asm.specs.asm_pool.Pools.{number_of}
use Rattle.class_asm.proofs.texts.class_numbers.Given as goal

abbrev pub invariant-loop-name : goal.invariant-loop-name
invariant-loop-name l = l.numbers ≡ map (λ name. number_of l.pool (Class name)) (take l.name-index l.names)
