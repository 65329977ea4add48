use Rattle.std.proofs.Common.{◌≡◌, ◌++◌, take, map}
use Rattle.class_asm.specs.asm_pool.Entries.{Class}
use Rattle.class_asm.specs.asm_pool.Pools.{needed}
use Rattle.class_asm.proofs.asm_pool.needs.Needs.classes.Given as goal

abbrev pub invariant-loop-name : goal.invariant-loop-name
invariant-loop-name l = l.self ≡ l.fn.self ++ needed l.line (map (λ name. Class name) (take l.name-index l.names))
