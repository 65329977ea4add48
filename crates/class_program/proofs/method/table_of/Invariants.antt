use Rattle.std.proofs.Common.{◌≡◌, take, Ok}
use Rattle.class_world.specs.Worlds.{classes_of}
use Rattle.class_program.specs.Said.{each}
use Rattle.class_program.specs.Methods.{range_of}
use Rattle.class_program.proofs.method.table_of.Given as goal

abbrev pub invariant-loop-entry : goal.invariant-loop-entry
invariant-loop-entry l = each (range_of (classes_of l.world) l.pool) (take l.entry-index l.table) ≡ Ok l.ranges
