use Rattle.std.proofs.Common.{◌≡◌, drop}
use Rattle.std.specs.List.{find}
use Rattle.class_program.specs.class_world.Worlds.{classes_of}
use Rattle.jvm_step.specs.Running.{takes}
use Rattle.jvm_step.proofs.throwing.handler.Given as goal

-- the entry is among those that are left
abbrev pub invariant-loop-range : goal.invariant-loop-range
invariant-loop-range l = find (takes (classes_of l.world) l.object l.pc) (drop l.range-index l.table) ≡ find
    (takes (classes_of l.world) l.object l.pc) l.table
