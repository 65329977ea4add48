use Rattle.std.proofs.Common.{◌≡◌, drop}
use Rattle.std.specs.List.{list_any}
use Rattle.class_world.specs.Worlds.{classes_of}
use Rattle.class_program.specs.JvmDiffers.{declares_other}
use Rattle.class_program.proofs.jvm_differs.some_declares_other.Given as goal

abbrev pub invariant-loop-class : goal.invariant-loop-class
invariant-loop-class l = list_any (declares_other (classes_of l.world) l.name l.desc l.code) (drop l.class-index l.chain) ≡ list_any
    (declares_other (classes_of l.world) l.name l.desc l.code) l.chain
