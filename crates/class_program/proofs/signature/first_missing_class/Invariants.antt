use Rattle.std.proofs.Common.{◌≡◌, drop}
use Rattle.class_world.specs.Worlds.{classes_of}
use Rattle.class_program.specs.Signatures.{first_missing_class}
use Rattle.class_program.proofs.signature.first_missing_class.Given as goal

abbrev pub invariant-loop-text : goal.invariant-loop-text
invariant-loop-text l = first_missing_class (classes_of l.world) (drop l.text-index l.types) ≡ first_missing_class
    (classes_of l.world) l.types
