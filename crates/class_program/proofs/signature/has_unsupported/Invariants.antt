use Rattle.std.proofs.Common.{◌≡◌, drop}
use Rattle.class_world.specs.Worlds.{classes_of}
use Rattle.class_program.specs.Signatures.{has_unsupported}
use Rattle.class_program.proofs.signature.has_unsupported.Given as goal

abbrev pub invariant-loop-text : goal.invariant-loop-text
invariant-loop-text l = has_unsupported (classes_of l.world) (drop l.text-index l.types) ≡ has_unsupported (classes_of l.world) l.types
