use Rattle.std.proofs.Common.{◌≡◌, ◌++◌, drop}
use Rattle.std.specs.List.{filter_map}
use Rattle.class_world.specs.Worlds.{classes_of}
use Rattle.class_world.specs.Descriptors.{meaning_of, known_slot}
use Rattle.class_program.proofs.signature.slots_of_types.Given as goal

abbrev pub invariant-loop-text : goal.invariant-loop-text
invariant-loop-text l = l.slots ++ filter_map (λ text. known_slot (meaning_of (classes_of l.world) text))
    (drop l.text-index l.types) ≡ filter_map (λ text. known_slot (meaning_of (classes_of l.world) text)) l.types
