use Rattle.std.proofs.Common.{◌≡◌, map}
use Rattle.class_world.specs.Worlds.{classes_of}
use Rattle.input_desc.specs.Typed.{object_of}
use Rattle.input_desc.proofs.states.objects.Given as goal

abbrev pub invariant-loop-text : goal.invariant-loop-text
invariant-loop-text l = l.objects ≡ map (object_of (classes_of l.world)) l.yielded
