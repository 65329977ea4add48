use Rattle.std.proofs.Common.{◌≡◌, ◌++◌, drop}
use Rattle.std.specs.List.{flat_map}
use Rattle.class_world.specs.Worlds.{classes_of}
use Rattle.bound_check.specs.Lines.{weight_text}
use Rattle.bound_check.proofs.lines.put_weights.Given as goal

abbrev pub invariant-loop-entry : goal.invariant-loop-entry
invariant-loop-entry l = l.text ++ flat_map (weight_text (classes_of l.world)) (drop l.entry-index l.weights)
    ≡ l.initial.text ++ flat_map (weight_text (classes_of l.world)) l.weights
