use Rattle.std.proofs.Common.{◌≡◌, ◌++◌, drop}
use Rattle.std.specs.List.{filter_map}
use Rattle.class_world.specs.Worlds.{classes_of}
use Rattle.class_program.specs.Runs.{selected_body}
use Rattle.class_program.proofs.runs.selections.Given as goal

abbrev pub invariant-loop-class : goal.invariant-loop-class
invariant-loop-class l = l.found ++ filter_map (selected_body (classes_of l.world) l.method.name.now l.method.desc.now)
    (drop l.class-index l.class-items) ≡ filter_map (selected_body (classes_of l.world) l.method.name.now l.method.desc.now) l.class-items
