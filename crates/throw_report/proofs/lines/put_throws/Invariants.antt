use Rattle.std.proofs.Common.{◌≡◌, ◌++◌, drop}
use Rattle.std.specs.List.{flat_map}
use Rattle.class_world.specs.Worlds.{classes_of}
use Rattle.throw_report.specs.Lines.{throws_line}
use Rattle.throw_report.proofs.lines.put_throws.Given as goal

abbrev pub invariant-loop-class : goal.invariant-loop-class
invariant-loop-class l = l.text ++ flat_map (throws_line (classes_of l.world)) (drop l.class-index l.classes)
    ≡ l.initial.text ++ flat_map (throws_line (classes_of l.world)) l.classes
