use Rattle.std.proofs.Common.{◌≡◌, drop, not}
use Rattle.std.specs.List.{list_any}
use Rattle.class_world.specs.World.{is_interface_class}
use Rattle.class_world.proofs.linking.Hierarchy.has_other_kind.Given as goal

abbrev pub invariant-loop-class : goal.invariant-loop-class
invariant-loop-class l = list_any (λ k. not (is_interface_class l.self.roster.now.classes k)) (drop l.class-index l.classes)
    ≡ list_any (λ k. not (is_interface_class l.self.roster.now.classes k)) l.classes
