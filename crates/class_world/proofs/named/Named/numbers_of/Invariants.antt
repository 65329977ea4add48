use Rattle.std.proofs.Common.{◌≡◌, ◌++◌, drop}
use Rattle.std.specs.List.{filter_map}
use Rattle.class_world.specs.World.{class_of}
use Rattle.class_world.proofs.named.Named.numbers_of.Given as goal

abbrev pub invariant-loop-name : goal.invariant-loop-name
invariant-loop-name l = l.found ++ filter_map (λ name. class_of l.self.classes name.now) (drop l.name-index l.wanted) ≡ filter_map
    (λ name. class_of l.self.classes name.now) l.wanted
