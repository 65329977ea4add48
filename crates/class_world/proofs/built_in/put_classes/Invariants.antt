use Rattle.std.proofs.Common.{◌≡◌, take}
use Rattle.std.specs.Prelude.{map}
use Rattle.class_world.specs.World.{built_in}
use Rattle.class_world.proofs.built_in.put_classes.Given as goal

abbrev pub invariant-loop-name : goal.invariant-loop-name
invariant-loop-name l = l.classes.items ≡ map (λ n. built_in n.0.now n.1.now) (take l.name-index l.names)
