use Rattle.std.proofs.Common.{◌-◌, length}
use Rattle.class_world.specs.World.{super_of, line_from}
use Rattle.class_world.specs.inner.Seeking.{place_in}
use Rattle.class_world.proofs.Chain.{with_class, first_by, Goes}
use Rattle.class_world.proofs.world.World.first_along.Given as goal

abbrev pub invariant-loop : goal.invariant-loop
invariant-loop l =
    let classes = l.self.roster.classes in
    let g = with_class (place_in l.self.roster.classes l.wanted l.name l.desc) in
    Goes (super_of classes) g (first_by g (line_from (super_of classes) (length classes) l.class)) (length classes - l.counter) l.next
