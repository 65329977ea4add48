use Rattle.std.proofs.Common.{◌-◌, length}
use Rattle.class_world.specs.World.{super_of, line_from}
use Rattle.class_world.specs.Resolve.{is_initialised}
use Rattle.class_world.proofs.Chain.{where_true, first_by, Goes}
use Rattle.class_world.proofs.world.World.first_initialised.Given as goal

abbrev pub invariant-loop : goal.invariant-loop
invariant-loop l =
    let classes = l.self.roster.classes in
    let g = where_true (is_initialised l.self.roster.classes) in
    Goes (super_of classes) g (first_by g (line_from (super_of classes) (length classes) l.class)) (length classes - l.counter) l.next
