use Rattle.std.proofs.Common.{◌-◌, length}
use Rattle.std.specs.List.{list_any}
use Rattle.class_world.specs.World.{super_of, line_from}
use Rattle.class_world.specs.Hidden.{before, implements_field}
use Rattle.class_world.proofs.HiddenFields.{Seeks}
use Rattle.class_world.proofs.world.World.is_hidden.Given as goal

abbrev pub invariant-loop : goal.invariant-loop
invariant-loop l =
    let classes = l.self.roster.classes in
    let p = implements_field classes l.name l.desc in
    Seeks (super_of classes) p l.declaring (list_any p (before l.declaring (line_from (super_of classes) (length classes) l.class)))
    (length classes - l.counter) l.next
