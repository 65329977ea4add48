use Rattle.std.proofs.Common.{◌≡◌, ◌&&◌, false}
use Rattle.std.specs.Option.{is_some}
use Rattle.std.specs.List.{list_any, range_with_len}
use Rattle.class_world.specs.Types.{is_class_below}
use Rattle.class_world.specs.Resolve.{declared_field}
use Rattle.class_world.proofs.world.World.has_field_above.Given as goal

abbrev pub invariant-loop-over : goal.invariant-loop-over
invariant-loop-over l = list_any
    (λ over. is_class_below l.self.roster.classes l.interface over && is_some
    (declared_field l.self.roster.classes over l.name l.desc)) (range_with_len 0 l.over) ≡ false
