use Rattle.std.proofs.Common.{◌≡◌, ◌++◌, ◌-◌, [], length}
use Rattle.std.specs.Option.{option_map_or}
use Rattle.class_world.specs.World.{super_of, line_from}
use Rattle.class_world.proofs.roster.Roster.line_of.Given as goal

abbrev pub invariant-loop : goal.invariant-loop
invariant-loop l = l.line ++ option_map_or (line_from (super_of l.self.classes) (length l.self.classes - l.counter)) l.next []
    ≡ line_from (super_of l.self.classes) (length l.self.classes) l.class
