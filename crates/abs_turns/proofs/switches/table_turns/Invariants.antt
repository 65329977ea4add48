use Rattle.std.proofs.Common.{◌≡◌, ◌++◌, map, drop, pos, ◌+ℤ◌}
use Rattle.std.specs.List.{filter_map}
use Rattle.abs_turns.specs.Turns.{switch_turn}
use Rattle.abs_turns.specs.Switches.{table_keys, parts_from, parts_of}
use Rattle.abs_turns.specs.PlansSeen.{turn_seen}
use Rattle.abs_turns.proofs.switches.table_turns.Given as goal

abbrev pub invariant-loop-i : goal.invariant-loop-i
invariant-loop-i g l = map turn_seen l.turns ++ filter_map (switch_turn l.spot l.x l.stack.0)
    (parts_from l.low l.default (table_keys (l.fn.first +ℤ pos l.i) (drop l.i l.targets))) ≡ filter_map
    (switch_turn l.spot l.x l.stack.0) (parts_of l.default (table_keys l.fn.first l.targets))
