use Rattle.std.proofs.Common.{◌≡◌, ◌++◌, map, drop}
use Rattle.std.specs.List.{filter_map}
use Rattle.abs_turns.specs.Turns.{switch_turn}
use Rattle.abs_turns.specs.Switches.{lookup_keys, parts_from, parts_of}
use Rattle.abs_turns.specs.PlansSeen.{turn_seen}
use Rattle.abs_turns.proofs.switches.lookup_turns.Given as goal

abbrev pub invariant-loop-case : goal.invariant-loop-case
invariant-loop-case g l = map turn_seen l.turns ++ filter_map (switch_turn l.spot l.x l.stack.0)
    (parts_from l.low l.default (lookup_keys (drop l.case-index l.cases))) ≡ filter_map (switch_turn l.spot l.x l.stack.0)
    (parts_of l.default (lookup_keys l.cases))
