use Rattle.std.proofs.Common.{◌+ℤ◌, pos, to_z, of_z, w64, map, arith}
use Rattle.std.specs.List.{filter_map}
use Rattle.std.proofs.lemmas.Int.{ints}
use Rattle.abs_turns.specs.Turns.{switch_turn}
use Rattle.abs_turns.specs.Switches.{lookup_keys, parts_of}
use Rattle.abs_turns.specs.PlansSeen.{turn_seen}
use Rattle.abs_turns.proofs.SwitchLists.{lookup_more, lookup_end}
use Rattle.abs_turns.proofs.switches.lookup_turns.Goals as goal

pub loop-case-preserved : goal.loop-case-preserved
loop-case-preserved g c =
    let f = switch_turn c.args.spot.now c.args.x c.args.stack.now.0 in
    let key = to_z w64 (of_z w64 c.from-key.result) in
    lookup_more f c.args.default (to_z w64 c.loop-case.low-bits) (to_z w64 (of_z w64 (key +ℤ pos 1))) key c.args.cases.now
    c.loop-case.case-index (record { key = pos 0; target = 0 }) (map turn_seen c.loop-case.turns)
    (map turn_seen c.put_key.new.turns) (filter_map f (parts_of c.args.default (lookup_keys c.args.cases.now)))
    c.loop-case-test.true (omega (arith, ints)) (omega (arith, ints)) c.in_ok-put_key.ensures c.loop-case.invariant

pub returns : goal.returns
returns g c =
    let f = switch_turn c.args.spot.now c.args.x c.args.stack.now.0 in
    lookup_end f c.args.default (to_z w64 c.loop-case.low-bits) (to_z w64 (of_z w64 c.from.result)) c.args.cases.now
    c.loop-case.case-index (map turn_seen c.loop-case.turns) (map turn_seen c.put_gap.new.turns)
    (filter_map f (parts_of c.args.default (lookup_keys c.args.cases.now))) c.loop-case-test.false (omega (arith, ints))
    c.in_ok-put_gap.ensures c.loop-case.invariant
