use Rattle.std.proofs.Common.{◌+ℤ◌, pos, to_z, of_z, w64, map, ap, arith}
use Rattle.std.specs.List.{filter_map}
use Rattle.std.proofs.lemmas.Int.{ints}
use Rattle.abs_turns.specs.Turns.{switch_turn}
use Rattle.abs_turns.specs.Switches.{table_keys, parts_of}
use Rattle.abs_turns.specs.PlansSeen.{turn_seen}
use Rattle.abs_turns.proofs.SwitchLists.{table_begin, table_more, table_end}
use Rattle.abs_turns.proofs.switches.table_turns.Goals as goal

pub loop-i-init : goal.loop-i-init
loop-i-init g c = table_begin (switch_turn c.args.spot.now c.args.x c.args.stack.now.0) c.args.default c.args.first.now
    (to_z w64 (of_z w64 c.from-low.result)) c.args.targets.now (map turn_seen c.new-turns.result)
    (ap (map turn_seen) c.new-turns.ensures) (omega (arith, ints))

pub loop-i-preserved : goal.loop-i-preserved
loop-i-preserved g c =
    let f = switch_turn c.args.spot.now c.args.x c.args.stack.now.0 in
    let key = to_z w64 (of_z w64 (to_z w64 (of_z w64 c.from.result) +ℤ to_z w64 c.loop-i.i)) in
    table_more f c.args.default c.args.first.now (to_z w64 c.loop-i.low-bits) (to_z w64 (of_z w64 (key +ℤ pos 1))) key
    c.args.targets.now c.loop-i.i 0 (map turn_seen c.loop-i.turns) (map turn_seen c.put_key.new.turns)
    (filter_map f (parts_of c.args.default (table_keys c.args.first.now c.args.targets.now))) c.loop-i-test.true
    (omega (arith, ints)) (omega (arith, ints)) c.in_ok-put_key.ensures c.loop-i.invariant

pub returns : goal.returns
returns g c =
    let f = switch_turn c.args.spot.now c.args.x c.args.stack.now.0 in
    table_end f c.args.default c.args.first.now (to_z w64 c.loop-i.low-bits) (to_z w64 (of_z w64 c.from-2.result))
    c.args.targets.now c.loop-i.i (map turn_seen c.loop-i.turns) (map turn_seen c.put_gap.new.turns)
    (filter_map f (parts_of c.args.default (table_keys c.args.first.now c.args.targets.now))) c.loop-i-test.false
    (omega (arith, ints)) c.in_ok-put_gap.ensures c.loop-i.invariant
