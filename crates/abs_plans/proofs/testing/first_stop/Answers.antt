use Rattle.std.proofs.Common.{◌≡◌, ◌∙◌, ◌+◌, ◌-◌, sym, ap, arith}
use Rattle.abs_turns.specs.Stops.{first_stop}
use Rattle.abs_turns.specs.Table.{types_here}
use Rattle.abs_plans.proofs.Taking.{left_all, passed, stopped}
use Rattle.abs_plans.proofs.testing.first_stop.Goals as goal

pub loop-depth-init : goal.loop-depth-init
loop-depth-init g c = record {
  places = omega (arith, c.depth_of-depth.ensures);
  stack = omega (arith, c.depth_of-depth.ensures);
  left = ap (first_stop (types_here c.args.spot.now) c.args.spot.now.state)
      (left_all c.args.count c.depth_of-depth.result c.args.spot.now.places c.args.stack.now.0 c.depth_of-depth.ensures);
}

pub loop-depth-preserved : goal.loop-depth-preserved
loop-depth-preserved g c =
    let more : c.loop-depth.depth ≡ (c.loop-depth.depth - 1) + 1 = omega (arith, c.loop-depth-test.true) in
    record {
      places = omega (arith, c.loop-depth.invariant.places);
      stack = omega (arith, c.loop-depth.invariant.stack);
      left = sym (passed (types_here c.args.spot.now) c.args.spot.now.state c.args.spot.now.places c.args.stack.now.0
          c.loop-depth.depth (c.loop-depth.depth - 1) c.place_under.result c.at.result.now c.loop-depth.invariant.places
          c.loop-depth.invariant.stack more c.place_under.ensures c.at.ensures (sym c.in_default.ensures)) ∙ c.loop-depth.invariant.left;
    }

pub returns-in-Some : goal.returns-in-Some
returns-in-Some g c =
    let more : c.loop-depth.depth ≡ (c.loop-depth.depth - 1) + 1 = omega (arith, c.loop-depth-test.true) in
    sym (stopped (types_here c.args.spot.now) c.args.spot.now.state c.args.spot.now.places c.args.stack.now.0 c.loop-depth.depth
    (c.loop-depth.depth - 1) c.place_under.result c.at.result.now _ c.loop-depth.invariant.places c.loop-depth.invariant.stack
    more c.place_under.ensures c.at.ensures (sym c.in-Some.ensures)) ∙ c.loop-depth.invariant.left
