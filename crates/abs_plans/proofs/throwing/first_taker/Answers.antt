use Rattle.std.proofs.Common.{drop, sym, ◌≡◌, ◌∙◌, ◌-◌, ◌+◌, length, refl, arith}
use Rattle.abs_turns.specs.code_verify.Flows.{covers}
use Rattle.abs_turns.specs.Table.{types_here}
use Rattle.abs_turns.specs.Stops.{taker_of, may_of}
use Rattle.abs_plans.proofs.RangesTaken.{one_more, none_left, all_left}
use Rattle.abs_plans.proofs.throwing.first_taker.Goals as goal

pub loop-n-init : goal.loop-n-init
loop-n-init g c =
    let types = types_here c.args.spot.now in
    let state = c.args.spot.now.state in
    record {
      inside = omega arith;
      may = sym (none_left (may_of types state c.args.x (covers c.args.spot.now.frame.pc)) c.args.table.now
          (length c.args.table.now) refl);
      taker = sym (none_left (taker_of types state c.args.x (covers c.args.spot.now.frame.pc)) c.args.table.now
          (length c.args.table.now) refl);
    }

pub loop-n-preserved : goal.loop-n-preserved
loop-n-preserved g c =
    let types = types_here c.args.spot.now in
    let state = c.args.spot.now.state in
    let more : c.loop-n.n ≡ (c.loop-n.n - 1) + 1 = omega (arith, c.loop-n-test.true) in
    record {
      inside = omega (arith, c.loop-n.invariant.inside);
      may = c.with_range-found.ensures.may (drop c.loop-n.n c.args.table.now) c.loop-n.invariant.may
          ∙ sym (one_more (may_of types state c.args.x (covers c.args.spot.now.frame.pc)) c.args.table.now c.loop-n.n
          (c.loop-n.n - 1) c.range_at.result c.loop-n.invariant.inside more c.range_at.ensures);
      taker = c.with_range-found.ensures.taker (drop c.loop-n.n c.args.table.now) c.loop-n.invariant.taker
          ∙ sym (one_more (taker_of types state c.args.x (covers c.args.spot.now.frame.pc)) c.args.table.now c.loop-n.n
          (c.loop-n.n - 1) c.range_at.result c.loop-n.invariant.inside more c.range_at.ensures);
    }

pub returns-clause-may : goal.returns-clause-may
returns-clause-may g c = c.loop-n.invariant.may
    ∙ all_left (may_of (types_here c.args.spot.now) c.args.spot.now.state c.args.x (covers c.args.spot.now.frame.pc))
    c.args.table.now c.loop-n.n (omega (arith, c.loop-n-test.false))

pub returns-clause-taker : goal.returns-clause-taker
returns-clause-taker g c = c.loop-n.invariant.taker
    ∙ all_left (taker_of (types_here c.args.spot.now) c.args.spot.now.state c.args.x (covers c.args.spot.now.frame.pc))
    c.args.table.now c.loop-n.n (omega (arith, c.loop-n-test.false))
