use Rattle.std.proofs.Common.{◌+◌, ◌-◌, ◌/◌, arith, sym, ◌∙◌}
use Rattle.abs_cells.proofs.PairLaws.{place_within, place_behind, place_before}
use Rattle.abs_cells.proofs.pairs.place_of.Goals as goal

pub loop-low-init : goal.loop-low-init
loop-low-init c = record { order = omega arith; end = omega arith; below = omega arith; above = place_within c.args.pair c.args.pairs.now }

pub loop-low-preserved-then-is_before : goal.loop-low-preserved-then-is_before
loop-low-preserved-then-is_before c = record {
  order = omega (arith, c.loop-low-test.true);
  end = c.loop-low.invariant.end;
  below = let h = place_behind c.args.pair c.args.pairs.now (c.loop-low.low + (c.loop-low.high - c.loop-low.low) / 2) (0, 0)
      c.requires (omega (arith, c.loop-low-test.true, c.loop-low.invariant.end)) (sym c.is_before.ensures ∙ c.if-is_before.true) in
      omega (arith, h);
  above = c.loop-low.invariant.above;
}

pub loop-low-preserved : goal.loop-low-preserved
loop-low-preserved c = record {
  order = omega (arith, c.loop-low-test.true);
  end = omega (arith, c.loop-low-test.true, c.loop-low.invariant.end);
  below = c.loop-low.invariant.below;
  above = place_before c.args.pair c.args.pairs.now (c.loop-low.low + (c.loop-low.high - c.loop-low.low) / 2) (0, 0)
      (omega (arith, c.loop-low-test.true, c.loop-low.invariant.end)) (sym c.is_before.ensures ∙ c.if-is_before.false);
}
