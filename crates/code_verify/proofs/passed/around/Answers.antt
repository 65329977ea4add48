use Rattle.std.proofs.Common.{◌≡◌, ℕ, List, length, take, get_or, ap, subst, ◌∙◌, arith}
use Rattle.std.specs.Prelude.{filter}
use Rattle.std.proofs.Math.Seq.{take-length}
use Rattle.class_program.specs.declared.program.CatchRange.{CatchRange}
use Rattle.code_verify.specs.Flows.{covers}
use Rattle.code_verify.proofs.Passing.{narrowed_right, more_covered}
use Rattle.code_verify.proofs.passed.around.Goals as goal

pub loop-range-preserved : goal.loop-range-preserved
loop-range-preserved c =
    let n = narrowed_right c.args.place (get_or c.args.ranges.now c.loop-range.range-index _) c.loop-range.around
    c.narrowed-around.result c.loop-range.invariant.0 c.loop-range.invariant.1 c.narrowed-around.ensures in (
      n.low,
      n.end,
      λ q l m.
          let w = n.within q l m in
          more_covered q c.args.place c.args.ranges.now c.loop-range.range-index _ (omega (arith, c.loop-range-test.true))
          (c.loop-range.invariant.2 q w.0 w.1) (n.same q l m),
    )

pub returns : goal.returns
returns c =
    let e : c.loop-range.range-index ≡ length c.args.ranges.now = omega (arith, c.loop-range-test.false) in
    let whole : take c.loop-range.range-index c.args.ranges.now ≡ c.args.ranges.now = ap (λ (n : ℕ). take n c.args.ranges.now) e
    ∙ take-length c.args.ranges.now in
    λ q l m. subst (λ (xs : List CatchRange). filter (covers q) xs ≡ filter (covers c.args.place) xs) whole
    (c.loop-range.invariant.2 q l m)
