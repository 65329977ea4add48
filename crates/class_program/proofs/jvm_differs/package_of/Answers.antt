use Rattle.std.proofs.Common.{arith, inl, inr}
use Rattle.class_program.proofs.Differing.{package_step}
use Rattle.class_program.proofs.jvm_differs.package_of.Goals as goal
use Rattle.class_program.proofs.jvm_differs.package_of.Goals.{then-name-index-eq47, else-name-index-eq47}

pub loop-index-preserved : goal.loop-index-preserved
loop-index-preserved c = (
  package_step c.args.name.now c.loop-index.index c.loop-index.end c.if-name-index-eq47.end c.loop-index-test.true
      c.loop-index.invariant.0 (elim c.if-name-index-eq47.branch [
        | then-name-index-eq47 w ↦ inl (w.if-name-index-eq47.true, w.end-is)
        | else-name-index-eq47 w ↦ inr (w.if-name-index-eq47.false, w.end-is)
      ]),
  elim c.if-name-index-eq47.branch [
    | then-name-index-eq47 w ↦ omega (arith, w.end-is)
    | else-name-index-eq47 w ↦ omega (arith, w.end-is, c.loop-index.invariant.1)
  ],
)
