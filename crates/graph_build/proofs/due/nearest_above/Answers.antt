use Rattle.std.proofs.Common.{◌∙◌, inl, inr, refl, sym, arith}
use Rattle.std.proofs.lemmas.Bool.{false≢true}
use Rattle.graph_build.specs.inner.Working.{parent_in}
use Rattle.graph_build.proofs.Climbing.{above_zero, next_above, is_nearest, next_passed}
use Rattle.graph_build.proofs.due.nearest_above.Goals as goal

pub loop-at-init : goal.loop-at-init
loop-at-init g c = record {
  way = inl refl;
  passed = λ u a. a.above;
  within = c.requires.within;
}

pub at-node-requires : goal.at-node-requires
at-node-requires g c = omega (
  arith,
  c.requires.lower c.loop-at.at c.loop-at-test.true c.loop-at.invariant.within,
  c.loop-at.invariant.within,
)

pub returns-then-is_alike : goal.returns-then-is_alike
returns-then-is_alike g c =
    is_nearest c.args.graph.now (parent_in c.args.parents.now) c.args.n c.args.state.now c.loop-at.at
    (parent_in c.args.parents.now c.loop-at.at) c.loop-at-test.true refl c.loop-at.invariant.way c.loop-at.invariant.passed
    c.at-node.result.now c.at-node.ensures (c.is_alike.ensures.0 c.if-is_alike.true)

pub loop-at-smaller : goal.loop-at-smaller
loop-at-smaller g c = c.requires.lower c.loop-at.at c.loop-at-test.true c.loop-at.invariant.within

pub loop-at-preserved : goal.loop-at-preserved
loop-at-preserved g c = record {
  way = inr (next_above c.args.graph.now (parent_in c.args.parents.now) c.args.n c.args.state.now c.loop-at.at
      (parent_in c.args.parents.now c.loop-at.at) c.loop-at-test.true refl c.loop-at.invariant.way c.loop-at.invariant.passed);
  passed =
      next_passed c.args.graph.now (parent_in c.args.parents.now) c.args.n c.args.state.now c.loop-at.at
      (parent_in c.args.parents.now c.loop-at.at) c.loop-at-test.true refl c.loop-at.invariant.way c.loop-at.invariant.passed
      c.at-node.result.now c.at-node.ensures (λ a. false≢true (sym c.if-is_alike.false ∙ c.is_alike.ensures.1 a));
  within = omega (arith, c.requires.lower c.loop-at.at c.loop-at-test.true c.loop-at.invariant.within, c.loop-at.invariant.within);
}

pub returns : goal.returns
returns g c = λ u a. above_zero (parent_in c.args.parents.now) u c.loop-at.at (omega (arith, c.loop-at-test.false))
    (c.loop-at.invariant.passed u a)
