use Rattle.std.proofs.Common.{◌+◌, ◌<◌, ◌≤◌, ℕ, List, length, sym, subst, ◌∙◌}
use Rattle.std.proofs.lemmas.Bool.{false≢true}
use Rattle.abs_heap.proofs.Freshness.{AreFound, found_used, found_free_too, found_all}
use Rattle.abs_heap.proofs.fresh.fresh_ids.Goals as goal

pub loop-cells-preserved-then-stands_at : goal.loop-cells-preserved-then-stands_at
loop-cells-preserved-then-stands_at g c = (
  found_used c.cells-cells.result.now c.loop-cells.ids c.loop-cells.passed c.loop-cells.next c.loop-cells.invariant.0
      (c.stands_at.ensures.0 c.if-stands_at.true),
  c.loop-cells.invariant.1,
)

pub loop-cells-preserved : goal.loop-cells-preserved
loop-cells-preserved g c = subst (λ (xs : List ℕ). AreFound c.cells-cells.result.now xs c.loop-cells.passed (c.loop-cells.next + 1)
    × (length xs ≤ c.args.count)) (sym c.in_ok-push.ensures.items)
    (found_free_too c.cells-cells.result.now c.loop-cells.ids c.loop-cells.passed c.loop-cells.next c.args.count
    c.loop-cells.invariant.0 (λ h. false≢true (sym c.if-stands_at.false ∙ c.stands_at.ensures.1 h))
    (subst (λ (k : ℕ). k < c.args.count) c.len.ensures c.loop-cells-test.true))

pub returns-clause-fresh : goal.returns-clause-fresh
returns-clause-fresh g c = found_all c.args.state.now c.cells-cells.result.now c.loop-cells.ids c.loop-cells.passed
    c.loop-cells.next c.cells-cells.ensures c.loop-cells.invariant.0
