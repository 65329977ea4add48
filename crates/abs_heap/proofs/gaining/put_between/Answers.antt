use Rattle.std.proofs.Common.{◌≡◌, ℕ, true, ap}
use Rattle.abs_cells.specs.declared.cells.Cell.{Cell}
use Rattle.abs_cells.specs.IdSets.{has_id}
use Rattle.abs_heap.proofs.PairGains.{between_none, between_next, between_all}
use Rattle.abs_heap.proofs.gaining.put_between.Goals as goal

pub loop-id-init : goal.loop-id-init
loop-id-init g c = between_none c.args.cells.now (λ x. has_id c.args.ids.now x ≡ true) (λ x. has_id c.args.others.now x ≡ true)
    (g.P.Pairs.pairs c.args.pairs.now)

pub loop-id-preserved : goal.loop-id-preserved
loop-id-preserved g c = between_next c.args.cells.now (λ x. has_id c.args.ids.now x ≡ true) (λ x. has_id c.args.others.now x ≡ true)
    c.loop-id.id-index _ c.loop-id-item.result (g.P.Pairs.pairs c.args.pairs.now) (g.P.Pairs.pairs c.loop-id.pairs)
    (g.P.Pairs.pairs c.put_with_in.new.pairs) c.loop-id-test.true (ap (λ (x : ℕ × Cell). x.0) c.loop-id-item.is) c.loop-id.invariant
    c.in_ok-put_with_in.ensures

pub returns : goal.returns
returns g c = between_all c.args.cells.now (λ x. has_id c.args.ids.now x ≡ true) (λ x. has_id c.args.others.now x ≡ true)
    c.loop-id.id-index (g.P.Pairs.pairs c.args.pairs.now) (g.P.Pairs.pairs c.loop-id.pairs) c.loop-id-test.false c.loop-id.invariant
