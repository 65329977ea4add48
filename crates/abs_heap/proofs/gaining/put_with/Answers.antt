use Rattle.std.proofs.Common.{◌≡◌, ℕ, true, ap}
use Rattle.abs_cells.specs.declared.cells.Cell.{Cell}
use Rattle.abs_cells.specs.IdSets.{has_id}
use Rattle.abs_heap.proofs.PairGains.{with_none, with_next, with_all}
use Rattle.abs_heap.proofs.gaining.put_with.Goals as goal

pub loop-other-init : goal.loop-other-init
loop-other-init g c = with_none c.args.cells.now c.args.id (λ d. has_id c.args.others.now d ≡ true) (g.P.Pairs.pairs c.args.pairs.now)

pub loop-other-preserved : goal.loop-other-preserved
loop-other-preserved g c = with_next c.args.cells.now c.args.id (λ d. has_id c.args.others.now d ≡ true) c.loop-other.other-index _
    c.loop-other-item.result (g.P.Pairs.pairs c.args.pairs.now) (g.P.Pairs.pairs c.loop-other.pairs)
    (g.P.Pairs.pairs c.put_pair_in.new.pairs) c.loop-other-test.true (ap (λ (x : ℕ × Cell). x.0) c.loop-other-item.is)
    c.loop-other.invariant c.in_ok-put_pair_in.ensures

pub returns : goal.returns
returns g c = with_all c.args.cells.now c.args.id (λ d. has_id c.args.others.now d ≡ true) c.loop-other.other-index
    (g.P.Pairs.pairs c.args.pairs.now) (g.P.Pairs.pairs c.loop-other.pairs) c.loop-other-test.false c.loop-other.invariant
