use Rattle.abs_cells.specs.IdSets.{has_id}
use Rattle.abs_heap.proofs.PairGains.{partner_next, partners_all}
use Rattle.abs_heap.proofs.gaining.partners.Goals as goal

pub loop-other-preserved : goal.loop-other-preserved
loop-other-preserved g c m =
    partner_next c.args.id (g.P.Pairs.pairs c.args.pairs.now) c.loop-other.other m c.is_pair-wanted.result (has_id c.loop-other.set m)
    (has_id c.put_if.new.ids m) c.is_pair-wanted.ensures (c.put_if.ensures m) (c.loop-other.invariant m)

pub returns : goal.returns
returns g c m =
    partners_all c.args.id (g.P.Pairs.pairs c.args.pairs.now) c.loop-other.other m (has_id c.loop-other.set m) c.rise.ensures
    c.loop-other-test.false (c.loop-other.invariant m)
