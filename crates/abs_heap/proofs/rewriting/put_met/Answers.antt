use Rattle.std.proofs.Common.{◌≡◌, true}
use Rattle.abs_cells.specs.IdSets.{has_id}
use Rattle.abs_heap.proofs.After.{met_gain, met_none}
use Rattle.abs_heap.proofs.rewriting.put_met.Goals as goal

pub returns-in_ok-put_between : goal.returns-in_ok-put_between
returns-in_ok-put_between g c = met_gain c.args.cells.now c.args.null (λ x. has_id c.args.ids.now x ≡ true)
    (λ x. has_id c.args.others.now x ≡ true) (g.P.Pairs.pairs c.args.pairs.now) (g.P.Pairs.pairs c.put_between.new.pairs)
    c.if-not-null.true c.in_ok-put_between.ensures

pub returns-else-not-null : goal.returns-else-not-null
returns-else-not-null g c = met_none c.args.cells.now c.args.null (λ x. has_id c.args.ids.now x ≡ true)
    (λ x. has_id c.args.others.now x ≡ true) (g.P.Pairs.pairs c.args.pairs.now) c.if-not-null.false
