use Rattle.std.proofs.Common.{◌<◌, length, get_or, arith}
use Rattle.std.proofs.lemmas.Option.{slice_get-get_or}
use Rattle.std.proofs.lemmas.Result.{on_ok_weaker}
use Rattle.abs_widen.proofs.Wanting.{both_put}
use Rattle.abs_widen.proofs.pairing.join_cells.Goals as goal

pub returns : goal.returns
returns g c =
    let low : c.args.m < length c.args.pairs.now = omega (arith, c.requires.order, c.requires.there) in
    on_ok_weaker c.put_if-2.result
    (λ e cells first_is second_is.
    both_put c.args.a.now c.args.b.now c.args.pairs.now cells c.args.m c.args.n (get_or c.args.pairs.now c.args.m (0, 0))
    (get_or c.args.pairs.now c.args.n (0, 0)) c.args.first.now c.args.second.now
    (slice_get-get_or c.args.pairs.now c.args.m (0, 0) low) (slice_get-get_or c.args.pairs.now c.args.n (0, 0) c.requires.there)
    first_is second_is
    c.is_one-one.result c.is_shared-share.result c.is_one-one.ensures c.is_shared-share.ensures
    (g.P.Pairs.pairs c.args.eq.now) (g.P.Pairs.pairs c.put_if.new.list) (g.P.Pairs.pairs c.args.shared.now)
    (g.P.Pairs.pairs c.put_if-2.new.list) c.in_ok-put_if.ensures e)
    c.put_if-2.ensures
