use Rattle.std.proofs.Common.{length, refl}
use Rattle.std.proofs.lemmas.Option.{slice_get_read}
use Rattle.abs_match.proofs.Testing.{cell_more, all_of, cell_there}
use Rattle.abs_match.proofs.matching.least_failing.Goals as goal

pub failing-found-requires-clause-at : goal.failing-found-requires-clause-at
failing-found-requires-clause-at g c =
    cell_there (g.T.Types.sub c.args.types.now) c.args.state.now c.args.target.now c.args.entries.now c.args.clause
    c.cells-id-items.result.now c.cells-id-items.ensures c.requires.lists.rise c.loop-id.id-index c.loop-id-item.result
    (slice_get_read c.cells-id-items.result.now (length c.cells-id-items.result.now) c.loop-id.id-index c.loop-id-item.result refl
    c.loop-id-test.true c.loop-id-item.is)

pub loop-id-preserved : goal.loop-id-preserved
loop-id-preserved g c =
    cell_more (g.T.Types.sub c.args.types.now) c.args.state.now c.args.target.now c.args.entries.now c.args.clause
    c.cells-id-items.result.now c.cells-id-items.ensures c.loop-id.id-index c.loop-id-item.result c.loop-id.least
    c.failing-found.result c.lower_of-least.result
    (slice_get_read c.cells-id-items.result.now (length c.cells-id-items.result.now) c.loop-id.id-index c.loop-id-item.result refl
    c.loop-id-test.true c.loop-id-item.is)
    c.failing-found.ensures c.lower_of-least.ensures c.loop-id.invariant

pub returns : goal.returns
returns g c = all_of (g.T.Types.sub c.args.types.now) c.args.state.now c.args.target.now c.args.entries.now c.args.clause
    c.cells-id-items.result.now c.cells-id-items.ensures c.loop-id.id-index c.loop-id.least c.loop-id-test.false c.loop-id.invariant
