use Rattle.abs_heap.proofs.Choosing.{chosen_gain}
use Rattle.abs_heap.proofs.compatible.put_compatible.Goals as goal
use Rattle.std.proofs.lemmas.Result.{on_ok_weaker}

pub returns-in-Some : goal.returns-in-Some
returns-in-Some g c = on_ok_weaker c.put_with.result
    (λ h. chosen_gain (g.T.Types.sub c.args.types.now) c.args.cells.now c.args.id _ c.args.others.now _ _ _ c.in-Some.ensures
    c.compatible_ids.ensures h) c.put_with.ensures
