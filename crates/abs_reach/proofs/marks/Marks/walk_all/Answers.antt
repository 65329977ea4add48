use Rattle.abs_reach.proofs.Answering.{rising_of, named_of, some_of}
use Rattle.abs_reach.proofs.marks.Marks.walk_all.Goals as goal

pub walk_all-requires-clause-rising : goal.walk_all-requires-clause-rising
walk_all-requires-clause-rising g c = rising_of c.args.state.now c.requires c.cells.result.now c.cells.ensures

pub walk_all-requires-clause-there : goal.walk_all-requires-clause-there
walk_all-requires-clause-there g c = named_of c.args.state.now c.requires c.cells.result.now c.cells.ensures

pub returns : goal.returns
returns g c id = some_of c.args.state.now c.cells.result.now c.args.starts.now id _ c.cells.ensures (c.walk_all.ensures.met id)
