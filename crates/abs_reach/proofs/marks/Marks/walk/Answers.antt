use Rattle.abs_reach.proofs.Answering.{rising_of, named_of, there_of, met_of, cyclic_of, twice_of}
use Rattle.abs_reach.proofs.marks.Marks.walk.Goals as goal

pub walk-requires-clause-rising : goal.walk-requires-clause-rising
walk-requires-clause-rising g c = rising_of c.args.state.now c.requires.good c.cells.result.now c.cells.ensures

pub walk-requires-clause-there : goal.walk-requires-clause-there
walk-requires-clause-there g c = named_of c.args.state.now c.requires.good c.cells.result.now c.cells.ensures

pub walk-requires-clause-start : goal.walk-requires-clause-start
walk-requires-clause-start g c = there_of c.args.state.now c.requires.good c.cells.result.now c.cells.ensures c.args.start c.requires.there

pub returns-clause-met : goal.returns-clause-met
returns-clause-met g c id = met_of c.args.state.now c.cells.result.now c.args.start id _ c.cells.ensures (c.walk.ensures.met id)

pub returns-clause-cyclic : goal.returns-clause-cyclic
returns-clause-cyclic g c = cyclic_of c.args.state.now c.cells.result.now c.args.start _ c.cells.ensures c.walk.ensures.cyclic

pub returns-clause-twice : goal.returns-clause-twice
returns-clause-twice g c = twice_of c.args.state.now c.cells.result.now c.args.start _ c.cells.ensures c.walk.ensures.twice
