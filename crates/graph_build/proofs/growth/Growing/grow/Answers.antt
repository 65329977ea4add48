use Rattle.graph_build.specs.inner.Working.{Work, seen}
use Rattle.graph_build.proofs.Adding.{kept_within}
use Rattle.graph_build.proofs.growth.Growing.grow.Goals as goal

pub set_by-requires-in-Children : goal.set_by-requires-in-Children
set_by-requires-in-Children g c =
    let start : Work = record { nodes = c.args.self.now.graph; parents = c.args.self.now.parents; waiting = c.pop.new.self.0 } in
    kept_within start (seen c.add_all.new.self) c.in-Children.states c.args.n c.args.n c.in_ok-named-in-Children.ensures.added
    c.requires.within
