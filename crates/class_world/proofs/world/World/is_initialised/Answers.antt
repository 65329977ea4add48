use Rattle.class_world.proofs.Indexes.{initialised_found, initialised_past}
use Rattle.class_world.proofs.world.World.is_initialised.Goals as goal

pub returns-in-Some : goal.returns-in-Some
returns-in-Some c = initialised_found c.args.self.now.roster.classes c.args.self.now.index.initialised c.args.class _
    c.args.self.now.indexed.initialised c.in-Some.ensures.0 c.in-Some.ensures.1

pub returns-in-None : goal.returns-in-None
returns-in-None c = initialised_past c.args.self.now.roster.classes c.args.self.now.index.initialised c.args.class
    c.args.self.now.indexed.initialised c.in-None.ensures
