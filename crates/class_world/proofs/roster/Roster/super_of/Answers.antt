use Rattle.std.proofs.Common.{length}
use Rattle.class_world.specs.World.{super_of}
use Rattle.class_world.proofs.Indexes.{table_found, table_past, no_super}
use Rattle.class_world.proofs.roster.Roster.super_of.Goals as goal

pub returns-in-Some : goal.returns-in-Some
returns-in-Some c = table_found (super_of c.args.self.now.classes) (length c.args.self.now.classes) c.args.self.now.supers
    c.args.class _ c.args.self.now.extends c.in-Some.ensures.0 c.in-Some.ensures.1

pub returns-in-None : goal.returns-in-None
returns-in-None c = table_past (super_of c.args.self.now.classes) (length c.args.self.now.classes) c.args.self.now.supers
    c.args.class _ c.args.self.now.extends (no_super c.args.self.now.classes) c.in-None.ensures
