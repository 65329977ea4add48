use Rattle.std.proofs.Common.{length, ◌∙◌}
use Rattle.class_world.specs.inner.Once.{interfaces_once}
use Rattle.class_world.proofs.Indexes.{table_found, table_past, no_interfaces}
use Rattle.class_world.proofs.roster.Roster.interfaces_once.Goals as goal

pub returns-in-Some : goal.returns-in-Some
returns-in-Some c = c.as_slice.ensures ∙ table_found (interfaces_once c.args.self.now.classes) (length c.args.self.now.classes)
    c.args.self.now.interfaces c.args.class _ c.args.self.now.implements c.in-Some.ensures.0 c.in-Some.ensures.1

pub returns-in-None : goal.returns-in-None
returns-in-None c = table_past (interfaces_once c.args.self.now.classes) (length c.args.self.now.classes) c.args.self.now.interfaces
    c.args.class _ c.args.self.now.implements (no_interfaces c.args.self.now.classes) c.in-None.ensures
