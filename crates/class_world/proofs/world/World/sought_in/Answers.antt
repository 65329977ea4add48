use Rattle.std.proofs.Common.{sym, subst}
use Rattle.class_world.specs.inner.Once.{IsSought}
use Rattle.class_world.proofs.Gathering.{row_found, row_past}
use Rattle.class_world.proofs.world.World.sought_in.Goals as goal

pub returns-in-Some : goal.returns-in-Some
returns-in-Some c =
    let world = c.args.self.now.roster.classes in
    subst (IsSought world c.args.class) (sym c.as_slice.ensures)
    (row_found world c.args.self.now.sought c.args.class _ c.args.self.now.ordered c.in-Some.ensures.0 c.in-Some.ensures.1)

pub returns-in-None : goal.returns-in-None
returns-in-None c = row_past c.args.self.now.roster.classes c.args.class c.args.self.now.sought c.args.self.now.ordered c.in-None.ensures
