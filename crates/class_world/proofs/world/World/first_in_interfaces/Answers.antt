use Rattle.std.proofs.Common.{◌∙◌}
use Rattle.class_world.specs.declared.resolve.Wanted.TheVariants.{Method}
use Rattle.class_world.specs.inner.Seeking.{place_in}
use Rattle.class_world.proofs.world.World.first_in_interfaces.Goals as goal

pub returns : goal.returns
returns c = c.first_in.ensures ∙ c.sought_in.ensures (place_in c.args.self.now.roster.classes Method c.args.name.now c.args.desc.now)
