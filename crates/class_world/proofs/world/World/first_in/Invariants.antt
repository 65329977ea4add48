use Rattle.std.proofs.Common.{◌≡◌, drop}
use Rattle.class_world.specs.declared.resolve.Wanted.TheVariants.{Method}
use Rattle.class_world.specs.Resolve.{first_found}
use Rattle.class_world.specs.inner.Seeking.{place_in}
use Rattle.class_world.proofs.world.World.first_in.Given as goal

abbrev pub invariant-loop-interface : goal.invariant-loop-interface
invariant-loop-interface l = first_found (place_in l.self.roster.classes Method l.name l.desc) (drop l.interface-index l.interfaces)
    ≡ first_found (place_in l.self.roster.classes Method l.name l.desc) l.interfaces
