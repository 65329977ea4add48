use Rattle.std.proofs.Common.{◌≡◌, drop}
use Rattle.std.specs.Prelude.{map}
use Rattle.class_world.specs.Linking.{first_missing}
use Rattle.class_world.proofs.linking.Hierarchy.all_present.Given as goal

abbrev pub invariant-loop-name : goal.invariant-loop-name
invariant-loop-name l = first_missing l.self.roster.now.classes (map (λ r. r.now) (drop l.name-index l.names)) ≡ first_missing
    l.self.roster.now.classes (map (λ r. r.now) l.names)
