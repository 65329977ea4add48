use Rattle.std.proofs.Common.{◌≡◌, drop}
use Rattle.class_world.specs.Linking.{first_broken, rule_of}
use Rattle.class_world.proofs.linking.Hierarchy.keeps.Given as goal

abbrev pub invariant-loop-class : goal.invariant-loop-class
invariant-loop-class l = first_broken (rule_of l.rule l.self.roster.now.classes) l.class (drop l.class l.self.roster.now.classes)
    ≡ first_broken (rule_of l.rule l.self.roster.now.classes) 0 l.self.roster.now.classes
