use Rattle.std.proofs.Common.{◌≡◌, take, drop}
use Rattle.class_world.specs.Linking.{first_broken, duplicate_class}
use Rattle.class_world.specs.inner.Tables.{names_of}
use Rattle.class_world.proofs.named.names_of.Given as goal

abbrev pub invariant-loop-class : goal.invariant-loop-class
invariant-loop-class l = record {
  names : l.names ≡ names_of (take l.class l.classes);
  kept : first_broken (duplicate_class l.classes) l.class (drop l.class l.classes) ≡ first_broken (duplicate_class l.classes) 0 l.classes;
}
