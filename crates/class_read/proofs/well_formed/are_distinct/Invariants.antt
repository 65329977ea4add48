use Rattle.std.proofs.Common.{◌≡◌, map, take}
use Rattle.std.specs.List.{IsDistinct}
use Rattle.class_read.specs.Rules.{key_of, same_key}
use Rattle.class_read.proofs.well_formed.are_distinct.Given as goal

abbrev pub invariant-loop-m : goal.invariant-loop-m
invariant-loop-m l = record {
  keys : l.seen ≡ map (key_of l.pool) (take l.m-index l.members);
  distinct : IsDistinct same_key (map (key_of l.pool) (take l.m-index l.members));
}
