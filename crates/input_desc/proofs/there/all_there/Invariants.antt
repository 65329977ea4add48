use Rattle.std.proofs.Common.{◌≡◌, ◌++◌, map, Some}
use Rattle.std.specs.Vec.Iter.{into_iter_items}
use Rattle.input_desc.proofs.there.all_there.Given as goal

abbrev pub invariant-loop-item : goal.invariant-loop-item
invariant-loop-item g l = record {
  whole : l.yielded ++ into_iter_items l.item-iterator ≡ into_iter_items l.initial.item-iterator;
  done : map Some l.there ≡ l.yielded;
}
