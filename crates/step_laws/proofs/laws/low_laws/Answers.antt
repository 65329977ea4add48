use Rattle.step_laws.proofs.Premises.{fresh_ids, sizes_kept}
use Rattle.step_laws.proofs.laws.low_laws.Goals as goal

pub returns : goal.returns
returns c = record {
  null = c.null_splits.ensures;
  classes = c.classes_split.ensures;
  equal = c.equal_splits.ensures;
  writes = c.writes_go_on.ensures;
  fresh = fresh_ids c.values_go_on.ensures;
  objects = c.objects_go_on.ensures;
  arrays = c.arrays_go_on.ensures;
  items = c.items_go_on.ensures;
  int_writes = c.int_writes_go_on.ensures;
  ints_keep = c.int_writes_keep.ensures;
  number_writes = c.number_writes_go_on.ensures;
  numbers_keep = c.number_writes_keep.ensures;
  drop = sizes_kept c.dropped_ids_keep_sizes.ensures;
}
