use Rattle.std.proofs.Common.{◌≡◌, map, take}
use Rattle.std.specs.Prelude.{slice_set}
use Rattle.abs_heap.specs.Names.{name_in}
use Rattle.abs_heap.proofs.rewriting.set_ids.Given as goal

abbrev pub invariant-loop-place : goal.invariant-loop-place
invariant-loop-place l = l.named ≡ map (name_in l.names) (take l.place (slice_set l.ids l.field l.w))
