use Rattle.std.proofs.Common.{◌∙◌, ap}
use Rattle.jvm_heaps.specs.Regions.{marked_from}
use Rattle.jvm_heaps.proofs.Places.{region_of}
use Rattle.jvm_heaps.proofs.regions.region.Goals as goal

pub returns : goal.returns
returns c = region_of c.args.heap.now c.args.value c.in_ok-marks.marks.items c.in_ok-numbers.numbers
    (c.in_ok-numbers.ensures ∙ ap (marked_from 0) c.deref.ensures.value) c.in_ok-marks.ensures.exact
