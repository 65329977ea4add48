use Rattle.std.proofs.Common.{take}
use Rattle.std.specs.List.{AllZip}
use Rattle.jvm_heaps.specs.Regions.{IsRegion}
use Rattle.input_fits.proofs.regions.regions.Given as goal

abbrev pub invariant-loop-value : goal.invariant-loop-value
invariant-loop-value l = AllZip (IsRegion l.heap) (take l.value-index l.values) l.found
