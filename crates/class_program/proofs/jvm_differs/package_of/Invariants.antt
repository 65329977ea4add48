use Rattle.std.proofs.Common.{◌≡◌, ◌≤◌, take}
use Rattle.class_program.specs.JvmDiffers.{package_of}
use Rattle.class_program.proofs.jvm_differs.package_of.Given as goal

abbrev pub invariant-loop-index : goal.invariant-loop-index
invariant-loop-index l = (take l.end l.name ≡ package_of (take l.index l.name)) × (l.end ≤ l.index)
