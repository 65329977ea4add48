use Rattle.std.proofs.Common.{◌≡◌, ◌+◌, drop}
use Rattle.class_base.specs.Types.{array_depth}
use Rattle.class_base.proofs.types.array_depth.Given as goal

abbrev pub invariant-loop-depth : goal.invariant-loop-depth
invariant-loop-depth l = l.depth + array_depth (drop l.depth l.bytes) ≡ array_depth l.bytes
