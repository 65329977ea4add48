-- The case of a narrowing of an abstract int (JVM specification, section 6.5, `i2b`, `i2c`, `i2s`).
use Rattle.std.specs.Prelude.{ℤ, int_le, Bool, ◌&&◌, Option, Some, None, List, [], ◌∷◌, if◌then◌else◌}
use Rattle.lin_core.specs.Intervals.{Bounds, interval_of}
use Rattle.jvm_values.specs.Kinds.{least_of, greatest_of}
use Rattle.jvm_values.specs.declared.types.Kind.{Kind}
use Rattle.abs_ints.specs.Cases.{case_between, inside, only}
use Rattle.abs_ints.specs.declared.cases.IntCase.{IntCase}
use Rattle.abs_ints.specs.declared.cases.Way.TheVariants.{Inside}

-- all numbers of an interval are of a kind
abbrev pub are_of_kind : Kind → Bounds → Bool
are_of_kind kind a = int_le (least_of kind) a.lo && int_le a.hi (greatest_of kind)

-- the case of a narrowing (JVM specification, 6.5.i2b, 6.5.i2c, 6.5.i2s): an operand of the kind stays as it is; else the
-- result is some number of the kind. The right operand plays no part
abbrev pub narrow_cases : Kind → Bounds → Bounds → List IntCase
narrow_cases kind a b = only (if are_of_kind kind a then case_between Inside (Some a) (Some b) [] else inside a b
    (interval_of (least_of kind) (greatest_of kind)) [])
