-- The ends of the intervals of cases are ints of 32 bits, where those of the operands are.
use Rattle.std.specs.Prelude.{Bool}
use Rattle.std.specs.List.{AllByRecursion}
use Rattle.std.specs.Option.{IfSome}
use Rattle.lin_core.specs.Intervals.{Bounds}
use Rattle.jvm_values.specs.declared.ints.IntOp.{IntOp}
use Rattle.jvm_values.specs.declared.ints.Cond.{Cond}
use Rattle.jvm_values.specs.declared.types.Kind.TheVariants as kinds
use Rattle.jvm_values.specs.Kinds.{IsOfKind}
use Rattle.abs_ints.specs.Comparing.{related, compared}
use Rattle.abs_ints.specs.Operating.{operated}
use Rattle.abs_ints.specs.declared.cases.IntCase.{IntCase}
use Rattle.abs_ints.specs.declared.cases.Way.{Way}
use Rattle.abs_ints.specs.declared.relations.Relation.{Relation}

-- an interval is one of ints: its least and its greatest number are ints of 32 bits
abbrev pub HasIntEnds : Bounds → Type 0
HasIntEnds a = IsOfKind kinds.Int a.lo × IsOfKind kinds.Int a.hi

-- a case is one of ints: the intervals of both operands are, and that of the result, if there is one
pub record IsIntCase (case : IntCase) : Type 0 where
  pub left : HasIntEnds case.left
  pub right : HasIntEnds case.right
  pub result : IfSome case.result HasIntEnds

-- The cases of an operator on two intervals of ints are cases of ints.
abbrev pub ResultsStayInts : Type 0
ResultsStayInts = (op : IntOp) (a b : Bounds) → HasIntEnds a → HasIntEnds b → AllByRecursion IsIntCase (operated op a b)

-- all cases of comparisons and of relations of two intervals are cases of ints
pub record StayInts (a b : Bounds) : Type 0 where
  pub compared : (condition : Cond) (same : Bool) → AllByRecursion IsIntCase (compared condition same a b)
  pub related : (relation : Relation) (way : Way) → IfSome (related relation way a b) IsIntCase

-- The cases of comparisons and of relations of two intervals of ints are cases of ints.
abbrev pub BranchesStayInts : Type 0
BranchesStayInts = (a b : Bounds) → HasIntEnds a → HasIntEnds b → StayInts a b
