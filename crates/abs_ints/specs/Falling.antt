-- What it means that two ints fall in a case of an operator.
use Rattle.std.specs.Prelude.{ℤ, ◌≡◌, ◌+ℤ◌, ◌-ℤ◌, ◌<ℤ◌, Option, Some, None, IsSome, IfSome, IsSomeAnd, MatchOption}
use Rattle.lin_core.specs.Intervals.{IsIn}
use Rattle.jvm_values.specs.Ints.{int_result}
use Rattle.jvm_values.specs.declared.ints.IntOp.{IntOp}
use Rattle.jvm_values.specs.declared.ints.IntOp.TheVariants.{Add, Sub, Mul, Div, Rem, Shl, Shr, Ushr, And, Or, Xor, Narrow}
use Rattle.abs_ints.specs.Cases.{AllTrueOf}
use Rattle.abs_ints.specs.IntIntervals.{all_ints}
use Rattle.abs_ints.specs.declared.cases.IntCase.{IntCase}
use Rattle.abs_ints.specs.declared.cases.Way.{Way}
use Rattle.abs_ints.specs.declared.cases.Way.TheVariants.{Inside, Over, Under, Zero, Taken, Next}

-- the result of a sum or a difference before it is wrapped to 32 bits. The cases of the other operators tell of no exact result
abbrev pub exact_result : IntOp → ℤ → ℤ → Option ℤ
exact_result Add left right = Some (left +ℤ right)
exact_result Sub left right = Some (left -ℤ right)
exact_result Mul left right = None
exact_result Div left right = None
exact_result Rem left right = None
exact_result Shl left right = None
exact_result Shr left right = None
exact_result Ushr left right = None
exact_result And left right = None
exact_result Or left right = None
exact_result Xor left right = None
exact_result (Narrow kind) left right = None

-- a way is the one on which the machine goes on with two ints: there is a result, and the exact one, where it is told, is an
-- int, is above all ints, or is below all ints; or there is no result, since the divisor is 0. The two ways of conditions are
-- no operator's
abbrev pub GoesOn : Way → IntOp → ℤ → ℤ → Type 0
GoesOn Inside op left right = IsSome (int_result op left right) × IfSome (exact_result op left right) (λ n. IsIn n all_ints)
GoesOn Over op left right = IsSome (int_result op left right) × IsSomeAnd (exact_result op left right) (λ n. all_ints.hi <ℤ n)
GoesOn Under op left right = IsSome (int_result op left right) × IsSomeAnd (exact_result op left right) (λ n. n <ℤ all_ints.lo)
GoesOn Zero op left right = int_result op left right ≡ None
GoesOn Taken op left right = ⊥
GoesOn Next op left right = ⊥

-- the machine's own result, if there is one, lies where the case says, and the rows are true of it. Without an interval
-- of its own it is the left operand. Where the machine has no result, the case has none
abbrev pub IsAnswered : ℤ → ℤ → IntCase → Option ℤ → Type 0
IsAnswered left right case None = case.result ≡ None
IsAnswered left right case (Some n) = MatchOption case.result (n ≡ left) (λ interval. IsIn n interval) × AllTrueOf left right n case.rows

-- two ints fall in a case of an operator: they lie in its intervals, the machine's own result lies where it says, and its way
-- is taken
pub record FallsUnder (op : IntOp) (left right : ℤ) (case : IntCase) : Type 0 where
  pub left_in : IsIn left case.left
  pub right_in : IsIn right case.right
  pub answered : IsAnswered left right case (int_result op left right)
  pub way_taken : GoesOn case.way op left right
