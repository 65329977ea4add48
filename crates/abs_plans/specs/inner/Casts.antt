-- Casts and tests of types, by what is known of the reference.
use Rattle.std.specs.Prelude.{ℕ, Bool, true, false, ◌&&◌, if◌then◌else◌, List}
use Rattle.jvm_values.specs.declared.types.Ty.{Ty}
use Rattle.abs_cells.specs.Cells.{cell_at}
use Rattle.abs_plans.specs.declared.casts.CastForm.{CastForm}
use Rattle.abs_plans.specs.declared.casts.CastForm.TheVariants as forms
use Rattle.abs_plans.specs.declared.casts.Verdict.{Verdict}
use Rattle.abs_plans.specs.declared.casts.Verdict.TheVariants as verdicts
use Rattle.abs_turns.specs.Plans.{Plan, steps, by_null}
use Rattle.abs_turns.specs.Needs.{may_be_null}
use Rattle.abs_turns.specs.Turns.{Here}
use Rattle.abs_turns.specs.Table.{Cast, checkcast_of, instanceof_of, one_step, cell_here, is_null_here, cell_bound, is_bound_below}
use Rattle.abs_turns.specs.Table.{is_known_cell, undecided}

-- the steps of a cast, which leaves the whole stack as it is, or of a test of a type, which puts a number on the rest of it (JVM
-- specification 6.5.checkcast, 6.5.instanceof)
abbrev pub cast_of : Here → CastForm → List ℕ → List ℕ → Cast
cast_of here forms.Check whole rest = checkcast_of here whole
cast_of here forms.Test whole rest = instanceof_of here rest

-- a form asks whether an object of the type is null: a test of a type does, and a cast doesn't
abbrev pub asks : CastForm → Bool
asks forms.Check = false
asks forms.Test = true

-- what is known of a reference that is cast to a type or tested for it: it is null; or its object is of the type; or it is to be split by
-- null first; or its object, of a known class, isn't of the type; or that is open
abbrev pub verdict_of : Here → Ty → ℕ → Bool → Verdict
verdict_of here t x asked =
    if is_null_here here x then verdicts.Null
    else if is_bound_below here t (cell_bound (cell_here here x)) then
    (if asked && may_be_null (cell_at here.state x) then verdicts.Split else verdicts.Passed)
    else if may_be_null (cell_at here.state x) then verdicts.Split
    else if is_known_cell (cell_here here x) then verdicts.Failed
    else verdicts.Open

-- the plan of a cast or of a test of a type, by what is known of the reference
abbrev pub verdict_plan : Here → Ty → ℕ → Cast → Verdict → Plan
verdict_plan here t x cast verdicts.Null = one_step cast.null
verdict_plan here t x cast verdicts.Passed = one_step cast.passed
verdict_plan here t x cast verdicts.Split = by_null x
verdict_plan here t x cast verdicts.Failed = one_step cast.failed
verdict_plan here t x cast verdicts.Open = steps (undecided here t x cast)
