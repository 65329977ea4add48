-- Tests of operands in the code, seen as the definitions'.
use Rattle.abs_plans.specs.declared.testing.Passing.{Passing as PassingSeen}
use Rattle.abs_plans.specs.declared.testing.Passing.TheVariants as tests
use Rattle.abs_turns.specs.Needs.{Passing, passes, fails, splits}

-- how an operand passes its test in the code, as the definitions say it
abbrev pub passing_seen : PassingSeen → Passing
passing_seen tests.Passes = passes
passing_seen tests.Fails = fails
passing_seen tests.Splits = splits
