-- What the lines of `bound` claim.
use Rattle.std.specs.Prelude.{◌≡◌, ℕ, List, Result, IfOk}
use Rattle.class_program.specs.Programs.{Program}
use Rattle.input_desc.specs.declared.desc.Desc.{Desc}
use Rattle.input_steps.specs.declared.refused.Refused.{Refused}
use Rattle.desc_steps.specs.Headline.{NameProgram}
use Rattle.bound_check.specs.declared.bound.Bound.{Bound}
use Rattle.bound_check.specs.Answers.{AllBounded}
use Rattle.bound_check.specs.Lines.{bound_lines}
use Rattle.check_call.specs.declared.outcome.Outcome.{Outcome}

-- The files and the description name a program and a description of its inputs, and the lines are those of a bound;
-- every state that fits the description has a run that ends after at most the bound's value of instructions.
pub record AllEndWithin (files : List (List ℕ)) (desc out : List ℕ) : Type 0 where
  pub program : Program
  pub described : Desc
  pub named : NameProgram files desc program described
  pub bound : Bound
  pub said : out ≡ bound_lines program.world bound
  pub bounded : AllBounded program described bound

-- The headline of `bound`: where the status is 0, every run ends within the bound that the lines say.
abbrev pub AllEndWithinIfDone : List (List ℕ) → List ℕ → Result Outcome Refused → Type 0
AllEndWithinIfDone files desc result = IfOk result (λ outcome. outcome.status ≡ 0 → AllEndWithin files desc outcome.out)
