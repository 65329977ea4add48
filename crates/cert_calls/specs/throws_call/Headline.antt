-- What the lines of `throws` claim.
use Rattle.std.specs.Prelude.{◌≡◌, ℕ, List, Result, IfOk}
use Rattle.class_program.specs.Programs.{Program}
use Rattle.input_desc.specs.declared.desc.Desc.{Desc}
use Rattle.input_steps.specs.declared.refused.Refused.{Refused}
use Rattle.desc_steps.specs.Headline.{NameProgram}
use Rattle.throw_report.specs.declared.ways.Report.{Report}
use Rattle.throw_report.specs.Answers.{AllEndAsReported}
use Rattle.throw_report.specs.Lines.{report_text}
use Rattle.check_call.specs.declared.outcome.Outcome.{Outcome}

-- The files and the description name a program and a description of its inputs, and the lines are those of a report; every state that fits
-- the description has a run that ends in a way that the report has: by a return only where it has `RETURNS`, and by a throw that nothing
-- catches only where it has the class of the thrown object.
pub record AllEndAsSaid (files : List (List ℕ)) (desc out : List ℕ) : Type 0 where
  pub program : Program
  pub described : Desc
  pub named : NameProgram files desc program described
  pub report : Report
  pub said : out ≡ report_text program.world report
  pub ends : AllEndAsReported program described report

-- The headline of `throws`: where the status is 0, every run ends in a way that the lines say.
abbrev pub AllEndAsSaidIfDone : List (List ℕ) → List ℕ → Result Outcome Refused → Type 0
AllEndAsSaidIfDone files desc result = IfOk result (λ outcome. outcome.status ≡ 0 → AllEndAsSaid files desc outcome.out)
