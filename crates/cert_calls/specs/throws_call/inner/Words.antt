-- Words for the calls that say what becomes of nodes and of bytes.
use Rattle.std.specs.Prelude.{◌≡◌, Result, IfOk}
use Rattle.abs_cells.specs.AbstractStates.{AbstractState}
use Rattle.class_program.specs.Programs.{Program}
use Rattle.input_desc.specs.declared.desc.Desc.{Desc}
use Rattle.input_steps.specs.declared.refused.Refused.{Refused}
use Rattle.throw_report.specs.declared.ways.Report.{Report}
use Rattle.throw_report.specs.Answers.{AllEndAsReported, OwnRunsEnd}
use Rattle.check_call.specs.declared.outcome.Outcome.{Outcome}
use Rattle.cert_calls.specs.throws_call.Answers.{reported}

-- where the status is 0 the outcome is a report's, and runs end so, from states that fit a description whose initial state is the root
pub record IsOfReport (p : Program) (root : AbstractState) (outcome : Outcome) : Type 0 where
  pub report : Report
  pub is : outcome ≡ reported p.world report
  pub ends : OwnRunsEnd p root report

-- where the status is 0, the outcome is a report's, and runs from a root's states end as it says
abbrev pub EndAsReported : Program → AbstractState → Result Outcome Refused → Type 0
EndAsReported p root result = IfOk result (λ outcome. outcome.status ≡ 0 → IsOfReport p root outcome)

-- an outcome is a report's, and runs end as it says from the states that fit a description
pub record IsOfDescribed (p : Program) (desc : Desc) (outcome : Outcome) : Type 0 where
  pub report : Report
  pub is : outcome ≡ reported p.world report
  pub ends : AllEndAsReported p desc report

-- where the status is 0, the outcome is a report's, and runs from a description's states end as it says
abbrev pub EndAsDescribed : Program → Desc → Result Outcome Refused → Type 0
EndAsDescribed p desc result = IfOk result (λ outcome. outcome.status ≡ 0 → IsOfDescribed p desc outcome)
