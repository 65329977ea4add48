-- Words for the calls that say what becomes of nodes and of bytes.
use Rattle.std.specs.Prelude.{◌≡◌, Result, IfOk}
use Rattle.abs_cells.specs.AbstractStates.{AbstractState}
use Rattle.class_program.specs.Programs.{Program}
use Rattle.input_desc.specs.declared.desc.Desc.{Desc}
use Rattle.input_steps.specs.declared.refused.Refused.{Refused}
use Rattle.bound_check.specs.declared.bound.Bound.{Bound}
use Rattle.bound_check.specs.Answers.{AllBounded, OwnRunsBounded}
use Rattle.check_call.specs.declared.outcome.Outcome.{Outcome}
use Rattle.cert_calls.specs.bound_call.Lines.{bounded}

-- where the status is 0 the outcome is a bound's, and it holds of states that fit a description whose initial state is the root
pub record IsOfBound (p : Program) (root : AbstractState) (outcome : Outcome) : Type 0 where
  pub bound : Bound
  pub is : outcome ≡ bounded p.world bound
  pub ends : OwnRunsBounded p root bound

-- where the status is 0, the outcome is a bound's, and runs from a root's states keep it
abbrev pub EndWithin : Program → AbstractState → Result Outcome Refused → Type 0
EndWithin p root result = IfOk result (λ outcome. outcome.status ≡ 0 → IsOfBound p root outcome)

-- an outcome is a bound's, and runs keep it from the states that fit a description
pub record IsOfDescribed (p : Program) (desc : Desc) (outcome : Outcome) : Type 0 where
  pub bound : Bound
  pub is : outcome ≡ bounded p.world bound
  pub ends : AllBounded p desc bound

-- where the status is 0, the outcome is a bound's, and runs from a description's states keep it
abbrev pub EndAsDescribed : Program → Desc → Result Outcome Refused → Type 0
EndAsDescribed p desc result = IfOk result (λ outcome. outcome.status ≡ 0 → IsOfDescribed p desc outcome)
