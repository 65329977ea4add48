-- Words for the calls that say what becomes of nodes and of bytes.
use Rattle.std.specs.Prelude.{◌≡◌, ℕ, List, Result, Err, IfOk}
use Rattle.class_program.specs.Programs.{Program}
use Rattle.frame_types.specs.Tables.{CodeTypes}
use Rattle.input_desc.specs.declared.desc.Desc.{Desc}
use Rattle.input_desc.specs.declared.states.StateInput.{StateInput}
use Rattle.input_steps.specs.declared.refused.Refused.{Refused}
use Rattle.loop_check.specs.declared.fault.LoopFault.{LoopFault}
use Rattle.loop_check.specs.declared.fault.LoopFault.TheVariants as faults
use Rattle.loop_check.specs.Laws.{AllGoOn}
use Rattle.desc_steps.specs.Answers.{AnswersAs}
use Rattle.input_steps.specs.declared.refused.Refused.TheVariants.{Memory}
use Rattle.check_call.specs.declared.outcome.Outcome.{Outcome}
use Rattle.cert_calls.specs.loop_call.Answers.{OfCert}
use Rattle.cert_calls.specs.loop_call.Lines.{refused_for}

-- what `loop` answers for a fault
abbrev pub IsSaidOf : LoopFault → Result Outcome Refused → Type 0
IsSaidOf faults.Memory result = result ≡ Err Memory
IsSaidOf fault result = AnswersAs (refused_for fault) result

-- where the status is 0, every state that fits the description goes on for ever
abbrev pub GoOnIfDone : Program → Desc → Result Outcome Refused → Type 0
GoOnIfDone p desc result = IfOk result (λ outcome. outcome.status ≡ 0 → AllGoOn p desc)

-- what `loop` answers for the bytes of a certificate, and that no run ends where its status is 0
abbrev pub Shows : List ℕ → Program → (ℕ → CodeTypes) → Desc → StateInput → Result Outcome Refused → Type 0
Shows cert p typing desc input result = OfCert cert p typing desc input result × GoOnIfDone p desc result
