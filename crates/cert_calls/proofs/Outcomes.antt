-- What comes out: the status is 0, or what is refused is named.
use Rattle.std.proofs.Common.{◌≡◌, ◌⊎◌, ℕ, List, Ok, inl, inr, refl}
use Rattle.class_program.specs.Programs.{Program}
use Rattle.frame_types.specs.Tables.{CodeTypes}
use Rattle.input_desc.specs.declared.desc.Desc.{Desc}
use Rattle.input_desc.specs.declared.states.StateInput.{StateInput}
use Rattle.cert_form.specs.Faults.{fault_text}
use Rattle.cert_check.specs.Valid.{graph_item}
use Rattle.cert_check.specs.declared.refusal.Cause.TheVariants as causes
use Rattle.loop_check.specs.declared.fault.LoopFault.{LoopFault}
use Rattle.loop_check.specs.declared.fault.LoopFault.TheVariants as faults
use Rattle.loop_check.specs.Lines.{cause_text as loop_cause}
use Rattle.check_call.specs.declared.outcome.Outcome.{Outcome}
use Rattle.check_call.specs.Causes.{cause_text}
use Rattle.check_call.proofs.Outcomes.{IsRefusal}
use Rattle.cert_calls.specs.loop_call.Answers.{OfNodes, OfCert, Answers}
use Rattle.cert_calls.specs.loop_call.Lines.{never_ends, refused_line, refused_for}

pub refused_status : (fault : LoopFault) → (refused_for fault).status ≡ 2
refused_status (faults.Graph node what) = refl
refused_status (faults.EndNode node) = refl
refused_status (faults.IdleCycle node) = refl
refused_status faults.NotFitting = refl
refused_status faults.Memory = refl

-- it is a refusal of a loop
abbrev pub IsLoopRefusal : Outcome → Type 0
IsLoopRefusal outcome = (cause : List ℕ) × (outcome ≡ record { status = 2; out = refused_line cause })

abbrev pub IsLoopOutcome : Outcome → Type 0
IsLoopOutcome outcome = (outcome ≡ never_ends) ⊎ (IsRefusal outcome ⊎ IsLoopRefusal outcome)

of_fault : (fault : LoopFault) (outcome : Outcome) → outcome ≡ refused_for fault → IsLoopOutcome outcome
of_fault (faults.Graph node what) outcome e = inr (inl (graph_item node what, (cause_text (causes.Graph what), e)))
of_fault (faults.EndNode node) outcome e = inr (inr (loop_cause (faults.EndNode node), e))
of_fault (faults.IdleCycle node) outcome e = inr (inr (loop_cause (faults.IdleCycle node), e))
of_fault faults.NotFitting outcome e = inr (inr (loop_cause faults.NotFitting, e))
of_fault faults.Memory outcome e = inr (inr (loop_cause faults.Memory, e))

of_cert : (cert : List ℕ) (p : Program) (typing : ℕ → CodeTypes) (desc : Desc) (input : StateInput) (outcome : Outcome)
    → OfCert cert p typing desc input (Ok outcome) → IsLoopOutcome outcome
of_cert cert p typing desc input outcome (inl h) = inr (inl (0, (fault_text h.0, h.1.1)))
of_cert cert p typing desc input outcome (inr h) = by h.1.1.1.1
  where
    by : OfNodes p typing desc input h.1.1.0 (Ok outcome) → IsLoopOutcome outcome
    by (inl shown) = inl shown.1
    by (inr fault) = of_fault fault.0 outcome fault.1.1.1

pub loop_outcome : (cert state desc : List ℕ) (files : List (List ℕ)) (outcome : Outcome) → Answers cert state desc files (Ok outcome)
    → IsLoopOutcome outcome
loop_outcome cert state desc files outcome a =
    let text = a.1.1 in
    let given = text.1.1 in
    let world = given.1.1 in
    let entry = world.1.1 in
    let same = entry.1.1 in
    let program = same.1.1 in
    let calls = program.1.1 in
    let typing = calls.1.1 in
    let described = typing.1.1 in
    let input = described.1.1 in
    of_cert cert program.0 typing.0 described.0 input.0 outcome input.1.1
