-- From the contents that were read to the answer for them.
use Rattle.std.proofs.Common.{◌≡◌, ◌≤◌, ℕ, List, [], ◌∷◌, length, map, Ok, Err, refl, sym, ap, ◌∙◌, subst, arith, inl, inr}
use Rattle.std.proofs.lemmas.List.{length-map}
use Rattle.io_ports.specs.Told.{Told}
use Rattle.class_calls.specs.declared.command_rows.table.Request.{Request}
use Rattle.jterm.specs.declared.verdict.Verdict.{Verdict}
use Rattle.input_steps.specs.declared.refused.Place.{Place}
use Rattle.input_steps.specs.declared.refused.Fault.{Fault}
use Rattle.input_steps.specs.declared.refused.Refused.TheVariants.{At}
use Rattle.jterm.specs.declared.inputs.Failure.TheVariants.{Broken}
use Rattle.class_calls.specs.declared.command_rows.table.Request.TheVariants.{Prove, Check, Run, Asm, Generate, Migrate, Bound, Loop, Its, Throws}
use Rattle.class_calls.specs.command_rows.Rows.{Takes}
use Rattle.class_calls.proofs.OneCommand.{commands_taken}
use Rattle.jterm.specs.Decision.{IsAnswer, HoldsClaim}
use Rattle.jterm.specs.Outside.{AreContents}
use Rattle.jterm.specs.inner.Failure.{AreOfCommand, IsAnswered, HasCause}
use Rattle.jterm.proofs.ReadingOrder.{contents_length}
use Rattle.check_call.specs.Answers as check
use Rattle.cert_making.specs.migrate_call.Answers as migrate
use Rattle.cert_calls.specs.loop_call.Answers as looping
use Rattle.cert_calls.specs.bound_call.Answers as bounding
use Rattle.cert_calls.specs.throws_call.Answers as throws
use Rattle.jterm.proofs.Checking.{bound_judged, check_judged, migrate_judged, loop_judged, throws_judged, judged_low}
use Rattle.jterm.proofs.Proving.{proved_low}
use Rattle.jterm.proofs.Ruling.{ruled_low}

-- what was read for a command is what its request takes
pub takes_read : {A : Type 0} (f : A → List ℕ) (limits : ℕ → ℕ) (request : Request) (names : List (List ℕ)) (held : List ℕ → Told)
    (contents : List (List ℕ)) (inputs : List A)
    → map f inputs ≡ contents → AreOfCommand request names → AreContents limits held names contents → Takes request (length inputs)
takes_read f limits request names held contents inputs same of are =
    let long : length names ≡ length inputs = sym
    (sym (length-map inputs f) ∙ (ap length same ∙ contents_length limits held names contents are)) in
    subst (λ (count : ℕ). Takes request count) long (commands_taken of.0 request names of.1)

-- a verdict's status is at most 2
status_low : (request : Request) (files : List (List ℕ)) (verdict : Verdict) → IsAnswer request files (Ok verdict) → verdict.status ≤ 2
status_low (Prove nodes) [] verdict answer = absurd answer
status_low (Prove nodes) (desc ∷ classes) verdict answer = let low = proved_low nodes desc classes verdict answer in omega (arith, low)
status_low Check [] verdict answer = absurd answer
status_low Check (cert ∷ []) verdict answer = absurd answer
status_low Check (cert ∷ desc ∷ classes) verdict answer =
    judged_low (check.Answers cert desc classes) (check_judged cert desc classes) verdict answer
status_low (Run fuel) [] verdict answer = absurd answer
status_low (Run fuel) (state ∷ classes) verdict answer = let none = answer.0 in omega (arith, none)
status_low Asm [] verdict answer = absurd answer
status_low Asm (listing ∷ []) verdict answer = let none = answer.0 in omega (arith, none)
status_low Asm (listing ∷ more ∷ files) verdict answer = absurd answer
status_low (Generate n) [] verdict answer = let none = answer.0 in omega (arith, none)
status_low (Generate n) (file ∷ files) verdict answer = absurd answer
status_low Migrate [] verdict answer = absurd answer
status_low Migrate (cert ∷ []) verdict answer = absurd answer
status_low Migrate (cert ∷ desc ∷ classes) verdict answer =
    judged_low (migrate.Answers cert desc classes) (migrate_judged cert desc classes) verdict answer
status_low Bound [] verdict answer = absurd answer
status_low Bound (bound ∷ []) verdict answer = absurd answer
status_low Bound (bound ∷ cert ∷ []) verdict answer = absurd answer
status_low Bound (bound ∷ cert ∷ desc ∷ classes) verdict answer =
    judged_low (bounding.Answers bound cert desc classes) (bound_judged bound cert desc classes) verdict answer
status_low Loop [] verdict answer = absurd answer
status_low Loop (cert ∷ []) verdict answer = absurd answer
status_low Loop (cert ∷ state ∷ []) verdict answer = absurd answer
status_low Loop (cert ∷ state ∷ desc ∷ classes) verdict answer =
    judged_low (looping.Answers cert state desc classes) (loop_judged cert state desc classes) verdict answer
status_low Throws [] verdict answer = absurd answer
status_low Throws (cert ∷ []) verdict answer = absurd answer
status_low Throws (cert ∷ desc ∷ classes) verdict answer =
    judged_low (throws.Answers cert desc classes) (throws_judged cert desc classes) verdict answer
status_low Its [] verdict answer = absurd answer
status_low Its (text ∷ []) verdict answer = let low = ruled_low text verdict answer in omega (arith, low)
status_low Its (text ∷ more ∷ files) verdict answer = absurd answer

pub is_answered : (limits : ℕ → ℕ) (request : Request) (names : List (List ℕ)) (held : List ℕ → Told)
    (contents given : List (List ℕ)) (verdict : Verdict) → given ≡ contents
    → AreContents limits held names contents → IsAnswer request given (Ok verdict) → HoldsClaim request given verdict
    → IsAnswered limits request names held verdict
is_answered limits request names held contents given verdict same are answer claim =
    record {
      contents = given;
      read = subst (AreContents limits held names) (sym same) are;
      answer = answer;
      low = status_low request given verdict answer;
      claim = claim;
    }

pub is_broken : {F : Type 0} (held : F → List ℕ → Told) (faults : F → ℕ) (leaves : F → List ℕ → F → Type 0) (limits : ℕ → ℕ)
    (request : Request) (names : List (List ℕ)) (old new : F) (contents given : List (List ℕ)) (place : Place) (fault : Fault)
    → given ≡ contents
    → AreContents limits (held old) names contents → IsAnswer request given (Err (At place fault))
    → HasCause held faults leaves limits request names old new (Broken place fault)
is_broken held faults leaves limits request names old new contents given place fault same are answer =
    (given, subst (AreContents limits (held old) names) (sym same) are, answer)
