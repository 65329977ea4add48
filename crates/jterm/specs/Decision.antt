-- What `decide` answers, and why.
use Rattle.std.specs.Prelude.{◌≡◌, ◌⊎◌, ℕ, List, [], ◌∷◌, ◌++◌, Some, None, Result, Ok, Err, ⊤}
use Rattle.abs_cells.specs.declared.packed.PackedPairs.{PackedPairs}
use Rattle.class_calls.specs.asm_call.Answers as asm
use Rattle.jterm.specs.declared.generate.Generated.{Generated}
use Rattle.jterm.specs.GenerateAnswers as generate
use Rattle.jterm.specs.GenerateHeadline.{SaysYes}
use Rattle.generate_text.specs.Descriptions.{description}
use Rattle.its_front.specs.declared.fault.ItsFault.{ItsFault}
use Rattle.its_front.specs.declared.fault.ItsFault.TheVariants as ruled
use Rattle.its_front.specs.Reading.{rules_of}
use Rattle.its_call.specs.declared.its_search.searching.ItsFound.{ItsFound}
use Rattle.its_call.specs.Answers.{IsSaid, IsEnding}
use Rattle.its_call.specs.Lines as its
use Rattle.input_steps.specs.declared.refused.Refused.{Refused}
use Rattle.input_steps.specs.declared.refused.Refused.TheVariants.{At, Memory}
use Rattle.input_steps.specs.declared.refused.Place.{Place}
use Rattle.input_steps.specs.declared.refused.Place.TheVariants as places
use Rattle.input_steps.specs.declared.refused.Fault.{Fault}
use Rattle.input_steps.specs.declared.refused.Fault.TheVariants as faults
use Rattle.input_steps.specs.Steps.{IsAt}
use Rattle.check_call.specs.declared.outcome.Outcome.{Outcome}
use Rattle.check_call.specs.Answers as check
use Rattle.check_call.specs.Lines.{accepted_line, refused_line}
use Rattle.cert_making.specs.migrate_call.Answers as migrate
use Rattle.cert_making.specs.migrate_call.Headline.{IsMigrated}
use Rattle.cert_calls.specs.loop_call.Answers as looping
use Rattle.cert_calls.specs.loop_call.Headline.{AllGoOnForEver}
use Rattle.cert_calls.specs.loop_call.Lines as loops
use Rattle.cert_calls.specs.throws_call.Answers as throws
use Rattle.cert_calls.specs.bound_call.Answers as bounding
use Rattle.cert_calls.specs.bound_call.Headline.{AllEndWithin}
use Rattle.cert_calls.specs.bound_call.Lines as bounds
use Rattle.cert_calls.specs.throws_call.Headline.{AllEndAsSaid}
use Rattle.prove_core.specs.declared.found.Reason.{Reason}
use Rattle.prove_call.specs.declared.answer.Answer.{Answer}
use Rattle.prove_call.specs.Answers as prove
use Rattle.prove_call.specs.Lines.{yes_line}
use Rattle.desc_steps.specs.Headline.{AllEnd}
use Rattle.class_calls.specs.run_call.Answers as run
use Rattle.class_calls.specs.declared.command_rows.table.Request.{Request}
use Rattle.class_calls.specs.declared.command_rows.table.Request.TheVariants.{Prove, Check, Run, Asm, Generate, Migrate, Bound, Loop, Its, Throws}
use Rattle.jterm.specs.declared.verdict.Verdict.{Verdict}

-- a verdict says a line: its status is 0, or its output begins with the line
abbrev pub Says : List ℕ → Verdict → Type 0
Says line verdict = (verdict.status ≡ 0) ⊎ ((rest : List ℕ) × (verdict.out ≡ line ++ rest))

-- ---- rules

-- a text of rules is refused for its first fault
abbrev pub RefusesRules : List ℕ → Place → Fault → Type 0
RefusesRules text = IsAt {C = ItsFault} (λ fault. places.Its) faults.Its (λ fault. rules_of text ≡ Err fault)

-- what is said of the system that a text says: yes, or the rules that are left; else the text's first fault; want of
-- memory has no cause
abbrev pub Ruled : List ℕ → Result Verdict Refused → Type 0
Ruled text (Ok verdict) = (verdict.reason ≡ None) × IsSaid text (record { status = verdict.status; out = verdict.out; left = verdict.its })
Ruled text (Err (At place fault)) = RefusesRules text place fault
Ruled text (Err Memory) = Unit {0}

-- what is said of a text of rules that has this fault
abbrev pub rules_refusal : ItsFault → Refused
rules_refusal ruled.Memory = Memory
rules_refusal fault = At places.Its (faults.Its fault)

-- ---- verdicts

-- the verdict that rules are left, with this text
abbrev pub left_for : ItsFound → List ℕ → Verdict
left_for left text = record { status = 1; out = text; reason = None; its = Some left }

-- a verdict with the parts of an answer of `prove` of which this holds; or a refusal of which it does
abbrev pub Proved : (Result Answer Refused → Type 0) → Result Verdict Refused → Type 0
Proved Answers (Ok verdict) = (verdict.its ≡ None)
    × Answers (Ok (record { status = verdict.status; out = verdict.out; reason = verdict.reason }))
Proved Answers (Err refused) = Answers (Err refused)

-- the verdict that no certificate was found, for a reason with this text
abbrev pub not_proved_for : Reason PackedPairs → List ℕ → Verdict
not_proved_for reason text = record { status = 1; out = text; reason = Some reason; its = None }

-- the verdict of a command that is done, with its output; or its refusal
abbrev pub done_of : Result (List ℕ) Refused → Result Verdict Refused
done_of (Ok out) = Ok (record { status = 0; out = out; reason = None; its = None })
done_of (Err refused) = Err refused

-- a verdict of status 0 with an output of which this holds; or a refusal of which it does
abbrev pub DoneWith : (Result (List ℕ) Refused → Type 0) → Result Verdict Refused → Type 0
DoneWith Answers (Ok verdict) = (verdict.status ≡ 0) × (verdict.reason ≡ None) × (verdict.its ≡ None) × Answers (Ok verdict.out)
DoneWith Answers (Err refused) = Answers (Err refused)

-- the verdict of `check` that a certificate is accepted
abbrev pub accepted : Verdict
accepted = record { status = 0; out = accepted_line; reason = None; its = None }

-- the verdict of `check`, and of the commands that check first, that a certificate is refused with this line
abbrev pub refused_with : List ℕ → Verdict
refused_with line = record { status = 2; out = line; reason = None; its = None }

-- a line says that something is refused: it names an item of the certificate, or says that a bound or a loop is, and
-- the cause
abbrev pub IsRefusedLine : List ℕ → Type 0
IsRefusedLine line = ((item : ℕ) × ((cause : List ℕ) × (line ≡ refused_line item cause)))
    ⊎ (((cause : List ℕ) × (line ≡ loops.refused_line cause)) ⊎ ((cause : List ℕ) × (line ≡ bounds.refused_line cause)))

-- the outcome of a check as a verdict; or its refusal
abbrev pub verdict_of : Result Outcome Refused → Result Verdict Refused
verdict_of (Ok outcome) = Ok (record { status = outcome.status; out = outcome.out; reason = None; its = None })
verdict_of (Err refused) = Err refused

-- a verdict with the status and the output of an outcome of which this holds; or a refusal of which it does
abbrev pub Judged : (Result Outcome Refused → Type 0) → Result Verdict Refused → Type 0
Judged Answers (Ok verdict) = (verdict.reason ≡ None) × (verdict.its ≡ None)
    × Answers (Ok (record { status = verdict.status; out = verdict.out }))
Judged Answers (Err refused) = Answers (Err refused)

-- what is said of a class that was made, as a verdict; or its refusal
abbrev pub verdict_of_made : Result Generated Refused → Result Verdict Refused
verdict_of_made (Ok generated) = Ok (record { status = 0; out = generated.out; reason = generated.reason; its = None })
verdict_of_made (Err refused) = Err refused

-- a verdict of status 0 with the output and the reason of a class that was made of which this holds; or a refusal of which it does
abbrev pub Made : (Result Generated Refused → Type 0) → Result Verdict Refused → Type 0
Made Answers (Ok verdict) = (verdict.status ≡ 0) × (verdict.its ≡ None)
    × Answers (Ok (record { out = verdict.out; reason = verdict.reason }))
Made Answers (Err refused) = Answers (Err refused)

-- The answer to a request for the contents of its files, which stand in the order of the file words: a bound, a
-- certificate, a state, a description, and classes; or a listing; or none; or a text of rules.
abbrev pub IsAnswer : Request → List (List ℕ) → Result Verdict Refused → Type 0
IsAnswer (Prove nodes) (desc ∷ classes) result = Proved (prove.Answers nodes desc classes) result
IsAnswer Check (cert ∷ desc ∷ classes) result = Judged (check.Answers cert desc classes) result
IsAnswer (Run fuel) (state ∷ classes) result = DoneWith (run.Answers fuel state classes) result
IsAnswer Asm (listing ∷ []) result = DoneWith (asm.Answers listing) result
IsAnswer (Generate n) [] result = Made (generate.Answers n) result
IsAnswer Migrate (cert ∷ desc ∷ classes) result = Judged (migrate.Answers cert desc classes) result
IsAnswer Bound (bound ∷ cert ∷ desc ∷ classes) result = Judged (bounding.Answers bound cert desc classes) result
IsAnswer Loop (cert ∷ state ∷ desc ∷ classes) result = Judged (looping.Answers cert state desc classes) result
IsAnswer Its (text ∷ []) result = Ruled text result
IsAnswer Throws (cert ∷ desc ∷ classes) result = Judged (throws.Answers cert desc classes) result
IsAnswer request files result = ⊥

-- ---- what an answer claims

-- Where the answer is yes this is true, of the contents of the files: every state ends that the description fits
-- (`prove` and `check`), also of the class that was made (`generate`), and ends in a way that the lines say
-- (`throws`), or within their bound (`bound`); none ends (`loop`); what is put is the certificate in form 2
-- (`migrate`); the system of the rules ends (`its`).
abbrev pub HoldsClaim : Request → List (List ℕ) → Verdict → Type 0
HoldsClaim (Prove nodes) (desc ∷ classes) verdict = Says yes_line verdict → AllEnd classes desc
HoldsClaim Check (cert ∷ desc ∷ classes) verdict = Says accepted_line verdict → AllEnd classes desc
HoldsClaim (Generate n) [] verdict = (class : List ℕ) → generate.IsClass n class → SaysYes n verdict.out → AllEnd (class ∷ []) description
HoldsClaim Migrate (cert ∷ desc ∷ classes) verdict = verdict.status ≡ 0 → IsMigrated classes desc cert verdict.out
HoldsClaim Bound (bound ∷ cert ∷ desc ∷ classes) verdict = verdict.status ≡ 0 → AllEndWithin classes desc verdict.out
HoldsClaim Loop (cert ∷ state ∷ desc ∷ classes) verdict = Says loops.no_line verdict → AllGoOnForEver classes desc state
HoldsClaim Its (text ∷ []) verdict = Says its.yes_line verdict → IsEnding text
HoldsClaim Throws (cert ∷ desc ∷ classes) verdict = verdict.status ≡ 0 → AllEndAsSaid classes desc verdict.out
HoldsClaim request files verdict = ⊤

-- ---- where nothing is proved

-- a verdict keeps why no certificate is given, or what is left of rules
abbrev pub HasReason : Verdict → Type 0
HasReason verdict = ((reason : Reason PackedPairs) × (verdict.reason ≡ Some reason)) ⊎ ((left : ItsFound) × (verdict.its ≡ Some left))

-- no certificate or no proof is given: the status is 1, or the line of `generate` says no YES
abbrev pub IsUnproved : Request → Verdict → Type 0
IsUnproved (Generate n) verdict = SaysYes n verdict.out → ⊥
IsUnproved request verdict = verdict.status ≡ 1

-- ---- refusals

-- the contents have no cause of refusal
abbrev pub IsUnrefused : Request → List (List ℕ) → Type 0
IsUnrefused request contents = (place : Place) (fault : Fault) → IsAnswer request contents (Err (At place fault)) → ⊥
