-- What the answers of commands over certificates say.
use Rattle.std.proofs.Common.{◌≡◌, ◌⊎◌, ◌≤◌, ◌++◌, ℕ, List, [], ◌∷◌, Option, None, Result, Ok, Err, IfOk, get_or, refl, sym, ap}
use Rattle.std.proofs.Common.{◌∙◌, subst, inl, inr, arith}
use Rattle.input_steps.specs.declared.refused.Refused.{Refused}
use Rattle.cert_calls.specs.CertCheckValid.{Case, IsValid}
use Rattle.desc_steps.specs.Headline.{AllEnd}
use Rattle.check_call.specs.declared.outcome.Outcome.{Outcome}
use Rattle.check_call.specs.Answers as check
use Rattle.check_call.specs.Answers.{SayingValid, OfBytes, SaysAccepted}
use Rattle.check_call.specs.Lines as lines
use Rattle.check_call.specs.Headline.{AllEndIfAccepted}
use Rattle.check_call.proofs.Outcomes.{IsRefusal, bytes_outcome}
use Rattle.cert_making.specs.migrate_call.Answers as migrate
use Rattle.cert_calls.specs.loop_call.Answers as looping
use Rattle.cert_calls.specs.bound_call.Answers as bounding
use Rattle.cert_calls.proofs.Outcomes.{IsLoopOutcome, loop_outcome}
use Rattle.cert_calls.specs.throws_call.Answers as throws
use Rattle.jterm.specs.declared.verdict.Verdict.{Verdict}
use Rattle.jterm.specs.Decision.{Says, IsRefusedLine, refused_with, verdict_of, Judged}

-- ---- outcomes

-- the status is 0, or it is 2 with a line that says what is refused
abbrev pub IsJudged : Outcome → Type 0
IsJudged outcome = (outcome.status ≡ 0) ⊎ ((outcome.status ≡ 2) × IsRefusedLine outcome.out)

refusal_judged : (outcome : Outcome) → IsRefusal outcome → IsJudged outcome
refusal_judged outcome h = inr
    (ap (λ (o : Outcome). o.status) h.1.1, inl (h.0, (h.1.0, ap (λ (o : Outcome). o.out) h.1.1)))

bytes_judged : (Says : SayingValid)
    → ((case : Case) (valid : IsValid case) (outcome : Outcome) → Says case valid outcome → IsJudged outcome)
    → (cert desc : List ℕ) (files : List (List ℕ)) (outcome : Outcome) → OfBytes Says cert desc files (Ok outcome) → IsJudged outcome
bytes_judged Says judges cert desc files outcome a =
    elim (bytes_outcome Says IsJudged outcome (λ case valid h. judges case valid outcome h) cert desc files a) [
      | inl h ↦ h
      | inr refusal ↦ refusal_judged outcome refusal
    ]

pub check_judged : (cert desc : List ℕ) (files : List (List ℕ)) (outcome : Outcome) → check.Answers cert desc files (Ok outcome)
    → IsJudged outcome
check_judged = bytes_judged SaysAccepted (λ case valid outcome e. inl (ap (λ (o : Outcome). o.status) e))

pub migrate_judged : (cert desc : List ℕ) (files : List (List ℕ)) (outcome : Outcome) → migrate.Answers cert desc files (Ok outcome)
    → IsJudged outcome
migrate_judged = bytes_judged migrate.SaysMigrated (λ case valid outcome e. inl (ap (λ (o : Outcome). o.status) e))

pub throws_judged : (cert desc : List ℕ) (files : List (List ℕ)) (outcome : Outcome) → throws.Answers cert desc files (Ok outcome)
    → IsJudged outcome
throws_judged = bytes_judged throws.SaysReport (λ case valid outcome h. inl (ap (λ (o : Outcome). o.status) h.1.1))

says_judged : (bound : List ℕ) (case : Case) (valid : IsValid case) (outcome : Outcome) → bounding.SaysBound bound case valid outcome
    → IsJudged outcome
says_judged bound case valid outcome (inl h) = inl (ap (λ (o : Outcome). o.status) h.1.1)
says_judged bound case valid outcome (inr h) = inr
    (ap (λ (o : Outcome). o.status) h.1.1, inr (inr (_, ap (λ (o : Outcome). o.out) h.1.1)))

pub bound_judged : (bound cert desc : List ℕ) (files : List (List ℕ)) (outcome : Outcome)
    → bounding.Answers bound cert desc files (Ok outcome) → IsJudged outcome
bound_judged bound = bytes_judged (bounding.SaysBound bound) (says_judged bound)

pub loop_judged : (cert state desc : List ℕ) (files : List (List ℕ)) (outcome : Outcome)
    → looping.Answers cert state desc files (Ok outcome) → IsJudged outcome
loop_judged cert state desc files outcome a = by (loop_outcome cert state desc files outcome a)
  where
    by : IsLoopOutcome outcome → IsJudged outcome
    by (inl never) = inl (ap (λ (o : Outcome). o.status) never)
    by (inr (inl refusal)) = refusal_judged outcome refusal
    by (inr (inr h)) = inr (ap (λ (o : Outcome). o.status) h.1, inr (inl (h.0, ap (λ (o : Outcome). o.out) h.1)))

-- ---- verdicts

-- a line that says what is refused begins with `R`
refused_first : (line : List ℕ) → IsRefusedLine line → get_or line 0 0 ≡ 82
refused_first line (inl h) = ap (λ (text : List ℕ). get_or text 0 0) h.1.1
refused_first line (inr (inl h)) = ap (λ (text : List ℕ). get_or text 0 0) h.1
refused_first line (inr (inr h)) = ap (λ (text : List ℕ). get_or text 0 0) h.1

module _ (Answers : Result Outcome Refused → Type 0) (judges : (outcome : Outcome) → Answers (Ok outcome) → IsJudged outcome)
    (verdict : Verdict) (answer : Judged Answers (Ok verdict)) where
  abbrev own : Outcome
  own = record { status = verdict.status; out = verdict.out }

  judged : IsJudged own
  judged = judges own answer.2

  -- its status is at most 2
  pub judged_low : verdict.status ≤ 2
  judged_low = elim judged [ inl none ↦ omega (arith, none) | inr h ↦ let two = h.0 in omega (arith, two) ]

  -- and never 1
  pub judged_not_one : verdict.status ≡ 1 → ⊥
  judged_not_one one = elim judged [ inl none ↦ omega (arith, none, one) | inr h ↦ let two = h.0 in omega (arith, two, one) ]

  -- where its output begins with another letter than that of a refusal its status is 0
  by_first : IsJudged own → (first : ℕ) → (first ≡ 82 → ⊥) → get_or verdict.out 0 0 ≡ first → verdict.status ≡ 0
  by_first (inl none) first other is = none
  by_first (inr h) first other is = absurd (other (sym is ∙ refused_first verdict.out h.1))

  pub judged_done : (first : ℕ) → (first ≡ 82 → ⊥) → get_or verdict.out 0 0 ≡ first → verdict.status ≡ 0
  judged_done = by_first judged

  -- where its status is 2 it is that of a refusal
  pub judged_refused : verdict.status ≡ 2 → (line : List ℕ) × (IsRefusedLine line × (verdict ≡ refused_with line))
  judged_refused two = elim judged [
    | inl none ↦ absurd (omega (arith, none, two))
    | inr h ↦ (
      verdict.out,
      (h.1, λ i. record { status = two i; out = verdict.out; reason = answer.0 i; its = answer.1 i }),
    )
  ]

-- ---- decisions

-- an outcome of which something holds is a verdict of which it does
pub judged_with : (P : Result Outcome Refused → Type 0) (checked : Result Outcome Refused) (result : Result Verdict Refused)
    → result ≡ verdict_of checked → P checked → Judged P result
judged_with P (Ok outcome) result e h = subst (Judged P) (sym e) (refl, refl, h)
judged_with P (Err refused) result e h = subst (Judged P) (sym e) h

-- where `ACCEPTED` is said the status is 0
accepts : (cert desc : List ℕ) (files : List (List ℕ)) (verdict : Verdict) → Judged (check.Answers cert desc files) (Ok verdict)
    → Says lines.accepted_line verdict → verdict.status ≡ 0
accepts cert desc files verdict answer (inl none) = none
accepts cert desc files verdict answer (inr begins) =
    judged_done (check.Answers cert desc files) (check_judged cert desc files) verdict answer 65 (λ e. omega (arith, e))
    (ap (λ (line : List ℕ). get_or line 0 0) begins.1)

-- what `ACCEPTED` says
pub accepted_true : (cert desc : List ℕ) (files : List (List ℕ)) (checked : Result Outcome Refused)
    (result : Result Verdict Refused) → result ≡ verdict_of checked → check.Answers cert desc files checked
    → AllEndIfAccepted files desc checked
    → IfOk result (λ verdict. Says lines.accepted_line verdict → AllEnd files desc)
accepted_true cert desc files (Ok outcome) result e a ends =
    let verdict : Verdict = record { status = outcome.status; out = outcome.out; reason = None; its = None } in
    subst (λ (r : Result Verdict Refused). IfOk r (λ v. Says lines.accepted_line v → AllEnd files desc)) (sym e)
    (λ says. ends (accepts cert desc files verdict (refl, refl, a) says))
accepted_true cert desc files (Err refused) result e a ends =
    subst (λ (r : Result Verdict Refused). IfOk r (λ v. Says lines.accepted_line v → AllEnd files desc)) (sym e) tt
