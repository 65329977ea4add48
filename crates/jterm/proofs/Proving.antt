-- What the answer of `prove` says.
use Rattle.std.proofs.Common.{◌≡◌, ◌⊎◌, ◌≤◌, ◌++◌, ℕ, List, [], ◌∷◌, length, get_or, Option, Some, None, Result, Ok, Err, IfOk}
use Rattle.std.proofs.Common.{refl, sym, ap, ◌∙◌, subst, inl, inr, arith}
use Rattle.std.specs.Prelude.{◌↔◌}
use Rattle.abs_cells.specs.declared.packed.PackedPairs.{PackedPairs}
use Rattle.input_steps.specs.declared.refused.Refused.{Refused}
use Rattle.desc_steps.specs.Headline.{AllEnd}
use Rattle.prove_core.specs.declared.found.Reason.{Reason}
use Rattle.prove_call.specs.declared.answer.Answer.{Answer}
use Rattle.prove_call.specs.Answers as prove
use Rattle.prove_call.specs.Headline.{AllEndIfYes}
use Rattle.prove_call.specs.Lines.{yes_line, yes_text}
use Rattle.jterm.proofs.GenerateCertifying.{Certifies, Reasons, certifies_or_reasons}
use Rattle.check_call.specs.Answers as check
use Rattle.check_call.specs.Lines as lines
use Rattle.jterm.specs.declared.verdict.Verdict.{Verdict}
use Rattle.jterm.specs.Decision.{Says, not_proved_for, Proved}
use Rattle.jterm.specs.Laws.{CertificatesAreAccepted}

-- ---- verdicts

-- the certificate of a verdict that says YES, which a check of the same files accepts
pub record Certificate (desc : List ℕ) (files : List (List ℕ)) (verdict : Verdict) : Type 0 where
  pub cert : List ℕ
  pub short : length cert ≤ 16777216
  pub accepted : check.Answers cert desc files (Ok lines.accepted)
  pub out_is : verdict.out ≡ yes_text cert

module _ (nodes : ℕ) (desc : List ℕ) (files : List (List ℕ)) (verdict : Verdict)
    (answer : Proved (prove.Answers nodes desc files) (Ok verdict)) where
  abbrev own : Answer
  own = record { status = verdict.status; out = verdict.out; reason = verdict.reason }

  abbrev Said : Type 0
  Said = Certifies desc files own ⊎ Reasons own

  said : Said
  said = certifies_or_reasons nodes desc files own answer.1

  none_of : Certifies desc files own → verdict.status ≡ 0
  none_of sure = ap (λ (a : Answer). a.status) sure.is

  one_of : Reasons own → verdict.status ≡ 1
  one_of maybe = ap (λ (a : Answer). a.status) maybe.is

  -- its status is at most 1
  low : Said → verdict.status ≤ 1
  low (inl sure) = let none = none_of sure in omega (arith, none)
  low (inr maybe) = let one = one_of maybe in omega (arith, one)

  pub proved_low : verdict.status ≤ 1
  proved_low = low said

  -- where it is 1 there is a reason
  has_reason : Said → verdict.status ≡ 1 → (reason : Reason PackedPairs) × ((text : List ℕ) × (verdict ≡ not_proved_for reason text))
  has_reason (inl sure) one = let none = none_of sure in absurd (omega (arith, none, one))
  has_reason (inr maybe) one =
      let kept : verdict.reason ≡ Some maybe.why = ap (λ (a : Answer). a.reason) maybe.is in
      (maybe.why, (verdict.out, λ i. record { status = one i; out = verdict.out; reason = kept i; its = answer.0 i }))

  pub unproved : verdict.status ≡ 1 → (reason : Reason PackedPairs) × ((text : List ℕ) × (verdict ≡ not_proved_for reason text))
  unproved one = has_reason said one

  -- and there alone
  keeps : Said → (verdict.status ≡ 1) ↔ ((reason : Reason PackedPairs) × (verdict.reason ≡ Some reason))
  keeps (inl sure) =
      let none = none_of sure in
      let unkept : verdict.reason ≡ None = ap (λ (a : Answer). a.reason) sure.is in (
        λ one. absurd (omega (arith, none, one)),
        λ h. absurd
            (let e : (let o : Option (Reason PackedPairs) = None in o) ≡ Some h.0 = sym unkept ∙ h.1 in cc),
      )
  keeps (inr maybe) = (λ one. (maybe.why, ap (λ (a : Answer). a.reason) maybe.is), λ h. one_of maybe)

  pub reason_kept : (verdict.status ≡ 1) ↔ ((reason : Reason PackedPairs) × (verdict.reason ≡ Some reason))
  reason_kept = keeps said

  -- where its output begins with `YES` its status is 0
  is_yes : Said → Says yes_line verdict → verdict.status ≡ 0
  is_yes is (inl none) = none
  is_yes (inl sure) (inr begins) = none_of sure
  is_yes (inr maybe) (inr begins) =
      let first : 77 ≡ 89 = sym maybe.first ∙ ap (λ (line : List ℕ). get_or line 0 0) begins.1 in
      absurd (omega (arith, first))

  pub proves : Says yes_line verdict → verdict.status ≡ 0
  proves says = is_yes said says

  -- where its status is 0 its output has a certificate
  has_certificate : Said → verdict.status ≡ 0 → Certificate desc files verdict
  has_certificate (inr maybe) none = let one = one_of maybe in absurd (omega (arith, none, one))
  has_certificate (inl sure) none = record
      { cert = sure.cert; short = sure.short; accepted = sure.accepted; out_is = ap (λ (a : Answer). a.out) sure.is }

  pub certifies : verdict.status ≡ 0 → Certificate desc files verdict
  certifies none = has_certificate said none

-- the certificate behind YES is one that a check accepts
pub certificate_accepted : CertificatesAreAccepted
certificate_accepted nodes desc files verdict answer none =
    let is = certifies nodes desc files verdict answer none in
    (is.cert, is.out_is, (refl, refl, is.accepted))

-- the answer of `prove` as a verdict; or its refusal
abbrev pub verdict_of_prove : Result Answer Refused → Result Verdict Refused
verdict_of_prove (Ok answer) = Ok (record { status = answer.status; out = answer.out; reason = answer.reason; its = None })
verdict_of_prove (Err refused) = Err refused

-- what YES says
pub proved_true : (nodes : ℕ) (desc : List ℕ) (files : List (List ℕ)) (answer : Result Answer Refused)
    (result : Result Verdict Refused) → result ≡ verdict_of_prove answer → prove.Answers nodes desc files answer
    → AllEndIfYes files desc answer
    → IfOk result (λ verdict. Says yes_line verdict → AllEnd files desc)
proved_true nodes desc files (Ok answer) result e a ends =
    let verdict : Verdict = record { status = answer.status; out = answer.out; reason = answer.reason; its = None } in
    subst (λ (r : Result Verdict Refused). IfOk r (λ v. Says yes_line v → AllEnd files desc)) (sym e)
    (λ says. ends (proves nodes desc files verdict (refl, a) says))
proved_true nodes desc files (Err refused) result e a ends =
    subst (λ (r : Result Verdict Refused). IfOk r (λ v. Says yes_line v → AllEnd files desc)) (sym e) tt
