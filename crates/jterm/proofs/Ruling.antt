-- What is said of texts of rules as a verdict.
use Rattle.std.proofs.Common.{◌≡◌, ◌∙◌, ◌⊎◌, inl, inr, ◌≤◌, ℕ, List, ◌++◌, Option, Some, None, Result, Ok, Err, refl, sym, ap}
use Rattle.std.proofs.Common.{subst, arith}
use Rattle.std.specs.Prelude.{◌↔◌}
use Rattle.abs_cells.specs.declared.packed.PackedPairs.{PackedPairs}
use Rattle.prove_core.specs.declared.found.Reason.{Reason}
use Rattle.its_front.specs.declared.fault.ItsFault.{ItsFault}
use Rattle.its_front.specs.declared.fault.ItsFault.TheVariants as ruled_faults
use Rattle.its_front.specs.declared.reading.Its.{Its}
use Rattle.its_front.specs.Reading.{rules_of}
use Rattle.its_call.specs.declared.its_search.searching.ItsFound.{ItsFound}
use Rattle.its_call.specs.declared.its_search.searching.ItsFound.TheVariants.{Proof, Left}
use Rattle.its_call.specs.declared.answer.ItsAnswer.{ItsAnswer}
use Rattle.its_call.specs.Answers.{Answers, IsSaid, Tells, SaysYes, IsEnding, SystemEnds}
use Rattle.its_call.specs.Lines.{yes_line}
use Rattle.input_steps.specs.declared.refused.Refused.{Refused}
use Rattle.jterm.specs.declared.verdict.Verdict.{Verdict}
use Rattle.jterm.specs.Decision.{Ruled, Says, rules_refusal, left_for}
use Rattle.jterm.specs.Decision.{HasReason}

pub ruled : (text : List ℕ) (answer : ItsAnswer) → Answers text (Ok answer)
    → Ruled text (Ok (record { status = answer.status; out = answer.out; reason = None; its = answer.left }))
ruled text answer a = (refl, a)

pub unruled : (text : List ℕ) (fault : ItsFault) → Answers text (Err fault) → Ruled text (Err (rules_refusal fault))
unruled text (ruled_faults.Syntax line) a = record { cause = ruled_faults.Syntax line; place_is = refl; fault_is = refl; holds = a }
unruled text (ruled_faults.UnknownVariable line) a = record
    { cause = ruled_faults.UnknownVariable line; place_is = refl; fault_is = refl; holds = a }
unruled text (ruled_faults.DuplicateVariable line) a = record
    { cause = ruled_faults.DuplicateVariable line; place_is = refl; fault_is = refl; holds = a }
unruled text (ruled_faults.OutOfRange line) a = record
    { cause = ruled_faults.OutOfRange line; place_is = refl; fault_is = refl; holds = a }
unruled text (ruled_faults.Limit line) a = record { cause = ruled_faults.Limit line; place_is = refl; fault_is = refl; holds = a }
unruled text ruled_faults.Memory a = tt

-- ---- verdicts

-- of what was found, a verdict is yes, or keeps what is left
pub record IsLeft (verdict : Verdict) : Type 0 where
  pub status : verdict.status ≡ 1
  pub left : ItsFound
  pub kept : verdict.its ≡ Some left

cases : (its : Its) (found : ItsFound) (verdict : Verdict)
    → Tells its found (record { status = verdict.status; out = verdict.out; left = verdict.its })
    → ((verdict.status ≡ 0) × (verdict.its ≡ None)) ⊎ IsLeft verdict
cases its (Proof proof) verdict e = inl (ap (λ (a : ItsAnswer). a.status) e, ap (λ (a : ItsAnswer). a.left) e)
cases its (Left proof rules) verdict e = inr
    (record { status = ap (λ (a : ItsAnswer). a.status) e; left = Left proof rules; kept = ap (λ (a : ItsAnswer). a.left) e })

module _ (text : List ℕ) (verdict : Verdict) (answer : Ruled text (Ok verdict)) where
  either : ((verdict.status ≡ 0) × (verdict.its ≡ None)) ⊎ IsLeft verdict
  either = cases answer.1.its answer.1.found verdict answer.1.tells

  pub ruled_low : verdict.status ≤ 1
  ruled_low = elim either [
    | inl shown ↦ let none = shown.0 in omega (arith, none)
    | inr left ↦ let one = left.status in omega (arith, one)
  ]

  -- where its status is 1 it keeps what is left
  pub ruled_left : verdict.status ≡ 1 → (left : ItsFound) × ((out : List ℕ) × (verdict ≡ left_for left out))
  ruled_left one = elim either [
    | inl shown ↦ let none = shown.0 in absurd (omega (arith, none, one))
    | inr left ↦ (
      left.left,
      (verdict.out, λ i. record { status = left.status i; out = verdict.out; reason = answer.0 i; its = left.kept i }),
    )
  ]

  none_left : (let o : Option ItsFound = None in o) ≡ verdict.its → (left : ItsFound) → verdict.its ≡ Some left → ⊥
  none_left e left f = let g : (let o : Option ItsFound = None in o) ≡ Some left = e ∙ f in cc

  none_kept : (reason : Reason PackedPairs) → verdict.reason ≡ Some reason → ⊥
  none_kept reason f = let g : (let o : Option (Reason PackedPairs) = None in o) ≡ Some reason = sym answer.0 ∙ f in cc

  pub ruled_reason : (verdict.status ≡ 1) ↔ HasReason verdict
  ruled_reason = elim either [
    | inl shown ↦ (
      λ one. absurd (let none = shown.0 in omega (arith, none, one)),
      λ h. absurd
          (elim h [ inl r ↦ none_kept r.0 r.1 | inr l ↦ none_left (sym shown.1) l.0 l.1 ]),
    )
    | inr left ↦ (λ one. inr (left.left, left.kept), λ h. left.status)
  ]
