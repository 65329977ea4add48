-- What the answer of `generate` says.
use Rattle.std.proofs.Common.{◌≡◌, ◌⊎◌, ℕ, List, [], ◌∷◌, Option, Some, None, Result, Ok, Err, IfOk, refl, sym, ◌∙◌}
use Rattle.std.proofs.Common.{subst, inl, inr}
use Rattle.std.specs.Prelude.{◌↔◌}
use Rattle.abs_cells.specs.declared.packed.PackedPairs.{PackedPairs}
use Rattle.input_steps.specs.declared.refused.Refused.{Refused}
use Rattle.its_call.specs.declared.its_search.searching.ItsFound.{ItsFound}
use Rattle.prove_core.specs.declared.found.Reason.{Reason}
use Rattle.jterm.specs.declared.generate.Generated.{Generated}
use Rattle.jterm.specs.GenerateAnswers as generate
use Rattle.jterm.specs.GenerateHeadline.{SaysYes, AllEndIfYes}
use Rattle.jterm.proofs.GenerateSaying.{yes_says, maybe_says_not}
use Rattle.class_calls.specs.declared.command_rows.table.Request.{Request}
use Rattle.class_calls.specs.declared.command_rows.table.Request.TheVariants.{Generate}
use Rattle.jterm.specs.declared.verdict.Verdict.{Verdict}
use Rattle.jterm.specs.Decision.{Made, verdict_of_made, IsAnswer, HoldsClaim, HasReason}
use Rattle.jterm.proofs.Deciding.{claimed}

-- an answer of which something holds is a verdict of which it does
made_with : (P : Result Generated Refused → Type 0) (made : Result Generated Refused) (result : Result Verdict Refused)
    → result ≡ verdict_of_made made → P made → Made P result
made_with P (Ok generated) result e h = subst (Made P) (sym e) (refl, refl, h)
made_with P (Err refused) result e h = subst (Made P) (sym e) h

pub made_answer : (request : Request) (n : ℕ) (given : List (List ℕ)) (made : Result Generated Refused) (result : Result Verdict Refused)
    → request ≡ Generate n → given ≡ [] → result ≡ verdict_of_made made → generate.Answers n made → IsAnswer request given result
made_answer request n given made result asked e d a =
    let here : IsAnswer (Generate n) given result = subst (λ (fs : List (List ℕ)). IsAnswer (Generate n) fs result) (sym e)
    (made_with (generate.Answers n) made result d a) in
    subst (λ (r : Request). IsAnswer r given result) (sym asked) here

-- what YES claims of the class that was made
pub made_claim : (request : Request) (n : ℕ) (given : List (List ℕ)) (made : Result Generated Refused) (result : Result Verdict Refused)
    → request ≡ Generate n → given ≡ [] → result ≡ verdict_of_made made → AllEndIfYes n made
    → IfOk result (λ verdict. HoldsClaim request given verdict)
made_claim request n given made result asked e d ends = claimed request (Generate n) given [] result asked e (by made d ends)
  where
    by : (made : Result Generated Refused) → result ≡ verdict_of_made made → AllEndIfYes n made
        → IfOk result (λ verdict. HoldsClaim (Generate n) [] verdict)
    by (Ok generated) d ends =
        subst (λ (r : Result Verdict Refused). IfOk r (λ verdict. HoldsClaim (Generate n) [] verdict)) (sym d) (λ class is. ends class is)
    by (Err refused) d ends =
        subst (λ (r : Result Verdict Refused). IfOk r (λ verdict. HoldsClaim (Generate n) [] verdict)) (sym d) tt

-- a reason is kept exactly where the answer is no YES
module _ (n : ℕ) (verdict : Verdict) (answer : Made (generate.Answers n) (Ok verdict)) where
  abbrev own : Generated
  own = record { out = verdict.out; reason = verdict.reason }

  pub made_none : verdict.status ≡ 0
  made_none = answer.0

  no_rules : (left : ItsFound) → verdict.its ≡ Some left → ⊥
  no_rules left kept = let e : (let o : Option ItsFound = None in o) ≡ Some left = sym answer.1 ∙ kept in cc

  by : (class : List ℕ) → generate.IsYes n (class ∷ []) own ⊎ generate.IsMaybe n (class ∷ []) own
      → (SaysYes n verdict.out → ⊥) ↔ HasReason verdict
  by class (inl sure) = (λ other. absurd (other (yes_says n (class ∷ []) own sure)), λ kept. absurd (none kept))
    where
      none : HasReason verdict → ⊥
      none (inl h) = let e : (let o : Option (Reason PackedPairs) = None in o) ≡ Some h.0 = sym sure.reason ∙ h.1 in cc
      none (inr h) = no_rules h.0 h.1
  by class (inr maybe) = (λ other. inl (maybe.why, maybe.reason), λ kept. maybe_says_not n (class ∷ []) own maybe)

  pub made_reason : (SaysYes n verdict.out → ⊥) ↔ HasReason verdict
  made_reason = by answer.2.0 answer.2.1.1
