-- What is said of a program with described inputs, by what was found.
use Rattle.std.proofs.Common.{◌≡◌, ℕ, List, Result, Ok, Err, inl, inr, ap, subst, arith}
use Rattle.abs_cells.specs.declared.packed.PackedPairs.{PackedPairs}
use Rattle.class_program.specs.Programs.{Program, IsClosed}
use Rattle.frame_types.specs.Tables.{CodeTypes}
use Rattle.code_verify.specs.Typings.{IsTypingOf}
use Rattle.class_program.specs.Widths.{HasWidths}
use Rattle.input_desc.specs.declared.desc.Desc.{Desc}
use Rattle.input_desc.specs.Descs.{IsOwnDesc}
use Rattle.input_steps.specs.declared.refused.Refused.{Refused}
use Rattle.input_steps.specs.declared.refused.Refused.TheVariants.{At, Memory}
use Rattle.cert_check.specs.Laws.{CertifiedRunsEnd}
use Rattle.desc_steps.specs.Answers.{AnswersAs}
use Rattle.desc_steps.specs.Headline.{AllFittingEnd}
use Rattle.desc_steps.specs.Names.{names_of}
use Rattle.prove_core.specs.declared.found.Found.{Found}
use Rattle.prove_core.specs.declared.found.Found.TheVariants.{Certificate, Maybe}
use Rattle.prove_core.specs.declared.found.Reason.{Reason}
use Rattle.prove_core.specs.Answers.{IsCertificate, HoldsReason, SearchesOr}
use Rattle.prove_call.specs.declared.answer.Answer.{Answer}
use Rattle.prove_call.specs.Answers.{aim_at, SaysOf}
use Rattle.prove_call.specs.Headline.{IsProved}
use Rattle.prove_call.specs.Answers.{yes_with}
use Rattle.prove_call.specs.inner.Said.{maybe_with, Tells}

module _ (nodes : ℕ) (p : Program) (typing : ℕ → CodeTypes) (desc : Desc) (names : List (List ℕ)) (are : names ≡ names_of p.world) where
  -- a certificate is found
  yes_says : (cert : List ℕ) (result : Result Answer Refused) → IsCertificate (aim_at p typing desc) names cert
      → AnswersAs (yes_with cert) result → SaysOf nodes p typing desc result
  yes_says cert (Ok answer) is s = inl (record {
    status = ap (λ (a : Answer). a.status) s;
    reason = ap (λ (a : Answer). a.reason) s;
    cert = cert;
    is = subst (λ (ns : List (List ℕ)). IsCertificate (aim_at p typing desc) ns cert) are is;
    out = ap (λ (a : Answer). a.out) s;
  })
  yes_says cert (Err (At place fault)) is s = absurd s
  yes_says cert (Err Memory) is s = tt

  -- a reason is found
  maybe_says : (reason : Reason PackedPairs) (result : Result Answer Refused)
      → HoldsReason (aim_at p typing desc) names nodes reason → AnswersAs (maybe_with p reason) result → SaysOf nodes p typing desc result
  maybe_says reason (Ok answer) holds s = inr (record {
    status = ap (λ (a : Answer). a.status) s;
    reason = reason;
    kept = ap (λ (a : Answer). a.reason) s;
    holds = subst (λ (ns : List (List ℕ)). HoldsReason (aim_at p typing desc) ns nodes reason) are holds;
    out = ap (λ (a : Answer). a.out) s;
  })
  maybe_says reason (Err (At place fault)) holds s = absurd s
  maybe_says reason (Err Memory) holds s = tt

  -- what is found
  pub found_says : (found : Found PackedPairs) (result : Result Answer Refused)
      → SearchesOr (aim_at p typing desc) names nodes (Ok found) → Tells p found result → SaysOf nodes p typing desc result
  found_says (Certificate cert) result is s = yes_says cert result is s
  found_says (Maybe reason) result holds s = maybe_says reason result holds s

-- where there is a certificate every fitting state ends
certificate_ends : (p : Program) (typing : ℕ → CodeTypes) (desc : Desc) (names : List (List ℕ)) (cert : List ℕ)
    → CertifiedRunsEnd → IsClosed p → HasWidths p → IsTypingOf p typing → IsOwnDesc p desc
    → IsCertificate (aim_at p typing desc) names cert → AllFittingEnd p desc
certificate_ends p typing desc names cert law closed widths typing_is own is =
    let says = is.says in
    law p typing desc says.nodes says.content.cuts closed widths typing_is own says.certified

-- maybe isn't yes
maybe_ends : (p : Program) (desc : Desc) (reason : Reason PackedPairs) (result : Result Answer Refused)
    → AnswersAs (maybe_with p reason) result → IsProved result → AllFittingEnd p desc
maybe_ends p desc reason (Ok answer) s proved = let one = ap (λ (a : Answer). a.status) s in absurd (omega (arith, one, proved))
maybe_ends p desc reason (Err refused) s proved = absurd proved

-- so yes is said only where every fitting state ends
pub found_ends : (nodes : ℕ) (p : Program) (typing : ℕ → CodeTypes) (desc : Desc) (names : List (List ℕ))
    (found : Found PackedPairs) (result : Result Answer Refused)
    → CertifiedRunsEnd → IsClosed p → HasWidths p → IsTypingOf p typing → IsOwnDesc p desc
    → SearchesOr (aim_at p typing desc) names nodes (Ok found) → Tells p found result → IsProved result → AllFittingEnd p desc
found_ends nodes p typing desc names (Certificate cert) result law closed widths typing_is own is s proved = certificate_ends p
    typing desc names cert law closed widths typing_is own is
found_ends nodes p typing desc names (Maybe reason) result law closed widths typing_is own is s proved = maybe_ends p desc reason
    result s proved
