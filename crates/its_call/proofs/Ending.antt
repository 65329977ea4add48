-- Where yes is said, the steps of the system end.
use Rattle.std.proofs.Common.{◌≡◌, ◌∙◌, inl, inr, ℕ, List, ◌++◌, Ok, sym, ap}
use Rattle.std.specs.Prelude.{codes}
use Rattle.descent.specs.Steps.{ClosedProofsEnd}
use Rattle.descent.specs.declared.proof.Proof as proofs
use Rattle.its_front.specs.declared.reading.Its.{Its}
use Rattle.its_front.specs.Reading.{rules_of}
use Rattle.its_front.specs.Steps.{ChainsEndSteps, StepsEndWalks}
use Rattle.its_front.specs.Systems.{IsSystem}
use Rattle.its_call.specs.declared.its_search.searching.ItsFound.{ItsFound}
use Rattle.its_call.specs.declared.its_search.searching.ItsFound.TheVariants.{Proof, Left}
use Rattle.its_call.specs.its_search.Found.{Finds}
use Rattle.its_call.proofs.Asked.{system_rules_are}
use Rattle.its_call.specs.declared.answer.ItsAnswer.{ItsAnswer}
use Rattle.its_call.specs.Lines.{yes_line}
use Rattle.its_call.specs.Answers.{Tells, SaysYes, IsEnding}

-- what is said for rules that are left is no yes
not_one : ◌≡◌ {A = ℕ} 1 0 → ⊥
not_one e = absurd cc

no_yes : (text rest : List ℕ) → codes "MAYBE component\n" ++ text ≡ yes_line ++ rest → ⊥
no_yes text rest e = absurd cc

left_is_no_yes : (its : Its) (answer : ItsAnswer) (proof : proofs.Proof) (rules : List _) → Tells its (Left proof rules) answer
    → SaysYes answer → ⊥
left_is_no_yes its answer proof rules e (inl status) = not_one (sym (ap (λ (a : ItsAnswer). a.status) e) ∙ status)
left_is_no_yes its answer proof rules e (inr (rest, out)) = no_yes _ rest (sym (ap (λ (a : ItsAnswer). a.out) e) ∙ out)

pub ends : (text : List ℕ) (its : Its) (found : ItsFound) (answer : ItsAnswer) → ClosedProofsEnd → ChainsEndSteps → StepsEndWalks
    → rules_of text ≡ Ok its → IsSystem its → Finds its.rules found → Tells its found answer → SaysYes answer → IsEnding text
ends text its (Proof proof) answer closed chains walks said system finds tells says =
    let steps = chains its system (closed its.rules proof (system_rules_are its system) finds.0 finds.1) in
    record { its = its; said = said; ends = steps; no_infinite = walks its steps }
ends text its (Left proof rules) answer closed chains walks said system finds tells says = absurd
    (left_is_no_yes its answer proof rules tells says)
