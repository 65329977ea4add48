-- A description and class files are refused with one place and fault, or never.
use Rattle.std.proofs.Common.{◌≡◌, ◌∙◌, ℕ, List, Result, Ok, Err, refl, sym, ap}
use Rattle.std.specs.Prelude.{◌≢◌}
use Rattle.class_program.specs.Programs.{Program}
use Rattle.frame_types.specs.Tables.{CodeTypes}
use Rattle.input_desc.specs.declared.desc.Desc.{Desc}
use Rattle.input_steps.specs.declared.refused.Refused.{Refused}
use Rattle.input_steps.specs.declared.refused.Refused.TheVariants.{At, Memory}
use Rattle.input_steps.proofs.OneAnswer.{IsOne}
use Rattle.desc_steps.specs.Answers.{OfFiles}
use Rattle.desc_steps.proofs.Answering.{files_on, files_turned}
use Rattle.desc_steps.proofs.OneAnswer.{files_one}
use Rattle.prove_call.specs.declared.answer.Answer.{Answer}
use Rattle.prove_call.specs.Answers.{SaysOf, Answers}
use Rattle.prove_call.specs.Laws.{refusal_of, RefusalsAreOne}

-- an answer of which it is known alone whether it refuses the input
abbrev Bare : Type 0
Bare = Result (Unit {0}) Refused

abbrev bare : Result Answer Refused → Bare
bare (Ok answer) = Ok tt
bare (Err refused) = Err refused

-- it says nothing of a program with described inputs
abbrev SaysNothing : Program → (ℕ → CodeTypes) → Desc → Bare → Type 0
SaysNothing p typing desc (Ok nothing) = Unit {0}
SaysNothing p typing desc (Err (At place fault)) = ⊥
SaysNothing p typing desc (Err Memory) = Unit {0}

nothing_one : (p : Program) (typing : ℕ → CodeTypes) (desc : Desc) → IsOne (SaysNothing p typing desc)
nothing_one p typing desc (Ok x) (Ok y) h k nr ns = refl
nothing_one p typing desc (Ok x) (Err (At place fault)) h k nr ns = absurd k
nothing_one p typing desc (Ok x) (Err Memory) h k nr ns = absurd (ns refl)
nothing_one p typing desc (Err (At place fault)) s h k nr ns = absurd h
nothing_one p typing desc (Err Memory) s h k nr ns = absurd (nr refl)

bare_answer : (nodes : ℕ) (desc : List ℕ) (files : List (List ℕ)) (a : Result Answer Refused) → Answers nodes desc files a
    → OfFiles SaysNothing desc files (bare a)
bare_answer nodes desc files (Ok answer) h = files_on (SaysOf nodes) SaysNothing desc files answer (Ok tt)
    (λ p typing described says. tt) h
bare_answer nodes desc files (Err (At place fault)) h = files_turned (Err (At place fault)) (Err (At place fault)) refl
    (SaysOf nodes) SaysNothing (λ p typing described none. none) desc files h
bare_answer nodes desc files (Err Memory) h = tt

bare_known : (a : Result Answer Refused) → a ≢ Err Memory → bare a ≢ Err Memory
bare_known (Ok answer) known e = let no : ⊥ = cc in no
bare_known (Err (At place fault)) known e = let no : ⊥ = cc in no
bare_known (Err Memory) known e = known refl

bare_refusal : (a : Result Answer Refused) → refusal_of (bare a) ≡ refusal_of a
bare_refusal (Ok answer) = refl
bare_refusal (Err refused) = refl

pub refusals_one : RefusalsAreOne
refusals_one nodes others desc files a b h k na nb =
    let same : bare a ≡ bare b = files_one SaysNothing nothing_one desc files
    (bare a) (bare b) (bare_answer nodes desc files a h) (bare_answer others desc files b k) (bare_known a na) (bare_known b nb) in
    sym (bare_refusal a) ∙ (ap (λ (r : Bare). refusal_of r) same ∙ bare_refusal b)
