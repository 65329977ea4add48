-- A number of blocks is refused with one place and fault, or never.
use Rattle.std.proofs.Common.{◌≡◌, ◌∙◌, ℕ, List, [], ◌∷◌, Option, Some, None, Result, Ok, Err, refl, sym, subst, inl, inr}
use Rattle.std.specs.Prelude.{◌≢◌}
use Rattle.asm_lines.specs.declared.fault.AsmFault.{AsmFault}
use Rattle.class_asm.specs.Classes.{assembled}
use Rattle.term_graph.specs.Limits.{most_nodes}
use Rattle.input_steps.specs.declared.refused.Refused.{Refused}
use Rattle.input_steps.specs.declared.refused.Refused.TheVariants.{At, Memory}
use Rattle.input_steps.specs.declared.refused.Place.{Place}
use Rattle.input_steps.specs.declared.refused.Place.TheVariants as places
use Rattle.input_steps.specs.declared.refused.Fault.{Fault}
use Rattle.input_steps.specs.declared.refused.Fault.TheVariants as faults
use Rattle.input_steps.proofs.OneAnswer.{at_one, ok_one, err_one, ok_err}
use Rattle.class_calls.specs.asm_call.Answers.{RefusesListing}
use Rattle.prove_call.specs.declared.answer.Answer.{Answer}
use Rattle.prove_call.specs.Laws.{refusal_of}
use Rattle.prove_call.proofs.OneAnswer as proving
use Rattle.generate_text.specs.Descriptions.{description}
use Rattle.generate_text.specs.Listings.{listing_of}
use Rattle.jterm.specs.declared.generate.Generated.{Generated}
use Rattle.jterm.specs.GenerateAnswers.{IsClass, Proves, IsYes, IsMaybe, AnswersFiles, Answers}

-- `prove` answers for the files: it does not refuse them
proves_some : (n : ℕ) (files : List (List ℕ)) (generated : Generated) → AnswersFiles n files (Ok generated) → (answer : Answer)
    × Proves files (Ok answer)
proves_some n files generated (inl sure) = (_, sure.proved)
proves_some n files generated (inr maybe) = (_, maybe.proved)

-- of files
files_apart : (n : ℕ) (files : List (List ℕ)) (generated : Generated) (place : Place) (fault : Fault)
    → AnswersFiles n files (Ok generated) → Proves files (Err (At place fault)) → ⊥
files_apart n files generated place fault h k =
    let some = proves_some n files generated h in
    let none : (let o : Option Refused = None in o) ≡ Some (At place fault) =
    proving.refusals_one most_nodes most_nodes description files (Ok some.0) (Err (At place fault)) some.1 k (λ e. cc) (λ e. cc) in
    cc

files_named : (files : List (List ℕ)) (p q : Place) (f g : Fault) → Proves files (Err (At p f)) → Proves files (Err (At q g))
    → At p f ≡ At q g
files_named files p q f g h k =
    let same : Some (At p f) ≡ Some (At q g) =
    proving.refusals_one most_nodes most_nodes description files (Err (At p f)) (Err (At q g)) h k (λ e. cc) (λ e. cc) in
    cc

-- of listings
class_one : (n : ℕ) (a b : List ℕ) → IsClass n a → IsClass n b → a ≡ b
class_one n a b h k = ok_one {E = AsmFault} (assembled (listing_of n)) a b h k

class_apart : (n : ℕ) (class : List ℕ) (place : Place) (fault : Fault) → IsClass n class → RefusesListing (listing_of n) place fault → ⊥
class_apart n class place fault h k = ok_err (assembled (listing_of n)) class k.cause h k.holds

listing_named : (n : ℕ) (p q : Place) (f g : Fault) → RefusesListing (listing_of n) p f → RefusesListing (listing_of n) q g
    → At p f ≡ At q g
listing_named n p q f g h k =
    let one = err_one {A = List ℕ} (assembled (listing_of n)) in
    let e = at_one {C = AsmFault} (λ fault. places.Listing) faults.Listing (λ fault. assembled (listing_of n) ≡ Err fault) one p q f
    g h k in
    λ i. At (e.0 i) (e.1 i)

answer_apart : (n : ℕ) (generated : Generated) (place : Place) (fault : Fault) → Answers n (Ok generated)
    → Answers n (Err (At place fault)) → ⊥
answer_apart n generated place fault h (inl k) = class_apart n h.0 place fault h.1.0 k
answer_apart n generated place fault h (inr k) =
    let same = class_one n k.0 h.0 k.1.0 h.1.0 in
    files_apart n (h.0 ∷ []) generated place fault h.1.1
    (subst (λ (class : List ℕ). Proves (class ∷ []) (Err (At place fault))) same k.1.1)

answer_named : (n : ℕ) (p q : Place) (f g : Fault) → Answers n (Err (At p f)) → Answers n (Err (At q g)) → At p f ≡ At q g
answer_named n p q f g (inl h) (inl k) = listing_named n p q f g h k
answer_named n p q f g (inl h) (inr k) = absurd (class_apart n k.0 p f k.1.0 h)
answer_named n p q f g (inr h) (inl k) = absurd (class_apart n h.0 q g h.1.0 k)
answer_named n p q f g (inr h) (inr k) =
    let same = class_one n k.0 h.0 k.1.0 h.1.0 in
    files_named (h.0 ∷ []) p q f g h.1.1 (subst (λ (class : List ℕ). Proves (class ∷ []) (Err (At q g))) same k.1.1)

pub refusals_one : (n : ℕ) (a b : Result Generated Refused) → Answers n a → Answers n b → a ≢ Err Memory → b ≢ Err Memory
    → refusal_of a ≡ refusal_of b
refusals_one n (Ok x) (Ok y) h k nr ns = refl
refusals_one n (Ok x) (Err (At place fault)) h k nr ns = absurd (answer_apart n x place fault h k)
refusals_one n (Ok x) (Err Memory) h k nr ns = absurd (ns refl)
refusals_one n (Err (At place fault)) (Ok y) h k nr ns = absurd (answer_apart n y place fault k h)
refusals_one n (Err (At p f)) (Err (At q g)) h k nr ns = let same = answer_named n p q f g h k in λ i. Some (same i)
refusals_one n (Err (At place fault)) (Err Memory) h k nr ns = absurd (ns refl)
refusals_one n (Err Memory) s h k nr ns = absurd (nr refl)
