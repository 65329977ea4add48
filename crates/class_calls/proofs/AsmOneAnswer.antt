-- A listing has one answer.
use Rattle.std.proofs.Common.{◌≡◌, ◌∙◌, ℕ, List, Result, Ok, Err, refl, sym}
use Rattle.asm_lines.specs.declared.fault.AsmFault.{AsmFault}
use Rattle.class_asm.specs.Classes.{assembled}
use Rattle.input_steps.specs.declared.refused.Refused.TheVariants.{At, Memory}
use Rattle.input_steps.specs.declared.refused.Place.TheVariants as places
use Rattle.input_steps.specs.declared.refused.Fault.TheVariants as faults
use Rattle.input_steps.proofs.OneAnswer.{IsOne, at_one, ok_one, err_one, ok_err}
use Rattle.class_calls.specs.asm_call.Answers.{Answers}

pub answers_one : (listing : List ℕ) → IsOne (Answers listing)
answers_one listing (Ok x) (Ok y) h k nr ns = let same = ok_one {E = AsmFault} (assembled listing) x y h k in λ i. Ok (same i)
answers_one listing (Ok x) (Err (At place fault)) h k nr ns = absurd (ok_err (assembled listing) x k.cause h k.holds)
answers_one listing (Ok x) (Err Memory) h k nr ns = absurd (ns refl)
answers_one listing (Err (At place fault)) (Ok y) h k nr ns = absurd (ok_err (assembled listing) y h.cause k h.holds)
answers_one listing (Err (At p f)) (Err (At q g)) h k nr ns =
    let one = err_one {A = List ℕ} (assembled listing) in
    let e = at_one {C = AsmFault} (λ fault. places.Listing) faults.Listing (λ fault. assembled listing ≡ Err fault) one p q f g h k in
    λ i. Err (At (e.0 i) (e.1 i))
answers_one listing (Err (At place fault)) (Err Memory) h k nr ns = absurd (ns refl)
answers_one listing (Err Memory) s h k nr ns = absurd (nr refl)
