-- How many bytes switches have.
use Rattle.std.proofs.Common.{◌≡◌, ℕ, ◌+◌, ◌-◌, ◌*◌, ◌<◌, ◌^◌, List, [], ◌∷◌, ◌++◌, length, refl, ap, ◌∙◌, arith, ℤ, pos, ◌+ℤ◌}
use Rattle.std.specs.Int.{w32, to_be_bytes}
use Rattle.std.specs.List.{flat_map}
use Rattle.std.proofs.lemmas.Int.{ints}
use Rattle.std.proofs.lemmas.List.{length-append}
use Rattle.std.proofs.lemmas.List.Concat.{flat_map-cons}
use Rattle.code_forms.specs.declared.insn.Case.{Case}
use Rattle.code_decode.specs.Texts.{signed, distance, padding_of, zeros, case_text, table_text, lookup_text, IsTable}
use Rattle.code_decode.proofs.Takes.{length-zeros}

each_same : {A : Type 0} (f : A → List ℕ) (k : ℕ) → ((x : A) → length (f x) ≡ k) → (xs : List A) → length (flat_map f xs) ≡ k * length xs
each_same f k h [] = omega arith
each_same f k h (x ∷ xs) =
    let e = ap length (flat_map-cons f x xs) ∙ length-append (f x) (flat_map f xs) in
    omega (arith, e, h x, each_same f k h xs)

pub table_len : (pc default : ℕ) (low : ℤ) (targets : List ℕ)
    → length (table_text pc (zeros (padding_of pc)) default low targets) ≡ padding_of pc + 12 + 4 * length targets
table_len pc default low targets =
    let t = flat_map (λ target. signed w32 (distance pc target)) targets in
    let e = length-append (zeros (padding_of pc))
    (signed w32 (distance pc default) ++ (signed w32 low ++ (signed w32 (low +ℤ pos (length targets - 1)) ++ t))) in
    let z = length-zeros (padding_of pc) in
    let s = each_same (λ (target : ℕ). signed w32 (distance pc target)) 4 (λ target. refl) targets in
    e ∙ omega (arith, z, s)

pub lookup_len : (pc default : ℕ) (cases : List Case)
    → length (lookup_text pc (zeros (padding_of pc)) default cases) ≡ padding_of pc + 8 + 8 * length cases
lookup_len pc default cases =
    let t = flat_map (case_text pc) cases in
    let e = length-append (zeros (padding_of pc)) (signed w32 (distance pc default) ++ (to_be_bytes w32 (length cases) ++ t)) in
    let z = length-zeros (padding_of pc) in
    let s = each_same (case_text pc) 8 (λ c. refl) cases in
    e ∙ omega (arith, z, s)

pub few_targets : (pc default : ℕ) (low : ℤ) (targets : List ℕ) → IsTable pc default low targets → length targets < 2 ^ 33
few_targets pc default low targets h =
    let a = h.lowest in
    let b = h.highest in
    omega (arith, ints)
