-- Stacks read as slices.
use Rattle.std.proofs.Common.{◌≡◌, ℕ, List, length, take, reverse, sym, ap, ◌∙◌}
use Rattle.std.proofs.Math.Seq.{take-length}
use Rattle.std.proofs.lemmas.List.{reverse-reverse}

-- a copy of all entries is the stack
pub whole : {A : Type 0} (copy stack : List A) (i : ℕ) → i ≡ length (reverse stack) → reverse copy ≡ take i (reverse stack) → copy ≡ stack
whole copy stack i e h =
    sym (reverse-reverse copy) ∙ ap reverse (h ∙ ap (λ (n : ℕ). take n (reverse stack)) e ∙ take-length (reverse stack))
    ∙ reverse-reverse stack
