-- Certificates in the output of a `prove` that says YES.
use Rattle.std.proofs.Common.{◌≡◌, ◌-◌, ℕ, List, [], ◌∷◌, ◌++◌, length, take, drop, refl, sym, ap, ◌∙◌, subst, arith, length-append}
use Rattle.std.specs.Prelude.{codes}
use Rattle.prove_call.specs.Lines.{yes_text}

take_front : (front end : List ℕ) → take (length front) (front ++ end) ≡ front
take_front [] end = refl
take_front (b ∷ front) end = ap (λ (bs : List ℕ). b ∷ bs) (take_front front end)

-- what stands between the first line and the last newline is the certificate
pub cut_out : (out rest cert : List ℕ) → (whole : List ℕ) → out ≡ yes_text whole → rest ≡ drop 4 out
    → cert ≡ take (length rest - 1) rest → cert ≡ whole
cut_out out rest cert whole is behind cut =
    let here : rest ≡ whole ++ codes "\n" = behind ∙ ap (λ (bs : List ℕ). drop 4 bs) is in
    let long : length rest - 1 ≡ length whole =
    (let l = ap length here in let m = length-append whole (codes "\n") in omega (arith, l, m)) in
    cut ∙ (ap (λ (bs : List ℕ). take (length rest - 1) bs) here
    ∙ (ap (λ (n : ℕ). take n (whole ++ codes "\n")) long ∙ take_front whole (codes "\n")))
