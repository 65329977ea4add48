-- Rank steps without an entry, step by step.
use Rattle.std.proofs.Common.{◌≡◌, ℕ, zero, suc, ◌+◌, ◌<◌, ◌≤◌, Bool, true, false, cond, List, [], ◌∷◌, length, drop, Option, Some, None}
use Rattle.std.proofs.Common.{refl, sym, ap, ◌∙◌, subst, arith}
use Rattle.descent.specs.declared.proof.ProofStep.{ProofStep}
use Rattle.bound_text.specs.declared.texts.BoundEntry.{BoundEntry}
use Rattle.bound_check.specs.declared.fault.BoundFault.{BoundFault}
use Rattle.bound_check.specs.declared.fault.BoundFault.TheVariants.{Missing}
use Rattle.bound_check.specs.Entries.{is_covered, missing_from}

pub drop_is : (steps : List ProofStep) (n : ℕ) → n < length steps → (step : ProofStep) × (drop n steps ≡ step ∷ drop (suc n) steps)
drop_is [] n l = absurd (omega (arith, l))
drop_is (x ∷ steps) zero l = (x, refl)
drop_is (x ∷ steps) (suc n) l = drop_is steps n (omega (arith, l))

drop_none : (steps : List ProofStep) (n : ℕ) → length steps ≤ n → drop n steps ≡ []
drop_none [] zero l = refl
drop_none [] (suc n) l = refl
drop_none (x ∷ steps) zero l = absurd (omega (arith, l))
drop_none (x ∷ steps) (suc n) l = drop_none steps n (omega (arith, l))

here_is : (entries : List BoundEntry) (steps : List ProofStep) (n : ℕ) → n < length steps → missing_from entries steps n (drop n steps)
    ≡ cond (is_covered entries steps n) (missing_from entries steps (suc n) (drop (suc n) steps)) (Some (Missing n))
here_is entries steps n l = let d = drop_is steps n l in ap (missing_from entries steps n) d.1

pub one_covered : (entries : List BoundEntry) (steps : List ProofStep) (n : ℕ) (covered : Bool) (all : Option BoundFault)
    → n < length steps → covered ≡ is_covered entries steps n → covered ≡ true → missing_from entries steps n (drop n steps) ≡ all
    → missing_from entries steps (n + 1) (drop (n + 1) steps) ≡ all
one_covered entries steps n covered all l is t e =
    let next : suc n ≡ n + 1 = omega arith in
    ap (λ (k : ℕ). missing_from entries steps k (drop k steps)) (sym next)
    ∙ ap (λ (b : Bool). cond b (missing_from entries steps (suc n) (drop (suc n) steps)) (Some (Missing n))) (sym t ∙ is)
    ∙ sym (here_is entries steps n l) ∙ e

pub one_missing : (entries : List BoundEntry) (steps : List ProofStep) (n : ℕ) (covered : Bool) (all : Option BoundFault)
    → n < length steps → covered ≡ is_covered entries steps n → covered ≡ false → missing_from entries steps n (drop n steps) ≡ all
    → Some (Missing n) ≡ all
one_missing entries steps n covered all l is f e =
    ap (λ (b : Bool). cond b (missing_from entries steps (suc n) (drop (suc n) steps)) (Some (Missing n))) (sym f ∙ is)
    ∙ sym (here_is entries steps n l) ∙ e

pub none_missing : (entries : List BoundEntry) (steps : List ProofStep) (n : ℕ) (all : Option BoundFault) → length steps ≤ n
    → missing_from entries steps n (drop n steps) ≡ all → None ≡ all
none_missing entries steps n all l e = sym (ap (missing_from entries steps n) (drop_none steps n l)) ∙ e
