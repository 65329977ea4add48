-- Counts of steps, from the last step to the first.
use Rattle.std.proofs.Common.{◌≡◌, ℕ, zero, suc, ◌+◌, ◌-◌, ◌<◌, ◌≤◌, Bool, true, false, cond, List, [], ◌∷◌, ◌++◌, length, get_or, set}
use Rattle.std.proofs.Common.{take, drop, replicate, Option, Some, None, refl, sym, ap, ◌∙◌, subst, arith}
use Rattle.std.specs.Prelude.{nat_lt, slice_get}
use Rattle.std.proofs.lemmas.Bool.{ltb-true, ltb-false}
use Rattle.descent.specs.declared.proof.ProofStep.{ProofStep}
use Rattle.descent.specs.declared.proof.ProofStep.TheVariants.{Empty, Split, Rank, Dead}
use Rattle.bound_check.specs.Parts.{count_at, untaken_parts, untaken_in, untaken_from}
use Rattle.bound_check.specs.inner.Words.{untaken_of_parts, untaken_of_step}

-- the counts of the steps from one on, behind noughts
abbrev pub AreCounted : List ProofStep → ℕ → List ℕ → Type 0
AreCounted steps number counts = counts ≡ replicate number 0 ++ untaken_from number (drop number steps)

below_one : (n : ℕ) (later : List ℕ) (step : ℕ) → step < n → get_or (replicate n 0 ++ later) step 0 ≡ 0
below_one zero later step l = absurd (omega (arith, l))
below_one (suc n) later zero l = refl
below_one (suc n) later (suc step) l = below_one n later step (omega (arith, l))

behind_one : (n : ℕ) (later : List ℕ) (step : ℕ) → n ≤ step → get_or (replicate n 0 ++ later) step 0 ≡ get_or later (step - n) 0
behind_one zero later step l = ap (λ (k : ℕ). get_or later k 0) (omega arith)
behind_one (suc n) later zero l = absurd (omega (arith, l))
behind_one (suc n) later (suc step) l = behind_one n later step (omega (arith, l)) ∙ ap (λ (k : ℕ). get_or later k 0) (omega arith)

one_count : (number : ℕ) (later : List ℕ) (step : ℕ) → get_or (replicate (suc number) 0 ++ later) step 0 ≡ count_at number later step
one_count number later step = at (nat_lt number step) refl
  where
    at : (b : Bool) → nat_lt number step ≡ b
        → get_or (replicate (suc number) 0 ++ later) step 0 ≡ cond b (get_or later (step - suc number) 0) 0
    at true e = let l = ltb-true number step e in behind_one (suc number) later step (omega (arith, l))
    at false e = let l = ltb-false number step e in below_one (suc number) later step (omega (arith, l))

parts_counted : (number : ℕ) (later counts : List ℕ) (steps : List (Option ℕ)) → counts ≡ replicate (suc number) 0 ++ later
    → untaken_of_parts counts steps ≡ untaken_parts number later steps
parts_counted number later counts [] e = refl
parts_counted number later counts (None ∷ steps) e = ap (λ (n : ℕ). 1 + n) (parts_counted number later counts steps e)
parts_counted number later counts (Some step ∷ steps) e =
    ap (λ (n : ℕ). n + untaken_of_parts counts steps) (ap (λ (c : List ℕ). get_or c step 0) e ∙ one_count number later step)
    ∙ ap (λ (n : ℕ). count_at number later step + n) (parts_counted number later counts steps e)

step_counted : (number : ℕ) (later counts : List ℕ) (step : ProofStep) → counts ≡ replicate (suc number) 0 ++ later
    → untaken_of_step counts step ≡ untaken_in number later step
step_counted number later counts Empty e = refl
step_counted number later counts (Split parts steps) e = parts_counted number later counts steps e
step_counted number later counts (Rank step rest) e = ap (λ (c : List ℕ). get_or c rest 0) e ∙ one_count number later rest
step_counted number later counts (Dead rule multipliers rest) e = ap (λ (c : List ℕ). get_or c rest 0) e ∙ one_count number later rest

set_last : (n : ℕ) (later : List ℕ) (count : ℕ) → set (replicate (suc n) 0 ++ later) n count ≡ replicate n 0 ++ count ∷ later
set_last zero later count = refl
set_last (suc n) later count = ap (λ (l : List ℕ). 0 ∷ l) (set_last n later count)

drop_one : (steps : List ProofStep) (n : ℕ) (step : ProofStep) → slice_get steps n ≡ Some step → drop n steps ≡ step ∷ drop (suc n) steps
drop_one [] n step e = absurd (cc)
drop_one (x ∷ steps) zero step e = let same : x ≡ step = cc in ap (λ (s : ProofStep). s ∷ steps) same
drop_one (x ∷ steps) (suc n) step e = drop_one steps n step e

at_is : (steps : List ProofStep) (n : ℕ) (step : ProofStep) → n < length steps → step ≡ get_or steps n step → slice_get steps n ≡ Some step
at_is [] n step l e = absurd (omega (arith, l))
at_is (x ∷ steps) zero step l e = ap Some (sym e)
at_is (x ∷ steps) (suc n) step l e = at_is steps n step (omega (arith, l)) e

one_by : (steps : List ProofStep) (number : ℕ) (step : ProofStep) (counts : List ℕ) (count : ℕ)
    → slice_get steps number ≡ Some step → AreCounted steps (suc number) counts → count ≡ untaken_of_step counts step
    → AreCounted steps number (set counts number count)
one_by steps number step counts count is are e =
    let later = untaken_from (suc number) (drop (suc number) steps) in
    ap (λ (c : List ℕ). set c number count) are
    ∙ set_last number later count
    ∙ ap (λ (c : ℕ). replicate number 0 ++ c ∷ later) (e ∙ step_counted number later counts step are)
    ∙ ap (λ (s : List ProofStep). replicate number 0 ++ untaken_from number s) (sym (drop_one steps number step is))

-- one step more is counted
pub one_counted : (steps : List ProofStep) (left : ℕ) (step : ProofStep) (counts : List ℕ) (count : ℕ) → 0 < left
    → left ≤ length steps → step ≡ get_or steps (left - 1) step → AreCounted steps left counts → count ≡ untaken_of_step counts step
    → AreCounted steps (left - 1) (set counts (left - 1) count)
one_counted steps zero step counts count some few is are e = absurd (omega (arith, some))
one_counted steps (suc number) step counts count some few is are e =
    let same : suc number - 1 ≡ number = omega arith in
    let here : step ≡ get_or steps number step = is ∙ ap (λ (n : ℕ). get_or steps n step) same in
    subst (λ (n : ℕ). AreCounted steps n (set counts n count)) (sym same)
    (one_by steps number step counts count (at_is steps number step (omega (arith, few)) here) are e)

drop_whole : (steps : List ProofStep) → drop (length steps) steps ≡ []
drop_whole [] = refl
drop_whole (x ∷ steps) = drop_whole steps

no_more : (xs : List ℕ) → xs ++ [] ≡ xs
no_more [] = refl
no_more (x ∷ xs) = ap (λ (l : List ℕ). x ∷ l) (no_more xs)

pub none_counted : (steps : List ProofStep) (number : ℕ) (counts : List ℕ) → number ≡ length steps → counts ≡ replicate number 0
    → AreCounted steps number counts
none_counted steps number counts e is =
    is ∙ sym (no_more (replicate number 0)) ∙ ap (λ (s : List ProofStep). replicate number 0 ++ untaken_from number s)
    (sym (ap (λ (n : ℕ). drop n steps) e ∙ drop_whole steps))

pub all_counted : (steps : List ProofStep) (counts : List ℕ) → AreCounted steps 0 counts → counts ≡ untaken_from 0 steps
all_counted steps counts are = are
