-- Where each set that was dealt out has its step, the steps are a closed proof.
use Rattle.std.proofs.Common.{◌≡◌, ◌∙◌, ◌+◌, ◌<◌, ◌≤◌, ◌&&◌, cond, ℕ, zero, suc, Bool, true, false, List, [], ◌∷◌, length, take}
use Rattle.std.proofs.Common.{Option, Some, None, slice_get, slice_set, nat_lt, replicate, refl, sym, ap, subst, arith}
use Rattle.std.proofs.lemmas.Bool.{false≢true, lt-ltb}
use Rattle.std.proofs.lemmas.Option.{none-some}
use Rattle.descent.specs.declared.faults.DescentFault.{DescentFault}
use Rattle.descent.specs.declared.proof.ProofStep.{ProofStep}
use Rattle.descent.specs.declared.rules.PathRule.{PathRule}
use Rattle.descent.specs.Steps.{Given, numbers_from, is_free, give, set_of, leaves, go_on, try_step, first_fault_from, given_first}
use Rattle.descent.specs.Steps.{proof_fault}
use Rattle.descent.proofs.Walked.{gave}
use Rattle.chain_proofs.specs.Unfinished.{HoldFrom}
use Rattle.chain_proofs.specs.Dealt.{is_dealt}
use Rattle.chain_proofs.proofs.Turning.{IsProof}

-- ---- sets that are dealt out

nones_dealt : (n : ℕ) → is_dealt (replicate n None) 0 ≡ true
nones_dealt zero = refl
nones_dealt (suc n) = nones_dealt n

pub dealt_first : (rules below : ℕ) → 1 ≤ below → is_dealt (given_first rules below) 1 ≡ true
dealt_first rules zero h = absurd (omega (arith, h))
dealt_first rules (suc below) h = nones_dealt below

dealt_suc : (given : Given) (next : ℕ) (set : List ℕ) → is_dealt given next ≡ true → slice_get given next ≡ Some None
    → is_dealt (slice_set given next (Some set)) (suc next) ≡ true
dealt_suc [] next set h e = absurd (none-some {A = Option (List ℕ)} None e)
dealt_suc (Some own ∷ rest) zero set h e = absurd (false≢true h)
dealt_suc (Some own ∷ rest) (suc next) set h e = dealt_suc rest next set h e
dealt_suc (None ∷ rest) zero set h e = h
dealt_suc (None ∷ rest) (suc next) set h e = absurd (false≢true h)

free_is : (found : Option (Option (List ℕ))) → is_free found ≡ true → found ≡ Some None
free_is None h = absurd (false≢true h)
free_is (Some None) h = refl
free_is (Some (Some set)) h = absurd (false≢true h)

pub dealt_more : (given : Given) (next : ℕ) (set : List ℕ) → is_dealt given next ≡ true → is_free (slice_get given next) ≡ true
    → is_dealt (slice_set given next (Some set)) (next + 1) ≡ true
dealt_more given next set h e = let more : suc next ≡ next + 1 = omega arith in subst
    (λ (n : ℕ). is_dealt (slice_set given next (Some set)) n ≡ true) more (dealt_suc given next set h (free_is (slice_get given next) e))

pub length_given : (given : Given) (step : ℕ) (set : Option (List ℕ)) → length (slice_set given step set) ≡ length given
length_given [] step set = refl
length_given (own ∷ rest) zero set = refl
length_given (own ∷ rest) (suc step) set = ap suc (length_given rest step set)

pub short_given : (given : Given) (step : ℕ) (set : Option (List ℕ)) → length given ≤ 4294967295
    → length (slice_set given step set) ≤ 4294967295
short_given given step set l = let same = length_given given step set in omega (arith, same, l)

nones_long : (n : ℕ) → length {A = Option (List ℕ)} (replicate n None) ≡ n
nones_long zero = refl
nones_long (suc n) = ap suc (nones_long n)

pub long_first : (rules below : ℕ) → length (given_first rules below) ≡ below
long_first rules zero = refl
long_first rules (suc below) = ap suc (nones_long below)

pub short_first : (rules below : ℕ) → below ≤ 4294967295 → length (given_first rules below) ≤ 4294967295
short_first rules below l = let same = long_first rules below in omega (arith, same, l)

-- the next step is there, and has no set
pub next_free : (given : Given) (next : ℕ) → is_dealt given next ≡ true → next < length given → is_free (slice_get given next) ≡ true
next_free [] next h l = absurd (omega (arith, l))
next_free (Some own ∷ rest) zero h l = absurd (false≢true h)
next_free (None ∷ rest) zero h l = refl
next_free (Some own ∷ rest) (suc next) h l = next_free rest next h (omega (arith, l))
next_free (None ∷ rest) (suc next) h l = absurd (false≢true h)

-- the next step is given its set
pub give_next : (number next : ℕ) (set : List ℕ) (given : Given) → number < next → is_free (slice_get given next) ≡ true
    → give number ((next, set) ∷ []) given ≡ Some (slice_set given next (Some set))
give_next number next set given l e =
    ap (λ (b : Bool). cond (b && is_free (slice_get given next)) (Some (slice_set given next (Some set))) None) (lt-ltb number next l)
    ∙ ap (λ (b : Bool). cond b (Some (slice_set given next (Some set))) None) e

-- no step from the next one on has a set
none_after : (given : Given) (next j : ℕ) (set : List ℕ) → is_dealt given next ≡ true → next ≤ j → slice_get given j ≡ Some (Some set) → ⊥
none_after [] next j set h l e = none-some (Some set) e
none_after (Some own ∷ rest) zero j set h l e = false≢true h
none_after (Some own ∷ rest) (suc next) zero set h l e = absurd (omega (arith, l))
none_after (Some own ∷ rest) (suc next) (suc j) set h l e = none_after rest next j set h (omega (arith, l)) e
none_after (None ∷ rest) zero zero set h l e = absurd cc
none_after (None ∷ rest) zero (suc j) set h l e = none_after rest zero j set h (omega arith) e
none_after (None ∷ rest) (suc next) j set h l e = false≢true h

pub later : (given : Given) (number next : ℕ) (set : List ℕ) → is_dealt given next ≡ true → set_of (slice_get given number) ≡ Some set
    → number < next
later given number next set h e = let off : next ≤ number
    → ⊥ = λ l. none_after given next number set h l (is (slice_get given number) e) in
    omega (arith, off)
  where
    is : (found : Option (Option (List ℕ))) → set_of found ≡ Some set → found ≡ Some (Some set)
    is None f = absurd (none-some set f)
    is (Some own) f = ap Some f

-- a step that has no set is none before the next one
next_low : (given : Given) (next j : ℕ) → is_dealt given next ≡ true → set_of (slice_get given j) ≡ None → next ≤ j
next_low [] zero j h e = omega arith
next_low [] (suc next) j h e = absurd (false≢true h)
next_low (Some own ∷ rest) zero j h e = absurd (false≢true h)
next_low (Some own ∷ rest) (suc next) zero h e = absurd (none-some own (sym e))
next_low (Some own ∷ rest) (suc next) (suc j) h e = let low = next_low rest next j h e in omega (arith, low)
next_low (None ∷ rest) zero j h e = omega arith
next_low (None ∷ rest) (suc next) j h e = absurd (false≢true h)

-- ---- the first sets alone

get_front : (m : ℕ) (given : Given) (j : ℕ) → j < m → slice_get (take m given) j ≡ slice_get given j
get_front zero given j l = absurd (omega (arith, l))
get_front (suc m) [] j l = refl
get_front (suc m) (own ∷ rest) zero l = refl
get_front (suc m) (own ∷ rest) (suc j) l = get_front m rest j (omega (arith, l))

set_front : (m : ℕ) (given : Given) (j : ℕ) (set : Option (List ℕ)) → slice_set (take m given) j set ≡ take m (slice_set given j set)
set_front zero given j set = refl
set_front (suc m) [] j set = refl
set_front (suc m) (own ∷ rest) zero set = refl
set_front (suc m) (own ∷ rest) (suc j) set = ap (λ (more : Given). own ∷ more) (set_front m rest j set)

nones_front : (m below : ℕ) → m ≤ below → ◌≡◌ {A = Given} (take m (replicate below None)) (replicate m None)
nones_front zero below l = refl
nones_front (suc m) zero l = absurd (omega (arith, l))
nones_front (suc m) (suc below) l = ap (λ (more : Given). None ∷ more) (nones_front m below (omega (arith, l)))

first_front : (rules m below : ℕ) → m ≤ below → take m (given_first rules below) ≡ given_first rules m
first_front rules zero below l = refl
first_front rules (suc m) zero l = absurd (omega (arith, l))
first_front rules (suc m) (suc below) l = ap (λ (more : Given). Some (numbers_from 0 rules) ∷ more)
    (nones_front m below (omega (arith, l)))

abbrev NoneFrom : ℕ → Given → Type 0
NoneFrom m given = (j : ℕ) (set : List ℕ) → m ≤ j → slice_get given j ≡ Some (Some set) → ⊥

-- what is given to steps below a number is given in the front
give_front : (m number : ℕ) (lefts : List (ℕ × List ℕ)) (given after : Given) → NoneFrom m after
    → give number lefts given ≡ Some after → give number lefts (take m given) ≡ Some (take m after)
give_front m number [] given after none e = ap (λ (g : Given). Some (take m g)) (one given after e)
  where
    one : (a b : Given) → Some a ≡ Some b → a ≡ b
    one a b e = cc
give_front m number (left ∷ rest) given after none e = go (nat_lt number left.0 && is_free (slice_get given left.0)) refl e
    (give_front m number rest (slice_set given left.0 (Some left.1)) after none)
  where
    low : left.0 < m
    low = let all = (gave number (left ∷ rest) given after e).all in let off : m ≤ left.0
        → ⊥ = λ l. none left.0 left.1 l all.1 in omega (arith, off)

    go : (b : Bool) → (nat_lt number left.0 && is_free (slice_get given left.0)) ≡ b
        → cond b (give number rest (slice_set given left.0 (Some left.1))) None ≡ Some after
        → (give number rest (slice_set given left.0 (Some left.1)) ≡ Some after
        → give number rest (take m (slice_set given left.0 (Some left.1))) ≡ Some (take m after))
        → cond (nat_lt number left.0 && is_free (slice_get (take m given) left.0))
        (give number rest (slice_set (take m given) left.0 (Some left.1))) None ≡ Some (take m after)
    go false t f more = absurd (none-some after f)
    go true t f more =
        ap (λ (o : Option (Option (List ℕ))). cond (nat_lt number left.0 && is_free o)
        (give number rest (slice_set (take m given) left.0 (Some left.1))) None) (get_front m given left.0 low)
        ∙ ap (λ (b : Bool). cond b (give number rest (slice_set (take m given) left.0 (Some left.1))) None) t
        ∙ ap (give number rest) (set_front m given left.0 (Some left.1))
        ∙ more f

kept_from : (rules : List PathRule) (number : ℕ) (given after : Given) (steps : List ProofStep) (j : ℕ) (set : List ℕ)
    → HoldFrom rules number given steps after → slice_get given j ≡ Some (Some set) → slice_get after j ≡ Some (Some set)
kept_from rules number given after [] j set h e = ap (λ (g : Given). slice_get g j) (sym h) ∙ e
kept_from rules number given after (step ∷ rest) j set h e =
    let at = h.1.0 in
    kept_from rules (suc number) h.0 after rest j set h.1.1 ((gave number (leaves at.set step) given h.0 at.gives).kept j set e)

hold_front : (rules : List PathRule) (m number : ℕ) (given after : Given) (steps : List ProofStep) → NoneFrom m after
    → number + length steps ≤ m → HoldFrom rules number given steps after → first_fault_from rules number (take m given) steps ≡ None
hold_front rules m number given after [] none l h = refl
hold_front rules m number given after (step ∷ rest) none l h =
    let at = h.1.0 in
    let low : number < m = omega (arith, l) in
    let own = ap set_of (get_front m given number low) ∙ at.given_set in
    let gives = give_front m number (leaves at.set step) given h.0
    (λ j set k e. none j set k (kept_from rules (suc number) h.0 after rest j set h.1.1 e)) at.gives in
    ap (λ (o : Option (List ℕ)). try_step rules number step (take m given) o
    (λ (other : Given). first_fault_from rules (suc number) other rest)) own
    ∙ ap (λ (f : Option DescentFault). go_on number f (give number (leaves at.set step) (take m given))
    (λ (other : Given). first_fault_from rules (suc number) other rest)) at.holds
    ∙ ap (λ (g : Option Given). go_on number None g (λ (other : Given). first_fault_from rules (suc number) other rest)) gives
    ∙ hold_front rules m (suc number) h.0 after rest none (omega (arith, l)) h.1.1

-- ---- closed proofs

first_taken : (rules below number : ℕ) (given : Given) → number < below → 0 ≡ number → given_first rules below ≡ given
    → set_of (slice_get given number) ≡ None → ⊥
first_taken rules zero number given l z e f = absurd (omega (arith, l))
first_taken rules (suc below) number given l z e f =
    none-some (numbers_from 0 rules) (sym f ∙ ap (λ (g : Given). set_of (slice_get g number)) (sym e)
    ∙ ap (λ (n : ℕ). set_of (slice_get (given_first rules (suc below)) n)) (sym z))

pub closed : (rules : List PathRule) (below number next : ℕ) (given : Given) (steps : List ProofStep)
    → IsProof rules below number steps given → number < below → is_dealt given next ≡ true → set_of (slice_get given number) ≡ None
    → proof_fault rules steps ≡ None
closed rules below number next given [] h l dealt e = absurd (first_taken (length rules) below number given l h.count h.hold e)
closed rules below number next given (step ∷ rest) h l dealt e =
    let low = next_low given next number dealt e in
    let count = h.count in
    ap (λ (g : Given). first_fault_from rules 0 g (step ∷ rest))
    (sym (first_front (length rules) (length (step ∷ rest)) below (omega (arith, count, l))))
    ∙ hold_front rules (length (step ∷ rest)) 0 (given_first (length rules) below) given (step ∷ rest)
    (λ j set k f. none_after given next j set dealt (omega (arith, low, count, k)) f) (omega arith) h.hold
