-- What a listing without faults keeps.
use Rattle.std.proofs.Common.{◌≡◌, ℕ, ◌<◌, suc, Bool, true, false, cond, ◌&&◌, List, [], ◌∷◌, ◌++◌, length, map, Option, Some, None}
use Rattle.std.proofs.Common.{refl, ap}
use Rattle.std.specs.Prelude.{nat_lt}
use Rattle.std.specs.List.{flat_map, AllByRecursion}
use Rattle.std.proofs.lemmas.Bool.{ltb-true}
use Rattle.asm_lines.specs.declared.fault.AsmFault.{AsmFault}
use Rattle.asm_lines.specs.Firsts.{is_before, with_faults, unless}

-- ---- no faults

kept : (x y : AsmFault) (fs : List AsmFault) → ((z : AsmFault) → with_faults (Some z) fs ≡ None → ⊥) → (b : Bool)
    → with_faults (cond b (Some y) (Some x)) fs ≡ None → ⊥
kept x y fs more true h = more y h
kept x y fs more false h = more x h

pub stays : (fs : List AsmFault) (x : AsmFault) → with_faults (Some x) fs ≡ None → ⊥
stays [] x h = cc
stays (y ∷ fs) x h = kept x y fs (stays fs) (is_before y x) h

pub no_faults : (o : Option AsmFault) (fs : List AsmFault) → with_faults o fs ≡ None → fs ≡ []
no_faults o [] h = refl
no_faults None (x ∷ fs) h = absurd (stays fs x h)
no_faults (Some y) (x ∷ fs) h = absurd (stays (x ∷ fs) y h)

-- ---- parts of no faults

pub left : {A : Type 0} (xs ys : List A) → xs ++ ys ≡ [] → xs ≡ []
left [] ys h = refl
left (x ∷ xs) ys h = absurd cc

pub right : {A : Type 0} (xs ys : List A) → xs ++ ys ≡ [] → ys ≡ []
right [] ys h = h
right (x ∷ xs) ys h = absurd cc

pub each : {A B : Type 0} (f : A → List B) (xs : List A) → flat_map f xs ≡ [] → AllByRecursion (λ x. f x ≡ []) xs
each f [] h = tt
each f (x ∷ xs) h = (left (f x) (flat_map f xs) h, each f xs (right (f x) (flat_map f xs) h))

pub is_good : (good : Bool) (line : ℕ) → unless good line ≡ [] → good ≡ true
is_good true line h = refl
is_good false line h = absurd cc

pub first_of_both : (a b : Bool) → a && b ≡ true → a ≡ true
first_of_both true b h = refl
first_of_both false b h = absurd cc

pub second_of_both : (a b : Bool) → a && b ≡ true → b ≡ true
second_of_both true b h = h
second_of_both false b h = absurd cc

pub both_true : (a b : Bool) → a ≡ true → b ≡ true → a && b ≡ true
both_true a b p q = rw (p, q) refl

pub all_both : {A : Type 0} (P Q R : A → Type 0) → ((x : A) → P x → Q x → R x) → (xs : List A) → AllByRecursion P xs
    → AllByRecursion Q xs → AllByRecursion R xs
all_both P Q R f [] p q = tt
all_both P Q R f (x ∷ xs) p q = (f x p.0 q.0, all_both P Q R f xs p.1 q.1)
