-- What is known of an answer that was given: of each part that it is made of.
use Rattle.std.proofs.Common.{◌≡◌, ℕ, zero, suc, Bool, true, false, List, [], ◌∷◌, Option, Some, None, Ok, Err, refl, subst, ◌∙◌}
use Rattle.std.specs.Prelude.{Result, map, slice_get}
use Rattle.std.specs.List.{AllByRecursion}
use Rattle.class_program.specs.declared.refusal.Refusal.{Refusal}
use Rattle.class_world.specs.declared.fault.MethodName.{MethodName}
use Rattle.class_program.specs.Refusals.{◌>>=◌, wanted, required, together, with_fault}
use Rattle.class_program.specs.Said.{Said, each}
use Rattle.list_views.proofs.Steps.{bind_ok}

pub got_wanted : {A : Type 0} (o : Option A) (x : A) → wanted o ≡ Ok x → o ≡ Some x
got_wanted (Some y) x e = cc
got_wanted None x e = cc

pub got_required : (b : Bool) (x : Unit {0}) → required b ≡ Ok x → b ≡ true
got_required true x e = refl
got_required false x e = cc

pub got_both : {A B : Type 0} (a : Result A Refusal) (b : Result B Refusal) (x : A × B) → together a b ≡ Ok x → (a ≡ Ok x.0) × (b ≡ Ok x.1)
got_both (Ok a) (Ok b) x e = (cc, cc)
got_both (Ok a) (Err r) x e = cc
got_both (Err r) (Ok b) x e = cc
got_both (Err r) (Err s) x e = cc

pub got_faultless : {A : Type 0} (name : MethodName) (pc : ℕ) (s : Result A Refusal) (x : A) → with_fault name pc s ≡ Ok x → s ≡ Ok x
got_faultless name pc (Ok y) x e = cc
got_faultless name pc (Err r) x e = cc

-- an answer of which something more was asked
pub got_asked : {A : Type 0} (r : Result A Refusal) (ask : A → Result (Unit {0}) Refusal) (x : A)
    → (r >>= λ a. ask a >>= λ _. Ok a) ≡ Ok x → r ≡ Ok x
got_asked r ask x e =
    let a = bind_ok r (λ y. ask y >>= λ _. Ok y) x e in
    let b = bind_ok (ask a.0) (λ _. Ok a.0) x a.2 in
    a.1 ∙ b.2

-- ---- lists

pub all_at : {A : Type 0} (P : A → Type 0) (xs : List A) (i : ℕ) (x : A) → AllByRecursion P xs → slice_get xs i ≡ Some x → P x
all_at P [] i x h e = cc
all_at {A} P (y ∷ ys) zero x h e = let same : y ≡ x = cc in subst (λ (z : A). P z) same h.0
all_at P (y ∷ ys) (suc i) x h e = all_at P ys i x h.1 e

pub all_both : {A : Type 0} (P Q : A → Type 0) (xs : List A) → AllByRecursion P xs → AllByRecursion Q xs
    → AllByRecursion (λ x. P x × Q x) xs
all_both P Q [] h k = tt
all_both P Q (x ∷ xs) h k = ((h.0, k.0), all_both P Q xs h.1 k.1)

-- what is said of each item of a list has what follows of each
pub each_good : {A B : Type 0} (P : A → Type 0) (Q : B → Type 0) (of : A → Said B) (xs : List A) (ys : List B)
    → ((x : A) (y : B) → P x → of x ≡ Ok y → Q y) → AllByRecursion P xs → each of xs ≡ Ok ys → AllByRecursion Q ys
each_good {B = B} P Q of [] ys f h e = let same : [] ≡ ys = cc in subst (λ (zs : List B). AllByRecursion Q zs) same tt
each_good {B = B} P Q of (x ∷ xs) ys f h e =
    let y = bind_ok (of x) _ ys e in
    let zs = bind_ok (each of xs) _ ys y.2 in
    let same : y.0 ∷ zs.0 ≡ ys = cc in
    subst (λ (us : List B). AllByRecursion Q us) same (f x y.0 h.0 y.1, each_good P Q of xs zs.0 f h.1 zs.1)
