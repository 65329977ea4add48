-- Laws of steps that may have a fault, and of what a call answers to them.
use Rattle.std.proofs.Common.{◌≡◌, ℕ, ◌+◌, ◌<◌, ◌≤◌, Bool, true, false, cond, Option, Some, List, [], ◌∷◌, ◌++◌, length, get_or}
use Rattle.std.proofs.Common.{take, drop, Result, Ok, Err, refl, sym, ap, ◌∙◌, add-one, take-append-drop, take_all, drop-cons}
use Rattle.std.specs.Prelude.{MatchBool}
use Rattle.std.proofs.lemmas.List.{take_more}
use Rattle.list_views.specs.Results.{◌>>=◌, each, IsDue, IsFault}

-- ---- steps

abbrev done : {A E : Type 0} → A → Result A E
done x = Ok x

-- the value of a step that has no fault
pub ok_is : {A E : Type 0} (x y : A) → done {E = E} x ≡ done {E = E} y → x ≡ y
ok_is x y e = cc

-- both steps have no fault where they have none together
pub bind_ok : {A B E : Type 0} (r : Result A E) (f : A → Result B E) (y : B) → (r >>= f) ≡ Ok y → (x : A) × (r ≡ Ok x) × (f x ≡ Ok y)
bind_ok (Ok x) f y e = (x, refl, e)
bind_ok (Err d) f y e = absurd cc

-- a test that found no fault
pub guard_ok : {A E : Type 0} (b : Bool) (d : E) (x y : A) → cond b (Err d) (Ok x) ≡ Ok y → (b ≡ false) × (x ≡ y)
guard_ok true d x y e = absurd cc
guard_ok false d x y e = (refl, cc)

pub guarded : {A E : Type 0} (b : Bool) (d : E) (x y : A) → cond b (Ok x) (Err d) ≡ Ok y → (b ≡ true) × (x ≡ y)
guarded true d x y e = (refl, cc)
guarded false d x y e = absurd cc

-- ---- a step for each item of a list

-- what two parts of a list give
abbrev both : {B E : Type 0} → Result (List B) E → Result (List B) E → Result (List B) E
both (Ok ys) (Ok zs) = Ok (ys ++ zs)
both (Ok ys) (Err fault) = Err fault
both (Err fault) rest = Err fault

abbrev one : {B E : Type 0} → Result B E → Result (List B) E → Result (List B) E
one (Ok y) (Ok ys) = Ok (y ∷ ys)
one (Ok y) (Err fault) = Err fault
one (Err fault) rest = Err fault

each_one : {A B E : Type 0} (step : A → Result B E) (x : A) (xs : List A) → each step (x ∷ xs) ≡ one (step x) (each step xs)
each_one {B = B} {E = E} step x xs = by (step x) (each step xs)
  where
    by : (s : Result B E) (t : Result (List B) E) → (s >>= λ y. t >>= λ ys. Ok (y ∷ ys)) ≡ one s t
    by (Ok y) (Ok ys) = refl
    by (Ok y) (Err fault) = refl
    by (Err fault) t = refl

each_append : {A B E : Type 0} (step : A → Result B E) (xs zs : List A) → each step (xs ++ zs) ≡ both (each step xs) (each step zs)
each_append {B = B} {E = E} step [] zs = sym (by (each step zs))
  where
    by : (t : Result (List B) E) → both (Ok []) t ≡ t
    by (Ok ys) = refl
    by (Err fault) = refl
each_append {B = B} {E = E} step (x ∷ xs) zs =
    each_one step x (xs ++ zs) ∙ ap (one (step x)) (each_append step xs zs) ∙ by (step x) (each step xs) (each step zs)
    ∙ ap (λ s. both s (each step zs)) (sym (each_one step x xs))
  where
    by : (s : Result B E) (t u : Result (List B) E) → one s (both t u) ≡ both (one s t) u
    by (Ok y) (Ok ys) (Ok us) = refl
    by (Ok y) (Ok ys) (Err fault) = refl
    by (Ok y) (Err fault) u = refl
    by (Err fault) t u = refl

-- one more item
pub each_more : {A B E : Type 0} (step : A → Result B E) (xs : List A) (x : A) (ys : List B) (y : B) → each step xs ≡ Ok ys
    → step x ≡ Ok y → each step (xs ++ x ∷ []) ≡ Ok (ys ++ y ∷ [])
each_more step xs x ys y e f = each_append step xs (x ∷ []) ∙ ap (λ s. both s (each step (x ∷ []))) e
    ∙ ap (both (Ok ys)) (each_one step x [] ∙ ap (λ s. one s (Ok [])) f)

-- the first fault
pub each_broken : {A B E : Type 0} (step : A → Result B E) (xs rest : List A) (x : A) (ys : List B) (fault : E)
    → each step xs ≡ Ok ys → step x ≡ Err fault → each step (xs ++ x ∷ rest) ≡ Err fault
each_broken step xs rest x ys fault e f = each_append step xs (x ∷ rest) ∙ ap (λ s. both s (each step (x ∷ rest))) e
    ∙ ap (both (Ok ys)) (each_one step x rest ∙ ap (λ s. one s (each step rest)) f)

-- a list at one of its items
pub at_item : {A : Type 0} (xs : List A) (i : ℕ) (d : A) → i < length xs → xs ≡ take i xs ++ get_or xs i d ∷ drop (i + 1) xs
at_item xs i d l = sym (take-append-drop i xs)
    ∙ ap (λ ys. take i xs ++ ys) (drop-cons xs i d l ∙ ap (λ j. get_or xs i d ∷ drop j xs) (sym (add-one i)))

-- one more item: the turn of a loop
pub each_so_far : {A B E : Type 0} (step : A → Result B E) (xs : List A) (i : ℕ) (d : A) (ys more : List B) (y : B) → i < length xs
    → each step (take i xs) ≡ Ok ys → step (get_or xs i d) ≡ Ok y → more ≡ ys ++ y ∷ [] → each step (take (i + 1) xs) ≡ Ok more
each_so_far step xs i d ys more y l h s m = ap (each step) (take_more xs i d l) ∙ each_more step (take i xs) (get_or xs i d) ys y h
    s ∙ ap Ok (sym m)

-- all items: a loop's end
pub each_all : {A B E : Type 0} (step : A → Result B E) (xs : List A) (i : ℕ) (ys : List B) → length xs ≤ i
    → each step (take i xs) ≡ Ok ys → each step xs ≡ Ok ys
each_all step xs i ys l h = ap (each step) (sym (take_all i xs l)) ∙ h

-- ---- answers

-- what holds but for want of memory, handed on
told_on : {P Q : Type 0} (b : Bool) → (P → Q) → MatchBool b (Unit {0}) P → MatchBool b (Unit {0}) Q
told_on true more h = tt
told_on false more h = more h

-- a fault that is due for one thing is due for another, where each fault of the first is one of the second
pub handed_on : {X Y E : Type 0} (is_memory : E → Bool) (fault : E) (due : Result X E) (other : Result Y E)
    → (due ≡ Err fault → other ≡ Err fault) → IsDue is_memory fault due → IsDue is_memory fault other
handed_on is_memory fault due other same h = told_on (is_memory fault) same h

-- a fault that one test finds is one that another finds
pub found_by : {E : Type 0} (is_memory : E → Bool) (fault : E) (one other : Option E) → (one ≡ Some fault → other ≡ Some fault)
    → IsFault is_memory fault one → IsFault is_memory fault other
found_by is_memory fault one other same h = told_on (is_memory fault) same h

-- a fault that is due
pub is_due : {Y E : Type 0} (is_memory : E → Bool) (fault : E) (due : Result Y E) → due ≡ Err fault → IsDue is_memory fault due
is_due {Y} {E} is_memory fault due e = by (is_memory fault)
  where
    by : (b : Bool) → MatchBool b (Unit {0}) (due ≡ Err fault)
    by true = tt
    by false = e
