-- Where a JVM would do otherwise: receivers, lists of methods, and packages.
use Rattle.std.proofs.Common.{◌≡◌, ◌&&◌, ◌||◌, ℕ, Bool, true, false, cond, List, [], ◌∷◌, ◌++◌, ◌⊎◌, ◌+◌, ◌<◌, length, get_or, take}
use Rattle.std.proofs.Common.{refl, ap, ap₂, sym, ◌∙◌, inl, inr, eq-eqb, ne_eqb, add-one}
use Rattle.std.proofs.Math.Seq.{take-suc}
use Rattle.std.specs.List.{list_any, filter}
use Rattle.std.proofs.lemmas.Bool.{or_right}
use Rattle.std.proofs.lemmas.List.Folds.{list_any-append}
use Rattle.list_views.proofs.Truths.{or_false, and_false}
use Rattle.class_world.specs.World.{World}
use Rattle.class_program.specs.JvmDiffers.{object_methods, throwable_methods, is_listed, loses, is_slash, package_of}

-- ---- receivers

-- one of those that pass the one test passes the other
pub any_filtered : (q p : ℕ → Bool) (xs : List ℕ) → list_any (λ x. q x && p x) xs ≡ list_any p (filter q xs)
any_filtered q p [] = refl
any_filtered q p (x ∷ xs) = go (q x) (any_filtered q p xs)
  where
    go : (b : Bool) → list_any (λ y. q y && p y) xs ≡ list_any p (filter q xs)
        → ((b && p x) || list_any (λ y. q y && p y) xs) ≡ list_any p (cond b (x ∷ filter q xs) (filter q xs))
    go true rest = ap (λ c. p x || c) rest
    go false rest = rest

-- ---- methods of Object and Throwable

-- without a method of that name and descriptor nothing is lost
pub none_lost : (world : World) (name desc : List ℕ)
    → (is_listed object_methods name desc || is_listed throwable_methods name desc) ≡ false → (xs : List ℕ)
    → list_any (loses world name desc) xs ≡ false
none_lost world name desc e [] = refl
none_lost world name desc e (x ∷ xs) = ap₂ (λ a b. a || b)
    (go _ (is_listed object_methods name desc) _ (is_listed throwable_methods name desc) e) (none_lost world name desc e xs)
  where
    go : (a o b t : Bool) → (o || t) ≡ false → (a && (o || (b && t))) ≡ false
    go a true b t f = absurd (cc)
    go a false b true f = absurd (cc)
    go a false b false f = ap (λ z. a && z) (and_false b) ∙ and_false a

-- ---- packages

-- one more byte
pub package_more : (xs : List ℕ) (c : ℕ) → package_of (xs ++ c ∷ []) ≡ cond (is_slash c) xs (package_of xs)
package_more [] c = go (is_slash c) []
  where
    go : (b : Bool) (none : List ℕ) → none ≡ cond b none none
    go true none = refl
    go false none = refl
package_more (x ∷ xs) c = go (is_slash c) refl (package_more xs c)
  where
    last : (b : Bool) → cond (list_any is_slash xs || (b || false)) (x ∷ cond b xs (package_of xs)) [] ≡ cond b (x ∷ xs)
        (package_of (x ∷ xs))
    last true = ap (λ v. cond v (x ∷ xs) []) (or_right (list_any is_slash xs) true refl)
    last false = ap (λ v. cond v (x ∷ package_of xs) []) (or_false (list_any is_slash xs))

    go : (b : Bool) → is_slash c ≡ b → package_of (xs ++ c ∷ []) ≡ cond (is_slash c) xs (package_of xs)
        → package_of (x ∷ (xs ++ c ∷ [])) ≡ cond (is_slash c) (x ∷ xs) (package_of (x ∷ xs))
    go b e more =
        ap₂ (λ v ys. cond v (x ∷ ys) []) (list_any-append is_slash xs (c ∷ []) ∙ ap (λ w. list_any is_slash xs || (w || false)) e)
        (more ∙ ap (λ w. cond w xs (package_of xs)) e)
        ∙ last b ∙ sym (ap (λ w. cond w (x ∷ xs) (package_of (x ∷ xs))) e)

-- one more place: a `/` there ends the package before it, another byte leaves it
pub package_step : (name : List ℕ) (i end next : ℕ) → i < length name → take end name ≡ package_of (take i name)
    → ((get_or name i 0 ≡ 47) × (next ≡ i)) ⊎ ((get_or name i 0 ≡ 47 → ⊥) × (next ≡ end)) → take next name ≡ package_of (take (i + 1) name)
package_step name i end next l e step = elim step [
  | inl s ↦ ap (λ n. take n name) s.1
      ∙ sym (more ∙ ap (λ b. cond b (take i name) (package_of (take i name))) (eq-eqb (get_or name i 0) 47 s.0))
  | inr s ↦ ap (λ n. take n name) s.1 ∙ e
      ∙ sym (more ∙ ap (λ b. cond b (take i name) (package_of (take i name))) (ne_eqb (get_or name i 0) 47 s.0))
]
  where
    more : package_of (take (i + 1) name) ≡ cond (is_slash (get_or name i 0)) (take i name) (package_of (take i name))
    more = ap package_of (ap (λ n. take n name) (add-one i) ∙ take-suc name i 0 l) ∙ package_more (take i name) (get_or name i 0)
