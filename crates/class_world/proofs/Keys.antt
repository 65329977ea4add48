-- Members of different names and descriptors, put into an index one after another.
use Rattle.std.proofs.Common.{◌≡◌, ◌||◌, ℕ, zero, suc, ◌+◌, ◌<◌, Bool, true, false, cond, List, [], ◌∷◌, ◌++◌, length, get_or, take}
use Rattle.std.proofs.Common.{sym, refl, ap, ap₂, ◌∙◌, arith, add-one}
use Rattle.std.specs.Prelude.{map}
use Rattle.std.specs.List.{list_any, IsDistinct, AllByRecursion}
use Rattle.std.proofs.Math.Seq.{take-suc}
use Rattle.std.proofs.lemmas.Bool.{false≢true}
use Rattle.std.proofs.lemmas.List.{map-append}
use Rattle.code_forms.specs.class_base.Members.{Key, same_key}
use Rattle.code_forms.proofs.class_base.Keys.{same_swapped}

-- no earlier one has the key of a place
pub none_before : {X : Type 0} (key : X → Key) (xs : List X) (i : ℕ) (d : X) → IsDistinct same_key (map key xs) → i < length xs
    → list_any (same_key (key (get_or xs i d))) (map key (take i xs)) ≡ false
unfolding IsDistinct
none_before key [] i d h l = absurd (omega (arith, l))
none_before key (x ∷ xs) zero d h l = refl
none_before {X} key (x ∷ xs) (suc i) d h l =
    let apart : same_key (key x) (key (get_or xs i d)) ≡ false = at xs i h.0 (omega (arith, l)) in
    ap (λ b. b || list_any (same_key (key (get_or xs i d))) (map key (take i xs))) (same_swapped (key (get_or xs i d)) (key x) ∙ apart)
    ∙ none_before key xs i d h.1 (omega (arith, l))
  where
    at : (ys : List X) (j : ℕ) → AllByRecursion (λ k. same_key (key x) k ≡ false) (map key ys) → j < length ys
        → same_key (key x) (key (get_or ys j d)) ≡ false
    at [] j a m = absurd (omega (arith, m))
    at (y ∷ ys) zero a m = a.0
    at (y ∷ ys) (suc j) a m = at ys j a.1 (omega (arith, m))

-- one more member
pub names_more : {X : Type 0} (key : X → Key) (xs : List X) (i : ℕ) (x d : X) (old new : List Key) (added : Bool)
    → IsDistinct same_key (map key xs) → i < length xs → x ≡ get_or xs i d → old ≡ map key (take i xs)
    → new ≡ cond added (old ++ key x ∷ []) old → list_any (same_key (key x)) old ≡ cond added false true → new ≡ map key (take (i + 1) xs)
names_more key xs i x d old new added h l e o n w = go added n w
  where
    fresh : list_any (same_key (key x)) old ≡ false
    fresh = ap₂ (λ k ks. list_any (same_key k) ks) (ap key e) o ∙ none_before key xs i d h l

    go : (b : Bool) → new ≡ cond b (old ++ key x ∷ []) old → list_any (same_key (key x)) old ≡ cond b false true
        → new ≡ map key (take (i + 1) xs)
    go false m v = absurd (false≢true (sym fresh ∙ v))
    go true m v =
        m ∙ ap₂ (λ ks k. ks ++ k ∷ []) o (ap key e)
        ∙ sym (map-append key (take i xs) (get_or xs i d ∷ []))
        ∙ ap (map key) (sym (rw (add-one) (take-suc xs i d l)))
