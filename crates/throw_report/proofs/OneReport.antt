-- A graph has one report: lists that rise and have the same numbers are the same.
use Rattle.std.proofs.Common.{◌≡◌, ◌∙◌, inl, inr, ℕ, suc, ◌≤◌, Bool, true, false, List, [], ◌∷◌, refl, sym, ap, arith}
use Rattle.std.specs.Prelude.{IsTrue}
use Rattle.jvm_heaps.specs.Regions.{RiseFrom}
use Rattle.list_views.specs.Lists.{Has}
use Rattle.throw_report.specs.declared.ways.Report.{Report}
use Rattle.throw_report.specs.Laws.{ReportsAreOne}

-- ---- lists that rise

not_less : (low c : ℕ) (xs : List ℕ) → RiseFrom low xs → Has xs c → low ≤ c
not_less low c [] rise h = absurd h
not_less low c (x ∷ xs) rise (inl e) = omega (arith, e, rise.0)
not_less low c (x ∷ xs) rise (inr h) =
    let k = not_less (suc x) c xs rise.1 h in
    omega (arith, k, rise.0)

-- the first of a list that has it isn't above the first of another one
first_not_above : (x y : ℕ) (ys : List ℕ) → RiseFrom (suc y) ys → Has (y ∷ ys) x → y ≤ x
first_not_above x y ys rise (inl e) = omega (arith, e)
first_not_above x y ys rise (inr h) =
    let k = not_less (suc y) x ys rise h in
    omega (arith, k)

rest_has : (x y c : ℕ) (xs ys : List ℕ) → x ≡ y → RiseFrom (suc x) xs → Has xs c → Has (y ∷ ys) c → Has ys c
rest_has x y c xs ys same rise h (inl e) =
    let k = not_less (suc x) c xs rise h in
    absurd (omega (arith, k, e, same))
rest_has x y c xs ys same rise h (inr there) = there

rising_same : (low low' : ℕ) (xs ys : List ℕ) → RiseFrom low xs → RiseFrom low' ys → ((c : ℕ) → Has xs c → Has ys c)
    → ((c : ℕ) → Has ys c → Has xs c) → xs ≡ ys
rising_same low low' [] [] r s f g = refl
rising_same low low' [] (y ∷ ys) r s f g = absurd (g y (inl refl))
rising_same low low' (x ∷ xs) [] r s f g = absurd (f x (inl refl))
rising_same low low' (x ∷ xs) (y ∷ ys) r s f g =
    let down = first_not_above x y ys s.1 (f x (inl refl)) in
    let up = first_not_above y x xs r.1 (g y (inl refl)) in
    let same : x ≡ y = omega (arith, down, up) in
    let rest = rising_same (suc x) (suc y) xs ys r.1 s.1 (λ c h. rest_has x y c xs ys same r.1 h (f c (inr h)))
    (λ c h. rest_has y x c ys xs (sym same) s.1 h (g c (inr h))) in
    ap (λ (n : ℕ). n ∷ xs) same ∙ ap (λ (ns : List ℕ). y ∷ ns) rest

-- ---- reports

truths_same : (a b : Bool) → (IsTrue a → IsTrue b) → (IsTrue b → IsTrue a) → a ≡ b
truths_same true true f g = refl
truths_same false false f g = refl
truths_same true false f g = sym (f refl)
truths_same false true f g = g refl

by_parts : (a b : Report) → a.returns ≡ b.returns → a.throws ≡ b.throws → a ≡ b
by_parts a b r t =
    ap (λ (x : Bool). record { returns = x; throws = a.throws }) r
    ∙ ap (λ (x : List ℕ). record { returns = b.returns; throws = x }) t

pub one_report : ReportsAreOne
one_report nodes a b h k = by_parts a b
    (truths_same a.returns b.returns (λ e. k.returns.1 (h.returns.0 e)) (λ e. h.returns.1 (k.returns.0 e)))
    (rising_same 0 0 a.throws b.throws h.rising k.rising (λ c e. (k.throws c).1 ((h.throws c).0 e))
    (λ c e. (h.throws c).1 ((k.throws c).0 e)))
