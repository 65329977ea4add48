-- The paths of a graph are one list, and there are too many of them or not.
use Rattle.std.proofs.Common.{◌≡◌, ◌<◌, ◌≤◌, ◌∙◌, ◌⊎◌, ℕ, zero, suc, Bool, true, false, cond, eqb, List, [], ◌∷◌, length, Some}
use Rattle.std.proofs.Common.{slice_get, inl, inr, refl, sym, ap, subst, arith}
use Rattle.std.specs.Prelude.{nat_lt, All}
use Rattle.std.proofs.lemmas.Bool.{false≢true, eqb-true, eq-eqb, ne_eqb, ltb-true, lt-ltb}
use Rattle.std.proofs.lemmas.List.Elements.{All-get_or}
use Rattle.std.proofs.lemmas.Option.{slice_get_within, get_or_from_slice_get, none-some}
use Rattle.list_views.proofs.Quantified.{all_at}
use Rattle.jvm_values.proofs.Options.{some_is}
use Rattle.term_graph.specs.Graphs.{GraphNode}
use Rattle.cert_check.specs.PathRulesPaths.{Path, IsPath, is_earlier, is_before, Rise, AreAllPaths, HasTooManyPaths}

-- ---- the order of paths

seen : (place other : ℕ) (r : Bool) → cond (eqb place other) r (nat_lt place other) ≡ true → ((place ≡ other) × (r ≡ true))
    ⊎ (place < other)
seen place other r h = at (eqb place other) refl h
  where
    at : (b : Bool) → eqb place other ≡ b → cond b r (nat_lt place other) ≡ true → ((place ≡ other) × (r ≡ true)) ⊎ (place < other)
    at true e k = inl (eqb-true place other e, k)
    at false e k = inr (ltb-true place other k)

made_same : (place other : ℕ) (r : Bool) → place ≡ other → r ≡ true → cond (eqb place other) r (nat_lt place other) ≡ true
made_same place other r e k = ap (λ (b : Bool). cond b r (nat_lt place other)) (eq-eqb place other e) ∙ k

made_lower : (place other : ℕ) (r : Bool) → place < other → cond (eqb place other) r (nat_lt place other) ≡ true
made_lower place other r l = ap (λ (b : Bool). cond b r (nat_lt place other)) (ne_eqb place other (λ e. omega (arith, e, l)))
    ∙ lt-ltb place other l

-- two such steps, one after the other
after_both : (x y z : ℕ) (r s t : Bool) → (r ≡ true → s ≡ true → t ≡ true) → cond (eqb x y) r (nat_lt x y) ≡ true
    → cond (eqb y z) s (nat_lt y z) ≡ true → cond (eqb x z) t (nat_lt x z) ≡ true
after_both x y z r s t on h k = elim (seen x y r h) [
  | inl a ↦ elim (seen y z s k) [
    | inl b ↦ made_same x z t (a.0 ∙ b.0) (on a.1 b.1)
    | inr m ↦ let e = a.0 in made_lower x z t (omega (arith, e, m))
  ]
  | inr l ↦ elim (seen y z s k) [
    | inl b ↦ let e = b.0 in made_lower x z t (omega (arith, l, e))
    | inr m ↦ made_lower x z t (omega (arith, l, m))
  ]
]

earlier_on : (a b c : List ℕ) → is_earlier a b ≡ true → is_earlier b c ≡ true → is_earlier a c ≡ true
earlier_on [] b c h k = absurd (false≢true h)
earlier_on (x ∷ a) [] c h k = absurd (false≢true h)
earlier_on (x ∷ a) (y ∷ b) [] h k = absurd (false≢true k)
earlier_on (x ∷ a) (y ∷ b) (z ∷ c) h k = after_both x y z (is_earlier a b) (is_earlier b c) (is_earlier a c) (earlier_on a b c) h k

earlier_self : (a : List ℕ) → is_earlier a a ≡ true → ⊥
earlier_self [] h = false≢true h
earlier_self (x ∷ a) h = elim (seen x x (is_earlier a a) h) [
  | inl s ↦ earlier_self a s.1
  | inr l ↦ omega (arith, l)
]

before_on : (a b c : Path) → is_before a b ≡ true → is_before b c ≡ true → is_before a c ≡ true
before_on a b c h k = after_both a.from b.from c.from (is_earlier a.places b.places) (is_earlier b.places c.places)
    (is_earlier a.places c.places) (earlier_on a.places b.places c.places) h k

before_self : (a : Path) → is_before a a ≡ true → ⊥
before_self a h = elim (seen a.from a.from (is_earlier a.places a.places) h) [
  | inl s ↦ earlier_self a.places s.1
  | inr l ↦ omega (arith, l)
]

-- ---- rising lists

abbrev IsIn : List Path → Path → Type 0
IsIn paths path = (n : ℕ) × (slice_get paths n ≡ Some path)

abbrev AreIn : List Path → List Path → Type 0
AreIn paths others = (path : Path) → IsIn paths path → IsIn others path

before_all : (path : Path) (paths : List Path) (n : ℕ) (other : Path) → Rise (path ∷ paths) → slice_get paths n ≡ Some other
    → is_before path other ≡ true
before_all path [] n other rise at = absurd (none-some other at)
before_all path (next ∷ paths) zero other rise at = subst (λ (x : Path). is_before path x ≡ true) (some_is at) rise.0
before_all path (next ∷ paths) (suc n) other rise at = before_on path next other rise.0 (before_all next paths n other rise.1 at)

-- a path before another one isn't that one
not_itself : (x y : Path) → is_before x y ≡ true → x ≡ y → ⊥
not_itself x y before e = before_self y (subst (λ (z : Path). is_before z y ≡ true) e before)

not_first : (x : Path) (xs : List Path) → Rise (x ∷ xs) → (path : Path) → IsIn xs path → x ≡ path → ⊥
not_first x xs rise path i e = not_itself x path (before_all x xs i.0 path rise i.1) e

in_rest : (y : Path) (ys : List Path) (path : Path) → (y ≡ path → ⊥) → IsIn (y ∷ ys) path → IsIn ys path
in_rest y ys path other i = at i.0 i.1
  where
    at : (n : ℕ) → slice_get (y ∷ ys) n ≡ Some path → IsIn ys path
    at zero e = absurd (other (some_is e))
    at (suc n) e = (n, e)

rest_in : (x y : Path) (xs ys : List Path) → x ≡ y → Rise (x ∷ xs) → AreIn (x ∷ xs) (y ∷ ys) → AreIn xs ys
rest_in x y xs ys e rise sub path i = in_rest y ys path (λ f. not_first x xs rise path i (e ∙ f)) (sub path (suc i.0, i.1))

-- what comes behind y with x does so whole
behind : (x y : Path) (xs : List Path) (k : ℕ) (path : Path) → is_before y x ≡ true → Rise (x ∷ xs)
    → slice_get (x ∷ xs) k ≡ Some path → is_before y path ≡ true
behind x y xs zero path before rise at = subst (λ (z : Path). is_before y z ≡ true) (some_is at) before
behind x y xs (suc k) path before rise at = before_on y x path before (before_all x xs k path rise at)

whole_in : (x y : Path) (xs ys : List Path) → is_before y x ≡ true → Rise (x ∷ xs) → AreIn (x ∷ xs) (y ∷ ys) → AreIn (x ∷ xs) ys
whole_in x y xs ys before rise sub path i = in_rest y ys path (λ f. not_itself y path (behind x y xs i.0 path before rise i.1) f)
    (sub path i)

as_many : (a b : List Path) → Rise a → Rise b → AreIn a b → length a ≤ length b
as_many [] b r s sub = omega arith
as_many (x ∷ xs) [] r s sub = let i = sub x (0, refl) in absurd (none-some x i.1)
as_many (x ∷ xs) (y ∷ ys) r s sub = let i = sub x (0, refl) in at (as_many xs ys r.1 s.1) (as_many (x ∷ xs) ys r s.1) i.0 i.1
  where
    at : (AreIn xs ys → length xs ≤ length ys) → (AreIn (x ∷ xs) ys → length (x ∷ xs) ≤ length ys) → (n : ℕ)
        → slice_get (y ∷ ys) n ≡ Some x → length (x ∷ xs) ≤ length (y ∷ ys)
    at rest whole zero e = let l = rest (rest_in x y xs ys (sym (some_is e)) r sub) in omega (arith, l)
    at rest whole (suc n) e = let l = whole (whole_in x y xs ys (before_all y ys n x s e) r sub) in omega (arith, l)

heads_same : (x y : Path) (xs ys : List Path) (n m : ℕ) → Rise (x ∷ xs) → Rise (y ∷ ys) → slice_get (y ∷ ys) n ≡ Some x
    → slice_get (x ∷ xs) m ≡ Some y → x ≡ y
heads_same x y xs ys zero m r s e f = sym (some_is e)
heads_same x y xs ys (suc n) zero r s e f = some_is f
heads_same x y xs ys (suc n) (suc m) r s e f = absurd (before_self x (before_on x y x (before_all x xs m y r f) (before_all y ys n x s e)))

same_list : (a b : List Path) → Rise a → Rise b → AreIn a b → AreIn b a → a ≡ b
same_list [] [] r s sub sup = refl
same_list [] (y ∷ ys) r s sub sup = let i = sup y (0, refl) in absurd (none-some y i.1)
same_list (x ∷ xs) [] r s sub sup = let i = sub x (0, refl) in absurd (none-some x i.1)
same_list (x ∷ xs) (y ∷ ys) r s sub sup =
    let i = sub x (0, refl) in
    let j = sup y (0, refl) in
    let first = heads_same x y xs ys i.0 j.0 r s i.1 j.1 in
    let rest = same_list xs ys r.1 s.1 (rest_in x y xs ys first r sub) (rest_in y x ys xs (sym first) s sup) in
    λ i. first i ∷ rest i

-- ---- all paths

module _ (graph : List GraphNode) (cuts : List ℕ) where
  among : (paths others : List Path) → All (IsPath graph cuts) paths → AreAllPaths graph cuts others → AreIn paths others
  among paths others each all path i = all.all path (all_at (IsPath graph cuts) paths i.0 path each i.1)

  pub paths_one : (a b : List Path) → AreAllPaths graph cuts a → AreAllPaths graph cuts b → a ≡ b
  paths_one a b g h = same_list a b g.rise h.rise (among a b g.each h) (among b a h.each g)

  pub few_or_many : (paths : List Path) → AreAllPaths graph cuts paths → length paths ≤ 4096 → HasTooManyPaths graph cuts → ⊥
  few_or_many paths all few many =
      let fits = as_many many.paths paths many.rise all.rise (among many.paths paths many.each all) in
      let long = many.many in
      omega (arith, fits, long, few)
