-- Going on to the next number, while nothing was found.
use Rattle.std.proofs.Common.{◌≡◌, inl, inr, ℕ, ◌+◌, ◌<◌, Bool, false, List, ℤ, Option, Some, None, subst, arith, refl, ◌∙◌, sym}
use Rattle.std.specs.Prelude.{is_some}
use Rattle.rank_search.specs.declared.candidates.Candidate.{Candidate}
use Rattle.rank_search.specs.inner.Candidates.{ranks_by, multiple_of}
use Rattle.std.proofs.lemmas.Bool.{true≢false, cases_eq}
use Rattle.list_views.proofs.Options.{none_from_is_some}

below : (a b : ℕ) → a < b + 1 → (a ≡ b → ⊥) → a < b
below a b h d = omega (arith, h, d)

-- what holds of the numbers below one, and of the next where nothing is found, holds of one number more
pub one_more : {A : Type 0} (P : ℕ → Type 0) (n : ℕ) (found : Option A) (test : Bool) → test ≡ is_some found → test ≡ false
    → (found ≡ None → P n) → ((m : ℕ) → m < n → P m) → (m : ℕ) → m < n + 1 → P m
one_more P n found test s t now before m low = elim (cases_eq m n) as (λ o. P m) [
  | inl e ↦ subst P (sym e) (now (none_from_is_some found (sym s ∙ t)))
  | inr d ↦ before m (below m n low d)
]

-- the same for the first multiples of a pair
abbrev NoneAt : List (List (Option ℤ)) → ℕ → ℕ → ℤ → Type 0
NoneAt table one other times = (k : ℕ) → k < 8 → ranks_by (record { one = one; times = times; other = other; more = multiple_of k })
    table ≡ false

pub pair_more : (table : List (List (Option ℤ))) (one other n : ℕ) (times : ℤ) (found : Option Candidate) (test : Bool)
    → times ≡ multiple_of n → test ≡ is_some found → test ≡ false → (found ≡ None → NoneAt table one other times)
    → ((m k : ℕ) → m < n → k < 8 → ranks_by (record { one = one; times = multiple_of m; other = other; more = multiple_of k }) table
    ≡ false) → (m k : ℕ) → m < n + 1 → k < 8
    → ranks_by (record { one = one; times = multiple_of m; other = other; more = multiple_of k }) table ≡ false
pair_more table one other n times found test t s f now before m k low lt = one_more
    (λ (x : ℕ). NoneAt table one other (multiple_of x)) n found test s f (λ e. subst (NoneAt table one other) t (now e))
    (λ x less j l. before x j less l) m low k lt
