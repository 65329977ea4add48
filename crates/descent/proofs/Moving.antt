-- Chains that go on from the rules of a set.
use Rattle.std.proofs.Common.{◌≡◌, ℕ, Bool, true, false, cond, eqb, List, [], ◌∷◌, subst, refl, sym}
use Rattle.std.specs.Prelude.{◌||◌, filter}
use Rattle.std.proofs.lemmas.Bool.{both_ways, false≢true, true≢false, eqb-true, or_left, or_right}
use Rattle.list_views.proofs.Truths.{or_second}
use mathlib.Core.WellFounded.{Acc}
use Rattle.descent.specs.declared.rules.PathRule.{PathRule}
use Rattle.descent.specs.Chains.{Turn, Follows}
use Rattle.descent.specs.Splits.{has}

-- turn v comes after turn u, whose rule is in the set
pub record Moves (rules : List PathRule) (set : List ℕ) (v u : Turn) : Type 0 where
  pub follows : Follows rules u v
  pub from_set : has set u.rule ≡ true

abbrev pub EndsAt : List PathRule → List ℕ → Turn → Type 0
EndsAt rules set turn = Acc (λ (v u : Turn). Moves rules set v u) turn

-- chains end that go on only from rules of the set
abbrev pub Ends : List PathRule → List ℕ → Type 0
Ends rules set = (turn : Turn) → EndsAt rules set turn

-- a turn of another rule goes nowhere
pub outside : (rules : List PathRule) (set : List ℕ) (turn : Turn) → has set turn.rule ≡ false → EndsAt rules set turn
outside rules set turn e = Acc.intro turn (λ v m. absurd (both_ways (has set turn.rule) e m.from_set))

-- fewer moves end where more do
pub fewer : (rules : List PathRule) (set more : List ℕ) → ((v u : Turn) → Moves rules set v u → Moves rules more v u)
    → (turn : Turn) → EndsAt rules more turn → EndsAt rules set turn
fewer rules set more f turn (Acc.intro t h) = Acc.intro t (λ v m. fewer rules set more f v (h v (f v t m)))

-- what a filter keeps
keep_cases : (kept here : Bool) (x rule : ℕ) (rest : List ℕ) → eqb x rule ≡ here → (here ≡ true → kept ≡ true)
    → (here ≡ false → has rest rule ≡ true) → has (cond kept (x ∷ rest) rest) rule ≡ true
keep_cases true true x rule rest e k m = or_left (eqb x rule) (has rest rule) e
keep_cases false true x rule rest e k m = absurd (false≢true (k refl))
keep_cases true false x rule rest e k m = or_right (eqb x rule) (has rest rule) (m refl)
keep_cases false false x rule rest e k m = m refl

pub has_filter : (test : ℕ → Bool) (set : List ℕ) (rule : ℕ) → has set rule ≡ true → test rule ≡ true → has (filter test set) rule ≡ true
has_filter test [] rule h t = absurd (false≢true h)
has_filter test (x ∷ rest) rule h t = keep_cases (test x) (eqb x rule) x rule (filter test rest) refl
    (λ b. subst (λ (y : ℕ). test y ≡ true) (sym (eqb-true x rule b)) t)
    (λ b. has_filter test rest rule (or_second (eqb x rule) (has rest rule) b h) t)
