-- The constant that the bounds need, and the rules as they are listed.
use Rattle.std.proofs.Common.{◌≡◌, ℕ, zero, suc, ◌+◌, ◌≤◌, ◌^◌, Bool, true, false, cond, List, [], ◌∷◌, length, ℤ, pos, ◌≤ℤ◌}
use Rattle.std.proofs.Common.{Option, Some, None, subst, ap, arith, refl, ◌∙◌, sym}
use Rattle.std.specs.Prelude.{◌||◌, slice_get, int_lt, unsigned_abs, nat_lt}
use Rattle.std.specs.List.{All}
use Rattle.std.proofs.lemmas.Bool.Decides.{nat_tests}
use Rattle.std.proofs.lemmas.Int.{ints}
use Rattle.std.proofs.lemmas.Option.{same_Some, none-some}
use Rattle.std.proofs.lemmas.Bool.{cond-false, or_left, or_right}
use Rattle.list_views.proofs.Options.{cond_guarded}
use Rattle.descent.specs.declared.faults.DescentFault.{DescentFault}
use Rattle.descent.specs.declared.rules.PathRule.{PathRule}
use Rattle.descent.specs.Conditions.{IsListed}
use Rattle.descent.specs.Orders.{Says}
use Rattle.descent.specs.Splits.{edge_fault}
use Rattle.descent.specs.Steps.{numbers_from, rank_fault, listed_fault, rule_of}
use Rattle.rank_forms.specs.declared.following.Bound.{Bound}
use Rattle.rank_forms.specs.declared.following.Followed.{Followed}
use Rattle.rank_forms.specs.Forms.{base_of_bound, greater_of, list_from, listed_as, listed_by, needed, or_zero, strict_bound}
use Rattle.rank_forms.specs.RankSteps.{has_strict, is_strict}
use Rattle.rank_forms.proofs.Rests.{IsRest, rest_first, rest_more}

-- a number that may be there is at least another one
abbrev IsHigh : Option ℤ → ℤ → Type 0
IsHigh None b = ⊥
IsHigh (Some a) b = b ≤ℤ a

greater_cases : (test : Bool) (most base b : ℤ) → int_lt most base ≡ test → b ≤ℤ most → IsHigh (cond test (Some base) (Some most)) b
greater_cases true most base b e h = omega (arith, ints, e, h)
greater_cases false most base b e h = h

greater_old : (best base : Option ℤ) (b : ℤ) → IsHigh best b → IsHigh (greater_of best base) b
greater_old best None b h = h
greater_old None (Some base) b h = absurd h
greater_old (Some most) (Some base) b h = greater_cases (int_lt most base) most base b refl h

new_cases : (test : Bool) (most base : ℤ) → int_lt most base ≡ test → IsHigh (cond test (Some base) (Some most)) base
new_cases true most base e = self base
  where
    self : (a : ℤ) → a ≤ℤ a
    self a = omega (arith, ints)
new_cases false most base e = omega (arith, ints, e)

greater_new : (best : Option ℤ) (base : ℤ) → IsHigh (greater_of best (Some base)) base
greater_new None base = self base
  where
    self : (a : ℤ) → a ≤ℤ a
    self a = omega (arith, ints)
greater_new (Some most) base = new_cases (int_lt most base) most base refl

needed_old : (best : Option ℤ) (all : List Followed) (b : ℤ) → IsHigh best b → IsHigh (needed best all) b
needed_old best [] b h = h
needed_old best (followed ∷ rest) b h = needed_old (greater_of best (base_of_bound (strict_bound followed))) rest b
    (greater_old best (base_of_bound (strict_bound followed)) b h)

needed_at : (best : Option ℤ) (all : List Followed) (n : ℕ) (followed : Followed) (bound : Bound) → slice_get all n ≡ Some followed
    → strict_bound followed ≡ Some bound → IsHigh (needed best all) bound.base
needed_at best [] n followed bound at e = absurd (none-some followed at)
needed_at best (first ∷ rest) zero followed bound at e = needed_old (greater_of best (base_of_bound (strict_bound first))) rest
    bound.base (subst (λ (o : Option Bound). IsHigh (greater_of best (base_of_bound o)) bound.base)
    (sym (ap strict_bound (same_Some first followed at) ∙ e)) (greater_new best bound.base))
needed_at best (first ∷ rest) (suc n) followed bound at e = needed_at (greater_of best (base_of_bound (strict_bound first))) rest n
    followed bound at e

high_is : (found : Option ℤ) (b : ℤ) → IsHigh found b → b ≤ℤ or_zero found
high_is None b h = absurd h
high_is (Some a) b h = h

pub base_most : (all : List Followed) (n : ℕ) (followed : Followed) (bound : Bound) → slice_get all n ≡ Some followed
    → strict_bound followed ≡ Some bound → bound.base ≤ℤ or_zero (needed None all)
base_most all n followed bound at e = high_is (needed None all) bound.base (needed_at None all n followed bound at e)

-- it is small
abbrev IsSmall : Option ℤ → Type 0
IsSmall None = Unit {0}
IsSmall (Some a) = unsigned_abs a ≤ 2 ^ 40

small_cases : (test : Bool) (most base : ℤ) → IsSmall (Some most) → IsSmall (Some base) → IsSmall (cond test (Some base) (Some most))
small_cases true most base h k = k
small_cases false most base h k = h

greater_small : (best base : Option ℤ) → IsSmall best → IsSmall base → IsSmall (greater_of best base)
greater_small best None h k = h
greater_small None (Some base) h k = k
greater_small (Some most) (Some base) h k = small_cases (int_lt most base) most base h k

base_small : (found : Option Bound) → ((bound : Bound) → found ≡ Some bound → unsigned_abs bound.base ≤ 2 ^ 40)
    → IsSmall (base_of_bound found)
base_small None h = tt
base_small (Some bound) h = h bound refl

-- each bound is small
abbrev pub AreSmall : List Followed → Type 0
AreSmall all = (n : ℕ) (followed : Followed) (bound : Bound) → slice_get all n ≡ Some followed → followed.bound ≡ Some bound
    → unsigned_abs bound.base ≤ 2 ^ 40

needed_small : (best : Option ℤ) (all : List Followed) → AreSmall all → IsSmall best → IsSmall (needed best all)
needed_small best [] h k = k
needed_small best (followed ∷ rest) h k = needed_small (greater_of best (base_of_bound (strict_bound followed))) rest
    (λ n other bound at e. h (suc n) other bound at e)
    (greater_small best (base_of_bound (strict_bound followed)) k
    (base_small (strict_bound followed)
    (λ bound e. h 0 followed bound refl (cond_guarded (int_lt (pos 0) followed.falls) followed.bound bound e).1)))

zero_small : (found : Option ℤ) → IsSmall found → unsigned_abs (or_zero found) ≤ 2 ^ 40
zero_small None h = omega arith
zero_small (Some a) h = h

pub constant_small : (all : List Followed) → AreSmall all → unsigned_abs (or_zero (needed None all)) ≤ 2 ^ 40
constant_small all h = zero_small (needed None all) (needed_small None all h tt)

-- the listed rules
pub record IsFine (weak strict bounded : Says) (number : ℕ) (rule : PathRule) (followed : Followed) : Type 0 where
  pub weak_none : weak number rule followed.fall ≡ None
  pub strict_none : (bound : Bound) → strict_bound followed ≡ Some bound → (strict number rule followed.fall ≡ None)
      × (bounded number rule bound.rows ≡ None)

no_edge : (first later : Option DescentFault) → first ≡ None → later ≡ None → edge_fault first later ≡ None
no_edge None later e f = f
no_edge (Some fault) later e f = absurd (some_not fault e)
  where
    some_not : (a : DescentFault) → ◌≡◌ {A = Option DescentFault} (Some a) None → ⊥
    some_not a e = absurd (cc)

listed_cases : (weak strict bounded : Says) (number : ℕ) (rule : PathRule) (fall : List (ℕ × ℤ)) (found : Option Bound)
    → weak number rule fall ≡ None
    → ((bound : Bound) → found ≡ Some bound → (strict number rule fall ≡ None) × (bounded number rule bound.rows ≡ None))
    → listed_fault weak strict bounded (listed_by number fall found) (Some rule) ≡ None
listed_cases weak strict bounded number rule fall None w s = w
listed_cases weak strict bounded number rule fall (Some bound) w s = let both = s bound refl in no_edge (strict number rule fall)
    (bounded number rule bound.rows) both.0 both.1

number_cases : (number : ℕ) (fall : List (ℕ × ℤ)) (found : Option Bound) → rule_of (listed_by number fall found) ≡ number
number_cases number fall None = refl
number_cases number fall (Some bound) = refl

not_less : (a b : ℕ) → a ≡ b → nat_lt a b ≡ false
not_less a b e = grind (arith, nat_tests)

ranked_from : (weak strict bounded : Says) (all rules : List PathRule) (n count : ℕ) (follows : List Followed) → IsRest all n rules
    → count ≡ length rules → length follows ≡ length rules
    → ((k : ℕ) (rule : PathRule) (followed : Followed) → slice_get rules k ≡ Some rule → slice_get follows k ≡ Some followed
    → IsFine weak strict bounded (n + k) rule followed) → rank_fault weak strict bounded all (numbers_from n count)
    (list_from n follows) ≡ None
ranked_from weak strict bounded all [] n zero [] r e c each = refl
ranked_from weak strict bounded all [] n (suc count) follows r e c each = absurd (omega (arith, e))
ranked_from weak strict bounded all [] n zero (followed ∷ follows) r e c each = absurd (omega (arith, c))
ranked_from weak strict bounded all (rule ∷ rules) n zero follows r e c each = absurd (omega (arith, e))
ranked_from weak strict bounded all (rule ∷ rules) n (suc count) [] r e c each = absurd (omega (arith, c))
ranked_from weak strict bounded all (rule ∷ rules) n (suc count) (followed ∷ follows) r e c each =
    let listed = listed_as n followed in
    let same : rule_of listed ≡ n = number_cases n followed.fall (strict_bound followed) in
    let fine = subst (λ (m : ℕ). IsFine weak strict bounded m rule followed) (plus_zero n) (each 0 rule followed refl refl) in
    let rest = ranked_from weak strict bounded all rules (suc n) count follows (rest_more all n rule rules r) (omega (arith, e))
    (omega (arith, c)) (λ k other one at is. subst (λ (m : ℕ). IsFine weak strict bounded m other one) (moved n k)
    (each (suc k) other one at is)) in
    cond-false (nat_lt n (rule_of listed)) _ _ (not_less n (rule_of listed) (sym same))
    ∙ cond-false (nat_lt (rule_of listed) n) _ _ (not_less (rule_of listed) n same)
    ∙ no_edge (listed_fault weak strict bounded listed (slice_get all n))
    (rank_fault weak strict bounded all (numbers_from (suc n) count) (list_from (suc n) follows))
    (ap (listed_fault weak strict bounded listed) (rest_first all n rule rules r)
    ∙ listed_cases weak strict bounded n rule followed.fall (strict_bound followed) fine.weak_none fine.strict_none) rest
  where
    plus_zero : (n : ℕ) → n + 0 ≡ n
    plus_zero n = omega arith

    moved : (n k : ℕ) → n + suc k ≡ suc n + k
    moved n k = omega arith

pub ranked : (weak strict bounded : Says) (rules : List PathRule) (follows : List Followed) → length follows ≡ length rules
    → ((k : ℕ) (rule : PathRule) (followed : Followed) → slice_get rules k ≡ Some rule → slice_get follows k ≡ Some followed
    → IsFine weak strict bounded k rule followed) → rank_fault weak strict bounded rules (numbers_from 0 (length rules))
    (list_from 0 follows) ≡ None
ranked weak strict bounded rules follows c each = ranked_from weak strict bounded rules rules 0 (length rules) follows
    (λ k. ap (slice_get rules) (zero_plus k)) refl c
    (λ k rule followed at is. subst (λ (m : ℕ). IsFine weak strict bounded m rule followed) (sym (zero_plus k))
    (each k rule followed at is))
  where
    zero_plus : (k : ℕ) → 0 + k ≡ k
    zero_plus k = omega arith

-- one of them is strict
is_strict_by : (number : ℕ) (fall : List (ℕ × ℤ)) (found : Option Bound) (bound : Bound) → found ≡ Some bound
    → is_strict (listed_by number fall found) ≡ true
is_strict_by number fall None bound e = absurd (none-some bound e)
is_strict_by number fall (Some other) bound e = refl

strict_from : (n k : ℕ) (follows : List Followed) (followed : Followed) (bound : Bound) → slice_get follows k ≡ Some followed
    → strict_bound followed ≡ Some bound → has_strict (list_from n follows) ≡ true
strict_from n k [] followed bound at e = absurd (none-some followed at)
strict_from n zero (first ∷ rest) followed bound at e = or_left (is_strict (listed_as n first))
    (has_strict (list_from (suc n) rest))
    (is_strict_by n first.fall (strict_bound first) bound (ap strict_bound (same_Some first followed at) ∙ e))
strict_from n (suc k) (first ∷ rest) followed bound at e = or_right (is_strict (listed_as n first))
    (has_strict (list_from (suc n) rest)) (strict_from (suc n) k rest followed bound at e)

pub one_strict : (k : ℕ) (follows : List Followed) (followed : Followed) (bound : Bound) → slice_get follows k ≡ Some followed
    → strict_bound followed ≡ Some bound → has_strict (list_from 0 follows) ≡ true
one_strict k follows followed bound at e = strict_from 0 k follows followed bound at e

-- the multipliers are few
few_by : (number : ℕ) (fall : List (ℕ × ℤ)) (found : Option Bound) → length fall ≤ 65536
    → ((bound : Bound) → found ≡ Some bound → length bound.rows ≤ 65536) → IsListed (listed_by number fall found)
few_by number fall None h k = h
few_by number fall (Some bound) h k = (h, k bound refl)

pub all_few : (n : ℕ) (follows : List Followed)
    → ((k : ℕ) (followed : Followed) → slice_get follows k ≡ Some followed → (length followed.fall ≤ 65536)
    × ((bound : Bound) → followed.bound ≡ Some bound → length bound.rows ≤ 65536)) → All IsListed (list_from n follows)
all_few n [] h i d low = absurd (omega (arith, low))
all_few n (followed ∷ rest) h zero d low = let few = h 0 followed refl in few_by n followed.fall (strict_bound followed) few.0
    (λ bound e. few.1 bound (cond_guarded (int_lt (pos 0) followed.falls) followed.bound bound e).1)
all_few n (followed ∷ rest) h (suc i) d low = all_few (suc n) rest (λ k other at. h (suc k) other at) i d (omega (arith, low))
