-- How many steps are still to come: what the sets of steps need, and what a step takes of it.
use Rattle.std.proofs.Common.{◌≡◌, ◌+◌, ◌*◌, ◌<◌, ◌≤◌, ◌==◌, ◌&&◌, cond, ℕ, zero, suc, Bool, true, false, List, [], ◌∷◌, length, map}
use Rattle.std.proofs.Common.{replicate, Option, Some, None, slice_get, slice_set, nat_lt, refl, sym, ap, subst, arith}
use Rattle.std.specs.List.{All, AllByRecursion}
use Rattle.std.proofs.lemmas.Bool.{eqb-true, false≢true, ltb-true}
use Rattle.std.proofs.lemmas.List.Elements.{All-from_recursion}
use Rattle.std.proofs.lemmas.Option.{none-some, same_Some}
use Rattle.list_views.specs.Lists.{numbers_from}
use Rattle.list_views.proofs.Items.{length_mapped}
use Rattle.descent.specs.declared.proof.ProofStep.TheVariants.{Empty, Rank}
use Rattle.descent.specs.declared.proof.RankRule.{RankRule}
use Rattle.descent.specs.declared.proof.RankRule.TheVariants.{Weak, Strict}
use Rattle.descent.specs.declared.proof.RankStep.{RankStep}
use Rattle.descent.specs.declared.rules.PathRule.{PathRule}
use Rattle.descent.specs.Rankings.{weak_fault, strict_fault, bounded_fault}
use Rattle.descent.specs.Steps.{Given, given_first, is_free, give, set_of, rule_of, ranking_of, weak_ones}
use Rattle.rank_forms.specs.RankSteps.{has_strict}
use Rattle.chain_proofs.specs.Dealt.{is_dealt, Rises}
use Rattle.chain_proofs.specs.inner.Dealt.{IsSet, AreSets, need, due, owed, HasRoom}
use Rattle.chain_proofs.specs.inner.Sets.{IsRankOf, IsTurned}
use Rattle.chain_proofs.proofs.Closing.{later}
use Rattle.chain_proofs.proofs.Renumbered.{listed_are, numbers_below}
use Rattle.chain_proofs.proofs.Turning.{rank_holds}

-- ---- what sets need

need_less : (n m : ℕ) → n < m → suc (need n) ≤ need m
need_less n zero l = absurd (omega (arith, l))
need_less zero (suc m) l = omega arith
need_less (suc n) (suc m) l = omega (arith, l)

pub need_some : (n : ℕ) → 1 ≤ need n
need_some zero = omega arith
need_some (suc n) = omega arith

need_most : (n : ℕ) → need n ≤ 3 * n + 1
need_most zero = omega arith
need_most (suc n) = omega arith

pub given_is : (found : Option (Option (List ℕ))) (set : List ℕ) → set_of found ≡ Some set → found ≡ Some (Some set)
given_is None set e = absurd (none-some set e)
given_is (Some own) set e = ap Some e

-- what is needed from a step on is what its set needs and what the later ones need
pub owed_at : (given : Given) (number : ℕ) (set : List ℕ) → slice_get given number ≡ Some (Some set)
    → owed number given ≡ need (length set) + owed (suc number) given
owed_at [] number set e = absurd (none-some (Some set) e)
owed_at (own ∷ rest) zero set e = ap (λ (o : Option (List ℕ)). due o + owed zero rest) (same_Some {A = Option (List ℕ)} own (Some set) e)
owed_at (own ∷ rest) (suc number) set e = owed_at rest number set e

-- a set that is given on is needed besides
pub owed_more : (given : Given) (n step : ℕ) (set : List ℕ) → n ≤ step → is_free (slice_get given step) ≡ true
    → owed n (slice_set given step (Some set)) ≡ need (length set) + owed n given
owed_more [] n step set l f = absurd (false≢true f)
owed_more (own ∷ rest) (suc n) zero set l f = absurd (omega (arith, l))
owed_more (own ∷ rest) (suc n) (suc step) set l f = owed_more rest n step set (omega (arith, l)) f
owed_more (Some own ∷ rest) zero zero set l f = absurd (false≢true f)
owed_more (None ∷ rest) zero zero set l f = omega arith
owed_more (own ∷ rest) zero (suc step) set l f = let more = owed_more rest zero step set (omega arith) f in omega (arith, more)

-- each set that was dealt out needs a step at least
pub next_most : (given : Given) (n next : ℕ) → is_dealt given next ≡ true → n ≤ next → next ≤ n + owed n given
next_most [] n zero h l = omega arith
next_most [] n (suc next) h l = absurd (false≢true h)
next_most (Some own ∷ rest) zero zero h l = omega arith
next_most (None ∷ rest) zero zero h l = omega arith
next_most (Some own ∷ rest) zero (suc next) h l = let low = next_most rest zero next h (omega arith) in let some = need_some
    (length own) in
    omega (arith, low, some)
next_most (None ∷ rest) zero (suc next) h l = absurd (false≢true h)
next_most (own ∷ rest) (suc n) zero h l = absurd (omega (arith, l))
next_most (Some own ∷ rest) (suc n) (suc next) h l = let low = next_most rest n next h (omega (arith, l)) in omega (arith, low)
next_most (None ∷ rest) (suc n) (suc next) h l = absurd (false≢true h)

-- so there is a step that has none, while one is being made
pub room_at : (given : Given) (number next : ℕ) (set : List ℕ) → is_dealt given next ≡ true
    → set_of (slice_get given number) ≡ Some set → HasRoom number given → next < length given
room_at given number next set h e room =
    let all = owed_at given number set (given_is (slice_get given number) set e) in
    let low = later given number next set h e in
    let most = next_most given (suc number) next h (omega (arith, low)) in
    let some = need_some (length set) in
    omega (arith, all, most, some, room)

-- ---- one set that is given

pub give_one : (number step : ℕ) (set : List ℕ) (given after : Given) → give number ((step, set) ∷ []) given ≡ Some after
    → (number < step) × (is_free (slice_get given step) ≡ true) × (slice_set given step (Some set) ≡ after)
give_one number step set given after e = go (nat_lt number step) (is_free (slice_get given step)) refl refl e
  where
    go : (b c : Bool) → nat_lt number step ≡ b → is_free (slice_get given step) ≡ c
        → cond (b && c) (Some (slice_set given step (Some set))) None ≡ Some after
        → (number < step) × (is_free (slice_get given step) ≡ true) × (slice_set given step (Some set) ≡ after)
    go true true l f g = (ltb-true number step l, f, same_Some (slice_set given step (Some set)) after g)
    go true false l f g = absurd (none-some after g)
    go false c l f g = absurd (none-some after g)

pub sets_more : (count : ℕ) (given : Given) (step : ℕ) (set : List ℕ) → AreSets count given → IsSet count set
    → AreSets count (slice_set given step (Some set))
sets_more count [] step set are is j other e = absurd (none-some (Some other) e)
sets_more count (own ∷ rest) zero set are is zero other e = subst (IsSet count)
    (same_Some set other (same_Some {A = Option (List ℕ)} (Some set) (Some other) e)) is
sets_more count (own ∷ rest) zero set are is (suc j) other e = are (suc j) other e
sets_more count (own ∷ rest) (suc step) set are is zero other e = are zero other e
sets_more count (own ∷ rest) (suc step) set are is (suc j) other e = sets_more count rest step set (λ k more f. are (suc k) more f) is j
    other e

pub set_given : (count : ℕ) (given : Given) (number : ℕ) (set : List ℕ) → AreSets count given
    → set_of (slice_get given number) ≡ Some set → IsSet count set
set_given count given number set are e = are number set (given_is (slice_get given number) set e)

pub set_below : (count : ℕ) (set : List ℕ) → IsSet count set → All (λ (n : ℕ). n < count) set
set_below count set is = All-from_recursion (λ (n : ℕ). n < count) set is.below

-- ---- sets that are smaller

pub rises_lower : (low base : ℕ) (set : List ℕ) → base ≤ low → Rises low set → Rises base set
rises_lower low base [] l h = tt
rises_lower low base (n ∷ set) l h = let first = h.0 in (omega (arith, l, first), h.1)

pub weak_rise : (low : ℕ) (listed : List RankRule) → Rises low (map rule_of listed) → Rises low (weak_ones listed)
weak_rise low [] h = tt
weak_rise low (Weak rule fall ∷ rest) h = (h.0, weak_rise (suc rule) rest h.1)
weak_rise low (Strict rule fall bound ∷ rest) h =
    let first = h.0 in
    rises_lower (suc rule) low (weak_ones rest) (omega (arith, first)) (weak_rise (suc rule) rest h.1)

pub weak_below : (count : ℕ) (listed : List RankRule) → AllByRecursion (λ (n : ℕ). n < count) (map rule_of listed)
    → AllByRecursion (λ (n : ℕ). n < count) (weak_ones listed)
weak_below count [] h = tt
weak_below count (Weak rule fall ∷ rest) h = (h.0, weak_below count rest h.1)
weak_below count (Strict rule fall bound ∷ rest) h = weak_below count rest h.1

weak_most : (listed : List RankRule) → length (weak_ones listed) ≤ length listed
weak_most [] = omega arith
weak_most (Weak rule fall ∷ rest) = let most = weak_most rest in omega (arith, most)
weak_most (Strict rule fall bound ∷ rest) = let most = weak_most rest in omega (arith, most)

weak_fewer : (listed : List RankRule) → has_strict listed ≡ true → length (weak_ones listed) < length listed
weak_fewer [] h = absurd (false≢true h)
weak_fewer (Weak rule fall ∷ rest) h = let less = weak_fewer rest h in omega (arith, less)
weak_fewer (Strict rule fall bound ∷ rest) h = let most = weak_most rest in omega (arith, most)

-- ---- steps

pub rank_turns : (rules : List PathRule) (number : ℕ) (set : List ℕ) (given after : Given) (step : RankStep) (rest : ℕ)
    (weak : List ℕ) → set_of (slice_get given number) ≡ Some set → AreSets (length rules) given → IsRankOf rules set step
    → weak ≡ weak_ones step.rules → give number ((rest, weak) ∷ []) given ≡ Some after → IsTurned rules number given (Rank step rest) after
rank_turns rules number set given after step rest weak has_set sets is e gives =
    let ranking = ranking_of step in
    let at = given_is (slice_get given number) set has_set in
    let own = sets number set at in
    let one = give_one number rest weak given after gives in
    let numbers = listed_are (weak_fault ranking) (strict_fault ranking) (bounded_fault ranking) rules set step.rules is.ranks in
    let weak_set : IsSet (length rules) weak = subst (IsSet (length rules)) (sym e) (record {
      rise = weak_rise 0 step.rules (subst (Rises 0) (sym numbers) own.rise);
      below = weak_below (length rules) step.rules
          (subst (AllByRecursion (λ (n : ℕ). n < length rules)) (sym numbers) own.below);
    }) in
    let less : length weak < length set =
    let fewer = weak_fewer step.rules is.lean.strict in
    let long = ap length e in
    let listed = length_mapped rule_of step.rules in
    let all = ap length numbers in
    omega (arith, fewer, long, listed, all) in
    let more = owed_more given (suc number) rest weak one.0 one.1 in
    let all = owed_at given number set at in
    let down = need_less (length weak) (length set) less in
    record {
      holds = rank_holds rules number set given after step rest weak has_set is e gives;
      limits = is.limits;
      lean = is.lean;
      sets = subst (AreSets (length rules)) one.2 (sets_more (length rules) given rest weak sets weak_set);
      paid = subst (λ (g : Given). suc (owed (suc number) g) ≤ owed number given) one.2 (omega (arith, more, all, down));
    }

pub empty_turns : (rules : List PathRule) (number : ℕ) (set : List ℕ) (given : Given) → set_of (slice_get given number) ≡ Some set
    → (length set == 0) ≡ true → AreSets (length rules) given → IsTurned rules number given Empty given
empty_turns rules number [] given has_set e sets =
    let all = owed_at given number [] (given_is (slice_get given number) [] has_set) in
    record {
      holds = record { set = []; given_set = has_set; holds = refl; gives = refl };
      limits = tt;
      lean = tt;
      sets = sets;
      paid = omega (arith, all);
    }
empty_turns rules number (n ∷ set) given has_set e sets = let none = eqb-true (length (n ∷ set)) 0 e in absurd (omega (arith, none))

-- ---- the first set

numbers_rise : (low count : ℕ) → Rises low (numbers_from low count)
numbers_rise low zero = tt
numbers_rise low (suc count) = (omega arith, numbers_rise (suc low) count)

length_numbers : (low count : ℕ) → length (numbers_from low count) ≡ count
length_numbers low zero = refl
length_numbers low (suc count) = ap suc (length_numbers (suc low) count)

pub all_set : (count : ℕ) → IsSet count (numbers_from 0 count)
all_set count = record { rise = numbers_rise 0 count; below = numbers_below count 0 count (omega arith) }

none_there : (n j : ℕ) (set : List ℕ) → slice_get {X = Option (List ℕ)} (replicate n None) j ≡ Some (Some set) → ⊥
none_there zero j set e = none-some (Some set) e
none_there (suc n) zero set e = none-some set (same_Some {A = Option (List ℕ)} None (Some set) e)
none_there (suc n) (suc j) set e = none_there n j set e

pub sets_first : (count below : ℕ) → AreSets count (given_first count below)
sets_first count zero j set e = absurd (none-some (Some set) e)
sets_first count (suc below) zero set e = subst (IsSet count)
    (same_Some (numbers_from 0 count) set (same_Some {A = Option (List ℕ)} (Some (numbers_from 0 count)) (Some set) e)) (all_set count)
sets_first count (suc below) (suc j) set e = absurd (none_there below j set e)

none_owed : (n : ℕ) → owed 0 (replicate n None) ≡ 0
none_owed zero = refl
none_owed (suc n) = let rest = none_owed n in omega (arith, rest)

pub owed_first : (count below : ℕ) → owed 0 (given_first count below) ≤ 3 * count + 1
owed_first count zero = omega arith
owed_first count (suc below) =
    let none = none_owed below in
    let long = length_numbers 0 count in
    let most = subst (λ (n : ℕ). need n ≤ 3 * count + 1) (sym long) (need_most count) in
    omega (arith, none, most)
