-- What the parts of a set that is divided need, together: less than the set.
use Rattle.std.proofs.Common.{◌≡◌, ◌∙◌, inl, inr, ◌+◌, ◌*◌, ◌<◌, ◌≤◌, ◌==◌, ◌&&◌, not, cond, ℕ, zero, suc, Bool, true, false, List}
use Rattle.std.proofs.Common.{[], ◌∷◌, length, drop, filter, Option, Some, None, slice_get, refl, sym, ap, subst, arith}
use Rattle.std.specs.List.{All, AllZip, AllByRecursion}
use Rattle.std.proofs.lemmas.Bool.{eq-eqb, cases_eq, or_left, or_right, or_parts, false≢true}
use Rattle.std.proofs.lemmas.List.Elements.{All-from_recursion}
use Rattle.std.proofs.lemmas.Option.{none-some, same_Some}
use Rattle.list_views.specs.Lists.{numbers_from}
use Rattle.list_views.proofs.Quantified.{all_places}
use Rattle.descent.specs.declared.rules.PathRule.{PathRule}
use Rattle.descent.specs.Components.{AreClasses}
use Rattle.descent.specs.Splits.{has, stands_in, stands_once, place_in, place_from}
use Rattle.descent.specs.Steps.{Given}
use Rattle.chain_proofs.specs.Dealt.{Rises}
use Rattle.chain_proofs.specs.inner.Dealt.{IsSet, AreSets, need, owed}
use Rattle.chain_proofs.specs.inner.Sets.{AreAt, IsApart, IsHanded, is_alone}
use Rattle.chain_proofs.proofs.Places.{has_at, same_has}
use Rattle.chain_proofs.proofs.Spending.{give_one, need_some, owed_more, rises_lower, sets_more}

-- how many of the first numbers stand in a class
abbrev size_in : ℕ → List ℕ → ℕ
size_in count class = length (filter (has class) (numbers_from 0 count))

-- what a class needs: nothing where it is one rule that doesn't follow itself
abbrev pub charge : List PathRule → List ℕ → ℕ
charge own class = cond (is_alone own class) 0 (need (size_in (length own) class))

abbrev pub charges : List PathRule → List (List ℕ) → ℕ
charges own [] = 0
charges own (class ∷ rest) = charge own class + charges own rest

pub charge_some : (own : List PathRule) (class : List ℕ) → is_alone own class ≡ false → 1 ≤ charge own class
charge_some own class e = subst (λ (b : Bool). 1 ≤ cond b 0 (need (size_in (length own) class))) (sym e)
    (need_some (size_in (length own) class))

-- ---- classes have the numbers once

abbrev sizes : List (List ℕ) → List ℕ → ℕ
sizes [] set = 0
sizes (class ∷ rest) set = length (filter (has class) set) + sizes rest set

abbrev ones : ℕ → List (List ℕ) → ℕ
ones n [] = 0
ones n (class ∷ rest) = cond (has class n) 1 0 + ones n rest

one_more : (b : Bool) (n : ℕ) (set : List ℕ) → length (cond b (n ∷ set) set) ≡ cond b 1 0 + length set
one_more true n set = omega arith
one_more false n set = omega arith

sizes_more : (classes : List (List ℕ)) (n : ℕ) (set : List ℕ) → sizes classes (n ∷ set) ≡ ones n classes + sizes classes set
sizes_more [] n set = refl
sizes_more (class ∷ rest) n set =
    let here = one_more (has class n) n (filter (has class) set) in
    let later = sizes_more rest n set in
    omega (arith, here, later)

sizes_none : (classes : List (List ℕ)) → sizes classes [] ≡ 0
sizes_none [] = refl
sizes_none (class ∷ rest) = let later = sizes_none rest in omega (arith, later)

no_one : (b : Bool) → b ≡ false → ◌≡◌ {A = ℕ} (cond b 1 0) 0
no_one true e = absurd (false≢true (sym e))
no_one false e = refl

none_in : (classes : List (List ℕ)) (n : ℕ) → stands_in classes n ≡ false → ones n classes ≡ 0
none_in [] n h = refl
none_in (class ∷ rest) n h =
    let both = or_parts (has class n) (stands_in rest n) h in
    let here = no_one (has class n) both.0 in
    let later = none_in rest n both.1 in
    omega (arith, here, later)

one_in : (k m n : ℕ) (classes : List (List ℕ)) → place_from k classes n ≡ Some m → ones n classes ≤ 1
one_in k m n [] e = omega arith
one_in k m n (class ∷ rest) e = go (has class n) (stands_once class n) (stands_in rest n) refl e (λ f. one_in (suc k) m n rest f)
  where
    go : (b c d : Bool) → stands_in rest n ≡ d → cond b (cond (c && not d) (Some k) None) (place_from (suc k) rest n) ≡ Some m
        → (place_from (suc k) rest n ≡ Some m → ones n rest ≤ 1) → cond b 1 0 + ones n rest ≤ 1
    go true true false f g later = let none = none_in rest n f in omega (arith, none)
    go true true true f g later = absurd (none-some m g)
    go true false d f g later = absurd (none-some m g)
    go false c d f g later = let most = later g in omega (arith, most)

sizes_fit : (classes : List (List ℕ)) (low count : ℕ) → ((n : ℕ) → n < low + count → (k : ℕ) × (place_in classes n ≡ Some k))
    → sizes classes (numbers_from low count) ≤ count
sizes_fit classes low zero h = let none = sizes_none classes in omega (arith, none)
sizes_fit classes low (suc count) h =
    let first = h low (omega arith) in
    let once = one_in 0 first.0 low classes first.1 in
    let later = sizes_fit classes (suc low) count (λ n l. h n (omega (arith, l))) in
    let more = sizes_more classes low (numbers_from (suc low) count) in
    omega (arith, once, later, more)

-- ---- each class has a number

grows : (b : Bool) (n : ℕ) (set : List ℕ) → length set ≤ length (cond b (n ∷ set) set)
grows true n set = omega arith
grows false n set = omega arith

some_passes : (test : ℕ → Bool) (low count n : ℕ) → low ≤ n → n < low + count → test n ≡ true
    → 0 < length (filter test (numbers_from low count))
some_passes test low zero n l m h = absurd (omega (arith, l, m))
some_passes test low (suc count) n l m h = elim (cases_eq low n) as
    (λ o. 0 < length (filter test (numbers_from low (suc count)))) [
      | inl same ↦ passes (test low) (ap test same ∙ h)
      | inr differ ↦
          let more = grows (test low) low (filter test (numbers_from (suc low) count)) in
          let later = some_passes test (suc low) count n (above differ) (omega (arith, m)) h in
          omega (arith, more, later)
    ]
  where
    passes : (b : Bool) → b ≡ true → 0 < length (cond b (low ∷ filter test (numbers_from (suc low) count))
        (filter test (numbers_from (suc low) count)))
    passes true e = omega arith
    passes false e = absurd (false≢true e)

    above : (low ≡ n → ⊥) → suc low ≤ n
    above differ = omega (arith, l, differ)

has_first : (n : ℕ) (rest : List ℕ) → has (n ∷ rest) n ≡ true
has_first n rest = or_left (n == n) (has rest n) (eq-eqb n n refl)

stands_at : (classes : List (List ℕ)) (k n : ℕ) (class : List ℕ) → slice_get classes k ≡ Some class → has class n ≡ true
    → stands_in classes n ≡ true
stands_at [] k n class e h = absurd (none-some class e)
stands_at (first ∷ rest) zero n class e h = or_left (has first n) (stands_in rest n)
    (ap (λ (c : List ℕ). has c n) (same_Some first class e) ∙ h)
stands_at (first ∷ rest) (suc k) n class e h = or_right (has first n) (stands_in rest n) (stands_at rest k n class e h)

module _ (own : List PathRule) (classes : List (List ℕ)) (is : AreClasses own classes) where
  pub class_below : (k n : ℕ) (class : List ℕ) → slice_get classes k ≡ Some class → has class n ≡ true → n < length own
  class_below k n class e h = is.only n (stands_at classes k n class e h)

  class_some : (k : ℕ) (class : List ℕ) → slice_get classes k ≡ Some class → 0 < size_in (length own) class
  class_some k class e = go class refl (is.full k class e)
    where
      go : (list : List ℕ) → class ≡ list → 0 < length list → 0 < size_in (length own) class
      go [] f l = absurd (omega (arith, l))
      go (n ∷ rest) f l =
          let here : has class n ≡ true = ap (λ (c : List ℕ). has c n) f ∙ has_first n rest in
          let low = class_below k n class e here in
          some_passes (has class) 0 (length own) n (omega arith) (omega (arith, low)) here

-- ---- together

charge_fits : (b : Bool) (n : ℕ) → 0 < n → cond b 0 (need n) + 1 ≤ 3 * n
charge_fits b zero l = absurd (omega (arith, l))
charge_fits true (suc n) l = omega arith
charge_fits false (suc n) l = omega arith

charges_fit : (own : List PathRule) (classes : List (List ℕ)) → ((k : ℕ) (class : List ℕ) → slice_get classes k ≡ Some class
    → 0 < size_in (length own) class) → charges own classes + length classes ≤ 3 * sizes classes (numbers_from 0 (length own))
charges_fit own [] h = omega arith
charges_fit own (class ∷ rest) h =
    let here = charge_fits (is_alone own class) (size_in (length own) class) (h 0 class refl) in
    let later = charges_fit own rest (λ k c e. h (suc k) c e) in
    omega (arith, here, later)

short_need : (n c k : ℕ) → c + k ≤ 3 * n → 2 ≤ k → suc c ≤ need n
short_need zero c k l m = absurd (omega (arith, l, m))
short_need (suc n) c k l m = omega (arith, l, m)

pub less_needed : (own : List PathRule) (classes : List (List ℕ)) → AreClasses own classes → IsApart own classes
    → suc (charges own classes) ≤ need (length own)
less_needed own classes is apart = go classes refl apart
  where
    go : (list : List (List ℕ)) → classes ≡ list → IsApart own list → suc (charges own list) ≤ need (length own)
    go [] e a = need_some (length own)
    go (class ∷ []) e a =
        let some = need_some (length own) in
        let alone : charge own class ≡ 0 = ap (λ (b : Bool). cond b 0 (need (size_in (length own) class))) a in
        omega (arith, some, alone)
    go (one ∷ more ∷ rest) e a =
        let all = charges_fit own classes (class_some own classes is) in
        let fit = sizes_fit classes 0 (length own) (λ n l. is.each n (omega (arith, l))) in
        let long = ap length e in
        let same = ap (charges own) e in
        short_need (length own) (charges own (one ∷ more ∷ rest)) (length (one ∷ more ∷ rest)) (omega (arith, all, fit, long, same))
        (omega arith)

-- ---- a part is as long as its class

as_many : (b : Bool) (n m : ℕ) (set other : List ℕ) → length set ≡ length other
    → length (cond b (n ∷ set) set) ≡ length (cond b (m ∷ other) other)
as_many true n m set other e = ap suc e
as_many false n m set other e = e

same_count : (class part rest : List ℕ) (low : ℕ) → ((k n : ℕ) → slice_get rest k ≡ Some n → has part n ≡ has class (low + k))
    → length (filter (has part) rest) ≡ length (filter (has class) (numbers_from low (length rest)))
same_count class part [] low h = refl
same_count class part (n ∷ rest) low h =
    let first : low + 0 ≡ low = omega arith in
    let here : has part n ≡ has class low = h 0 n refl ∙ ap (has class) first in
    ap (λ (b : Bool). length (cond b (n ∷ filter (has part) rest) (filter (has part) rest))) here
    ∙ as_many (has class low) n low (filter (has part) rest) (filter (has class) (numbers_from (suc low) (length rest)))
    (same_count class part rest (suc low) (λ k m e. let next : low + suc k ≡ suc low + k = omega arith in
    h (suc k) m e ∙ ap (has class) next))

part_count : (set : List ℕ) (count : ℕ) (class part : List ℕ) → Rises 0 set → length set ≡ count → AreAt set class part
    → length (filter (has part) set) ≡ size_in count class
part_count set count class part rise long at =
    same_count class part set 0 (λ k n e. let same : 0 + k ≡ k = omega arith in
    same_has set rise k n e class part at ∙ sym (ap (has class) same))
    ∙ ap (λ (n : ℕ). length (filter (has class) (numbers_from 0 n))) long

-- ---- part of a set

rise_some : (test : ℕ → Bool) (low : ℕ) (set : List ℕ) → Rises low set → Rises low (filter test set)
rise_some test low [] h = tt
rise_some test low (n ∷ set) h = go (test n) (rise_some test (suc n) set h.1)
  where
    go : (b : Bool) → Rises (suc n) (filter test set) → Rises low (cond b (n ∷ filter test set) (filter test set))
    go true later = (h.0, later)
    go false later = let first = h.0 in rises_lower (suc n) low (filter test set) (omega (arith, first)) later

below_some : (test : ℕ → Bool) (count : ℕ) (set : List ℕ) → AllByRecursion (λ (n : ℕ). n < count) set
    → AllByRecursion (λ (n : ℕ). n < count) (filter test set)
below_some test count [] h = tt
below_some test count (n ∷ set) h = go (test n) (below_some test count set h.1)
  where
    go : (b : Bool) → AllByRecursion (λ (k : ℕ). k < count) (filter test set)
        → AllByRecursion (λ (k : ℕ). k < count) (cond b (n ∷ filter test set) (filter test set))
    go true later = (h.0, later)
    go false later = later

pub part_set : (count : ℕ) (set part : List ℕ) → IsSet count set → IsSet count (filter (has part) set)
part_set count set part is = record
    { rise = rise_some (has part) 0 set is.rise; below = below_some (has part) count set is.below }

-- ---- a part that is handed on

pub handed_owes : (own : List PathRule) (set class part : List ℕ) (number : ℕ) (given after : Given) (step : Option ℕ)
    → Rises 0 set → length set ≡ length own → AreAt set class part → IsHanded own set class part number given step after
    → owed (suc number) after ≤ owed (suc number) given + charge own class
handed_owes own set class part number given after None rise long at h =
    let same : owed (suc number) given ≡ owed (suc number) after = ap (owed (suc number)) (same_Some given after h.gives) in
    omega (arith, same)
handed_owes own set class part number given after (Some step) rise long at h =
    let one = give_one number step (filter (has part) set) given after h.gives in
    let more = owed_more given (suc number) step (filter (has part) set) one.0 one.1 in
    let same = ap (owed (suc number)) one.2 in
    let many : need (length (filter (has part) set)) ≡ charge own class =
    ap need (part_count set (length own) class part rise long at)
    ∙ ap (λ (b : Bool). cond b 0 (need (size_in (length own) class))) (sym h.step_is) in
    omega (arith, more, same, many)

pub handed_sets : (count : ℕ) (own : List PathRule) (set class part : List ℕ) (number : ℕ) (given after : Given) (step : Option ℕ)
    → IsSet count set → AreSets count given → IsHanded own set class part number given step after → AreSets count after
handed_sets count own set class part number given after None is sets h = subst (AreSets count) (same_Some given after h.gives) sets
handed_sets count own set class part number given after (Some step) is sets h =
    let one = give_one number step (filter (has part) set) given after h.gives in
    subst (AreSets count) one.2 (sets_more count given step (filter (has part) set) sets (part_set count set part is))

-- ---- classes, one after another

pub drop_next : {A : Type 0} (xs : List A) (i : ℕ) (x : A) → slice_get xs i ≡ Some x → drop i xs ≡ x ∷ drop (i + 1) xs
drop_next {A} xs i x e = let next : suc i ≡ i + 1 = omega arith in go xs i e ∙ ap (λ (k : ℕ). x ∷ drop k xs) next
  where
    go : (ys : List A) (k : ℕ) → slice_get ys k ≡ Some x → drop k ys ≡ x ∷ drop (suc k) ys
    go [] k f = absurd (none-some x f)
    go (y ∷ ys) zero f = ap (λ (z : A). z ∷ ys) (same_Some y x f)
    go (y ∷ ys) (suc k) f = go ys k f

pub class_within : (own : List PathRule) (classes : List (List ℕ)) (k count : ℕ) (class : List ℕ) → AreClasses own classes
    → slice_get classes k ≡ Some class → count ≡ length own → All (λ (n : ℕ). n < count) class
class_within own classes k count class is e long = All-from_recursion (λ (n : ℕ). n < count) class
    (all_places (λ (n : ℕ). n < count) class (λ i n f. let low = class_below own classes is k n class e (has_at class i n f) in
    omega (arith, low, long)))

pub parts_full : (set : List ℕ) (classes parts : List (List ℕ)) → AllZip (AreAt set) classes parts
    → ((k : ℕ) (class : List ℕ) → slice_get classes k ≡ Some class → 0 < length class)
    → AllByRecursion (λ (part : List ℕ). 0 < length part) parts
parts_full set [] [] z full = tt
parts_full set [] (part ∷ parts) z full = absurd z
parts_full set (class ∷ classes) [] z full = absurd z
parts_full set (class ∷ classes) (part ∷ parts) z full = (
  some class part z.0 (full 0 class refl),
  parts_full set classes parts z.1 (λ k c e. full (suc k) c e),
)
  where
    some : (places numbers : List ℕ) → AreAt set places numbers → 0 < length places → 0 < length numbers
    some [] numbers y l = absurd (omega (arith, l))
    some (place ∷ places) [] y l = absurd y
    some (place ∷ places) (n ∷ numbers) y l = omega arith
