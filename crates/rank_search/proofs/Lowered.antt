-- A form that is found in the tables ranks the rules.
use Rattle.std.proofs.Common.{◌≡◌, ℕ, zero, suc, ◌<◌, Bool, true, false, List, [], ◌∷◌, ◌++◌, length, get_or, ℤ, pos, negsuc, ◌+ℤ◌}
use Rattle.std.proofs.Common.{◌*ℤ◌, ◌≤ℤ◌, Option, Some, None, subst, ap, arith, refl, ◌∙◌, sym}
use Rattle.std.specs.Prelude.{◌&&◌, ◌||◌, slice_get, int_le, int_lt, IfSome}
use Rattle.std.proofs.lemmas.Bool.{and_parts}
use Rattle.std.proofs.lemmas.Int.{ints}
use Rattle.std.proofs.lemmas.Option.{slice_get_within, slice_get-get_or}
use Rattle.list_views.proofs.Orders.{zero_times}
use Rattle.list_views.proofs.Truths.{or_second}
use Rattle.descent.specs.declared.rules.PathRule.{PathRule}
use Rattle.descent.specs.declared.rules.Place.{Place}
use Rattle.rank_search.specs.declared.candidates.Candidate.{Candidate}
use Rattle.rank_search.specs.Plain.{FormMoves, LowersBy, LowersInts, RanksSize}
use Rattle.rank_forms.specs.rule_links.Changes.{MovesBy}
use Rattle.rank_forms.specs.rule_links.Falls.{IsTableOf, TellAll, TellsSize, TellsSteps}
use Rattle.rank_search.specs.inner.Candidates.{falling_form, IsOneFound, IsSumFound, falls, form_value, is_fall, is_weak, never_rises}
use Rattle.rank_search.specs.inner.Candidates.{value_of, IsTold}
use Rattle.rank_forms.specs.rule_links.Ties.{IsMoved, IsTable, TellsChange}
use Rattle.rank_search.specs.declared.searching.PlainForm.{PlainForm}
use Rattle.rank_search.specs.declared.searching.PlainForm.TheVariants.{Ints, Size}
use Rattle.rank_search.specs.Found.{IsFound}
use Rattle.rank_search.specs.Stepwise.{StepwiseRanks}

abbrev Lists : Type 0
Lists = List (List (Option ℤ))

-- a value that is at most a number
record IsValue (value : Option ℤ) (most : ℤ) : Type 0 where
  pub number : ℤ
  pub is : value ≡ Some number
  pub low : number ≤ℤ most

weak_is : (value : Option ℤ) → is_weak value ≡ true → IsValue value (pos 0)
weak_is None e = absurd (cc)
weak_is (Some c) e = record { number = c; is = refl; low = low_is c e }
  where
    low_is : (c : ℤ) → int_le c (pos 0) ≡ true → c ≤ℤ pos 0
    low_is c e = omega (arith, ints)

strict_is : (value : Option ℤ) → is_fall value ≡ true → IsValue value (negsuc 0)
strict_is None e = absurd (cc)
strict_is (Some c) e = record { number = c; is = refl; low = low_is c e }
  where
    low_is : (c : ℤ) → int_lt c (pos 0) ≡ true → c ≤ℤ negsuc 0
    low_is c e = omega (arith, ints)

-- each list of the table has such a value, and some list one that is a fall
never_at : (form : Candidate) (table : Lists) (n : ℕ) → never_rises form table ≡ true → n < length table
    → IsValue (form_value form (get_or table n [])) (pos 0)
never_at form [] n e less = absurd (omega (arith, less))
never_at form (told ∷ rest) zero e less = weak_is (form_value form told)
    (and_parts (is_weak (form_value form told)) (never_rises form rest) e).0
never_at form (told ∷ rest) (suc n) e less = never_at form rest n
    (and_parts (is_weak (form_value form told)) (never_rises form rest) e).1 (omega (arith, less))

record IsFallAt (form : Candidate) (table : Lists) : Type 0 where
  pub number : ℕ
  pub low : number < length table
  pub value : IsValue (form_value form (get_or table number [])) (negsuc 0)

falls_cases : (here : Bool) (form : Candidate) (told : List (Option ℤ)) (rest : Lists) → is_fall (form_value form told) ≡ here
    → falls form (told ∷ rest) ≡ true → (falls form rest ≡ true → IsFallAt form rest) → IsFallAt form (told ∷ rest)
falls_cases true form told rest t e more = record { number = 0; low = omega arith; value = strict_is (form_value form told) t }
falls_cases false form told rest t e more =
    let m = more (or_second (is_fall (form_value form told)) (falls form rest) t e) in
    record { number = suc m.number; low = let l = m.low in omega (arith, l); value = m.value }

falls_at : (form : Candidate) (table : Lists) → falls form table ≡ true → IsFallAt form table
falls_at form [] e = absurd (cc)
falls_at form (told ∷ rest) e = falls_cases (is_fall (form_value form told)) form told rest refl e (λ h. falls_at form rest h)

-- the parts of a value
record HasParts (one other : Option ℤ) (times more c : ℤ) : Type 0 where
  pub first : ℤ
  pub second : ℤ
  pub is : one ≡ Some first
  pub too : other ≡ Some second
  pub adds : c ≡ times *ℤ first +ℤ more *ℤ second

parts_of : (one other : Option ℤ) (times more c : ℤ) → value_of one other times more ≡ Some c → HasParts one other times more c
parts_of None other times more c e = absurd (cc)
parts_of (Some d) None times more c e = absurd (cc)
parts_of (Some d) (Some f) times more c e = record
    { first = d; second = f; is = refl; too = refl; adds = one_int c (times *ℤ d +ℤ more *ℤ f) (sym e) }
  where
    one_int : (a b : ℤ) → ◌≡◌ {A = Option ℤ} (Some a) (Some b) → a ≡ b
    one_int a b e = cc

pub rule_at : (rules : List PathRule) (n count : ℕ) → count ≡ length rules → n < count → (rule : PathRule)
    × (slice_get rules n ≡ Some rule)
rule_at [] n count e less = absurd (omega (arith, e, less))
rule_at (rule ∷ rest) n count e less =
    (get_or (rule ∷ rest) n rule, slice_get-get_or (rule ∷ rest) n rule (subst (λ (k : ℕ). n < k) e less))

-- a table of places that are seen through other views
pub table_at : (tells : PathRule → Place → Option ℤ → Type 0) (rules : List PathRule) (a b places : List Place) (table seen : Lists)
    → a ≡ places → b ≡ places → seen ≡ table → IsTableOf tells rules a table → IsTableOf tells rules b seen
table_at tells rules a b places table seen e f s h = subst (λ (l : List Place). IsTableOf tells rules l seen) (e ∙ sym f)
    (subst (IsTableOf tells rules a) (sym s) h)

-- one int
abbrev Moves : PathRule → List (Place × ℤ) → ℤ → Type 0
Moves rule form most = (c : ℤ) × FormMoves IsMoved rule form c × (c ≤ℤ most)

one_moves : (rule : PathRule) (told : List (Option ℤ)) (places : List Place) (form : Candidate) (place : Place) (most : ℤ)
    → TellAll (TellsChange rule) places told → slice_get places form.one ≡ Some place → form.more ≡ pos 0
    → IsValue (form_value form told) most → Moves rule ((place, form.times) ∷ []) most
one_moves rule told places form place most tells is more value =
    let p = parts_of (get_or told form.one None) (get_or told form.other None) form.times form.more value.number value.is in (
      value.number,
      (
        p.first,
        pos 0,
        (tells.1 form.one place is).says p.first p.is,
        refl,
        adds value.number (form.times *ℤ p.first)
            (form.more *ℤ p.second) p.adds (ap (λ (x : ℤ). x *ℤ p.second) more ∙ zero_times p.second),
      ),
      value.low,
    )
  where
    adds : (c a b : ℤ) → c ≡ a +ℤ b → b ≡ pos 0 → c ≡ a +ℤ pos 0
    adds c a b e h = omega (arith, ints)

pub one_lowers : (rules : List PathRule) (places : List Place) (table : Lists) (form : Candidate) (place : Place)
    → IsTable rules places table → IsOneFound table (length places) form → slice_get places form.one ≡ Some place
    → LowersBy IsMoved rules ((place, form.times) ∷ [])
one_lowers rules places table form place is found at =
    let parts = and_parts (never_rises form table) (falls form table) found.ranks in
    let fall = falls_at form table parts.1 in
    let fallen = rule_at rules fall.number (length table) is.0 fall.low in
    record {
      shape = found.times;
      each = λ n rule there. one_moves rule (get_or table n []) places form place (pos 0) (is.1 n rule there) at found.more
          (never_at form table n parts.0 (let low = slice_get_within rules n rule there in subst (λ (k : ℕ). n < k) (sym is.0) low));
      falling = fall.number;
      fallen = fallen.0;
      there = fallen.1;
      falls = one_moves fallen.0 (get_or table fall.number []) places form place (negsuc 0) (is.1 fall.number fallen.0 fallen.1) at
          found.more fall.value;
    }

-- two ints
two_moves : (rule : PathRule) (told : List (Option ℤ)) (places : List Place) (form : Candidate) (place other : Place) (most : ℤ)
    → TellAll (TellsChange rule) places told → slice_get places form.one ≡ Some place → slice_get places form.other ≡ Some other
    → IsValue (form_value form told) most → Moves rule ((place, form.times) ∷ (other, form.more) ∷ []) most
two_moves rule told places form place other most tells is at value =
    let p = parts_of (get_or told form.one None) (get_or told form.other None) form.times form.more value.number value.is in (
      value.number,
      (
        p.first,
        form.more *ℤ p.second +ℤ pos 0,
        (tells.1 form.one place is).says p.first p.is,
        (p.second, pos 0, (tells.1 form.other other at).says p.second p.too, refl, refl),
        adds value.number
            (form.times *ℤ p.first) (form.more *ℤ p.second) p.adds,
      ),
      value.low,
    )
  where
    adds : (c a b : ℤ) → c ≡ a +ℤ b → c ≡ a +ℤ (b +ℤ pos 0)
    adds c a b e = omega (arith, ints)

pub two_lower : (rules : List PathRule) (places : List Place) (table : Lists) (form : Candidate) (place other : Place)
    → IsTable rules places table → IsSumFound table (length places) form → slice_get places form.one ≡ Some place
    → slice_get places form.other ≡ Some other → LowersBy IsMoved rules ((place, form.times) ∷ (other, form.more) ∷ [])
two_lower rules places table form place other is found at too =
    let parts = and_parts (never_rises form table) (falls form table) found.ranks in
    let fall = falls_at form table parts.1 in
    let fallen = rule_at rules fall.number (length table) is.0 fall.low in
    record {
      shape = (found.times, found.more);
      each = λ n rule there. two_moves rule (get_or table n []) places form place other (pos 0) (is.1 n rule there) at too
          (never_at form table n parts.0 (let low = slice_get_within rules n rule there in subst (λ (k : ℕ). n < k) (sym is.0) low));
      falling = fall.number;
      fallen = fallen.0;
      there = fallen.1;
      falls = two_moves fallen.0 (get_or table fall.number []) places form place other (negsuc 0)
          (is.1 fall.number fallen.0 fallen.1) at too fall.value;
    }

-- a place that falls
record FallsBy (told : List (Option ℤ)) (k : ℕ) (least : ℤ) : Type 0 where
  pub by : ℤ
  pub is : get_or told k None ≡ Some by
  pub low : least ≤ℤ by

falls_by : (told : List (Option ℤ)) (k : ℕ) (most least : ℤ) → most +ℤ least ≡ pos 0
    → IsValue (form_value (falling_form k) told) most → FallsBy told k least
falls_by told k most least e value =
    let p = parts_of (get_or told k None) (get_or told k None) (negsuc 0) (pos 0) value.number value.is in
    record {
      by = p.first;
      is = p.is;
      low = low_is value.number p.first (pos 0 *ℤ p.second) most least p.adds (zero_times p.second)
          value.low e;
    }
  where
    low_is : (c d z most least : ℤ) → c ≡ negsuc 0 *ℤ d +ℤ z → z ≡ pos 0 → c ≤ℤ most → most +ℤ least ≡ pos 0 → least ≤ℤ d
    low_is c d z most least e f h g = omega (arith, ints)

abbrev pub IsFalling : Lists → Lists → ℕ → Type 0
IsFalling weak strict one = (never_rises (falling_form one) weak && falls (falling_form one) strict) ≡ true

pub size_ranks : (rules : List PathRule) (places : List Place) (table : Lists) (k : ℕ) (place : Place)
    → IsTableOf TellsSize rules places table → IsFalling table table k → slice_get places k ≡ Some place → RanksSize rules place
size_ranks rules places table k place is found at =
    let parts = and_parts (never_rises (falling_form k) table) (falls (falling_form k) table) found in
    let fall = falls_at (falling_form k) table parts.1 in
    let fallen = rule_at rules fall.number (length table) is.0 fall.low in
    let most = falls_by (get_or table fall.number []) k (negsuc 0) (pos 1) refl fall.value in
    record {
      each = λ n rule there.
          let v = falls_by (get_or table n []) k (pos 0) (pos 0) refl
          (never_at (falling_form k) table n parts.0
          (let low = slice_get_within rules n rule there in subst (λ (x : ℕ). n < x) (sym is.0) low)) in
          (v.by, ((is.1 n rule there).1 k place at).says v.by v.is, v.low);
      falling = fall.number;
      fallen = fallen.0;
      there = fallen.1;
      falls = (most.by, ((is.1 fall.number fallen.0 fallen.1).1 k place at).says most.by most.is, most.low);
    }

pub steps_rank : (negative : Bool) (rules : List PathRule) (places : List Place) (weak strict : Lists) (k : ℕ) (place : Place)
    → IsTableOf (TellsSteps false negative) rules places weak → IsTableOf (TellsSteps true negative) rules places strict
    → IsFalling weak strict k → slice_get places k ≡ Some place → StepwiseRanks rules negative place
steps_rank negative rules places weak strict k place is counts found at =
    let parts = and_parts (never_rises (falling_form k) weak) (falls (falling_form k) strict) found in
    let fall = falls_at (falling_form k) strict parts.1 in
    let fallen = rule_at rules fall.number (length strict) counts.0 fall.low in
    let most = falls_by (get_or strict fall.number []) k (negsuc 0) (pos 1) refl fall.value in
    let steps = ((counts.1 fall.number fallen.0 fallen.1).1 k place at).says most.by most.is in
    record {
      each = λ n rule there.
          let v = falls_by (get_or weak n []) k (pos 0) (pos 0) refl
          (never_at (falling_form k) weak n parts.0
          (let low = slice_get_within rules n rule there in subst (λ (x : ℕ). n < x) (sym is.0) low)) in
          (v.by, (((is.1 n rule there).1 k place at).says v.by v.is).0, v.low);
      falling = fall.number;
      fallen = fallen.0;
      there = fallen.1;
      amount = most.by;
      falls = steps.0;
      strictly = most.low;
      bounded = steps.1;
    }

-- the form as it is written down
pub one_told : (rules : List PathRule) (places : List Place) (table : Lists) (form : Candidate) (place : Place) (times : ℤ)
    (none new : List (Place × ℤ)) → none ≡ [] → new ≡ none ++ (place, times) ∷ [] → times ≡ form.times → IsTable rules places table
    → IsOneFound table (length places) form → slice_get places form.one ≡ Some place → LowersBy IsMoved rules new
one_told rules places table form place times none new n e t is found at = subst (LowersBy IsMoved rules)
    (sym (e ∙ ap (λ (l : List (Place × ℤ)). l ++ (place, times) ∷ []) n ∙ ap (λ (x : ℤ). made place x) t))
    (one_lowers rules places table form place is found at)
  where
    made : Place → ℤ → List (Place × ℤ)
    made p x = (p, x) ∷ []

pub two_told : (rules : List PathRule) (places : List Place) (table : Lists) (form : Candidate) (place other : Place)
    (times more : ℤ) (none one new : List (Place × ℤ)) → none ≡ [] → one ≡ none ++ (place, times) ∷ []
    → new ≡ one ++ (other, more) ∷ [] → times ≡ form.times → more ≡ form.more → IsTable rules places table
    → IsSumFound table (length places) form → slice_get places form.one ≡ Some place → slice_get places form.other ≡ Some other
    → LowersBy IsMoved rules new
two_told rules places table form place other times more none one new n e f t m is found at too = subst (LowersBy IsMoved rules)
    (sym (f ∙ ap (λ (l : List (Place × ℤ)). l ++ (other, more) ∷ []) e
    ∙ ap (λ (l : List (Place × ℤ)). (l ++ (place, times) ∷ []) ++ (other, more) ∷ []) n
    ∙ ap (λ (x : ℤ). made place x other more) t ∙ ap (λ (x : ℤ). made place form.times other x) m))
    (two_lower rules places table form place other is found at too)
  where
    made : Place → ℤ → Place → ℤ → List (Place × ℤ)
    made p x q y = (p, x) ∷ (q, y) ∷ []

-- a place that was found
if_some_at : (P : ℕ → Type 0) (o : Option ℕ) (x : ℕ) → o ≡ Some x → IfSome o P → P x
if_some_at P o x e h = subst (λ (q : Option ℕ). IfSome q P) e h

pub size_told : (rules : List PathRule) (places : List Place) (table : Lists) (found : Option ℕ) (k count : ℕ) (place : Place)
    → found ≡ Some k → IfSome found (λ one. (one < count) × IsFalling table table one) → IsTableOf TellsSize rules places table
    → slice_get places k ≡ Some place → RanksSize rules place
size_told rules places table found k count place e some is at = size_ranks rules places table k place is
    (if_some_at (λ (one : ℕ). (one < count) × IsFalling table table one) found k e some).1 at

pub steps_told : (negative : Bool) (rules : List PathRule) (places : List Place) (weak strict : Lists) (found : Option ℕ)
    (k count : ℕ) (place : Place) → found ≡ Some k → IfSome found (λ one. (one < count) × IsFalling weak strict one)
    → IsTableOf (TellsSteps false negative) rules places weak → IsTableOf (TellsSteps true negative) rules places strict
    → slice_get places k ≡ Some place → StepwiseRanks rules negative place
steps_told negative rules places weak strict found k count place e some is counts at = steps_rank negative rules places weak strict
    k place is counts (if_some_at (λ (one : ℕ). (one < count) × IsFalling weak strict one) found k e some).1 at

-- by the numbers that are found, some lists of links say so
moves_map : (rule : PathRule) (form : List (Place × ℤ)) (c : ℤ) → FormMoves IsMoved rule form c → FormMoves MovesBy rule form c
moves_map rule [] c h = h
moves_map rule (one ∷ rest) c h = (h.0, h.1, h.2.moves, moves_map rule rest h.1 h.3, h.4)

pub lowers_ints : (rules : List PathRule) (form : List (Place × ℤ)) → LowersBy IsMoved rules form → LowersInts rules form
lowers_ints rules form h = record {
  shape = h.shape;
  each = λ n rule is. let some = h.each n rule is in (some.0, moves_map rule form some.0 some.1, some.2);
  falling = h.falling;
  fallen = h.fallen;
  there = h.there;
  falls = (h.falls.0, moves_map h.fallen form h.falls.0 h.falls.1, h.falls.2);
}

found_is : (rules : List PathRule) (form : PlainForm) → IsTold rules form → IsFound rules form
found_is rules (Ints form) h = lowers_ints rules form h
found_is rules (Size place) h = h

pub some_found : (rules : List PathRule) (found : Option PlainForm) → IfSome found (λ form. IsTold rules form)
    → IfSome found (λ form. IsFound rules form)
some_found rules None h = h
some_found rules (Some form) h = found_is rules form h
