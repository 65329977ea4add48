-- Where no form is found in the tables, none ranks the rules.
use Rattle.std.proofs.Common.{◌≡◌, ℕ, zero, suc, ◌<◌, Bool, true, false, List, [], ◌∷◌, length, get_or, ℤ, pos, negsuc, ◌+ℤ◌, ◌*ℤ◌}
use Rattle.std.proofs.Common.{◌≤ℤ◌, Option, Some, None, subst, ap, arith, refl, ◌∙◌, sym}
use Rattle.std.specs.Prelude.{◌&&◌, ◌||◌, slice_get, int_le, int_lt, unsigned_abs}
use Rattle.std.proofs.lemmas.Bool.{false≢true, and_from, or_left, or_right}
use Rattle.std.proofs.lemmas.Int.{ints}
use Rattle.std.proofs.lemmas.Option.{slice_get_within, slice_get-get_or}
use Rattle.rank_search.proofs.Lowered.{rule_at}
use Rattle.list_views.proofs.Orders.{zero_times}
use Rattle.descent.specs.declared.rules.PathRule.{PathRule}
use Rattle.descent.specs.declared.rules.Place.{Place}
use Rattle.rank_search.specs.declared.candidates.Candidate.{Candidate}
use Rattle.rank_search.specs.Plain.{FormChanges, IsMultiple, RanksInts, RanksSize}
use Rattle.rank_forms.specs.rule_links.Falls.{ArePlacesOf, IsFall, IsTableOf, TellAll, TellsSize, TellsSteps}
use Rattle.rank_search.specs.inner.Candidates.{NoFall, falling_form, NoOne, NoSum, falls, form_value, is_fall, is_weak, multiple_of}
use Rattle.rank_search.specs.inner.Candidates.{never_rises, value_of, NoInts, NoSize, NoSteps}
use Rattle.rank_forms.specs.rule_links.Ties.{IsTable, TellsChange}
use Rattle.rank_search.specs.Stepwise.{NoStepwiseForm}

abbrev Lists : Type 0
Lists = List (List (Option ℤ))

-- a form that has a value on every list of a table, which is no rise, and on one of another a fall
abbrev IsValue : Candidate → List (Option ℤ) → ℤ → Type 0
IsValue form told most = (c : ℤ) × (form_value form told ≡ Some c) × (c ≤ℤ most)

weak_of : (value : Option ℤ) (c : ℤ) → value ≡ Some c → c ≤ℤ pos 0 → is_weak value ≡ true
weak_of value c e h = ap is_weak e ∙ test_is c (int_le c (pos 0)) refl h
  where
    test_is : (c : ℤ) (test : Bool) → int_le c (pos 0) ≡ test → c ≤ℤ pos 0 → test ≡ true
    test_is c true e h = refl
    test_is c false e h = absurd (omega (arith, ints))

strict_of : (value : Option ℤ) (c : ℤ) → value ≡ Some c → c ≤ℤ negsuc 0 → is_fall value ≡ true
strict_of value c e h = ap is_fall e ∙ test_is c (int_lt c (pos 0)) refl h
  where
    test_is : (c : ℤ) (test : Bool) → int_lt c (pos 0) ≡ test → c ≤ℤ negsuc 0 → test ≡ true
    test_is c true e h = refl
    test_is c false e h = absurd (omega (arith, ints))

never : (form : Candidate) (table : Lists) → ((n : ℕ) → n < length table → IsValue form (get_or table n []) (pos 0))
    → never_rises form table ≡ true
never form [] h = refl
never form (told ∷ rest) h =
    let v = h 0 (omega arith) in
    and_from (is_weak (form_value form told)) (never_rises form rest) (weak_of (form_value form told) v.0 v.1 v.2)
    (never form rest (λ n less. h (suc n) (omega (arith, less))))

some_falls : (form : Candidate) (table : Lists) (n : ℕ) → n < length table → IsValue form (get_or table n []) (negsuc 0)
    → falls form table ≡ true
some_falls form [] n less v = absurd (omega (arith, less))
some_falls form (told ∷ rest) zero less v = or_left (is_fall (form_value form told)) (falls form rest)
    (strict_of (form_value form told) v.0 v.1 v.2)
some_falls form (told ∷ rest) (suc n) less v = or_right (is_fall (form_value form told)) (falls form rest)
    (some_falls form rest n (omega (arith, less)) v)

first_rule : (rules : List PathRule) (n : ℕ) (rule : PathRule) → slice_get rules n ≡ Some rule → (first : PathRule)
    × (slice_get rules 0 ≡ Some first)
first_rule [] n rule e = absurd (cc)
first_rule (first ∷ rest) n rule e = (first, refl)

-- every rule has a value by what holds of each
valued : (rules : List PathRule) (table : Lists) (form : Candidate) → length table ≡ length rules
    → ((n : ℕ) (rule : PathRule) → slice_get rules n ≡ Some rule → IsValue form (get_or table n []) (pos 0))
    → never_rises form table ≡ true
valued rules table form count each = never form table (λ n less. let r = rule_at rules n (length table) count less in each n r.0 r.1)

fallen : (rules : List PathRule) (table : Lists) (form : Candidate) (n : ℕ) (rule : PathRule) → length table ≡ length rules
    → slice_get rules n ≡ Some rule → IsValue form (get_or table n []) (negsuc 0) → falls form table ≡ true
fallen rules table form n rule count is v = some_falls form table n
    (let low = slice_get_within rules n rule is in subst (λ (k : ℕ). n < k) (sym count) low) v

-- multiples by number
pub record IsNumbered (times : ℤ) (count : ℕ) : Type 0 where
  pub number : ℕ
  pub low : number < count
  pub is : times ≡ multiple_of number

unit_numbered : (times : ℤ) → unsigned_abs times ≡ 1 → IsNumbered times 2
unit_numbered (pos (suc zero)) e = record { number = 0; low = omega arith; is = refl }
unit_numbered (negsuc zero) e = record { number = 1; low = omega arith; is = refl }
unit_numbered (pos zero) e = absurd (omega (arith, e))
unit_numbered (pos (suc (suc n))) e = absurd (omega (arith, e))
unit_numbered (negsuc (suc n)) e = absurd (omega (arith, e))

numbered : (times : ℤ) → IsMultiple times → IsNumbered times 8
numbered (pos zero) h = absurd (let l = h.1 in omega (arith, l))
numbered (pos (suc zero)) h = record { number = 0; low = omega arith; is = refl }
numbered (pos (suc (suc zero))) h = record { number = 2; low = omega arith; is = refl }
numbered (pos (suc (suc (suc zero)))) h = record { number = 4; low = omega arith; is = refl }
numbered (pos (suc (suc (suc (suc zero))))) h = record { number = 6; low = omega arith; is = refl }
numbered (pos (suc (suc (suc (suc (suc n)))))) h = absurd (let l = h.0 in omega (arith, l))
numbered (negsuc zero) h = record { number = 1; low = omega arith; is = refl }
numbered (negsuc (suc zero)) h = record { number = 3; low = omega arith; is = refl }
numbered (negsuc (suc (suc zero))) h = record { number = 5; low = omega arith; is = refl }
numbered (negsuc (suc (suc (suc zero)))) h = record { number = 7; low = omega arith; is = refl }
numbered (negsuc (suc (suc (suc (suc n))))) h = absurd (let l = h.0 in omega (arith, l))

-- the value of a form of two places, from the changes that are told
value_is : (form : Candidate) (told : List (Option ℤ)) (c d : ℤ) → get_or told form.one None ≡ Some c
    → get_or told form.other None ≡ Some d → form_value form told ≡ Some (form.times *ℤ c +ℤ form.more *ℤ d)
value_is form told c d e f = ap (λ (o : Option ℤ). value_of o (get_or told form.other None) form.times form.more) e
    ∙ ap (λ (o : Option ℤ). value_of (Some c) o form.times form.more) f

one_value : (rule : PathRule) (told : List (Option ℤ)) (places : List Place) (one : Place × ℤ) (k : ℕ) (most c : ℤ)
    (form : Candidate) → form ≡ record { one = k; times = one.1; other = k; more = pos 0 } → TellAll (TellsChange rule) places told
    → slice_get places k ≡ Some one.0 → FormChanges rule (one ∷ []) c → c ≤ℤ most → IsValue form told most
one_value rule told places one k most c form s tells is changes low =
    let d = changes.0 in
    let told_is : get_or told k None ≡ Some d = (tells.1 k one.0 is).told d changes.2 in
    let value = value_is (record { one = k; times = one.1; other = k; more = pos 0 }) told d d told_is told_is in
    subst (λ (f : Candidate). IsValue f told most) (sym s)
    (one.1 *ℤ d +ℤ pos 0 *ℤ d, value, at_most (one.1 *ℤ d) (pos 0 *ℤ d) changes.1 c most (zero_times d) changes.3 changes.4 low)
  where
    at_most : (a z e c most : ℤ) → z ≡ pos 0 → e ≡ pos 0 → c ≡ a +ℤ e → c ≤ℤ most → (a +ℤ z) ≤ℤ most
    at_most a z e c most f g h low = omega (arith, ints)

no_one : (rules : List PathRule) (places : List Place) (table : Lists) (one : Place × ℤ) → ArePlacesOf rules false places
    → IsTable rules places table → NoOne table (length places) → RanksInts rules (one ∷ []) → ⊥
no_one rules places table one are is none ranks =
    let first = first_rule rules ranks.falling ranks.fallen ranks.there in
    let changes = (ranks.each 0 first.0 first.1).1 in
    let k = are first.0 first.1 one.0 changes.2.start changes.2.ends.first in
    let m = unit_numbered one.1 ranks.shape in
    let form : Candidate = record { one = k.0; times = multiple_of m.number; other = k.0; more = pos 0 } in
    let same : form ≡ record { one = k.0; times = one.1; other = k.0; more = pos 0 } = ap (λ (t : ℤ). made k.0 t) (sym m.is) in
    let weak = valued rules table form is.0 (λ n rule at. let c = ranks.each n rule at in one_value rule (get_or table n []) places
    one k.0 (pos 0) c.0 form same (is.1 n rule at) k.1 c.1 c.2) in
    let strict = fallen rules table form ranks.falling ranks.fallen is.0 ranks.there
    (let c = ranks.falls in one_value ranks.fallen (get_or table ranks.falling []) places one k.0 (negsuc 0) c.0 form same
    (is.1 ranks.falling ranks.fallen ranks.there) k.1 c.1 c.2) in
    false≢true (sym (none k.0 m.number (slice_get_within places k.0 one.0 k.1) m.low)
    ∙ and_from (never_rises form table) (falls form table) weak strict)
  where
    made : ℕ → ℤ → Candidate
    made k t = record { one = k; times = t; other = k; more = pos 0 }

-- two ints
two_value : (rule : PathRule) (told : List (Option ℤ)) (places : List Place) (one other : Place × ℤ) (k j : ℕ) (most c : ℤ)
    (form : Candidate) → form ≡ record { one = k; times = one.1; other = j; more = other.1 }
    → TellAll (TellsChange rule) places told → slice_get places k ≡ Some one.0 → slice_get places j ≡ Some other.0
    → FormChanges rule (one ∷ other ∷ []) c → c ≤ℤ most → IsValue form told most
two_value rule told places one other k j most c form s tells is at changes low =
    let d = changes.0 in
    let more = changes.3 in
    let f = more.0 in
    let value = value_is (record { one = k; times = one.1; other = j; more = other.1 }) told d f
    ((tells.1 k one.0 is).told d changes.2) ((tells.1 j other.0 at).told f more.2) in
    subst (λ (x : Candidate). IsValue x told most) (sym s)
    (one.1 *ℤ d +ℤ other.1 *ℤ f, value, at_most (one.1 *ℤ d) (other.1 *ℤ f) changes.1 more.1 c most more.3 more.4 changes.4 low)
  where
    at_most : (a b e z c most : ℤ) → z ≡ pos 0 → e ≡ b +ℤ z → c ≡ a +ℤ e → c ≤ℤ most → (a +ℤ b) ≤ℤ most
    at_most a b e z c most f g h low = omega (arith, ints)

no_two : (rules : List PathRule) (places : List Place) (table : Lists) (one other : Place × ℤ) → ArePlacesOf rules false places
    → IsTable rules places table → NoSum table (length places) (length places) → RanksInts rules (one ∷ other ∷ []) → ⊥
no_two rules places table one other are is none ranks =
    let first = first_rule rules ranks.falling ranks.fallen ranks.there in
    let changes = (ranks.each 0 first.0 first.1).1 in
    let more = changes.3 in
    let k = are first.0 first.1 one.0 changes.2.start changes.2.ends.first in
    let j = are first.0 first.1 other.0 more.2.start more.2.ends.first in
    let m = numbered one.1 ranks.shape.0 in
    let n = numbered other.1 ranks.shape.1 in
    let form : Candidate = made k.0 j.0 (multiple_of m.number) (multiple_of n.number) in
    let same : form ≡ made k.0 j.0 one.1 other.1 = ap (λ (t : ℤ). made k.0 j.0 t (multiple_of n.number)) (sym m.is)
    ∙ ap (λ (t : ℤ). made k.0 j.0 one.1 t) (sym n.is) in
    let weak = valued rules table form is.0 (λ i rule at. let c = ranks.each i rule at in two_value rule (get_or table i []) places
    one other k.0 j.0 (pos 0) c.0 form same (is.1 i rule at) k.1 j.1 c.1 c.2) in
    let strict = fallen rules table form ranks.falling ranks.fallen is.0 ranks.there
    (let c = ranks.falls in two_value ranks.fallen (get_or table ranks.falling []) places one other k.0 j.0 (negsuc 0) c.0 form
    same (is.1 ranks.falling ranks.fallen ranks.there) k.1 j.1 c.1 c.2) in
    false≢true (sym (none k.0 (slice_get_within places k.0 one.0 k.1) j.0 (slice_get_within places j.0 other.0 j.1) m.number
    n.number m.low n.low) ∙ and_from (never_rises form table) (falls form table) weak strict)
  where
    made : ℕ → ℕ → ℤ → ℤ → Candidate
    made k j t u = record { one = k; times = t; other = j; more = u }

pub no_ints : (rules : List PathRule) (places : List Place) (table : Lists) → ArePlacesOf rules false places
    → IsTable rules places table → NoOne table (length places) → NoSum table (length places) (length places)
    → (form : List (Place × ℤ)) → RanksInts rules form → ⊥
no_ints rules places table are is one two [] ranks = ranks.shape
no_ints rules places table are is one two (a ∷ []) ranks = no_one rules places table a are is one ranks
no_ints rules places table are is one two (a ∷ b ∷ []) ranks = no_two rules places table a b are is two ranks
no_ints rules places table are is one two (a ∷ b ∷ c ∷ rest) ranks = ranks.shape

-- a place that falls
falling_value : (told : List (Option ℤ)) (k : ℕ) (c least most : ℤ) → IsFall (get_or told k None) c → least ≤ℤ c
    → (pos 0 +ℤ most) +ℤ least ≡ pos 0 → IsValue (falling_form k) told most
falling_value told k c least most fall low opposite = by_found (get_or told k None) refl fall
  where
    at_most : (d c least most z : ℤ) → z ≡ pos 0 → c ≤ℤ d → least ≤ℤ c → (pos 0 +ℤ most) +ℤ least ≡ pos 0 → (negsuc 0 *ℤ d +ℤ z) ≤ℤ most
    at_most d c least most z e f g h = omega (arith, ints)

    by_found : (found : Option ℤ) → get_or told k None ≡ found → IsFall found c → IsValue (falling_form k) told most
    by_found None e fall = absurd fall
    by_found (Some d) e fall = (
      negsuc 0 *ℤ d +ℤ pos 0 *ℤ d,
      value_is (falling_form k) told d d e e,
      at_most d c least most
          (pos 0 *ℤ d) (zero_times d) fall low opposite,
    )

no_falling : (rules : List PathRule) (weak strict : Lists) (k count n : ℕ) (rule : PathRule) → length weak ≡ length rules
    → length strict ≡ length rules → NoFall weak strict count → k < count
    → ((i : ℕ) (other : PathRule) → slice_get rules i ≡ Some other → (c : ℤ) × IsFall (get_or (get_or weak i []) k None) c
    × (pos 0 ≤ℤ c)) → slice_get rules n ≡ Some rule → (c : ℤ) → IsFall (get_or (get_or strict n []) k None) c → pos 1 ≤ℤ c → ⊥
no_falling rules weak strict k count n rule w s none less each is c fall low =
    let keeps = valued rules weak (falling_form k) w
    (λ i other at. let f = each i other at in falling_value (get_or weak i []) k f.0 (pos 0) (pos 0) f.1 f.2 refl) in
    let drops = fallen rules strict (falling_form k) n rule s is
    (falling_value (get_or strict n []) k c (pos 1) (negsuc 0) fall low refl) in
    false≢true (sym (none k less) ∙ and_from (never_rises (falling_form k) weak) (falls (falling_form k) strict) keeps drops)

pub no_sizes : (rules : List PathRule) (places : List Place) (table : Lists) → ArePlacesOf rules true places
    → IsTableOf TellsSize rules places table → NoFall table table (length places) → (place : Place) → RanksSize rules place → ⊥
no_sizes rules places table are is none place ranks =
    let first = first_rule rules ranks.falling ranks.fallen ranks.there in
    let start = (ranks.each 0 first.0 first.1).1 in
    let k = are first.0 first.1 place start.start start.ends.first in
    no_falling rules table table k.0 (length places) ranks.falling ranks.fallen is.0 is.0 none
    (slice_get_within places k.0 place k.1)
    (λ i other at. let f = ranks.each i other at in (f.0, ((is.1 i other at).1 k.0 place k.1).told f.0 f.1, f.2)) ranks.there
    ranks.falls.0 (((is.1 ranks.falling ranks.fallen ranks.there).1 k.0 place k.1).told ranks.falls.0 ranks.falls.1) ranks.falls.2

pub ints_none : (rules : List PathRule) (places : List Place) (table : Lists) (count more : ℕ) → count ≡ length places
    → more ≡ length places → ArePlacesOf rules false places → IsTable rules places table → NoOne table count → NoSum table more more
    → NoInts rules
ints_none rules places table count more c m are is one two = no_ints rules places table are is (subst (NoOne table) c one)
    (subst (λ (k : ℕ). NoSum table k k) m two)

pub size_none : (rules : List PathRule) (places : List Place) (table : Lists) (count : ℕ) → count ≡ length places
    → ArePlacesOf rules true places → IsTableOf TellsSize rules places table → NoFall table table count → NoSize rules
size_none rules places table count c are is none = no_sizes rules places table are is (subst (NoFall table table) c none)

-- stepwise forms of one sign
no_steps : (negative : Bool) (rules : List PathRule) (places : List Place) (weak strict : Lists) → ArePlacesOf rules false places
    → IsTableOf (TellsSteps false negative) rules places weak → IsTableOf (TellsSteps true negative) rules places strict
    → NoFall weak strict (length places) → NoSteps rules negative
no_steps negative rules places weak strict are is counts none place ranks =
    let first = first_rule rules ranks.falling ranks.fallen ranks.there in
    let start = (ranks.each 0 first.0 first.1).1 in
    let k = are first.0 first.1 place start.start start.ends.first in
    no_falling rules weak strict k.0 (length places) ranks.falling ranks.fallen is.0 counts.0 none
    (slice_get_within places k.0 place k.1)
    (λ i other at. let f = ranks.each i other at in (f.0, ((is.1 i other at).1 k.0 place k.1).told f.0 f.1 tt, f.2)) ranks.there
    ranks.amount (((counts.1 ranks.falling ranks.fallen ranks.there).1 k.0 place k.1).told ranks.amount ranks.falls
    ranks.bounded) ranks.strictly

pub steps_none : (negative : Bool) (rules : List PathRule) (places : List Place) (weak strict : Lists) (count : ℕ)
    → count ≡ length places → ArePlacesOf rules false places → IsTableOf (TellsSteps false negative) rules places weak
    → IsTableOf (TellsSteps true negative) rules places strict → NoFall weak strict count → NoSteps rules negative
steps_none negative rules places weak strict count c are is counts none = no_steps negative rules places weak strict are is counts
    (subst (NoFall weak strict) c none)

pub none_stepwise : (rules : List PathRule) → NoSteps rules false → NoSteps rules true → NoStepwiseForm rules
none_stepwise rules one other true place ranks = other place ranks
none_stepwise rules one other false place ranks = one place ranks
