-- A set that is divided into the classes of rules that reach each other is divided as a proof asks.
use Rattle.std.proofs.Common.{◌≡◌, ◌∙◌, inl, inr, ◌<◌, ◌==◌, ◌&&◌, ◌++◌, not, cond, ℕ, zero, suc, Bool, true, false, List}
use Rattle.std.proofs.Common.{[], ◌∷◌, length, Option, Some, None, is_none, slice_get, slice_set, nat_lt, refl}
use Rattle.std.proofs.Common.{sym, ap, subst, arith}
use Rattle.std.specs.List.{AllZip, concat, filter_map}
use Rattle.std.proofs.lemmas.Bool.{cases_Bool, eqb-true, le-ltb, and_left, and_right, or_cases, false≢true, false_from_ne_true}
use Rattle.std.proofs.lemmas.Bool.{not_from_true}
use Rattle.std.proofs.lemmas.List.Elements.{filter_map-append}
use Rattle.std.proofs.lemmas.Option.{none-some, same_Some, slice_get_within}
use Rattle.descent.specs.declared.faults.DescentFault.{DescentFault}
use Rattle.descent.specs.declared.rules.PathRule.{PathRule}
use Rattle.descent.specs.Components.{AreClasses}
use Rattle.descent.specs.Splits.{has, stands_in, place_in, is_misplaced, least, uncovered, is_followed, meet_at, is_below}
use Rattle.descent.specs.Splits.{back_fault, back_edge, is_lone, loops_in, loops_at, first_loop, loop_fault, edge_fault}
use Rattle.descent.specs.Splits.{cover_fault, split_fault}
use Rattle.descent.specs.Steps.{Given, is_free, give, part_left, parts_left, same_option}
use Rattle.chain_proofs.specs.Dealt.{Rises}
use Rattle.chain_proofs.specs.inner.Sets.{AreAt, IsStepOf, is_alone}
use Rattle.chain_proofs.specs.Sets.{AreOwn}
use Rattle.chain_proofs.proofs.Places.{place_of, none_passes, none_found, same_place, in_parts, no_place, part_with}

-- ---- rules of a set

pub own_at : (rules : List PathRule) (set : List ℕ) (own : List PathRule) (i n : ℕ) → AreOwn rules set own
    → slice_get set i ≡ Some n → slice_get own i ≡ slice_get rules n
own_at rules [] [] i n h e = absurd (none-some n e)
own_at rules [] (rule ∷ own) i n h e = absurd h
own_at rules (m ∷ set) [] i n h e = absurd h
own_at rules (m ∷ set) (rule ∷ own) zero n h e = sym h.0 ∙ ap (λ (k : ℕ). slice_get rules k) (same_Some m n e)
own_at rules (m ∷ set) (rule ∷ own) (suc i) n h e = own_at rules set own i n h.1 e

pub as_long : (rules : List PathRule) (set : List ℕ) (own : List PathRule) → AreOwn rules set own → length set ≡ length own
as_long rules [] [] h = refl
as_long rules [] (rule ∷ own) h = absurd h
as_long rules (m ∷ set) [] h = absurd h
as_long rules (m ∷ set) (rule ∷ own) h = ap suc (as_long rules set own h.1)

-- what stands beside an item
record IsBeside {A B : Type 0} (R : A → B → Type 0) (xs : List A) (k : ℕ) (y : B) : Type 0 where
  item : A
  at : slice_get xs k ≡ Some item
  related : R item y

beside : {A B : Type 0} (R : A → B → Type 0) (xs : List A) (ys : List B) (k : ℕ) (y : B) → AllZip R xs ys → slice_get ys k ≡ Some y
    → IsBeside R xs k y
beside R [] [] k y h e = absurd (none-some y e)
beside R [] (z ∷ ys) k y h e = absurd h
beside R (x ∷ xs) [] k y h e = absurd h
beside R (x ∷ xs) (z ∷ ys) zero y h e = record { item = x; at = refl; related = subst (R x) (same_Some z y e) h.0 }
beside R (x ∷ xs) (z ∷ ys) (suc k) y h e = let later = beside R xs ys k y h.1 e in record
    { item = later.item; at = later.at; related = later.related }

module _ (rules : List PathRule) (set : List ℕ) (own : List PathRule) (are : AreOwn rules set own) (rise : Rises 0 set)
    (classes parts : List (List ℕ)) (is : AreClasses own classes) (zip : AllZip (AreAt set) classes parts) where
  -- a rule of the set has a place
  record IsPlaced (n : ℕ) : Type 0 where
    i : ℕ
    at : slice_get set i ≡ Some n
    class : ℕ
    place : place_in parts n ≡ Some class
    own_place : place_in classes i ≡ Some class

  placed : (n : ℕ) → has set n ≡ true → IsPlaced n
  placed n h =
      let found = place_of set n h in
      let within : found.0 < length own = subst (λ (k : ℕ). found.0 < k) (as_long rules set own are)
      (slice_get_within set found.0 n found.1) in
      let class = is.each found.0 within in
      record {
        i = found.0;
        at = found.1;
        class = class.0;
        place = same_place set rise found.0 n found.1 0 classes parts zip
            ∙ class.1;
        own_place = class.1;
      }

  unplaced : (n : ℕ) → has set n ≡ false → stands_in parts n ≡ false
  unplaced n h = false_from_ne_true (stands_in parts n) (λ s. false≢true (sym h ∙ in_parts set classes parts n zip s))

  none_misplaced : (n : ℕ) → is_misplaced set parts n ≡ false
  none_misplaced n = elim (cases_Bool (has set n)) as (λ o. is_misplaced set parts n ≡ false) [
    | inl h ↦ ap (λ (b : Bool). cond b (is_none (place_in parts n)) (stands_in parts n)) h
        ∙ ap (λ (o : Option ℕ). is_none o) (placed n h).place
    | inr h ↦ ap (λ (b : Bool). cond b (is_none (place_in parts n)) (stands_in parts n)) h ∙ unplaced n h
  ]

  covered : uncovered set parts ≡ None
  covered = ap least (none_passes (is_misplaced set parts) none_misplaced (set ++ concat parts))

  same_followed : (n m i j : ℕ) → slice_get set i ≡ Some n → slice_get set j ≡ Some m → is_followed rules n m ≡ is_followed own i j
  same_followed n m i j e f = ap (λ (o : Option PathRule). meet_at o (slice_get rules m)) (sym (own_at rules set own i n are e))
      ∙ ap (λ (o : Option PathRule). meet_at (slice_get own i) o) (sym (own_at rules set own j m are f))

  -- ---- no rule is followed by one of a lower part

  abbrev is_back : ℕ → ℕ → Bool
  is_back n m = is_followed rules n m && is_below (place_in parts m) (place_in parts n)

  below_none : (o : Option ℕ) → is_below o None ≡ false
  below_none None = refl
  below_none (Some k) = refl

  forward : (n m : ℕ) (p : IsPlaced n) (q : IsPlaced m) → is_back n m ≡ false
  forward n m p q =
      ap (λ (o : Option ℕ). is_followed rules n m && is_below o (place_in parts n)) q.place
      ∙ ap (λ (o : Option ℕ). is_followed rules n m && is_below (Some q.class) o) p.place
      ∙ elim (cases_Bool (is_followed own p.i q.i)) as (λ o. (is_followed rules n m && nat_lt q.class p.class) ≡ false) [
        | inl f ↦ and_right (is_followed rules n m) (nat_lt q.class p.class)
            (le-ltb q.class p.class (is.forward p.i q.i p.class q.class f p.own_place q.own_place))
        | inr f ↦ and_left (is_followed rules n m) (nat_lt q.class p.class) (same_followed n m p.i q.i p.at q.at ∙ f)
      ]

  none_back : (n m : ℕ) → is_back n m ≡ false
  none_back n m = elim (cases_Bool (has set n)) as (λ o. is_back n m ≡ false) [
    | inr h ↦ ap (λ (o : Option ℕ). is_followed rules n m && is_below (place_in parts m) o) (no_place 0 parts n (unplaced n h))
        ∙ and_right (is_followed rules n m) (is_below (place_in parts m) None) (below_none (place_in parts m))
    | inl h ↦ elim (cases_Bool (has set m)) as (λ o. is_back n m ≡ false) [
      | inr g ↦ ap (λ (o : Option ℕ). is_followed rules n m && is_below o (place_in parts n)) (no_place 0 parts m (unplaced m g))
          ∙ and_right (is_followed rules n m) false refl
      | inl g ↦ forward n m (placed n h) (placed m g)
    ]
  ]

  no_back : (rest : List ℕ) → back_edge rules set parts rest ≡ None
  no_back [] = refl
  no_back (n ∷ rest) = ap (λ (o : Option ℕ). back_fault n o (back_edge rules set parts rest))
      (none_found (λ (m : ℕ). is_back n m) (none_back n) set) ∙ no_back rest

  -- ---- a part without a step is one rule that doesn't follow itself

  module _ (steps : List (Option ℕ)) (step_zip : AllZip (IsStepOf own) classes steps) where
    lone : (n : ℕ) (class part : List ℕ) → AreAt set class part → has part n ≡ true → is_alone own class ≡ true
        → is_lone rules n part ≡ true
    lone n [] part h g a = absurd (false≢true a)
    lone n (only ∷ more ∷ rest) part h g a = absurd (false≢true a)
    lone n (only ∷ []) [] h g a = absurd h
    lone n (only ∷ []) (m ∷ another ∷ part) h g a = absurd h.1
    lone n (only ∷ []) (m ∷ []) h g a =
        let same : m ≡ n = elim (or_cases (m == n) false g) as (λ o. m ≡ n) [ inl e ↦ eqb-true m n e | inr e ↦ absurd (false≢true e) ] in
        let at : slice_get set only ≡ Some n = h.0 ∙ ap Some same in
        ap not (same_followed n n only only at at ∙ quiet (is_followed own only only) a)
      where
        quiet : (b : Bool) → cond b false true ≡ true → b ≡ false
        quiet true e = absurd (false≢true e)
        quiet false e = refl

    step_at : (k : ℕ) (step : Option ℕ) → slice_get steps k ≡ Some step → IsBeside (IsStepOf own) classes k step
    step_at k step e = beside (IsStepOf own) classes steps k step step_zip e

    quiet_at : (n k : ℕ) (part : List ℕ) (step : Option (Option ℕ)) → slice_get parts k ≡ Some part → has part n ≡ true
        → slice_get steps k ≡ step → loops_in rules n (Some part) step ≡ false
    quiet_at n k part None p h e = refl
    quiet_at n k part (Some (Some step)) p h e = refl
    quiet_at n k part (Some None) p h e =
        let found = beside (AreAt set) classes parts k part zip p in
        let other = step_at k None e in
        let same : found.item ≡ other.item = same_Some found.item other.item (sym found.at ∙ other.at) in
        not_from_true (is_lone rules n part)
        (lone n found.item part found.related h (subst (λ (c : List ℕ). is_alone own c ≡ true) (sym same) other.related))

    quiet_place : (n : ℕ) (o : Option ℕ) → place_in parts n ≡ o → loops_at rules parts steps n o ≡ false
    quiet_place n None e = refl
    quiet_place n (Some k) e =
        let found = part_with 0 k n parts e in
        let same : k ≡ found.more = let is = found.is in omega (arith, is) in
        let at : slice_get parts k ≡ Some found.part = ap (λ (x : ℕ). slice_get parts x) same ∙ found.at in
        ap (λ (o : Option (List ℕ)). loops_in rules n o (slice_get steps k)) at
        ∙ quiet_at n k found.part (slice_get steps k) at found.has_it refl

    no_loop : first_loop rules set parts steps ≡ None
    no_loop = none_found (λ (n : ℕ). loops_at rules parts steps n (place_in parts n)) (λ n. quiet_place n (place_in parts n) refl) set

    pub divided : split_fault rules set parts steps ≡ None
    divided =
        ap (λ (o : Option ℕ). cover_fault o
        (edge_fault (back_edge rules set parts set) (loop_fault (first_loop rules set parts steps)))) covered
        ∙ ap (λ (o : Option DescentFault). edge_fault o (loop_fault (first_loop rules set parts steps))) (no_back set)
        ∙ ap loop_fault no_loop

-- ---- one part more

pub give_then : (number : ℕ) (xs ys : List (ℕ × List ℕ)) (given mid after : Given) → give number xs given ≡ Some mid
    → give number ys mid ≡ Some after → give number (xs ++ ys) given ≡ Some after
give_then number [] ys given mid after e f = subst (λ (g : Given). give number ys g ≡ Some after) (sym (same_Some given mid e)) f
give_then number (x ∷ xs) ys given mid after e f = go (nat_lt number x.0 && is_free (slice_get given x.0)) e
    (λ g. give_then number xs ys (slice_set given x.0 (Some x.1)) mid after g f)
  where
    go : (b : Bool) → cond b (give number xs (slice_set given x.0 (Some x.1))) None ≡ Some mid
        → (give number xs (slice_set given x.0 (Some x.1)) ≡ Some mid → give number (xs ++ ys) (slice_set given x.0 (Some x.1))
        ≡ Some after) → cond b (give number (xs ++ ys) (slice_set given x.0 (Some x.1))) None ≡ Some after
    go true g rest = rest g
    go false g rest = absurd (none-some mid g)

left_more : (set : List ℕ) (parts : List (List ℕ)) (steps : List (Option ℕ)) (part : List ℕ) (step : Option ℕ)
    → length parts ≡ length steps → parts_left set (parts ++ part ∷ []) (steps ++ step ∷ []) ≡ parts_left set parts steps
    ++ part_left set part step ∷ []
left_more set [] [] part step e = refl
left_more set [] (s ∷ steps) part step e = absurd (omega (arith, e))
left_more set (p ∷ parts) [] part step e = absurd (omega (arith, e))
left_more set (p ∷ parts) (s ∷ steps) part step e = ap (λ (rest : List (Option (ℕ × List ℕ))). part_left set p s ∷ rest)
    (left_more set parts steps part step (omega (arith, e)))

pub gives_more : (number : ℕ) (set : List ℕ) (parts : List (List ℕ)) (steps : List (Option ℕ)) (part : List ℕ) (step : Option ℕ)
    (given mid after : Given) → length parts ≡ length steps → give number (filter_map same_option (parts_left set parts steps))
    given ≡ Some mid → give number (filter_map same_option (part_left set part step ∷ [])) mid ≡ Some after
    → give number (filter_map same_option (parts_left set (parts ++ part ∷ []) (steps ++ step ∷ []))) given ≡ Some after
gives_more number set parts steps part step given mid after lengths e f =
    ap (λ (xs : List (Option (ℕ × List ℕ))). give number (filter_map same_option xs) given) (left_more set parts steps part step lengths)
    ∙ ap (λ (xs : List (ℕ × List ℕ)). give number xs given)
    (filter_map-append same_option (parts_left set parts steps) (part_left set part step ∷ []))
    ∙ give_then number (filter_map same_option (parts_left set parts steps)) (filter_map same_option (part_left set part step ∷ []))
    given mid after e f
