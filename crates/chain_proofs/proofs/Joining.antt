-- One class of rules that reach each other, and what is left of it where no form ranks them.
use Rattle.std.proofs.Common.{◌≡◌, ◌≢◌, ◌∙◌, inl, inr, ◌<◌, ◌==◌, ◌&&◌, ◌||◌, ◌++◌, not, cond, ℕ, Bool, true, false, List, [], ◌∷◌}
use Rattle.std.proofs.Common.{length, map, Some, None, slice_get, IsTrue, refl, sym, ap, subst, arith}
use Rattle.std.specs.List.{AllZip}
use Rattle.std.proofs.lemmas.Bool.{cases_eq, or_cases, eqb-true, eq-eqb, false≢true, and_parts, not-true}
use Rattle.std.proofs.lemmas.Option.{none-some, same_Some}
use Rattle.descent.specs.declared.rules.PathRule.{PathRule}
use Rattle.descent.specs.Components.{AreClasses, Reaches}
use Rattle.descent.specs.Components.{IsWay as IsRuleWay}
use Rattle.descent.specs.Splits.{has, stands_in, stands_once, place_in, is_followed}
use Rattle.number_graphs.specs.Graphs.{Leads, IsWay}
use Rattle.chain_proofs.specs.declared.proving.LeftRule.{LeftRule}
use Rattle.chain_proofs.specs.Stuck.{IsLeftRule}
use Rattle.chain_proofs.specs.Sets.{AreOwn}
use Rattle.chain_proofs.specs.inner.Sets.{AreJoined, AreLeft, IsApart, IsStuckAt, is_alone}

abbrev Steps : List PathRule → ℕ → ℕ → Type 0
Steps own m n = IsTrue (is_followed own m n)

-- a class has several rules, or one that follows itself
abbrev Follows : List PathRule → List ℕ → Type 0
Follows own [] = ⊥
Follows own (only ∷ []) = is_followed own only only ≡ true
Follows own (one ∷ more ∷ rest) = Unit {0}

follows : (own : List PathRule) (class : List ℕ) → 0 < length class → is_alone own class ≡ false → Follows own class
follows own [] l e = absurd (omega (arith, l))
follows own (only ∷ []) l e = go (is_followed own only only) e
  where
    go : (b : Bool) → cond b false true ≡ false → b ≡ true
    go true f = refl
    go false f = absurd (false≢true (sym f))
follows own (one ∷ more ∷ rest) l e = tt

-- ---- ways

leads_on : (own : List PathRule) (a b : ℕ) (next : ℕ) (way : List ℕ) → Steps own a next → IsRuleWay own next way b → Leads (Steps own) a b
leads_on own a b next [] step way = ([], subst (λ (x : ℕ). Steps own a x) way step)
leads_on own a b next (more ∷ rest) step way =
    let later = leads_on own next b more rest way.0 way.1 in
    (next ∷ later.0, (step, later.1))

-- a rule reaches another one in one step or more
leads_to_other : (own : List PathRule) (a b : ℕ) → a ≢ b → Reaches own a b → Leads (Steps own) a b
leads_to_other own a b differ ([], way) = absurd (differ way)
leads_to_other own a b differ (next ∷ rest, way) = leads_on own a b next rest way.0 way.1

way_then : (own : List PathRule) (first second : List ℕ) (a b c : ℕ) → IsWay (Steps own) a first b → IsWay (Steps own) b second c
    → IsWay (Steps own) a (first ++ b ∷ second) c
way_then own [] second a b c f g = (f, g)
way_then own (x ∷ first) second a b c f g = (f.0, way_then own first second x b c f.1 g)

leads_then : (own : List PathRule) (a b c : ℕ) → Leads (Steps own) a b → Leads (Steps own) b c → Leads (Steps own) a c
leads_then own a b c f g = (f.0 ++ b ∷ g.0, way_then own f.0 g.0 a b c f.1 g.1)

-- ---- a single class

module _ (own : List PathRule) (class : List ℕ) (is : AreClasses own (class ∷ [])) where
  -- each rule is in it, and stands there once
  in_it : (rule k : ℕ) → place_in (class ∷ []) rule ≡ Some k → (has class rule ≡ true) × ((stands_once class rule ≡ true) × (k ≡ 0))
  in_it rule k e = go (has class rule) refl e
    where
      here : (b : Bool) → has class rule ≡ true → (stands_once class rule && true) ≡ b → cond b (Some 0) None ≡ Some k
          → (has class rule ≡ true) × ((stands_once class rule ≡ true) × (k ≡ 0))
      here true h t f = (h, ((and_parts (stands_once class rule) true t).0, sym (same_Some 0 k f)))
      here false h t f = absurd (none-some k f)

      go : (b : Bool) → has class rule ≡ b → cond b (cond (stands_once class rule && true) (Some 0) None) None ≡ Some k
          → (has class rule ≡ true) × ((stands_once class rule ≡ true) × (k ≡ 0))
      go true h f = here (stands_once class rule && true) h refl f
      go false h f = absurd (none-some k f)

  at_0 : (rule : ℕ) → rule < length own → place_in (class ∷ []) rule ≡ Some 0
  at_0 rule l = let place = is.each rule l in place.1 ∙ ap Some (in_it rule place.0 place.1).1.1

  reach : (rule other : ℕ) → rule < length own → other < length own → Reaches own rule other
  reach rule other l m = is.joined rule other 0 (at_0 rule l) (at_0 other m)

  inside : (rule : ℕ) → has class rule ≡ true → rule < length own
  inside rule h = is.only rule h_in
    where
      h_in : stands_in (class ∷ []) rule ≡ true
      h_in = ap (λ (b : Bool). b || false) h

  -- where another rule is there, each leads to itself by it
  by_other : (rule other : ℕ) → rule < length own → other < length own → rule ≢ other → Leads (Steps own) rule rule
  by_other rule other l m differ = leads_then own rule other rule (leads_to_other own rule other differ (reach rule other l m))
      (leads_to_other own other rule (λ e. differ (sym e)) (reach other rule m l))

  to_itself : (list : List ℕ) → class ≡ list → Follows own list → (rule : ℕ) → rule < length own → Leads (Steps own) rule rule
  to_itself [] e f rule l = absurd f
  to_itself (only ∷ []) e f rule l =
      let h : has (only ∷ []) rule ≡ true = subst (λ (c : List ℕ). has c rule ≡ true) e (in_it rule 0 (at_0 rule l)).0 in
      let same : only ≡ rule = elim (or_cases (only == rule) false h) as (λ o. only ≡ rule) [
        | inl g ↦ eqb-true only rule g
        | inr g ↦ absurd (false≢true g)
      ] in
      ([], subst (λ (x : ℕ). Steps own x x) same f)
  to_itself (one ∷ more ∷ rest) e f rule l =
      let whole : (x : ℕ) → has (one ∷ more ∷ rest) x ≡ true → x < length own = λ x h. inside x
      (subst (λ (c : List ℕ). has c x ≡ true) (sym e) h) in
      let one_in : has (one ∷ more ∷ rest) one ≡ true = ap (λ (b : Bool). b || has (more ∷ rest) one) (eq-eqb one one refl) in
      let more_first : has (more ∷ rest) more ≡ true = ap (λ (b : Bool). b || has rest more) (eq-eqb more more refl) in
      let more_in : has (one ∷ more ∷ rest) more ≡ true = either_way (one == more) more_first in
      elim (cases_eq rule one) as (λ o. Leads (Steps own) rule rule) [
        | inl same ↦
            let once : stands_once (one ∷ more ∷ rest) one ≡ true = subst (λ (c : List ℕ). stands_once c one ≡ true) e
            (in_it one 0 (at_0 one (whole one one_in))).1.0 in
            let no_more : has (more ∷ rest) one ≡ false = not-true (has (more ∷ rest) one)
            (sym (ap (λ (b : Bool). cond b (not (has (more ∷ rest) one)) (stands_once (more ∷ rest) one)) (eq-eqb one one refl))
            ∙ once) in
            by_other rule more l (whole more more_in)
            (λ k. false≢true (sym no_more ∙ ap (λ (x : ℕ). has (more ∷ rest) x) (sym same ∙ k) ∙ more_first))
        | inr differ ↦ by_other rule one l (whole one one_in) differ
      ]
    where
      either_way : (b : Bool) {c : Bool} → c ≡ true → (b || c) ≡ true
      either_way true g = refl
      either_way false g = g

  some_rule : Follows own class → 0 < length own
  some_rule f = go class refl f
    where
      first : (x : ℕ) (rest : List ℕ) → class ≡ x ∷ rest → 0 < length own
      first x rest e =
          let h : has class x ≡ true = subst (λ (c : List ℕ). has c x ≡ true) (sym e)
          (ap (λ (b : Bool). b || has rest x) (eq-eqb x x refl)) in
          let within = inside x h in
          omega (arith, within)

      go : (list : List ℕ) → class ≡ list → Follows own list → 0 < length own
      go [] e g = absurd g
      go (x ∷ rest) e g = first x rest e

  joined_class : Follows own class → AreJoined own
  joined_class f = record {
    some = some_rule f;
    joined = λ rule other l m. elim (cases_eq rule other) as (λ o. Leads (Steps own) rule other) [
      | inl same ↦ subst (λ (x : ℕ). Leads (Steps own) rule x) same (to_itself class refl f rule l)
      | inr differ ↦ leads_to_other own rule other differ (reach rule other l m)
    ];
  }

pub joined : (own : List PathRule) (class : List ℕ) (rest classes : List (List ℕ)) → AreClasses own classes → classes ≡ class ∷ rest
    → (length rest == 0) ≡ true → is_alone own class ≡ false → AreJoined own
joined own class [] classes is e none f =
    let own_is = subst (AreClasses own) e is in
    joined_class own class own_is (follows own class (own_is.full 0 class refl) f)
joined own class (other ∷ rest) classes is e none f = let long = eqb-true (length (other ∷ rest)) 0 none in absurd (omega (arith, long))

pub apart : (own : List PathRule) (class : List ℕ) (rest classes : List (List ℕ)) → classes ≡ class ∷ rest
    → ((length rest == 0) && not (is_alone own class)) ≡ false → IsApart own classes
apart own class [] classes e f = subst (IsApart own) (sym e) (go (is_alone own class) f)
  where
    go : (b : Bool) → not b ≡ false → b ≡ true
    go true g = refl
    go false g = absurd (false≢true (sym g))
apart own class (other ∷ rest) classes e f = subst (IsApart own) (sym e) tt

-- ---- the rules that are left

numbers_left : (rules : List PathRule) (set : List ℕ) (left : List LeftRule) → AreLeft rules set left
    → map (λ (one : LeftRule). one.rule) left ≡ set
numbers_left rules [] [] h = refl
numbers_left rules [] (one ∷ left) h = absurd h
numbers_left rules (n ∷ set) [] h = absurd h
numbers_left rules (n ∷ set) (one ∷ left) h = ap (λ (x : ℕ). x ∷ map (λ (l : LeftRule). l.rule) left) h.0.number_is
    ∙ ap (λ (xs : List ℕ). n ∷ xs) (numbers_left rules set left h.1)

own_left : (rules : List PathRule) (set : List ℕ) (left : List LeftRule) (own : List PathRule) → AreLeft rules set left
    → AreOwn rules set own → AllZip (IsLeftRule rules) left own
own_left rules [] [] [] h g = tt
own_left rules [] [] (rule ∷ own) h g = absurd g
own_left rules [] (one ∷ left) own h g = absurd h
own_left rules (n ∷ set) [] own h g = absurd h
own_left rules (n ∷ set) (one ∷ left) [] h g = absurd g
own_left rules (n ∷ set) (one ∷ left) (rule ∷ own) h g =
    let same : h.0.rule ≡ rule = same_Some h.0.rule rule (sym h.0.is.is ∙ ap (λ (k : ℕ). slice_get rules k) h.0.number_is ∙ g.0) in
    (subst (IsLeftRule rules one) same h.0.is, own_left rules set left own h.1 g.1)

pub stuck_at : (none : List PathRule → Type 0) (rules : List PathRule) (set : List ℕ) (left : List LeftRule) (own : List PathRule)
    → AreLeft rules set left → AreOwn rules set own → AreJoined own → none own → IsStuckAt none rules set left
stuck_at none rules set left own h g joined no_form = record {
  own = own;
  numbers = numbers_left rules set left h;
  are_own = own_left rules set left own h g;
  stuck = record { some = joined.some; joined = joined.joined; no_form = no_form };
}
