-- Rules that are put into classes one after another.
use Rattle.std.proofs.Common.{◌≡◌, ◌⊎◌, inl, inr, ℕ, zero, suc, ◌+◌, ◌-◌, ◌<◌, ◌≤◌, Bool, true, false, cond, eqb, List, [], ◌∷◌}
use Rattle.std.proofs.Common.{◌++◌, length, get_or, Option, Some, None, Result, Ok, Err, IfOk, subst, ap, arith, refl, ◌∙◌, sym}
use Rattle.std.proofs.Common.{add-one, length-append}
use Rattle.std.proofs.lemmas.List.{get_or_at, get_or_append_left}
use Rattle.std.specs.Prelude.{◌||◌, ◌&&◌, not, slice_get, OnOk, nat_lt}
use Rattle.std.proofs.lemmas.Bool.{both_ways, false≢true, true≢false, eqb-true, eq-eqb, or_left, or_right, or_cases, cases_eq}
use Rattle.std.proofs.lemmas.Bool.{and_parts, cases_lt, lt-ltb, false_from_ne_true, not-true, or_parts}
use Rattle.std.proofs.lemmas.Bool.Decides.{nat_tests}
use Rattle.descent.specs.declared.rules.PathRule.{PathRule}
use Rattle.descent.specs.Components.{IsWay, Reaches, AreClasses}
use Rattle.descent.specs.inner.Inserting.{tells, IsRow, IsTable, head_of, placed_at, insert_into, insert_all, first_at, joins, put_at}
use Rattle.descent.specs.Splits.{has, stands_in, stands_once, place_from, is_followed}
use Rattle.descent.proofs.Parted.{IsPlaced, placed}

-- ways that are joined
way_both : (rules : List PathRule) (p q r : ℕ) (a b : List ℕ) → IsWay rules p a q → IsWay rules q b r → IsWay rules p (a ++ b) r
way_both rules p q r [] b one other = subst (λ (x : ℕ). IsWay rules x b r) (sym one) other
way_both rules p q r (x ∷ a) b one other = (one.0, way_both rules x q r a b one.1 other)

pub reach_both : (rules : List PathRule) (p q r : ℕ) → Reaches rules p q → Reaches rules q r → Reaches rules p r
reach_both rules p q r one other = (one.0 ++ other.0, way_both rules p q r one.0 other.0 one.1 other.1)

pub reach_self : (rules : List PathRule) (p : ℕ) → Reaches rules p p
reach_self rules p = ([], refl)

pub reach_next : (rules : List PathRule) (p q : ℕ) → is_followed rules p q ≡ true → Reaches rules p q
reach_next rules p q e = (q ∷ [], (e, refl))

-- one rule more at the end of a class
pub has_end : (class : List ℕ) (rule q : ℕ) → has (class ++ rule ∷ []) q ≡ true → (has class q ≡ true) ⊎ (rule ≡ q)
has_end [] rule q h = elim (or_cases (eqb rule q) false h) as (λ o. (has [] q ≡ true) ⊎ (rule ≡ q)) [
  | inl e ↦ inr (eqb-true rule q e)
  | inr e ↦ absurd (false≢true e)
]
has_end (x ∷ rest) rule q h = elim (or_cases (eqb x q) (has (rest ++ rule ∷ []) q) h) as (λ o. (has (x ∷ rest) q ≡ true) ⊎ (rule ≡ q)) [
  | inl e ↦ inl (or_left (eqb x q) (has rest q) e)
  | inr e ↦ elim (has_end rest rule q e) as (λ o. (has (x ∷ rest) q ≡ true) ⊎ (rule ≡ q)) [
    | inl f ↦ inl (or_right (eqb x q) (has rest q) f)
    | inr f ↦ inr f
  ]
]

pub end_has_old : (class : List ℕ) (rule q : ℕ) → has class q ≡ true → has (class ++ rule ∷ []) q ≡ true
end_has_old [] rule q h = absurd (false≢true h)
end_has_old (x ∷ rest) rule q h = elim (or_cases (eqb x q) (has rest q) h) as (λ o. has ((x ∷ rest) ++ rule ∷ []) q ≡ true) [
  | inl e ↦ or_left (eqb x q) (has (rest ++ rule ∷ []) q) e
  | inr e ↦ or_right (eqb x q) (has (rest ++ rule ∷ []) q) (end_has_old rest rule q e)
]

pub end_has : (class : List ℕ) (rule : ℕ) → has (class ++ rule ∷ []) rule ≡ true
end_has [] rule = or_left (eqb rule rule) false (eq-eqb rule rule refl)
end_has (x ∷ rest) rule = or_right (eqb x rule) (has (rest ++ rule ∷ []) rule) (end_has rest rule)

end_other : (class : List ℕ) (rule q : ℕ) → has class q ≡ false → (rule ≡ q → ⊥) → has (class ++ rule ∷ []) q ≡ false
end_other class rule q h n = false_from_ne_true (has (class ++ rule ∷ []) q) (λ e. elim (has_end class rule q e) as (λ o. ⊥) [
  | inl f ↦ both_ways (has class q) h f
  | inr f ↦ n f
])

once_cases : (b : Bool) (rest : List ℕ) (rule q : ℕ) → (rule ≡ q → ⊥) → cond b (not (has rest q)) (stands_once rest q) ≡ true
    → (stands_once rest q ≡ true → stands_once (rest ++ rule ∷ []) q ≡ true)
    → cond b (not (has (rest ++ rule ∷ []) q)) (stands_once (rest ++ rule ∷ []) q) ≡ true
once_cases true rest rule q n e more = ap not (end_other rest rule q (not-true (has rest q) e) n)
once_cases false rest rule q n e more = more e

once_end_other : (class : List ℕ) (rule q : ℕ) → (rule ≡ q → ⊥) → stands_once class q ≡ true → stands_once (class ++ rule ∷ []) q ≡ true
once_end_other [] rule q n h = absurd (false≢true h)
once_end_other (x ∷ rest) rule q n h = once_cases (eqb x q) rest rule q n h (λ e. once_end_other rest rule q n e)

once_end : (class : List ℕ) (rule : ℕ) → has class rule ≡ false → stands_once (class ++ rule ∷ []) rule ≡ true
once_end [] rule h = subst (λ (b : Bool). cond b true false ≡ true) (sym (eq-eqb rule rule refl)) refl
once_end (x ∷ rest) rule h =
    let parts = none_of (eqb x rule) (has rest rule) h in
    subst (λ (b : Bool). cond b (not (has (rest ++ rule ∷ []) rule)) (stands_once (rest ++ rule ∷ []) rule) ≡ true) (sym parts.0)
    (once_end rest rule parts.1)
  where
    none_of : (a b : Bool) → (a || b) ≡ false → (a ≡ false) × (b ≡ false)
    none_of true b e = absurd (true≢false e)
    none_of false b e = (refl, e)

-- exactly once in all classes
abbrev pub stands_one : List (List ℕ) → ℕ → Bool
stands_one [] q = false
stands_one (class ∷ rest) q = cond (has class q) (stands_once class q && not (stands_in rest q)) (stands_one rest q)

place_cases : (b c : Bool) (n : ℕ) (rest : List (List ℕ)) (q : ℕ) → cond b c (stands_one rest q) ≡ true
    → (stands_one rest q ≡ true → (k : ℕ) × (place_from (suc n) rest q ≡ Some k))
    → (k : ℕ) × (cond b (cond c (Some n) None) (place_from (suc n) rest q) ≡ Some k)
place_cases true true n rest q e more = (n, refl)
place_cases true false n rest q e more = absurd (false≢true e)
place_cases false c n rest q e more = more e

pub place_one : (n : ℕ) (classes : List (List ℕ)) (q : ℕ) → stands_one classes q ≡ true → (k : ℕ) × (place_from n classes q ≡ Some k)
place_one n [] q h = absurd (false≢true h)
place_one n (class ∷ rest) q h = place_cases (has class q) (stands_once class q && not (stands_in rest q)) n rest q h
    (λ e. place_one (suc n) rest q e)

-- the classes: rules of one reach each other, and no rule of a later one reaches one of an earlier
abbrev pub Mutual : List PathRule → List ℕ → Type 0
Mutual rules class = (p q : ℕ) → has class p ≡ true → has class q ≡ true → Reaches rules p q

abbrev pub Apart : List PathRule → List ℕ → List (List ℕ) → Type 0
Apart rules class rest = (p q : ℕ) → has class p ≡ true → stands_in rest q ≡ true → Reaches rules q p → ⊥

abbrev pub Good : List PathRule → List (List ℕ) → Type 0
Good rules [] = Unit {0}
Good rules (class ∷ rest) = (has class (head_of class) ≡ true) × Mutual rules class × Apart rules class rest × Good rules rest

-- the table tells what is so below `end`
pub record Told (rules : List PathRule) (table : List (List Bool)) (end : ℕ) : Type 0 where
  pub sound : (p q : ℕ) → p < end → tells table p q ≡ true → Reaches rules p q
  pub complete : (p q : ℕ) → p < end → q < end → tells table p q ≡ false → Reaches rules p q → ⊥

abbrev pub AllLow : ℕ → List (List ℕ) → Type 0
AllLow end classes = (q : ℕ) → stands_in classes q ≡ true → q < end

stands_cases : (class : List ℕ) (rest : List (List ℕ)) (q : ℕ) → stands_in (class ∷ rest) q ≡ true
    → (has class q ≡ true) ⊎ (stands_in rest q ≡ true)
stands_cases class rest q h = or_cases (has class q) (stands_in rest q) h

-- who stands in the classes after a rule came in
inserted_cases : (b c : Bool) (table : List (List Bool)) (rule q : ℕ) (class : List ℕ) (rest : List (List ℕ))
    → (stands_in (insert_into table rule rest) q ≡ true → (stands_in rest q ≡ true) ⊎ (rule ≡ q))
    → stands_in (cond b (placed_at c rule class rest) (class ∷ insert_into table rule rest)) q ≡ true
    → (stands_in (class ∷ rest) q ≡ true) ⊎ (rule ≡ q)
inserted_cases true true table rule q class rest later e = elim (or_cases (has (class ++ rule ∷ []) q) (stands_in rest q) e) as
    (λ o. (stands_in (class ∷ rest) q ≡ true) ⊎ (rule ≡ q)) [
      | inl f ↦ elim (has_end class rule q f) as (λ o. (stands_in (class ∷ rest) q ≡ true) ⊎ (rule ≡ q)) [
        | inl g ↦ inl (or_left (has class q) (stands_in rest q) g)
        | inr g ↦ inr g
      ]
      | inr f ↦ inl (or_right (has class q) (stands_in rest q) f)
    ]
inserted_cases true false table rule q class rest later e = elim (or_cases (has (rule ∷ []) q) (stands_in (class ∷ rest) q) e) as
    (λ o. (stands_in (class ∷ rest) q ≡ true) ⊎ (rule ≡ q)) [
      | inl f ↦ elim (has_end [] rule q f) as (λ o. (stands_in (class ∷ rest) q ≡ true) ⊎ (rule ≡ q)) [
        | inl g ↦ absurd (false≢true g)
        | inr g ↦ inr g
      ]
      | inr f ↦ inl f
    ]
inserted_cases false c table rule q class rest later e = elim (or_cases (has class q) (stands_in (insert_into table rule rest) q) e)
    as (λ o. (stands_in (class ∷ rest) q ≡ true) ⊎ (rule ≡ q)) [
      | inl f ↦ inl (or_left (has class q) (stands_in rest q) f)
      | inr f ↦ elim (later f) as (λ o. (stands_in (class ∷ rest) q ≡ true) ⊎ (rule ≡ q)) [
        | inl g ↦ inl (or_right (has class q) (stands_in rest q) g)
        | inr g ↦ inr g
      ]
    ]

inserted_only : (table : List (List Bool)) (rule q : ℕ) (classes : List (List ℕ))
    → stands_in (insert_into table rule classes) q ≡ true → (stands_in classes q ≡ true) ⊎ (rule ≡ q)
inserted_only table rule q [] h = elim (or_cases (has (rule ∷ []) q) false h) as (λ o. (stands_in [] q ≡ true) ⊎ (rule ≡ q)) [
  | inl e ↦ has_end [] rule q e
  | inr e ↦ absurd (false≢true e)
]
inserted_only table rule q (class ∷ rest) h = inserted_cases (tells table rule (head_of class)) (tells table (head_of class) rule)
    table rule q class rest (λ e. inserted_only table rule q rest e) h

pub AllLow_more : (table : List (List Bool)) (rule : ℕ) (classes : List (List ℕ)) → AllLow rule classes
    → AllLow (suc rule) (insert_into table rule classes)
AllLow_more table rule classes low q h = elim (inserted_only table rule q classes h) as (λ o. q < suc rule) [
  | inl e ↦ let l = low q e in omega (arith, l)
  | inr e ↦ omega (arith, e)
]

-- a class in which only the rule stands
pub alone : (rule p : ℕ) → has (rule ∷ []) p ≡ true → rule ≡ p
alone rule p h = elim (has_end [] rule p h) as (λ o. rule ≡ p) [
  | inl e ↦ absurd (false≢true e)
  | inr e ↦ e
]

mutual_alone : (rules : List PathRule) (rule : ℕ) → Mutual rules (rule ∷ [])
mutual_alone rules rule p q h k = subst (λ (x : ℕ). Reaches rules x q) (alone rule p h)
    (subst (λ (y : ℕ). Reaches rules rule y) (alone rule q k) (reach_self rules rule))

head_end : (class : List ℕ) (rule : ℕ) → has class (head_of class) ≡ true → has (class ++ rule ∷ []) (head_of (class ++ rule ∷ [])) ≡ true
head_end [] rule h = absurd (false≢true h)
head_end (x ∷ rest) rule h = or_left (eqb x x) (has (rest ++ rule ∷ []) x) (eq-eqb x x refl)

-- the rule comes into the first class
each_rule : (rules : List PathRule) (class : List ℕ) (rule q : ℕ) → has class (head_of class) ≡ true → Mutual rules class
    → Reaches rules rule (head_of class) → has (class ++ rule ∷ []) q ≡ true → Reaches rules rule q
each_rule rules class rule q top each to k = elim (has_end class rule q k) as (λ o. Reaches rules rule q) [
  | inl hq ↦ reach_both rules rule (head_of class) q to (each (head_of class) q top hq)
  | inr eq ↦ subst (λ (y : ℕ). Reaches rules rule y) eq (reach_self rules rule)
]

each_back : (rules : List PathRule) (class : List ℕ) (rule p q : ℕ) → has class (head_of class) ≡ true → Mutual rules class
    → Reaches rules (head_of class) rule → has class p ≡ true → has (class ++ rule ∷ []) q ≡ true → Reaches rules p q
each_back rules class rule p q top each back hp k = elim (has_end class rule q k) as (λ o. Reaches rules p q) [
  | inl hq ↦ each p q hp hq
  | inr eq ↦ subst (λ (y : ℕ). Reaches rules p y) eq (reach_both rules p (head_of class) rule (each p (head_of class) hp top) back)
]

mutual_end : (rules : List PathRule) (class : List ℕ) (rule : ℕ) → has class (head_of class) ≡ true → Mutual rules class
    → Reaches rules rule (head_of class) → Reaches rules (head_of class) rule → Mutual rules (class ++ rule ∷ [])
mutual_end rules class rule top each to back p q h k = elim (has_end class rule p h) as (λ o. Reaches rules p q) [
  | inl hp ↦ each_back rules class rule p q top each back hp k
  | inr ep ↦ subst (λ (x : ℕ). Reaches rules x q) ep (each_rule rules class rule q top each to k)
]

apart_end : (rules : List PathRule) (class : List ℕ) (rest : List (List ℕ)) (rule : ℕ) → has class (head_of class) ≡ true
    → Apart rules class rest → Reaches rules rule (head_of class) → Apart rules (class ++ rule ∷ []) rest
apart_end rules class rest rule top apart to p q h k r = elim (has_end class rule p h) as (λ o. ⊥) [
  | inl hp ↦ apart p q hp k r
  | inr ep ↦ apart (head_of class) q top k (reach_both rules q rule (head_of class) (subst (λ (x : ℕ). Reaches rules q x) (sym ep) r) to)
]

-- the rule stands before the first class
apart_alone : (rules : List PathRule) (class : List ℕ) (rest : List (List ℕ)) (rule : ℕ) → has class (head_of class) ≡ true
    → Mutual rules class → Apart rules class rest → Reaches rules rule (head_of class) → (Reaches rules (head_of class) rule → ⊥)
    → Apart rules (rule ∷ []) (class ∷ rest)
apart_alone rules class rest rule top each apart to not_back p q h k r =
    let back : Reaches rules q rule = subst (λ (x : ℕ). Reaches rules q x) (sym (alone rule p h)) r in
    elim (stands_cases class rest q k) as (λ o. ⊥) [
      | inl hq ↦ not_back (reach_both rules (head_of class) q rule (each (head_of class) q top hq) back)
      | inr kq ↦ apart (head_of class) q top kq (reach_both rules q rule (head_of class) back to)
    ]

-- the rule goes on to the later classes
apart_later : (rules : List PathRule) (table : List (List Bool)) (class : List ℕ) (rest : List (List ℕ)) (rule : ℕ)
    → has class (head_of class) ≡ true → Mutual rules class → Apart rules class rest → (Reaches rules rule (head_of class) → ⊥)
    → Apart rules class (insert_into table rule rest)
apart_later rules table class rest rule top each apart never p q h k r = elim (inserted_only table rule q rest k) as (λ o. ⊥) [
  | inl e ↦ apart p q h e r
  | inr e ↦ never (reach_both rules rule p (head_of class) (subst (λ (x : ℕ). Reaches rules x p) (sym e) r) (each p (head_of class) h top))
]

low_head : (class : List ℕ) (rest : List (List ℕ)) (end : ℕ) → has class (head_of class) ≡ true → AllLow end (class ∷ rest)
    → head_of class < end
low_head class rest end top low = low (head_of class) (or_left (has class (head_of class)) (stands_in rest (head_of class)) top)

good_cases : (rules : List PathRule) (table : List (List Bool)) (end rule : ℕ) (class : List ℕ) (rest : List (List ℕ)) (b c : Bool)
    → Told rules table end → rule < end → head_of class < end → tells table rule (head_of class) ≡ b
    → tells table (head_of class) rule ≡ c → Good rules (class ∷ rest) → Good rules (insert_into table rule rest)
    → Good rules (cond b (placed_at c rule class rest) (class ∷ insert_into table rule rest))
good_cases rules table end rule class rest true true told in' top e f good more =
    let to = told.sound rule (head_of class) in' e in
    let back = told.sound (head_of class) rule top f in (
      head_end class rule good.0,
      mutual_end rules class rule good.0 good.1 to back,
      apart_end rules class rest rule good.0 good.2
          to,
      good.3,
    )
good_cases rules table end rule class rest true false told in' top e f good more =
    let to = told.sound rule (head_of class) in' e in (
      or_left (eqb rule rule) false (eq-eqb rule rule refl),
      mutual_alone rules rule,
      apart_alone rules class rest rule good.0 good.1
          good.2 to (told.complete (head_of class) rule top in' f),
      good,
    )
good_cases rules table end rule class rest false c told in' top e f good more =
    (good.0, good.1, apart_later rules table class rest rule good.0 good.1 good.2 (told.complete rule (head_of class) in' top e), more)

pub good_more : (rules : List PathRule) (table : List (List Bool)) (end rule : ℕ) (classes : List (List ℕ)) → Told rules table end
    → rule < end → AllLow rule classes → Good rules classes → Good rules (insert_into table rule classes)
good_more rules table end rule [] told in' low good =
    (or_left (eqb rule rule) false (eq-eqb rule rule refl), mutual_alone rules rule, λ p q h k r. false≢true k, tt)
good_more rules table end rule (class ∷ rest) told in' low good =
    let l = low_head class rest rule good.0 low in
    good_cases rules table end rule class rest (tells table rule (head_of class)) (tells table (head_of class) rule) told in'
    (omega (arith, l, in')) refl refl good
    (good_more rules table end rule rest told in' (λ q h. low q (or_right (has class q) (stands_in rest q) h)) good.3)

-- each rule stands once
none_standing : (classes : List (List ℕ)) (rule : ℕ) → AllLow rule classes → stands_in classes rule ≡ false
none_standing classes rule low = false_from_ne_true (stands_in classes rule) (λ e. let l = low rule e in omega (arith, l))

full : (a b c d : Bool) → a ≡ true → b ≡ true → c ≡ false → cond a (b && not c) d ≡ true
full true true false d e f g = refl
full true true true d e f g = absurd (true≢false g)
full true false c d e f g = absurd (false≢true f)
full false b c d e f g = absurd (false≢true e)

skip : (a b c : Bool) → a ≡ false → c ≡ true → cond a b c ≡ true
skip true b c e f = absurd (true≢false e)
skip false b c e f = f

new_cases : (b c : Bool) (table : List (List Bool)) (rule : ℕ) (class : List ℕ) (rest : List (List ℕ)) → has class rule ≡ false
    → stands_in rest rule ≡ false → stands_in (class ∷ rest) rule ≡ false → stands_one (insert_into table rule rest) rule ≡ true
    → stands_one (cond b (placed_at c rule class rest) (class ∷ insert_into table rule rest)) rule ≡ true
new_cases true true table rule class rest e f h later = full (has (class ++ rule ∷ []) rule) (stands_once (class ++ rule ∷ []) rule)
    (stands_in rest rule) (stands_one rest rule) (end_has class rule) (once_end class rule e) f
new_cases true false table rule class rest e f h later = full (has (rule ∷ []) rule) (stands_once (rule ∷ []) rule)
    (stands_in (class ∷ rest) rule) (stands_one (class ∷ rest) rule) (end_has [] rule) (once_end [] rule refl) h
new_cases false c table rule class rest e f h later = skip (has class rule)
    (stands_once class rule && not (stands_in (insert_into table rule rest) rule)) (stands_one (insert_into table rule rest) rule) e later

one_new : (table : List (List Bool)) (rule : ℕ) (classes : List (List ℕ)) → stands_in classes rule ≡ false
    → stands_one (insert_into table rule classes) rule ≡ true
one_new table rule [] h = full (has (rule ∷ []) rule) (stands_once (rule ∷ []) rule) false false (end_has [] rule)
    (once_end [] rule refl) refl
one_new table rule (class ∷ rest) h =
    let parts = or_parts (has class rule) (stands_in rest rule) h in
    new_cases (tells table rule (head_of class)) (tells table (head_of class) rule) table rule class rest parts.0 parts.1 h
    (one_new table rule rest parts.1)

stands_same : (table : List (List Bool)) (rule q : ℕ) (classes : List (List ℕ)) → (rule ≡ q → ⊥) → stands_in classes q ≡ false
    → stands_in (insert_into table rule classes) q ≡ false
stands_same table rule q classes n h = false_from_ne_true (stands_in (insert_into table rule classes) q)
    (λ e. elim (inserted_only table rule q classes e) as (λ o. ⊥) [
      | inl f ↦ both_ways (stands_in classes q) h f
      | inr f ↦ n f
    ])

once_here : (b : Bool) (class : List ℕ) (rest : List (List ℕ)) (q : ℕ) → has class q ≡ b → b ≡ true
    → stands_one (class ∷ rest) q ≡ true → (stands_once class q ≡ true) × (stands_in rest q ≡ false)
once_here true class rest q e f h =
    let whole : (stands_once class q && not (stands_in rest q)) ≡ true = subst
    (λ (b : Bool). cond b (stands_once class q && not (stands_in rest q)) (stands_one rest q) ≡ true) e h in
    let both = and_parts (stands_once class q) (not (stands_in rest q)) whole in
    (both.0, not-true (stands_in rest q) both.1)
once_here false class rest q e f h = absurd (false≢true f)

once_later : (class : List ℕ) (rest : List (List ℕ)) (q : ℕ) → has class q ≡ false → stands_one (class ∷ rest) q ≡ true
    → stands_one rest q ≡ true
once_later class rest q e h = subst (λ (b : Bool). cond b (stands_once class q && not (stands_in rest q)) (stands_one rest q) ≡ true) e h

old_cases : (b c d : Bool) (table : List (List Bool)) (rule q : ℕ) (class : List ℕ) (rest : List (List ℕ)) → has class q ≡ d
    → (rule ≡ q → ⊥) → stands_one (class ∷ rest) q ≡ true
    → (stands_one rest q ≡ true → stands_one (insert_into table rule rest) q ≡ true)
    → stands_one (cond b (placed_at c rule class rest) (class ∷ insert_into table rule rest)) q ≡ true
old_cases true true true table rule q class rest e n h later =
    let once = once_here true class rest q e refl h in
    full (has (class ++ rule ∷ []) q) (stands_once (class ++ rule ∷ []) q) (stands_in rest q) (stands_one rest q)
    (end_has_old class rule q e) (once_end_other class rule q n once.0) once.1
old_cases true true false table rule q class rest e n h later = skip (has (class ++ rule ∷ []) q)
    (stands_once (class ++ rule ∷ []) q && not (stands_in rest q)) (stands_one rest q) (end_other class rule q e n)
    (once_later class rest q e h)
old_cases true false d table rule q class rest e n h later = skip (has (rule ∷ []) q)
    (stands_once (rule ∷ []) q && not (stands_in (class ∷ rest) q)) (stands_one (class ∷ rest) q) (end_other [] rule q refl n) h
old_cases false c true table rule q class rest e n h later =
    let once = once_here true class rest q e refl h in
    full (has class q) (stands_once class q) (stands_in (insert_into table rule rest) q)
    (stands_one (insert_into table rule rest) q) e once.0 (stands_same table rule q rest n once.1)
old_cases false c false table rule q class rest e n h later = skip (has class q)
    (stands_once class q && not (stands_in (insert_into table rule rest) q)) (stands_one (insert_into table rule rest) q) e
    (later (once_later class rest q e h))

one_old : (table : List (List Bool)) (rule q : ℕ) (classes : List (List ℕ)) → (rule ≡ q → ⊥) → stands_one classes q ≡ true
    → stands_one (insert_into table rule classes) q ≡ true
one_old table rule q [] n h = absurd (false≢true h)
one_old table rule q (class ∷ rest) n h = old_cases (tells table rule (head_of class)) (tells table (head_of class) rule)
    (has class q) table rule q class rest refl n h (λ e. one_old table rule q rest n e)

-- all rules below `end`
pub record AreIn (rules : List PathRule) (end : ℕ) (classes : List (List ℕ)) : Type 0 where
  pub low : AllLow end classes
  pub good : Good rules classes
  pub one : (q : ℕ) → q < end → stands_one classes q ≡ true

one_cases : (table : List (List Bool)) (rule q : ℕ) (classes : List (List ℕ)) → AllLow rule classes
    → ((x : ℕ) → x < rule → stands_one classes x ≡ true) → q < suc rule → stands_one (insert_into table rule classes) q ≡ true
one_cases table rule q classes low one in' = elim (cases_eq rule q) as (λ o. stands_one (insert_into table rule classes) q ≡ true) [
  | inl e ↦ subst (λ (x : ℕ). stands_one (insert_into table rule classes) x ≡ true) e
      (one_new table rule classes (none_standing classes rule low))
  | inr n ↦ one_old table rule q classes n (one q (below rule q in' n))
]
  where
    below : (a b : ℕ) → b < suc a → (a ≡ b → ⊥) → b < a
    below a b h n = omega (arith, n)

pub are_more : (rules : List PathRule) (table : List (List Bool)) (end rule : ℕ) (classes : List (List ℕ)) → Told rules table end
    → rule < end → AreIn rules rule classes → AreIn rules (suc rule) (insert_into table rule classes)
are_more rules table end rule classes told in' are = record {
  low = AllLow_more table rule classes are.low;
  good = good_more rules table end rule classes told in' are.low are.good;
  one = λ q h. one_cases table rule q classes are.low are.one h;
}

pub are_all : (rules : List PathRule) (table : List (List Bool)) (end low count : ℕ) (classes : List (List ℕ))
    → Told rules table end → low + count ≡ end → AreIn rules low classes → AreIn rules end (insert_all table low count classes)
are_all rules table end low zero classes told e are = subst (λ (n : ℕ). AreIn rules n classes) (omega (arith, e)) are
are_all rules table end low (suc count) classes told e are = are_all rules table end (suc low) count (insert_into table low classes)
    told (omega (arith, e)) (are_more rules table end low classes told (omega (arith, e)) are)

-- good classes, by their places
good_same : (rules : List PathRule) (classes : List (List ℕ)) (i : ℕ) (class : List ℕ) → Good rules classes
    → slice_get classes i ≡ Some class → Mutual rules class
good_same rules [] i class good e = absurd (cc)
good_same rules (c ∷ rest) zero class good e = let same : c ≡ class = cc in subst (λ (x : List ℕ). Mutual rules x) same good.1
good_same rules (c ∷ rest) (suc i) class good e = good_same rules rest i class good.3 e

some_in : (class : List ℕ) (q : ℕ) → has class q ≡ true → 0 < length class
some_in [] q h = absurd (false≢true h)
some_in (x ∷ rest) q h = omega arith

good_full : (rules : List PathRule) (classes : List (List ℕ)) (i : ℕ) (class : List ℕ) → Good rules classes
    → slice_get classes i ≡ Some class → 0 < length class
good_full rules [] i class good e = absurd (cc)
good_full rules (c ∷ rest) zero class good e = let same : c ≡ class = cc in subst (λ (x : List ℕ). 0 < length x) same
    (some_in c (head_of c) good.0)
good_full rules (c ∷ rest) (suc i) class good e = good_full rules rest i class good.3 e

pub stands_get : (classes : List (List ℕ)) (i q : ℕ) (class : List ℕ) → slice_get classes i ≡ Some class → has class q ≡ true
    → stands_in classes q ≡ true
stands_get [] i q class e h = absurd (cc)
stands_get (c ∷ rest) zero q class e h = let same : c ≡ class = cc in or_left (has c q) (stands_in rest q)
    (subst (λ (x : List ℕ). has x q ≡ true) (sym same) h)
stands_get (c ∷ rest) (suc i) q class e h = or_right (has c q) (stands_in rest q) (stands_get rest i q class e h)

good_apart : (rules : List PathRule) (classes : List (List ℕ)) (i j p q : ℕ) (one other : List ℕ) → Good rules classes → i < j
    → slice_get classes i ≡ Some one → slice_get classes j ≡ Some other → has one p ≡ true → has other q ≡ true → Reaches rules q p → ⊥
good_apart rules [] i j p q one other good lt e f h k r = absurd (none_is e)
  where
    none_is : ◌≡◌ {A = Option (List ℕ)} None (Some one) → ⊥
    none_is x = absurd (cc)
good_apart rules (c ∷ rest) zero zero p q one other good lt e f h k r = absurd (omega arith)
good_apart rules (c ∷ rest) zero (suc j) p q one other good lt e f h k r =
    let same : c ≡ one = cc in
    good.2 p q (subst (λ (x : List ℕ). has x p ≡ true) (sym same) h) (stands_get rest j q other f k) r
good_apart rules (c ∷ rest) (suc i) zero p q one other good lt e f h k r = absurd (omega arith)
good_apart rules (c ∷ rest) (suc i) (suc j) p q one other good lt e f h k r = good_apart rules rest i j p q one other good.3
    (omega (arith, lt)) e f h k r

same_part : (classes : List (List ℕ)) (i j : ℕ) (one other : List ℕ) → slice_get classes i ≡ Some one
    → slice_get classes j ≡ Some other → i ≡ j → one ≡ other
same_part classes i j one other e f same = some_same one other (sym e ∙ ap (slice_get classes) same ∙ f)
  where
    some_same : (a b : List ℕ) → ◌≡◌ {A = Option (List ℕ)} (Some a) (Some b) → a ≡ b
    some_same a b x = cc

pub classes_are : (rules : List PathRule) (classes : List (List ℕ)) → AreIn rules (length rules) classes → AreClasses rules classes
classes_are rules classes are = record {
  each = λ rule low. place_one 0 classes rule (are.one rule low);
  only = λ rule h. are.low rule h;
  full = λ n class e. good_full rules classes n class are.good e;
  joined = λ rule other n e f. together rule other n (placed 0 classes rule n e) (placed 0 classes other n f);
  forward = λ rule next n m h e f. ordered rule next n m h (placed 0 classes rule n e) (placed 0 classes next m f);
}
  where
    together : (rule other n : ℕ) → IsPlaced 0 classes rule n → IsPlaced 0 classes other n → Reaches rules rule other
    together rule other n a b =
        let same = same_part classes a.index b.index a.part b.part a.is b.is (omega (arith, a.at, b.at)) in
        good_same rules classes b.index b.part are.good b.is rule other (subst (λ (x : List ℕ). has x rule ≡ true) same a.stands) b.stands

    ordered : (rule next n m : ℕ) → is_followed rules rule next ≡ true → IsPlaced 0 classes rule n → IsPlaced 0 classes next m → n ≤ m
    ordered rule next n m h a b = elim (cases_lt m n) as (λ o. n ≤ m) [
      | inl lt ↦ absurd (good_apart rules classes b.index a.index next rule b.part a.part are.good (omega (arith, a.at, b.at, lt))
          b.is a.is b.stands a.stands (reach_next rules rule next h))
      | inr le ↦ le
    ]

none_in : (rules : List PathRule) → AreIn rules 0 []
none_in rules = record { low = λ q h. absurd (false≢true h); good = tt; one = λ q h. absurd (omega arith) }

table_tells : (rules : List PathRule) (table : List (List Bool)) → IsTable rules table → Told rules table (length rules)
table_tells rules table is = record {
  sound = λ p q in' e. (is.rows p in').sound q e;
  complete = λ p q in' low e r. both_ways (tells table p q) e ((is.rows p in').complete q low r);
}

-- all rules put in, one after another
pub inserted_are : (rules : List PathRule) (table : List (List Bool)) → IsTable rules table
    → AreClasses rules (insert_all table 0 (length rules) [])
inserted_are rules table is = classes_are rules (insert_all table 0 (length rules) [])
    (are_all rules table (length rules) 0 (length rules) [] (table_tells rules table is) (omega arith) (none_in rules))

-- where a rule is put in
below_both : (m n : ℕ) → nat_lt m n ≡ nat_lt (suc m) (suc n)
below_both m n = grind (arith, nat_tests)

put_later : (told : Bool) (rule n : ℕ) (class : List ℕ) (rest : List (List ℕ))
    → class ∷ put_at told rule n rest ≡ put_at told rule (suc n) (class ∷ rest)
put_later true rule n class rest = refl
put_later false rule n class rest = refl

put_back : (c : Bool) (rule : ℕ) (class : List ℕ) (rest : List (List ℕ)) → placed_at c rule class rest ≡ put_at c rule 0 (class ∷ rest)
put_back true rule class rest = refl
put_back false rule class rest = refl

put_cases : (b : Bool) (table : List (List Bool)) (rule : ℕ) (class : List ℕ) (rest : List (List ℕ))
    → insert_into table rule rest ≡ put_at (joins table rule rest (first_at table rule rest)) rule (first_at table rule rest) rest
    → cond b (placed_at (tells table (head_of class) rule) rule class rest) (class ∷ insert_into table rule rest) ≡ put_at
    (joins table rule (class ∷ rest) (cond b 0 (suc (first_at table rule rest)))) rule (cond b 0 (suc (first_at table rule rest)))
    (class ∷ rest)
put_cases true table rule class rest more =
    let some : nat_lt 0 (length (class ∷ rest)) ≡ true = lt-ltb 0 (length (class ∷ rest)) (omega arith) in
    put_back (tells table (head_of class) rule) rule class rest
    ∙ ap (λ (t : Bool). put_at (t && tells table (head_of class) rule) rule 0 (class ∷ rest)) (sym some)
put_cases false table rule class rest more = ap (λ (l : List (List ℕ)). class ∷ l) more
    ∙ put_later (joins table rule rest (first_at table rule rest)) rule (first_at table rule rest) class rest
    ∙ ap (λ (t : Bool). put_at (t && tells table (head_of (get_or rest (first_at table rule rest) [])) rule) rule
    (suc (first_at table rule rest)) (class ∷ rest)) (below_both (first_at table rule rest) (length rest))

pub put_is : (table : List (List Bool)) (rule : ℕ) (classes : List (List ℕ))
    → insert_into table rule classes ≡ put_at (joins table rule classes (first_at table rule classes)) rule
    (first_at table rule classes) classes
put_is table rule [] = refl
put_is table rule (class ∷ rest) = put_cases (tells table rule (head_of class)) table rule class rest (put_is table rule rest)

pub put_told : (table : List (List Bool)) (rule n : ℕ) (told : Bool) (classes : List (List ℕ)) → n ≡ first_at table rule classes
    → told ≡ joins table rule classes n → put_at told rule n classes ≡ insert_into table rule classes
put_told table rule n told classes e f = ap (λ (t : Bool). put_at t rule n classes) f
    ∙ ap (λ (k : ℕ). put_at (joins table rule classes k) rule k classes) e ∙ sym (put_is table rule classes)

pub insert_more : (table : List (List Bool)) (rule end : ℕ) (old new all : List (List ℕ)) → rule < end
    → new ≡ insert_into table rule old → insert_all table rule (end - rule) old ≡ all
    → insert_all table (rule + 1) (end - (rule + 1)) new ≡ all
insert_more table rule end old new all lt e h =
    let s : suc (end - (rule + 1)) ≡ end - rule = omega arith in
    ap (insert_all table (rule + 1) (end - (rule + 1))) e
    ∙ ap (λ (n : ℕ). insert_all table n (end - (rule + 1)) (insert_into table rule old)) (add-one rule)
    ∙ ap (λ (k : ℕ). insert_all table rule k old) s ∙ h

-- the table, row after row
pub record IsTabled (rules : List PathRule) (table : List (List Bool)) (n : ℕ) : Type 0 where
  pub count : length table ≡ n
  pub rows : (p : ℕ) → p < n → IsRow rules p (get_or table p [])

pub tabled_first : (rules : List PathRule) (table : List (List Bool)) → table ≡ [] → IsTabled rules table 0
tabled_first rules table e = record { count = ap length e; rows = λ p low. absurd (omega (arith, low)) }

pub tabled_more : (rules : List PathRule) (table new : List (List Bool)) (row : List Bool) (n : ℕ) → new ≡ table ++ row ∷ []
    → IsTabled rules table n → IsRow rules n row → IsTabled rules new (n + 1)
tabled_more rules table new row n e h is = record {
  count = let c : length new ≡ length table + 1 = ap length e ∙ length-append table (row ∷ []) in omega (arith, c, h.count);
  rows = λ p low. subst (λ (l : List (List Bool)). IsRow rules p (get_or l p [])) (sym e)
      (elim (cases_eq p n) as (λ o. IsRow rules p (get_or (table ++ row ∷ []) p [])) [
        | inl s ↦ subst (λ (x : List Bool). IsRow rules p x) (sym (get_or_at table row [] [] p (h.count ∙ sym s)))
            (subst (λ (x : ℕ). IsRow rules x row) (sym s) is)
        | inr d ↦ subst (λ (x : List Bool). IsRow rules p x)
            (sym (get_or_append_left table (row ∷ []) [] p (let b = before p n low d in omega (arith, b, h.count))))
            (h.rows p (before p n low d))
      ]);
}
  where
    before : (a b : ℕ) → a < b + 1 → (a ≡ b → ⊥) → a < b
    before a b h n = omega (arith, n)

pub tabled_last : (rules : List PathRule) (table : List (List Bool)) (n : ℕ) → n ≡ length rules → IsTabled rules table n
    → IsTable rules table
tabled_last rules table n e h = record { count = h.count ∙ e; rows = λ p low. h.rows p (omega (arith, low, e)) }

pub if_ok_then : (A E : Type 0) (r : Result A E) (P Q : A → Type 0) → IfOk r P → ((x : A) → P x → Q x) → IfOk r Q
if_ok_then A E (Ok x) P Q h f = f x h
if_ok_then A E (Err e) P Q h f = tt

pub on_ok_then : (A E : Type 0) (r : Result A E) (P Q : Type 0) → OnOk r P → (P → Q) → OnOk r Q
on_ok_then A E (Ok x) P Q h f = f h
on_ok_then A E (Err e) P Q h f = tt

pub table_classes : (rules : List PathRule) (table seen : List (List Bool)) (classes : List (List ℕ)) → seen ≡ table
    → IsTable rules table → classes ≡ insert_all seen 0 (length seen) [] → AreClasses rules classes
table_classes rules table seen classes s is e = subst (λ (l : List (List ℕ)). AreClasses rules l)
    (sym (e ∙ ap (λ (t : List (List Bool)). insert_all t 0 (length t) []) s ∙ ap (λ (n : ℕ). insert_all table 0 n []) is.count))
    (inserted_are rules table is)
