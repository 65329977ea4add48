-- Marking comes to the end with exactly the rules marked that are reached.
use Rattle.std.proofs.Common.{◌≡◌, ◌⊎◌, inl, inr, ℕ, zero, suc, ◌+◌, ◌<◌, Bool, true, false, cond, eqb, List, [], ◌∷◌, ◌++◌, length}
use Rattle.std.proofs.Common.{get_or, set, replicate, Option, Some, None, subst, ap, arith, refl, ◌∙◌, sym, length-append}
use Rattle.std.specs.Prelude.{◌&&◌, not, nat_lt, slice_get}
use Rattle.std.proofs.Math.ListN.{length-set}
use Rattle.std.proofs.lemmas.Bool.{false≢true, true≢false, eqb-true, eq-eqb, or_left, or_right, or_cases, cases_eq, cases_lt}
use Rattle.std.proofs.lemmas.Bool.{ltb-true, lt-ltb}
use Rattle.std.proofs.lemmas.List.{get_or-set_same, get_or-set_other, get_or_past, length-replicate}
use Rattle.std.proofs.lemmas.List.Sums.{sum_by-set}
use Rattle.std.proofs.lemmas.Option.{slice_get_within, same_Some}
use Rattle.list_views.proofs.Marks.{none_marked, mark_keeps}
use Rattle.descent.specs.declared.rules.PathRule.{PathRule}
use Rattle.descent.specs.Components.{IsWay, Reaches}
use Rattle.descent.specs.inner.Inserting.{IsRow}
use Rattle.descent.specs.Splits.{has, meet_at, is_followed}
use Rattle.list_views.specs.Lists.{open_count}
use Rattle.descent.specs.inner.Spreading.{first_from, all_from, next_of, is_at, group_at, groups_of, Noted, Front, noted, spread}
use Rattle.descent.proofs.Classes.{reach_both, reach_self, reach_next, has_end, end_has_old, end_has, alone}

set_sound : (marks : List Bool) (b x : ℕ) → get_or (set marks b true) x false ≡ true → (get_or marks x false ≡ true) ⊎ (b ≡ x)
set_sound marks b x e = elim (cases_eq x b) as (λ o. (get_or marks x false ≡ true) ⊎ (b ≡ x)) [
  | inl s ↦ inr (sym s)
  | inr d ↦ inl (sym (get_or-set_other marks b x true false d) ∙ e)
]

-- the first of the rules that start at a cut
record IsFirst (cut n first : ℕ) (rules : List PathRule) : Type 0 where
  pub index : ℕ
  pub taken : PathRule
  pub at : first ≡ n + index
  pub is : slice_get rules index ≡ Some taken
  pub starts : taken.from ≡ cut

first_cases : (here : Bool) (cut n first : ℕ) (rule : PathRule) (rest : List PathRule) → eqb rule.from cut ≡ here
    → cond here (Some n) (first_from cut (suc n) rest) ≡ Some first
    → (first_from cut (suc n) rest ≡ Some first → IsFirst cut (suc n) first rest) → IsFirst cut n first (rule ∷ rest)
first_cases true cut n first rule rest h e more =
    let same = same_Some n first e in
    record { index = 0; taken = rule; at = omega (arith, same); is = refl; starts = eqb-true rule.from cut h }
first_cases false cut n first rule rest h e more =
    let m = more e in
    record { index = suc m.index; taken = m.taken; at = omega (arith, m.at); is = m.is; starts = m.starts }

first_is : (cut n first : ℕ) (rules : List PathRule) → first_from cut n rules ≡ Some first → IsFirst cut n first rules
first_is cut n first [] e = absurd (cc)
first_is cut n first (rule ∷ rest) e = first_cases (eqb rule.from cut) cut n first rule rest refl e
    (λ h. first_is cut (suc n) first rest h)

found_cases : (here : Bool) (cut n : ℕ) (rest : List PathRule)
    → (here ≡ false → (first : ℕ) × (first_from cut (suc n) rest ≡ Some first))
    → (first : ℕ) × (cond here (Some n) (first_from cut (suc n) rest) ≡ Some first)
found_cases true cut n rest more = (n, refl)
found_cases false cut n rest more = more refl

first_found : (cut n q : ℕ) (rules : List PathRule) (rule : PathRule) → slice_get rules q ≡ Some rule → rule.from ≡ cut
    → (first : ℕ) × (first_from cut n rules ≡ Some first)
first_found cut n q [] rule is at = absurd (cc)
first_found cut n zero (r ∷ rest) rule is at =
    let here : eqb r.from cut ≡ true = eq-eqb r.from cut (ap (λ (x : PathRule). x.from) (same_Some r rule is) ∙ at) in
    found_cases (eqb r.from cut) cut n rest (λ f. absurd (true≢false (sym here ∙ f)))
first_found cut n (suc q) (r ∷ rest) rule is at = found_cases (eqb r.from cut) cut n rest (λ f. first_found cut (suc n) q rest rule is at)

-- all rules that start at a cut
record IsFrom (cut n q : ℕ) (rules : List PathRule) : Type 0 where
  pub index : ℕ
  pub taken : PathRule
  pub at : q ≡ n + index
  pub is : slice_get rules index ≡ Some taken
  pub starts : taken.from ≡ cut

from_later : (cut n q : ℕ) (rule : PathRule) (rest : List PathRule) → IsFrom cut (suc n) q rest → IsFrom cut n q (rule ∷ rest)
from_later cut n q rule rest m = record { index = suc m.index; taken = m.taken; at = omega (arith, m.at); is = m.is; starts = m.starts }

from_cases : (here : Bool) (cut n q : ℕ) (rule : PathRule) (rest : List PathRule) → eqb rule.from cut ≡ here
    → has (cond here (n ∷ all_from cut (suc n) rest) (all_from cut (suc n) rest)) q ≡ true
    → (has (all_from cut (suc n) rest) q ≡ true → IsFrom cut (suc n) q rest) → IsFrom cut n q (rule ∷ rest)
from_cases true cut n q rule rest h e more = elim (or_cases (eqb n q) (has (all_from cut (suc n) rest) q) e) as
    (λ o. IsFrom cut n q (rule ∷ rest)) [
      | inl s ↦ let same = eqb-true n q s in record {
        index = 0;
        taken = rule;
        at = omega (arith, same);
        is = refl;
        starts = eqb-true
            rule.from cut h;
      }
      | inr r ↦ from_later cut n q rule rest (more r)
    ]
from_cases false cut n q rule rest h e more = from_later cut n q rule rest (more e)

from_is : (cut n q : ℕ) (rules : List PathRule) → has (all_from cut n rules) q ≡ true → IsFrom cut n q rules
from_is cut n q [] e = absurd (false≢true e)
from_is cut n q (rule ∷ rest) e = from_cases (eqb rule.from cut) cut n q rule rest refl e (λ h. from_is cut (suc n) q rest h)

from_here : (here : Bool) (cut n q : ℕ) (rest : List PathRule) → here ≡ true → n ≡ q
    → has (cond here (n ∷ all_from cut (suc n) rest) (all_from cut (suc n) rest)) q ≡ true
from_here true cut n q rest h e = or_left (eqb n q) (has (all_from cut (suc n) rest) q) (eq-eqb n q e)
from_here false cut n q rest h e = absurd (false≢true h)

from_there : (here : Bool) (cut n q : ℕ) (rest : List PathRule) → has (all_from cut (suc n) rest) q ≡ true
    → has (cond here (n ∷ all_from cut (suc n) rest) (all_from cut (suc n) rest)) q ≡ true
from_there true cut n q rest h = or_right (eqb n q) (has (all_from cut (suc n) rest) q) h
from_there false cut n q rest h = h

from_all : (cut n k q : ℕ) (rules : List PathRule) (rule : PathRule) → slice_get rules k ≡ Some rule → rule.from ≡ cut → q ≡ n + k
    → has (all_from cut n rules) q ≡ true
from_all cut n k q [] rule is at e = absurd (cc)
from_all cut n zero q (r ∷ rest) rule is at e = from_here (eqb r.from cut) cut n q rest
    (eq-eqb r.from cut (ap (λ (x : PathRule). x.from) (same_Some r rule is) ∙ at)) (omega (arith, e))
from_all cut n (suc k) q (r ∷ rest) rule is at e = from_there (eqb r.from cut) cut n q rest
    (from_all cut (suc n) k q rest rule is at (omega (arith, e)))

-- the index of groups
next_at : (rules list : List PathRule) (p : ℕ) (rule : PathRule) → slice_get list p ≡ Some rule
    → get_or (next_of rules list) p None ≡ first_from rule.to 0 rules
next_at rules [] p rule is = absurd (cc)
next_at rules (r ∷ rest) zero rule is = ap (λ (x : PathRule). first_from x.to 0 rules) (same_Some r rule is)
next_at rules (r ∷ rest) (suc p) rule is = next_at rules rest p rule is

next_past : (rules list : List PathRule) (p : ℕ) → slice_get list p ≡ None → get_or (next_of rules list) p None ≡ None
next_past rules [] p is = refl
next_past rules (r ∷ rest) zero is = absurd (cc)
next_past rules (r ∷ rest) (suc p) is = next_past rules rest p is

group_in : (rules list : List PathRule) (n g : ℕ) (rule : PathRule) → slice_get list g ≡ Some rule
    → get_or (groups_of rules n list) g [] ≡ group_at rules (n + g) rule
group_in rules [] n g rule is = absurd (cc)
group_in rules (r ∷ rest) n zero rule is = ap (λ (x : PathRule). group_at rules n x) (same_Some r rule is)
    ∙ ap (λ (k : ℕ). group_at rules k rule) (plus_zero n)
  where
    plus_zero : (a : ℕ) → a ≡ a + 0
    plus_zero a = omega arith
group_in rules (r ∷ rest) n (suc g) rule is = group_in rules rest (suc n) g rule is ∙ ap (λ (k : ℕ). group_at rules k rule) (shift n g)
  where
    shift : (a b : ℕ) → suc a + b ≡ a + suc b
    shift a b = omega arith

group_first : (rules : List PathRule) (first : ℕ) (rule : PathRule) → first_from rule.from 0 rules ≡ Some first
    → group_at rules first rule ≡ all_from rule.from 0 rules
group_first rules first rule e = subst (λ (o : Option ℕ). cond (is_at first o) (all_from rule.from 0 rules) [] ≡ all_from
    rule.from 0 rules) (sym e) (subst (λ (b : Bool). cond b (all_from rule.from 0 rules) [] ≡ all_from rule.from 0 rules)
    (sym (eq-eqb first first refl)) refl)

-- a rule's group holds exactly the rules that follow it
pub record IsIndex (rules : List PathRule) (next : List (Option ℕ)) (groups : List (List ℕ)) : Type 0 where
  pub sound : (p g q : ℕ) → get_or next p None ≡ Some g → has (get_or groups g []) q ≡ true → is_followed rules p q ≡ true
  pub complete : (p q : ℕ) → is_followed rules p q ≡ true → (g : ℕ) × (get_or next p None ≡ Some g) × (has (get_or groups g []) q ≡ true)
  pub low : (p g : ℕ) → get_or next p None ≡ Some g → g < length rules
  pub inside : (p g q : ℕ) → get_or next p None ≡ Some g → has (get_or groups g []) q ≡ true → q < length rules

-- the group of a rule's end
record IsGroup (rules : List PathRule) (next : List (Option ℕ)) (groups : List (List ℕ)) (p g : ℕ) : Type 0 where
  pub rule : PathRule
  pub is : slice_get rules p ≡ Some rule
  pub low : g < length rules
  pub group : get_or groups g [] ≡ all_from rule.to 0 rules

group_cases : (rules : List PathRule) (p g : ℕ) (found : Option PathRule) → slice_get rules p ≡ found
    → get_or (next_of rules rules) p None ≡ Some g → IsGroup rules (next_of rules rules) (groups_of rules 0 rules) p g
group_cases rules p g None is e = absurd (none_some (sym (next_past rules rules p is) ∙ e))
  where
    none_some : ◌≡◌ {A = Option ℕ} None (Some g) → ⊥
    none_some h = absurd (cc)
group_cases rules p g (Some rule) is e =
    let first : first_from rule.to 0 rules ≡ Some g = sym (next_at rules rules p rule is) ∙ e in
    let f = first_is rule.to 0 g rules first in
    let index : f.index ≡ g = omega (arith, f.at) in
    let at : slice_get rules g ≡ Some f.taken = ap (slice_get rules) (sym index) ∙ f.is in
    record {
      rule = rule;
      is = is;
      low = slice_get_within rules g f.taken at;
      group = group_in rules rules 0 g f.taken at ∙ ap (λ (k : ℕ). group_at rules k f.taken) (zero_plus g)
          ∙ group_first rules g f.taken (ap (λ (c : ℕ). first_from c 0 rules) f.starts ∙ first)
          ∙ ap (λ (c : ℕ). all_from c 0 rules) f.starts;
    }
  where
    zero_plus : (a : ℕ) → 0 + a ≡ a
    zero_plus a = omega arith

group_is : (rules : List PathRule) (p g : ℕ) → get_or (next_of rules rules) p None ≡ Some g
    → IsGroup rules (next_of rules rules) (groups_of rules 0 rules) p g
group_is rules p g e = group_cases rules p g (slice_get rules p) refl e

followed_by : (rules : List PathRule) (p q : ℕ) (rule other : PathRule) → slice_get rules p ≡ Some rule
    → slice_get rules q ≡ Some other → other.from ≡ rule.to → is_followed rules p q ≡ true
followed_by rules p q rule other is at e = ap (λ (o : Option PathRule). meet_at o (slice_get rules q)) is
    ∙ ap (meet_at (Some rule)) at ∙ eq-eqb rule.to other.from (sym e)

complete_cases : (rules : List PathRule) (p q : ℕ) (one other : Option PathRule) → slice_get rules p ≡ one
    → slice_get rules q ≡ other → meet_at one other ≡ true → (g : ℕ) × (get_or (next_of rules rules) p None ≡ Some g)
    × (has (get_or (groups_of rules 0 rules) g []) q ≡ true)
complete_cases rules p q None other is at m = absurd (false≢true m)
complete_cases rules p q (Some a) None is at m = absurd (false≢true m)
complete_cases rules p q (Some a) (Some b) is at m =
    let same : b.from ≡ a.to = sym (eqb-true a.to b.from m) in
    let f = first_found a.to 0 q rules b at same in
    let e : get_or (next_of rules rules) p None ≡ Some f.0 = next_at rules rules p a is ∙ f.1 in
    let g = group_is rules p f.0 e in
    let rule : g.rule ≡ a = same_Some g.rule a (sym g.is ∙ is) in (
      f.0,
      e,
      ap (λ (l : List ℕ). has l q) (g.group ∙ ap (λ (r : PathRule). all_from r.to 0 rules) rule)
          ∙ from_all a.to 0 q q rules b at same (omega arith),
    )

pub index_is : (rules : List PathRule) → IsIndex rules (next_of rules rules) (groups_of rules 0 rules)
index_is rules = record {
  sound = λ p g q e h.
      let i = group_is rules p g e in
      let f = from_is i.rule.to 0 q rules (sym (ap (λ (l : List ℕ). has l q) i.group) ∙ h) in
      let index : f.index ≡ q = omega (arith, f.at) in
      followed_by rules p q i.rule f.taken i.is (ap (slice_get rules) (sym index) ∙ f.is) f.starts;
  complete = λ p q h. complete_cases rules p q (slice_get rules p) (slice_get rules q) refl refl h;
  low = λ p g e. (group_is rules p g e).low;
  inside = λ p g q e h.
      let i = group_is rules p g e in
      let f = from_is i.rule.to 0 q rules (sym (ap (λ (l : List ℕ). has l q) i.group) ∙ h) in
      let low = slice_get_within rules f.index f.taken f.is in
      omega (arith, low, f.at);
}

-- a group that is noted
record IsNoted (group : Option ℕ) (old new : Noted) : Type 0 where
  pub count : length new.0 ≡ length old.0
  pub kept : (g : ℕ) → get_or old.0 g false ≡ true → get_or new.0 g false ≡ true
  pub fresh : (g : ℕ) → get_or new.0 g false ≡ true → (get_or old.0 g false ≡ true) ⊎ (has new.1 g ≡ true)
  pub todo : (g : ℕ) → has old.1 g ≡ true → has new.1 g ≡ true
  pub more : (g : ℕ) → has new.1 g ≡ true → (has old.1 g ≡ true) ⊎ (group ≡ Some g)
  pub here : (g : ℕ) → group ≡ Some g → g < length old.0 → get_or new.0 g false ≡ true
  pub work : open_count new.0 + length new.1 ≡ open_count old.0 + length old.1

same_notes : (group : Option ℕ) (old : Noted) → ((g : ℕ) → group ≡ Some g → g < length old.0 → get_or old.0 g false ≡ true)
    → IsNoted group old old
same_notes group old here = record {
  count = refl;
  kept = λ g e. e;
  fresh = λ g e. inl e;
  todo = λ g e. e;
  more = λ g e. inl e;
  here = here;
  work = refl;
}

new_notes : (group : ℕ) (old : Noted) → group < length old.0 → get_or old.0 group false ≡ false
    → IsNoted (Some group) old (set old.0 group true, old.1 ++ group ∷ [])
new_notes group old low off = record {
  count = length-set old.0 group true;
  kept = λ g e. mark_keeps old.0 group g e;
  fresh = λ g e. elim (set_sound old.0 group g e) as (λ o. (get_or old.0 g false ≡ true) ⊎ (has (old.1 ++ group ∷ []) g ≡ true)) [
    | inl was ↦ inl was
    | inr s ↦ inr (subst (λ (x : ℕ). has (old.1 ++ group ∷ []) x ≡ true) s (end_has old.1 group))
  ];
  todo = λ g e. end_has_old old.1 group g e;
  more = λ g e. elim (has_end old.1 group g e) as (λ o. (has old.1 g ≡ true) ⊎ (Some group ≡ Some g)) [
    | inl was ↦ inl was
    | inr s ↦ inr (ap Some s)
  ];
  here = λ g e l. subst (λ (x : ℕ). get_or (set old.0 group true) x false ≡ true) (same_Some group g e)
      (get_or-set_same old.0 group true false low);
  work =
      let s = sum_by-set (λ (m : Bool). cond m 0 1) old.0 group true false low in
      let t = rw off at s in
      omega (arith, t, length-append old.1 (group ∷ []));
}

noted_cases : (low seen : Bool) (group : ℕ) (old : Noted) → nat_lt group (length old.0) ≡ low → get_or old.0 group false ≡ seen
    → IsNoted (Some group) old (cond {A = Noted} (low && not seen) (set old.0 group true, old.1 ++ group ∷ []) old)
noted_cases false seen group old l s = same_notes (Some group) old
    (λ g e low. absurd (false≢true
    (sym l ∙ lt-ltb group (length old.0) (subst (λ (x : ℕ). x < length old.0) (sym (same_Some group g e)) low))))
noted_cases true true group old l s = same_notes (Some group) old
    (λ g e low. subst (λ (x : ℕ). get_or old.0 x false ≡ true) (same_Some group g e) s)
noted_cases true false group old l s = new_notes group old (ltb-true group (length old.0) l) s

noted_is : (group : Option ℕ) (old : Noted) → IsNoted group old (noted group old)
noted_is None old = same_notes None old (λ g e low. absurd (none_some g e))
  where
    none_some : (g : ℕ) → ◌≡◌ {A = Option ℕ} None (Some g) → ⊥
    none_some g h = absurd (cc)
noted_is (Some group) old = noted_cases (nat_lt group (length old.0)) (get_or old.0 group false) group old refl refl

-- a group whose rules are marked
pub record IsSpread (next : List (Option ℕ)) (group : List ℕ) (old new : Front) : Type 0 where
  pub count : length new.0 ≡ length old.0
  pub seen_count : length new.1.0 ≡ length old.1.0
  pub sound : (q : ℕ) → get_or new.0 q false ≡ true → (get_or old.0 q false ≡ true) ⊎ (has group q ≡ true)
  pub kept : (q : ℕ) → get_or old.0 q false ≡ true → get_or new.0 q false ≡ true
  pub all : (q : ℕ) → has group q ≡ true → q < length old.0 → get_or new.0 q false ≡ true
  pub seen_kept : (g : ℕ) → get_or old.1.0 g false ≡ true → get_or new.1.0 g false ≡ true
  pub seen_new : (g : ℕ) → get_or new.1.0 g false ≡ true → (get_or old.1.0 g false ≡ true) ⊎ (has new.1.1 g ≡ true)
  pub todo_kept : (g : ℕ) → has old.1.1 g ≡ true → has new.1.1 g ≡ true
  pub todo_new : (g : ℕ) → has new.1.1 g ≡ true → (has old.1.1 g ≡ true) ⊎ ((q : ℕ) × (has group q ≡ true) × (get_or next q None ≡ Some g))
  pub goes : (q g : ℕ) → has group q ≡ true → get_or next q None ≡ Some g → g < length old.1.0 → get_or new.1.0 g false ≡ true
  pub work : open_count new.1.0 + length new.1.1 ≡ open_count old.1.0 + length old.1.1

spread_more : (next : List (Option ℕ)) (r : ℕ) (rest : List ℕ) (old new : Front)
    → IsNoted (get_or next r None) old.1 (noted (get_or next r None) old.1)
    → IsSpread next rest (set old.0 r true, noted (get_or next r None) old.1) new → IsSpread next (r ∷ rest) old new
spread_more next r rest old new one more = record {
  count = more.count ∙ length-set old.0 r true;
  seen_count = more.seen_count ∙ one.count;
  sound = λ q e. elim (more.sound q e) as (λ o. (get_or old.0 q false ≡ true) ⊎ (has (r ∷ rest) q ≡ true)) [
    | inl m ↦ elim (set_sound old.0 r q m) as (λ o. (get_or old.0 q false ≡ true) ⊎ (has (r ∷ rest) q ≡ true)) [
      | inl was ↦ inl was
      | inr s ↦ inr (or_left (eqb r q) (has rest q) (eq-eqb r q s))
    ]
    | inr h ↦ inr (or_right (eqb r q) (has rest q) h)
  ];
  kept = λ q e. more.kept q (mark_keeps old.0 r q e);
  all = λ q h low. elim (or_cases (eqb r q) (has rest q) h) as (λ o. get_or new.0 q false ≡ true) [
    | inl s ↦
        let same = eqb-true r q s in
        more.kept q (subst (λ (x : ℕ). get_or (set old.0 r true) x false ≡ true) same
        (get_or-set_same old.0 r true false (subst (λ (x : ℕ). x < length old.0) (sym same) low)))
    | inr k ↦ more.all q k (subst (λ (n : ℕ). q < n) (sym (length-set old.0 r true)) low)
  ];
  seen_kept = λ g e. more.seen_kept g (one.kept g e);
  seen_new = λ g e. elim (more.seen_new g e) as (λ o. (get_or old.1.0 g false ≡ true) ⊎ (has new.1.1 g ≡ true)) [
    | inl m ↦ elim (one.fresh g m) as (λ o. (get_or old.1.0 g false ≡ true) ⊎ (has new.1.1 g ≡ true)) [
      | inl was ↦ inl was
      | inr t ↦ inr (more.todo_kept g t)
    ]
    | inr t ↦ inr t
  ];
  todo_kept = λ g e. more.todo_kept g (one.todo g e);
  todo_new = λ g e. elim (more.todo_new g e) as
      (λ o. (has old.1.1 g ≡ true) ⊎ ((q : ℕ) × (has (r ∷ rest) q ≡ true) × (get_or next q None ≡ Some g))) [
        | inl m ↦ elim (one.more g m) as
            (λ o. (has old.1.1 g ≡ true) ⊎ ((q : ℕ) × (has (r ∷ rest) q ≡ true) × (get_or next q None ≡ Some g))) [
              | inl was ↦ inl was
              | inr s ↦ inr (r, or_left (eqb r r) (has rest r) (eq-eqb r r refl), s)
            ]
        | inr w ↦ inr (w.0, or_right (eqb r w.0) (has rest w.0) w.1, w.2)
      ];
  goes = λ q g h e low. elim (or_cases (eqb r q) (has rest q) h) as (λ o. get_or new.1.0 g false ≡ true) [
    | inl s ↦ more.seen_kept g (one.here g (ap (λ (x : ℕ). get_or next x None) (eqb-true r q s) ∙ e) low)
    | inr k ↦ more.goes q g k e (subst (λ (n : ℕ). g < n) (sym one.count) low)
  ];
  work = more.work ∙ one.work;
}

pub spread_is : (next : List (Option ℕ)) (group : List ℕ) (old : Front) → IsSpread next group old (spread next group old)
spread_is next [] old = record {
  count = refl;
  seen_count = refl;
  sound = λ q e. inl e;
  kept = λ q e. e;
  all = λ q h low. absurd (false≢true h);
  seen_kept = λ g e. e;
  seen_new = λ g e. inl e;
  todo_kept = λ g e. e;
  todo_new = λ g e. inl e;
  goes = λ q g h e low. absurd (false≢true h);
  work = refl;
}
spread_is next (r ∷ rest) old = spread_more next r rest old (spread next (r ∷ rest) old) (noted_is (get_or next r None) old.1)
    (spread_is next rest (set old.0 r true, noted (get_or next r None) old.1))

-- what holds while a rule's row is marked
pub record IsMarking (rules : List PathRule) (rule : ℕ) (next : List (Option ℕ)) (groups : List (List ℕ)) (front : Front) : Type 0 where
  pub count : length front.0 ≡ length rules
  pub seen_count : length front.1.0 ≡ length rules
  pub start : get_or front.0 rule false ≡ true
  pub sound : (q : ℕ) → get_or front.0 q false ≡ true → Reaches rules rule q
  pub come : (g : ℕ) → has front.1.1 g ≡ true → (p : ℕ) × Reaches rules rule p × (get_or next p None ≡ Some g)
  pub seen : (g : ℕ) → get_or front.1.0 g false ≡ true
      → (has front.1.1 g ≡ true) ⊎ ((q : ℕ) → has (get_or groups g []) q ≡ true → q < length rules → get_or front.0 q false ≡ true)
  pub goes : (q g : ℕ) → get_or front.0 q false ≡ true → get_or next q None ≡ Some g → get_or front.1.0 g false ≡ true

first_marking : (rules : List PathRule) (rule : ℕ) (next : List (Option ℕ)) (groups : List (List ℕ)) (front : Front)
    → rule < length rules → IsIndex rules next groups
    → IsSpread next (rule ∷ []) (replicate (length rules) false, (replicate (length rules) false, [])) front
    → IsMarking rules rule next groups front
first_marking rules rule next groups front low index s =
    let n : length (replicate (length rules) false) ≡ length rules = length-replicate {A = Bool} (length rules) false in
    record {
      count = s.count ∙ n;
      seen_count = s.seen_count ∙ n;
      start = s.all rule (end_has [] rule) (omega (arith, low, n));
      sound = λ q e. elim (s.sound q e) as (λ o. Reaches rules rule q) [
        | inl was ↦ absurd (none_marked (length rules) q was)
        | inr h ↦ subst (λ (x : ℕ). Reaches rules rule x) (alone rule q h) (reach_self rules rule)
      ];
      come = λ g e. elim (s.todo_new g e) as (λ o. (p : ℕ) × Reaches rules rule p × (get_or next p None ≡ Some g)) [
        | inl was ↦ absurd (false≢true was)
        | inr w ↦ (rule, reach_self rules rule, ap (λ (x : ℕ). get_or next x None) (alone rule w.0 w.1) ∙ w.2)
      ];
      seen = λ g e. elim (s.seen_new g e) as (λ o. (has front.1.1 g ≡ true)
          ⊎ ((q : ℕ) → has (get_or groups g []) q ≡ true → q < length rules → get_or front.0 q false ≡ true)) [
            | inl was ↦ absurd (none_marked (length rules) g was)
            | inr t ↦ inl t
          ];
      goes = λ q g e f. elim (s.sound q e) as (λ o. get_or front.1.0 g false ≡ true) [
        | inl was ↦ absurd (none_marked (length rules) q was)
        | inr h ↦ s.goes q g h f (let l = index.low q g f in omega (arith, l, n))
      ];
    }

next_marking : (rules : List PathRule) (rule : ℕ) (next : List (Option ℕ)) (groups : List (List ℕ)) (group : ℕ)
    (marks seen : List Bool) (todo less : List ℕ) (front : Front) → IsIndex rules next groups → todo ≡ less ++ group ∷ []
    → IsMarking rules rule next groups (marks, (seen, todo)) → IsSpread next (get_or groups group []) (marks, (seen, less)) front
    → IsMarking rules rule next groups front
next_marking rules rule next groups group marks seen todo less front index e h s = record {
  count = s.count ∙ h.count;
  seen_count = s.seen_count ∙ h.seen_count;
  start = s.kept rule h.start;
  sound = λ q m. elim (s.sound q m) as (λ o. Reaches rules rule q) [
    | inl was ↦ h.sound q was
    | inr k ↦ reach_both rules rule from.0 q from.1 (reach_next rules from.0 q (index.sound from.0 group q from.2 k))
  ];
  come = λ g t. elim (s.todo_new g t) as (λ o. (p : ℕ) × Reaches rules rule p × (get_or next p None ≡ Some g)) [
    | inl was ↦ h.come g (subst (λ (l : List ℕ). has l g ≡ true) (sym e) (end_has_old less group g was))
    | inr w ↦ (w.0, reach_both rules rule from.0 w.0 from.1 (reach_next rules from.0 w.0 (index.sound from.0 group w.0 from.2 w.1)), w.2)
  ];
  seen = λ g m. elim (s.seen_new g m) as (λ o. (has front.1.1 g ≡ true)
      ⊎ ((q : ℕ) → has (get_or groups g []) q ≡ true → q < length rules → get_or front.0 q false ≡ true)) [
        | inl was ↦ old_seen g (h.seen g was)
        | inr t ↦ inl t
      ];
  goes = λ q g m f. elim (s.sound q m) as (λ o. get_or front.1.0 g false ≡ true) [
    | inl was ↦ s.seen_kept g (h.goes q g was f)
    | inr k ↦ s.goes q g k f (let l = index.low q g f in omega (arith, l, h.seen_count))
  ];
}
  where
    from : (p : ℕ) × Reaches rules rule p × (get_or next p None ≡ Some group)
    from = h.come group (subst (λ (l : List ℕ). has l group ≡ true) (sym e) (end_has less group))

    old_seen : (g : ℕ) → (has todo g ≡ true) ⊎ ((q : ℕ) → has (get_or groups g []) q ≡ true → q < length rules
        → get_or marks q false ≡ true)
        → (has front.1.1 g ≡ true) ⊎ ((q : ℕ) → has (get_or groups g []) q ≡ true → q < length rules → get_or front.0 q false ≡ true)
    old_seen g o = elim o as (λ o. (has front.1.1 g ≡ true) ⊎ ((q : ℕ) → has (get_or groups g []) q ≡ true → q < length rules
        → get_or front.0 q false ≡ true)) [
          | inl t ↦ elim (has_end less group g (subst (λ (l : List ℕ). has l g ≡ true) e t)) as (λ o. (has front.1.1 g ≡ true)
              ⊎ ((q : ℕ) → has (get_or groups g []) q ≡ true → q < length rules → get_or front.0 q false ≡ true)) [
                | inl was ↦ inl (s.todo_kept g was)
                | inr same ↦ inr (λ q k low. s.all q (subst (λ (x : ℕ). has (get_or groups x []) q ≡ true) (sym same) k)
                    (omega (arith, low, h.count)))
              ]
          | inr all ↦ inr (λ q k low. s.kept q (all q k low))
        ]

-- nothing is left to be done
on_way : (rules : List PathRule) (rule p q : ℕ) (way : List ℕ) (next : List (Option ℕ)) (groups : List (List ℕ)) (front : Front)
    → IsIndex rules next groups → front.1.1 ≡ [] → IsMarking rules rule next groups front → get_or front.0 p false ≡ true
    → IsWay rules p way q → get_or front.0 q false ≡ true
on_way rules rule p q [] next groups front index none h e way = subst (λ (x : ℕ). get_or front.0 x false ≡ true) way e
on_way rules rule p q (x ∷ rest) next groups front index none h e way =
    let w = index.complete p x way.0 in
    let low = index.inside p w.0 x w.1 w.2 in
    on_way rules rule x q rest next groups front index none h
    (elim (h.seen w.0 (h.goes p w.0 e w.1)) as (λ o. get_or front.0 x false ≡ true) [
      | inl t ↦ absurd (false≢true (subst (λ (l : List ℕ). has l w.0 ≡ true) none t))
      | inr all ↦ all x w.2 low
    ]) way.1

-- as the code has it
pub marking_first : (rules : List PathRule) (rule : ℕ) (next : List (Option ℕ)) (groups : List (List ℕ)) (group : List ℕ)
    (marks seen : List Bool) (todo : List ℕ) (front : Front) → rule < length rules → next ≡ next_of rules rules
    → groups ≡ groups_of rules 0 rules → group ≡ rule ∷ [] → marks ≡ replicate (length rules) false
    → seen ≡ replicate (length rules) false → todo ≡ [] → front ≡ spread next group (marks, (seen, todo))
    → IsMarking rules rule next groups front
marking_first rules rule next groups group marks seen todo front low n g is m s t e =
    let index = subst (λ (l : List (Option ℕ)). IsIndex rules l groups) (sym n)
    (subst (λ (l : List (List ℕ)). IsIndex rules (next_of rules rules) l) (sym g) (index_is rules)) in
    let none = replicate (length rules) false in
    let begun : front ≡ spread next (rule ∷ []) (none, (none, [])) = e ∙ ap (λ (l : List ℕ). spread next l (marks, (seen, todo))) is
    ∙ ap (λ (l : List Bool). spread next (rule ∷ []) (l, (seen, todo))) m
    ∙ ap (λ (l : List Bool). spread next (rule ∷ []) (none, (l, todo))) s
    ∙ ap (λ (l : List ℕ). spread next (rule ∷ []) (none, (none, l))) t in
    first_marking rules rule next groups front low index
    (subst (λ (f : Front). IsSpread next (rule ∷ []) (none, (none, [])) f) (sym begun) (spread_is next (rule ∷ []) (none, (none, []))))

pub marking_more : (rules : List PathRule) (rule group : ℕ) (next : List (Option ℕ)) (groups : List (List ℕ)) (taken : List ℕ)
    (marks seen : List Bool) (todo less : List ℕ) (front : Front) → next ≡ next_of rules rules → groups ≡ groups_of rules 0 rules
    → taken ≡ get_or groups group [] → todo ≡ less ++ group ∷ [] → front ≡ spread next taken (marks, (seen, less))
    → IsMarking rules rule next groups (marks, (seen, todo)) → IsMarking rules rule next groups front
marking_more rules rule group next groups taken marks seen todo less front n g is t e h =
    let index = subst (λ (l : List (Option ℕ)). IsIndex rules l groups) (sym n)
    (subst (λ (l : List (List ℕ)). IsIndex rules (next_of rules rules) l) (sym g) (index_is rules)) in
    next_marking rules rule next groups group marks seen todo less front index t h
    (subst (λ (f : Front). IsSpread next (get_or groups group []) (marks, (seen, less)) f)
    (sym (e ∙ ap (λ (l : List ℕ). spread next l (marks, (seen, less))) is))
    (spread_is next (get_or groups group []) (marks, (seen, less))))

pub marking_less : (group : ℕ) (next : List (Option ℕ)) (taken : List ℕ) (marks seen : List Bool) (todo less : List ℕ)
    (front : Front) → todo ≡ less ++ group ∷ [] → front ≡ spread next taken (marks, (seen, less))
    → open_count front.1.0 + length front.1.1 < open_count seen + length todo
marking_less group next taken marks seen todo less front t e =
    let s = spread_is next taken (marks, (seen, less)) in
    let now : open_count front.1.0 + length front.1.1 ≡ open_count (spread next taken (marks, (seen, less))).1.0 + length
    (spread next taken (marks, (seen, less))).1.1 = ap (λ (f : Front). open_count f.1.0 + length f.1.1) e in
    let long : length todo ≡ length less + 1 = ap length t ∙ length-append less (group ∷ []) in
    omega (arith, s.work, now, long)

pub marking_last : (rules : List PathRule) (rule : ℕ) (next : List (Option ℕ)) (groups : List (List ℕ)) (marks seen row : List Bool)
    (todo : List ℕ) → next ≡ next_of rules rules → groups ≡ groups_of rules 0 rules → todo ≡ [] → row ≡ marks
    → IsMarking rules rule next groups (marks, (seen, todo)) → IsRow rules rule row
marking_last rules rule next groups marks seen row todo n g t r h =
    let index = subst (λ (l : List (Option ℕ)). IsIndex rules l groups) (sym n)
    (subst (λ (l : List (List ℕ)). IsIndex rules (next_of rules rules) l) (sym g) (index_is rules)) in
    subst (λ (m : List Bool). IsRow rules rule m) (sym r) (record {
      count = h.count;
      sound = h.sound;
      complete = λ q low w. on_way rules rule rule q w.0 next groups (marks, (seen, todo)) index t h h.start w.1;
    })
