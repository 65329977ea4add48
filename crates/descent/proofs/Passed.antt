-- A split that is found to hold by one walk over its parts has no fault.
use Rattle.std.proofs.Common.{◌≡◌, ◌⊎◌, inl, inr, ℕ, zero, suc, ◌<◌, Bool, true, false, cond, eqb, List, [], ◌∷◌, ◌++◌, length}
use Rattle.std.proofs.Common.{get_or, set, replicate, Option, Some, None, subst, ap, arith, refl, ◌∙◌, sym}
use Rattle.std.specs.Prelude.{◌||◌, ◌&&◌, not, nat_lt, slice_get, is_none, filter, find, IsTrue}
use Rattle.std.specs.List.{concat}
use Rattle.std.proofs.lemmas.Bool.{both_ways, false≢true, true≢false, eqb-true, eq-eqb, or_left, or_right, or_cases, cases_eq}
use Rattle.std.proofs.lemmas.Bool.{and_parts, cases_lt, ltb-true, false_from_ne_true, or_parts, or_from}
use Rattle.std.proofs.lemmas.List.{get_or-set_same, get_or-set_other, get_or_past}
use Rattle.std.proofs.lemmas.Option.{same_Some}
use Rattle.descent.proofs.Classes.{stands_get}
use Rattle.list_views.proofs.Marks.{unmarked, mark_keeps, marked_within}
use Rattle.list_views.proofs.Truths.{or_second}
use Rattle.descent.specs.declared.faults.DescentFault.{DescentFault}
use Rattle.descent.specs.declared.rules.PathRule.{PathRule}
use Rattle.descent.specs.inner.Marking.{IsDone, mark_all, take_part, then_marks, take_all, all_off, ends_marked, enters, mark_start}
use Rattle.descent.specs.inner.Marking.{mark_starts, flow, is_light, all_light}
use Rattle.descent.specs.Splits.{has, stands_in, stands_once, place_from, place_in, is_misplaced, least, uncovered, meet_at}
use Rattle.descent.specs.Splits.{is_followed, is_below, lower_one, back_fault, back_edge, is_lone, loops_in, loops_at, first_loop}
use Rattle.descent.specs.Splits.{loop_fault, edge_fault, cover_fault, split_fault}
use Rattle.descent.proofs.Parted.{IsPlaced, placed}

-- a mark that is taken away
pub record IsOff (marks : List Bool) (b x : ℕ) : Type 0 where
  pub other : x ≡ b → ⊥
  pub was : get_or marks x false ≡ true

off_is : (marks : List Bool) (b x : ℕ) → get_or marks b false ≡ true → get_or (set marks b false) x false ≡ true → IsOff marks b x
off_is marks b x here e = elim (cases_eq x b) as (λ o. IsOff marks b x) [
  | inl s ↦ absurd (false≢true (sym (get_or-set_same marks b false false (marked_within marks b here))
      ∙ subst (λ (y : ℕ). get_or (set marks b false) y false ≡ true) s e))
  | inr d ↦ record { other = d; was = sym (get_or-set_other marks b x false false d) ∙ e }
]

-- the rules of a set are marked
pub record IsMarked (rules : List ℕ) (old new : List Bool) : Type 0 where
  pub sound : (x : ℕ) → get_or new x false ≡ true → (get_or old x false ≡ true) ⊎ (has rules x ≡ true)
  pub kept : (x : ℕ) → get_or old x false ≡ true → get_or new x false ≡ true
  pub all : (x : ℕ) → has rules x ≡ true → get_or new x false ≡ true

marked_cases : (low : Bool) (y : ℕ) (rest : List ℕ) (old new : List Bool) → nat_lt y (length old) ≡ low
    → cond low (mark_all rest (set old y true)) None ≡ Some new
    → (mark_all rest (set old y true) ≡ Some new → IsMarked rest (set old y true) new) → IsMarked (y ∷ rest) old new
marked_cases false y rest old new l e more = absurd (cc)
marked_cases true y rest old new l e more =
    let m = more e in
    record {
      sound = λ x h. elim (m.sound x h) as (λ o. (get_or old x false ≡ true) ⊎ (has (y ∷ rest) x ≡ true)) [
        | inl s ↦ elim (cases_eq x y) as (λ o. (get_or old x false ≡ true) ⊎ (has (y ∷ rest) x ≡ true)) [
          | inl same ↦ inr (or_left (eqb y x) (has rest x) (eq-eqb y x (sym same)))
          | inr d ↦ inl (sym (get_or-set_other old y x true false d) ∙ s)
        ]
        | inr r ↦ inr (or_right (eqb y x) (has rest x) r)
      ];
      kept = λ x h. m.kept x (mark_keeps old y x h);
      all = λ x h. elim (or_cases (eqb y x) (has rest x) h) as (λ o. get_or new x false ≡ true) [
        | inl s ↦ subst (λ (z : ℕ). get_or new z false ≡ true) (eqb-true y x s)
            (m.kept y (get_or-set_same old y true false (ltb-true y (length old) l)))
        | inr r ↦ m.all x r
      ];
    }

pub marked_is : (rules : List ℕ) (old new : List Bool) → mark_all rules old ≡ Some new → IsMarked rules old new
marked_is [] old new e =
    let same = same_Some old new e in
    record {
      sound = λ x h. inl (subst (λ (m : List Bool). get_or m x false ≡ true) (sym same) h);
      kept = λ x h. subst (λ (m : List Bool). get_or m x false ≡ true) same h;
      all = λ x h. absurd (false≢true h);
    }
marked_is (y ∷ rest) old new e = marked_cases (nat_lt y (length old)) y rest old new refl e (λ h. marked_is rest (set old y true) new h)

-- the rules of a part had marks, and have none any more
pub record IsTaken (part : List ℕ) (old new : List Bool) : Type 0 where
  pub all : (x : ℕ) → has part x ≡ true → get_or old x false ≡ true
  pub gone : (x : ℕ) → get_or new x false ≡ true → (get_or old x false ≡ true) × (has part x ≡ false)
  pub kept : (x : ℕ) → get_or old x false ≡ true → has part x ≡ false → get_or new x false ≡ true
  pub once : (x : ℕ) → has part x ≡ true → stands_once part x ≡ true

other_false : (y x : ℕ) → (x ≡ y → ⊥) → eqb y x ≡ false
other_false y x d = false_from_ne_true (eqb y x) (λ e. d (sym (eqb-true y x e)))

once_cases : (same : Bool) (y x : ℕ) (rest : List ℕ) → eqb y x ≡ same → has rest y ≡ false
    → (same ≡ false → stands_once rest x ≡ true) → cond same (not (has rest x)) (stands_once rest x) ≡ true
once_cases true y x rest e none more = ap not (subst (λ (z : ℕ). has rest z ≡ false) (eqb-true y x e) none)
once_cases false y x rest e none more = more refl

taken_cases : (here : Bool) (y : ℕ) (rest : List ℕ) (old new : List Bool) → get_or old y false ≡ here
    → cond here (take_part rest (set old y false)) None ≡ Some new
    → (take_part rest (set old y false) ≡ Some new → IsTaken rest (set old y false) new) → IsTaken (y ∷ rest) old new
taken_cases false y rest old new h e more = absurd (cc)
taken_cases true y rest old new h e more =
    let m = more e in
    record {
      all = λ x k. elim (or_cases (eqb y x) (has rest x) k) as (λ o. get_or old x false ≡ true) [
        | inl s ↦ subst (λ (z : ℕ). get_or old z false ≡ true) (eqb-true y x s) h
        | inr r ↦ (off_is old y x h (m.all x r)).was
      ];
      gone = λ x k.
          let g = m.gone x k in
          let o = off_is old y x h g.0 in
          (o.was, or_from (eqb y x) (has rest x) (other_false y x o.other) g.1);
      kept = λ x k n.
          let b = or_parts (eqb y x) (has rest x) n in
          m.kept x (get_or-set_other old y x false false (apart x b.0) ∙ k) b.1;
      once = λ x k. once_cases (eqb y x) y x rest refl none (λ d. m.once x (or_second (eqb y x) (has rest x) d k));
    }
  where
    apart : (x : ℕ) → eqb y x ≡ false → x ≡ y → ⊥
    apart x d s = both_ways (eqb y x) d (eq-eqb y x (sym s))

    none : has rest y ≡ false
    none = false_from_ne_true (has rest y) (λ r. (off_is old y y h ((more e).all y r)).other refl)

pub taken_is : (part : List ℕ) (old new : List Bool) → take_part part old ≡ Some new → IsTaken part old new
taken_is [] old new e =
    let same = same_Some old new e in
    record {
      all = λ x h. absurd (false≢true h);
      gone = λ x h. (subst (λ (m : List Bool). get_or m x false ≡ true) (sym same) h, refl);
      kept = λ x h n. subst (λ (m : List Bool). get_or m x false ≡ true) same h;
      once = λ x h. absurd (false≢true h);
    }
taken_is (y ∷ rest) old new e = taken_cases (get_or old y false) y rest old new refl e (λ h. taken_is rest (set old y false) new h)

-- the same for all parts
pub record AreTaken (parts : List (List ℕ)) (old new : List Bool) : Type 0 where
  pub all : (x : ℕ) → stands_in parts x ≡ true → get_or old x false ≡ true
  pub kept : (x : ℕ) → get_or old x false ≡ true → stands_in parts x ≡ false → get_or new x false ≡ true
  pub one : (x n : ℕ) → stands_in parts x ≡ true → (k : ℕ) × (place_from n parts x ≡ Some k)

place_cases : (here once later : Bool) (x n : ℕ) (rest : List (List ℕ)) → (here ≡ true → once ≡ true)
    → (here ≡ true → later ≡ false) → (here ≡ false → (k : ℕ) × (place_from (suc n) rest x ≡ Some k))
    → (k : ℕ) × (cond here (cond (once && not later) (Some n) None) (place_from (suc n) rest x) ≡ Some k)
place_cases true true false x n rest a b more = (n, refl)
place_cases true false later x n rest a b more = absurd (false≢true (a refl))
place_cases true true true x n rest a b more = absurd (true≢false (b refl))
place_cases false once later x n rest a b more = more refl

all_taken_cases : (gave : Option (List Bool)) (part : List ℕ) (rest : List (List ℕ)) (old new : List Bool)
    → take_part part old ≡ gave → then_marks (λ (left : List Bool). take_all rest left) gave ≡ Some new
    → ((left : List Bool) → take_all rest left ≡ Some new → AreTaken rest left new) → AreTaken (part ∷ rest) old new
all_taken_cases None part rest old new t e more = absurd (cc)
all_taken_cases (Some left) part rest old new t e more =
    let first = taken_is part old left t in
    let later = more left e in
    record {
      all = λ x h. elim (or_cases (has part x) (stands_in rest x) h) as (λ o. get_or old x false ≡ true) [
        | inl p ↦ first.all x p
        | inr r ↦ (first.gone x (later.all x r)).0
      ];
      kept = λ x h n.
          let b = or_parts (has part x) (stands_in rest x) n in
          later.kept x (first.kept x h b.0) b.1;
      one = λ x n h. place_cases (has part x) (stands_once part x) (stands_in rest x) x n rest (λ p. first.once x p)
          (λ p. false_from_ne_true (stands_in rest x) (λ r. both_ways (has part x) (first.gone x (later.all x r)).1 p))
          (λ d. later.one x (suc n) (or_second (has part x) (stands_in rest x) d h));
    }

pub all_taken_is : (parts : List (List ℕ)) (old new : List Bool) → take_all parts old ≡ Some new → AreTaken parts old new
all_taken_is [] old new e =
    let same = same_Some old new e in
    record {
      all = λ x h. absurd (false≢true h);
      kept = λ x h n. subst (λ (m : List Bool). get_or m x false ≡ true) same h;
      one = λ x n h. absurd (false≢true h);
    }
all_taken_is (part ∷ rest) old new e = all_taken_cases (take_part part old) part rest old new refl e
    (λ left h. all_taken_is rest left new h)

-- no rule of the set is marked
none_marked : (set_of : List ℕ) (marks : List Bool) (x : ℕ) → all_off set_of marks ≡ true → has set_of x ≡ true
    → get_or marks x false ≡ false
none_marked [] marks x e h = absurd (false≢true h)
none_marked (y ∷ rest) marks x e h =
    let both = and_parts (not (get_or marks y false)) (all_off rest marks) e in
    elim (or_cases (eqb y x) (has rest x) h) as (λ o. get_or marks x false ≡ false) [
      | inl s ↦ subst (λ (z : ℕ). get_or marks z false ≡ false) (eqb-true y x s) (not_true (get_or marks y false) both.0)
      | inr r ↦ none_marked rest marks x both.1 r
    ]
  where
    not_true : (a : Bool) → not a ≡ true → a ≡ false
    not_true true t = absurd (false≢true t)
    not_true false t = refl

-- the starts of a part's rules are marked
pub record AreStarts (rules : List PathRule) (part : List ℕ) (old new : List Bool) : Type 0 where
  pub kept : (x : ℕ) → get_or old x false ≡ true → get_or new x false ≡ true
  pub all : (p : ℕ) (rule : PathRule) → has part p ≡ true → slice_get rules p ≡ Some rule → get_or new rule.from false ≡ true

pub record IsStart (found : Option PathRule) (old new : List Bool) : Type 0 where
  pub kept : (x : ℕ) → get_or old x false ≡ true → get_or new x false ≡ true
  pub here : (rule : PathRule) → found ≡ Some rule → get_or new rule.from false ≡ true

start_cases : (low : Bool) (rule : PathRule) (old new : List Bool) → nat_lt rule.from (length old) ≡ low
    → cond low (Some (set old rule.from true)) None ≡ Some new → IsStart (Some rule) old new
start_cases false rule old new l e = absurd (cc)
start_cases true rule old new l e =
    let same = same_Some (set old rule.from true) new e in
    record {
      kept = λ x h. subst (λ (m : List Bool). get_or m x false ≡ true) same (mark_keeps old rule.from x h);
      here = λ other is. subst (λ (r : PathRule). get_or new r.from false ≡ true) (one rule other is)
          (subst (λ (m : List Bool). get_or m rule.from false ≡ true) same
          (get_or-set_same old rule.from true false (ltb-true rule.from (length old) l)));
    }
  where
    one : (a b : PathRule) → ◌≡◌ {A = Option PathRule} (Some a) (Some b) → a ≡ b
    one a b h = cc

start_is : (found : Option PathRule) (old new : List Bool) → mark_start found old ≡ Some new → IsStart found old new
start_is None old new e = absurd (cc)
start_is (Some rule) old new e = start_cases (nat_lt rule.from (length old)) rule old new refl e

starts_cases : (rules : List PathRule) (gave : Option (List Bool)) (y : ℕ) (rest : List ℕ) (old new : List Bool)
    → mark_start (slice_get rules y) old ≡ gave → then_marks (λ (more : List Bool). mark_starts rules rest more) gave ≡ Some new
    → ((more : List Bool) → mark_starts rules rest more ≡ Some new → AreStarts rules rest more new) → AreStarts rules (y ∷ rest) old new
starts_cases rules None y rest old new t e more = absurd (cc)
starts_cases rules (Some left) y rest old new t e more =
    let first = start_is (slice_get rules y) old left t in
    let later = more left e in
    record {
      kept = λ x h. later.kept x (first.kept x h);
      all = λ p rule h is. elim (or_cases (eqb y p) (has rest p) h) as (λ o. get_or new rule.from false ≡ true) [
        | inl s ↦ later.kept rule.from (first.here rule (ap (slice_get rules) (eqb-true y p s) ∙ is))
        | inr r ↦ later.all p rule r is
      ];
    }

starts_is : (rules : List PathRule) (part : List ℕ) (old new : List Bool) → mark_starts rules part old ≡ Some new
    → AreStarts rules part old new
starts_is rules [] old new e =
    let same = same_Some old new e in
    record {
      kept = λ x h. subst (λ (m : List Bool). get_or m x false ≡ true) same h;
      all = λ p rule h is. absurd (false≢true h);
    }
starts_is rules (y ∷ rest) old new e = starts_cases rules (mark_start (slice_get rules y) old) y rest old new refl e
    (λ more h. starts_is rules rest more new h)

-- no rule of the part ends at a marked cut
none_enters : (rules : List PathRule) (part : List ℕ) (marks : List Bool) (q : ℕ) → enters rules part marks ≡ false
    → has part q ≡ true → ends_marked (slice_get rules q) marks ≡ false
none_enters rules [] marks q e h = absurd (false≢true h)
none_enters rules (y ∷ rest) marks q e h =
    let both = or_parts (ends_marked (slice_get rules y) marks) (enters rules rest marks) e in
    elim (or_cases (eqb y q) (has rest q) h) as (λ o. ends_marked (slice_get rules q) marks ≡ false) [
      | inl s ↦ subst (λ (z : ℕ). ends_marked (slice_get rules z) marks ≡ false) (eqb-true y q s) both.0
      | inr r ↦ none_enters rules rest marks q both.1 r
    ]

-- parts through which rules only go on
pub record Flows (rules : List PathRule) (parts : List (List ℕ)) (old : List Bool) : Type 0 where
  pub fresh : (q : ℕ) → stands_in parts q ≡ true → ends_marked (slice_get rules q) old ≡ false
  pub apart : (i j p q : ℕ) (one other : List ℕ) → i < j → slice_get parts i ≡ Some one → slice_get parts j ≡ Some other
      → has one p ≡ true → has other q ≡ true → is_followed rules q p ≡ false

not_met : (rules : List PathRule) (found next : Option PathRule) (marks : List Bool) → ends_marked found marks ≡ false
    → ((rule : PathRule) → next ≡ Some rule → get_or marks rule.from false ≡ true) → meet_at found next ≡ false
not_met rules None next marks e all = refl
not_met rules (Some rule) None marks e all = refl
not_met rules (Some rule) (Some next) marks e all = false_from_ne_true (eqb rule.to next.from)
    (λ h. both_ways (get_or marks next.from false)
    (subst (λ (c : ℕ). get_or marks c false ≡ false) (eqb-true rule.to next.from h) e) (all next refl))

still_fresh : (found : Option PathRule) (old new : List Bool) → ((x : ℕ) → get_or old x false ≡ true → get_or new x false ≡ true)
    → ends_marked found new ≡ false → ends_marked found old ≡ false
still_fresh None old new kept e = refl
still_fresh (Some rule) old new kept e = false_from_ne_true (get_or old rule.to false)
    (λ h. both_ways (get_or new rule.to false) e (kept rule.to h))

apart_cases : (rules : List PathRule) (part : List ℕ) (rest : List (List ℕ)) (left : List Bool) (i j p q : ℕ) (one other : List ℕ)
    → Flows rules rest left → ((p : ℕ) (rule : PathRule) → has part p ≡ true → slice_get rules p ≡ Some rule
    → get_or left rule.from false ≡ true) → i < j → slice_get (part ∷ rest) i ≡ Some one → slice_get (part ∷ rest) j ≡ Some other
    → has one p ≡ true → has other q ≡ true → is_followed rules q p ≡ false
apart_cases rules part rest left i zero p q one other later starts lt e f h k = absurd (omega (arith, lt))
apart_cases rules part rest left zero (suc j) p q one other later starts lt e f h k =
    let same : part ≡ one = cc in
    not_met rules (slice_get rules q) (slice_get rules p) left (later.fresh q (stands_get rest j q other f k))
    (λ rule is. starts p rule (subst (λ (x : List ℕ). has x p ≡ true) (sym same) h) is)
apart_cases rules part rest left (suc i) (suc j) p q one other later starts lt e f h k = later.apart i j p q one other
    (omega (arith, lt)) e f h k

flow_cases : (rules : List PathRule) (entered : Bool) (gave : Option (List Bool)) (part : List ℕ) (rest : List (List ℕ))
    (old new : List Bool) → enters rules part old ≡ entered → mark_starts rules part old ≡ gave
    → cond entered None (then_marks (λ (more : List Bool). flow rules rest more) gave) ≡ Some new
    → ((more : List Bool) → flow rules rest more ≡ Some new → Flows rules rest more) → Flows rules (part ∷ rest) old
flow_cases rules true gave part rest old new n t e more = absurd (cc)
flow_cases rules false None part rest old new n t e more = absurd (cc)
flow_cases rules false (Some left) part rest old new n t e more =
    let starts = starts_is rules part old left t in
    let later = more left e in
    record {
      fresh = λ q h. elim (or_cases (has part q) (stands_in rest q) h) as (λ o. ends_marked (slice_get rules q) old ≡ false) [
        | inl p ↦ none_enters rules part old q n p
        | inr r ↦ still_fresh (slice_get rules q) old left starts.kept (later.fresh q r)
      ];
      apart = λ i j p q one other lt e f h k. apart_cases rules part rest left i j p q one other later starts.all lt e f h k;
    }

pub flow_is : (rules : List PathRule) (parts : List (List ℕ)) (old new : List Bool) → flow rules parts old ≡ Some new
    → Flows rules parts old
flow_is rules [] old new e = record {
  fresh = λ q h. absurd (false≢true h);
  apart = λ i j p q one other lt e f h k. absurd (cc);
}
flow_is rules (part ∷ rest) old new e = flow_cases rules (enters rules part old) (mark_starts rules part old) part rest old new refl
    refl e (λ more h. flow_is rules rest more new h)

-- a light part has no rule that loops
light_lone : (rules : List PathRule) (part : List ℕ) (rule : ℕ) → is_light rules part ≡ true → has part rule ≡ true
    → is_lone rules rule part ≡ true
light_lone rules [] rule e h = absurd (false≢true h)
light_lone rules (only ∷ []) rule e h = elim (or_cases (eqb only rule) false h) as (λ o. is_lone rules rule (only ∷ []) ≡ true) [
  | inl s ↦ subst (λ (z : ℕ). not (is_followed rules z z) ≡ true) (eqb-true only rule s) e
  | inr b ↦ absurd (false≢true b)
]
light_lone rules (one ∷ more ∷ rest) rule e h = absurd (false≢true e)

no_loop : (rules : List PathRule) (parts : List (List ℕ)) (steps : List (Option ℕ)) (k rule : ℕ) (part : List ℕ)
    → all_light rules parts steps ≡ true → slice_get parts k ≡ Some part → has part rule ≡ true
    → loops_in rules rule (Some part) (slice_get steps k) ≡ false
no_loop rules [] steps k rule part e is h = absurd (cc)
no_loop rules (p ∷ rest) [] k rule part e is h = refl
no_loop rules (p ∷ rest) (None ∷ more) zero rule part e is h =
    let same : p ≡ part = cc in
    let both = and_parts (is_light rules p) (all_light rules rest more) e in
    ap not (subst (λ (x : List ℕ). is_lone rules rule x ≡ true) same
    (light_lone rules p rule both.0 (subst (λ (x : List ℕ). has x rule ≡ true) (sym same) h)))
no_loop rules (p ∷ rest) (None ∷ more) (suc k) rule part e is h = no_loop rules rest more k rule part
    (and_parts (is_light rules p) (all_light rules rest more) e).1 is h
no_loop rules (p ∷ rest) (Some step ∷ more) zero rule part e is h = refl
no_loop rules (p ∷ rest) (Some step ∷ more) (suc k) rule part e is h = no_loop rules rest more k rule part e is h

-- nothing is found where nothing passes
least_nothing : (test : ℕ → Bool) (list : List ℕ) → ((x : ℕ) → has list x ≡ true → test x ≡ false) → least (filter test list) ≡ None
least_nothing test [] none = refl
least_nothing test (x ∷ rest) none = subst (λ (b : Bool). least (cond b (x ∷ filter test rest) (filter test rest)) ≡ None)
    (sym (none x (or_left (eqb x x) (has rest x) (eq-eqb x x refl))))
    (least_nothing test rest (λ y h. none y (or_right (eqb x y) (has rest y) h)))

find_nothing : (test : ℕ → Bool) (list : List ℕ) → ((x : ℕ) → has list x ≡ true → test x ≡ false) → find test list ≡ None
find_nothing test [] none = refl
find_nothing test (x ∷ rest) none = subst (λ (b : Bool). cond b (Some x) (find test rest) ≡ None)
    (sym (none x (or_left (eqb x x) (has rest x) (eq-eqb x x refl))))
    (find_nothing test rest (λ y h. none y (or_right (eqb x y) (has rest y) h)))

in_both : (a b : List ℕ) (x : ℕ) → has (a ++ b) x ≡ true → (has a x ≡ true) ⊎ (has b x ≡ true)
in_both [] b x h = inr h
in_both (y ∷ rest) b x h = elim (or_cases (eqb y x) (has (rest ++ b) x) h) as (λ o. (has (y ∷ rest) x ≡ true) ⊎ (has b x ≡ true)) [
  | inl s ↦ inl (or_left (eqb y x) (has rest x) s)
  | inr r ↦ elim (in_both rest b x r) as (λ o. (has (y ∷ rest) x ≡ true) ⊎ (has b x ≡ true)) [
    | inl a ↦ inl (or_right (eqb y x) (has rest x) a)
    | inr c ↦ inr c
  ]
]

in_parts : (parts : List (List ℕ)) (x : ℕ) → has (concat parts) x ≡ true → stands_in parts x ≡ true
in_parts [] x h = absurd (false≢true h)
in_parts (part ∷ rest) x h = elim (in_both part (concat rest) x h) as (λ o. stands_in (part ∷ rest) x ≡ true) [
  | inl a ↦ or_left (has part x) (stands_in rest x) a
  | inr b ↦ or_right (has part x) (stands_in rest x) (in_parts rest x b)
]

-- what the walk found
pub record IsWalked (rules : List PathRule) (set : List ℕ) (parts : List (List ℕ)) (steps : List (Option ℕ)) : Type 0 where
  pub inside : (x : ℕ) → stands_in parts x ≡ true → has set x ≡ true
  pub place : (x : ℕ) → stands_in parts x ≡ true → (k : ℕ) × (place_in parts x ≡ Some k)
  pub cover : (x : ℕ) → has set x ≡ true → stands_in parts x ≡ true
  pub flows : (i j p q : ℕ) (one other : List ℕ) → i < j → slice_get parts i ≡ Some one → slice_get parts j ≡ Some other
      → has one p ≡ true → has other q ≡ true → is_followed rules q p ≡ false
  pub light : all_light rules parts steps ≡ true

not_misplaced : (member : Bool) (place : Option ℕ) (stands : Bool) → (stands ≡ true → member ≡ true)
    → (member ≡ true → (k : ℕ) × (place ≡ Some k)) → cond member (is_none place) stands ≡ false
not_misplaced true place stands inside at = ap is_none (at refl).1
not_misplaced false place true inside at = absurd (false≢true (inside refl))
not_misplaced false place false inside at = refl

nothing_uncovered : (rules : List PathRule) (set : List ℕ) (parts : List (List ℕ)) (steps : List (Option ℕ))
    → IsWalked rules set parts steps → uncovered set parts ≡ None
nothing_uncovered rules set parts steps w = least_nothing (is_misplaced set parts) (set ++ concat parts)
    (λ x h. not_misplaced (has set x) (place_in parts x) (stands_in parts x) (w.inside x) (λ m. w.place x (w.cover x m)))

not_lower : (follows : Bool) (one other : Option ℕ) → ((j k : ℕ) → one ≡ Some j → other ≡ Some k → j < k → follows ≡ false)
    → (follows && is_below one other) ≡ false
not_lower false one other h = refl
not_lower true None other h = refl
not_lower true (Some j) None h = refl
not_lower true (Some j) (Some k) h = false_from_ne_true (nat_lt j k) (λ l. true≢false (h j k refl refl (ltb-true j k l)))

apart_places : (rules : List PathRule) (set : List ℕ) (parts : List (List ℕ)) (steps : List (Option ℕ)) (rule next j k : ℕ)
    → IsWalked rules set parts steps → IsPlaced 0 parts next j → IsPlaced 0 parts rule k → j < k → is_followed rules rule next ≡ false
apart_places rules set parts steps rule next j k w a b lt = w.flows a.index b.index next rule a.part b.part
    (omega (arith, a.at, b.at, lt)) a.is b.is a.stands b.stands

nothing_back : (rules : List PathRule) (set : List ℕ) (parts : List (List ℕ)) (steps : List (Option ℕ)) (list : List ℕ)
    → IsWalked rules set parts steps → back_edge rules set parts list ≡ None
nothing_back rules set parts steps [] w = refl
nothing_back rules set parts steps (rule ∷ rest) w =
    let none : lower_one rules set parts rule ≡ None = find_nothing
    (λ (next : ℕ). is_followed rules rule next && is_below (place_in parts next) (place_in parts rule)) set
    (λ next h. not_lower (is_followed rules rule next) (place_in parts next) (place_in parts rule)
    (λ j k e f lt. apart_places rules set parts steps rule next j k w (placed 0 parts next j e) (placed 0 parts rule k f) lt)) in
    ap (λ (o : Option ℕ). back_fault rule o (back_edge rules set parts rest)) none ∙ nothing_back rules set parts steps rest w

not_looping : (rules : List PathRule) (parts : List (List ℕ)) (steps : List (Option ℕ)) (rule : ℕ) (place : Option ℕ)
    → all_light rules parts steps ≡ true → place_in parts rule ≡ place → loops_at rules parts steps rule place ≡ false
not_looping rules parts steps rule None light at = refl
not_looping rules parts steps rule (Some k) light at =
    let w = placed 0 parts rule k at in
    let index : w.index ≡ k = omega (arith, w.at) in
    let is : slice_get parts k ≡ Some w.part = ap (slice_get parts) (sym index) ∙ w.is in
    subst (λ (o : Option (List ℕ)). loops_in rules rule o (slice_get steps k) ≡ false) (sym is)
    (no_loop rules parts steps k rule w.part light is w.stands)

nothing_loops : (rules : List PathRule) (set : List ℕ) (parts : List (List ℕ)) (steps : List (Option ℕ))
    → IsWalked rules set parts steps → first_loop rules set parts steps ≡ None
nothing_loops rules set parts steps w = find_nothing (λ (rule : ℕ). loops_at rules parts steps rule (place_in parts rule)) set
    (λ rule h. not_looping rules parts steps rule (place_in parts rule) w.light refl)

nothing_wrong : (rules : List PathRule) (set : List ℕ) (parts : List (List ℕ)) (steps : List (Option ℕ))
    → IsWalked rules set parts steps → split_fault rules set parts steps ≡ None
nothing_wrong rules set parts steps w =
    let one = nothing_uncovered rules set parts steps w in
    let two = nothing_back rules set parts steps set w in
    let three = nothing_loops rules set parts steps w in
    ap (λ (o : Option ℕ). cover_fault o
    (edge_fault (back_edge rules set parts set) (loop_fault (first_loop rules set parts steps)))) one
    ∙ ap (λ (o : Option DescentFault). edge_fault o (loop_fault (first_loop rules set parts steps))) two ∙ ap loop_fault three

walked : (rules : List PathRule) (set : List ℕ) (parts : List (List ℕ)) (steps : List (Option ℕ)) (n : ℕ)
    (opened taken starts ends : List Bool) → mark_all set (replicate n false) ≡ Some opened → take_all parts opened ≡ Some taken
    → all_off set taken ≡ true → flow rules parts starts ≡ Some ends → all_light rules parts steps ≡ true → IsWalked rules set parts steps
walked rules set parts steps n opened taken starts ends a b c d e =
    let marked = marked_is set (replicate n false) opened a in
    let took = all_taken_is parts opened taken b in
    record {
      inside = λ x h. elim (marked.sound x (took.all x h)) as (λ o. has set x ≡ true) [
        | inl was ↦ absurd (false≢true (sym (unmarked n x) ∙ was))
        | inr is ↦ is
      ];
      place = λ x h. took.one x 0 h;
      cover = λ x h. stands_or (stands_in parts x)
          (λ out. both_ways (get_or taken x false) (none_marked set taken x c h) (took.kept x (marked.all x h) out));
      flows = (flow_is rules parts starts ends d).apart;
      light = e;
    }
  where
    stands_or : (a : Bool) → (a ≡ false → ⊥) → a ≡ true
    stands_or true h = refl
    stands_or false h = absurd (h refl)

-- the split holds
pub passes_told : (rules : List PathRule) (set : List ℕ) (parts : List (List ℕ)) (steps : List (Option ℕ)) (n : ℕ)
    (first opened taken starts ends : List Bool) (light : Bool) → first ≡ replicate n false → mark_all set first ≡ Some opened
    → take_all parts opened ≡ Some taken → all_off set taken ≡ true → flow rules parts starts ≡ Some ends
    → light ≡ all_light rules parts steps → IsTrue light → split_fault rules set parts steps ≡ None
passes_told rules set parts steps n first opened taken starts ends light z a b c d e t = nothing_wrong rules set parts steps
    (walked rules set parts steps n opened taken starts ends (ap (mark_all set) (sym z) ∙ a) b c d (sym e ∙ t))

pub done : (went : Bool) (gave : Option (List Bool)) (after : List Bool) → went ≡ true → IsDone went gave after → gave ≡ Some after
done true gave after e h = h
done false gave after e h = absurd (false≢true e)
