-- A split: no rule is followed by one of a lower part.
use Rattle.std.proofs.Common.{◌≡◌, ◌⊎◌, inl, inr, ℕ, zero, suc, ◌+◌, ◌<◌, ◌≤◌, Bool, true, false, cond, eqb, List, [], ◌∷◌, ◌++◌}
use Rattle.std.proofs.Common.{length, Option, Some, None, subst, ap, arith, refl, ◌∙◌, sym}
use Rattle.std.specs.Prelude.{◌&&◌, not, nat_lt, slice_get, is_none, filter, find}
use Rattle.std.specs.List.{concat, filter_map}
use Rattle.std.proofs.lemmas.Bool.{both_ways, false≢true, true≢false, eqb-true, eq-eqb, or_left, or_right, or_cases, cases_eq}
use Rattle.std.proofs.lemmas.Bool.{not-false, ltb-false}
use Rattle.std.proofs.lemmas.Option.{none-some, slice_get_within, slice_get-get_or, same_Some}
use Rattle.list_views.proofs.Truths.{or_second}
use mathlib.Core.WellFounded.{Acc}
use Rattle.descent.specs.declared.faults.DescentFault.{DescentFault}
use Rattle.descent.specs.declared.rules.PathRule.{PathRule}
use Rattle.descent.specs.Chains.{Turn, Follows}
use Rattle.descent.specs.Splits.{has, stands_in, stands_once, place_from, place_in, is_misplaced, least, uncovered, meet_at}
use Rattle.descent.specs.Splits.{is_followed, is_below, lower_one, back_fault, back_edge, is_lone, loops_in, loops_at, first_loop}
use Rattle.descent.specs.Splits.{loop_fault, edge_fault, cover_fault, split_fault}
use Rattle.descent.specs.Steps.{parts_left, same_option}
use Rattle.descent.proofs.Moving.{Moves, EndsAt, Ends, outside, has_filter}
use Rattle.descent.proofs.Ranked.{edge_none}

-- nothing of a list passes
pub has_both : (a b : List ℕ) (rule : ℕ) → has a rule ≡ true → has (a ++ b) rule ≡ true
has_both [] b rule h = absurd (false≢true h)
has_both (x ∷ rest) b rule h = elim (or_cases (eqb x rule) (has rest rule) h) as (λ o. has ((x ∷ rest) ++ b) rule ≡ true) [
  | inl e ↦ or_left (eqb x rule) (has (rest ++ b) rule) e
  | inr e ↦ or_right (eqb x rule) (has (rest ++ b) rule) (has_both rest b rule e)
]

none_cases : (test : ℕ → Bool) (passes here : Bool) (x rule : ℕ) (rest : List ℕ) → test x ≡ passes → eqb x rule ≡ here
    → least (cond passes (x ∷ filter test rest) (filter test rest)) ≡ None
    → (here ≡ false → least (filter test rest) ≡ None → test rule ≡ false) → test rule ≡ false
none_cases test true here x rule rest t e h more = absurd (cc)
none_cases test false true x rule rest t e h more = subst (λ (y : ℕ). test y ≡ false) (eqb-true x rule e) t
none_cases test false false x rule rest t e h more = more refl h

least_none : (test : ℕ → Bool) (set : List ℕ) (rule : ℕ) → least (filter test set) ≡ None → has set rule ≡ true → test rule ≡ false
least_none test [] rule h e = absurd (false≢true e)
least_none test (x ∷ rest) rule h e = none_cases test (test x) (eqb x rule) x rule rest refl refl h
    (λ b m. least_none test rest rule m (or_second (eqb x rule) (has rest rule) b e))

find_cases : (test : ℕ → Bool) (passes here : Bool) (x rule : ℕ) (rest : List ℕ) → test x ≡ passes → eqb x rule ≡ here
    → cond passes (Some x) (find test rest) ≡ None → (here ≡ false → find test rest ≡ None → test rule ≡ false) → test rule ≡ false
find_cases test true here x rule rest t e h more = absurd (cc)
find_cases test false true x rule rest t e h more = subst (λ (y : ℕ). test y ≡ false) (eqb-true x rule e) t
find_cases test false false x rule rest t e h more = more refl h

pub find_none : (test : ℕ → Bool) (set : List ℕ) (rule : ℕ) → find test set ≡ None → has set rule ≡ true → test rule ≡ false
find_none test [] rule h e = absurd (false≢true e)
find_none test (x ∷ rest) rule h e = find_cases test (test x) (eqb x rule) x rule rest refl refl h
    (λ b m. find_none test rest rule m (or_second (eqb x rule) (has rest rule) b e))

-- where a rule stands
pub record IsPlaced (from : ℕ) (parts : List (List ℕ)) (rule place : ℕ) : Type 0 where
  pub index : ℕ
  pub part : List ℕ
  pub at : place ≡ from + index
  pub is : slice_get parts index ≡ Some part
  pub stands : has part rule ≡ true

only_once : (once : Bool) (n place : ℕ) → cond once (Some n) None ≡ Some place → place ≡ n
only_once true n place e = cc
only_once false n place e = absurd (cc)

placed_cases : (here : Bool) (n rule place : ℕ) (part : List ℕ) (rest : List (List ℕ)) → has part rule ≡ here
    → cond here (cond (stands_once part rule && not (stands_in rest rule)) (Some n) None) (place_from (suc n) rest rule) ≡ Some
    place → (here ≡ false → place_from (suc n) rest rule ≡ Some place → IsPlaced (suc n) rest rule place)
    → IsPlaced n (part ∷ rest) rule place
placed_cases true n rule place part rest e h more =
    let at = only_once (stands_once part rule && not (stands_in rest rule)) n place h in
    record { index = 0; part = part; at = omega arith; is = refl; stands = e }
placed_cases false n rule place part rest e h more =
    let m = more refl h in
    record { index = suc m.index; part = m.part; at = omega (arith, m.at); is = m.is; stands = m.stands }

pub placed : (n : ℕ) (parts : List (List ℕ)) (rule place : ℕ) → place_from n parts rule ≡ Some place → IsPlaced n parts rule place
placed n [] rule place h = absurd (cc)
placed n (part ∷ rest) rule place h = placed_cases (has part rule) n rule place part rest refl h (λ b m. placed (suc n) rest rule place m)

-- what a split without a fault says
pub cover_none : (a : Option ℕ) (b : Option DescentFault) → cover_fault a b ≡ None → (a ≡ None) × (b ≡ None)
cover_none None b e = (refl, e)
cover_none (Some rule) b e = absurd (cc)

pub loop_none : (a : Option ℕ) → loop_fault a ≡ None → a ≡ None
loop_none None e = refl
loop_none (Some rule) e = absurd (cc)

some_place : (place : Option ℕ) → is_none place ≡ false → (k : ℕ) × (place ≡ Some k)
some_place None e = absurd (true≢false e)
some_place (Some k) e = (k, refl)

in_set : (member : Bool) (a b : Bool) → member ≡ true → cond member a b ≡ false → a ≡ false
in_set true a b m e = e
in_set false a b m e = absurd (false≢true m)

pub covered : (set : List ℕ) (parts : List (List ℕ)) (rule : ℕ) → uncovered set parts ≡ None → has set rule ≡ true
    → (k : ℕ) × (place_in parts rule ≡ Some k)
covered set parts rule e h =
    let none = least_none (is_misplaced set parts) (set ++ concat parts) rule e (has_both set (concat parts) rule h) in
    some_place (place_in parts rule) (in_set (has set rule) (is_none (place_in parts rule)) (stands_in parts rule) h none)

pub back_none : (rule : ℕ) (lower : Option ℕ) (rest : Option DescentFault) → back_fault rule lower rest ≡ None → (lower ≡ None) × (rest ≡ None)
back_none rule None rest e = (refl, e)
back_none rule (Some next) rest e = absurd (cc)

pub none_lower : (rules : List PathRule) (set : List ℕ) (parts : List (List ℕ)) (list : List ℕ) (rule : ℕ)
    → back_edge rules set parts list ≡ None → has list rule ≡ true → lower_one rules set parts rule ≡ None
none_lower rules set parts [] rule e h = absurd (false≢true h)
none_lower rules set parts (x ∷ rest) rule e h =
    let both = back_none x (lower_one rules set parts x) (back_edge rules set parts rest) e in
    elim (or_cases (eqb x rule) (has rest rule) h) as (λ o. lower_one rules set parts rule ≡ None) [
      | inl here ↦ subst (λ (y : ℕ). lower_one rules set parts y ≡ None) (eqb-true x rule here) both.0
      | inr later ↦ none_lower rules set parts rest rule both.1 later
    ]

pub not_below : (a : Bool) (one other : Option ℕ) (j k : ℕ) → a ≡ true → one ≡ Some j → other ≡ Some k
    → (a && is_below one other) ≡ false → k ≤ j
not_below false one other j k h e f g = absurd (false≢true h)
not_below true one other j k h e f g =
    let both : nat_lt j k ≡ false = subst (λ (o : Option ℕ). is_below o (Some k) ≡ false) e
    (subst (λ (o : Option ℕ). is_below one o ≡ false) f g) in
    ltb-false j k both

pub ordered : (rules : List PathRule) (set : List ℕ) (parts : List (List ℕ)) (rule next k j : ℕ) → back_edge rules set parts set ≡ None
    → has set rule ≡ true → has set next ≡ true → is_followed rules rule next ≡ true → place_in parts rule ≡ Some k
    → place_in parts next ≡ Some j → k ≤ j
ordered rules set parts rule next k j e h n follows at to =
    let none = find_none (λ (other : ℕ). is_followed rules rule other && is_below (place_in parts other) (place_in parts rule)) set
    next (none_lower rules set parts set rule e h) n in
    not_below (is_followed rules rule next) (place_in parts next) (place_in parts rule) j k follows to at none

pub lone : (rules : List PathRule) (set : List ℕ) (parts : List (List ℕ)) (steps : List (Option ℕ)) (rule k : ℕ) (part : List ℕ)
    → first_loop rules set parts steps ≡ None → has set rule ≡ true → place_in parts rule ≡ Some k → slice_get parts k ≡ Some part
    → slice_get steps k ≡ Some None → is_lone rules rule part ≡ true
lone rules set parts steps rule k part e h at is step =
    let none = find_none (λ (other : ℕ). loops_at rules parts steps other (place_in parts other)) set rule e h in
    let one = subst (λ (o : Option ℕ). loops_at rules parts steps rule o ≡ false) at none in
    let two = subst (λ (o : Option (List ℕ)). loops_in rules rule o (slice_get steps k) ≡ false) is one in
    let three = subst (λ (o : Option (Option ℕ)). loops_in rules rule (Some part) o ≡ false) step two in
    not-false (is_lone rules rule part) three

-- the one rule of a lone part doesn't follow itself
pub not_itself : (rules : List PathRule) (rule next : ℕ) (part : List ℕ) → is_lone rules rule part ≡ true → has part rule ≡ true
    → has part next ≡ true → is_followed rules rule next ≡ true → ⊥
not_itself rules rule next [] e h n f = false≢true e
not_itself rules rule next (only ∷ one ∷ rest) e h n f = false≢true e
not_itself rules rule next (only ∷ []) e h n f =
    elim (or_cases (eqb only next) false n) as (λ o. ⊥) [
      | inl there ↦ elim (or_cases (eqb only rule) false h) as (λ o. ⊥) [
        | inl here ↦
            let same : next ≡ rule = sym (eqb-true only next there) ∙ eqb-true only rule here in
            let itself : is_followed rules rule rule ≡ true = subst (λ (y : ℕ). is_followed rules rule y ≡ true) same f in
            both_ways (is_followed rules rule rule) (not_true (is_followed rules rule rule) e) itself
        | inr b ↦ false≢true b
      ]
      | inr b ↦ false≢true b
    ]
  where
    not_true : (a : Bool) → not a ≡ true → a ≡ false
    not_true true t = absurd (false≢true t)
    not_true false t = refl

-- a split whose parts' chains end
pub record IsParted (rules : List PathRule) (set : List ℕ) (parts : List (List ℕ)) (steps : List (Option ℕ)) : Type 0 where
  pub place : (rule : ℕ) → has set rule ≡ true → (k : ℕ) × (place_in parts rule ≡ Some k)
  pub order : (rule next k j : ℕ) → has set rule ≡ true → has set next ≡ true → is_followed rules rule next ≡ true
      → place_in parts rule ≡ Some k → place_in parts next ≡ Some j → k ≤ j
  pub alone : (rule k : ℕ) (part : List ℕ) → has set rule ≡ true → place_in parts rule ≡ Some k → slice_get parts k ≡ Some part
      → slice_get steps k ≡ Some None → is_lone rules rule part ≡ true
  pub left : (k step : ℕ) (part : List ℕ) → slice_get parts k ≡ Some part → slice_get steps k ≡ Some (Some step)
      → Ends rules (filter (has part) set)
  pub stepped : length steps ≡ length parts

-- the sets that a split leaves
abbrev pub AllEnd : List PathRule → List (ℕ × List ℕ) → Type 0
AllEnd rules [] = Unit {0}
AllEnd rules (left ∷ rest) = Ends rules left.1 × AllEnd rules rest

left_at : (rules : List PathRule) (set : List ℕ) (parts : List (List ℕ)) (steps : List (Option ℕ)) (k step : ℕ) (part : List ℕ)
    → AllEnd rules (filter_map same_option (parts_left set parts steps)) → slice_get parts k ≡ Some part
    → slice_get steps k ≡ Some (Some step) → Ends rules (filter (has part) set)
left_at rules set [] steps k step part all is at = absurd (cc)
left_at rules set (p ∷ rest) [] k step part all is at = absurd (cc)
left_at rules set (p ∷ rest) (None ∷ more) zero step part all is at = absurd (cc)
left_at rules set (p ∷ rest) (Some s ∷ more) zero step part all is at = let same : p ≡ part = cc in subst
    (λ (q : List ℕ). Ends rules (filter (has q) set)) same all.0
left_at rules set (p ∷ rest) (None ∷ more) (suc k) step part all is at = left_at rules set rest more k step part all is at
left_at rules set (p ∷ rest) (Some s ∷ more) (suc k) step part all is at = left_at rules set rest more k step part all.1 is at

pub follows_is : (rules : List PathRule) (u v : Turn) → Follows rules u v → is_followed rules u.rule v.rule ≡ true
follows_is rules u v f = ap (λ (o : Option PathRule). meet_at o (slice_get rules v.rule)) f.before.is
    ∙ ap (meet_at (Some f.before.taken)) f.after.is ∙ eq-eqb f.before.taken.to f.after.taken.from f.cut

-- a turn of a part: what comes after it is of the part, or of a higher one
part_cases : (same : (a b : ℕ) → (a ≡ b) ⊎ (a ≡ b → ⊥)) (k j : ℕ) → k ≤ j → (j ≡ k) ⊎ (k < j)
part_cases same k j le = elim (same j k) as (λ o. (j ≡ k) ⊎ (k < j)) [
  | inl e ↦ inl e
  | inr n ↦ inr (above k j le n)
]
  where
    above : (a b : ℕ) → a ≤ b → (b ≡ a → ⊥) → a < b
    above a b h n = omega (arith, n)

record IsNext (rules : List PathRule) (set : List ℕ) (parts : List (List ℕ)) (k : ℕ) (v : Turn) : Type 0 where
  pub member : has set v.rule ≡ true
  pub j : ℕ
  pub place : place_in parts v.rule ≡ Some j
  pub high : (j ≡ k) ⊎ (k < j)

next_is : (rules : List PathRule) (set : List ℕ) (parts : List (List ℕ)) (steps : List (Option ℕ)) (k : ℕ) (v u : Turn)
    → IsParted rules set parts steps → Moves rules set v u → place_in parts u.rule ≡ Some k → has set v.rule ≡ true
    → IsNext rules set parts k v
next_is rules set parts steps k v u parted m at member =
    let p = parted.place v.rule member in
    record {
      member = member;
      j = p.0;
      place = p.1;
      high = part_cases cases_eq k p.0
          (parted.order u.rule v.rule k p.0 m.from_set member (follows_is rules u v m.follows) at p.1);
    }

after_cases : (rules : List PathRule) (set : List ℕ) (parts : List (List ℕ)) (k : ℕ) (v : Turn) (member : Bool)
    → has set v.rule ≡ member → (member ≡ true → IsNext rules set parts k v)
    → (has set v.rule ≡ true → place_in parts v.rule ≡ Some k → EndsAt rules set v)
    → ((j : ℕ) → k < j → has set v.rule ≡ true → place_in parts v.rule ≡ Some j → EndsAt rules set v) → EndsAt rules set v
after_cases rules set parts k v false e next same higher = outside rules set v e
after_cases rules set parts k v true e next same higher =
    let n = next refl in
    elim n.high as (λ o. EndsAt rules set v) [
      | inl here ↦ same n.member (n.place ∙ ap Some here)
      | inr above ↦ higher n.j above n.member n.place
    ]

pub stands_at : (parts : List (List ℕ)) (part : List ℕ) (rule k : ℕ) → place_in parts rule ≡ Some k → slice_get parts k ≡ Some part
    → has part rule ≡ true
stands_at parts part rule k p is =
    let w = placed 0 parts rule k p in
    let at : w.index ≡ k = omega (arith, w.at) in
    let same = same_Some w.part part (sym w.is ∙ ap (slice_get parts) at ∙ is) in
    subst (λ (q : List ℕ). has q rule ≡ true) same w.stands

-- turns of higher parts end
abbrev Higher : List PathRule → List ℕ → List (List ℕ) → ℕ → Type 0
Higher rules set parts k = (v : Turn) (j : ℕ) → k < j → has set v.rule ≡ true → place_in parts v.rule ≡ Some j → EndsAt rules set v

-- a part that a step takes
in_part : (rules : List PathRule) (set : List ℕ) (parts : List (List ℕ)) (steps : List (Option ℕ)) (k : ℕ) (part : List ℕ)
    → IsParted rules set parts steps → Higher rules set parts k → slice_get parts k ≡ Some part → (turn : Turn)
    → EndsAt rules (filter (has part) set) turn → has set turn.rule ≡ true → place_in parts turn.rule ≡ Some k → EndsAt rules set turn
in_part rules set parts steps k part parted higher is turn (Acc.intro t h) member at = Acc.intro t
    (λ v m. after_cases rules set parts k v (has set v.rule) refl (λ b. next_is rules set parts steps k v t parted m at b)
    (λ b p. in_part rules set parts steps k part parted higher is v
    (h v (record {
      follows = m.follows;
      from_set = has_filter (has part) set t.rule member (stands_at parts part t.rule k at is);
    })) b p) (λ j above b p. higher v j above b p))

-- a part that no step takes
in_lone : (rules : List PathRule) (set : List ℕ) (parts : List (List ℕ)) (steps : List (Option ℕ)) (k : ℕ) (part : List ℕ)
    → IsParted rules set parts steps → Higher rules set parts k → slice_get parts k ≡ Some part → slice_get steps k ≡ Some None
    → (turn : Turn) → has set turn.rule ≡ true → place_in parts turn.rule ≡ Some k → EndsAt rules set turn
in_lone rules set parts steps k part parted higher is step t member at = Acc.intro t
    (λ v m. after_cases rules set parts k v (has set v.rule) refl (λ b. next_is rules set parts steps k v t parted m at b)
    (λ b p. absurd (not_itself rules t.rule v.rule part (parted.alone t.rule k part member at is step)
    (stands_at parts part t.rule k at is) (stands_at parts part v.rule k p is) (follows_is rules t v m.follows)))
    (λ j above b p. higher v j above b p))

part_ends : (rules : List PathRule) (set : List ℕ) (parts : List (List ℕ)) (steps : List (Option ℕ)) (k : ℕ) (part : List ℕ)
    (step : Option (Option ℕ)) → slice_get steps k ≡ step → k < length parts → IsParted rules set parts steps
    → Higher rules set parts k → slice_get parts k ≡ Some part → (turn : Turn) → has set turn.rule ≡ true
    → place_in parts turn.rule ≡ Some k → EndsAt rules set turn
part_ends rules set parts steps k part None e low parted higher is turn member at = absurd
    (none-some _ (sym e ∙ slice_get-get_or steps k None (omega (arith, parted.stepped))))
part_ends rules set parts steps k part (Some None) e low parted higher is turn member at = in_lone rules set parts steps k part
    parted higher is e turn member at
part_ends rules set parts steps k part (Some (Some step)) e low parted higher is turn member at = in_part rules set parts steps k
    part parted higher is turn (parted.left k step part is e turn) member at

from_last : (rules : List PathRule) (set : List ℕ) (parts : List (List ℕ)) (steps : List (Option ℕ))
    → IsParted rules set parts steps → (m k : ℕ) → length parts ≤ k + m → (turn : Turn) → has set turn.rule ≡ true
    → place_in parts turn.rule ≡ Some k → EndsAt rules set turn
from_last rules set parts steps parted zero k le turn member at =
    let w = placed 0 parts turn.rule k at in
    let low = slice_get_within parts w.index w.part w.is in
    absurd (omega (arith, low, w.at, le))
from_last rules set parts steps parted (suc m) k le turn member at =
    let w = placed 0 parts turn.rule k at in
    let low = slice_get_within parts w.index w.part w.is in
    let index : w.index ≡ k = omega (arith, w.at) in
    part_ends rules set parts steps k w.part (slice_get steps k) refl (omega (arith, low)) parted
    (λ v j above b p. from_last rules set parts steps parted m j (omega (arith, le, above)) v b p)
    (ap (slice_get parts) (sym index) ∙ w.is) turn member at

in_set_cases : (rules : List PathRule) (set : List ℕ) (parts : List (List ℕ)) (steps : List (Option ℕ))
    → IsParted rules set parts steps → (turn : Turn) (member : Bool) → has set turn.rule ≡ member → EndsAt rules set turn
in_set_cases rules set parts steps parted turn false e = outside rules set turn e
in_set_cases rules set parts steps parted turn true e =
    let p = parted.place turn.rule e in
    from_last rules set parts steps parted (length parts) p.0 (omega arith) turn e p.1

-- where chains from each set that a split leaves end, chains from the split's set end
pub parted_end : (rules : List PathRule) (set : List ℕ) (parts : List (List ℕ)) (steps : List (Option ℕ))
    → length steps ≡ length parts → split_fault rules set parts steps ≡ None
    → AllEnd rules (filter_map same_option (parts_left set parts steps)) → Ends rules set
parted_end rules set parts steps count e all turn =
    let cover = cover_none (uncovered set parts)
    (edge_fault (back_edge rules set parts set) (loop_fault (first_loop rules set parts steps))) e in
    let edge = edge_none (back_edge rules set parts set) (loop_fault (first_loop rules set parts steps)) cover.1 in
    let loops = loop_none (first_loop rules set parts steps) edge.1 in
    let parted : IsParted rules set parts steps = record {
      place = λ rule h. covered set parts rule cover.0 h;
      order = λ rule next k j h n f p q. ordered rules set parts rule next k j edge.0 h n f p q;
      alone = λ rule k part h p is step. lone rules set parts steps rule k part loops h p is step;
      left = λ k step part is at. left_at rules set parts steps k step part all is at;
      stepped = count;
    } in
    in_set_cases rules set parts steps parted turn (has set turn.rule) refl
