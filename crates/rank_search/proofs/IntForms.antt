-- A form of ints that never rises, by the numbers that are found, is shown on each rule.
use Rattle.std.proofs.Common.{◌≡◌, ℕ, suc, ◌≤◌, Bool, true, false, cond, List, [], ◌∷◌, length, get_or, ℤ, pos, negsuc, ◌+ℤ◌, ◌-ℤ◌}
use Rattle.std.proofs.Common.{◌*ℤ◌, Option, Some, None, subst, ap, arith, refl, ◌∙◌, sym}
use Rattle.std.specs.Prelude.{unsigned_abs, int_lt}
use Rattle.std.specs.List.{All, list_any}
use Rattle.std.proofs.lemmas.Bool.{and_parts}
use Rattle.std.proofs.lemmas.Int.{ints}
use Rattle.std.proofs.lemmas.List.{length-map}
use Rattle.std.proofs.lemmas.Option.{same_Some, none-some}
use Rattle.lin_core.specs.declared.rows.WRow.{WRow}
use Rattle.lin_core.specs.Weights.{row_under, rows_under, unweighed}
use Rattle.descent.specs.Conditions.{IsRule}
use Rattle.descent.specs.declared.rules.PathRule.{PathRule}
use Rattle.descent.specs.declared.rules.Place.{Place}
use Rattle.descent.specs.declared.rules.SlotForm.{SlotForm}
use Rattle.rank_forms.specs.declared.following.BoundRow.{BoundRow}
use Rattle.rank_forms.specs.declared.following.Followed.{Followed}
use Rattle.rank_forms.specs.declared.rule_links.links.Come.{Come}
use Rattle.rank_forms.specs.declared.reasons.Reasons.{Reasons}
use Rattle.rank_forms.specs.Following.{IsFollowed}
use Rattle.rank_forms.specs.Graphs.{HasClose, IsCloseInt, IsPathRule, IsPlainRule}
use Rattle.rank_search.specs.Plain.{FormMoves, IsIntForm}
use Rattle.rank_forms.specs.rule_links.Positions.{AreEnds, is_at, is_place, same, slot_at}
use Rattle.rank_forms.specs.Reasons.{TellsForm, TellsIntAt, TellsInts, both_of, both_reasons, close_from, followed_by, followed_of}
use Rattle.rank_forms.specs.Reasons.{int_made, int_reasons_by, side}
use Rattle.rank_forms.specs.rule_links.Ties.{IsMoved, Known, ties_from}
use Rattle.rank_forms.proofs.Along.{variable_low}
use Rattle.rank_forms.proofs.Changed.{stands_is}
use Rattle.rank_forms.proofs.Finished.{one_finished}
use Rattle.rank_forms.proofs.Formed.{AreAllEnds, AreParts}
use Rattle.rank_forms.proofs.IntReasons.{close_found, int_reasoned}
use Rattle.rank_forms.proofs.Reasoned.{IsReasoned, both_reasoned, reasoned_followed}

-- ---- what holds of all slots holds of the one at a place

abbrev HasKind : (SlotForm → Type 0) → Bool → SlotForm → Type 0
HasKind P size slot = P slot × (same slot.size size ≡ true)

has_cases : (P : SlotForm → Type 0) (here size : Bool) (place : Place) (first slot : SlotForm) (later : Option SlotForm)
    → is_at size place first ≡ here → P first → (later ≡ Some slot → HasKind P size slot) → cond here (Some first) later ≡ Some slot
    → HasKind P size slot
has_cases P true size place first slot later t h more e = subst (HasKind P size) (same_Some first slot e)
    (h, (and_parts (same first.size size) (list_any (λ (other : Place). is_place other place) first.places) t).0)
has_cases P false size place first slot later t h more e = more e

pub slot_has : (P : SlotForm → Type 0) (size : Bool) (place : Place) (slots : List SlotForm) (slot : SlotForm) → All P slots
    → slot_at slots size place ≡ Some slot → HasKind P size slot
slot_has P size place [] slot all e = absurd (none-some slot e)
slot_has P size place (first ∷ rest) slot all e = has_cases P (is_at size place first) size place first slot
    (slot_at rest size place) refl (all 0 first (omega arith))
    (λ f. slot_has P size place rest slot (λ i d low. all (suc i) d (omega (arith, low))) f) e

pub not_size : (size : Bool) → same size false ≡ true → size ≡ false
not_size true e = absurd (cc)
not_size false e = refl

pub is_size : (size : Bool) → same size true ≡ true → size ≡ true
is_size true e = refl
is_size false e = absurd (cc)

-- ---- an int
side_close : (test : Bool) (rows : List WRow) (variable : ℕ) → HasClose rows variable (pos 1) → HasClose rows variable (negsuc 0)
    → HasClose rows variable (cond test (negsuc 0) (pos 1))
side_close true rows variable up down = down
side_close false rows variable up down = up

pub record IsIntTold (rule : PathRule) (place : Place) (times c : ℤ) (found : Option Reasons) : Type 0 where
  pub reasons : Reasons
  pub is : found ≡ Some reasons
  pub start : ℕ
  pub finish : ℕ
  pub ends : AreEnds rule false place start finish
  pub reasoned : IsReasoned (rows_under unweighed rule.rows) ((start, times) ∷ []) ((finish, times) ∷ []) 1073725440 8589934592 reasons
  pub falls : reasons.falls ≡ pos 0 -ℤ times *ℤ c

int_told : (rule : PathRule) (term : Place × ℤ) (c : ℤ) (found : Option Reasons) → IsRule rule → IsPathRule rule → IsPlainRule rule
    → unsigned_abs term.1 ≤ 4 → IsMoved rule term.0 c → TellsIntAt rule (ties_from rule.rows 0 rule.rows) term found
    → IsIntTold rule term.0 term.1 c found
int_told rule term c found is path plain small moved tells =
    let start = moved.start in
    let finish = moved.finish in
    let told = tells.0 start finish moved.ends in
    let by = moved.by in
    let known : told.0 ≡ by.known = one_finished (ties_from rule.rows 0 rule.rows) start told.0 by.known told.1 by.finished in
    let come : get_or told.0 finish None ≡ Some by.come = ap (λ (l : Known). get_or l finish None) known ∙ by.at in
    let slot = moved.ends.first in
    let has = slot_has (IsCloseInt rule.rows) false term.0 rule.first slot.0 plain.ints slot.1 in
    let close = has.0 (not_size slot.0.size has.1) start slot.2 in
    let bound = close_found rule.rows start (side term.1) (side_close (int_lt term.1 (pos 0)) rule.rows start close.0 close.1) in
    let low = variable_low rule.vars rule.first false term.0 start is.first (stands_is rule.first false term.0 start slot) in
    let reasons = int_made by.come bound.0 term.1 told.0 finish in
    record {
      reasons = reasons;
      is = told.2 ∙ ap (λ (o : Option Come). int_reasons_by o (close_from start (side term.1) 0 rule.rows) term.1 told.0 finish)
          come ∙ ap (λ (o : Option BoundRow). int_reasons_by (Some by.come) o term.1 told.0 finish) bound.1;
      start = start;
      finish = finish;
      ends = moved.ends;
      reasoned = int_reasoned rule.vars rule.rows start finish term.1 told.0 by.come bound.0 is.rows path.variables plain.short
          small (let few = path.variables in omega (arith, low, few)) told.1 come bound.1;
      falls = ap (λ (z : ℤ). pos 0 -ℤ term.1 *ℤ z) by.adds;
    }

-- ---- a form
pub record IsFormTold (rule : PathRule) (form : List (Place × ℤ)) (c : ℤ) (found : Option Reasons) : Type 0 where
  pub reasons : Reasons
  pub is : found ≡ Some reasons
  pub start : List (ℕ × ℤ)
  pub finish : List (ℕ × ℤ)
  pub ends : AreAllEnds rule false form start finish
  pub reasoned : IsReasoned (rows_under unweighed rule.rows) start finish 2147450880 17179869184 reasons
  pub falls : reasons.falls ≡ pos 0 -ℤ c

wider : (rule : PathRule) (start finish : List (ℕ × ℤ)) (reasons : Reasons) → IsReasoned (rows_under unweighed rule.rows) start
    finish 1073725440 8589934592 reasons → IsReasoned (rows_under unweighed rule.rows) start finish 2147450880 17179869184 reasons
wider rule start finish reasons h = record {
  coefficients = h.coefficients;
  constant = h.constant;
  allowed = h.allowed;
  small = λ n. let s = h.small n in omega (arith, s);
  bound_coefficients = h.bound_coefficients;
  bound_constant = h.bound_constant;
  bound_allowed = h.bound_allowed;
  bound_small = λ n. let s = h.bound_small n in omega (arith, s);
  base = let b = h.base in omega (arith, b);
}

one_form : (rule : PathRule) (one : Place × ℤ) (c : ℤ) (found : Option Reasons) → IsRule rule → IsPathRule rule → IsPlainRule rule
    → unsigned_abs one.1 ≤ 4 → FormMoves IsMoved rule (one ∷ []) c → TellsIntAt rule (ties_from rule.rows 0 rule.rows) one found
    → IsFormTold rule (one ∷ []) c found
one_form rule one c found is path plain small moves tells =
    let told = int_told rule one moves.0 found is path plain small moves.2 tells in
    record {
      reasons = told.reasons;
      is = told.is;
      start = (told.start, one.1) ∷ [];
      finish = (told.finish, one.1) ∷ [];
      ends = record { first = (told.ends.first, refl, tt); last = (told.ends.last, refl, tt) };
      reasoned = wider rule ((told.start, one.1) ∷ []) ((told.finish, one.1) ∷ []) told.reasons told.reasoned;
      falls = told.falls ∙ alone (one.1 *ℤ moves.0) moves.1 c moves.3 moves.4;
    }
  where
    alone : (a e c : ℤ) → e ≡ pos 0 → c ≡ a +ℤ e → pos 0 -ℤ a ≡ pos 0 -ℤ c
    alone a e c z h = omega (arith, ints)

two_form : (rule : PathRule) (one other : Place × ℤ) (c : ℤ) (found : Option Reasons) → IsRule rule → IsPathRule rule
    → IsPlainRule rule → unsigned_abs one.1 ≤ 4 → unsigned_abs other.1 ≤ 4 → FormMoves IsMoved rule (one ∷ other ∷ []) c
    → TellsForm rule (ties_from rule.rows 0 rule.rows) (one ∷ other ∷ []) found → IsFormTold rule (one ∷ other ∷ []) c found
two_form rule one other c found is path plain small too moves tells =
    let more = moves.3 in
    let a = int_told rule one moves.0 tells.0 is path plain small moves.2 tells.2 in
    let b = int_told rule other more.0 tells.1 is path plain too more.2 tells.3 in
    record {
      reasons = both_reasons a.reasons b.reasons;
      is = tells.4 ∙ ap (λ (o : Option Reasons). both_of o tells.1) a.is ∙ ap (λ (o : Option Reasons). both_of (Some a.reasons) o) b.is;
      start = (a.start, one.1) ∷ (b.start, other.1) ∷ [];
      finish = (a.finish, one.1) ∷ (b.finish, other.1) ∷ [];
      ends = record { first = (a.ends.first, refl, (b.ends.first, refl, tt)); last = (a.ends.last, refl, (b.ends.last, refl, tt)) };
      reasoned = both_reasoned (rows_under unweighed rule.rows) ((a.start, one.1) ∷ []) ((a.finish, one.1) ∷ [])
          ((b.start, other.1) ∷ []) ((b.finish, other.1) ∷ []) 1073725440 8589934592 1073725440 8589934592 a.reasons b.reasons
          a.reasoned b.reasoned;
      falls = ap (λ (z : ℤ). z +ℤ b.reasons.falls) a.falls ∙ ap (λ (z : ℤ). (pos 0 -ℤ one.1 *ℤ moves.0) +ℤ z) b.falls
          ∙ together (one.1 *ℤ moves.0) (other.1 *ℤ more.0) moves.1 more.1 c more.3 more.4 moves.4;
    }
  where
    together : (a b e z c : ℤ) → z ≡ pos 0 → e ≡ b +ℤ z → c ≡ a +ℤ e → (pos 0 -ℤ a) +ℤ (pos 0 -ℤ b) ≡ pos 0 -ℤ c
    together a b e z c y f g = omega (arith, ints)

one_low : (times : ℤ) → unsigned_abs times ≡ 1 → unsigned_abs times ≤ 4
one_low times e = omega (arith, e)

pub form_told : (rule : PathRule) (form : List (Place × ℤ)) (c : ℤ) (found : Option Reasons) → IsRule rule → IsPathRule rule
    → IsPlainRule rule → IsIntForm form → FormMoves IsMoved rule form c → TellsForm rule (ties_from rule.rows 0 rule.rows) form
    found → IsFormTold rule form c found
form_told rule [] c found is path plain shape moves tells = absurd shape
form_told rule (one ∷ []) c found is path plain shape moves tells = one_form rule one c found is path plain (one_low one.1 shape)
    moves tells
form_told rule (one ∷ other ∷ []) c found is path plain shape moves tells = two_form rule one other c found is path plain shape.0.0
    shape.1.0 moves tells
form_told rule (one ∷ other ∷ more ∷ rest) c found is path plain shape moves tells = absurd shape

pub form_parts : (form : List (Place × ℤ)) → IsIntForm form → AreParts form
form_parts [] shape = absurd shape
form_parts (one ∷ []) shape = record { few = omega arith; small = (one_low one.1 shape, tt) }
form_parts (one ∷ other ∷ []) shape = record { few = omega arith; small = (shape.0.0, (shape.1.0, tt)) }
form_parts (one ∷ other ∷ more ∷ rest) shape = absurd shape

-- ---- with multipliers
pub record IsIntsTold (rule : PathRule) (form : List (Place × ℤ)) (c : ℤ) (found : Option Followed) : Type 0 where
  pub followed : Followed
  pub is : found ≡ Some followed
  pub start : List (ℕ × ℤ)
  pub finish : List (ℕ × ℤ)
  pub ends : AreAllEnds rule false form start finish
  pub shown : IsFollowed (rows_under unweighed rule.rows) start finish followed
  pub falls : followed.falls ≡ pos 0 -ℤ c

pub ints_told : (rule : PathRule) (form : List (Place × ℤ)) (c : ℤ) (found : Option Followed) → IsRule rule → IsPathRule rule
    → IsPlainRule rule → IsIntForm form → FormMoves IsMoved rule form c → TellsInts form rule found → IsIntsTold rule form c found
ints_told rule form c found is path plain shape moves tells =
    let told = form_told rule form c tells.0 is path plain shape moves tells.1 in
    record {
      followed = followed_by (length rule.rows) told.reasons;
      is = tells.2 ∙ ap (followed_of (length rule.rows)) told.is;
      start = told.start;
      finish = told.finish;
      ends = told.ends;
      shown = reasoned_followed (rows_under unweighed rule.rows) told.start told.finish 2147450880 17179869184 (length rule.rows)
          told.reasons told.reasoned (sym (length-map rule.rows (row_under unweighed))) (omega arith) (omega arith);
      falls = told.falls;
    }
