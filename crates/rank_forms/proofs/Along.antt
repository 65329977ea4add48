-- What is followed along a rule.
use Rattle.std.proofs.Common.{◌≡◌, inl, inr, ℕ, suc, ◌<◌, ◌≤◌, Bool, true, false, cond, List, [], ◌∷◌, length, get_or, ℤ, pos}
use Rattle.std.proofs.Common.{Option, Some, None, subst, arith, ◌∙◌, sym}
use Rattle.std.proofs.lemmas.Bool.{cases_lt}
use Rattle.std.proofs.lemmas.List.{get_or_past}
use Rattle.std.proofs.lemmas.Option.{same_Some, none-some}
use Rattle.lin_core.specs.Rows.{Rise}
use Rattle.lin_core.specs.Weights.{AreRows}
use Rattle.lin_core.specs.declared.rows.WRow.{WRow}
use Rattle.descent.specs.Conditions.{AreSlots, IsSlot}
use Rattle.descent.specs.declared.rules.PathRule.{PathRule}
use Rattle.descent.specs.declared.rules.Place.{Place}
use Rattle.descent.specs.declared.rules.SlotForm.{SlotForm}
use Rattle.rank_forms.specs.declared.following.Followed.{Followed}
use Rattle.rank_forms.specs.declared.rule_links.links.Come.{Come}
use Rattle.rank_forms.specs.inner.Following.{SmallConstants, TellsBetween}
use Rattle.rank_forms.specs.Following.{TellsFollowed}
use Rattle.rank_forms.specs.rule_links.Links.{IsWay}
use Rattle.rank_forms.specs.rule_links.Positions.{is_at, slot_at}
use Rattle.rank_forms.specs.rule_links.Ties.{Known, variable_at}
use Rattle.rank_forms.specs.rule_links.FallLinks.{IsFallLink, StepsDown}
use Rattle.rank_forms.proofs.Changed.{stands_is, stands_at}

-- what holds of all slots holds of the one at a place
fits_cases : (P : SlotForm → Type 0) (here : Bool) (first slot : SlotForm) (found : Option SlotForm) → P first
    → (found ≡ Some slot → P slot) → cond here (Some first) found ≡ Some slot → P slot
fits_cases P true first slot found h more e = subst P (same_Some first slot e) h
fits_cases P false first slot found h more e = more e

pub slot_fits : (end : ℕ) (slots : List SlotForm) (size : Bool) (place : Place) (slot : SlotForm) → AreSlots end slots
    → slot_at slots size place ≡ Some slot → IsSlot end slot
slot_fits end [] size place slot fit e = absurd (none-some slot e)
slot_fits end (first ∷ rest) size place slot fit e = fits_cases (IsSlot end) (is_at size place first) first slot
    (slot_at rest size place) (fit 0 first (omega arith))
    (λ h. slot_fits end rest size place slot (λ i d low. fit (suc i) d (omega (arith, low))) h) e

pub variable_low : (end : ℕ) (slots : List SlotForm) (size : Bool) (place : Place) (variable : ℕ) → AreSlots end slots
    → variable_at slots size place ≡ Some variable → variable < end
variable_low end slots size place variable fit e =
    let stands = stands_at slots size place variable e in
    let rise : Rise end ((variable, pos 1) ∷ []) = subst (Rise end) stands.2.terms
    (slot_fits end slots size place stands.0 fit stands.1).rise in
    rise.1

pub finish_low : (end : ℕ) (slots : List SlotForm) (size : Bool) (place : Place) (variable : ℕ) → AreSlots end slots → end ≤ 65536
    → variable_at slots size place ≡ Some variable → variable < 65536
finish_low end slots size place variable fit few e = let low = variable_low end slots size place variable fit e in omega (arith, low, few)

pub small_constants : (end : ℕ) (rows : List WRow) → AreRows end rows → SmallConstants rows
small_constants end rows h i d low = (h i d low).constant

pub no_start : (negative : Bool) (rule : PathRule) (place : Place) → variable_at rule.first false place ≡ None → (c : ℤ)
    → StepsDown negative rule place c → ⊥
no_start negative rule place e c s = none-some s.start (sym e ∙ stands_is rule.first false place s.start s.ends.first)

pub no_finish : (negative : Bool) (rule : PathRule) (place : Place) → variable_at rule.last false place ≡ None → (c : ℤ)
    → StepsDown negative rule place c → ⊥
no_finish negative rule place e c s = none-some s.finish (sym e ∙ stands_is rule.last false place s.finish s.ends.last)

pub along_is : (negative : Bool) (rule : PathRule) (place : Place) (start finish : ℕ) (found : Option Followed)
    → variable_at rule.first false place ≡ Some start → variable_at rule.last false place ≡ Some finish
    → TellsBetween negative rule.rows start finish found → TellsFollowed negative rule place found
along_is negative rule place start finish None s f tells = λ c steps.
    let first : steps.start ≡ start = same_Some steps.start start
    (sym (stands_is rule.first false place steps.start steps.ends.first) ∙ s) in
    let last : steps.finish ≡ finish = same_Some steps.finish finish
    (sym (stands_is rule.last false place steps.finish steps.ends.last) ∙ f) in
    tells steps.links (subst (λ (x : ℕ). IsWay (IsFallLink negative rule.rows) start steps.links x) last
    (subst (λ (x : ℕ). IsWay (IsFallLink negative rule.rows) x steps.links steps.finish) first steps.way))
along_is negative rule place start finish (Some followed) s f tells = record {
  start = start;
  finish = finish;
  ends = record
      { first = stands_at rule.first false place start s; last = stands_at rule.last false place finish f };
  steps = tells;
}

pub known_within : (known : Known) (v : ℕ) (come : Come) → get_or known v None ≡ Some come → v < length known
known_within known v come e = elim (cases_lt v (length known)) as (λ o. v < length known) [
  | inl less ↦ less
  | inr past ↦ absurd (no_come come (sym (get_or_past known v None past) ∙ e))
]
  where
    no_come : (a : Come) → ◌≡◌ {A = Option Come} None (Some a) → ⊥
    no_come a e = absurd (cc)
