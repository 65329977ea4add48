-- Where no chain of a system's rules is infinite, its steps end.
use Rattle.std.proofs.Common.{◌≡◌, ◌∙◌, ◌+◌, ◌-◌, ◌<◌, ◌≤◌, ltb, ℕ, zero, suc, Bool, false, List, [], ◌∷◌, ◌++◌, length, map, ℤ}
use Rattle.std.proofs.Common.{pos, ◌+ℤ◌, ◌*ℤ◌, Some, slice_get, cond, refl, sym, ap, subst, arith}
use Rattle.std.specs.List.{All}
use Rattle.std.proofs.lemmas.Bool.{lt-ltb, le-ltb}
use Rattle.std.proofs.lemmas.Int.{ints}
use Rattle.std.proofs.lemmas.Option.{none-some, same_Some, slice_get_within, get_or_from_slice_get}
use Rattle.std.proofs.lemmas.List.Elements.{All-get_or}
use Rattle.std.proofs.Math.Path.{fun_ext}
use mathlib.Core.WellFounded.{Acc}
use Rattle.lin_core.specs.declared.rows.WRow.{WRow}
use Rattle.lin_core.specs.Rows.{Row, AllHold, value_of_terms}
use Rattle.lin_core.specs.Weights.{row_under, rows_under, unweighed}
use Rattle.list_views.specs.Lists.{numbers_from}
use Rattle.descent.specs.declared.rules.PathRule.{PathRule}
use Rattle.descent.specs.declared.rules.SlotForm.{SlotForm}
use Rattle.descent.specs.Chains.{Turn, IsTurn, Follows, Agree, ChainsEnd}
use Rattle.descent.specs.Valuations.{Valuation, Meets, numbers_under, slot_value}
use Rattle.its_front.specs.declared.reading.Its.{Its}
use Rattle.its_front.specs.Reading.{slot_of, slots_of}
use Rattle.its_front.specs.Systems.{IsWeightless, IsSystemRule, IsSystem}
use Rattle.its_front.specs.Steps.{Standing, IsStep, StepsEnd, numbers_between, ChainsEndSteps, StepsEndWalks}

-- ---- slots

pub record IsSlotOf (from low count i : ℕ) (slot : SlotForm) : Type 0 where
  pub within : i < count
  pub is : slot ≡ slot_of from (low + i)

pub slot_at : (from low count i : ℕ) (slot : SlotForm) → slice_get (map (slot_of from) (numbers_from low count)) i ≡ Some slot
    → IsSlotOf from low count i slot
slot_at from low zero i slot e = absurd (none-some slot e)
slot_at from low (suc count) zero slot e = record {
  within = omega arith;
  is = sym (same_Some (slot_of from low) slot e)
      ∙ ap (slot_of from) (omega arith);
}
slot_at from low (suc count) (suc i) slot e =
    let later = slot_at from (suc low) count i slot e in
    let within = later.within in
    record { within = omega (arith, within); is = later.is ∙ ap (slot_of from) (omega arith) }

-- ---- turns

-- a valuation that gives each variable a number and no weights
abbrev plainly : (ℕ → ℤ) → Valuation
plainly numbers n = record { number = numbers n; multiples = [] }

plain_under : (weigh numbers : ℕ → ℤ) → numbers_under weigh (plainly numbers) ≡ numbers
plain_under weigh numbers = fun_ext (λ n. nothing_more (numbers n))
  where
    nothing_more : (x : ℤ) → x +ℤ pos 0 ≡ x
    nothing_more x = omega (arith, ints)

weightless_row : (weigh : ℕ → ℤ) (row : WRow) → IsWeightless row → row_under weigh row ≡ row_under unweighed row
weightless_row weigh row e =
    ap (λ (weights : List (ℕ × ℤ)). record {
      kind = row.kind;
      terms = row.terms;
      constant = row.constant +ℤ value_of_terms weigh
          weights;
    }) e
    ∙ sym (ap (λ (weights : List (ℕ × ℤ)). record
    { kind = row.kind; terms = row.terms; constant = row.constant +ℤ value_of_terms unweighed weights }) e)

weightless : (weigh : ℕ → ℤ) (rows : List WRow) → All IsWeightless rows → rows_under weigh rows ≡ rows_under unweighed rows
weightless weigh [] are = refl
weightless weigh (row ∷ rest) are =
    ap (λ (first : Row). first ∷ rows_under weigh rest) (weightless_row weigh row (are 0 row (omega arith)))
    ∙ ap (λ (others : List Row). row_under unweighed row ∷ others) (weightless weigh rest (λ i d w. are (suc i) d (omega (arith, w))))

module _ (its : Its) (system : IsSystem its) where
  abbrev count : ℕ
  count = length its.vars

  own : (number : ℕ) (rule : PathRule) → slice_get its.rules number ≡ Some rule → IsSystemRule count rule
  own number rule e = subst (IsSystemRule count) (get_or_from_slice_get its.rules number rule rule e)
      (All-get_or (IsSystemRule count) its.rules number rule (slice_get_within its.rules number rule e) system.each)

  abbrev numbers_of : Standing → Standing → ℕ → ℤ
  numbers_of s t = numbers_between count s.numbers t.numbers

  abbrev turn_of : (s t : Standing) → IsStep its s t → Turn
  turn_of s t step = record { rule = step.number; valuation = plainly (numbers_of s t) }

  meets : (s t : Standing) (step : IsStep its s t) → Meets step.rule (plainly (numbers_of s t))
  meets s t step weigh weighing =
      let kept = weightless weigh step.rule.rows (own step.number step.rule step.is).weightless in
      subst (λ (rows : List Row). AllHold (numbers_under weigh (plainly (numbers_of s t))) rows) (sym kept)
      (subst (λ (numbers : ℕ → ℤ). AllHold numbers (rows_under unweighed step.rule.rows)) (sym (plain_under weigh (numbers_of s t)))
      step.rows)

  abbrev is_turn : (s t : Standing) (step : IsStep its s t) → IsTurn its.rules (turn_of s t step)
  is_turn s t step = record { taken = step.rule; is = step.is; meets = meets s t step }

  -- the value after a rule is the one before the next
  after_is : (s t : Standing) (i : ℕ) → numbers_of s t (count + i) ≡ t.numbers i
  after_is s t i =
      ap (λ (b : Bool). cond b (s.numbers (count + i)) (t.numbers ((count + i) - count))) (le-ltb (count + i) count (omega arith))
      ∙ ap t.numbers (omega arith)

  before_is : (t r : Standing) (i : ℕ) → i < count → numbers_of t r i ≡ t.numbers i
  before_is t r i within = ap (λ (b : Bool). cond b (t.numbers i) (r.numbers (i - count))) (lt-ltb i count within)

  value_is : (weigh numbers : ℕ → ℤ) (from i : ℕ) → slot_value weigh (plainly numbers) (slot_of from i) ≡ numbers (from + i)
  value_is weigh numbers from i = one (numbers (from + i))
    where
      one : (x : ℤ) → (pos 1 *ℤ (x +ℤ pos 0) +ℤ pos 0) +ℤ (pos 0 +ℤ pos 0) ≡ x
      one x = omega (arith, ints)

  agree : (s t r : Standing) (step : IsStep its s t) (next : IsStep its t r)
      → Agree (plainly (numbers_of s t)) step.rule.last (plainly (numbers_of t r)) next.rule.first
  agree s t r step next weigh weighing i j a b at_a at_b same kind =
      let rule = own step.number step.rule step.is in
      let rule_after = own next.number next.rule next.is in
      let one = slot_at count 0 count i a (ap (λ (slots : List SlotForm). slice_get slots i) (sym rule.last) ∙ at_a) in
      let other = slot_at 0 0 count j b (ap (λ (slots : List SlotForm). slice_get slots j) (sym rule_after.first) ∙ at_b) in
      let by_id : 0 + i ≡ 0 + j = sym (ap (λ (slot : SlotForm). slot.id) one.is) ∙ same ∙ ap (λ (slot : SlotForm). slot.id) other.is in
      let ids : i ≡ j = omega (arith, by_id) in
      let at_i : 0 + i ≡ i = omega arith in
      let at_j : 0 + j ≡ j = omega arith in
      ap (slot_value weigh (plainly (numbers_of s t))) (one.is ∙ ap (slot_of count) at_i)
      ∙ value_is weigh (numbers_of s t) count i
      ∙ after_is s t i
      ∙ ap t.numbers ids
      ∙ sym (before_is t r j other.within)
      ∙ ap (numbers_of t r) (sym at_j)
      ∙ sym (value_is weigh (numbers_of t r) 0 j)
      ∙ sym (ap (slot_value weigh (plainly (numbers_of t r))) (other.is ∙ ap (slot_of 0) at_j))

  follows : (s t r : Standing) (step : IsStep its s t) (next : IsStep its t r) → Follows its.rules (turn_of s t step) (turn_of t r next)
  follows s t r step next = record {
    before = is_turn s t step;
    after = is_turn t r next;
    cut = step.to ∙ sym next.from;
    values = agree s t r step next;
  }

  ends_after : (turn : Turn) → Acc (λ (v u : Turn). Follows its.rules u v) turn → (s t : Standing) (step : IsStep its s t)
      → turn ≡ turn_of s t step → Acc (λ (t s : Standing). IsStep its s t) t
  ends_after turn (Acc.intro u h) s t step e =
      Acc.intro t (λ r next. ends_after (turn_of t r next)
      (h (turn_of t r next) (subst (λ (v : Turn). Follows its.rules v (turn_of t r next)) (sym e) (follows s t r step next)))
      t r next refl)

  all_end : ChainsEnd its.rules → StepsEnd its
  all_end ends s = Acc.intro s (λ t step. ends_after (turn_of s t step) (ends (turn_of s t step)) s t step refl)

pub chains_end_steps : ChainsEndSteps
chains_end_steps its system ends = all_end its system ends

-- ---- no infinite walk

no_walk : (its : Its) (standing : Standing) → Acc (λ (t s : Standing). IsStep its s t) standing → (walk : ℕ → Standing)
    → walk zero ≡ standing → ((n : ℕ) → IsStep its (walk n) (walk (suc n))) → ⊥
no_walk its standing (Acc.intro s h) walk e f = no_walk its (walk (suc zero))
    (h (walk (suc zero)) (subst (λ (u : Standing). IsStep its u (walk (suc zero))) e (f zero))) (λ n. walk (suc n)) refl (λ n. f (suc n))

pub steps_end_walks : StepsEndWalks
steps_end_walks its ends walk steps = no_walk its (walk zero) (ends (walk zero)) walk refl steps

-- ---- slots, one more

slots_after : (from low n : ℕ) → map (slot_of from) (numbers_from low (suc n)) ≡ map (slot_of from) (numbers_from low n) ++ slot_of
    from (low + n) ∷ []
slots_after from low zero = let same : low ≡ low + zero = omega arith in ap (λ (i : ℕ). slot_of from i ∷ []) same
slots_after from low (suc n) =
    let same : suc low + n ≡ low + suc n = omega arith in
    ap (λ (rest : List SlotForm). slot_of from low ∷ rest)
    (slots_after from (suc low) n ∙ ap (λ (i : ℕ). map (slot_of from) (numbers_from (suc low) n) ++ slot_of from i ∷ []) same)

pub slots_more : (from n : ℕ) → map (slot_of from) (numbers_from 0 (n + 1)) ≡ map (slot_of from) (numbers_from 0 n) ++ slot_of from n ∷ []
slots_more from n =
    let next : n + 1 ≡ suc n = omega arith in
    let last : 0 + n ≡ n = omega arith in
    ap (λ (k : ℕ). map (slot_of from) (numbers_from 0 k)) next ∙ slots_after from 0 n
    ∙ ap (λ (i : ℕ). map (slot_of from) (numbers_from 0 n) ++ slot_of from i ∷ []) last
