-- How often a chain takes the rules that a rank step counts: at most as often as its whole form can fall.
use Rattle.std.proofs.Common.{◌≡◌, ◌⊎◌, ◌∙◌, inl, inr, ℕ, ◌+◌, ◌≤◌, Bool, true, false, cond, List, [], ◌∷◌, ◌++◌, ℤ, pos, negsuc}
use Rattle.std.proofs.Common.{◌+ℤ◌, ◌≤ℤ◌, Option, Some, None, refl, sym, ap, subst, arith}
use Rattle.std.specs.Prelude.{◌&&◌, not, slice_get}
use Rattle.std.proofs.lemmas.Bool.{both_ways, and_parts, cases_Bool, not-true}
use Rattle.std.proofs.lemmas.Int.{ints}
use Rattle.lin_core.specs.Rows.{value_of_target}
use Rattle.descent.specs.declared.proof.CutForm.{CutForm}
use Rattle.descent.specs.declared.proof.RankStep.{RankStep}
use Rattle.descent.specs.declared.rules.PathRule.{PathRule}
use Rattle.descent.specs.Chains.{Turn, IsTurn, Follows}
use Rattle.descent.specs.Conditions.{AreRules, IsRanked}
use Rattle.descent.specs.lemmas.RankingLaws.{ranking_laws}
use Rattle.descent.specs.Laws.{start_value, end_value}
use Rattle.descent.specs.Orders.{OrderLaws}
use Rattle.descent.specs.Rankings.{Ranking, weigh_of, form_at, is_taken, line_of, takes_start, takes_end, weak_fault, strict_fault}
use Rattle.descent.specs.Rankings.{bounded_fault}
use Rattle.descent.specs.Splits.{has}
use Rattle.descent.specs.Steps.{ranking_of, ranking_fault, weak_ones}
use Rattle.descent.specs.Valuations.{Valuation, numbers_under}
use Rattle.descent.proofs.Ranked.{WeakAt, StrictAt, ranked_at, rule_fits, level, worth_of}
use Rattle.descent.proofs.Walked.{weighs}
use Rattle.bound_check.specs.Bounds.{not_below_zero}
use Rattle.bound_check.proofs.LawChains.{IsChain, is_turn}

-- ---- numbers

no_lower : (a b : ℤ) → a ≤ℤ b → not_below_zero a ≤ not_below_zero b
no_lower (pos n) (pos m) h = omega (arith, ints, h)
no_lower (pos n) (negsuc m) h = absurd (omega (arith, ints, h))
no_lower (negsuc n) b h = omega arith

one_lower : (a b : ℤ) → pos 1 ≤ℤ b → (a +ℤ pos 1) ≤ℤ b → 1 + not_below_zero a ≤ not_below_zero b
one_lower (pos n) (pos m) p h = omega (arith, ints, h)
one_lower (pos n) (negsuc m) p h = absurd (omega (arith, ints, p))
one_lower (negsuc n) (pos m) p h = omega (arith, ints, p)
one_lower (negsuc n) (negsuc m) p h = absurd (omega (arith, ints, p))

-- ---- how often

abbrev pub once : Bool → ℕ
once true = 1
once false = 0

abbrev pub uses : (ℕ → Bool) → List Turn → ℕ
uses counted [] = 0
uses counted (turn ∷ turns) = once (counted turn.rule) + uses counted turns

-- ---- whole forms

-- the forms of a step and others
abbrev pub with_forms : RankStep → List CutForm → Ranking
with_forms step added = record { forms = step.forms ++ added; weights = cond step.size step.weights []; sizes = step.size }

-- where a chain has a first turn, the form begins there with a value
abbrev pub BeginsAt : List PathRule → Ranking → List Turn → ℤ → Type 0
BeginsAt rules ranking [] value = Unit {0}
BeginsAt rules ranking (turn ∷ turns) value = (t : IsTurn rules turn) → takes_start ranking t.taken ≡ true
    → start_value ranking t.taken turn.valuation ≡ value

-- the forms are the step's own ones at the ends of rules of its set, and are shown never to rise on others
pub record IsWhole (rules : List PathRule) (set : List ℕ) (step : RankStep) (added : List CutForm) : Type 0 where
  pub inside : (number : ℕ) (rule : PathRule) → has set number ≡ true → slice_get rules number ≡ Some rule
      → (form_at (step.forms ++ added) rule.from ≡ form_at step.forms rule.from)
      × (form_at (step.forms ++ added) rule.to ≡ form_at step.forms rule.to)
  pub outside : (number : ℕ) (rule : PathRule) → has set number ≡ false → slice_get rules number ≡ Some rule
      → (fall : List (ℕ × ℤ)) × (weak_fault (with_forms step added) number rule fall ≡ None)

module _ (rules : List PathRule) (set : List ℕ) (step : RankStep) (added : List CutForm) (fit : AreRules rules) (ranked : IsRanked step)
    (shown : ranking_fault (ranking_of step) rules set step.rules ≡ None) (is_whole : IsWhole rules set step added) where
  abbrev whole : Ranking
  whole = with_forms step added

  abbrev own : Ranking
  own = ranking_of step

  abbrev is_used : ℕ → Bool
  is_used rule = has set rule && not (has (weak_ones step.rules) rule)

  own_laws : OrderLaws (weak_fault own) (strict_fault own) (bounded_fault own) (λ rule. takes_start own rule ≡ true)
      (λ rule. takes_end own rule ≡ true) (start_value own) (end_value own)
  own_laws = ranking_laws own (weighs step.size step.weights ranked.weights)

  whole_laws : OrderLaws (weak_fault whole) (strict_fault whole) (bounded_fault whole) (λ rule. takes_start whole rule ≡ true)
      (λ rule. takes_end whole rule ≡ true) (start_value whole) (end_value whole)
  whole_laws = ranking_laws whole (weighs step.size step.weights ranked.weights)

  -- what a turn does to the whole form
  pub record Moved (rule : PathRule) (valuation : Valuation) (used : Bool) : Type 0 where
    pub takes_first : takes_start whole rule ≡ true
    pub takes_last : takes_end whole rule ≡ true
    pub keeps : end_value whole rule valuation ≤ℤ start_value whole rule valuation
    pub starts : used ≡ true → pos 0 ≤ℤ start_value whole rule valuation
    pub falls : used ≡ true → (end_value whole rule valuation +ℤ pos 1) ≤ℤ start_value whole rule valuation

  -- where the whole form is the step's own one, it moves as that
  module _ (rule : PathRule) (valuation : Valuation) (from : form_at whole.forms rule.from ≡ form_at own.forms rule.from)
      (to : form_at whole.forms rule.to ≡ form_at own.forms rule.to) where
    start_same : start_value whole rule valuation ≡ start_value own rule valuation
    start_same = ap (λ (form : Option CutForm). value_of_target (numbers_under (weigh_of own) valuation) (line_of own form rule.first)) from

    end_same : end_value whole rule valuation ≡ end_value own rule valuation
    end_same = ap (λ (form : Option CutForm). value_of_target (numbers_under (weigh_of own) valuation) (line_of own form rule.last)) to

    takes_both : takes_start own rule ≡ true → takes_end own rule ≡ true → (takes_start whole rule ≡ true) × (takes_end whole rule ≡ true)
    takes_both a b = (
      ap (λ (form : Option CutForm). is_taken own form rule.first) from ∙ a,
      ap (λ (form : Option CutForm). is_taken own form rule.last) to ∙ b,
    )

    lower_same : (fall : ℤ) → (end_value own rule valuation +ℤ fall) ≤ℤ start_value own rule valuation
        → (end_value whole rule valuation +ℤ fall) ≤ℤ start_value whole rule valuation
    lower_same fall h = subst (λ (z : ℤ). (end_value whole rule valuation +ℤ fall) ≤ℤ z) (sym start_same)
        (subst (λ (z : ℤ). (z +ℤ fall) ≤ℤ start_value own rule valuation) (sym end_same) h)

    keeps_same : end_value own rule valuation ≤ℤ start_value own rule valuation
        → end_value whole rule valuation ≤ℤ start_value whole rule valuation
    keeps_same h = subst (λ (z : ℤ). end_value whole rule valuation ≤ℤ z) (sym start_same)
        (subst (λ (z : ℤ). z ≤ℤ start_value own rule valuation) (sym end_same) h)

  fallen_kept : (a b : ℤ) → (a +ℤ pos 1) ≤ℤ b → a ≤ℤ b
  fallen_kept a b h = omega (arith, ints)

  -- a rule of the set
  moved_inside : (turn : Turn) (t : IsTurn rules turn) → has set turn.rule ≡ true
      → WeakAt (weak_fault own) turn.rule t.taken (weak_ones step.rules) ⊎ StrictAt (strict_fault own) (bounded_fault own) turn.rule t.taken
      → Moved t.taken turn.valuation (is_used turn.rule)
  moved_inside turn t member (inl w) =
      let same = is_whole.inside turn.rule t.taken member t.is in
      let takes = own_laws.weak_takes turn.rule t.taken w.fall w.shown in
      let both = takes_both t.taken turn.valuation same.0 same.1 takes.0 takes.1 in
      record {
        takes_first = both.0;
        takes_last = both.1;
        keeps = keeps_same t.taken turn.valuation same.0 same.1
            (own_laws.weak_keeps turn.rule t.taken w.fall turn.valuation (rule_fits rules turn.rule t.taken fit t.is) w.shown t.meets);
        starts = λ u. absurd (weak_unused u w.stays);
        falls = λ u. absurd (weak_unused u w.stays);
      }
    where
      weak_unused : is_used turn.rule ≡ true → has (weak_ones step.rules) turn.rule ≡ true → ⊥
      weak_unused u h = both_ways (has (weak_ones step.rules) turn.rule)
          (not-true (has (weak_ones step.rules) turn.rule)
          (and_parts (has set turn.rule) (not (has (weak_ones step.rules) turn.rule)) u).1) h
  moved_inside turn t member (inr s) =
      let same = is_whole.inside turn.rule t.taken member t.is in
      let takes = own_laws.strict_takes turn.rule t.taken s.fall s.shown in
      let both = takes_both t.taken turn.valuation same.0 same.1 takes.0 takes.1 in
      let fits = rule_fits rules turn.rule t.taken fit t.is in
      let falls = lower_same t.taken turn.valuation same.0 same.1 (pos 1)
      (own_laws.strict_falls turn.rule t.taken s.fall turn.valuation fits s.shown t.meets) in
      let starts = subst (λ (z : ℤ). pos 0 ≤ℤ z) (sym (start_same t.taken turn.valuation same.0 same.1))
      (own_laws.bounded_starts turn.rule t.taken s.bound turn.valuation fits s.starts t.meets) in
      record {
        takes_first = both.0;
        takes_last = both.1;
        keeps = fallen_kept (end_value whole t.taken turn.valuation) (start_value whole t.taken turn.valuation) falls;
        starts = λ u. starts;
        falls = λ u. falls;
      }

  moved_outside : (turn : Turn) (t : IsTurn rules turn) → has set turn.rule ≡ false → Moved t.taken turn.valuation (is_used turn.rule)
  moved_outside turn t other =
      let w = is_whole.outside turn.rule t.taken other t.is in
      let takes = whole_laws.weak_takes turn.rule t.taken w.0 w.1 in
      record {
        takes_first = takes.0;
        takes_last = takes.1;
        keeps = whole_laws.weak_keeps turn.rule t.taken w.0 turn.valuation (rule_fits rules turn.rule t.taken fit t.is) w.1 t.meets;
        starts = λ u. absurd (unused u);
        falls = λ u. absurd (unused u);
      }
    where
      unused : is_used turn.rule ≡ true → ⊥
      unused u = both_ways (has set turn.rule) other (and_parts (has set turn.rule) (not (has (weak_ones step.rules) turn.rule)) u).0

  pub moved : (turn : Turn) (t : IsTurn rules turn) → Moved t.taken turn.valuation (is_used turn.rule)
  moved turn t = elim (cases_Bool (has set turn.rule)) as (λ o. Moved t.taken turn.valuation (is_used turn.rule)) [
    | inl member ↦ moved_inside turn t member
        (ranked_at (weak_fault own) (strict_fault own) (bounded_fault own) rules set step.rules turn.rule t.taken shown member t.is)
    | inr other ↦ moved_outside turn t other
  ]

  -- ---- along a chain

  abbrev height : Turn → ℤ
  height turn = level (start_value whole) rules turn

  height_is : (turn : Turn) (t : IsTurn rules turn) → height turn ≡ start_value whole t.taken turn.valuation
  height_is turn t = ap (worth_of (start_value whole) turn.valuation) t.is

  next_is : (turn next : Turn) (f : Follows rules turn next) → end_value whole f.before.taken turn.valuation ≡ height next
  next_is turn next f = whole_laws.joined f.before.taken f.after.taken turn.valuation next.valuation (moved turn f.before).takes_last
      (moved next f.after).takes_first f.cut f.values ∙ sym (height_is next f.after)

  abbrev top : Turn → ℕ
  top turn = not_below_zero (height turn +ℤ pos 1)

  used_last : (turn : Turn) (t : IsTurn rules turn) (used : Bool) → is_used turn.rule ≡ used → once used ≤ top turn
  used_last turn t false e = omega arith
  used_last turn t true e =
      let h = subst (λ (z : ℤ). pos 0 ≤ℤ z) (sym (height_is turn t)) ((moved turn t).starts e) in
      above_zero (height turn) h
    where
      above_zero : (z : ℤ) → pos 0 ≤ℤ z → 1 ≤ not_below_zero (z +ℤ pos 1)
      above_zero z h = one_lower (negsuc 0) (z +ℤ pos 1) (omega (arith, ints, h)) (omega (arith, ints, h))

  used_more : (turn next : Turn) (f : Follows rules turn next) (used : Bool) → is_used turn.rule ≡ used → once used + top next ≤ top turn
  used_more turn next f used e =
      let m = moved turn f.before in
      by_used used (height turn) (height next) e
      (subst (λ (z : ℤ). z ≤ℤ height turn) (next_is turn next f)
      (subst (λ (z : ℤ). end_value whole f.before.taken turn.valuation ≤ℤ z) (sym (height_is turn f.before)) m.keeps))
      (λ u. subst (λ (z : ℤ). pos 0 ≤ℤ z) (sym (height_is turn f.before)) (m.starts u))
      (λ u. subst (λ (z : ℤ). (z +ℤ pos 1) ≤ℤ height turn) (next_is turn next f)
      (subst (λ (z : ℤ). (end_value whole f.before.taken turn.valuation +ℤ pos 1) ≤ℤ z) (sym (height_is turn f.before)) (m.falls u)))
    where
      by_used : (b : Bool) (here there : ℤ) → is_used turn.rule ≡ b → there ≤ℤ here → (is_used turn.rule ≡ true → pos 0 ≤ℤ here)
          → (is_used turn.rule ≡ true → (there +ℤ pos 1) ≤ℤ here)
          → once b + not_below_zero (there +ℤ pos 1) ≤ not_below_zero (here +ℤ pos 1)
      by_used false here there e keeps starts falls =
          let low = no_lower (there +ℤ pos 1) (here +ℤ pos 1) (omega (arith, ints, keeps)) in
          omega (arith, low)
      by_used true here there e keeps starts falls =
          one_lower (there +ℤ pos 1) (here +ℤ pos 1) (omega (arith, ints, starts e)) (omega (arith, ints, falls e))

  uses_bound : (turn : Turn) (turns : List Turn) → IsChain rules (turn ∷ turns) → uses is_used (turn ∷ turns) ≤ top turn
  uses_bound turn [] chain =
      let h = used_last turn chain.0 (is_used turn.rule) refl in
      omega (arith, h)
  uses_bound turn (next ∷ turns) chain =
      let h = used_more turn next chain.0 (is_used turn.rule) refl in
      let more = uses_bound next turns chain.1 in
      omega (arith, h, more)

  pub uses_few : (turns : List Turn) (value : ℤ) → IsChain rules turns → BeginsAt rules whole turns value
      → uses is_used turns ≤ not_below_zero (value +ℤ pos 1)
  uses_few [] value chain begins = omega arith
  uses_few (turn ∷ turns) value chain begins =
      let t = is_turn rules turn turns chain.0 in
      subst (λ (z : ℤ). uses is_used (turn ∷ turns) ≤ not_below_zero (z +ℤ pos 1)) (height_is turn t ∙ begins t (moved turn t).takes_first)
      (uses_bound turn turns chain)
