-- A plain form that ranks rules makes a rank step.
use Rattle.std.proofs.Common.{◌≡◌, ◌∙◌, inl, inr, ◌+◌, ◌<◌, ◌≤◌, ◌^◌, eqb, ltb, not, ◌&&◌, ◌||◌, cond, ℕ, zero, suc, Bool, true}
use Rattle.std.proofs.Common.{false, List, [], ◌∷◌, length, map, ℤ, pos, negsuc, ◌+ℤ◌, ◌-ℤ◌, ◌*ℤ◌, ◌≤ℤ◌, Option, Some, None}
use Rattle.std.proofs.Common.{is_some, slice_get, get_or, refl, sym, ap, subst, arith}
use Rattle.std.specs.Prelude.{int_le, unsigned_abs}
use Rattle.std.specs.Ordering.{int_eq}
use Rattle.std.specs.List.{All, list_all, list_any}
use Rattle.std.specs.Option.{option_map, option_or}
use Rattle.std.proofs.lemmas.Bool.{and_parts, eq-eqb, eqb-true, false≢true}
use Rattle.std.proofs.lemmas.Int.{ints}
use Rattle.std.proofs.lemmas.List.{length-map}
use Rattle.std.proofs.lemmas.Option.{none-some, same_Some, slice_get-get_or, slice_get-map, slice_get_within}
use Rattle.list_views.specs.Lists.{numbers_from}
use Rattle.list_views.proofs.Orders.{int_le_true, int_le_from, int_eq_true}
use Rattle.list_views.proofs.Quantified.{all_at, holds_at}
use Rattle.lin_core.specs.declared.rows.RowKind.{RowKind}
use Rattle.lin_core.specs.declared.rows.RowKind.TheVariants.{AtLeastZero, IsZero}
use Rattle.lin_core.specs.declared.rows.WRow.{WRow}
use Rattle.lin_core.specs.declared.faults.LinFault.{LinFault}
use Rattle.lin_core.specs.Combination.{number_of, summed_coefficient, summed_constant, fault_at_row, first_of_two, first_fault_from}
use Rattle.lin_core.specs.Combination.{first_fault}
use Rattle.lin_core.specs.Rows.{Row, coefficient_of, value_of_terms}
use Rattle.lin_core.specs.Weights.{row_under, rows_under, unweighed, IsRow, AreRows}
use Rattle.descent.specs.declared.proof.CutForm.{CutForm}
use Rattle.descent.specs.declared.proof.RankRule.{RankRule}
use Rattle.descent.specs.declared.rules.PathRule.{PathRule}
use Rattle.descent.specs.declared.rules.Place.{Place}
use Rattle.descent.specs.declared.rules.SlotForm.{SlotForm}
use Rattle.rank_forms.specs.declared.following.Bound.{Bound}
use Rattle.rank_forms.specs.declared.following.Followed.{Followed}
use Rattle.rank_forms.specs.Following.{IsBoundAt, IsFollowed}
use Rattle.rank_forms.specs.Forms.{AreCuts, forms_over, list_from, needed, or_zero}
use Rattle.rank_forms.specs.RankSteps.{IsRankStep}
use Rattle.rank_forms.proofs.Formed.{StandAll, AllSmall, rule_lines}
use Rattle.rank_forms.proofs.Shown.{follow_there, int_step}
use Rattle.rank_forms.specs.rule_links.Positions.{slot_at, StandsAt}
use Rattle.its_front.specs.Reading.{slot_of, slots_of}
use Rattle.its_front.specs.Systems.{IsWeightless, IsSystemRule}
use Rattle.its_front.specs.Words.{before}
use Rattle.its_call.specs.its_search.Changes.{Form, change_of_row, change_of, form_change, IsUnit, IsUnitTerm}
use Rattle.its_call.specs.its_search.Forms.{IsPlainForm, same_terms, is_inequality, is_bound, has_bound, is_fall, falls, keeps, fits, ranks}
use Rattle.its_call.specs.its_search.inner.Following.{IsFit, first_coefficient, reason_from, reasons_of, bound_from, followed_with, followed_of}
use Rattle.its_call.specs.its_search.inner.Following.{follow_each, part_of}
use Rattle.its_call.specs.its_search.inner.Tried.{IsCounted}
use Rattle.its_call.proofs.Asked.{path_rules_of}
use Rattle.its_call.proofs.Plain.{plain_units, plain_short}
use Rattle.its_call.proofs.Reasons.{IsBefore, before_is, IsReason, same_term, Reasons, added_is, reasons_are}

-- ---- sums

abbrev after_terms : ℕ → Form → Form
after_terms count form = map (λ (term : ℕ × ℤ). (count + term.0, term.1)) form

module _ (count : ℕ) (rows : List WRow) (weightless : All IsWeightless rows) where
  abbrev under : List Row
  under = rows_under unweighed rows

  row_at : (k : ℕ) (row : WRow) → slice_get rows k ≡ Some row → slice_get under k ≡ Some (row_under unweighed row)
  row_at k row e = slice_get-map (row_under unweighed) rows k ∙ ap (option_map (row_under unweighed)) e

  constant_at : (k : ℕ) (row : WRow) → slice_get rows k ≡ Some row → (row_under unweighed row).constant ≡ row.constant
  constant_at k row e = ap (λ (weights : List (ℕ × ℤ)). row.constant +ℤ value_of_terms unweighed weights)
      (all_at IsWeightless rows k row weightless e) ∙ nothing_more row.constant
    where
      nothing_more : (x : ℤ) → x +ℤ pos 0 ≡ x
      nothing_more x = omega (arith, ints)

  -- the row of an entry
  entry_at : (term entry : ℕ × ℤ) (change : ℤ) (is : IsReason count rows 0 term entry change)
      → slice_get under entry.0 ≡ Some (row_under unweighed is.row)
  entry_at term entry change is = let number = is.number in ap (λ (n : ℕ). slice_get under n) (omega (arith, number))
      ∙ row_at is.k is.row is.at

  one_coefficient : (c a t : ℤ) (p q : Bool) → IsUnit a → t ≡ c *ℤ a
      → t *ℤ (cond p a (pos 0) +ℤ (cond q (pos 0 -ℤ a) (pos 0) +ℤ pos 0)) ≡ (cond p c (pos 0) +ℤ pos 0) -ℤ (cond q c (pos 0) +ℤ pos 0)
  one_coefficient c a t p q (inl u) e = subst
      (λ (z : ℤ). t *ℤ (cond p z (pos 0) +ℤ (cond q (pos 0 -ℤ z) (pos 0) +ℤ pos 0)) ≡ (cond p c (pos 0) +ℤ pos 0) -ℤ
      (cond q c (pos 0) +ℤ pos 0)) (sym u) (by p q (e ∙ ap (λ (z : ℤ). c *ℤ z) u))
    where
      by : (p q : Bool) → t ≡ c *ℤ pos 1 → t *ℤ (cond p (pos 1) (pos 0) +ℤ (cond q (pos 0 -ℤ pos 1) (pos 0) +ℤ pos 0))
          ≡ (cond p c (pos 0) +ℤ pos 0) -ℤ (cond q c (pos 0) +ℤ pos 0)
      by true true f = omega (arith, ints, f)
      by true false f = omega (arith, ints, f)
      by false true f = omega (arith, ints, f)
      by false false f = omega (arith, ints, f)
  one_coefficient c a t p q (inr u) e = subst
      (λ (z : ℤ). t *ℤ (cond p z (pos 0) +ℤ (cond q (pos 0 -ℤ z) (pos 0) +ℤ pos 0)) ≡ (cond p c (pos 0) +ℤ pos 0) -ℤ
      (cond q c (pos 0) +ℤ pos 0)) (sym u) (by p q (e ∙ ap (λ (z : ℤ). c *ℤ z) u))
    where
      by : (p q : Bool) → t ≡ c *ℤ negsuc 0 → t *ℤ (cond p (negsuc 0) (pos 0) +ℤ (cond q (pos 0 -ℤ negsuc 0) (pos 0) +ℤ pos 0))
          ≡ (cond p c (pos 0) +ℤ pos 0) -ℤ (cond q c (pos 0) +ℤ pos 0)
      by true true f = omega (arith, ints, f)
      by true false f = omega (arith, ints, f)
      by false true f = omega (arith, ints, f)
      by false false f = omega (arith, ints, f)

  both_sums : (a b c d e f : ℤ) → a ≡ (b +ℤ pos 0) -ℤ (c +ℤ pos 0) → d ≡ e -ℤ f → a +ℤ d ≡ (b +ℤ e) -ℤ (c +ℤ f)
  both_sums a b c d e f g h = omega (arith, ints, g, h)

  coefficients : (form : Form) (entries : List (ℕ × ℤ)) (change : ℤ) (variable : ℕ) → Reasons count rows form entries change
      → summed_coefficient under entries variable ≡ coefficient_of variable form -ℤ coefficient_of variable (after_terms count form)
  coefficients [] entries change variable h = ap (λ (all : List (ℕ × ℤ)). summed_coefficient under all variable) h.0
  coefficients (term ∷ rest) [] change variable h = absurd h
  coefficients (term ∷ rest) (entry ∷ more) change variable h =
      let is = h.2 in
      let first = ap (λ (o : Option Row). entry.1 *ℤ number_of (λ row. coefficient_of variable row.terms) o) (entry_at term entry h.0 is)
      ∙ ap (λ (terms : List (ℕ × ℤ)). entry.1 *ℤ coefficient_of variable terms) is.terms
      ∙ one_coefficient term.1 is.a entry.1 (eqb term.0 variable) (eqb (count + term.0) variable) is.unit is.times in
      both_sums (entry.1 *ℤ number_of (λ row. coefficient_of variable row.terms) (slice_get under entry.0))
      (cond (eqb term.0 variable) term.1 (pos 0)) (cond (eqb (count + term.0) variable) term.1 (pos 0))
      (summed_coefficient under more variable) (coefficient_of variable rest) (coefficient_of variable (after_terms count rest))
      first (coefficients rest more h.1 variable h.3)

  one_constant : (c a t d k : ℤ) → IsUnit c → IsUnit a → t ≡ c *ℤ a → d ≡ a *ℤ k → t *ℤ k ≡ c *ℤ d
  one_constant c a t d k (inl u) (inl v) e f = let g : t ≡ pos 1 = e ∙ ap (λ (z : ℤ). z *ℤ a) u
      ∙ ap (λ (z : ℤ). pos 1 *ℤ z) v in let h : d ≡ pos 1 *ℤ k = f ∙ ap (λ (z : ℤ). z *ℤ k) v in ap (λ (z : ℤ). z *ℤ k) g ∙ last h
      ∙ ap (λ (z : ℤ). z *ℤ d) (sym u)
    where
      last : d ≡ pos 1 *ℤ k → pos 1 *ℤ k ≡ pos 1 *ℤ d
      last h = omega (arith, ints, h)
  one_constant c a t d k (inl u) (inr v) e f = let g : t ≡ negsuc 0 = e ∙ ap (λ (z : ℤ). z *ℤ a) u
      ∙ ap (λ (z : ℤ). pos 1 *ℤ z) v in let h : d ≡ negsuc 0 *ℤ k = f ∙ ap (λ (z : ℤ). z *ℤ k) v in ap (λ (z : ℤ). z *ℤ k) g
      ∙ last h ∙ ap (λ (z : ℤ). z *ℤ d) (sym u)
    where
      last : d ≡ negsuc 0 *ℤ k → negsuc 0 *ℤ k ≡ pos 1 *ℤ d
      last h = omega (arith, ints, h)
  one_constant c a t d k (inr u) (inl v) e f = let g : t ≡ negsuc 0 = e ∙ ap (λ (z : ℤ). z *ℤ a) u
      ∙ ap (λ (z : ℤ). negsuc 0 *ℤ z) v in let h : d ≡ pos 1 *ℤ k = f ∙ ap (λ (z : ℤ). z *ℤ k) v in ap (λ (z : ℤ). z *ℤ k) g
      ∙ last h ∙ ap (λ (z : ℤ). z *ℤ d) (sym u)
    where
      last : d ≡ pos 1 *ℤ k → negsuc 0 *ℤ k ≡ negsuc 0 *ℤ d
      last h = omega (arith, ints, h)
  one_constant c a t d k (inr u) (inr v) e f = let g : t ≡ pos 1 = e ∙ ap (λ (z : ℤ). z *ℤ a) u
      ∙ ap (λ (z : ℤ). negsuc 0 *ℤ z) v in let h : d ≡ negsuc 0 *ℤ k = f ∙ ap (λ (z : ℤ). z *ℤ k) v in ap (λ (z : ℤ). z *ℤ k) g
      ∙ last h ∙ ap (λ (z : ℤ). z *ℤ d) (sym u)
    where
      last : d ≡ negsuc 0 *ℤ k → pos 1 *ℤ k ≡ negsuc 0 *ℤ d
      last h = omega (arith, ints, h)

  constants : (form : Form) (entries : List (ℕ × ℤ)) (change : ℤ) → All (IsUnitTerm count) form
      → Reasons count rows form entries change → summed_constant under entries ≡ change
  constants [] entries change units h = ap (summed_constant under) h.0 ∙ sym h.1
  constants (term ∷ rest) [] change units h = absurd h
  constants (term ∷ rest) (entry ∷ more) change units h =
      let is = h.2 in
      let unit = units 0 term (omega arith) in
      let first = ap (λ (o : Option Row). entry.1 *ℤ number_of (λ row. row.constant) o) (entry_at term entry h.0 is)
      ∙ ap (λ (z : ℤ). entry.1 *ℤ z) (constant_at is.k is.row is.at)
      ∙ one_constant term.1 is.a entry.1 h.0 is.row.constant unit.1 is.unit is.times is.change_is in
      ap (λ (z : ℤ). z +ℤ summed_constant under more) first
      ∙ ap (λ (z : ℤ). term.1 *ℤ h.0 +ℤ z) (constants rest more h.1 (λ i d w. units (suc i) d (omega (arith, w))) h.3)
      ∙ sym h.4

  unit_small : (c a t : ℤ) → IsUnit c → IsUnit a → t ≡ c *ℤ a → ltb (2 ^ 31) (unsigned_abs t) ≡ false
  unit_small c a t u v e = ap (λ (z : ℤ). ltb (2 ^ 31) (unsigned_abs z)) e ∙ by u v
    where
      by : IsUnit c → IsUnit a → ltb (2 ^ 31) (unsigned_abs (c *ℤ a)) ≡ false
      by (inl u) (inl v) = ap (λ (z : ℤ). ltb (2 ^ 31) (unsigned_abs (z *ℤ a))) u
          ∙ ap (λ (z : ℤ). ltb (2 ^ 31) (unsigned_abs (pos 1 *ℤ z))) v
      by (inl u) (inr v) = ap (λ (z : ℤ). ltb (2 ^ 31) (unsigned_abs (z *ℤ a))) u
          ∙ ap (λ (z : ℤ). ltb (2 ^ 31) (unsigned_abs (pos 1 *ℤ z))) v
      by (inr u) (inl v) = ap (λ (z : ℤ). ltb (2 ^ 31) (unsigned_abs (z *ℤ a))) u
          ∙ ap (λ (z : ℤ). ltb (2 ^ 31) (unsigned_abs (negsuc 0 *ℤ z))) v
      by (inr u) (inr v) = ap (λ (z : ℤ). ltb (2 ^ 31) (unsigned_abs (z *ℤ a))) u
          ∙ ap (λ (z : ℤ). ltb (2 ^ 31) (unsigned_abs (negsuc 0 *ℤ z))) v

  no_fault_at : (n : ℕ) (t : ℤ) (row : Row) → row.kind ≡ IsZero → ltb (2 ^ 31) (unsigned_abs t) ≡ false
      → fault_at_row n t (Some row) ≡ None
  no_fault_at n t row k s = rw (s, k) refl

  no_fault : (form : Form) (entries : List (ℕ × ℤ)) (change : ℤ) (n : ℕ) → All (IsUnitTerm count) form
      → Reasons count rows form entries change → first_fault_from under n entries ≡ None
  no_fault [] entries change n units h = ap (first_fault_from under n) h.0
  no_fault (term ∷ rest) [] change n units h = absurd h
  no_fault (term ∷ rest) (entry ∷ more) change n units h =
      let is = h.2 in
      let unit = units 0 term (omega arith) in
      ap (λ (o : Option LinFault). first_of_two o (first_fault_from under (suc n) more))
      (ap (fault_at_row n entry.1) (entry_at term entry h.0 is) ∙ no_fault_at n entry.1 (row_under unweighed is.row) is.kind
      (unit_small term.1 is.a entry.1 unit.1 is.unit is.times))
      ∙ no_fault rest more h.1 (suc n) (λ i d w. units (suc i) d (omega (arith, w))) h.3

  -- two variables have two rows
  few : (form : Form) (entries : List (ℕ × ℤ)) (change : ℤ) → IsPlainForm count form → Reasons count rows form entries change
      → length entries ≤ length under
  few [] entries change p h = absurd p
  few (one ∷ []) [] change p h = absurd h
  few (one ∷ []) (entry ∷ more) change p h =
      let within = slice_get_within rows h.2.k h.2.row h.2.at in
      let long = length-map rows (row_under unweighed) in
      let alone : length more ≡ 0 = ap length h.3.0 in
      omega (arith, within, long, alone)
  few (one ∷ other ∷ []) [] change p h = absurd h
  few (one ∷ other ∷ []) (entry ∷ []) change p h = absurd h.3
  few (one ∷ other ∷ []) (entry ∷ second ∷ more) change p h =
      let is = h.2 in
      let too = h.3.2 in
      let within = slice_get_within rows is.k is.row is.at in
      let within_too = slice_get_within rows too.k too.row too.at in
      let differ : is.k ≡ too.k → ⊥ = λ e. apart (same_row is.k too.k is.row too.row e is.at too.at) is.terms too.terms in
      let long = length-map rows (row_under unweighed) in
      let alone : length more ≡ 0 = ap length h.3.3.0 in
      omega (arith, within, within_too, differ, long, alone)
    where
      same_row : (k l : ℕ) (a b : WRow) → k ≡ l → slice_get rows k ≡ Some a → slice_get rows l ≡ Some b → a ≡ b
      same_row k l a b e f g = same_Some a b (sym f ∙ ap (λ (n : ℕ). slice_get rows n) e ∙ g)

      apart : {a b : WRow} {c d : ℤ} {cs ds : List (ℕ × ℤ)} → a ≡ b → a.terms ≡ (one.0, c) ∷ cs → b.terms ≡ (other.0, d) ∷ ds → ⊥
      apart e f g =
          let order = p.0 in
          let same : one.0 ≡ other.0 = sym (ap first f) ∙ ap (λ (row : WRow). first row.terms) e ∙ ap first g in
          omega (arith, order, same)
        where
          first : List (ℕ × ℤ) → ℕ
          first [] = 0
          first (term ∷ rest) = term.0
  few (one ∷ other ∷ more ∷ rest) entries change p h = absurd p

  -- ---- bounds

  terms_same : (one other : List (ℕ × ℤ)) → same_terms one other ≡ true → one ≡ other
  terms_same [] [] e = refl
  terms_same [] (b ∷ other) e = absurd (false≢true e)
  terms_same (a ∷ one) [] e = absurd (false≢true e)
  terms_same (a ∷ one) (b ∷ other) e =
      let parts = and_parts (eqb a.0 b.0 && int_eq a.1 b.1) (same_terms one other) e in
      let first = and_parts (eqb a.0 b.0) (int_eq a.1 b.1) parts.0 in
      ap (λ (t : ℕ × ℤ). t ∷ one) (same_term a b (eqb-true a.0 b.0 first.0) (int_eq_true a.1 b.1 first.1))
      ∙ ap (λ (ts : List (ℕ × ℤ)). b ∷ ts) (terms_same one other parts.1)

  record BoundsAt (form : Form) (all : List WRow) (n : ℕ) (bound : Bound) : Type 0 where
    k : ℕ
    row : WRow
    at : slice_get all k ≡ Some row
    kind : row.kind ≡ AtLeastZero
    terms : row.terms ≡ form
    rows_are : bound.rows ≡ (n + k, pos 1) ∷ []
    base : bound.base ≡ row.constant

  inequality : (kind : RowKind) → is_inequality kind ≡ true → kind ≡ AtLeastZero
  inequality AtLeastZero e = refl
  inequality IsZero e = absurd (false≢true e)

  bounds_at : (form : Form) (all : List WRow) (n : ℕ) (bound : Bound) → bound_from form n all ≡ Some bound → BoundsAt form all n bound
  bounds_at form [] n bound e = absurd (none-some bound e)
  bounds_at form (row ∷ rest) n bound e = by (is_bound form row) refl e (bounds_at form rest (suc n) bound)
    where
      by : (b : Bool) → is_bound form row ≡ b → cond b (Some (record { rows = (n, pos 1) ∷ []; base = row.constant }))
          (bound_from form (suc n) rest) ≡ Some bound
          → (bound_from form (suc n) rest ≡ Some bound → BoundsAt form rest (suc n) bound) → BoundsAt form (row ∷ rest) n bound
      by true t f more =
          let parts = and_parts (is_inequality row.kind) (same_terms row.terms form) t in
          let same = same_Some (record { rows = (n, pos 1) ∷ []; base = row.constant }) bound f in
          record {
            k = 0;
            row = row;
            at = refl;
            kind = inequality row.kind parts.0;
            terms = terms_same row.terms form parts.1;
            rows_are = sym (ap (λ (b : Bound). b.rows) same) ∙ ap (λ (m : ℕ). (m, pos 1) ∷ []) (omega arith);
            base = sym (ap (λ (b : Bound). b.base) same);
          }
      by false t f more =
          let is = more f in
          record {
            k = suc is.k;
            row = is.row;
            at = is.at;
            kind = is.kind;
            terms = is.terms;
            rows_are = is.rows_are
                ∙ ap (λ (m : ℕ). (m, pos 1) ∷ []) (omega arith);
            base = is.base;
          }

  bound_is : (form : Form) (bound : Bound) → AreRows (count + count) rows → bound_from form 0 rows ≡ Some bound
      → IsBoundAt under form bound
  bound_is form bound are e =
      let is = bounds_at form rows 0 bound e in
      let at : slice_get under (0 + is.k) ≡ Some (row_under unweighed is.row) = ap (λ (n : ℕ). slice_get under n) (omega arith)
      ∙ row_at is.k is.row is.at in
      let long = length-map rows (row_under unweighed) in
      let within = slice_get_within rows is.k is.row is.at in
      record {
        fault = ap (first_fault under) is.rows_are ∙ ap (λ (o : Option LinFault). first_of_two o None)
            (ap (fault_at_row 0 (pos 1)) at ∙ kind_ok (row_under unweighed is.row) is.kind);
        few = let one : length bound.rows ≡ 1 = ap length is.rows_are in omega (arith, one, long, within);
        coefficients = λ variable. ap (λ (entries : List (ℕ × ℤ)). summed_coefficient under entries variable) is.rows_are
            ∙ ap (λ (o : Option Row). pos 1 *ℤ number_of (λ row. coefficient_of variable row.terms) o +ℤ pos 0) at
            ∙ once (coefficient_of variable is.row.terms) ∙ ap (coefficient_of variable) is.terms;
        constant = ap (summed_constant under) is.rows_are
            ∙ ap (λ (o : Option Row). pos 1 *ℤ number_of (λ row. row.constant) o +ℤ pos 0) at
            ∙ once (row_under unweighed is.row).constant ∙ constant_at is.k is.row is.at ∙ sym is.base;
        small = subst (λ (z : ℤ). unsigned_abs z ≤ 2 ^ 40) (sym is.base)
            (all_at (IsRow (count + count)) rows is.k is.row are is.at).constant;
      }
    where
      once : (x : ℤ) → pos 1 *ℤ x +ℤ pos 0 ≡ x
      once x = omega (arith, ints)

      kind_ok : (row : Row) → row.kind ≡ AtLeastZero → fault_at_row 0 (pos 1) (Some row) ≡ None
      kind_ok row k = rw k refl

-- ---- what a form falls by

record IsWith (form : Form) (rows : List WRow) (change : Option ℤ) (fall : Option (List (ℕ × ℤ))) (followed : Followed) : Type 0 where
  by : ℤ
  entries : List (ℕ × ℤ)
  change_is : change ≡ Some by
  fall_is : fall ≡ Some entries
  falls_is : followed.falls ≡ pos 0 -ℤ by
  entries_are : followed.fall ≡ entries
  bound_is : followed.bound ≡ bound_from form 0 rows

with_is : (form : Form) (rows : List WRow) (change : Option ℤ) (fall : Option (List (ℕ × ℤ))) (followed : Followed)
    → followed_with form rows change fall ≡ Some followed → IsWith form rows change fall followed
with_is form rows None fall followed e = absurd (none-some followed e)
with_is form rows (Some by) None followed e = absurd (none-some followed e)
with_is form rows (Some by) (Some entries) followed e =
    let same = same_Some (record { falls = pos 0 -ℤ by; fall = entries; bound = bound_from form 0 rows }) followed e in
    record {
      by = by;
      entries = entries;
      change_is = refl;
      fall_is = refl;
      falls_is = sym (ap (λ (f : Followed). f.falls) same);
      entries_are = sym (ap (λ (f : Followed). f.fall) same);
      bound_is = sym (ap (λ (f : Followed). f.bound) same);
    }

-- ---- a form that never rises is followed

is_changed : (change : Option ℤ) → keeps change ≡ true → (by : ℤ) × (change ≡ Some by)
is_changed None h = absurd (false≢true h)
is_changed (Some by) h = (by, refl)

reason_there : (count : ℕ) (term : ℕ × ℤ) (n : ℕ) (rows : List WRow) (change : ℤ) → change_of count term.0 rows ≡ Some change
    → (entry : ℕ × ℤ) × (reason_from count term n rows ≡ Some entry)
reason_there count term n [] change e = absurd (none-some change e)
reason_there count term n (row ∷ rest) change e = by (change_of_row count term.0 row.kind row.terms row.constant) e
    (reason_there count term (suc n) rest change)
  where
    by : (found : Option ℤ) → option_or found (change_of count term.0 rest) ≡ Some change
        → (change_of count term.0 rest ≡ Some change → (entry : ℕ × ℤ) × (reason_from count term (suc n) rest ≡ Some entry))
        → (entry : ℕ × ℤ) × (cond (is_some found) (Some (n, term.1 *ℤ first_coefficient row.terms))
        (reason_from count term (suc n) rest) ≡ Some entry)
    by None f later = later f
    by (Some d) f later = ((n, term.1 *ℤ first_coefficient row.terms), refl)

reasons_there : (count : ℕ) (rows : List WRow) (form : Form) (change : ℤ) → form_change count rows form ≡ Some change
    → (entries : List (ℕ × ℤ)) × (reasons_of count rows form ≡ Some entries)
reasons_there count rows [] change e = ([], refl)
reasons_there count rows (term ∷ rest) change e =
    let sum = added_is term.1 (change_of count term.0 rows) (form_change count rows rest) change e in
    let first = reason_there count term 0 rows sum.one sum.first_is in
    let others = reasons_there count rows rest sum.other sum.rest_is in
    (first.0 ∷ others.0, ap (λ (o : Option (ℕ × ℤ)). before o (reasons_of count rows rest)) first.1 ∙ ap (before (Some first.0)) others.1)

pub is_followed : (count : ℕ) (form : Form) (rule : PathRule) (found : Option Followed) → found ≡ followed_of count form rule.rows
    → IsFit count form rule → found ≡ None → ⊥
is_followed count form rule found e fit none =
    let change = is_changed (form_change count rule.rows form) fit in
    let reasons = reasons_there count rule.rows form change.0 change.1 in
    let followed : Followed = record { falls = pos 0 -ℤ change.0; fall = reasons.0; bound = bound_from form 0 rule.rows } in
    none-some followed (sym none ∙ e ∙ ap (λ (o : Option ℤ). followed_with form rule.rows o (reasons_of count rule.rows form))
    change.1 ∙ ap (followed_with form rule.rows (Some change.0)) reasons.1)

pub all_fit_of : (count : ℕ) (rules : List PathRule) (form : Form) → ranks count rules form ≡ true → All (IsFit count form) rules
all_fit_of count rules form h = λ i d w. holds_at (fits count form) rules i (get_or rules i d)
    (and_parts (list_all (fits count form) rules) (list_any (falls count form) rules) h).0 (slice_get-get_or rules i d w)

shown_is : (count : ℕ) (form : Form) (rule : PathRule) (followed : Followed) → IsSystemRule count rule → IsPlainForm count form
    → IsWith form rule.rows (form_change count rule.rows form) (reasons_of count rule.rows form) followed
    → IsFollowed (rows_under unweighed rule.rows) form (after_terms count form) followed
shown_is count form rule followed is plain with_all =
    let rows = rule.rows in
    let units = plain_units count form plain in
    let reasons = reasons_are count rows form with_all.entries with_all.by with_all.fall_is with_all.change_is in
    let falls = with_all.falls_is in
    record {
      fault = ap (first_fault (rows_under unweighed rows)) with_all.entries_are
          ∙ no_fault count rows is.weightless form with_all.entries with_all.by 0 units reasons;
      few = subst (λ (entries : List (ℕ × ℤ)). length entries ≤ length (rows_under unweighed rows)) (sym with_all.entries_are)
          (few count rows is.weightless form with_all.entries with_all.by plain reasons);
      coefficients = λ variable. ap (λ (entries : List (ℕ × ℤ)). summed_coefficient (rows_under unweighed rows) entries variable)
          with_all.entries_are ∙ coefficients count rows is.weightless form with_all.entries with_all.by variable reasons;
      constant = ap (λ (entries : List (ℕ × ℤ)). summed_constant (rows_under unweighed rows) entries +ℤ followed.falls)
          with_all.entries_are ∙ ap (λ (z : ℤ). z +ℤ followed.falls)
          (constants count rows is.weightless form with_all.entries with_all.by units reasons) ∙ opposite with_all.by followed.falls falls;
      bound = λ bound e. bound_is count rows is.weightless form bound is.rows (sym with_all.bound_is ∙ e);
    }
  where
    opposite : (a b : ℤ) → b ≡ pos 0 -ℤ a → a +ℤ b ≡ pos 0
    opposite a b e = omega (arith, ints, e)

-- ---- places

find_slot : (from low count i : ℕ) → low ≤ i → i < low + count → slot_at (map (slot_of from) (numbers_from low count)) false
    (record { frame = 0; stack = false; index = i }) ≡ Some (slot_of from i)
find_slot from low zero i l h = absurd (omega (arith, l, h))
find_slot from low (suc count) i l h = by (eqb low i) refl (find_slot from (suc low) count i)
  where
    more : eqb low i ≡ false → low ≡ i → ⊥
    more e f = false≢true (sym e ∙ eq-eqb low i f)

    above : (low ≡ i → ⊥) → suc low ≤ i
    above n = omega (arith, n, l)

    by : (b : Bool) → eqb low i ≡ b
        → (suc low ≤ i → i < suc low + count → slot_at (map (slot_of from) (numbers_from (suc low) count)) false
        (record { frame = 0; stack = false; index = i }) ≡ Some (slot_of from i))
        → cond (b || false) (Some (slot_of from low))
        (slot_at (map (slot_of from) (numbers_from (suc low) count)) false (record { frame = 0; stack = false; index = i })) ≡ Some
        (slot_of from i)
    by true e later = ap (λ (n : ℕ). Some (slot_of from n)) (eqb-true low i e)
    by false e later = later (above (more e)) (omega (arith, h))

stands : (count from i : ℕ) (slots : List SlotForm) → slots ≡ slots_of count from → i < count
    → StandsAt slots false (record { frame = 0; stack = false; index = i }) (from + i)
stands count from i slots e l = (
  slot_of from i,
  ap (λ (all : List SlotForm). slot_at all false (record { frame = 0; stack = false; index = i })) e
      ∙ find_slot from 0 count i (omega arith) (omega (arith, l)),
  record { terms = refl; constant = refl; weights = refl },
)

first_stand : (count : ℕ) (slots : List SlotForm) (form : Form) → slots ≡ slots_of count 0 → All (IsUnitTerm count) form
    → StandAll slots false (map part_of form) form
first_stand count slots [] e units = tt
first_stand count slots (term ∷ rest) e units =
    let at = stands count 0 term.0 slots e (units 0 term (omega arith)).0 in
    let same : 0 + term.0 ≡ term.0 = omega arith in (
      subst (StandsAt slots false (record { frame = 0; stack = false; index = term.0 })) same at,
      refl,
      first_stand count slots rest
          e (λ i d w. units (suc i) d (omega (arith, w))),
    )

last_stand : (count : ℕ) (slots : List SlotForm) (form : Form) → slots ≡ slots_of count count → All (IsUnitTerm count) form
    → StandAll slots false (map part_of form) (after_terms count form)
last_stand count slots [] e units = tt
last_stand count slots (term ∷ rest) e units = (
  stands count count term.0 slots e (units 0 term (omega arith)).0,
  refl,
  last_stand count slots rest e
      (λ i d w. units (suc i) d (omega (arith, w))),
)

unit_low : (c : ℤ) → IsUnit c → unsigned_abs c ≤ 4
unit_low c (inl e) = subst (λ (z : ℤ). unsigned_abs z ≤ 4) (sym e) (omega arith)
unit_low c (inr e) = subst (λ (z : ℤ). unsigned_abs z ≤ 4) (sym e) (omega arith)

small_parts : (count : ℕ) (form : Form) → All (IsUnitTerm count) form → AllSmall (map part_of form)
small_parts count [] units = tt
small_parts count (term ∷ rest) units =
    (unit_low term.1 (units 0 term (omega arith)).1, small_parts count rest (λ i d w. units (suc i) d (omega (arith, w))))

-- ---- all rules

each_followed : (count : ℕ) (form : Form) (rules : List PathRule) (all : List Followed) → follow_each count form rules ≡ Some all
    → (length all ≡ length rules) × ((n : ℕ) (rule : PathRule) (followed : Followed) → slice_get rules n ≡ Some rule
    → slice_get all n ≡ Some followed → followed_of count form rule.rows ≡ Some followed)
each_followed count form [] all e = (ap length (sym (same_Some [] all e)), λ n rule followed at too. absurd (none-some rule at))
each_followed count form (first ∷ rest) all e =
    let split = before_is (followed_of count form first.rows) (follow_each count form rest) all e in
    let later = each_followed count form rest split.others split.rest_is in (
      ap length split.all_is ∙ ap suc later.0,
      λ n rule followed at too. by split later.1 n rule followed at
          (ap (λ (xs : List Followed). slice_get xs n) (sym split.all_is) ∙ too),
    )
  where
    by : (split : IsBefore (followed_of count form first.rows) (follow_each count form rest) all)
        → ((n : ℕ) (rule : PathRule) (followed : Followed) → slice_get rest n ≡ Some rule → slice_get split.others n ≡ Some followed
        → followed_of count form rule.rows ≡ Some followed) → (n : ℕ) (rule : PathRule) (followed : Followed)
        → slice_get (first ∷ rest) n ≡ Some rule → slice_get (split.item ∷ split.others) n ≡ Some followed
        → followed_of count form rule.rows ≡ Some followed
    by split later zero rule followed at too = ap (λ (r : PathRule). followed_of count form r.rows) (sym (same_Some first rule at))
        ∙ split.first_is ∙ ap Some (same_Some split.item followed too)
    by split later (suc n) rule followed at too = later n rule followed at too

keeps_low : (change : Option ℤ) (by : ℤ) → change ≡ Some by → keeps change ≡ true → by ≤ℤ pos 0
keeps_low None by e h = absurd (none-some by e)
keeps_low (Some c) by e h = subst (λ (z : ℤ). z ≤ℤ pos 0) (same_Some c by e) (int_le_true c (pos 0) h)

fall_low : (change : Option ℤ) (by : ℤ) → change ≡ Some by → is_fall change ≡ true → by ≤ℤ negsuc 0
fall_low None by e h = absurd (none-some by e)
fall_low (Some c) by e h = subst (λ (z : ℤ). z ≤ℤ negsuc 0) (same_Some c by e) (low (int_le (pos 0) c) refl h)
  where
    low : (b : Bool) → int_le (pos 0) c ≡ b → not b ≡ true → c ≤ℤ negsuc 0
    low true t g = absurd (false≢true g)
    low false t g = below (λ l. false≢true (sym t ∙ int_le_from (pos 0) c l))
      where
        below : (pos 0 ≤ℤ c → ⊥) → c ≤ℤ negsuc 0
        below n = omega (arith, ints, n)

some_bound : (form : Form) (rows : List WRow) (n : ℕ) → has_bound form rows ≡ true → (bound : Bound)
    × (bound_from form n rows ≡ Some bound)
some_bound form [] n h = absurd (false≢true h)
some_bound form (row ∷ rest) n h = by (is_bound form row) h (some_bound form rest (suc n))
  where
    by : (b : Bool) → (b || has_bound form rest) ≡ true
        → (has_bound form rest ≡ true → (bound : Bound) × (bound_from form (suc n) rest ≡ Some bound)) → (bound : Bound)
        × (cond b (Some (record { rows = (n, pos 1) ∷ []; base = row.constant })) (bound_from form (suc n) rest) ≡ Some bound)
    by true g later = (record { rows = (n, pos 1) ∷ []; base = row.constant }, refl)
    by false g later = later g

record HasFalling (count : ℕ) (form : Form) (rules : List PathRule) : Type 0 where
  n : ℕ
  rule : PathRule
  at : slice_get rules n ≡ Some rule
  fallen : falls count form rule ≡ true

some_falling : (count : ℕ) (form : Form) (rules : List PathRule) → list_any (falls count form) rules ≡ true → HasFalling count form rules
some_falling count form [] h = absurd (false≢true h)
some_falling count form (rule ∷ rest) h = by (falls count form rule) refl h (some_falling count form rest)
  where
    by : (b : Bool) → falls count form rule ≡ b → (b || list_any (falls count form) rest) ≡ true
        → (list_any (falls count form) rest ≡ true → HasFalling count form rest) → HasFalling count form (rule ∷ rest)
    by true e g later = record { n = 0; rule = rule; at = refl; fallen = e }
    by false e g later = let found = later g in record { n = suc found.n; rule = found.rule; at = found.at; fallen = found.fallen }

falls_low : (f c : ℤ) → f ≡ pos 0 -ℤ c → c ≤ℤ pos 0 → pos 0 ≤ℤ f
falls_low f c e h = omega (arith, ints, e, h)

falls_strictly : (f c : ℤ) → f ≡ pos 0 -ℤ c → c ≤ℤ negsuc 0 → pos 1 ≤ℤ f
falls_strictly f c e h = omega (arith, ints, e, h)

step_made : (count : ℕ) (rules : List PathRule) (form : Form) (all : List Followed) (constant : ℤ) (cuts : List ℕ)
    → length rules ≤ 4096 → IsCounted rules count → IsPlainForm count form → ranks count rules form ≡ true
    → follow_each count form rules ≡ Some all → constant ≡ or_zero (needed None all) → AreCuts rules cuts
    → IsRankStep rules (record {
      size = false;
      weights = [];
      forms = forms_over rules false (map part_of form) constant cuts;
      rules
          = list_from 0 all;
    })
step_made count rules form all constant cuts short counted plain ranked followed_all k c =
    let paths = path_rules_of rules count short counted in
    let parts = and_parts (list_all (fits count form) rules) (list_any (falls count form) rules) ranked in
    let units = plain_units count form plain in
    let each = each_followed count form rules all followed_all in
    let falling = some_falling count form rules parts.1 in
    let fallen = follow_there all rules falling.n falling.rule each.0 falling.at in
    let fallen_is = with_is form falling.rule.rows (form_change count falling.rule.rows form)
    (reasons_of count falling.rule.rows form) fallen.0 (each.1 falling.n falling.rule fallen.0 falling.at fallen.1) in
    let fallen_bound = and_parts (is_fall (form_change count falling.rule.rows form)) (has_bound form falling.rule.rows) falling.fallen in
    let bound = some_bound form falling.rule.rows 0 fallen_bound.1 in
    int_step rules (map part_of form) all constant cuts paths
    (record {
      few = let long = length-map form part_of in let most = plain_short count form plain in omega (arith, long, most);
      small = small_parts count form units;
    })
    c k
    (record {
      count = each.0;
      each = λ n rule followed at too.
          let own = all_at (IsSystemRule count) rules n rule counted.each at in
          let is = with_is form rule.rows (form_change count rule.rows form) (reasons_of count rule.rows form) followed
          (each.1 n rule followed at too) in
          record {
            start = form;
            finish = after_terms count form;
            lines = rule_lines false [] rules (map part_of form) constant cuts n rule form (after_terms count form) paths c at (record {
              first = first_stand count rule.first form own.first units;
              last = last_stand count rule.last form own.last units;
            });
            shown = shown_is count form rule followed own plain is;
            falls = falls_low followed.falls is.by is.falls_is
                (keeps_low (form_change count rule.rows form) is.by is.change_is (holds_at (fits count form) rules n rule parts.0 at));
          };
    })
    (record {
      number = falling.n;
      followed = fallen.0;
      there = fallen.1;
      falls = falls_strictly fallen.0.falls fallen_is.by fallen_is.falls_is
          (fall_low (form_change count falling.rule.rows form) fallen_is.by fallen_is.change_is fallen_bound.0);
      bound = bound.0;
      bounded = fallen_is.bound_is ∙ bound.1;
    })

pub step_is : (count : ℕ) (rules : List PathRule) (form : Form) (all : List Followed) (constant : ℤ) (parts : List (Place × ℤ))
    (cuts : List ℕ) (forms : List CutForm) (listed : List RankRule) (weights : List (ℕ × ℤ)) → length rules ≤ 4096
    → IsCounted rules count → IsPlainForm count form → ranks count rules form ≡ true → follow_each count form rules ≡ Some all
    → constant ≡ or_zero (needed None all) → parts ≡ map part_of form → AreCuts rules cuts
    → forms ≡ forms_over rules false parts constant cuts → listed ≡ list_from 0 all → weights ≡ []
    → IsRankStep rules (record { size = false; weights = weights; forms = forms; rules = listed })
step_is count rules form all constant parts cuts forms listed weights short counted plain ranked followed_all k p c f l w =
    subst (λ (x : List CutForm). IsRankStep rules (record { size = false; weights = weights; forms = x; rules = listed }))
    (sym (f ∙ ap (λ (ps : List (Place × ℤ)). forms_over rules false ps constant cuts) p))
    (subst (λ (x : List RankRule). IsRankStep rules
    (record {
      size = false;
      weights = weights;
      forms = forms_over rules false (map part_of form) constant cuts;
      rules = x;
    })) (sym l)
    (subst (λ (x : List (ℕ × ℤ)). IsRankStep rules
    (record {
      size = false;
      weights = x;
      forms = forms_over rules false (map part_of form) constant cuts;
      rules = list_from
          0 all;
    })) (sym w)
    (step_made count rules form all constant cuts short counted plain ranked followed_all k c)))
