-- What is known of a row that is read: it is over the values of the variables, and within its limits.
use Rattle.std.proofs.Common.{◌≡◌, ◌∙◌, ◌+◌, ◌≤◌, ◌<◌, ◌^◌, ℕ, zero, suc, Bool, true, false, cond, List, [], ◌∷◌, length, replicate}
use Rattle.std.proofs.Common.{ℤ, pos, Option, Some, None, Result, Ok, Err, refl, sym, ap, subst, arith}
use Rattle.std.specs.Prelude.{slice_get, slice_set, unsigned_abs, nat_le}
use Rattle.std.specs.Ordering.{int_eq}
use Rattle.std.specs.Option.{option_and_then}
use Rattle.std.proofs.lemmas.Bool.{leb-true}
use Rattle.std.proofs.lemmas.List.{length-replicate}
use Rattle.lin_core.specs.declared.rows.RowKind.{RowKind}
use Rattle.lin_core.specs.declared.rows.WRow.{WRow}
use Rattle.lin_core.specs.Rows.{RiseFrom, Rise}
use Rattle.lin_core.specs.Weights.{IsRow}
use Rattle.list_views.specs.Results.{◌>>=◌, wanted, required}
use Rattle.list_views.proofs.Items.{length_set}
use Rattle.list_views.proofs.Options.{then_some, cond_guarded}
use Rattle.list_views.proofs.Steps.{bind_ok, ok_is}
use Rattle.its_front.specs.declared.text_lines.numbers.Number.{Number}
use Rattle.its_front.specs.text_lines.Numbers.{signed_of}
use Rattle.its_front.specs.declared.words.Term.{Term}
use Rattle.its_front.specs.Faults.{Said}
use Rattle.its_front.specs.Words.{before, ranged, most_coefficient, most_constant}
use Rattle.its_front.specs.Terms.{Table, is_free, numbered, placed, with_coefficient, coefficients}
use Rattle.its_front.specs.Rows.{make_row, table_of, row_in, row_of}
use Rattle.its_front.specs.Systems.{IsWeightless}

-- ---- steps

pub wanted_is : {A E : Type 0} (fault : E) (o : Option A) (x : A) → wanted fault o ≡ Ok x → o ≡ Some x
wanted_is fault None x e = absurd cc
wanted_is fault (Some y) x e = cc

pub required_is : {E : Type 0} (fault : E) (test : Bool) (u : Unit {0}) → required fault test ≡ Ok u → test ≡ true
required_is fault true u e = refl
required_is fault false u e = absurd cc

-- ---- numbers

pub ranged_is : (most : ℕ) (number : Number) (n : ℤ) → ranged most number ≡ Some n → unsigned_abs n ≤ most
ranged_is most number n e =
    let found = then_some (λ m. cond (nat_le (unsigned_abs m) most) (Some m) None) (signed_of number) n e in
    let test = cond_guarded (nat_le (unsigned_abs found.0) most) (Some found.0) n found.1.1 in
    subst (λ (m : ℤ). unsigned_abs m ≤ most) (same found.0 n test.1) (leb-true (unsigned_abs found.0) most test.0)
  where
    same : (a b : ℤ) → ◌≡◌ {A = Option ℤ} (Some a) (Some b) → a ≡ b
    same a b e = cc

-- ---- terms

placed_length : (table : Table) (terms : List (ℕ × Number)) (after : Table) → placed table terms ≡ Some after → length after ≡ length table
placed_length table [] after e = ap length (same table after e)
  where
    same : (a b : Table) → ◌≡◌ {A = Option Table} (Some a) (Some b) → b ≡ a
    same a b e = cc
placed_length table (term ∷ rest) after e =
    let test = cond_guarded (is_free (slice_get table term.0)) (placed (slice_set table term.0 (Some term.1)) rest) after e in
    placed_length (slice_set table term.0 (Some term.1)) rest after test.1 ∙ length_set table term.0 (Some term.1)

rises_later : (low end : ℕ) (terms : List (ℕ × ℤ)) → RiseFrom (suc low) end terms → RiseFrom low end terms
rises_later low end [] h = tt
rises_later low end (term ∷ rest) h = let first = h.0 in (omega (arith, first), h.1, h.2)

with_rises : (n end : ℕ) (c : ℤ) (rest : Option (List (ℕ × ℤ))) (terms : List (ℕ × ℤ)) → n < end
    → ((more : List (ℕ × ℤ)) → rest ≡ Some more → RiseFrom (suc n) end more) → with_coefficient n c rest ≡ Some terms
    → RiseFrom n end terms
with_rises n end c rest terms l h e = by (int_eq c (pos 0)) rest h e
  where
    by : (b : Bool) (others : Option (List (ℕ × ℤ))) → ((more : List (ℕ × ℤ)) → others ≡ Some more → RiseFrom (suc n) end more)
        → cond b others (before (Some (n, c)) others) ≡ Some terms → RiseFrom n end terms
    by true others g f = rises_later n end terms (g terms f)
    by false None g f = absurd cc
    by false (Some more) g f = subst (RiseFrom n end) (same ((n, c) ∷ more) terms f) (omega arith, l, g more refl)
      where
        same : (a b : List (ℕ × ℤ)) → ◌≡◌ {A = Option (List (ℕ × ℤ))} (Some a) (Some b) → a ≡ b
        same a b e = cc

coefficients_rise : (n end : ℕ) (table : Table) (terms : List (ℕ × ℤ)) → n + length table ≤ end → coefficients n table ≡ Some terms
    → RiseFrom n end terms
coefficients_rise n end [] terms l e = subst (RiseFrom n end) (same [] terms e) tt
  where
    same : (a b : List (ℕ × ℤ)) → ◌≡◌ {A = Option (List (ℕ × ℤ))} (Some a) (Some b) → a ≡ b
    same a b e = cc
coefficients_rise n end (None ∷ rest) terms l e = rises_later n end terms (coefficients_rise (suc n) end rest terms (omega (arith, l)) e)
coefficients_rise n end (Some number ∷ rest) terms l e =
    let found = then_some (λ c. with_coefficient n c (coefficients (suc n) rest)) (ranged most_coefficient number) terms e in
    with_rises n end found.0 (coefficients (suc n) rest) terms (omega (arith, l))
    (λ more g. coefficients_rise (suc n) end rest more (omega (arith, l)) g) found.1.1

-- ---- rows

pub record IsSaidRow (end : ℕ) (row : WRow) : Type 0 where
  pub is_row : IsRow end row
  pub weightless : IsWeightless row

said_in : (end line : ℕ) (kind : RowKind) (number : Number) (table : Table) (row : WRow) → length table ≤ end
    → row_in line kind number table ≡ Ok row → IsSaidRow end row
unfolding row_in
said_in end line kind number table row l e =
    let first = bind_ok (wanted _ (ranged most_constant number)) _ row e in
    let second = bind_ok (wanted _ (coefficients 0 table)) _ row first.2 in
    let same : make_row kind first.0 second.0 ≡ row = ok_is (make_row kind first.0 second.0) row second.2 in
    subst (IsSaidRow end) same (record {
      is_row = record {
        rise = coefficients_rise 0 end table second.0 (omega (arith, l)) (wanted_is _ (coefficients 0 table) second.0 second.1);
        constant = ranged_is most_constant number first.0 (wanted_is _ (ranged most_constant number) first.0 first.1);
        weights = omega arith;
      };
      weightless = refl;
    })

pub said_row_is : (vars : List (List ℕ)) (line : ℕ) (kind : RowKind) (words : Number × List Term) (row : WRow)
    → row_of vars line kind words ≡ Ok row → IsSaidRow (length vars + length vars) row
unfolding row_of
said_row_is vars line kind words row e =
    let first = bind_ok (wanted _ (numbered vars words.1)) _ row e in
    let second = bind_ok (table_of line (length vars) first.0) _ row first.2 in
    let filled = wanted_is _ (placed (replicate (length vars + length vars) None) first.0) second.0 second.1 in
    let long : length second.0 ≡ length vars + length vars = placed_length (replicate (length vars + length vars) None) first.0
    second.0 filled ∙ length-replicate (length vars + length vars) None in
    said_in (length vars + length vars) line kind words.0 second.0 row (omega (arith, long)) second.2
