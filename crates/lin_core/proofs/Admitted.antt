-- What it means that a list of multipliers has no fault.
use Rattle.std.proofs.Common.{◌≡◌, ℕ, suc, ◌≤◌, ◌^◌, Bool, true, false, cond, List, [], ◌∷◌, ℤ, pos, ◌≤ℤ◌, Option, Some, None, ap}
use Rattle.std.proofs.Common.{arith, refl, ◌∙◌}
use Rattle.std.specs.Prelude.{unsigned_abs, slice_get, nat_lt, int_lt}
use Rattle.std.proofs.lemmas.Bool.Decides.{nat_tests}
use Rattle.std.proofs.lemmas.Int.{ints}
use Rattle.lin_core.specs.declared.faults.LinFault.{LinFault}
use Rattle.lin_core.specs.declared.faults.LinFault.TheVariants.{NegativeMultiplier, Limit}
use Rattle.lin_core.specs.Rows.{Row}
use Rattle.lin_core.specs.declared.rows.RowKind.{RowKind}
use Rattle.lin_core.specs.declared.rows.RowKind.TheVariants.{AtLeastZero, IsZero}
use Rattle.lin_core.specs.Combination.{may_multiply, fault_at_row, fault_of_entry, first_of_two, first_fault_from, IsAllowedAt, AllAllowed}
use Rattle.lin_core.specs.Laws.{AllSmall}

pub record IsAdmitted (by : ℤ) (found : Option Row) : Type 0 where
  pub row : Row
  pub is : found ≡ Some row
  pub size : unsigned_abs by ≤ 2 ^ 31
  pub sign : IsAllowedAt row.kind by

not_negative : (by : ℤ) (t : Bool) → int_lt by (pos 0) ≡ t → cond t false true ≡ true → pos 0 ≤ℤ by
not_negative by true e h = absurd (cc)
not_negative by false e h = omega (arith, ints)

allowed_at : (kind : RowKind) (by : ℤ) → may_multiply by kind ≡ true → IsAllowedAt kind by
allowed_at AtLeastZero by e = not_negative by (int_lt by (pos 0)) refl e
allowed_at IsZero by e = tt

admitted_cases : (n : ℕ) (by : ℤ) (row : Row) (large may : Bool) → nat_lt (2 ^ 31) (unsigned_abs by) ≡ large
    → may_multiply by row.kind ≡ may → cond large (Some (Limit n)) (cond may None (Some (NegativeMultiplier n))) ≡ None
    → IsAdmitted by (Some row)
admitted_cases n by row true may l m e = absurd (cc)
admitted_cases n by row false false l m e = absurd (cc)
admitted_cases n by row false true l m e = record {
  row = row;
  is = refl;
  size = grind (arith, nat_tests);
  sign = allowed_at row.kind by m;
}

admitted_at : (n : ℕ) (by : ℤ) (found : Option Row) → fault_at_row n by found ≡ None → IsAdmitted by found
admitted_at n by None e = absurd (cc)
admitted_at n by (Some row) e = admitted_cases n by row (nat_lt (2 ^ 31) (unsigned_abs by)) (may_multiply by row.kind) refl refl e

neither : (first later : Option LinFault) → first_of_two first later ≡ None → (first ≡ None) × (later ≡ None)
neither None later e = (refl, e)
neither (Some fault) later e = absurd (cc)

-- the first entry has no fault, nor have the others
pub admitted_first : (rows : List Row) (n : ℕ) (entry : ℕ × ℤ) (rest : List (ℕ × ℤ)) → first_fault_from rows n (entry ∷ rest) ≡ None
    → IsAdmitted entry.1 (slice_get rows entry.0) × (first_fault_from rows (suc n) rest ≡ None)
admitted_first rows n entry rest e =
    let both = neither (fault_of_entry rows n entry) (first_fault_from rows (suc n) rest) e in
    (admitted_at n entry.1 (slice_get rows entry.0) both.0, both.1)

pub all_allowed : (rows : List Row) (n : ℕ) (entries : List (ℕ × ℤ)) → first_fault_from rows n entries ≡ None → AllAllowed rows entries
all_allowed rows n [] e = tt
all_allowed rows n (entry ∷ rest) e =
    let h = admitted_first rows n entry rest e in
    ((h.0.row, h.0.is, h.0.sign), all_allowed rows (suc n) rest h.1)

pub all_small : (rows : List Row) (n : ℕ) (entries : List (ℕ × ℤ)) → first_fault_from rows n entries ≡ None → AllSmall entries
all_small rows n [] e = tt
all_small rows n (entry ∷ rest) e =
    let h = admitted_first rows n entry rest e in
    (h.0.size, all_small rows (suc n) rest h.1)

-- the other way round
may_cases : (by : ℤ) (t : Bool) → int_lt by (pos 0) ≡ t → pos 0 ≤ℤ by → cond t false true ≡ true
may_cases by true e h = absurd (omega (arith, ints))
may_cases by false e h = refl

may_at : (kind : RowKind) (by : ℤ) → IsAllowedAt kind by → may_multiply by kind ≡ true
may_at AtLeastZero by h = may_cases by (int_lt by (pos 0)) refl h
may_at IsZero by h = refl

faultless_cases : (n : ℕ) (by : ℤ) (large may : Bool) → nat_lt (2 ^ 31) (unsigned_abs by) ≡ large → unsigned_abs by ≤ 2 ^ 31
    → may ≡ true → cond large (Some (Limit n)) (cond may None (Some (NegativeMultiplier n))) ≡ None
faultless_cases n by true may l h m = absurd (grind (arith, nat_tests))
faultless_cases n by false true l h m = refl
faultless_cases n by false false l h m = absurd (cc)

faultless_at : (n : ℕ) (by : ℤ) (row : Row) (found : Option Row) → found ≡ Some row → unsigned_abs by ≤ 2 ^ 31
    → IsAllowedAt row.kind by → fault_at_row n by found ≡ None
faultless_at n by row found is h a = rw is (faultless_cases n by (nat_lt (2 ^ 31) (unsigned_abs by)) (may_multiply by row.kind) refl
    h (may_at row.kind by a))

pub faultless : (rows : List Row) (n : ℕ) (entries : List (ℕ × ℤ)) → AllAllowed rows entries → AllSmall entries
    → first_fault_from rows n entries ≡ None
faultless rows n [] a s = refl
faultless rows n (entry ∷ rest) a s =
    let first = faultless_at n entry.1 a.0.0 (slice_get rows entry.0) a.0.1 s.0 a.0.2 in
    ap (λ (o : Option LinFault). first_of_two o (first_fault_from rows (suc n) rest)) first ∙ faultless rows (suc n) rest a.1 s.1
