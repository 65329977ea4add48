-- Rows under a weighing, and the value of multiples of weights.
use Rattle.std.proofs.Common.{◌≡◌, ℕ, zero, suc, ◌+◌, ◌*◌, ◌^◌, ◌<◌, ◌≤◌, List, [], ◌∷◌, length, get_or, drop, ℤ, pos, ◌+ℤ◌, ◌*ℤ◌}
use Rattle.std.proofs.Common.{◌≤ℤ◌, Option, Some, None, refl, ap, arith, subst, sym, ◌∙◌, mul_comm, FitsSigned, lit<}
use Rattle.std.specs.Int.{w64}
use Rattle.std.specs.Prelude.{slice_get, unsigned_abs}
use Rattle.std.proofs.lemmas.Int.{ints, unsigned_abs-mul, fits_signed_mul}
use Rattle.std.proofs.Math.Nat.{mul-le-mul_left}
use Rattle.std.proofs.lemmas.List.{at_drop_more, at_drop_all, length-map, get_or-map}
use Rattle.std.proofs.lemmas.Option.{slice_get-map, slice_get_read, get_or_from_slice_get, slice_get_within}
use Rattle.std.specs.Option.{option_map}
use Rattle.lin_core.specs.declared.faults.LinFault.{LinFault}
use Rattle.lin_core.specs.declared.rows.WRow.{WRow}
use Rattle.lin_core.specs.Combination.{fault_at_row, fault_of_entry, first_of_two, first_fault_from}
use Rattle.lin_core.specs.Rows.{Row, AllRise, Rise, value_of_terms}
use Rattle.lin_core.specs.Weights.{row_under, rows_under, AreRows, IsRow, total_size}
use Rattle.lin_core.specs.Steps.{AddsMultiple}
use Rattle.lin_core.specs.Sums.{Sum, variables}

-- a row that is there, under a weighing
pub found_under : (weigh : ℕ → ℤ) (rows : List WRow) (index : ℕ) (row : WRow) → index < length rows → row ≡ get_or rows index row
    → slice_get (rows_under weigh rows) index ≡ Some (row_under weigh row)
found_under weigh rows index row inside is =
    let read = slice_get_read rows (length rows) index row refl inside is in
    rw (slice_get-map (row_under weigh) rows index, read)

get_under : (weigh : ℕ → ℤ) (found : Option WRow) (row : Row) → option_map (row_under weigh) found ≡ Some row
    → (r : WRow) × (found ≡ Some r)
get_under weigh None row e = absurd (cc)
get_under weigh (Some r) row e = (r, refl)

pub found_inside : (weigh : ℕ → ℤ) (rows : List WRow) (index : ℕ) (row : Row) → slice_get (rows_under weigh rows) index ≡ Some row
    → index < length rows
found_inside weigh rows index row e =
    let found = get_under weigh (slice_get rows index) row (sym (slice_get-map (row_under weigh) rows index) ∙ e) in
    slice_get_within rows index found.0 found.1

rise_at : (weigh : ℕ → ℤ) (end : ℕ) (rows : List WRow) (index : ℕ) (d : Row) → AreRows end rows → index < length rows
    → Rise end (get_or (rows_under weigh rows) index d).terms
rise_at weigh end [] index d h inside = absurd (omega arith)
rise_at weigh end (row ∷ rest) zero d h inside = (h 0 row (omega arith)).rise
rise_at weigh end (row ∷ rest) (suc index) d h inside = rise_at weigh end rest index d (λ i e w. h (suc i) e (omega arith)) (omega arith)

-- rows rise under every weighing
pub rise_under : (weigh : ℕ → ℤ) (end : ℕ) (rows : List WRow) → AreRows end rows → AllRise end (rows_under weigh rows)
rise_under weigh end rows h index d inside = rise_at weigh end rows index d h (rw (← length-map rows (row_under weigh)) inside)

-- the parts of a row are added
pub adds_row : (row : Row) (terms : List (ℕ × ℤ)) (number by : ℤ) (old new : Sum) → terms ≡ row.terms → number ≡ row.constant
    → AddsMultiple terms number by old new → AddsMultiple row.terms row.constant by old new
adds_row row terms number by old new e h adds = subst (λ (t : List (ℕ × ℤ)). AddsMultiple t row.constant by old new) e
    (subst (λ (n : ℤ). AddsMultiple terms n by old new) h adds)

-- no weighing changes a fault
found_fault : (weigh other : ℕ → ℤ) (n : ℕ) (by : ℤ) (found : Option WRow)
    → fault_at_row n by (option_map (row_under weigh) found) ≡ fault_at_row n by (option_map (row_under other) found)
found_fault weigh other n by None = refl
found_fault weigh other n by (Some row) = refl

entry_fault : (weigh other : ℕ → ℤ) (rows : List WRow) (n : ℕ) (entry : ℕ × ℤ)
    → fault_of_entry (rows_under weigh rows) n entry ≡ fault_of_entry (rows_under other rows) n entry
entry_fault weigh other rows n entry =
    let one = slice_get-map (row_under weigh) rows entry.0 in
    let two = slice_get-map (row_under other) rows entry.0 in
    ap (fault_at_row n entry.1) one ∙ found_fault weigh other n entry.1 (slice_get rows entry.0) ∙ sym (ap (fault_at_row n entry.1) two)

pub same_faults : (weigh other : ℕ → ℤ) (rows : List WRow) (n : ℕ) (entries : List (ℕ × ℤ))
    → first_fault_from (rows_under weigh rows) n entries ≡ first_fault_from (rows_under other rows) n entries
same_faults weigh other rows n [] = refl
same_faults weigh other rows n (entry ∷ rest) =
    let head = entry_fault weigh other rows n entry in
    let tail = same_faults weigh other rows (suc n) rest in
    ap (λ (o : Option LinFault). first_of_two o (first_fault_from (rows_under weigh rows) (suc n) rest)) head
    ∙ ap (λ (o : Option LinFault). first_of_two (fault_of_entry (rows_under other rows) n entry) o) tail

-- what the step asks of a row that is there
pub row_is : (rows : List WRow) (index end : ℕ) (row : WRow) → index < length rows → row ≡ get_or rows index row → AreRows end rows
    → IsRow end row
row_is rows index end row inside is h = subst (λ (r : WRow). IsRow end r) (sym is) (h index row inside)

pub row_rises : (rows : List WRow) (index end : ℕ) (row : WRow) (now : Sum) → index < length rows → row ≡ get_or rows index row
    → AreRows end rows → variables now ≡ end → Rise (variables now) row.terms
row_rises rows index end row now inside is h count = subst (λ (n : ℕ). Rise n row.terms) (sym count)
    (row_is rows index end row inside is h).rise

-- a multiple of a weight is small
pub share_small : (multiple weight : ℤ) → pos 0 ≤ℤ weight → weight ≤ℤ pos 65535
    → unsigned_abs (multiple *ℤ weight) ≤ 65535 * unsigned_abs multiple
share_small multiple weight low high =
    let size : unsigned_abs weight ≤ 65535 = omega (arith, ints) in
    rw (unsigned_abs-mul multiple weight, mul_comm 65535 (unsigned_abs multiple)) (mul-le-mul_left (unsigned_abs multiple) size)

pub share_fits : (multiple weight : ℤ) → unsigned_abs multiple ≤ 2 ^ 40 → pos 0 ≤ℤ weight → weight ≤ℤ pos 65535
    → FitsSigned w64 (multiple *ℤ weight)
share_fits multiple weight small low high =
    let size : unsigned_abs weight ≤ 65535 = omega (arith, ints) in
    fits_signed_mul w64 multiple weight (2 ^ 40) 65535 small size (lit< tt)

-- `rest` is left of the multiples `all`: what is summed so far and the value of the rest are the value of all, and both
-- are small
pub record IsWeighed (weigh : ℕ → ℤ) (all rest : List (ℕ × ℤ)) (sum : ℤ) : Type 0 where
  pub value : sum +ℤ value_of_terms weigh rest ≡ value_of_terms weigh all
  pub size : unsigned_abs sum + 65535 * total_size rest ≤ 65535 * 2 ^ 40
  pub small : total_size rest ≤ 2 ^ 40

weighed_step : (weigh : ℕ → ℤ) (all rest : List (ℕ × ℤ)) (entry : ℕ × ℤ) (sum p : ℤ) → IsWeighed weigh all (entry ∷ rest) sum
    → p ≡ entry.1 *ℤ weigh entry.0 → unsigned_abs p ≤ 65535 * unsigned_abs entry.1 → IsWeighed weigh all rest (sum +ℤ p)
weighed_step weigh all rest entry sum p h e small = record {
  value = let v = h.value in omega (arith, ints);
  size = let s = h.size in omega (arith, ints);
  small = let s = h.small in omega arith;
}

pub weighed_more : (weigh : ℕ → ℤ) (all items : List (ℕ × ℤ)) (i : ℕ) (sum p : ℤ) → i < length items
    → IsWeighed weigh all (drop i items) sum → p ≡ (get_or items i (0, pos 0)).1 *ℤ weigh (get_or items i (0, pos 0)).0
    → unsigned_abs p ≤ 65535 * unsigned_abs (get_or items i (0, pos 0)).1 → IsWeighed weigh all (drop (i + 1) items) (sum +ℤ p)
weighed_more weigh all items i sum p in' h e small =
    let split = at_drop_more (λ (xs : List (ℕ × ℤ)). xs) items i (0, pos 0) in' in
    weighed_step weigh all (drop (i + 1) items) (get_or items i (0, pos 0)) sum p
    (subst (λ (xs : List (ℕ × ℤ)). IsWeighed weigh all xs sum) split h) e small
