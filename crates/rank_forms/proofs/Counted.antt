-- The multipliers that entries add up to.
use Rattle.std.proofs.Common.{◌≡◌, ℕ, zero, suc, ◌+◌, ◌-◌, ◌<◌, ◌≤◌, ◌^◌, Bool, true, false, cond, eqb, List, [], ◌∷◌, ◌++◌, length}
use Rattle.std.proofs.Common.{get_or, set, replicate, ℤ, pos, ◌+ℤ◌, ◌*ℤ◌, ◌≤ℤ◌, Option, Some, None, subst, ap, arith, refl, ◌∙◌}
use Rattle.std.proofs.Common.{sym, append_assoc}
use Rattle.std.specs.Prelude.{slice_get, unsigned_abs, nat_lt, int_lt}
use Rattle.std.specs.Ordering.{int_eq}
use Rattle.std.proofs.Math.ListN.{length-set}
use Rattle.std.proofs.lemmas.Bool.Decides.{Decides-int_eq, nat_tests}
use Rattle.std.proofs.lemmas.Int.{ints}
use Rattle.std.proofs.lemmas.Bool.{eq-eqb, eqb-true}
use Rattle.std.proofs.lemmas.List.{get_or-set_same, get_or-set_other, length-replicate}
use Rattle.std.proofs.lemmas.Option.{slice_get_within, same_Some, none-some}
use Rattle.list_views.proofs.Marks.{zero_at}
use Rattle.list_views.proofs.Orders.{zero_times, int_eq_true}
use Rattle.list_views.proofs.Ring.{plus_times}
use Rattle.lin_core.specs.declared.faults.LinFault.{LinFault}
use Rattle.lin_core.specs.declared.faults.LinFault.TheVariants.{NegativeMultiplier, Limit}
use Rattle.lin_core.specs.declared.rows.RowKind.{RowKind}
use Rattle.lin_core.specs.declared.rows.RowKind.TheVariants.{AtLeastZero, IsZero}
use Rattle.lin_core.specs.Combination.{number_of, sum_of, may_multiply, fault_at_row, fault_of_entry, first_of_two, first_fault}
use Rattle.lin_core.specs.Combination.{first_fault_from, IsAllowedAt, AllAllowed}
use Rattle.lin_core.specs.Rows.{Row, coefficient_of}
use Rattle.lin_core.specs.Weights.{total_size}
use Rattle.lin_core.proofs.Signs.{mul-zero_ℤ}
use Rattle.rank_forms.specs.rule_links.Counting.{added, counted, kept, multipliers_of}
use Rattle.rank_forms.proofs.Rests.{IsRest, rest_first, rest_more}

may_at : (kind : RowKind) (c : ℤ) → IsAllowedAt kind c → may_multiply c kind ≡ true
may_at AtLeastZero c h = not_below (int_lt c (pos 0)) c refl h
  where
    not_below : (test : Bool) (c : ℤ) → int_lt c (pos 0) ≡ test → pos 0 ≤ℤ c → cond test false true ≡ true
    not_below true c e h = absurd (omega (arith, ints, e, h))
    not_below false c e h = refl
may_at IsZero c h = refl

-- the sum of a number of rows, each as often as it counts
abbrev pub dense : (Row → ℤ) → List Row → List ℤ → ℤ
dense number [] counts = pos 0
dense number (row ∷ rows) [] = pos 0
dense number (row ∷ rows) (times ∷ counts) = times *ℤ number row +ℤ dense number rows counts

dense_zeros : (number : Row → ℤ) (rows : List Row) (n : ℕ) → dense number rows (replicate n (pos 0)) ≡ pos 0
dense_zeros number [] n = refl
dense_zeros number (row ∷ rows) zero = refl
dense_zeros number (row ∷ rows) (suc n) = zero_first (number row) (dense number rows (replicate n (pos 0))) (dense_zeros number rows n)
  where
    zero_first : (a b : ℤ) → b ≡ pos 0 → pos 0 *ℤ a +ℤ b ≡ pos 0
    zero_first a b e = let z = zero_times a in omega (arith, ints)

dense_added : (number : Row → ℤ) (rows : List Row) (counts : List ℤ) (n : ℕ) (times : ℤ) → n < length counts
    → dense number rows (added n times counts) ≡ times *ℤ number_of number (slice_get rows n) +ℤ dense number rows counts
dense_added number [] counts n times low = nothing times
  where
    nothing : (a : ℤ) → pos 0 ≡ a *ℤ pos 0 +ℤ pos 0
    nothing a = let z = mul-zero_ℤ a in omega (arith, ints)
dense_added number (row ∷ rows) [] n times low = absurd (omega (arith, low))
dense_added number (row ∷ rows) (c ∷ counts) zero times low = here c times (number row) (dense number rows counts)
  where
    here : (c t a d : ℤ) → (c +ℤ t) *ℤ a +ℤ d ≡ t *ℤ a +ℤ (c *ℤ a +ℤ d)
    here c t a d = let z = plus_times c t a in omega (arith, ints)
dense_added number (row ∷ rows) (c ∷ counts) (suc n) times low = ap (λ (z : ℤ). c *ℤ number row +ℤ z)
    (dense_added number rows counts n times (omega (arith, low)))
    ∙ there (c *ℤ number row) (times *ℤ number_of number (slice_get rows n)) (dense number rows counts)
  where
    there : (a b d : ℤ) → a +ℤ (b +ℤ d) ≡ b +ℤ (a +ℤ d)
    there a b d = omega (arith, ints)

-- every entry names one of so many rows
abbrev pub AreWithin : ℕ → List (ℕ × ℤ) → Type 0
AreWithin count [] = Unit {0}
AreWithin count (entry ∷ rest) = (entry.0 < count) × AreWithin count rest

dense_counted : (number : Row → ℤ) (rows : List Row) (entries : List (ℕ × ℤ)) (counts : List ℤ) → AreWithin (length counts) entries
    → dense number rows (counted entries counts) ≡ sum_of number rows entries +ℤ dense number rows counts
dense_counted number rows [] counts h = plain (dense number rows counts)
  where
    plain : (d : ℤ) → d ≡ pos 0 +ℤ d
    plain d = omega (arith, ints)
dense_counted number rows (entry ∷ rest) counts h =
    let more = added entry.0 entry.1 counts in
    dense_counted number rows rest more
    (subst (λ (n : ℕ). AreWithin n rest) (sym (length-set counts entry.0 (get_or counts entry.0 (pos 0) +ℤ entry.1))) h.1)
    ∙ ap (λ (z : ℤ). sum_of number rows rest +ℤ z) (dense_added number rows counts entry.0 entry.1 h.0)
    ∙ moved (sum_of number rows rest) (entry.1 *ℤ number_of number (slice_get rows entry.0)) (dense number rows counts)
  where
    moved : (a b d : ℤ) → a +ℤ (b +ℤ d) ≡ (b +ℤ a) +ℤ d
    moved a b d = omega (arith, ints)

kept_sum_cases : (test : Bool) (number : Row → ℤ) (all : List Row) (row : Row) (n : ℕ) (c d : ℤ) (rest : List (ℕ × ℤ))
    → int_eq c (pos 0) ≡ test → slice_get all n ≡ Some row → sum_of number all rest ≡ d
    → sum_of number all (cond test [] ((n, c) ∷ []) ++ rest) ≡ c *ℤ number row +ℤ d
kept_sum_cases true number all row n c d rest e at same = same ∙ none c (number row) d (int_eq_true c (pos 0) e)
  where
    none : (c a d : ℤ) → c ≡ pos 0 → d ≡ c *ℤ a +ℤ d
    none c a d e = rw e (let z = zero_times a in omega (arith, ints))
kept_sum_cases false number all row n c d rest e at same = ap
    (λ (o : Option Row). c *ℤ number_of number o +ℤ sum_of number all rest) at ∙ ap (λ (z : ℤ). c *ℤ number row +ℤ z) same

kept_sum : (number : Row → ℤ) (all rows : List Row) (n : ℕ) (counts : List ℤ) → IsRest all n rows → length counts ≤ length rows
    → sum_of number all (kept n counts) ≡ dense number rows counts
kept_sum number all [] n [] h less = refl
kept_sum number all (row ∷ rows) n [] h less = refl
kept_sum number all [] n (c ∷ counts) h less = absurd (omega (arith, less))
kept_sum number all (row ∷ rows) n (c ∷ counts) h less = kept_sum_cases (int_eq c (pos 0)) number all row n c
    (dense number rows counts) (kept (suc n) counts) refl (rest_first all n row rows h)
    (kept_sum number all rows (suc n) counts (rest_more all n row rows h) (omega (arith, less)))

-- each count may_at stand at its row, and is at most so much in size
abbrev pub Fits : ℕ → List Row → List ℤ → Type 0
Fits most [] [] = Unit {0}
Fits most [] (c ∷ counts) = ⊥
Fits most (row ∷ rows) [] = ⊥
Fits most (row ∷ rows) (c ∷ counts) = IsAllowedAt row.kind c × (unsigned_abs c ≤ most) × Fits most rows counts

zero_allowed : (kind : RowKind) → IsAllowedAt kind (pos 0)
zero_allowed AtLeastZero = omega (arith, ints)
zero_allowed IsZero = tt

fits_zeros : (rows : List Row) (n : ℕ) → n ≡ length rows → Fits 0 rows (replicate n (pos 0))
fits_zeros [] zero e = tt
fits_zeros [] (suc n) e = absurd (omega (arith, e))
fits_zeros (row ∷ rows) zero e = absurd (omega (arith, e))
fits_zeros (row ∷ rows) (suc n) e = (zero_allowed row.kind, omega arith, fits_zeros rows n (omega (arith, e)))

fits_more : (most more : ℕ) (rows : List Row) (counts : List ℤ) → most ≤ more → Fits most rows counts → Fits more rows counts
fits_more most more [] [] h f = tt
fits_more most more [] (c ∷ counts) h f = f
fits_more most more (row ∷ rows) [] h f = f
fits_more most more (row ∷ rows) (c ∷ counts) h f = (f.0, (let g = f.1 in omega (arith, h, g)), fits_more most more rows counts h f.2)

both_allowed : (kind : RowKind) (a b : ℤ) → IsAllowedAt kind a → IsAllowedAt kind b → IsAllowedAt kind (a +ℤ b)
both_allowed AtLeastZero a b h k = omega (arith, ints, h, k)
both_allowed IsZero a b h k = tt

pub both_small : (a b : ℤ) (most size : ℕ) → unsigned_abs a ≤ most → unsigned_abs b ≤ size → unsigned_abs (a +ℤ b) ≤ most + size
both_small a b most size h k = omega (arith, ints, h, k)

fits_added : (most size : ℕ) (rows : List Row) (counts : List ℤ) (n : ℕ) (times : ℤ) (row : Row) → Fits most rows counts
    → slice_get rows n ≡ Some row → IsAllowedAt row.kind times → unsigned_abs times ≤ size → Fits (most + size) rows (added n times counts)
fits_added most size [] [] n times row f at h s = absurd (none-some row at)
fits_added most size [] (c ∷ counts) n times row f at h s = absurd f
fits_added most size (first ∷ rows) [] n times row f at h s = absurd f
fits_added most size (first ∷ rows) (c ∷ counts) zero times row f at h s = (
  both_allowed first.kind c times f.0 (subst (λ (r : Row). IsAllowedAt r.kind times) (sym (same_Some first row at)) h),
  both_small c times most size f.1 s,
  fits_more most (most + size) rows counts (omega arith) f.2,
)
fits_added most size (first ∷ rows) (c ∷ counts) (suc n) times row f at h s =
    (f.0, (let g = f.1 in omega (arith, g)), fits_added most size rows counts n times row f.2 at h s)

fits_counted : (most : ℕ) (rows : List Row) (entries : List (ℕ × ℤ)) (counts : List ℤ) → AllAllowed rows entries
    → Fits most rows counts → Fits (most + total_size entries) rows (counted entries counts)
fits_counted most rows [] counts h f = fits_more most (most + 0) rows counts (omega arith) f
fits_counted most rows (entry ∷ rest) counts h f =
    let next = fits_added most (unsigned_abs entry.1) rows counts entry.0 entry.1 h.0.0 f h.0.1 h.0.2 (omega arith) in
    fits_more ((most + unsigned_abs entry.1) + total_size rest) (most + (unsigned_abs entry.1 + total_size rest)) rows
    (counted rest (added entry.0 entry.1 counts)) (omega arith)
    (fits_counted (most + unsigned_abs entry.1) rows rest (added entry.0 entry.1 counts) h.1 next)

fine_cases : (n : ℕ) (large allowed : Bool) → large ≡ false → allowed ≡ true
    → cond large (Some (Limit n)) (cond allowed None (Some (NegativeMultiplier n))) ≡ None
fine_cases n true allowed e f = absurd (cc)
fine_cases n false true e f = refl
fine_cases n false false e f = absurd (cc)

pub fine : (n : ℕ) (c : ℤ) (row : Row) → IsAllowedAt row.kind c → unsigned_abs c ≤ 2 ^ 31 → fault_at_row n c (Some row) ≡ None
fine n c row h s = fine_cases n (nat_lt (2 ^ 31) (unsigned_abs c)) (may_multiply c row.kind) (small (2 ^ 31) (unsigned_abs c) s)
    (may_at row.kind c h)
  where
    small : (a b : ℕ) → b ≤ a → nat_lt a b ≡ false
    small a b h = grind (arith, nat_tests)

no_fault : (first later : Option LinFault) → first ≡ None → later ≡ None → first_of_two first later ≡ None
no_fault None later e f = f
no_fault (Some fault) later e f = absurd (cc)

kept_fault_cases : (test : Bool) (all : List Row) (m n : ℕ) (c : ℤ) (row : Row) (rest : List (ℕ × ℤ)) → slice_get all n ≡ Some row
    → IsAllowedAt row.kind c → unsigned_abs c ≤ 2 ^ 31 → ((j : ℕ) → first_fault_from all j rest ≡ None)
    → first_fault_from all m (cond test [] ((n, c) ∷ []) ++ rest) ≡ None
kept_fault_cases true all m n c row rest at h s more = more m
kept_fault_cases false all m n c row rest at h s more = no_fault (fault_of_entry all m (n, c)) (first_fault_from all (suc m) rest)
    (ap (fault_at_row m c) at ∙ fine m c row h s) (more (suc m))

kept_fault : (all rows : List Row) (n : ℕ) (counts : List ℤ) → IsRest all n rows → Fits (2 ^ 31) rows counts → (m : ℕ)
    → first_fault_from all m (kept n counts) ≡ None
kept_fault all [] n [] h f m = refl
kept_fault all [] n (c ∷ counts) h f m = absurd f
kept_fault all (row ∷ rows) n [] h f m = absurd f
kept_fault all (row ∷ rows) n (c ∷ counts) h f m = kept_fault_cases (int_eq c (pos 0)) all m n c row (kept (suc n) counts)
    (rest_first all n row rows h) f.0 f.1 (kept_fault all rows (suc n) counts (rest_more all n row rows h) f.2)

kept_few_cases : (test : Bool) (n count : ℕ) (c : ℤ) (rest : List (ℕ × ℤ)) → length rest ≤ count
    → length (cond test [] ((n, c) ∷ []) ++ rest) ≤ suc count
kept_few_cases true n count c rest h = omega (arith, h)
kept_few_cases false n count c rest h = omega (arith, h)

kept_few : (n : ℕ) (counts : List ℤ) → length (kept n counts) ≤ length counts
kept_few n [] = omega arith
kept_few n (c ∷ counts) = kept_few_cases (int_eq c (pos 0)) n (length counts) c (kept (suc n) counts) (kept_few (suc n) counts)

length_counted : (entries : List (ℕ × ℤ)) (counts : List ℤ) → length (counted entries counts) ≡ length counts
length_counted [] counts = refl
length_counted (entry ∷ rest) counts = length_counted rest (added entry.0 entry.1 counts)
    ∙ length-set counts entry.0 (get_or counts entry.0 (pos 0) +ℤ entry.1)

allowed_within : (rows : List Row) (entries : List (ℕ × ℤ)) → AllAllowed rows entries → AreWithin (length rows) entries
allowed_within rows [] h = tt
allowed_within rows (entry ∷ rest) h = (slice_get_within rows entry.0 h.0.0 h.0.1, allowed_within rows rest h.1)

-- how often a row counts is what the entries say of it
count_cases : (test : Bool) (counts : List ℤ) (row n : ℕ) (times : ℤ) → eqb row n ≡ test → row < length counts
    → get_or (set counts row (get_or counts row (pos 0) +ℤ times)) n (pos 0) ≡ cond test times (pos 0) +ℤ get_or counts n (pos 0)
count_cases true counts row n times e low =
    let same : row ≡ n = eqb-true row n e in
    ap (λ (k : ℕ). get_or (set counts row (get_or counts row (pos 0) +ℤ times)) k (pos 0)) (sym same)
    ∙ get_or-set_same counts row (get_or counts row (pos 0) +ℤ times) (pos 0) low ∙ turned (get_or counts row (pos 0)) times
    ∙ ap (λ (k : ℕ). times +ℤ get_or counts k (pos 0)) same
  where
    turned : (a b : ℤ) → a +ℤ b ≡ b +ℤ a
    turned a b = omega (arith, ints)
count_cases false counts row n times e low = get_or-set_other counts row n (get_or counts row (pos 0) +ℤ times) (pos 0)
    (λ s. clash (eqb row n) e (eq-eqb row n (sym s))) ∙ plain (get_or counts n (pos 0))
  where
    clash : (x : Bool) → x ≡ false → x ≡ true → ⊥
    clash true e f = absurd (cc)
    clash false e f = absurd (cc)

    plain : (a : ℤ) → a ≡ pos 0 +ℤ a
    plain a = omega (arith, ints)

count_added : (counts : List ℤ) (row n : ℕ) (times : ℤ) → row < length counts → get_or (added row times counts) n (pos 0) ≡ cond
    (eqb row n) times (pos 0) +ℤ get_or counts n (pos 0)
count_added counts row n times low = count_cases (eqb row n) counts row n times refl low

count_is : (entries : List (ℕ × ℤ)) (counts : List ℤ) (n : ℕ) → AreWithin (length counts) entries
    → get_or (counted entries counts) n (pos 0) ≡ coefficient_of n entries +ℤ get_or counts n (pos 0)
count_is [] counts n h = plain (get_or counts n (pos 0))
  where
    plain : (a : ℤ) → a ≡ pos 0 +ℤ a
    plain a = omega (arith, ints)
count_is (entry ∷ rest) counts n h =
    let more = added entry.0 entry.1 counts in
    count_is rest more n (subst (λ (k : ℕ). AreWithin k rest)
    (sym (length-set counts entry.0 (get_or counts entry.0 (pos 0) +ℤ entry.1))) h.1)
    ∙ ap (λ (z : ℤ). coefficient_of n rest +ℤ z) (count_added counts entry.0 n entry.1 h.0)
    ∙ moved (coefficient_of n rest) (cond (eqb entry.0 n) entry.1 (pos 0)) (get_or counts n (pos 0))
  where
    moved : (a b c : ℤ) → a +ℤ (b +ℤ c) ≡ (b +ℤ a) +ℤ c
    moved a b c = omega (arith, ints)

fits_least : (most least : ℕ) (rows : List Row) (counts : List ℤ) → ((n : ℕ) → unsigned_abs (get_or counts n (pos 0)) ≤ least)
    → Fits most rows counts → Fits least rows counts
fits_least most least [] [] h f = tt
fits_least most least [] (c ∷ counts) h f = f
fits_least most least (row ∷ rows) [] h f = f
fits_least most least (row ∷ rows) (c ∷ counts) h f = (f.0, h 0, fits_least most least rows counts (λ n. h (suc n)) f.2)

-- the multipliers say what the entries say
pub record AreMultipliers (rows : List Row) (entries list : List (ℕ × ℤ)) : Type 0 where
  pub fault : first_fault rows list ≡ None
  pub sums : (number : Row → ℤ) → sum_of number rows list ≡ sum_of number rows entries
  pub few : length list ≤ length rows

pub multipliers_are : (rows : List Row) (count : ℕ) (entries : List (ℕ × ℤ)) → count ≡ length rows → AllAllowed rows entries
    → ((n : ℕ) → unsigned_abs (coefficient_of n entries) ≤ 2 ^ 31) → AreMultipliers rows entries (multipliers_of count entries)
multipliers_are rows count entries e allowed small =
    let zeros : List ℤ = replicate count (pos 0) in
    let n : length zeros ≡ count = length-replicate {A = ℤ} count (pos 0) in
    let all = counted entries zeros in
    let m : length all ≡ length rows = length_counted entries zeros ∙ n ∙ e in
    let within : AreWithin (length zeros) entries = subst (λ (k : ℕ). AreWithin k entries) (sym (n ∙ e))
    (allowed_within rows entries allowed) in
    record {
      fault = kept_fault rows rows 0 all (same_rest rows)
          (fits_least (0 + total_size entries) (2 ^ 31) rows all
          (λ k. subst (λ (z : ℤ). unsigned_abs z ≤ 2 ^ 31)
          (sym (count_is entries zeros k within ∙ ap (λ (z : ℤ). coefficient_of k entries +ℤ z) (zero_at count k)
          ∙ plain (coefficient_of k entries))) (small k)) (fits_counted 0 rows entries zeros allowed (fits_zeros rows count e))) 0;
      sums = λ number. kept_sum number rows rows 0 all (same_rest rows) (omega (arith, m))
          ∙ dense_counted number rows entries zeros within
          ∙ ap (λ (z : ℤ). sum_of number rows entries +ℤ z) (dense_zeros number rows count) ∙ plain (sum_of number rows entries);
      few = let f = kept_few 0 all in omega (arith, f, m);
    }
  where
    same_rest : (rows : List Row) (k : ℕ) → slice_get rows (0 + k) ≡ slice_get rows k
    same_rest rows k = ap (slice_get rows) (zero_more k)
      where
        zero_more : (k : ℕ) → 0 + k ≡ k
        zero_more k = omega arith

    plain : (d : ℤ) → d +ℤ pos 0 ≡ d
    plain d = omega (arith, ints)

-- one zero more
zero_again : (old : List ℤ) (n : ℕ) → (old ++ pos 0 ∷ []) ++ replicate n (pos 0) ≡ old ++ replicate (suc n) (pos 0)
zero_again old n = append_assoc old (pos 0 ∷ []) (replicate n (pos 0))

pub zeros_more : (old new : List ℤ) (n count : ℕ) (all : List ℤ) → n < count → new ≡ old ++ pos 0 ∷ []
    → old ++ replicate (count - n) (pos 0) ≡ all → new ++ replicate (count - (n + 1)) (pos 0) ≡ all
zeros_more old new n count all low e h =
    let s : suc (count - (n + 1)) ≡ count - n = omega arith in
    ap (λ (l : List ℤ). l ++ replicate (count - (n + 1)) (pos 0)) e ∙ zero_again old (count - (n + 1))
    ∙ ap (λ (k : ℕ). old ++ replicate k (pos 0)) s ∙ h
