-- What the ties of a trail say together.
use Rattle.std.proofs.Common.{◌≡◌, ℕ, zero, suc, ◌+◌, ◌<◌, ◌≤◌, List, [], ◌∷◌, ◌++◌, length, get_or, ℤ, pos, ◌+ℤ◌, ◌-ℤ◌, ◌*ℤ◌}
use Rattle.std.proofs.Common.{Option, Some, None, subst, ap, arith, ◌∙◌, sym}
use Rattle.std.specs.Prelude.{slice_get, unsigned_abs}
use Rattle.std.specs.List.{All}
use Rattle.std.proofs.lemmas.Int.{ints}
use Rattle.rank_forms.proofs.Counted.{both_small}
use Rattle.lin_core.proofs.Coefficients.{coefficient_both}
use Rattle.list_views.proofs.Quantified.{all_at}
use Rattle.list_views.proofs.Ring.{times_plus}
use Rattle.lin_core.specs.Combination.{number_of, sum_of, AllAllowed}
use Rattle.lin_core.specs.Rows.{Row, coefficient_of}
use Rattle.lin_core.proofs.Signs.{mul-zero_ℤ}
use Rattle.rank_forms.specs.declared.rule_links.links.Come.{Come}
use Rattle.rank_forms.specs.declared.rule_links.links.Tie.{Tie}
use Rattle.rank_forms.specs.inner.Following.{unit}
use Rattle.rank_forms.specs.rule_links.Falls.{AreLinked, AreRising, ComesBy}
use Rattle.rank_forms.specs.rule_links.Ties.{Known, last_of, trail_by, trail_from}

-- ties of a kind from a first variable to v, the last of them first, and what they add up to
abbrev pub IsTrail : (Tie → Type 0) → ℕ → ℕ → ℤ → List Tie → Type 0
IsTrail P first v by [] = (v ≡ first) × (by ≡ pos 0)
IsTrail P first v by (tie ∷ rest) = P tie × (tie.link.to ≡ v) × (b : ℤ) × (by ≡ b +ℤ tie.link.by) × IsTrail P first tie.link.from b rest

trail_last : (P : Tie → Type 0) (ties : List Tie) (first : ℕ) (known : Known) (n v : ℕ) (by : ℤ) (last : Option Tie) → All P ties
    → AreRising ties → v < suc n
    → ((u : ℕ) (come : Come) → u < n → get_or known u None ≡ Some come → IsTrail P first u come.by (trail_from n known u))
    → ComesBy ties first known v by last → IsTrail P first v by (trail_by last (trail_from n known))
trail_last P ties first known n v by None all rising low more h = h
trail_last P ties first known n v by (Some tie) all rising low more h =
    let rise = all_at (λ (tie : Tie). tie.link.from < tie.link.to) ties h.0 tie rising h.1 in
    (all_at P ties h.0 tie all h.1, h.2, h.3.by, h.5, more tie.link.from h.3 (lower tie.link.from tie.link.to v n rise h.2 low) h.4)
  where
    lower : (u w v n : ℕ) → u < w → w ≡ v → v < suc n → u < n
    lower u w v n a b c = omega (arith, a, b, c)

pub trail_is : (P : Tie → Type 0) (ties : List Tie) (first : ℕ) (known : Known) → All P ties → AreRising ties
    → AreLinked ties first known → (n v : ℕ) (come : Come) → v < n → get_or known v None ≡ Some come
    → IsTrail P first v come.by (trail_from n known v)
trail_is P ties first known all rising linked zero v come low e = absurd (omega (arith, low))
trail_is P ties first known all rising linked (suc n) v come low e =
    subst (λ (o : Option Come). IsTrail P first v come.by (trail_by (last_of o) (trail_from n known))) (sym e)
    (trail_last P ties first known n v come.by come.last all rising low
    (λ u c less f. trail_is P ties first known all rising linked n u c less f) (linked v come e))

-- a trail of rising ties is short
pub trail_short : (P : Tie → Type 0) (first v : ℕ) (by : ℤ) (ties : List Tie) → ((tie : Tie) → P tie → tie.link.from < tie.link.to)
    → IsTrail P first v by ties → length ties ≤ v
trail_short P first v by [] rise h = omega arith
trail_short P first v by (tie ∷ rest) rise h =
    let less = rise tie h.0 in
    let to = h.1 in
    let more = trail_short P first tie.link.from h.2 rest rise h.4 in
    omega (arith, less, to, more)

-- entries that stand for a tie: so many times the one variable less the other one
pub record IsShift (rows : List Row) (times counts : ℤ) (size : ℕ) (tie : Tie) (entries : List (ℕ × ℤ)) : Type 0 where
  pub coefficients : (x : ℕ) → sum_of (λ row. coefficient_of x row.terms) rows entries ≡ times *ℤ
      (unit x tie.link.from -ℤ unit x tie.link.to)
  pub constant : sum_of (λ row. row.constant) rows entries ≡ counts *ℤ tie.link.by
  pub allowed : AllAllowed rows entries
  pub small : (n : ℕ) → unsigned_abs (coefficient_of n entries) ≤ size

-- and for a trail
pub record AreShifts (rows : List Row) (times counts : ℤ) (size : ℕ) (first v : ℕ) (by : ℤ) (entries : List (ℕ × ℤ)) : Type 0 where
  pub coefficients : (x : ℕ) → sum_of (λ row. coefficient_of x row.terms) rows entries ≡ times *ℤ (unit x first -ℤ unit x v)
  pub constant : sum_of (λ row. row.constant) rows entries ≡ counts *ℤ by
  pub allowed : AllAllowed rows entries
  pub small : (n : ℕ) → unsigned_abs (coefficient_of n entries) ≤ size

pub sum_both : (number : Row → ℤ) (rows : List Row) (a b : List (ℕ × ℤ)) → sum_of number rows (a ++ b) ≡ sum_of number rows a +ℤ
    sum_of number rows b
sum_both number rows [] b = plain (sum_of number rows b)
  where
    plain : (x : ℤ) → x ≡ pos 0 +ℤ x
    plain x = omega (arith, ints)
sum_both number rows (entry ∷ rest) b = ap (λ (z : ℤ). entry.1 *ℤ number_of number (slice_get rows entry.0) +ℤ z)
    (sum_both number rows rest b) ∙ moved (entry.1 *ℤ number_of number (slice_get rows entry.0)) (sum_of number rows rest)
    (sum_of number rows b)
  where
    moved : (x y z : ℤ) → x +ℤ (y +ℤ z) ≡ (x +ℤ y) +ℤ z
    moved x y z = omega (arith, ints)

pub allowed_both : (rows : List Row) (a b : List (ℕ × ℤ)) → AllAllowed rows a → AllAllowed rows b → AllAllowed rows (a ++ b)
allowed_both rows [] b h k = k
allowed_both rows (entry ∷ rest) b h k = (h.0, allowed_both rows rest b h.1 k)

pub size_both : (a b : List (ℕ × ℤ)) (m n : ℕ) → ((x : ℕ) → unsigned_abs (coefficient_of x a) ≤ m)
    → ((x : ℕ) → unsigned_abs (coefficient_of x b) ≤ n) → (x : ℕ) → unsigned_abs (coefficient_of x (a ++ b)) ≤ m + n
size_both a b m n h k x = subst (λ (z : ℤ). unsigned_abs z ≤ m + n) (sym (coefficient_both x a b))
    (both_small (coefficient_of x a) (coefficient_of x b) m n (h x) (k x))

pub no_shift : (rows : List Row) (times counts : ℤ) (first v : ℕ) (by : ℤ) → v ≡ first → by ≡ pos 0
    → AreShifts rows times counts 0 first v by []
no_shift rows times counts first v by e z = record {
  coefficients = λ x. nothing times (unit x first) (unit x v) (ap (unit x) (sym e));
  constant = nothing_counts counts by z;
  allowed = tt;
  small = λ x. omega arith;
}
  where
    nothing : (t a b : ℤ) → a ≡ b → pos 0 ≡ t *ℤ (a -ℤ b)
    nothing t a b e = sym (mul-zero_ℤ t) ∙ ap (λ (z : ℤ). t *ℤ z) (same a b e)
      where
        same : (a b : ℤ) → a ≡ b → pos 0 ≡ a -ℤ b
        same a b e = omega (arith, ints)

    nothing_counts : (c b : ℤ) → b ≡ pos 0 → pos 0 ≡ c *ℤ b
    nothing_counts c b e = sym (mul-zero_ℤ c) ∙ ap (λ (z : ℤ). c *ℤ z) (sym e)

pub shift_more : (rows : List Row) (times counts : ℤ) (m n first v : ℕ) (b by : ℤ) (tie : Tie) (a rest : List (ℕ × ℤ))
    → tie.link.to ≡ v → by ≡ b +ℤ tie.link.by → IsShift rows times counts m tie a
    → AreShifts rows times counts n first tie.link.from b rest → AreShifts rows times counts (m + n) first v by (a ++ rest)
shift_more rows times counts m n first v b by tie a rest to adds one others = record {
  coefficients = λ x. sum_both (λ row. coefficient_of x row.terms) rows a rest
      ∙ ap (λ (z : ℤ). z +ℤ sum_of (λ row. coefficient_of x row.terms) rows rest) (one.coefficients x)
      ∙ ap (λ (z : ℤ). times *ℤ (unit x tie.link.from -ℤ unit x tie.link.to) +ℤ z) (others.coefficients x)
      ∙ joined times (unit x tie.link.from) (unit x tie.link.to) (unit x first) ∙ ap (λ (w : ℕ). times *ℤ (unit x first -ℤ unit x w)) to;
  constant = sum_both (λ row. row.constant) rows a rest ∙ ap (λ (z : ℤ). z +ℤ sum_of (λ row. row.constant) rows rest) one.constant
      ∙ ap (λ (z : ℤ). counts *ℤ tie.link.by +ℤ z) others.constant ∙ sym (times_plus counts tie.link.by b)
      ∙ ap (λ (z : ℤ). counts *ℤ z) (turned tie.link.by b ∙ sym adds);
  allowed = allowed_both rows a rest one.allowed others.allowed;
  small = size_both a rest m n one.small others.small;
}
  where
    turned : (a b : ℤ) → a +ℤ b ≡ b +ℤ a
    turned a b = omega (arith, ints)

    joined : (t f w s : ℤ) → t *ℤ (f -ℤ w) +ℤ t *ℤ (s -ℤ f) ≡ t *ℤ (s -ℤ w)
    joined t f w s = sym (times_plus t (f -ℤ w) (s -ℤ f)) ∙ ap (λ (z : ℤ). t *ℤ z) (through f w s)
      where
        through : (f w s : ℤ) → (f -ℤ w) +ℤ (s -ℤ f) ≡ s -ℤ w
        through f w s = omega (arith, ints)
