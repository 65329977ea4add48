-- Rows that are reasons show what falls and what bounds it.
use Rattle.std.proofs.Common.{◌≡◌, ℕ, ◌+◌, ◌≤◌, ◌^◌, List, ◌++◌, length, ℤ, pos, ◌+ℤ◌, ◌-ℤ◌, Option, Some, subst, ap, arith, ◌∙◌, sym}
use Rattle.std.specs.Prelude.{unsigned_abs}
use Rattle.std.proofs.lemmas.Int.{ints}
use Rattle.std.proofs.lemmas.Option.{same_Some}
use Rattle.lin_core.proofs.Coefficients.{coefficient_both}
use Rattle.lin_core.specs.Combination.{sum_of, AllAllowed}
use Rattle.lin_core.specs.Rows.{Row, coefficient_of}
use Rattle.rank_forms.specs.declared.reasons.Reasons.{Reasons}
use Rattle.rank_forms.specs.rule_links.Counting.{multipliers_of}
use Rattle.rank_forms.specs.Following.{IsBoundAt, IsFollowed}
use Rattle.rank_forms.specs.Reasons.{both_reasons, followed_by}
use Rattle.rank_forms.proofs.Counted.{multipliers_are, both_small}
use Rattle.rank_forms.proofs.Trailed.{allowed_both, size_both, sum_both}

-- the rows show what falls from the start to the end, and what is to be added at the start; no row counts more than `most` times
pub record IsReasoned (rows : List Row) (start finish : List (ℕ × ℤ)) (most wide : ℕ) (reasons : Reasons) : Type 0 where
  pub coefficients : (x : ℕ) → sum_of (λ row. coefficient_of x row.terms) rows reasons.fall ≡ coefficient_of x start -ℤ
      coefficient_of x finish
  pub constant : sum_of (λ row. row.constant) rows reasons.fall +ℤ reasons.falls ≡ pos 0
  pub allowed : AllAllowed rows reasons.fall
  pub small : (n : ℕ) → unsigned_abs (coefficient_of n reasons.fall) ≤ most
  pub bound_coefficients : (x : ℕ) → sum_of (λ row. coefficient_of x row.terms) rows reasons.bound ≡ coefficient_of x start
  pub bound_constant : sum_of (λ row. row.constant) rows reasons.bound ≡ reasons.base
  pub bound_allowed : AllAllowed rows reasons.bound
  pub bound_small : (n : ℕ) → unsigned_abs (coefficient_of n reasons.bound) ≤ most
  pub base : unsigned_abs reasons.base ≤ wide

pub both_reasoned : (rows : List Row) (s f t g : List (ℕ × ℤ)) (m w n v : ℕ) (a b : Reasons) → IsReasoned rows s f m w a
    → IsReasoned rows t g n v b → IsReasoned rows (s ++ t) (f ++ g) (m + n) (w + v) (both_reasons a b)
both_reasoned rows s f t g m w n v a b h k = record {
  coefficients = λ x. sum_both (λ row. coefficient_of x row.terms) rows a.fall b.fall
      ∙ ap (λ (z : ℤ). z +ℤ sum_of (λ row. coefficient_of x row.terms) rows b.fall) (h.coefficients x)
      ∙ ap (λ (z : ℤ). (coefficient_of x s -ℤ coefficient_of x f) +ℤ z) (k.coefficients x)
      ∙ over (coefficient_of x s) (coefficient_of x f) (coefficient_of x t) (coefficient_of x g)
      ∙ ap (λ (z : ℤ). z -ℤ (coefficient_of x f +ℤ coefficient_of x g)) (sym (coefficient_both x s t))
      ∙ ap (λ (z : ℤ). coefficient_of x (s ++ t) -ℤ z) (sym (coefficient_both x f g));
  constant = ap (λ (z : ℤ). z +ℤ (a.falls +ℤ b.falls)) (sum_both (λ row. row.constant) rows a.fall b.fall)
      ∙ nothing (sum_of (λ row. row.constant) rows a.fall) (sum_of (λ row. row.constant) rows b.fall) a.falls b.falls h.constant
      k.constant;
  allowed = allowed_both rows a.fall b.fall h.allowed k.allowed;
  small = size_both a.fall b.fall m n h.small k.small;
  bound_coefficients = λ x. sum_both (λ row. coefficient_of x row.terms) rows a.bound b.bound
      ∙ ap (λ (z : ℤ). z +ℤ sum_of (λ row. coefficient_of x row.terms) rows b.bound) (h.bound_coefficients x)
      ∙ ap (λ (z : ℤ). coefficient_of x s +ℤ z) (k.bound_coefficients x) ∙ sym (coefficient_both x s t);
  bound_constant = sum_both (λ row. row.constant) rows a.bound b.bound
      ∙ ap (λ (z : ℤ). z +ℤ sum_of (λ row. row.constant) rows b.bound) h.bound_constant ∙ ap (λ (z : ℤ). a.base +ℤ z) k.bound_constant;
  bound_allowed = allowed_both rows a.bound b.bound h.bound_allowed k.bound_allowed;
  bound_small = size_both a.bound b.bound m n h.bound_small k.bound_small;
  base = both_small a.base b.base w v h.base k.base;
}
  where
    over : (a b c d : ℤ) → (a -ℤ b) +ℤ (c -ℤ d) ≡ (a +ℤ c) -ℤ (b +ℤ d)
    over a b c d = omega (arith, ints)

    nothing : (a b c d : ℤ) → a +ℤ c ≡ pos 0 → b +ℤ d ≡ pos 0 → (a +ℤ b) +ℤ (c +ℤ d) ≡ pos 0
    nothing a b c d e f = omega (arith, ints)

-- as multipliers
pub reasoned_followed : (rows : List Row) (start finish : List (ℕ × ℤ)) (most wide count : ℕ) (reasons : Reasons)
    → IsReasoned rows start finish most wide reasons → count ≡ length rows → most ≤ 2 ^ 31 → wide ≤ 2 ^ 40
    → IsFollowed rows start finish (followed_by count reasons)
reasoned_followed rows start finish most wide count reasons h e low less =
    let fall = multipliers_are rows count reasons.fall e h.allowed
    (λ n. through (unsigned_abs (coefficient_of n reasons.fall)) most (2 ^ 31) (h.small n) low) in
    let bound = multipliers_are rows count reasons.bound e h.bound_allowed
    (λ n. through (unsigned_abs (coefficient_of n reasons.bound)) most (2 ^ 31) (h.bound_small n) low) in
    record {
      fault = fall.fault;
      few = fall.few;
      coefficients = λ x. fall.sums (λ row. coefficient_of x row.terms) ∙ h.coefficients x;
      constant = ap (λ (z : ℤ). z +ℤ reasons.falls) (fall.sums (λ row. row.constant)) ∙ h.constant;
      bound = λ one g. subst (IsBoundAt rows start)
          (same_Some (record { rows = multipliers_of count reasons.bound; base = reasons.base }) one g) (record {
            fault = bound.fault;
            few = bound.few;
            coefficients = λ x. bound.sums (λ row. coefficient_of x row.terms) ∙ h.bound_coefficients x;
            constant = bound.sums (λ row. row.constant) ∙ h.bound_constant;
            small = through (unsigned_abs reasons.base) wide (2 ^ 40) h.base less;
          });
    }
  where
    through : (a b c : ℕ) → a ≤ b → b ≤ c → a ≤ c
    through a b c h k = omega (arith, h, k)
