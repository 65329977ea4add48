-- So much of each of some names, collected, and how many names there are in a pattern.
use Rattle.std.proofs.Common.{◌≡◌, ℕ, zero, suc, ◌+◌, ◌-◌, ◌<◌, ◌≤◌, ◌^◌, List, [], ◌∷◌, length, map, drop, get_or, ℤ}
use Rattle.std.proofs.Common.{subst, ap, arith, refl, ◌∙◌, sym}
use Rattle.std.specs.Prelude.{unsigned_abs}
use Rattle.std.proofs.Math.ListN.{drop_of_length-le}
use Rattle.std.proofs.Math.Seq.{drop-cons}
use Rattle.std.proofs.lemmas.List.{length-append, length-map}
use Rattle.lin_core.specs.Weights.{total_size}
use Rattle.abs_cells.specs.Patterns.{Pattern, Patterns, null, leaf, node, variable, none, more, count_in, counts_in}
use Rattle.term_enc.specs.Sizes.{variables_in, variables_among, classes_in, classes_among, with_term, collected, each_times}
use Rattle.path_rules.proofs.Collecting.{total_with}

-- what is collected of the last names
pub record AreAdded (number : ℤ) (names : List ℕ) (sum : List (ℕ × ℤ)) : Type 0 where
  pub made : sum ≡ collected (each_times number names)
  pub small : total_size sum ≤ length names

pub none_added : (number : ℤ) (names : List ℕ) (left : ℕ) → length names ≤ left → AreAdded number (drop left names) []
none_added number names left l = subst (λ (t : List ℕ). AreAdded number t []) (sym (drop_of_length-le names l))
    (record { made = refl; small = omega arith })

before_last : (n : ℕ) → 0 < n → suc (n - 1) ≡ n
before_last n l = omega (arith, l)

last_name : (names : List ℕ) (left d : ℕ) → 0 < left → left ≤ length names → drop (left - 1) names ≡ get_or names (left - 1) d
    ∷ drop left names
last_name names left d low l = drop-cons names (left - 1) d (omega (arith, low, l))
    ∙ ap (λ (n : ℕ). get_or names (left - 1) d ∷ drop n names) (before_last left low)

pub one_added : (number : ℤ) (names : List ℕ) (left d : ℕ) (sum after : List (ℕ × ℤ)) → unsigned_abs number ≤ 1 → 0 < left
    → left ≤ length names →
    after ≡ with_term (get_or names (left - 1) d, number) sum → AreAdded number (drop left names) sum
    → AreAdded number (drop (left - 1) names) after
one_added number names left d sum after unit low l made so =
    let w = total_with (get_or names (left - 1) d, number) sum in
    let k = so.small in
    let size = ap (λ (m : List (ℕ × ℤ)). total_size m) made in
    subst (λ (t : List ℕ). AreAdded number t after) (sym (last_name names left d low l)) (record {
      made = made ∙ ap (with_term (get_or names (left - 1) d, number)) so.made;
      small = omega (arith, w, k, size, unit);
    })

-- there is room for one more
pub added_fits : (number : ℤ) (names : List ℕ) (left : ℕ) (sum : List (ℕ × ℤ)) → unsigned_abs number ≤ 1 → length names ≤ 65536
    → AreAdded number (drop left names) sum → unsigned_abs number + total_size sum ≤ 2 ^ 62
added_fits number names left sum unit few so =
    let k = so.small in
    let m = drop_short names left in
    omega (arith, k, m, unit, few)
  where
    drop_short : (xs : List ℕ) (n : ℕ) → length (drop n xs) ≤ length xs
    drop_short [] zero = omega arith
    drop_short [] (suc n) = omega arith
    drop_short (x ∷ xs) zero = omega arith
    drop_short (x ∷ xs) (suc n) = let h = drop_short xs n in omega (arith, h)

-- ---- patterns

mutual
  pub few_variables : (pattern : Pattern) → length (variables_in pattern) ≤ count_in pattern
  few_variables null = omega arith
  few_variables leaf = omega arith
  few_variables (node class children) = let h = few_variables_among children in omega (arith, h)
  few_variables (variable id) = omega arith

  pub few_variables_among : (patterns : Patterns) → length (variables_among patterns) ≤ counts_in patterns
  few_variables_among none = omega arith
  few_variables_among (more pattern rest) =
      let h = few_variables pattern in
      let k = few_variables_among rest in
      let l = length-append (variables_in pattern) (variables_among rest) in
      omega (arith, h, k, l)

mutual
  pub few_classes : (pattern : Pattern) → length (classes_in pattern) ≤ count_in pattern
  few_classes null = omega arith
  few_classes leaf = omega arith
  few_classes (node class children) = let h = few_classes_among children in omega (arith, h)
  few_classes (variable id) = omega arith

  few_classes_among : (patterns : Patterns) → length (classes_among patterns) ≤ counts_in patterns
  few_classes_among none = omega arith
  few_classes_among (more pattern rest) =
      let h = few_classes pattern in
      let k = few_classes_among rest in
      let l = length-append (classes_in pattern) (classes_among rest) in
      omega (arith, h, k, l)

pub few_names : (place : ℕ → ℕ) (pattern : Pattern) → length (map place (variables_in pattern)) ≤ count_in pattern
few_names place pattern = let h = few_variables pattern in let l = length-map (variables_in pattern) place in omega (arith, h, l)
