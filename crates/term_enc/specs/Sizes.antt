-- The size of a pattern: multiples of the weights of its classes, and of the sizes of its variables.
use Rattle.std.specs.Prelude.{◌≡◌, ℕ, ◌==◌, nat_lt, ℤ, pos, negsuc, ◌+ℤ◌, if◌then◌else◌, List, [], ◌∷◌, ◌++◌, map}
use Rattle.std.specs.Ordering.{int_eq}
use Rattle.lin_core.specs.declared.rows.RowKind.TheVariants.{IsZero}
use Rattle.lin_core.specs.declared.rows.WRow.{WRow}
use Rattle.jvm_values.specs.declared.heap.Value.{Value}
use Rattle.jvm_values.specs.declared.heap.Heap.{Heap}
use Rattle.jvm_values.specs.Terms.{HeapTerm, HeapTerms, IsTerm}
use Rattle.jvm_values.specs.Terms as terms
use Rattle.abs_cells.specs.Patterns.{Pattern, Patterns, null, leaf, node, variable, none, more}

-- ---- terms

-- what a term weighs: the sum of the weights of its nodes' classes; and what a list of terms weighs
abbrev mutual
  pub weight_of : (ℕ → ℤ) → HeapTerm → ℤ
  weight_of weigh terms.null = pos 0
  weight_of weigh terms.leaf = pos 0
  weight_of weigh (terms.node class children) = weigh class +ℤ weights_of weigh children

  pub weights_of : (ℕ → ℤ) → HeapTerms → ℤ
  weights_of weigh terms.none = pos 0
  weights_of weigh (terms.more term rest) = weight_of weigh term +ℤ weights_of weigh rest

-- a value has a term, and that weighs so much
pub record Weighs (weigh : ℕ → ℤ) (heap : Heap) (value : Value) (number : ℤ) : Type 0 where
  pub term : HeapTerm
  pub is : IsTerm heap value term
  pub number_is : number ≡ weight_of weigh term

-- ---- patterns

-- the variables of a pattern, each as often as it stands there; and those of a list of patterns
abbrev mutual
  pub variables_in : Pattern → List ℕ
  variables_in null = []
  variables_in leaf = []
  variables_in (node class children) = variables_among children
  variables_in (variable id) = id ∷ []

  pub variables_among : Patterns → List ℕ
  variables_among none = []
  variables_among (more pattern rest) = variables_in pattern ++ variables_among rest

-- the classes of the nodes of a pattern, each as often as a node of it stands there; and those of a list of patterns
abbrev mutual
  pub classes_in : Pattern → List ℕ
  classes_in null = []
  classes_in leaf = []
  classes_in (node class children) = class ∷ classes_among children
  classes_in (variable id) = []

  pub classes_among : Patterns → List ℕ
  classes_among none = []
  classes_among (more pattern rest) = classes_in pattern ++ classes_among rest

-- ---- sums

-- a term in front of others, but where its number is 0
abbrev pub unless_zero : ℕ → ℤ → List (ℕ × ℤ) → List (ℕ × ℤ)
unless_zero name number rest = if int_eq number (pos 0) then rest else (name, number) ∷ rest

-- rising terms with one more: terms of one name are added up, and one whose number is 0 goes
abbrev pub with_term : ℕ × ℤ → List (ℕ × ℤ) → List (ℕ × ℤ)
with_term term [] = unless_zero term.0 term.1 []
with_term term (first ∷ rest) =
    if term.0 == first.0 then unless_zero term.0 (term.1 +ℤ first.1) rest
    else if nat_lt term.0 first.0 then unless_zero term.0 term.1 (first ∷ rest)
    else first ∷ with_term term rest

-- terms in any order as rising ones
abbrev pub collected : List (ℕ × ℤ) → List (ℕ × ℤ)
collected [] = []
collected (term ∷ terms) = with_term term (collected terms)

-- terms of some names, each with one number
abbrev pub each_times : ℤ → List ℕ → List (ℕ × ℤ)
each_times number names = map (λ (name : ℕ). (name, number)) names

-- the variables in the size of a pattern, each by the number that it has in a rule, and how often it stands in the pattern. The
-- size is the sum of these, and of the multiples of the weights of its classes; there is no other constant
abbrev pub size_terms : (ℕ → ℕ) → Pattern → List (ℕ × ℤ)
size_terms place pattern = collected (each_times (pos 1) (map place (variables_in pattern)))

-- the classes in the size of a pattern, each with how often a node of it stands in the pattern
abbrev pub size_weights : Pattern → List (ℕ × ℤ)
size_weights pattern = collected (each_times (pos 1) (classes_in pattern))

-- the row that says that a variable is the size of a pattern: the variable less that size is 0
abbrev pub size_row : ℕ → (ℕ → ℕ) → Pattern → WRow
size_row v place pattern = record {
  kind = IsZero;
  terms = collected ((v, pos 1) ∷ each_times (negsuc 0) (map place (variables_in pattern)));
  constant = pos 0;
  weights = collected (each_times (negsuc 0) (classes_in pattern));
}
