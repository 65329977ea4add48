-- What a pattern tells of a heap: the term of the value that its id stands for.
use Rattle.std.specs.Prelude.{◌≡◌, ◌↔◌, ℕ}
use Rattle.jvm_values.specs.declared.heap.Heap.{Heap}
use Rattle.jvm_values.specs.Terms.{HeapTerm, HeapTerms, IsTerm}
use Rattle.jvm_values.specs.Terms as terms
use Rattle.abs_reach.specs.JvmHeapsAcyclicTerms.{HasTerm}
use Rattle.abs_cells.specs.Fits.{Meaning}
use Rattle.abs_cells.specs.Patterns.{Pattern, Patterns, null, leaf, node, variable, none, more}

-- a term is a pattern in which each variable is replaced by a term that stands for it; below it,
-- the terms of the children are those of the patterns, one by one
abbrev mutual
  pub IsFilled : (ℕ → HeapTerm → Type 0) → Pattern → HeapTerm → Type 0
  IsFilled stands null terms.null = Unit {0}
  IsFilled stands leaf terms.leaf = Unit {0}
  IsFilled stands (node class below) (terms.node other children) = (class ≡ other) × AreFilled stands below children
  IsFilled stands (variable id) term = stands id term
  IsFilled stands pattern term = ⊥

  pub AreFilled : (ℕ → HeapTerm → Type 0) → Patterns → HeapTerms → Type 0
  AreFilled stands none terms.none = Unit {0}
  AreFilled stands (more pattern rest) (terms.more term others) = IsFilled stands pattern term × AreFilled stands rest others
  AreFilled stands patterns children = ⊥

-- the term of the value that an id stands for
abbrev pub IsTermOf : Heap → Meaning → ℕ → HeapTerm → Type 0
IsTermOf heap meaning id term = IsTerm heap (meaning id) term

-- what an id stands for has a term, and that is exactly the pattern in which each variable is replaced by the term of its value
pub record HasTermByPattern (heap : Heap) (meaning : Meaning) (id : ℕ) (pattern : Pattern) : Type 0 where
  pub has : HasTerm heap (meaning id)
  pub is : (term : HeapTerm) → IsTermOf heap meaning id term ↔ IsFilled (IsTermOf heap meaning) pattern term
