-- The term of a value: the unfolding of its region, and the size of a term by weights of classes.
use Rattle.std.specs.Prelude.{◌≡◌, ℕ, zero, suc, ◌+◌, List, [], ◌∷◌, Option, Some, None, slice_get, slice_index}
use Rattle.std.specs.Option.{option_map, option_and_then}
use Rattle.jvm_values.specs.declared.heap.Value.{Value}
use Rattle.jvm_values.specs.declared.heap.Value.TheVariants as values
use Rattle.jvm_values.specs.declared.heap.Object.{Object}
use Rattle.jvm_values.specs.declared.heap.Object.TheVariants.{Instance, Nums, Refs}
use Rattle.jvm_values.specs.declared.heap.Heap.{Heap}
use Rattle.jvm_values.specs.Heaps.{IsDag}

-- null, an array, or an instance of a class with the terms of its reference fields
mutual
  pub data HeapTerm : Type 0 where
    null : HeapTerm
    leaf : HeapTerm
    node : ℕ → HeapTerms → HeapTerm

  -- a list of terms
  pub data HeapTerms : Type 0 where
    none : HeapTerms
    more : HeapTerm → HeapTerms → HeapTerms

-- the terms of the references among some values, in their order; ints are no part of terms
abbrev pub terms_by : (Value → Option HeapTerm) → List Value → Option HeapTerms
terms_by term [] = Some none
terms_by term (values.Int n ∷ rest) = terms_by term rest
terms_by term (values.Null ∷ rest) = option_map (more null) (terms_by term rest)
terms_by term (values.Ref r ∷ rest) = option_and_then (λ first. option_map (more first) (terms_by term rest)) (term (values.Ref r))

-- the term of an object, whose references' terms are given
abbrev pub term_of_object : (Value → Option HeapTerm) → Object → Option HeapTerm
term_of_object term (Instance class fields) = option_map (node class) (terms_by term fields)
term_of_object term (Nums kind items) = Some leaf
term_of_object term (Refs element items) = Some leaf

-- the term of a reference, if it is at most so deep
abbrev pub term_within : ℕ → Heap → Value → Option HeapTerm
term_within depth heap (values.Int n) = None
term_within depth heap values.Null = Some null
term_within zero heap (values.Ref r) = None
term_within (suc depth) heap (values.Ref r) = option_and_then (term_of_object (term_within depth heap)) (slice_get heap.objects r)

-- a term is that of a value; only a value whose region has no cycle has one
pub record IsTerm (heap : Heap) (value : Value) (term : HeapTerm) : Type 0 where
  pub acyclic : IsDag heap value
  pub depth : ℕ
  pub is : term_within depth heap value ≡ Some term

-- the sum of the weights of a term's classes; a class past the list of weights has weight 0
abbrev mutual
  pub size_of : List ℕ → HeapTerm → ℕ
  size_of weights null = 0
  size_of weights leaf = 0
  size_of weights (node class children) = slice_index weights class + sizes_of weights children

  pub sizes_of : List ℕ → HeapTerms → ℕ
  sizes_of weights none = 0
  sizes_of weights (more term rest) = size_of weights term + sizes_of weights rest
