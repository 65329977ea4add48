-- What a term weighs that fills a pattern, and what sizes by lists of weights tell of that.
use Rattle.std.proofs.Common.{◌≡◌, ℕ, zero, suc, ◌+◌, ◌<◌, ◌≤◌, List, [], ◌∷◌, ◌++◌, get_or, ℤ, pos, negsuc, ◌+ℤ◌, sym, ap, arith}
use Rattle.std.proofs.Common.{refl, ◌∙◌}
use Rattle.std.specs.Prelude.{All, ◌≤ℤ◌, slice_index, unsigned_abs}
use Rattle.std.proofs.lemmas.Int.{ints}
use Rattle.std.proofs.lemmas.List.Elements.{All-head}
use Rattle.jvm_values.specs.declared.heap.Heap.{Heap}
use Rattle.jvm_values.specs.Terms.{HeapTerm, HeapTerms, IsTerm, size_of, sizes_of}
use Rattle.jvm_values.specs.Terms as terms
use Rattle.abs_cells.specs.Fits.{Meaning}
use Rattle.abs_cells.specs.Patterns.{Pattern, Patterns, null, leaf, node, variable, none, more}
use Rattle.term_enc.specs.Filling.{IsFilled, AreFilled, IsTermOf}
use Rattle.term_enc.specs.Sizes.{weight_of, weights_of, Weighs, variables_in, variables_among, classes_in, classes_among}
use Rattle.term_enc.proofs.OneTerm.{one_term}
use Rattle.term_enc.proofs.Fillings.{null_filled, leaf_filled, node_filled, none_filled, more_filled}
use Rattle.term_enc.proofs.Summed.{sum_over, sum_both, all_split}

-- ---- terms that fill a pattern

add_up : (a b c d w x y z : ℤ) → w ≡ a +ℤ b → x ≡ c +ℤ d → y ≡ a +ℤ c → z ≡ b +ℤ d → w +ℤ x ≡ y +ℤ z
add_up a b c d w x y z e f g h = omega (arith, ints, e, f, g, h)

on_top : (c w v s : ℤ) → w ≡ v +ℤ s → c +ℤ w ≡ v +ℤ (c +ℤ s)
on_top c w v s e = omega (arith, ints, e)

alone : (n : ℤ) → n ≡ (n +ℤ pos 0) +ℤ pos 0
alone n = omega (arith, ints)

module _ (weigh numbers : ℕ → ℤ) (heap : Heap) (meaning : Meaning) where
  abbrev IsNumber : ℕ → Type 0
  IsNumber id = Weighs weigh heap (meaning id) (numbers id)

  mutual
    pub weighed : (pattern : Pattern) (term : HeapTerm) → IsFilled (IsTermOf heap meaning) pattern term
        → All IsNumber (variables_in pattern) →
        weight_of weigh term ≡ sum_over numbers (variables_in pattern) +ℤ sum_over weigh (classes_in pattern)
    weighed null term h all = ap (weight_of weigh) (null_filled (IsTermOf heap meaning) term h)
    weighed leaf term h all = ap (weight_of weigh) (leaf_filled (IsTermOf heap meaning) term h)
    weighed (node class below) term h all =
        let n = node_filled (IsTermOf heap meaning) class below term h in
        ap (weight_of weigh) n.1.0 ∙ on_top (weigh class) (weights_of weigh n.0) (sum_over numbers (variables_among below))
        (sum_over weigh (classes_among below)) (all_weighed below n.0 n.1.1 all)
    weighed (variable id) term h all =
        let w = All-head IsNumber id [] all in
        ap (weight_of weigh) (one_term heap (meaning id) term w.term h w.is) ∙ sym w.number_is ∙ alone (numbers id)

    pub all_weighed : (patterns : Patterns) (children : HeapTerms) → AreFilled (IsTermOf heap meaning) patterns children
        → All IsNumber (variables_among patterns) →
        weights_of weigh children ≡ sum_over numbers (variables_among patterns) +ℤ sum_over weigh (classes_among patterns)
    all_weighed none children h all = ap (weights_of weigh) (none_filled (IsTermOf heap meaning) children h)
    all_weighed (more pattern rest) children h all =
        let m = more_filled (IsTermOf heap meaning) pattern rest children h in
        let a = all_split IsNumber (variables_in pattern) (variables_among rest) all in
        ap (weights_of weigh) m.2.0
        ∙ add_up (sum_over numbers (variables_in pattern)) (sum_over weigh (classes_in pattern)) (sum_over numbers (variables_among rest))
        (sum_over weigh (classes_among rest)) (weight_of weigh m.0) (weights_of weigh m.1)
        (sum_over numbers (variables_in pattern ++ variables_among rest))
        (sum_over weigh (classes_in pattern ++ classes_among rest))
        (weighed pattern m.0 m.2.1.0 a.0) (all_weighed rest m.1 m.2.1.1 a.1)
        (sum_both numbers (variables_in pattern) (variables_among rest))
        (sum_both weigh (classes_in pattern) (classes_among rest))

-- ---- sizes by lists of weights

pos_sum : (a b : ℕ) → pos (a + b) ≡ pos a +ℤ pos b
pos_sum a b = omega (arith, ints)

module _ (weights : List ℕ) where
  mutual
    pub size_weighs : (term : HeapTerm) → pos (size_of weights term) ≡ weight_of (λ (class : ℕ). pos (slice_index weights class)) term
    size_weighs terms.null = refl
    size_weighs terms.leaf = refl
    size_weighs (terms.node class children) = pos_sum (slice_index weights class) (sizes_of weights children)
        ∙ ap (λ (z : ℤ). pos (slice_index weights class) +ℤ z) (sizes_weigh children)

    sizes_weigh : (children : HeapTerms)
        → pos (sizes_of weights children) ≡ weights_of (λ (class : ℕ). pos (slice_index weights class)) children
    sizes_weigh terms.none = refl
    sizes_weigh (terms.more term rest) =
        pos_sum (size_of weights term) (sizes_of weights rest)
        ∙ ap (λ (z : ℤ). z +ℤ pos (sizes_of weights rest)) (size_weighs term)
        ∙ ap (λ (z : ℤ). weight_of (λ (class : ℕ). pos (slice_index weights class)) term +ℤ z) (sizes_weigh rest)

-- ---- weighings as lists

-- the weights of the classes below a number
abbrev listed : (ℕ → ℕ) → ℕ → List ℕ
listed f zero = []
listed f (suc n) = f zero ∷ listed (λ (k : ℕ). f (suc k)) n

listed_at : (f : ℕ → ℕ) (n k : ℕ) → k < n → get_or (listed f n) k 0 ≡ f k
listed_at f zero k l = absurd (omega (arith, l))
listed_at f (suc n) zero l = refl
listed_at f (suc n) (suc k) l = listed_at (λ (m : ℕ). f (suc m)) n k (omega (arith, l))

-- a number above the classes of a term
abbrev mutual
  above : HeapTerm → ℕ
  above terms.null = 0
  above terms.leaf = 0
  above (terms.node class children) = suc class + all_above children

  all_above : HeapTerms → ℕ
  all_above terms.none = 0
  all_above (terms.more term rest) = above term + all_above rest

whole : (n : ℤ) → pos 0 ≤ℤ n → pos (unsigned_abs n) ≡ n
whole (pos n) l = refl
whole (negsuc n) l = absurd (omega (arith, ints, l))

module _ (weigh : ℕ → ℤ) (positive : (class : ℕ) → pos 0 ≤ℤ weigh class) where
  abbrev weights_to : ℕ → List ℕ
  weights_to n = listed (λ (class : ℕ). unsigned_abs (weigh class)) n

  weight_at : (n class : ℕ) → class < n → pos (slice_index (weights_to n) class) ≡ weigh class
  weight_at n class l = ap pos (listed_at (λ (c : ℕ). unsigned_abs (weigh c)) n class l) ∙ whole (weigh class) (positive class)

  mutual
    sized_weight : (n : ℕ) (term : HeapTerm) → above term ≤ n → pos (size_of (weights_to n) term) ≡ weight_of weigh term
    sized_weight n terms.null l = refl
    sized_weight n terms.leaf l = refl
    sized_weight n (terms.node class children) l =
        pos_sum (slice_index (weights_to n) class) (sizes_of (weights_to n) children)
        ∙ ap (λ (z : ℤ). z +ℤ pos (sizes_of (weights_to n) children)) (weight_at n class (omega (arith, l)))
        ∙ ap (λ (z : ℤ). weigh class +ℤ z) (sized_weights n children (omega (arith, l)))

    sized_weights : (n : ℕ) (children : HeapTerms) → all_above children ≤ n
        → pos (sizes_of (weights_to n) children) ≡ weights_of weigh children
    sized_weights n terms.none l = refl
    sized_weights n (terms.more term rest) l =
        pos_sum (size_of (weights_to n) term) (sizes_of (weights_to n) rest)
        ∙ ap (λ (z : ℤ). z +ℤ pos (sizes_of (weights_to n) rest)) (sized_weight n term (omega (arith, l)))
        ∙ ap (λ (z : ℤ). weight_of weigh term +ℤ z) (sized_weights n rest (omega (arith, l)))

  -- terms of one size by all lists of weights weigh the same
  pub weigh_alike : (s t : HeapTerm) → ((weights : List ℕ) → size_of weights s ≡ size_of weights t) → weight_of weigh s ≡ weight_of weigh t
  weigh_alike s t h =
      sym (sized_weight (above s + above t) s (omega arith))
      ∙ ap pos (h (weights_to (above s + above t)))
      ∙ sized_weight (above s + above t) t (omega arith)
