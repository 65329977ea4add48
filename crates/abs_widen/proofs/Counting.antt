-- Where there is a widening there are not too many pairs.
use Rattle.std.proofs.Common.{◌≡◌, ℕ, suc, ◌<◌, ◌≤◌, Bool, true, false, cond, ◌||◌, List, [], ◌∷◌, length, sym, ap, ◌∙◌, inl, inr, arith}
use Rattle.std.specs.List.{AllByRecursion}
use Rattle.std.proofs.lemmas.Bool.{or_right, or_parts, cases_Bool, false≢true}
use Rattle.abs_cells.specs.AbstractStates.{AbstractState}
use Rattle.abs_cells.specs.PairLists.{is_same, without_pair}
use Rattle.abs_cells.proofs.PairLaws.{same_is, is_same_from}
use Rattle.abs_widen.specs.Visits.{is_among, AreDifferent, IsPaired}
use Rattle.abs_widen.specs.Laws.{WideningsAreFew}
use Rattle.abs_widen.proofs.Closed.{among_first, among_cons, paired_among}

length_without : (p : ℕ × ℕ) (ys : List (ℕ × ℕ)) → is_among p ys ≡ true → length ys ≡ suc (length (without_pair p ys))
length_without p [] h = absurd (false≢true h)
length_without p (y ∷ ys) h = elim (cases_Bool (is_same p y)) [
  | inl t ↦ ap (λ (b : Bool). suc (length (cond b ys (y ∷ without_pair p ys)))) (sym t)
  | inr f ↦
      let rest : is_among p ys ≡ true = ap (λ (b : Bool). b || is_among p ys) (sym f) ∙ h in
      ap suc (length_without p ys rest) ∙ ap (λ (b : Bool). suc (length (cond b ys (y ∷ without_pair p ys)))) (sym f)
]

among_without : (p q : ℕ × ℕ) (ys : List (ℕ × ℕ)) → is_same p q ≡ false → is_among q ys ≡ true → is_among q (without_pair p ys) ≡ true
among_without p q [] d h = absurd (false≢true h)
among_without p q (y ∷ ys) d h = elim (cases_Bool (is_same p y)) [
  | inl t ↦ ap (λ (b : Bool). is_among q (cond b ys (y ∷ without_pair p ys))) t ∙ (elim (among_cons q y ys h) [
    | inl e ↦ absurd (false≢true (sym d ∙ is_same_from p q (same_is p y t ∙ sym e)))
    | inr r ↦ r
  ])
  | inr f ↦ ap (λ (b : Bool). is_among q (cond b ys (y ∷ without_pair p ys))) f ∙ (elim (among_cons q y ys h) [
    | inl e ↦ among_first q y (without_pair p ys) e
    | inr r ↦ or_right (is_same q y) (is_among q (without_pair p ys)) (among_without p q ys d r)
  ])
]

abbrev AreIn : List (ℕ × ℕ) → List (ℕ × ℕ) → Type 0
AreIn ys xs = AllByRecursion (λ p. is_among p ys ≡ true) xs

all_without : (x : ℕ × ℕ) (xs ys : List (ℕ × ℕ)) → is_among x xs ≡ false → AreIn ys xs → AreIn (without_pair x ys) xs
all_without x [] ys h k = tt
all_without x (q ∷ xs) ys h k =
    let parts = or_parts (is_same x q) (is_among x xs) h in
    (among_without x q ys parts.0 k.0, all_without x xs ys parts.1 k.1)

-- different pairs among others are no more than those
no_more : (xs ys : List (ℕ × ℕ)) → AreDifferent xs → AreIn ys xs → length xs ≤ length ys
no_more [] ys h k = omega arith
no_more (x ∷ xs) ys h k =
    let one : length ys ≡ suc (length (without_pair x ys)) = length_without x ys k.0 in
    let rest : length xs ≤ length (without_pair x ys) = no_more xs (without_pair x ys) h.1 (all_without x xs ys h.0 k.1) in
    omega (arith, one, rest)

all_in : (a b : AbstractState) (ys xs : List (ℕ × ℕ)) → ((p : ℕ × ℕ) → IsPaired a b p → is_among p ys ≡ true)
    → AllByRecursion (IsPaired a b) xs → AreIn ys xs
all_in a b ys [] f h = tt
all_in a b ys (x ∷ xs) f h = (f x h.0, all_in a b ys xs f h.1)

pub few : WideningsAreFew
few types a b result w many =
    let low : length w.pairs ≤ 512 = w.few in
    let high : 512 < length many.pairs = many.many in
    let at_most : length many.pairs ≤ length w.pairs = no_more many.pairs w.pairs many.differ
    (all_in a b w.pairs many.pairs (paired_among a b w.pairs w.are_pairs) many.paired) in
    absurd (omega (arith, low, high, at_most))
