-- The answer of an expansion is one.
use Rattle.std.proofs.Common.{◌≡◌, ◌≤◌, ℕ, zero, suc, List, [], ◌∷◌, Option, Some, None, Result, Ok, Err, refl, ap, subst, arith}
use Rattle.std.specs.Prelude.{◌≢◌}
use Rattle.std.proofs.lemmas.List.Elements.{All-head, All-tail}
use Rattle.std.proofs.lemmas.Option.{none-some}
use Rattle.jvm_values.proofs.Options.{some_is}
use Rattle.jvm_values.specs.TypedHeaps.{WorldTypes}
use Rattle.abs_cells.specs.AbstractStates.{AbstractState}
use Rattle.abs_expand.specs.ClassWorldWorldTypes.{types_of}
use Rattle.abs_expand.specs.ClassProgramPrograms.{Program}
use Rattle.abs_expand.specs.FrameTypesTables.{CodeTypes}
use Rattle.abs_expand.specs.TermGraphGraphs.{GraphChild}
use Rattle.abs_expand.specs.abs_turns.Plans.{Plan, ends}
use Rattle.abs_expand.specs.Answers.{Answers}
use Rattle.abs_expand.specs.BadStates.{IsGoodState, IsBadState, unsound, misplaced, uncalled}
use Rattle.abs_expand.specs.Expansions.{plan_of, counts_of, AreFew, IsFirstTooMany, AreChildren, AreExpanded}
use Rattle.abs_expand.specs.declared.fault.ExpandFault.{ExpandFault}
use Rattle.abs_expand.specs.declared.fault.ExpandFault.TheVariants.{BadState, TooManyIds, Memory}
use Rattle.one_expansion.specs.Laws.{ChildrenAreOne, AnswersAreOne}
use Rattle.one_expansion.proofs.OneList.{expanded_same}
use Rattle.steady_plans.proofs.SteadyForms.{plan_steady}

pub children_one : ChildrenAreOne
children_one p typing state c d g h = expanded_same (types_of p.world) state (plan_of p typing state) c d (plan_steady p typing state) g h

-- ---- too many ids

rest_many : (c : ℕ) (counts : List ℕ) (n : ℕ) → IsFirstTooMany (c ∷ counts) (suc n) → IsFirstTooMany counts n
rest_many c counts n many = record {
  count = many.count;
  is = many.is;
  many = many.many;
  before = All-tail (λ (k : ℕ). k ≤ 512) c _
      many.before;
}

pub few_or_many : (counts : List ℕ) (n : ℕ) → AreFew counts → IsFirstTooMany counts n → ⊥
few_or_many [] n few many = none-some many.count many.is
few_or_many (c ∷ counts) zero few many =
    let small : c ≤ 512 = All-head (λ (k : ℕ). k ≤ 512) c counts few in
    let is : c ≡ many.count = some_is many.is in
    let large = many.many in
    omega (arith, small, is, large)
few_or_many (c ∷ counts) (suc n) few many =
    few_or_many counts n (All-tail (λ (k : ℕ). k ≤ 512) c counts few) (rest_many c counts n many)

first_one : (c : ℕ) (counts : List ℕ) (n : ℕ) → IsFirstTooMany (c ∷ counts) zero → IsFirstTooMany (c ∷ counts) (suc n) → ⊥
first_one c counts n g h =
    let small : c ≤ 512 = All-head (λ (k : ℕ). k ≤ 512) c _ h.before in
    let is : c ≡ g.count = some_is g.is in
    let large = g.many in
    omega (arith, small, is, large)

many_same : (counts : List ℕ) (n m : ℕ) → IsFirstTooMany counts n → IsFirstTooMany counts m → n ≡ m
many_same [] n m g h = absurd (none-some g.count g.is)
many_same (c ∷ counts) zero zero g h = refl
many_same (c ∷ counts) zero (suc m) g h = absurd (first_one c counts m g h)
many_same (c ∷ counts) (suc n) zero g h = absurd (first_one c counts n h g)
many_same (c ∷ counts) (suc n) (suc m) g h = ap suc (many_same counts n m (rest_many c counts n g) (rest_many c counts m h))

-- ---- states without an expansion

pub not_bad : (p : Program) (typing : ℕ → CodeTypes) (state : AbstractState) (clause : ℕ) → IsGoodState p typing state
    → IsBadState p typing state clause → ⊥
not_bad p typing state clause good (unsound f) = f good.sound
not_bad p typing state clause good (misplaced s f) = f good.placed
not_bad p typing state clause good (uncalled s t f) = f good.called

pub clause_same : (p : Program) (typing : ℕ → CodeTypes) (state : AbstractState) (m n : ℕ) → IsBadState p typing state m
    → IsBadState p typing state n → m ≡ n
clause_same p typing state m n (unsound f) (unsound g) = refl
clause_same p typing state m n (unsound f) (misplaced s g) = absurd (f s)
clause_same p typing state m n (unsound f) (uncalled s t g) = absurd (f s)
clause_same p typing state m n (misplaced s f) (unsound g) = absurd (g s)
clause_same p typing state m n (misplaced s f) (misplaced t g) = refl
clause_same p typing state m n (misplaced s f) (uncalled t u g) = absurd (f u)
clause_same p typing state m n (uncalled s t f) (unsound g) = absurd (g s)
clause_same p typing state m n (uncalled s t f) (misplaced u g) = absurd (g t)
clause_same p typing state m n (uncalled s t f) (uncalled u v g) = refl

-- ---- answers

pub no_children : (types : WorldTypes) (state : AbstractState) (plan : Plan) (children : List GraphChild) → plan ≡ ends
    → AreExpanded types state plan children → ⊥
no_children types state plan children e g = subst (λ (q : Plan). AreChildren types state q g.wholes) e g.are

-- an end has no child, so that none has too many ids
pub end_few : (types : WorldTypes) (state : AbstractState) (plan : Plan) (n : ℕ) → plan ≡ ends
    → IsFirstTooMany (counts_of types state plan) n → ⊥
end_few types state plan n e many =
    let at : IsFirstTooMany [] n = subst (λ (q : Plan). IsFirstTooMany (counts_of types state q) n) e many in
    none-some at.count at.is

module _ (p : Program) (typing : ℕ → CodeTypes) (state : AbstractState) where
  abbrev Types : WorldTypes
  Types = types_of p.world

  abbrev Planned : Plan
  Planned = plan_of p typing state

  abbrev Says : Result (Option (List GraphChild)) ExpandFault → Type 0
  Says = Answers p typing state

  abbrev children_of : List GraphChild → Result (Option (List GraphChild)) ExpandFault
  children_of children = Ok (Some children)

  answer_one : (one other : Result (Option (List GraphChild)) ExpandFault) → Says one → Says other → one ≢ Err Memory
      → other ≢ Err Memory → one ≡ other
  answer_one (Err Memory) other g h na nb = absurd (na refl)
  answer_one (Ok None) (Err Memory) g h na nb = absurd (nb refl)
  answer_one (Ok (Some c)) (Err Memory) g h na nb = absurd (nb refl)
  answer_one (Err (BadState clause)) (Err Memory) g h na nb = absurd (nb refl)
  answer_one (Err (TooManyIds n)) (Err Memory) g h na nb = absurd (nb refl)
  answer_one (Ok None) (Ok None) g h na nb = refl
  answer_one (Ok None) (Ok (Some d)) g h na nb = absurd (no_children Types state Planned d g.1 h.1)
  answer_one (Ok None) (Err (BadState clause)) g h na nb = absurd (not_bad p typing state clause g.0 h)
  answer_one (Ok None) (Err (TooManyIds n)) g h na nb = absurd (end_few Types state Planned n g.1 h.1)
  answer_one (Ok (Some c)) (Ok None) g h na nb = absurd (no_children Types state Planned c h.1 g.1)
  answer_one (Ok (Some c)) (Ok (Some d)) g h na nb = ap children_of (children_one p typing state c d g.1 h.1)
  answer_one (Ok (Some c)) (Err (BadState clause)) g h na nb = absurd (not_bad p typing state clause g.0 h)
  answer_one (Ok (Some c)) (Err (TooManyIds n)) g h na nb = absurd (few_or_many (counts_of Types state Planned) n g.1.few h.1)
  answer_one (Err (BadState clause)) (Ok None) g h na nb = absurd (not_bad p typing state clause h.0 g)
  answer_one (Err (BadState clause)) (Ok (Some d)) g h na nb = absurd (not_bad p typing state clause h.0 g)
  answer_one (Err (BadState m)) (Err (BadState n)) g h na nb = ap (λ (k : ℕ). Err (BadState k)) (clause_same p typing state m n g h)
  answer_one (Err (BadState clause)) (Err (TooManyIds n)) g h na nb = absurd (not_bad p typing state clause h.0 g)
  answer_one (Err (TooManyIds n)) (Ok None) g h na nb = absurd (end_few Types state Planned n h.1 g.1)
  answer_one (Err (TooManyIds n)) (Ok (Some d)) g h na nb = absurd (few_or_many (counts_of Types state Planned) n h.1.few g.1)
  answer_one (Err (TooManyIds n)) (Err (BadState clause)) g h na nb = absurd (not_bad p typing state clause g.0 h)
  answer_one (Err (TooManyIds m)) (Err (TooManyIds n)) g h na nb =
      ap (λ (k : ℕ). Err (TooManyIds k)) (many_same (counts_of Types state Planned) m n g.1 h.1)

pub answers_one : AnswersAreOne
answers_one p typing state one other g h na nb = answer_one p typing state one other g h na nb
