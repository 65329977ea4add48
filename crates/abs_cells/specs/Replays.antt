-- Calls on pairs, as operations on the list that these mean.
use Rattle.std.specs.Prelude.{◌≡◌, ◌≢◌, ℕ, ◌<◌, Bool, List, [], ◌∷◌, take, Option, Some, None}
use Rattle.abs_cells.specs.declared.replays.PairCall.{PairCall}
use Rattle.abs_cells.specs.declared.replays.PairCall.TheVariants.{Add, Remove, Has}
use Rattle.abs_cells.specs.PairLists.{added, removed, has}

-- two numbers differ and are below 2,048, so they may be a pair of ids
abbrev pub AreTwoIds : ℕ → ℕ → Type 0
AreTwoIds a b = (a ≢ b) × ((a < 2048) × (b < 2048))

-- a call on pairs is allowed: its ids are two different numbers below 2,048
abbrev pub IsGoodCall : PairCall → Type 0
IsGoodCall (Add a b) = AreTwoIds a b
IsGoodCall (Remove a b) = AreTwoIds a b
IsGoodCall (Has a b) = AreTwoIds a b

-- the pairs after one call: it adds a pair, removes one, or asks and changes nothing
abbrev pub pairs_after_one : PairCall → List (ℕ × ℕ) → List (ℕ × ℕ)
pairs_after_one (Add a b) pairs = added a b pairs
pairs_after_one (Remove a b) pairs = removed a b pairs
pairs_after_one (Has a b) pairs = pairs

-- what a call on pairs answers: only one that asks gives an answer
abbrev pub answer_of : PairCall → List (ℕ × ℕ) → Option Bool
answer_of (Add a b) pairs = None
answer_of (Remove a b) pairs = None
answer_of (Has a b) pairs = Some (has a b pairs)

-- the pairs after some calls, one after another
unfoldable pub pairs_after : List PairCall → List (ℕ × ℕ) → List (ℕ × ℕ)
pairs_after [] pairs = pairs
pairs_after (call ∷ calls) pairs = pairs_after calls (pairs_after_one call pairs)

-- a list of answers behind what a call answered, if it answered anything
abbrev pub with_answer : Option Bool → List Bool → List Bool
with_answer None answers = answers
with_answer (Some answer) answers = answer ∷ answers

-- the answers of some calls, one after another, each on the pairs that the calls before it left
unfoldable pub answers_of : List PairCall → List (ℕ × ℕ) → List Bool
answers_of [] pairs = []
answers_of (call ∷ calls) pairs = with_answer (answer_of call pairs) (answers_of calls (pairs_after_one call pairs))

-- a list of pairs is what some calls leave that end early: those at the front were made, and the others not
pub record IsStopped (calls : List PairCall) (before after : List (ℕ × ℕ)) : Type 0 where
  pub count : ℕ
  pub is : after ≡ pairs_after (take count calls) before
