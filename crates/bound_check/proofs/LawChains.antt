-- Chains of turns as lists: what they weigh, and how they are divided.
use Rattle.std.proofs.Common.{◌≡◌, ◌∙◌, ℕ, ◌+◌, ◌≤◌, true, List, [], ◌∷◌, ◌++◌, length, ap, arith}
use Rattle.std.proofs.lemmas.List.{length-append}
use Rattle.descent.specs.declared.rules.PathRule.{PathRule}
use Rattle.descent.specs.Chains.{Turn, IsTurn, Follows}
use Rattle.descent.specs.Splits.{has}

-- the turn is one, and the next of these comes right after it
abbrev pub LeadsTo : List PathRule → Turn → List Turn → Type 0
LeadsTo rules turn [] = IsTurn rules turn
LeadsTo rules turn (next ∷ turns) = Follows rules turn next

-- each turn comes right after the one before
abbrev pub IsChain : List PathRule → List Turn → Type 0
IsChain rules [] = Unit {0}
IsChain rules (turn ∷ turns) = LeadsTo rules turn turns × IsChain rules turns

-- all rules are in a set
abbrev pub AllIn : List ℕ → List Turn → Type 0
AllIn set [] = Unit {0}
AllIn set (turn ∷ turns) = (has set turn.rule ≡ true) × AllIn set turns

-- what the rules of turns weigh together
abbrev pub total : (ℕ → ℕ) → List Turn → ℕ
total weight [] = 0
total weight (turn ∷ turns) = weight turn.rule + total weight turns

-- a chain of a set's rules has at most so many turns, and as many as they weigh
abbrev pub Counted : List PathRule → List ℕ → ℕ → (ℕ → ℕ) → Type 0
Counted rules set most weight = (turns : List Turn) → IsChain rules turns → AllIn set turns → length turns ≤ most + total weight turns

-- ---- parts of chains

pub is_turn : (rules : List PathRule) (turn : Turn) (turns : List Turn) → LeadsTo rules turn turns → IsTurn rules turn
is_turn rules turn [] h = h
is_turn rules turn (next ∷ turns) h = h.before

pub leads_front : (rules : List PathRule) (turn : Turn) (first rest : List Turn) → LeadsTo rules turn (first ++ rest)
    → LeadsTo rules turn first
leads_front rules turn [] rest h = is_turn rules turn rest h
leads_front rules turn (next ∷ first) rest h = h

pub chain_back : (rules : List PathRule) (first rest : List Turn) → IsChain rules (first ++ rest) → IsChain rules rest
chain_back rules [] rest h = h
chain_back rules (turn ∷ first) rest h = chain_back rules first rest h.1

pub in_back : (set : List ℕ) (first rest : List Turn) → AllIn set (first ++ rest) → AllIn set rest
in_back set [] rest h = h
in_back set (turn ∷ first) rest h = in_back set first rest h.1

-- ---- weights

pub total_both : (weight : ℕ → ℕ) (first rest : List Turn) → total weight (first ++ rest) ≡ total weight first + total weight rest
total_both weight [] rest = omega arith
total_both weight (turn ∷ first) rest = let h = total_both weight first rest in omega (arith, h)

pub total_more : (weight heavy : ℕ → ℕ) → ((rule : ℕ) → weight rule ≤ heavy rule) → (turns : List Turn)
    → total weight turns ≤ total heavy turns
total_more weight heavy more [] = omega arith
total_more weight heavy more (turn ∷ turns) = omega (arith, more turn.rule, total_more weight heavy more turns)

pub counted_more : (rules : List PathRule) (set : List ℕ) (most : ℕ) (weight heavy : ℕ → ℕ)
    → ((rule : ℕ) → weight rule ≤ heavy rule) → Counted rules set most weight → Counted rules set most heavy
counted_more rules set most weight heavy more counted turns chain inside =
    omega (arith, counted turns chain inside, total_more weight heavy more turns)

-- a divided chain's numbers
pub record Sums (turns first rest : List Turn) (weight : ℕ → ℕ) : Type 0 where
  pub count : length turns ≡ length first + length rest
  pub weighs : total weight turns ≡ total weight first + total weight rest

pub sums : (turns first rest : List Turn) (weight : ℕ → ℕ) → turns ≡ first ++ rest → Sums turns first rest weight
sums turns first rest weight e = record {
  count = ap length e ∙ length-append first rest;
  weighs = ap (total weight) e ∙ total_both weight first rest;
}
