-- Chains of a rank step's set: turns of strict rules divide them into chains of weak rules.
use Rattle.std.proofs.Common.{◌≡◌, ℕ, suc, ◌+◌, ◌≤◌, Bool, true, false, List, [], ◌∷◌, ◌++◌, length, refl, ap, subst, arith}
use Rattle.descent.specs.declared.rules.PathRule.{PathRule}
use Rattle.descent.specs.Chains.{Turn}
use Rattle.descent.specs.Splits.{has}
use Rattle.bound_check.proofs.LawChains.{LeadsTo, IsChain, AllIn, total, Counted, leads_front, total_more, sums}

module _ (rules : List PathRule) (set left : List ℕ) (most : ℕ) (weight heavy : ℕ → ℕ) (counted : Counted rules left most weight)
    (more : (rule : ℕ) → weight rule ≤ heavy rule)
    (strict : (rule : ℕ) → has set rule ≡ true → has left rule ≡ false → suc most + weight rule ≤ heavy rule) where
  -- weak turns, and then none or a strict one with what follows it
  record Divided (turns : List Turn) : Type 0 where
    pub first : List Turn
    pub rest : List Turn
    pub whole : turns ≡ first ++ rest
    pub chain : IsChain rules first
    pub inside : AllIn left first
    pub bound : length rest ≤ total heavy rest

  first_bound : (turns : List Turn) (d : Divided turns) → length d.first ≤ most + total heavy d.first
  first_bound turns d = omega (arith, counted d.first d.chain d.inside, total_more weight heavy more d.first)

  one_more : (turn : Turn) (turns : List Turn) → LeadsTo rules turn turns → has set turn.rule ≡ true → Divided turns → (weak : Bool)
      → has left turn.rule ≡ weak → Divided (turn ∷ turns)
  one_more turn turns leads member d true e = record {
    first = turn ∷ d.first;
    rest = d.rest;
    whole = ap (λ (ts : List Turn). turn ∷ ts) d.whole;
    chain = (leads_front rules turn d.first d.rest (subst (LeadsTo rules turn) d.whole leads), d.chain);
    inside = (e, d.inside);
    bound = d.bound;
  }
  one_more turn turns leads member d false e =
      let s = sums turns d.first d.rest heavy d.whole in
      record {
        first = [];
        rest = turn ∷ turns;
        whole = refl;
        chain = tt;
        inside = tt;
        bound = omega (arith, first_bound turns d, d.bound, s.count, s.weighs, strict turn.rule member e);
      }

  divided : (turns : List Turn) → IsChain rules turns → AllIn set turns → Divided turns
  divided [] chain inside = record { first = []; rest = []; whole = refl; chain = tt; inside = tt; bound = omega arith }
  divided (turn ∷ turns) chain inside =
      one_more turn turns chain.0 inside.0 (divided turns chain.1 inside.1) (has left turn.rule) refl

  pub ranked_counted : Counted rules set most heavy
  ranked_counted turns chain inside =
      let d = divided turns chain inside in
      let s = sums turns d.first d.rest heavy d.whole in
      omega (arith, first_bound turns d, d.bound, s.count, s.weighs)
