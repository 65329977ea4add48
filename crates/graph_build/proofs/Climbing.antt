-- The way up a tree to the nearest expanded node with the positions of a state, and the first expanded node that matches.
use Rattle.std.proofs.Common.{◌≡◌, ◌⊎◌, inl, inr, ℕ, zero, suc, ◌+◌, ◌<◌, ◌≤◌, List, length, Option, Some, None, subst, ap, arith}
use Rattle.std.proofs.Common.{◌∙◌, sym}
use Rattle.std.specs.Prelude.{slice_get, Result, Ok, Err, IfOk}
use Rattle.std.proofs.lemmas.Bool.{cases_lt}
use Rattle.std.proofs.lemmas.Option.{slice_get_within, same_Some, none-some}
use Rattle.abs_cells.specs.AbstractStates.{AbstractState}
use Rattle.term_graph.specs.Graphs.{GraphNode}
use Rattle.graph_build.specs.Rules.{GrowthRules, HaveSamePositions}
use Rattle.graph_build.specs.Disciplined.{IsNode, IsAbove, IsAtOrAbove, is_expanded}
use Rattle.graph_build.specs.Growing.{MatchesOr}
use Rattle.graph_build.specs.inner.Working.{IsPassed, IsFirstFound, IsAlike, IsNearest, IsNodeAlike, NodeMatches, IsFound}
use Rattle.graph_build.proofs.Ancestry.{own_then}
use Rattle.graph_build.proofs.Extending.{same_by, same_state}

-- ---- up to the parent

pub above_zero : (parent : ℕ → ℕ) (u at : ℕ) → at ≡ 0 → IsAbove parent u at → ⊥
above_zero parent u at e (zero, h) = omega (arith, e, h.0)
above_zero parent u at e (suc k, h) = omega (arith, e, h.0)

-- what is above a node is its parent, or above that
above_own : (parent : ℕ → ℕ) (u at : ℕ) → IsAbove parent u at → (u ≡ parent at) ⊎ IsAbove parent u (parent at)
above_own parent u at (zero, h) = inl (sym h.1)
above_own parent u at (suc k, h) = inr (k, h.1)

module _ (nodes : List GraphNode) (parent : ℕ → ℕ) (n : ℕ) (state : AbstractState) (at next : ℕ) (positive : 0 < at)
    (is_next : parent at ≡ next) (way : IsAtOrAbove parent at n) (passed : (u : ℕ) → IsAlike nodes parent n state u
    → IsAbove parent u at) where
  pub next_above : IsAbove parent next n
  next_above = own_then parent at next n positive is_next way

  next_way : (u : ℕ) → IsAlike nodes parent n state u → (u ≡ next) ⊎ IsAbove parent u next
  next_way u a = subst (λ (x : ℕ). (u ≡ x) ⊎ IsAbove parent u x) is_next (above_own parent u at (passed u a))

  module _ (node : GraphNode) (there : slice_get nodes next ≡ Some node) where
    pub is_nearest : IsNodeAlike state node → IsNearest nodes parent n state next
    is_nearest a = record {
      alike = record { other = node.state; by = node.by; is = there; expanded = a.0; positions = a.1; above = next_above };
      nearest = next_way;
    }

    pub next_passed : (IsNodeAlike state node → ⊥) → (u : ℕ) → IsAlike nodes parent n state u → IsAbove parent u next
    next_passed none u a = elim (next_way u a) as (λ o. IsAbove parent u next) [
      | inl e ↦
          let is : IsNode nodes next a.other a.by = subst (λ (x : ℕ). IsNode nodes x a.other a.by) e a.is in
          let by_is : a.by ≡ node.by = same_by nodes next a.other node.state a.by node.by is there in
          let state_is : a.other ≡ node.state = same_state nodes next a.other node.state a.by node.by is there in
          absurd (none (
            sym (ap is_expanded by_is) ∙ a.expanded,
            subst (λ (s : AbstractState). HaveSamePositions state s) state_is
                a.positions,
          ))
      | inr h ↦ h
    ]

-- ---- from the first node on

module _ (rules : GrowthRules) (nodes : List GraphNode) (state : AbstractState) (u : ℕ)
    (passed : (v : ℕ) → v < u → IsPassed rules nodes state v) where
  pub all_passed : length nodes ≤ u → (v : ℕ) → IsPassed rules nodes state v
  all_passed l v other by is = passed v (omega (arith, slice_get_within nodes v (record { state = other; by = by }) is, l)) other by is

  module _ (node : GraphNode) (there : slice_get nodes u ≡ Some node) where
    pub is_found : (found : Option (List (ℕ × ℕ))) (entries : List (ℕ × ℕ)) → found ≡ Some entries
        → NodeMatches rules state node found → IsFirstFound rules nodes state u entries
    is_found None entries e h = absurd (none-some entries e)
    is_found (Some mine) entries e h = record {
      other = node.state;
      by = node.by;
      is = there;
      expanded = h.0.0;
      positions = h.0.1;
      instance = subst (λ (es : List (ℕ × ℕ)). rules.IsInstance state node.state es) (same_Some mine entries e) h.1;
      first = passed;
    }

    pub one_passed : NodeMatches rules state node None → (v : ℕ) → v < u + 1 → IsPassed rules nodes state v
    one_passed none v l other by is e p entries i = elim (cases_lt v u) as (λ o. ⊥) [
      | inl low ↦ passed v low other by is e p entries i
      | inr high ↦
          let here : IsNode nodes u other by = subst (λ (x : ℕ). IsNode nodes x other by) (omega (arith, l, high)) is in
          let by_is : by ≡ node.by = same_by nodes u other node.state by node.by here there in
          let state_is : other ≡ node.state = same_state nodes u other node.state by node.by here there in
          none (sym (ap is_expanded by_is) ∙ e, subst (λ (s : AbstractState). HaveSamePositions state s) state_is p) entries
          (subst (λ (s : AbstractState). rules.IsInstance state s entries) state_is i)
    ]

-- what a grower answers of a node
pub node_matches : {E : Type 0} (rules : GrowthRules) (state : AbstractState) (node : GraphNode) (other : AbstractState)
    (answer : Result (Option (List (ℕ × ℕ))) E) → other ≡ node.state → IsNodeAlike state node → MatchesOr rules state other answer
    → IfOk answer (λ (found : Option (List (ℕ × ℕ))). NodeMatches rules state node found)
node_matches rules state node other (Ok (Some entries)) e a h = (a, subst (λ (s : AbstractState). rules.IsInstance state s entries) e h)
node_matches rules state node other (Ok None) e a h = λ b entries i. h entries
    (subst (λ (s : AbstractState). rules.IsInstance state s entries) (sym e) i)
node_matches rules state node other (Err fault) e a h = tt

-- what was found, or that nothing was
pub found_there : (rules : GrowthRules) (nodes : List GraphNode) (state : AbstractState) (found : Option (ℕ × List (ℕ × ℕ)))
    (x : ℕ × List (ℕ × ℕ)) → found ≡ Some x → IsFound rules nodes state found → IsFirstFound rules nodes state x.0 x.1
found_there rules nodes state None x e h = absurd (none-some x e)
found_there rules nodes state (Some y) x e h = subst (λ (z : ℕ × List (ℕ × ℕ)). IsFirstFound rules nodes state z.0 z.1) (same_Some y x e) h

pub found_nowhere : (rules : GrowthRules) (nodes : List GraphNode) (state : AbstractState) (found : Option (ℕ × List (ℕ × ℕ)))
    → found ≡ None → IsFound rules nodes state found → (u : ℕ) → IsPassed rules nodes state u
found_nowhere rules nodes state None e h = h
found_nowhere rules nodes state (Some y) e h = absurd (none-some y (sym e))
