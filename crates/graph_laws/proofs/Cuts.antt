-- Along edges to nodes that are no cuts the numbers of a tree's nodes rise.
use Rattle.std.proofs.Common.{◌≡◌, ◌∙◌, ◌<◌, ◌≤◌, ℕ, zero, suc, Bool, true, false, if◌then◌else◌, List, [], ◌∷◌, Some, None}
use Rattle.std.proofs.Common.{slice_get, refl, sym, ap, subst, arith}
use Rattle.std.proofs.lemmas.Bool.{false≢true}
use Rattle.std.proofs.lemmas.Option.{none-some}
use Rattle.list_views.proofs.Options.{then_some}
use Rattle.jvm_values.specs.Paths.{follow}
use Rattle.jvm_values.proofs.Options.{some_is}
use Rattle.abs_cells.specs.AbstractStates.{AbstractState}
use Rattle.term_graph.specs.declared.nodes.By.{By}
use Rattle.term_graph.specs.declared.nodes.By.TheVariants.{Expand, Instance, End, Todo}
use Rattle.term_graph.specs.Graphs.{GraphNode, successors}
use Rattle.path_rules.specs.Paths.{edges, is_cut, inner_edges, IsUncut}
use Rattle.graph_build.specs.Disciplined.{IsNode, IsTree}
use Rattle.graph_laws.specs.Laws.{HasTargetsCut}

module _ (nodes : List GraphNode) (parent : ℕ → ℕ) (cuts : List ℕ) (tree : IsTree nodes parent) (targets : HasTargetsCut nodes cuts) where
  way_rises : (n place to : ℕ) (state : AbstractState) (by : By) → IsNode nodes n state by
      → slice_get (successors by) place ≡ Some to → is_cut cuts to ≡ false → n < to
  way_rises n place to state (Expand named) is e f =
      let child = tree.children n place to state named is e in
      subst (λ (x : ℕ). x < to) child.2 (tree.lower to child.0 child.1)
  way_rises n place to state (Instance target entries) is e f = by place e
    where
      only : target ≡ to → n < to
      only same = absurd (false≢true (sym f ∙ ap (is_cut cuts) (sym same) ∙ targets n target state entries is))

      by : (place : ℕ) → slice_get (target ∷ []) place ≡ Some to → n < to
      by zero g = only (some_is g)
      by (suc place) g = absurd (none-some to g)
  way_rises n place to state End is e f = absurd (none-some to e)
  way_rises n place to state Todo is e f = absurd (none-some to e)

  edge_rises : (n place to : ℕ) → inner_edges nodes cuts n place ≡ Some to → n < to
  edge_rises n place to e =
      let first = then_some (λ (t : ℕ). if is_cut cuts t then None else Some t) (edges nodes n place) to e in
      let from = then_some (λ (node : GraphNode). slice_get (successors node.by) place) (slice_get nodes n) first.0 first.1.0 in
      by first.0 (is_cut cuts first.0) refl first.1.1 (λ f. way_rises n place first.0 from.0.state from.0.by from.1.0 from.1.1 f)
    where
      by : (t : ℕ) (b : Bool) → is_cut cuts t ≡ b → (if b then None else Some t) ≡ Some to → (is_cut cuts t ≡ false → n < t) → n < to
      by t true q f rises = absurd (none-some to f)
      by t false q f rises = subst (λ (x : ℕ). n < x) (some_is f) (rises q)

  follow_rises : (places : List ℕ) (n to : ℕ) → follow (inner_edges nodes cuts) places n ≡ Some to → n ≤ to
  follow_rises [] n to e = let same : n ≡ to = some_is e in omega (arith, same)
  follow_rises (place ∷ places) n to e =
      let step = then_some (follow (inner_edges nodes cuts) places) (inner_edges nodes cuts n place) to e in
      let rise = edge_rises n place step.0 step.1.0 in
      let rest = follow_rises places step.0 to step.1.1 in
      omega (arith, rise, rest)

  pub tree_cut : (node : ℕ) → IsUncut nodes cuts node → ⊥
  tree_cut node u =
      let step = then_some (follow (inner_edges nodes cuts) u.places) (inner_edges nodes cuts node u.first) node u.leads in
      let rise = edge_rises node u.first step.0 step.1.0 in
      let rest = follow_rises u.places step.0 node step.1.1 in
      omega (arith, rise, rest)
