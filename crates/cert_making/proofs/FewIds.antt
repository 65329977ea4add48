-- The states of a filled graph have few ids: those that were read, and those of children.
use mathlib.Core.Logic.{∥∥₁_elim}
use Rattle.std.proofs.Common.{◌≡◌, ◌∙◌, ◌≤◌, ℕ, List, All, length, Option, Some, None, slice_get, inl, inr, refl, sym, subst, arith}
use Rattle.std.specs.List.{AllByRecursion}
use Rattle.std.proofs.Props.{props}
use Rattle.std.proofs.lemmas.List.Elements.{All-from_recursion}
use Rattle.list_views.proofs.Quantified.{all_at, all_places}
use Rattle.abs_cells.specs.AbstractStates.{AbstractState}
use Rattle.prove_core.proofs.AbsPlansGoodPlans.{plan_is_good}
use Rattle.cert_check.specs.abs_expand.Expansions.{plan_of}
use Rattle.class_program.specs.Good.{IsGood}
use Rattle.class_program.specs.Programs.{Program}
use Rattle.class_world.specs.WorldTypes.{types_of}
use Rattle.frame_types.specs.Tables.{CodeTypes}
use Rattle.cert_check.specs.graph_check.Good.{HasChildren}
use Rattle.term_graph.specs.Graphs.{GraphNode, GraphPart, GraphChild}
use Rattle.filled_graphs.specs.Filling.{Takes, HasStateOf, IsFilled, ways_of}
use Rattle.graph_fill.specs.ChildrenOfStates.{child_rules, IsFilledGraph}
use Rattle.cert_form.specs.cert_limits.Limits.{HasFewIds}
use Rattle.prove_core.proofs.ChildCounts.{children_small}

abbrev IsSmall : AbstractState → Type 0
IsSmall state = length state.cells ≤ 512

child_at : (children : List GraphChild) (place : ℕ) (child : GraphChild)
    → AllByRecursion (λ (c : GraphChild). length c.state.cells ≤ 512) children → slice_get children place ≡ Some child → IsSmall child.state
child_at children place child all e = all_at (λ (c : GraphChild). length c.state.cells ≤ 512) children place child
    (All-from_recursion (λ (c : GraphChild). length c.state.cells ≤ 512) children all) e

module _ (p : Program) (typing : ℕ → CodeTypes) (good : IsGood p) (parts : List GraphPart) (nodes : List GraphNode)
    (few : All (λ (part : GraphPart). HasFewIds part.state) parts) (filled : IsFilled (child_rules p typing) parts nodes) where
  of_children : (state : AbstractState) (children : List GraphChild) → HasChildren p typing state children
      → AllByRecursion (λ (child : GraphChild). length child.state.cells ≤ 512) children
  of_children state children has = children_small (types_of p.world) state (plan_of p typing state) children
      (plan_is_good p typing state good has.0.sound) has.1

  -- the state of the first node was read
  given_few : (given : Option AbstractState) (part : GraphPart) (n : ℕ) (state : AbstractState) → slice_get parts n ≡ Some part
      → part.state ≡ given → given ≡ Some state → IsSmall state
  given_few given part n state is e f =
      subst HasFewIds (e ∙ f) (all_at (λ (q : GraphPart). HasFewIds q.state) parts n part few is)

  first_few : (first : GraphNode) (part : GraphPart) (given : Option AbstractState) → slice_get parts 0 ≡ Some part → part.state ≡ given
      → HasStateOf (child_rules p typing) (ways_of parts) nodes 0 given first.state → IsSmall first.state
  first_few first part (Some state) is e h = subst IsSmall (sym h) (given_few (Some state) part 0 state is e refl)
  first_few first part None is e t = absurd (let low = t.earlier in omega (arith, low))

  taken_few : (from first : AbstractState) (place : ℕ) (state : AbstractState) → Takes (child_rules p typing) from first place state
      → IsSmall first → IsSmall state
  taken_few from first place state (inl c) small = subst IsSmall (sym c.state_is)
      (child_at c.children place c.child (of_children from c.children c.are) c.at)
  taken_few from first place state (inr c) small = subst IsSmall (sym c.1) small

  state_few : (n : ℕ) (node : GraphNode) (part : GraphPart) (given : Option AbstractState) → slice_get parts n ≡ Some part
      → part.state ≡ given → HasStateOf (child_rules p typing) (ways_of parts) nodes n given node.state → IsSmall node.state
  state_few n node part (Some state) is e h = subst IsSmall (sym h) (given_few (Some state) part n state is e refl)
  state_few n node part None is e t =
      let zeroth = filled.each 0 t.first t.is_first in
      taken_few t.node.state t.first.state t.place node.state t.takes
      (first_few t.first zeroth.part zeroth.part.state zeroth.is refl zeroth.state)

  node_few : (n : ℕ) (node : GraphNode) → slice_get nodes n ≡ Some node → IsSmall node.state
  node_few n node e =
      let is = filled.each n node e in
      state_few n node is.part is.part.state is.is refl is.state

small_prop : (state : AbstractState) → IsProp (length state.cells ≤ 512)
small_prop state = hlevel props

pub few_ids : (p : Program) (typing : ℕ → CodeTypes) (parts : List GraphPart) (nodes : List GraphNode) → IsGood p
    → All (λ (part : GraphPart). HasFewIds part.state) parts → IsFilledGraph p typing parts nodes
    → All (λ (node : GraphNode). length node.state.cells ≤ 512) nodes
few_ids p typing parts nodes good few filled =
    All-from_recursion (λ (node : GraphNode). length node.state.cells ≤ 512) nodes
    (all_places (λ (node : GraphNode). length node.state.cells ≤ 512) nodes
    (λ n node e. ∥∥₁_elim filled (small_prop node.state) (λ f. node_few p typing good parts nodes few f n node e)))
