-- Parts have one filled graph, and one list of its first nodes.
use mathlib.Core.HLevel.{Σ_prop_path}
use mathlib.Core.Logic.{∥∥₁_prop, ∥∥₁_elim}
use Rattle.std.proofs.Common.{◌≡◌, ◌<◌, ◌∙◌, ℕ, zero, suc, List, Option, Some, None, slice_get, ◌⊎◌, inl, inr, refl, sym, ap, subst, arith}
use Rattle.std.proofs.Props.{props}
use Rattle.std.proofs.lemmas.Bool.{cases_lt}
use Rattle.std.proofs.lemmas.Option.{none-some}
use Rattle.jvm_values.proofs.Options.{some_is}
use Rattle.abs_cells.specs.AbstractStates.{AbstractState}
use Rattle.term_graph.specs.declared.nodes.By.{By}
use Rattle.term_graph.specs.Graphs.{GraphNode, GraphChild, GraphPart}
use Rattle.filled_graphs.specs.Filling.{ChildRules, IsFirstNamed, Takes, HasStateOf, IsTakenState, IsNodeOf, AreFirstFilled, Filling}
use Rattle.filled_graphs.specs.Filling.{ways_of}
use Rattle.filled_graphs.specs.lemmas.Lists.{same_items}

-- ---- a number is first named once

pub first_node : (ways : List By) (a b k l number : ℕ) → IsFirstNamed ways a k number → IsFirstNamed ways b l number → a ≡ b
first_node ways a b k l number f g = elim (cases_lt a b) [
  | inl low ↦ absurd (g.no_earlier_node a k low f.names)
  | inr high ↦ elim (cases_lt b a) [
    | inl low ↦ absurd (f.no_earlier_node b l low g.names)
    | inr other ↦ omega (arith, high, other)
  ]
]

first_place_here : (ways : List By) (a k l number : ℕ) → IsFirstNamed ways a k number → IsFirstNamed ways a l number → k ≡ l
first_place_here ways a k l number f g = elim (cases_lt k l) [
  | inl low ↦ absurd (g.no_earlier_place k low f.names)
  | inr high ↦ elim (cases_lt l k) [
    | inl low ↦ absurd (f.no_earlier_place l low g.names)
    | inr other ↦ omega (arith, high, other)
  ]
]

pub first_place : (ways : List By) (a b k l number : ℕ) → IsFirstNamed ways a k number → IsFirstNamed ways b l number → k ≡ l
first_place ways a b k l number f g = first_place_here ways a k l number f
    (subst (λ c. IsFirstNamed ways c l number) (sym (first_node ways a b k l number f g)) g)

-- ---- a state is taken once

takes_one : (rules : ChildRules) (from first : AbstractState) (place : ℕ) (state other : AbstractState)
    → Takes rules from first place state → Takes rules from first place other → state ≡ other
takes_one rules from first place state other (inl c) (inl d) =
    let lists = rules.one from c.children d.children c.are d.are in
    let child : c.child ≡ d.child = some_is (sym c.at ∙ ap (λ (cs : List GraphChild). slice_get cs place) lists ∙ d.at) in
    c.state_is ∙ ap (λ (x : GraphChild). x.state) child ∙ sym d.state_is
takes_one rules from first place state other (inl c) (inr d) = absurd (none-some c.child (sym (d.0 c.children c.are) ∙ c.at))
takes_one rules from first place state other (inr c) (inl d) = absurd (none-some d.child (sym (c.0 d.children d.are) ∙ d.at))
takes_one rules from first place state other (inr c) (inr d) = c.1 ∙ sym d.1

-- states of one place are one, where those of the nodes before it are
abbrev AreAlikeBelow : ℕ → List GraphNode → List GraphNode → Type 0
AreAlikeBelow n nodes others = (k : ℕ) (a b : GraphNode) → k < n → slice_get nodes k ≡ Some a → slice_get others k ≡ Some b
    → a.state ≡ b.state

module _ (rules : ChildRules) (ways : List By) (nodes others : List GraphNode) where
  taken_one : (n : ℕ) (state other : AbstractState) → AreAlikeBelow n nodes others → IsTakenState rules ways nodes n state
      → IsTakenState rules ways others n other → state ≡ other
  taken_one n state other below t u =
      let namer = first_node ways t.namer u.namer t.place u.place n t.named u.named in
      let place = first_place ways t.namer u.namer t.place u.place n t.named u.named in
      let there : slice_get others t.namer ≡ Some u.node = ap (slice_get others) namer ∙ u.is in
      let from = below t.namer t.node u.node t.earlier t.is there in
      let early = t.earlier in
      let first = below 0 t.first u.first (omega (arith, early)) t.is_first u.is_first in
      takes_one rules u.node.state u.first.state u.place state other
      (subst (λ k. Takes rules u.node.state u.first.state k state) place
      (subst (λ s. Takes rules s u.first.state t.place state) from
      (subst (λ s. Takes rules t.node.state s t.place state) first t.takes))) u.takes

  pub states_one : (n : ℕ) (given : Option AbstractState) (state other : AbstractState) → AreAlikeBelow n nodes others
      → HasStateOf rules ways nodes n given state → HasStateOf rules ways others n given other → state ≡ other
  states_one n (Some given) state other below s t = s ∙ sym t
  states_one n None state other below s t = taken_one n state other below s t

-- in one list of nodes they are one
pub state_once : (rules : ChildRules) (ways : List By) (nodes : List GraphNode) (n : ℕ) (given : Option AbstractState)
    (state other : AbstractState) → HasStateOf rules ways nodes n given state → HasStateOf rules ways nodes n given other → state ≡ other
state_once rules ways nodes n given state other = states_one rules ways nodes nodes n given state other
    (λ k a b l is there. ap (λ (node : GraphNode). node.state) (some_is (sym is ∙ there)))

-- ---- first nodes are one

abbrev node_of : AbstractState → By → GraphNode
node_of state by = record { state = state; by = by }

module _ (rules : ChildRules) (parts : List GraphPart) (count : ℕ) (nodes others : List GraphNode)
    (one : AreFirstFilled rules parts count nodes) (two : AreFirstFilled rules parts count others) where
  alike : (bound n : ℕ) → n < bound → (a b : GraphNode) → slice_get nodes n ≡ Some a → slice_get others n ≡ Some b → a.state ≡ b.state
  alike zero n l a b is there = absurd (omega (arith, l))
  alike (suc bound) n l a b is there =
      let x = one.each n a is in
      let y = two.each n b there in
      let part : y.part ≡ x.part = some_is (sym y.is ∙ x.is) in
      states_one rules (ways_of parts) nodes others n x.part.state a.state b.state
      (λ k c d m at at'. alike bound k (omega (arith, m, l)) c d at at') x.state
      (subst (λ (q : GraphPart). HasStateOf rules (ways_of parts) others n q.state b.state) part y.state)

  node_alike : (n : ℕ) (a b : GraphNode) → slice_get nodes n ≡ Some a → slice_get others n ≡ Some b → a ≡ b
  node_alike n a b is there =
      let x = one.each n a is in
      let y = two.each n b there in
      let part : x.part ≡ y.part = some_is (sym x.is ∙ y.is) in
      let by : a.by ≡ b.by = x.by ∙ ap (λ (q : GraphPart). q.by) part ∙ sym y.by in
      ap (λ s. node_of s a.by) (alike (suc n) n (omega arith) a b is there) ∙ ap (node_of b.state) by

  pub first_filled_once : nodes ≡ others
  first_filled_once = same_items nodes others (one.long ∙ sym two.long) node_alike

-- ---- so a filling is a proposition

nodes_set : IsSet (List GraphNode)
nodes_set = hlevel props

pub filled_one : (rules : ChildRules) (parts : List GraphPart) (count : ℕ) (nodes others : List GraphNode)
    → ∥ AreFirstFilled rules parts count nodes ∥₁ → ∥ AreFirstFilled rules parts count others ∥₁ → nodes ≡ others
filled_one rules parts count nodes others one two = ∥∥₁_elim one (nodes_set nodes others)
    (λ s. ∥∥₁_elim two (nodes_set nodes others) (λ t. first_filled_once rules parts count nodes others s t))

pub filling_prop : (rules : ChildRules) (parts : List GraphPart) (count : ℕ) → IsProp (Filling rules parts count)
filling_prop rules parts count u v = Σ_prop_path (λ nodes. ∥∥₁_prop) (filled_one rules parts count u.0 v.0 u.1 v.1)
