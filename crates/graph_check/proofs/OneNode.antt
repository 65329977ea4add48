-- A node has one list of links where it is good, and else one fault; and never both.
use Rattle.std.proofs.Common.{◌≡◌, ◌∙◌, ◌⊎◌, ℕ, List, map, length, None, slice_get, inl, inr, refl, sym, ap, subst}
use Rattle.std.proofs.lemmas.Option.{none-some}
use Rattle.list_views.proofs.Orders.{neither_below}
use Rattle.jvm_values.proofs.Options.{some_is}
use Rattle.abs_cells.specs.AbstractStates.{AbstractState}
use Rattle.abs_match.specs.declared.clauses.MatchFault.{MatchFault}
use Rattle.abs_reach.specs.Instances.{IsFirstFault}
use Rattle.class_program.specs.class_world.WorldTypes.{types_of}
use Rattle.class_program.specs.Programs.{Program}
use Rattle.frame_types.specs.Tables.{CodeTypes}
use Rattle.term_graph.specs.declared.links.Link.{Link}
use Rattle.term_graph.specs.declared.nodes.By.{By}
use Rattle.term_graph.specs.declared.nodes.By.TheVariants.{Expand, Instance, End, Todo}
use Rattle.term_graph.specs.Graphs.{GraphNode, GraphChild}
use Rattle.one_expansion.specs.abs_expand.BadStates.{IsGoodState, IsBadState}
use Rattle.one_expansion.specs.abs_expand.Expansions.{plan_of, counts_of}
use Rattle.graph_check.specs.declared.fault.What.{What}
use Rattle.graph_check.specs.declared.fault.What.TheVariants as whats
use Rattle.graph_check.specs.Good.{HasChildren, HasEnded, HasTooMany, IsLeftBy, IsMiscounted, HasOtherChild, FailsToMatch, FailsBy}
use Rattle.graph_check.specs.Good.{FailsAs}
use Rattle.one_expansion.proofs.OneAnswer.{few_or_many, not_bad, clause_same, no_children, end_few}
use Rattle.graph_check.proofs.Excluding.{one_list, no_fault_as}
use Rattle.graph_check.proofs.Matching.{match_one}

module _ (p : Program) (typing : ℕ → CodeTypes) (nodes : List GraphNode) (state : AbstractState) where
  one : (a b : List GraphChild) → HasChildren p typing state a → HasChildren p typing state b → a ≡ b
  one = one_list p typing state

  -- ---- good nodes

  pub links_by : (by : By) (a b : List Link) → IsLeftBy p typing nodes state by a → IsLeftBy p typing nodes state by b → a ≡ b
  links_by (Expand named) a b g h = g.links_are
      ∙ (ap (λ (children : List GraphChild). map (λ (child : GraphChild). child.link) children)
      (one g.children h.children g.are h.are) ∙ sym h.links_are)
  links_by (Instance target entries) a b g h = g.1 ∙ sym h.1
  links_by End a b g h = g.1 ∙ sym h.1
  links_by Todo a b g h = absurd g

  -- ---- faults of expansions

  abbrev CountFails : List ℕ → Type 0
  CountFails named = HasEnded p typing state ⊎ IsMiscounted p typing state named

  not_many : (children : List GraphChild) → HasChildren p typing state children → HasTooMany p typing state → ⊥
  not_many children are many = few_or_many (counts_of (types_of p.world) state (plan_of p typing state)) many.0 are.1.few many.1.1

  not_ended : (children : List GraphChild) → HasChildren p typing state children → HasEnded p typing state → ⊥
  not_ended children are ended = no_children (types_of p.world) state (plan_of p typing state) children ended.1 are.1

  many_count : (named : List ℕ) → HasTooMany p typing state → CountFails named → ⊥
  many_count named many (inl ended) = end_few (types_of p.world) state (plan_of p typing state) many.0 ended.1 many.1.1
  many_count named many (inr m) = not_many m.children m.are many

  count_child : (named : List ℕ) (place : ℕ) → CountFails named → HasOtherChild p typing nodes state named place → ⊥
  count_child named place (inl ended) other = not_ended other.children other.are ended
  count_child named place (inr m) other = m.counts
      (ap (λ (children : List GraphChild). length children) (one m.children other.children m.are other.are) ∙ other.counts)

  child_one : (named : List ℕ) (k l : ℕ) → HasOtherChild p typing nodes state named k → HasOtherChild p typing nodes state named l → k ≡ l
  child_one named k l f g =
      let same = one f.children g.children f.are g.are in
      neither_below k l
      (λ low. f.first.fails
      (g.first.before k f.first.child f.first.number low (ap (λ (children : List GraphChild). slice_get children k) (sym same)
      ∙ f.first.is_child) f.first.is_named))
      (λ low. g.first.fails
      (f.first.before l g.first.child g.first.number low (ap (λ (children : List GraphChild). slice_get children l) same
      ∙ g.first.is_child) g.first.is_named))

  data ExpandFails (named : List ℕ) (what : What) : Type 0 where
    as_many : what ≡ whats.TooManyIds → HasTooMany p typing state → ExpandFails named what
    as_counted : what ≡ whats.ChildCount → CountFails named → ExpandFails named what
    as_child : (place : ℕ) → what ≡ whats.Child place → HasOtherChild p typing nodes state named place → ExpandFails named what

  expand_fails : (named : List ℕ) (what : What) → FailsBy p typing nodes state (Expand named) what → ExpandFails named what
  expand_fails named whats.TooManyIds f = as_many refl f
  expand_fails named whats.ChildCount f = as_counted refl f
  expand_fails named (whats.Child place) f = as_child place refl f
  expand_fails named whats.Root f = absurd f
  expand_fails named (whats.BadState clause) f = absurd f
  expand_fails named whats.NotEnd f = absurd f
  expand_fails named whats.BadTarget f = absurd f
  expand_fails named (whats.Match fault) f = absurd f

  expand_one : (named : List ℕ) (w v : What) → ExpandFails named w → ExpandFails named v → w ≡ v
  expand_one named w v (as_many e f) (as_many d g) = e ∙ sym d
  expand_one named w v (as_many e f) (as_counted d g) = absurd (many_count named f g)
  expand_one named w v (as_many e f) (as_child place d g) = absurd (not_many g.children g.are f)
  expand_one named w v (as_counted e f) (as_many d g) = absurd (many_count named g f)
  expand_one named w v (as_counted e f) (as_counted d g) = e ∙ sym d
  expand_one named w v (as_counted e f) (as_child place d g) = absurd (count_child named place f g)
  expand_one named w v (as_child place e f) (as_many d g) = absurd (not_many f.children f.are g)
  expand_one named w v (as_child place e f) (as_counted d g) = absurd (count_child named place g f)
  expand_one named w v (as_child place e f) (as_child other d g) = e ∙ (ap whats.Child (child_one named place other f g) ∙ sym d)

  -- ---- faults of instances

  data InstanceFails (target : ℕ) (entries : List (ℕ × ℕ)) (what : What) : Type 0 where
    as_none : what ≡ whats.BadTarget → slice_get nodes target ≡ None → InstanceFails target entries what
    as_match : (fault : MatchFault) → what ≡ whats.Match fault → FailsToMatch p nodes state target entries fault
        → InstanceFails target entries what

  instance_fails : (target : ℕ) (entries : List (ℕ × ℕ)) (what : What) → FailsBy p typing nodes state (Instance target entries) what
      → InstanceFails target entries what
  instance_fails target entries whats.BadTarget f = as_none refl f
  instance_fails target entries (whats.Match fault) f = as_match fault refl f
  instance_fails target entries whats.Root f = absurd f
  instance_fails target entries (whats.BadState clause) f = absurd f
  instance_fails target entries whats.TooManyIds f = absurd f
  instance_fails target entries whats.ChildCount f = absurd f
  instance_fails target entries (whats.Child place) f = absurd f
  instance_fails target entries whats.NotEnd f = absurd f

  instance_one : (target : ℕ) (entries : List (ℕ × ℕ)) (w v : What) → InstanceFails target entries w
      → InstanceFails target entries v → w ≡ v
  instance_one target entries w v (as_none e f) (as_none d g) = e ∙ sym d
  instance_one target entries w v (as_none e f) (as_match fault d g) = absurd (none-some g.node (sym f ∙ g.is))
  instance_one target entries w v (as_match fault e f) (as_none d g) = absurd (none-some f.node (sym g ∙ f.is))
  instance_one target entries w v (as_match fault e f) (as_match other d g) =
      let node : f.node ≡ g.node = some_is (sym f.is ∙ g.is) in
      let first = subst (λ (n : GraphNode). IsFirstFault (types_of p.world).sub state n.state entries fault.clause fault.id) node
      f.first in
      e ∙ (ap whats.Match (match_one (types_of p.world).sub state g.node.state entries fault other first g.first) ∙ sym d)

  -- ---- nodes that are left in another way

  end_fails : (what : What) → FailsBy p typing nodes state End what → (what ≡ whats.NotEnd) × (HasEnded p typing state → ⊥)
  end_fails whats.NotEnd f = (refl, f)
  end_fails whats.Root f = absurd f
  end_fails (whats.BadState clause) f = absurd f
  end_fails whats.TooManyIds f = absurd f
  end_fails whats.ChildCount f = absurd f
  end_fails (whats.Child place) f = absurd f
  end_fails whats.BadTarget f = absurd f
  end_fails (whats.Match fault) f = absurd f

  todo_fails : (what : What) → FailsBy p typing nodes state Todo what → what ≡ whats.NotEnd
  todo_fails whats.NotEnd f = refl
  todo_fails whats.Root f = absurd f
  todo_fails (whats.BadState clause) f = absurd f
  todo_fails whats.TooManyIds f = absurd f
  todo_fails whats.ChildCount f = absurd f
  todo_fails (whats.Child place) f = absurd f
  todo_fails whats.BadTarget f = absurd f
  todo_fails (whats.Match fault) f = absurd f

  -- ---- faults

  by_one : (by : By) (w v : What) → FailsBy p typing nodes state by w → FailsBy p typing nodes state by v → w ≡ v
  by_one (Expand named) w v f g = expand_one named w v (expand_fails named w f) (expand_fails named v g)
  by_one (Instance target entries) w v f g = instance_one target entries w v (instance_fails target entries w f)
      (instance_fails target entries v g)
  by_one End w v f g = (end_fails w f).0 ∙ sym (end_fails v g).0
  by_one Todo w v f g = todo_fails w f ∙ sym (todo_fails v g)

  data NodeFails (by : By) (what : What) : Type 0 where
    as_bad : (clause : ℕ) → what ≡ whats.BadState clause → IsBadState p typing state clause → NodeFails by what
    as_good : IsGoodState p typing state → FailsBy p typing nodes state by what → NodeFails by what

  node_fails : (by : By) (what : What) → FailsAs p typing nodes (record { state = state; by = by }) what → NodeFails by what
  node_fails by (whats.BadState clause) f = as_bad clause refl f
  node_fails by whats.Root f = as_good f.0 f.1
  node_fails by whats.TooManyIds f = as_good f.0 f.1
  node_fails by whats.ChildCount f = as_good f.0 f.1
  node_fails by (whats.Child place) f = as_good f.0 f.1
  node_fails by whats.NotEnd f = as_good f.0 f.1
  node_fails by whats.BadTarget f = as_good f.0 f.1
  node_fails by (whats.Match fault) f = as_good f.0 f.1

  fails_one : (by : By) (w v : What) → NodeFails by w → NodeFails by v → w ≡ v
  fails_one by w v (as_bad c e f) (as_bad d h g) = e ∙ (ap whats.BadState (clause_same p typing state c d f g) ∙ sym h)
  fails_one by w v (as_bad c e f) (as_good good g) = absurd (not_bad p typing state c good f)
  fails_one by w v (as_good good f) (as_bad d h g) = absurd (not_bad p typing state d good g)
  fails_one by w v (as_good good f) (as_good other g) = by_one by w v f g

  pub node_one : (by : By) (w v : What) → FailsAs p typing nodes (record { state = state; by = by }) w
      → FailsAs p typing nodes (record { state = state; by = by }) v → w ≡ v
  node_one by w v f g = fails_one by w v (node_fails by w f) (node_fails by v g)

  pub node_left : (by : By) (links : List Link) (what : What) → IsLeftBy p typing nodes state by links
      → FailsAs p typing nodes (record { state = state; by = by }) what → ⊥
  node_left by links what left f = no_fault_as p typing nodes state by links what left f
