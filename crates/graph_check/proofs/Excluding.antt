-- A good node has no fault.
use Rattle.std.proofs.Common.{◌≡◌, ◌≢◌, ◌≤◌, ◌∙◌, ℕ, zero, suc, List, [], ◌∷◌, map, length, Some, slice_get, inl, inr, refl, sym}
use Rattle.std.proofs.Common.{ap, subst, arith}
use Rattle.std.specs.List.{AllZip}
use Rattle.std.proofs.lemmas.Option.{none-some}
use Rattle.std.proofs.lemmas.Slice.Zip.{AllZip-long}
use Rattle.jvm_values.proofs.Options.{some_is}
use Rattle.abs_cells.specs.AbstractStates.{AbstractState}
use Rattle.abs_reach.specs.Instances.{InstanceOf, IsFirstFault}
use Rattle.class_program.specs.class_world.WorldTypes.{types_of}
use Rattle.class_program.specs.Programs.{Program}
use Rattle.frame_types.specs.Tables.{CodeTypes}
use Rattle.term_graph.specs.declared.links.Link.{Link}
use Rattle.term_graph.specs.declared.nodes.By.{By}
use Rattle.term_graph.specs.declared.nodes.By.TheVariants.{Expand, Instance, End, Todo}
use Rattle.term_graph.specs.Graphs.{GraphNode, GraphChild}
use Rattle.one_expansion.specs.abs_expand.BadStates.{IsGoodState}
use Rattle.one_expansion.specs.abs_expand.Expansions.{plan_of, counts_of}
use Rattle.one_expansion.proofs.abs_expand.ZipLists.{beside}
use Rattle.graph_check.specs.declared.fault.What.{What}
use Rattle.graph_check.specs.declared.fault.What.TheVariants as whats
use Rattle.graph_check.specs.Good.{HasChildren, NamesChild, IsStateAt, IsLeftBy, IsFirstOtherChild, FailsBy, FailsAs}
use Rattle.one_expansion.proofs.OneAnswer.{children_one, few_or_many, no_children, not_bad}

-- ---- states

-- a good node's state has an expansion
pub good_by : (p : Program) (typing : ℕ → CodeTypes) (nodes : List GraphNode) (state : AbstractState) (by : By) (links : List Link)
    → IsLeftBy p typing nodes state by links → IsGoodState p typing state
good_by p typing nodes state (Expand named) links left = left.are.0
good_by p typing nodes state (Instance target entries) links left = left.0.good
good_by p typing nodes state End links left = left.0.0
good_by p typing nodes state Todo links left = absurd left

-- the children of a state are one list
pub one_list : (p : Program) (typing : ℕ → CodeTypes) (state : AbstractState) (a b : List GraphChild)
    → HasChildren p typing state a → HasChildren p typing state b → a ≡ b
one_list p typing state a b g h = children_one p typing state a b g.1 h.1

-- ---- one node

module _ (p : Program) (typing : ℕ → CodeTypes) (nodes : List GraphNode) (state : AbstractState) where
  no_miscount : (a b : List GraphChild) (named : List ℕ) → HasChildren p typing state a → HasChildren p typing state b
      → AllZip (NamesChild nodes) a named → length b ≢ length named → ⊥
  no_miscount a b named g h names counts =
      counts (sym (ap length (one_list p typing state a b g h)) ∙ sym (AllZip-long (NamesChild nodes) a named names))

  no_other : (a b : List GraphChild) (named : List ℕ) (place : ℕ) → HasChildren p typing state a → HasChildren p typing state b
      → AllZip (NamesChild nodes) a named → IsFirstOtherChild nodes b named place → ⊥
  no_other a b named place g h names other =
      let there : slice_get a place ≡ Some other.child =
      ap (λ (xs : List GraphChild). slice_get xs place) (one_list p typing state a b g h) ∙ other.is_child in
      let at = beside (NamesChild nodes) a named place other.child names there in
      let number : at.other ≡ other.number = some_is (sym at.there ∙ other.is_named) in
      other.fails (subst (λ (n : ℕ). IsStateAt nodes other.child.state n) number at.alike)

  no_match_fault : (target : AbstractState) (entries : List (ℕ × ℕ)) (number id : ℕ)
      → InstanceOf (types_of p.world).sub state target entries → IsFirstFault (types_of p.world).sub state target entries number id → ⊥
  no_match_fault target entries number id match fault = elim fault.fails [
    | inl f ↦ f.0 (match fault.clause).0
    | inr f ↦ f.fails ((match fault.clause).1 id)
  ]

  no_fault_by : (by : By) (links : List Link) (what : What) → IsLeftBy p typing nodes state by links
      → FailsBy p typing nodes state by what → ⊥
  no_fault_by (Expand named) links whats.Root left fails = fails
  no_fault_by (Expand named) links (whats.BadState clause) left fails = fails
  no_fault_by (Expand named) links whats.TooManyIds left fails = few_or_many
      (counts_of (types_of p.world) state (plan_of p typing state)) fails.0 left.are.1.few fails.1.1
  no_fault_by (Expand named) links whats.ChildCount left fails = elim fails [
    | inl f ↦ no_children (types_of p.world) state (plan_of p typing state) left.children f.1 left.are.1
    | inr f ↦ no_miscount left.children f.children named left.are f.are left.names f.counts
  ]
  no_fault_by (Expand named) links (whats.Child place) left fails = no_other left.children fails.children named place left.are
      fails.are left.names fails.first
  no_fault_by (Expand named) links whats.NotEnd left fails = fails
  no_fault_by (Expand named) links whats.BadTarget left fails = fails
  no_fault_by (Expand named) links (whats.Match fault) left fails = fails
  no_fault_by (Instance target entries) links whats.Root left fails = fails
  no_fault_by (Instance target entries) links (whats.BadState clause) left fails = fails
  no_fault_by (Instance target entries) links whats.TooManyIds left fails = fails
  no_fault_by (Instance target entries) links whats.ChildCount left fails = fails
  no_fault_by (Instance target entries) links (whats.Child place) left fails = fails
  no_fault_by (Instance target entries) links whats.NotEnd left fails = fails
  no_fault_by (Instance target entries) links whats.BadTarget left fails = none-some left.0.node (sym fails ∙ left.0.is)
  no_fault_by (Instance target entries) links (whats.Match fault) left fails =
      no_match_fault left.0.node.state entries fault.clause fault.id left.0.instance
      (subst (λ (n : GraphNode). IsFirstFault (types_of p.world).sub state n.state entries fault.clause fault.id)
      (some_is (sym fails.is ∙ left.0.is)) fails.first)
  no_fault_by End links whats.Root left fails = fails
  no_fault_by End links (whats.BadState clause) left fails = fails
  no_fault_by End links whats.TooManyIds left fails = fails
  no_fault_by End links whats.ChildCount left fails = fails
  no_fault_by End links (whats.Child place) left fails = fails
  no_fault_by End links whats.NotEnd left fails = fails left.0
  no_fault_by End links whats.BadTarget left fails = fails
  no_fault_by End links (whats.Match fault) left fails = fails
  no_fault_by Todo links what left fails = left

  pub no_fault_as : (by : By) (links : List Link) (what : What) → IsLeftBy p typing nodes state by links
      → FailsAs p typing nodes (record { state = state; by = by }) what → ⊥
  no_fault_as by links (whats.BadState clause) left fails = not_bad p typing state clause
      (good_by p typing nodes state by links left) fails
  no_fault_as by links whats.Root left fails = no_fault_by by links whats.Root left fails.1
  no_fault_as by links whats.TooManyIds left fails = no_fault_by by links whats.TooManyIds left fails.1
  no_fault_as by links whats.ChildCount left fails = no_fault_by by links whats.ChildCount left fails.1
  no_fault_as by links (whats.Child place) left fails = no_fault_by by links (whats.Child place) left fails.1
  no_fault_as by links whats.NotEnd left fails = no_fault_by by links whats.NotEnd left fails.1
  no_fault_as by links whats.BadTarget left fails = no_fault_by by links whats.BadTarget left fails.1
  no_fault_as by links (whats.Match fault) left fails = no_fault_by by links (whats.Match fault) left fails.1
