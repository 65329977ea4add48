-- What is known of the filled graph: the first nodes, their states and children, and one node more.
use mathlib.Core.HLevel.{⊥_prop}
use mathlib.Core.Logic.{∥∥₁_elim, ∥∥₁_prop}
use Rattle.std.proofs.Common.{◌≡◌, ◌<◌, ◌+◌, ◌∙◌, ℕ, List, [], ◌∷◌, ◌++◌, length, length-append, Option, Some, None}
use Rattle.std.proofs.Common.{slice_get, inl, inr, refl, sym, ap, subst, arith}
use Rattle.std.proofs.Props.{props}
use Rattle.std.specs.Option.{option_map}
use Rattle.std.proofs.lemmas.Option.{none-some, slice_get_within}
use Rattle.list_views.proofs.Items.{get_before, get_within}
use Rattle.jvm_values.proofs.Options.{some_is}
use Rattle.abs_cells.specs.AbstractStates.{AbstractState}
use Rattle.term_graph.specs.declared.nodes.By.{By}
use Rattle.term_graph.specs.Graphs.{GraphNode, GraphChild, GraphPart, by_at, state_at}
use Rattle.filled_graphs.specs.declared.origins.Origin.{Origin}
use Rattle.filled_graphs.specs.declared.origins.Origin.TheVariants.{Given, Lacking, Named}
use Rattle.filled_graphs.specs.Filling.{ChildRules, HasStateOf, IsNodeOf, AreFirstFilled, IsFilled, Filling, ways_of}
use Rattle.filled_graphs.specs.Origins.{IsOriginOf, HaveOrigins}
use Rattle.filled_graphs.specs.lemmas.Lists.{in_more}
use Rattle.filled_graphs.specs.lemmas.Once.{state_once, filling_prop}
use Rattle.filled_graphs.specs.filled_nodes.Children.{HasThemOrNone}
use Rattle.filled_graphs.specs.filled_nodes.inner.ChildStates.{AreChildren, AreChildrenOf}
use Rattle.filled_graphs.specs.filled_nodes.inner.Slots.{IsFull, AreEmpty, IsNamedBy}
use Rattle.filled_graphs.specs.filled_nodes.Holding.{AreKept}

-- ---- propositions

lt_prop : (m n : ℕ) → IsProp (m < n)
lt_prop m n = hlevel props

state_set : IsSet AbstractState
state_set = hlevel props

-- ---- children

pub some_children : (rules : ChildRules) (state : AbstractState) (found : Option (List GraphChild)) (children : List GraphChild)
    → HasThemOrNone rules state found → found ≡ Some children → AreChildren rules state children
some_children rules state found children has e = inl (subst (HasThemOrNone rules state) e has)

pub no_children : (rules : ChildRules) (state : AbstractState) (found : Option (List GraphChild)) (children : List GraphChild)
    → HasThemOrNone rules state found → found ≡ None → children ≡ [] → AreChildren rules state children
no_children rules state found children has e none = inr (none, subst (HasThemOrNone rules state) e has)

-- ---- what a part says

pub part_there : (parts : List GraphPart) (n : ℕ) (given : Option AbstractState) → state_at parts n ≡ Some given
    → (part : GraphPart) × ((slice_get parts n ≡ Some part) × (part.state ≡ given))
part_there parts n given e = go (slice_get parts n) refl e
  where
    go : (found : Option GraphPart) → slice_get parts n ≡ found → option_map (λ (q : GraphPart). q.state) found ≡ Some given
        → (part : GraphPart) × ((slice_get parts n ≡ Some part) × (part.state ≡ given))
    go None at f = absurd (none-some given f)
    go (Some part) at f = (part, (at, some_is f))

pub way_there : (parts : List GraphPart) (n : ℕ) (by : By) → by_at parts n ≡ Some by
    → (part : GraphPart) × ((slice_get parts n ≡ Some part) × (part.by ≡ by))
way_there parts n by e = go (slice_get parts n) refl e
  where
    go : (found : Option GraphPart) → slice_get parts n ≡ found → option_map (λ (q : GraphPart). q.by) found ≡ Some by
        → (part : GraphPart) × ((slice_get parts n ≡ Some part) × (part.by ≡ by))
    go None at f = absurd (none-some by f)
    go (Some part) at f = (part, (at, some_is f))

-- ---- who names a node

module _ (parts : List GraphPart) (origins : List Origin) (sources : ∥ HaveOrigins parts origins ∥₁) where
  pub named_within : (namer place n : ℕ) → IsNamedBy origins namer place n → n < length parts
  named_within namer place n is = ∥∥₁_elim sources (lt_prop n (length parts))
      (λ s. let l = slice_get_within origins n (Named namer place) is in let e = s.long in omega (arith, l, e))

  -- the namer has a lower number
  pub named_low : (namer place n : ℕ) → IsNamedBy origins namer place n → namer < n
  named_low namer place n is =
      let part = get_within parts n (named_within namer place n is) in
      ∥∥₁_elim sources (lt_prop namer n) (λ s. (s.each n part.0 (Named namer place) part.1 is).1.1)

  -- a part that nothing names has its state
  pub not_lacking : (n : ℕ) → state_at parts n ≡ Some None → ((namer place : ℕ) → IsNamedBy origins namer place n → ⊥) → ⊥
  not_lacking n e none =
      let part = part_there parts n None e in
      let inside = slice_get_within parts n part.0 part.1.0 in
      ∥∥₁_elim sources ⊥_prop (λ s.
      let long = s.long in
      let origin = get_within origins n (omega (arith, inside, long)) in
      go part.0 origin.0 part.1.1 origin.1 (s.each n part.0 origin.0 part.1.0 origin.1))
    where
      go : (part : GraphPart) (origin : Origin) → part.state ≡ None → slice_get origins n ≡ Some origin
          → IsOriginOf (ways_of parts) n part.state origin → ⊥
      go part Given lacks at o = none-some o.0 (sym lacks ∙ o.1)
      go part Lacking lacks at o = o
      go part (Named namer place) lacks at o = none namer place at

  pub first_given : state_at parts 0 ≡ Some None → ⊥
  first_given e = not_lacking 0 e (λ namer place is. let l = named_low namer place 0 is in omega (arith, l))

-- ---- the states of known nodes

pub state_more : (rules : ChildRules) (ways : List By) (nodes more : List GraphNode) (n : ℕ) (given : Option AbstractState)
    (state : AbstractState) → HasStateOf rules ways nodes n given state → HasStateOf rules ways (nodes ++ more) n given state
state_more rules ways nodes more n (Some g) state h = h
state_more rules ways nodes more n None state t = record {
  namer = t.namer;
  place = t.place;
  named = t.named;
  earlier = t.earlier;
  node = t.node;
  is = get_before nodes more t.namer t.node t.is;
  first = t.first;
  is_first = get_before nodes more 0 t.first t.is_first;
  takes = t.takes;
}

module _ (rules : ChildRules) (parts : List GraphPart) (known : ℕ) (nodes : List GraphNode)
    (first : ∥ AreFirstFilled rules parts known nodes ∥₁) where
  pub inside : (n : ℕ) → n < known → n < length nodes
  inside n l = ∥∥₁_elim first (lt_prop n (length nodes)) (λ f. let e = f.long in omega (arith, l, e))

  pub outside : (n : ℕ) → n < length nodes → n < known
  outside n l = ∥∥₁_elim first (lt_prop n known) (λ f. let e = f.long in omega (arith, l, e))

  -- a state that is held is its node's
  pub same_state : (slots : List (Option AbstractState)) → AreKept rules parts nodes slots → (n : ℕ) (node : GraphNode)
      (state : AbstractState) → slice_get nodes n ≡ Some node → slice_get slots n ≡ Some (Some state) → state ≡ node.state
  same_state slots kept n node state at held = ∥∥₁_elim first (state_set state node.state) (λ f.
      let x = f.each n node at in
      ∥∥₁_elim (kept.held n x.part state x.is held) (state_set state node.state)
      (λ h. state_once rules (ways_of parts) nodes n x.part.state state node.state h x.state))

  pub state_given : (slots : List (Option AbstractState)) → AreKept rules parts nodes slots → (n : ℕ) (state : AbstractState)
      → n < length nodes → slice_get slots n ≡ Some (Some state)
      → option_map (λ (node : GraphNode). node.state) (slice_get nodes n) ≡ Some state
  state_given slots kept n state l held =
      let found = get_within nodes n l in
      ap (option_map (λ (node : GraphNode). node.state)) found.1 ∙ ap Some (sym (same_state slots kept n found.0 state found.1 held))

  -- a known node is left as its part says
  pub by_given : (n : ℕ) (by : By) → n < length nodes → by_at parts n ≡ Some by
      → option_map (λ (node : GraphNode). node.by) (slice_get nodes n) ≡ Some by
  by_given n by l e =
      let found = get_within nodes n l in
      let part = way_there parts n by e in
      ∥∥₁_elim first (ways_set (option_map (λ (node : GraphNode). node.by) (slice_get nodes n)) (Some by)) (λ f.
      let x = f.each n found.0 found.1 in
      ap (option_map (λ (node : GraphNode). node.by)) found.1
      ∙ ap Some (x.by ∙ ap (λ (q : GraphPart). q.by) (some_is (sym x.is ∙ part.1.0)) ∙ part.1.1))
    where
      ways_set : IsSet (Option By)
      ways_set = hlevel props

  -- the children of a state that is held are those of its node
  pub children_there : (slots : List (Option AbstractState)) (n : ℕ) (state : AbstractState) (children : List GraphChild) → n < known
      → AreKept rules parts nodes slots → slice_get slots n ≡ Some (Some state) → AreChildren rules state children
      → AreChildrenOf rules nodes n children
  children_there slots n state children low kept held are =
      let found = get_within nodes n (inside n low) in
      record {
        node = found.0;
        is = found.1;
        are = subst (λ s. AreChildren rules s children) (same_state slots kept n found.0 state found.1 held) are;
      }

-- a node is put together
abbrev node_of : AbstractState → By → GraphNode
node_of state by = record { state = state; by = by }

pub node_given : (nodes : List GraphNode) (n : ℕ) (state : AbstractState) (by : By)
    → option_map (λ (node : GraphNode). node.state) (slice_get nodes n) ≡ Some state
    → option_map (λ (node : GraphNode). node.by) (slice_get nodes n) ≡ Some by
    → slice_get nodes n ≡ Some (node_of state by)
node_given nodes n state by s b = go (slice_get nodes n) s b
  where
    go : (found : Option GraphNode) → option_map (λ (node : GraphNode). node.state) found ≡ Some state
        → option_map (λ (node : GraphNode). node.by) found ≡ Some by
        → found ≡ Some (node_of state by)
    go None s' b' = absurd (none-some state s')
    go (Some node) s' b' = ap (λ x. Some (node_of x node.by)) (some_is s') ∙ ap (λ x. Some (node_of state x)) (some_is b')

-- ---- none, and one node more

pub none_known : (rules : ChildRules) (parts : List GraphPart) → Filling rules parts 0
none_known rules parts = ([], ∣ record { long = refl; each = λ n node at. absurd (none-some node at) } ∣₁)

pub none_held : (rules : ChildRules) (parts : List GraphPart) (nodes : List GraphNode) (slots : List (Option AbstractState)) (count : ℕ)
    → AreEmpty slots count → count ≡ length parts → AreKept rules parts nodes slots
none_held rules parts nodes slots count so e = record {
  long = so.long ∙ e;
  held = λ n part state q at. absurd (so.empty n state at);
}

one_more : (rules : ChildRules) (parts : List GraphPart) (known : ℕ) (nodes : List GraphNode) (state : AbstractState)
    (part : GraphPart) → slice_get parts known ≡ Some part → HasStateOf rules (ways_of parts) nodes known part.state state
    → AreFirstFilled rules parts known nodes → AreFirstFilled rules parts (known + 1) (nodes ++ node_of state part.by ∷ [])
one_more rules parts known nodes state part is h f = record {
  long = length-append nodes (node_of state part.by ∷ []) ∙ ap (λ k. k + 1) f.long;
  each = each;
}
  where
    last : (n : ℕ) (node : GraphNode) → n ≡ length nodes → node ≡ node_of state part.by
        → IsNodeOf rules parts (nodes ++ node_of state part.by ∷ []) n node
    last n node e same =
        let here : n ≡ known = e ∙ f.long in
        record {
          part = part;
          is = ap (slice_get parts) here ∙ is;
          by = ap (λ (x : GraphNode). x.by) same;
          state = subst (λ k. HasStateOf rules (ways_of parts) (nodes ++ node_of state part.by ∷ []) k part.state node.state) (sym here)
              (subst (λ s. HasStateOf rules (ways_of parts) (nodes ++ node_of state part.by ∷ []) known part.state s)
              (sym (ap (λ (x : GraphNode). x.state) same))
              (state_more rules (ways_of parts) nodes (node_of state part.by ∷ []) known part.state state h));
        }

    each : (n : ℕ) (node : GraphNode) → slice_get (nodes ++ node_of state part.by ∷ []) n ≡ Some node
        → IsNodeOf rules parts (nodes ++ node_of state part.by ∷ []) n node
    each n node at = elim (in_more nodes (node_of state part.by) node n at) [
      | inl old ↦
          let x = f.each n node old in
          record {
            part = x.part;
            is = x.is;
            by = x.by;
            state = state_more rules (ways_of parts) nodes (node_of state part.by ∷ []) n x.part.state node.state x.state;
          }
      | inr e ↦ last n node e.0 e.1
    ]

held_more : (rules : ChildRules) (parts : List GraphPart) (nodes more : List GraphNode) (slots : List (Option AbstractState))
    → AreKept rules parts nodes slots → AreKept rules parts (nodes ++ more) slots
held_more rules parts nodes more slots kept = record {
  long = kept.long;
  held = λ n part state q at. ∥∥₁_elim (kept.held n part state q at) ∥∥₁_prop
      (λ h. ∣ state_more rules (ways_of parts) nodes more n part.state state h ∣₁);
}

-- a node more, whose state is held, and what is held then
pub record IsGrown (rules : ChildRules) (parts : List GraphPart) (known : ℕ) (slots : List (Option AbstractState)) : Type 0 where
  pub filling : Filling rules parts (known + 1)
  pub kept : AreKept rules parts filling.0 slots

pub grown : (rules : ChildRules) (parts : List GraphPart) (known : ℕ) (nodes : List GraphNode) (slots : List (Option AbstractState))
    → ∥ AreFirstFilled rules parts known nodes ∥₁ → known < length parts → IsFull slots known → AreKept rules parts nodes slots
    → IsGrown rules parts known slots
grown rules parts known nodes slots first l full kept =
    let part = get_within parts known l in
    record {
      filling = (
        nodes ++ node_of full.state part.0.by ∷ [],
        ∥∥₁_elim first ∥∥₁_prop (λ f. ∥∥₁_elim (kept.held known part.0 full.state part.1 full.is) ∥∥₁_prop
            (λ h. ∣ one_more rules parts known nodes full.state part.0 part.1 h f ∣₁)),
      );
      kept = held_more rules parts nodes (node_of full.state part.0.by ∷ []) slots kept;
    }

pub grown_kept : (rules : ChildRules) (parts : List GraphPart) (known : ℕ) (nodes : List GraphNode) (slots : List (Option AbstractState))
    → ∥ AreFirstFilled rules parts known nodes ∥₁ → known < length parts → IsFull slots known → AreKept rules parts nodes slots
    → (filling : Filling rules parts (known + 1)) → AreKept rules parts filling.0 slots
grown_kept rules parts known nodes slots first l full kept filling =
    let g = grown rules parts known nodes slots first l full kept in
    subst (λ (f : Filling rules parts (known + 1)). AreKept rules parts f.0 slots)
    (filling_prop rules parts (known + 1) g.filling filling) g.kept

-- ---- all are known

pub all_known : {X Y : Type 0} (rules : X → ChildRules) (parts : Y → List GraphPart) (x other : X) (y there : Y) (known : ℕ)
    (nodes : List GraphNode) → x ≡ other → y ≡ there → known ≡ length (parts there) → ∥ AreFirstFilled (rules x) (parts y) known nodes ∥₁
    → ∥ IsFilled (rules other) (parts there) nodes ∥₁
all_known rules parts x other y there known nodes a b k first =
    subst (λ c. ∥ AreFirstFilled (rules other) (parts there) c nodes ∥₁) k
    (subst (λ z. ∥ AreFirstFilled (rules other) (parts z) known nodes ∥₁) b
    (subst (λ z. ∥ AreFirstFilled (rules z) (parts y) known nodes ∥₁) a first))
