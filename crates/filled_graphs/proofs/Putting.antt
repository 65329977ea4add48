-- What is held after a state is put into a slot, or taken out of it.
use mathlib.Core.HLevel.{⊥_prop}
use mathlib.Core.Logic.{∥∥₁_elim, ∥∥₁_prop}
use Rattle.std.proofs.Common.{◌≡◌, ◌<◌, ◌≤◌, ◌+◌, ◌∙◌, ℕ, List, [], ◌∷◌, length, Option, Some, None, slice_get, slice_set}
use Rattle.std.proofs.Common.{slice_index_or, ◌⊎◌, inl, inr, refl, sym, ap, subst, arith}
use Rattle.std.proofs.Props.{props}
use Rattle.std.proofs.lemmas.Bool.{cases_lt}
use Rattle.std.proofs.lemmas.Option.{none-some, slice_get_read, slice_get_within}
use Rattle.list_views.proofs.Items.{any_default, get_within, length_set}
use Rattle.jvm_values.proofs.Options.{some_is}
use Rattle.abs_cells.specs.AbstractStates.{AbstractState}
use Rattle.term_graph.specs.declared.nodes.By.{By}
use Rattle.term_graph.specs.declared.nodes.By.TheVariants.{Expand}
use Rattle.term_graph.specs.Graphs.{GraphNode, GraphChild, GraphPart, by_at, state_at}
use Rattle.filled_graphs.specs.declared.origins.Origin.{Origin}
use Rattle.filled_graphs.specs.declared.origins.Origin.TheVariants.{Named}
use Rattle.filled_graphs.specs.Filling.{ChildRules, HasStateOf, AreFirstFilled, Takes, ways_of}
use Rattle.filled_graphs.specs.Origins.{HaveOrigins}
use Rattle.filled_graphs.proofs.Noting.{named_here, IsOther, not_expanded}
use Rattle.filled_graphs.specs.lemmas.Lists.{image_at}
use Rattle.filled_graphs.specs.filled_nodes.inner.ChildStates.{AreChildren, AreChildrenOf, IsChildsState, IsChildOrFirst}
use Rattle.filled_graphs.specs.filled_nodes.inner.Slots.{IsFull, IsNamedBy, Leads, IsFullOrNamed, MayDrop}
use Rattle.filled_graphs.specs.filled_nodes.Holding.{AreKept}
use Rattle.filled_graphs.proofs.Knowing.{part_there, way_there, named_within, named_low, inside, outside}
use Rattle.filled_graphs.proofs.SlotStates.{in_set, full_set, full_beside}

-- ---- slots

module _ (rules : ChildRules) (parts : List GraphPart) (nodes : List GraphNode) (slots : List (Option AbstractState))
    (kept : AreKept rules parts nodes slots) where
  pub slot_in : (n : ℕ) → n < length parts → n < length slots
  slot_in n l = let e = kept.long in omega (arith, l, e)

  pub full_in : (n : ℕ) (state : AbstractState) (after : List (Option AbstractState)) → n < length parts
      → after ≡ slice_set slots n (Some state) → IsFull after n
  full_in n state after l e = subst (λ (ss : List (Option AbstractState)). IsFull ss n) (sym e) (full_set slots n state (slot_in n l))

  pub dropped : (n : ℕ) (after : List (Option AbstractState)) → after ≡ slice_set slots n None → AreKept rules parts nodes after
  dropped n after e = subst (AreKept rules parts nodes) (sym e) (record { long = length_set slots n None ∙ kept.long; held = held })
    where
      held : (k : ℕ) (part : GraphPart) (state : AbstractState) → slice_get parts k ≡ Some part
          → slice_get (slice_set slots n None) k ≡ Some (Some state)
          → ∥ HasStateOf rules (ways_of parts) nodes k part.state state ∥₁
      held k part state q at = elim (in_set slots n k None state at) [
        | inl new ↦ absurd (none-some state new.1)
        | inr old ↦ kept.held k part state q old
      ]

  pub looked_at : (n : ℕ) (after : List (Option AbstractState)) → MayDrop slots n after → AreKept rules parts nodes after
  looked_at n after (inl e) = subst (AreKept rules parts nodes) (sym e) kept
  looked_at n after (inr e) = dropped n after e

  -- a state that the node of the slot has, or will have
  filled_in : (n : ℕ) (state : AbstractState)
      → ((part : GraphPart) → slice_get parts n ≡ Some part → ∥ HasStateOf rules (ways_of parts) nodes n part.state state ∥₁)
      → AreKept rules parts nodes (slice_set slots n (Some state))
  filled_in n state has = record { long = length_set slots n (Some state) ∙ kept.long; held = held }
    where
      held : (k : ℕ) (part : GraphPart) (other : AbstractState) → slice_get parts k ≡ Some part
          → slice_get (slice_set slots n (Some state)) k ≡ Some (Some other)
          → ∥ HasStateOf rules (ways_of parts) nodes k part.state other ∥₁
      held k part other q at = elim (in_set slots n k (Some state) other at) [
        | inl new ↦
            subst (λ s. ∥ HasStateOf rules (ways_of parts) nodes k part.state s ∥₁) (some_is new.1)
            (subst (λ j. ∥ HasStateOf rules (ways_of parts) nodes j part.state state ∥₁) (sym new.0)
            (has part (ap (slice_get parts) (sym new.0) ∙ q)))
        | inr old ↦ kept.held k part other q old
      ]

  pub given_in : (n : ℕ) (state : AbstractState) (after : List (Option AbstractState)) → state_at parts n ≡ Some (Some state)
      → after ≡ slice_set slots n (Some state) → AreKept rules parts nodes after
  given_in n state after at e = subst (AreKept rules parts nodes) (sym e) (filled_in n state (λ part q.
      let found = part_there parts n (Some state) at in
      let is : part.state ≡ Some state = ap (λ (p : GraphPart). p.state) (some_is (sym q ∙ found.1.0)) ∙ found.1.1 in
      ∣ subst (λ g. HasStateOf rules (ways_of parts) nodes n g state) (sym is) refl ∣₁))

-- ---- the state of a child

-- the state of the child at a place, or the one that stands for it, is taken
child_takes : (rules : ChildRules) (from first : AbstractState) (children : List GraphChild) (place : ℕ) (state : AbstractState)
    → AreChildren rules from children → (child : GraphChild) → slice_get children place ≡ Some child → state ≡ child.state
    → Takes rules from first place state
child_takes rules from first children place state (inl has) child at is =
    inl (record { children = children; are = has; child = child; at = at; state_is = is })
child_takes rules from first children place state (inr none) child at is =
    absurd (none-some child (ap (λ cs. slice_get cs place) (sym none.0) ∙ at))

none_takes : (rules : ChildRules) (from first : AbstractState) (children : List GraphChild) (place : ℕ)
    → AreChildren rules from children → slice_get children place ≡ None → Takes rules from first place first
none_takes rules from first children place (inl has) none =
    inr (λ others h. ap (λ cs. slice_get cs place) (rules.one from others children h has) ∙ none, refl)
none_takes rules from first children place (inr e) none = inr (λ others h. absurd (e.1 others h), refl)

module _ (rules : ChildRules) (parts : List GraphPart) (known : ℕ) (nodes : List GraphNode) (origins : List Origin)
    (first : ∥ AreFirstFilled rules parts known nodes ∥₁) (sources : ∥ HaveOrigins parts origins ∥₁) where
  -- the first node's state is what its part has
  base_state : (f : AreFirstFilled rules parts known nodes) (base : GraphNode) → slice_get nodes 0 ≡ Some base → (part : GraphPart)
      (state : AbstractState) → slice_get parts 0 ≡ Some part → part.state ≡ Some state → base.state ≡ state
  base_state f base at part state is e =
      let x = f.each 0 base at in
      let same : x.part.state ≡ Some state = ap (λ (p : GraphPart). p.state) (some_is (sym x.is ∙ is)) ∙ e in
      subst (λ g. HasStateOf rules (ways_of parts) nodes 0 g base.state) same x.state

  takes : (f : AreFirstFilled rules parts known nodes) (base : GraphNode) → slice_get nodes 0 ≡ Some base → (from : AbstractState)
      (children : List GraphChild) (place : ℕ) (state : AbstractState) → AreChildren rules from children
      → IsChildOrFirst parts children place state → Takes rules from base.state place state
  takes f base at from children place state are (inl c) = child_takes rules from base.state children place state are c.child c.at c.is
  takes f base at from children place state are (inr p) = subst (Takes rules from base.state place)
      (base_state f base at p.part state p.is_first p.is) (none_takes rules from base.state children place are p.none)

  taken : (namer place n : ℕ) (children : List GraphChild) (state : AbstractState) → namer < known
      → AreChildrenOf rules nodes namer children
      → IsNamedBy origins namer place n → IsChildOrFirst parts children place state
      → (part : GraphPart) → slice_get parts n ≡ Some part → ∥ HasStateOf rules (ways_of parts) nodes n part.state state ∥₁
  taken namer place n children state low of named is part q =
      let base = get_within nodes 0 (inside rules parts known nodes first 0 (omega (arith, low))) in
      ∥∥₁_elim first ∥∥₁_prop (λ f. ∥∥₁_elim sources ∥∥₁_prop (λ s.
      let o = s.each n part (Named namer place) q named in
      ∣ subst (λ g. HasStateOf rules (ways_of parts) nodes n g state) (sym o.0) (record {
        namer = namer;
        place = place;
        named = o.1.0;
        earlier = o.1.1;
        node = of.node;
        is = of.is;
        first = base.0;
        is_first = base.1;
        takes = takes f base.0 base.1 of.node.state children place state of.are is;
      }) ∣₁))

  pub child_in : (slots : List (Option AbstractState)) → AreKept rules parts nodes slots → (namer place n : ℕ) (children : List GraphChild)
      (state : AbstractState) (after : List (Option AbstractState)) → namer < known → AreChildrenOf rules nodes namer children
      → IsNamedBy origins namer place n → IsChildOrFirst parts children place state → after ≡ slice_set slots n (Some state)
      → AreKept rules parts nodes after
  child_in slots kept namer place n children state after low of named is e = subst (AreKept rules parts nodes) (sym e)
      (filled_in rules parts nodes slots kept n state (taken namer place n children state low of named is))

-- ---- all that a node names

module _ (parts : List GraphPart) (origins : List Origin) (sources : ∥ HaveOrigins parts origins ∥₁) where
  pub slot_within : (namer place n count : ℕ) → IsNamedBy origins namer place n → count ≡ length parts → n < count
  slot_within namer place n count is e =
      let l = named_within parts origins sources namer place n is in
      omega (arith, l, e)

  -- a node that is first named by another one stands in its list
  pub in_list : (namer : ℕ) (named : List ℕ) → by_at parts namer ≡ Some (Expand named) → (place n : ℕ) → IsNamedBy origins namer place n
      → slice_get named place ≡ Some n
  in_list namer named e place n is =
      let part = get_within parts n (named_within parts origins sources namer place n is) in
      let found = way_there parts namer (Expand named) e in
      let way = image_at (λ (p : GraphPart). p.by) parts namer found.0 found.1.0 ∙ ap Some found.1.1 in
      ∥∥₁_elim sources (number_set (slice_get named place) (Some n)) (λ s.
      named_here (ways_of parts) namer place n named way (s.each n part.0 (Named namer place) part.1 is).1.0.names)
    where
      number_set : IsSet (Option ℕ)
      number_set = hlevel props

  -- one that isn't expanded names none
  pub in_none : (namer : ℕ) (by : By) → by_at parts namer ≡ Some by → IsOther by → (place n : ℕ) → IsNamedBy origins namer place n → ⊥
  in_none namer by e other place n is =
      let part = get_within parts n (named_within parts origins sources namer place n is) in
      let found = way_there parts namer by e in
      let way = image_at (λ (p : GraphPart). p.by) parts namer found.0 found.1.0 ∙ ap Some found.1.1 in
      ∥∥₁_elim sources ⊥_prop (λ s.
      let names = (s.each n part.0 (Named namer place) part.1 is).1.0.names in
      not_expanded by names.named other (some_is (sym way ∙ names.is)))

  -- behind the expansion the node's own slot may be emptied
  pub full_after : (slots after : List (Option AbstractState)) (namer : ℕ) → MayDrop slots namer after
      → ((place n : ℕ) → IsNamedBy origins namer place n → IsFull slots n)
      → (place n : ℕ) → IsNamedBy origins namer place n → IsFull after n
  full_after slots after namer (inl e) full place n is = subst (λ (ss : List (Option AbstractState)). IsFull ss n) (sym e)
      (full place n is)
  full_after slots after namer (inr e) full place n is = subst (λ (ss : List (Option AbstractState)). IsFull ss n) (sym e)
      (full_beside slots namer n None
      (λ same. let l = named_low parts origins sources namer place n is in omega (arith, l, same)) (full place n is))

  -- ---- the way from a node that is held to another one

  pub leads_low : (to from : ℕ) (way : List ℕ) → Leads origins to from way → from ≤ to
  leads_low to from [] e = omega (arith, e)
  leads_low to from (x ∷ way) l =
      let low = named_low parts origins sources from l.0.0 x l.0.1 in
      let rest = leads_low to x way l.1 in
      omega (arith, low, rest)

  pub leads_known : (to from next known : ℕ) (way rest : List ℕ) → Leads origins to from way → way ≡ next ∷ rest → to ≤ known
      → from < known
  leads_known to from next known way rest l e few =
      let leads = subst (Leads origins to from) e l in
      let low = named_low parts origins sources from leads.0.0 next leads.0.1 in
      let far = leads_low to next rest leads.1 in
      omega (arith, low, far, few)

-- the next one of the way is held when its namer was expanded
pub next_full : (origins : List Origin) (slots : List (Option AbstractState)) (to from next : ℕ) (way rest : List ℕ)
    → Leads origins to from way → way ≡ next ∷ rest → ((place n : ℕ) → IsNamedBy origins from place n → IsFull slots n)
    → IsFull slots next
next_full origins slots to from next way rest l e full =
    let leads = subst (Leads origins to from) e l in
    full leads.0.0 next leads.0.1

pub next_leads : (origins : List Origin) (to from next : ℕ) (way rest : List ℕ) → Leads origins to from way → way ≡ next ∷ rest
    → Leads origins to next rest
next_leads origins to from next way rest l e = (subst (Leads origins to from) e l).1

pub ends_full : (origins : List Origin) (slots : List (Option AbstractState)) (to from : ℕ) (way : List ℕ) → Leads origins to from way
    → way ≡ [] → IsFull slots from → IsFull slots to
ends_full origins slots to from way l e full = subst (IsFull slots) (subst (Leads origins to from) e l) full

-- ---- place by place

pub next_put : (origins : List Origin) (named : List ℕ) (before after : List (Option AbstractState)) (namer place any : ℕ)
    → place < length named
    → ((k n : ℕ) → k < place → slice_get named k ≡ Some n → IsNamedBy origins namer k n → IsFull before n)
    → ((n : ℕ) → IsFull before n → IsFull after n)
    → (IsNamedBy origins namer place (slice_index_or named place any) → IsFull after (slice_index_or named place any))
    → (k n : ℕ) → k < place + 1 → slice_get named k ≡ Some n → IsNamedBy origins namer k n → IsFull after n
next_put origins named before after namer place any l full keeps here k n low at is = elim (last k low) [
  | inl e ↦
      let number = slice_index_or named place any in
      let there : slice_get named place ≡ Some number = slice_get_read named (length named) place number refl l
      (any_default named place any number l) in
      let same : number ≡ n = some_is (sym there ∙ ap (slice_get named) (sym e) ∙ at) in
      subst (IsFull after) same (here (subst (λ j. IsNamedBy origins namer j number) e (subst (IsNamedBy origins namer k) (sym same) is)))
  | inr d ↦ keeps n (full k n d at is)
]
  where
    last : (j : ℕ) → j < place + 1 → (j ≡ place) ⊎ (j < place)
    last j m = elim (cases_lt j place) [
      | inl below ↦ inr below
      | inr high ↦ inl (omega (arith, m, high))
    ]

pub all_put : (origins : List Origin) (named : List ℕ) (slots : List (Option AbstractState)) (namer place : ℕ) → length named ≤ place
    → ((k n : ℕ) → k < place → slice_get named k ≡ Some n → IsNamedBy origins namer k n → IsFull slots n)
    → (k n : ℕ) → slice_get named k ≡ Some n → IsNamedBy origins namer k n → IsFull slots n
all_put origins named slots namer place l full k n at is =
    let inside = slice_get_within named k n at in
    full k n (omega (arith, l, inside)) at is

-- ---- a child by its place

pub childs_state : (children : List GraphChild) (place : ℕ) (child : GraphChild) (state : AbstractState) → place < length children
    → child ≡ slice_index_or children place child → state ≡ child.state → IsChildsState children place state
childs_state children place child state l is e = record {
  child = child;
  at = slice_get_read children (length children) place child refl l is;
  is = e;
}

pub known_part : (known count n : ℕ) → n < known → known ≤ count → n < count
known_part known count n l few = omega (arith, l, few)

-- ---- the way up

pub begins : (origins : List Origin) (to : ℕ) (way : List ℕ) → way ≡ [] → Leads origins to to way
begins origins to way e = subst (Leads origins to to) (sym e) refl

pub goes_up : (origins : List Origin) (slots : List (Option AbstractState)) (to from namer : ℕ) (above : Option ℕ) (way after : List ℕ)
    → Leads origins to from way → IsFullOrNamed origins slots from above → above ≡ Some namer → after ≡ from ∷ way
    → Leads origins to namer after
goes_up origins slots to from namer above way after l named e is = subst (Leads origins to namer) (sym is)
    (subst (IsFullOrNamed origins slots from) e named, l)

pub lower : (parts : List GraphPart) (origins : List Origin) → ∥ HaveOrigins parts origins ∥₁ → (slots : List (Option AbstractState))
    (from namer : ℕ) (above : Option ℕ) → IsFullOrNamed origins slots from above → above ≡ Some namer → namer < from
lower parts origins sources slots from namer above named e =
    let is = subst (IsFullOrNamed origins slots from) e named in
    named_low parts origins sources namer is.0 from is.1

pub shorter : (next : ℕ) (way rest : List ℕ) → way ≡ next ∷ rest → length rest < length way
shorter next way rest e = let l = ap length e in omega (arith, l)

-- ---- numbers

pub same_count : {Y : Type 0} (parts : Y → List GraphPart) (here old : Y) (n count : ℕ) → here ≡ old → count ≡ length (parts old)
    → n < count → n < length (parts here)
same_count parts here old n count e k l = subst (λ y. n < length (parts y)) (sym e) (omega (arith, k, l))

pub known_there : (rules : ChildRules) (parts : List GraphPart) (known : ℕ) (nodes : List GraphNode)
    → ∥ AreFirstFilled rules parts known nodes ∥₁ → known ≤ length parts → (n : ℕ) → n < length nodes → n < length parts
known_there rules parts known nodes first few n l =
    let low = outside rules parts known nodes first n l in
    omega (arith, low, few)
