-- A tree that grows at an open node: what was above, before and due stays so.
use Rattle.std.proofs.Common.{◌≡◌, ◌≢◌, ◌⊎◌, inl, inr, ℕ, zero, suc, ◌<◌, ◌≤◌, true, List, length, Some, subst, ap, arith, refl, ◌∙◌, sym}
use Rattle.std.specs.Prelude.{slice_get}
use Rattle.std.proofs.lemmas.Bool.{false≢true, cases_eq, cases_lt}
use Rattle.std.proofs.lemmas.Option.{slice_get_within, same_Some}
use Rattle.abs_cells.specs.AbstractStates.{AbstractState}
use Rattle.term_graph.specs.declared.nodes.By.{By}
use Rattle.term_graph.specs.declared.nodes.By.TheVariants.{Expand, Todo}
use Rattle.term_graph.specs.Graphs.{GraphNode}
use Rattle.graph_build.specs.Disciplined.{IsNode, Names, ComesFrom, IsTree, IsAboveBy, IsAbove, IsAtOrAbove, IsUnderLater, IsBefore}
use Rattle.graph_build.specs.Disciplined.{is_expanded}
use Rattle.graph_build.proofs.Ancestry.{above_less}

-- ---- nodes

pub same_by : (nodes : List GraphNode) (n : ℕ) (s s' : AbstractState) (b b' : By) → IsNode nodes n s b → IsNode nodes n s' b' → b ≡ b'
same_by nodes n s s' b b' h g = ap (λ (x : GraphNode). x.by)
    (same_Some (record { state = s; by = b }) (record { state = s'; by = b' }) (sym h ∙ g))

pub same_state : (nodes : List GraphNode) (n : ℕ) (s s' : AbstractState) (b b' : By) → IsNode nodes n s b → IsNode nodes n s' b' → s ≡ s'
same_state nodes n s s' b b' h g = ap (λ (x : GraphNode). x.state)
    (same_Some (record { state = s; by = b }) (record { state = s'; by = b' }) (sym h ∙ g))

pub names_no_todo : (by : By) (m : ℕ) → Names by m → by ≡ Todo → ⊥
names_no_todo by m h e = subst (λ (b : By). Names b m) e h

pub todo_not_expanded : (by : By) → by ≡ Todo → is_expanded by ≡ true → ⊥
todo_not_expanded by e h = false≢true (sym (ap is_expanded e) ∙ h)

-- ---- growing at an open node

pub record Extends (nodes nodes' : List GraphNode) (parent parent' : ℕ → ℕ) (n : ℕ) (state : AbstractState) (by : By) : Type 0 where
  pub was : IsNode nodes n state Todo
  pub now : IsNode nodes' n state by
  pub done : by ≢ Todo
  pub kept : (m : ℕ) (s : AbstractState) (b : By) → m ≢ n → IsNode nodes m s b → IsNode nodes' m s b
  pub back : (m : ℕ) (s : AbstractState) (b : By) → m ≢ n → m < length nodes → IsNode nodes' m s b → IsNode nodes m s b
  pub more : length nodes ≤ length nodes'
  pub same : (m : ℕ) → m < length nodes → parent' m ≡ parent m
  pub fresh : (m : ℕ) → length nodes ≤ m → m < length nodes' → parent' m ≡ n
  pub fresh_open : (m : ℕ) (s : AbstractState) (b : By) → length nodes ≤ m → IsNode nodes' m s b → b ≡ Todo
  pub named : (m : ℕ) → length nodes ≤ m → m < length nodes' → Names by m
  pub names : (list : List ℕ) (place child : ℕ) → by ≡ Expand list → slice_get list place ≡ Some child → (length nodes ≤ child)
      × (child < length nodes')
  pub in_order : (list : List ℕ) (i j a b : ℕ) → by ≡ Expand list → i < j → slice_get list i ≡ Some a → slice_get list j ≡ Some b → a < b

-- an open node is the parent of none
pub childless : (nodes : List GraphNode) (parent : ℕ → ℕ) (tree : IsTree nodes parent) (n : ℕ) (state : AbstractState)
    → IsNode nodes n state Todo → (m : ℕ) → 0 < m → m < length nodes → parent m ≡ n → ⊥
childless nodes parent tree n state was m p l e =
    let c = tree.comes m p l in
    names_no_todo c.by m c.names (same_by nodes n c.state state c.by Todo (subst (λ (x : ℕ). IsNode nodes x c.state c.by) e c.is) was)

pub under_none : (nodes : List GraphNode) (parent : ℕ → ℕ) (tree : IsTree nodes parent) (n : ℕ) (state : AbstractState)
    → IsNode nodes n state Todo → (k m : ℕ) → m < length nodes → IsAboveBy parent n k m → ⊥
under_none nodes parent tree n state was zero m l h = childless nodes parent tree n state was m h.0 l h.1
under_none nodes parent tree n state was (suc k) m l h = under_none nodes parent tree n state was k (parent m)
    (omega (arith, tree.lower m h.0 l, l)) h.1

module _ (nodes nodes' : List GraphNode) (parent parent' : ℕ → ℕ) (n : ℕ) (state : AbstractState) (by : By)
    (tree : IsTree nodes parent) (g : Extends nodes nodes' parent parent' n state by) where
  pub inside : n < length nodes
  inside = slice_get_within nodes n (record { state = state; by = Todo }) g.was

  -- ---- the tree

  -- what isn't open is as before, and not the node that grows
  pub other_than : (m : ℕ) (s : AbstractState) (b : By) → IsNode nodes m s b → b ≢ Todo → m ≢ n
  other_than m s b is d e = d (same_by nodes n s state b Todo (subst (λ (x : ℕ). IsNode nodes x s b) e is) g.was)

  comes : (m : ℕ) → 0 < m → m < length nodes' → (m < length nodes) ⊎ (length nodes ≤ m) → ComesFrom nodes' m (parent' m)
  comes m p l (inl k) =
      let c = tree.comes m p k in
      let other : parent m ≢ n = other_than (parent m) c.state c.by c.is (names_no_todo c.by m c.names) in
      record {
        state = c.state;
        by = c.by;
        is = subst (λ (x : ℕ). IsNode nodes' x c.state c.by) (sym (g.same m k)) (g.kept (parent m) c.state c.by other c.is);
        names = c.names;
      }
  comes m p l (inr k) = record {
    state = state;
    by = by;
    is = subst (λ (x : ℕ). IsNode nodes' x state by) (sym (g.fresh m k l)) g.now;
    names = g.named m k l;
  }

  pub falls : (m : ℕ) → 0 < m → m < length nodes' → parent' m < m
  falls m p l = elim (cases_lt m (length nodes)) as (λ o. parent' m < m) [
    | inl k ↦ omega (arith, g.same m k, tree.lower m p k)
    | inr k ↦ omega (arith, g.fresh m k l, k, inside)
  ]

  -- an expanded node is the one that grows, or as before
  pub expanded_was : (m : ℕ) (s : AbstractState) (b : By) → IsNode nodes' m s b → b ≢ Todo → (m ≡ n) ⊎ ((m ≢ n) × IsNode nodes m s b)
  expanded_was m s b is d = elim (cases_eq m n) as (λ o. (m ≡ n) ⊎ ((m ≢ n) × IsNode nodes m s b)) [
    | inl e ↦ inl e
    | inr e ↦ elim (cases_lt m (length nodes)) as (λ o. (m ≡ n) ⊎ ((m ≢ n) × IsNode nodes m s b)) [
      | inl k ↦ inr (e, g.back m s b e k is)
      | inr k ↦ absurd (d (g.fresh_open m s b k is))
    ]
  ]

  pub expand_not_todo : (list : List ℕ) → Expand list ≢ Todo
  expand_not_todo list e = false≢true (sym (ap is_expanded e))

  pub at_growing : (m : ℕ) (s : AbstractState) (b : By) → IsNode nodes' m s b → m ≡ n → by ≡ b
  at_growing m s b is e = same_by nodes' n state s by b g.now (subst (λ (x : ℕ). IsNode nodes' x s b) e is)

  children : (m place child : ℕ) (s : AbstractState) (list : List ℕ) → IsNode nodes' m s (Expand list)
      → slice_get list place ≡ Some child → (0 < child) × (child < length nodes') × (parent' child ≡ m)
  children m place child s list is at = elim (expanded_was m s (Expand list) is (expand_not_todo list)) as
      (λ o. (0 < child) × (child < length nodes') × (parent' child ≡ m)) [
        | inl e ↦
            let new = g.names list place child (at_growing m s (Expand list) is e) at in
            (omega (arith, new.0, inside), new.1, g.fresh child new.0 new.1 ∙ sym e)
        | inr old ↦
            let was = tree.children m place child s list old.1 at in
            (was.0, omega (arith, was.1, g.more), g.same child was.1 ∙ was.2)
      ]

  in_order : (m i j a b : ℕ) (s : AbstractState) (list : List ℕ) → IsNode nodes' m s (Expand list) → i < j
      → slice_get list i ≡ Some a → slice_get list j ≡ Some b → a < b
  in_order m i j a b s list is l ha hb = elim (expanded_was m s (Expand list) is (expand_not_todo list)) as (λ o. a < b) [
    | inl e ↦ g.in_order list i j a b (at_growing m s (Expand list) is e) l ha hb
    | inr old ↦ tree.in_order m i j a b s list old.1 l ha hb
  ]

  pub grown_tree : IsTree nodes' parent'
  grown_tree = record {
    comes = λ m p l. comes m p l (cases_lt m (length nodes));
    lower = falls;
    children = children;
    in_order = in_order;
  }

  -- ---- above

  pub above_kept : (u k v : ℕ) → v < length nodes → IsAboveBy parent u k v → IsAboveBy parent' u k v
  above_kept u zero v l h = (h.0, g.same v l ∙ h.1)
  above_kept u (suc k) v l h = (
    h.0,
    subst (λ (x : ℕ). IsAboveBy parent' u k x) (sym (g.same v l))
        (above_kept u k (parent v) (omega (arith, tree.lower v h.0 l, l)) h.1),
  )

  pub above_was : (u k v : ℕ) → v < length nodes → IsAboveBy parent' u k v → IsAboveBy parent u k v
  above_was u zero v l h = (h.0, sym (g.same v l) ∙ h.1)
  above_was u (suc k) v l h =
      (h.0, above_was u k (parent v) (omega (arith, tree.lower v h.0 l, l)) (subst (λ (x : ℕ). IsAboveBy parent' u k x) (g.same v l) h.1))

  at_or_kept : (u v : ℕ) → v < length nodes → IsAtOrAbove parent u v → IsAtOrAbove parent' u v
  at_or_kept u v l (inl e) = inl e
  at_or_kept u v l (inr h) = inr (h.0, above_kept u h.0 v l h.1)

  at_or_was : (u v : ℕ) → v < length nodes → IsAtOrAbove parent' u v → IsAtOrAbove parent u v
  at_or_was u v l (inl e) = inl e
  at_or_was u v l (inr h) = inr (h.0, above_was u h.0 v l h.1)

  at_or_less : (u v : ℕ) → v < length nodes → IsAtOrAbove parent' u v → u < length nodes
  at_or_less u v l (inl e) = subst (λ (x : ℕ). x < length nodes) (sym e) l
  at_or_less u v l (inr h) = omega (arith, above_less tree.lower h.0 u v l (above_was u h.0 v l h.1), l)

  -- ---- before

  -- a child's later sibling is there still; the nodes under the two may be others
  later_moved : (u v x y : ℕ) → (h : IsUnderLater nodes parent u v) → IsAtOrAbove parent' h.first y → IsAtOrAbove parent' h.second x
      → IsUnderLater nodes' parent' x y
  later_moved u v x y h first second = record {
    at = h.at;
    state = h.state;
    named = h.named;
    is = g.kept h.at h.state (Expand h.named) (other_than h.at h.state (Expand h.named) h.is (expand_not_todo h.named)) h.is;
    earlier = h.earlier;
    later = h.later;
    order = h.order;
    first = h.first;
    second = h.second;
    is_first = h.is_first;
    is_second = h.is_second;
    under_first = first;
    under_second = second;
  }

  later_kept : (u v : ℕ) → u < length nodes → v < length nodes → IsUnderLater nodes parent u v → IsUnderLater nodes' parent' u v
  later_kept u v l m h = later_moved u v u v h (at_or_kept h.first v m h.under_first) (at_or_kept h.second u l h.under_second)

  later_was : (u v : ℕ) → u < length nodes → v < length nodes → IsUnderLater nodes' parent' u v → IsUnderLater nodes parent u v
  later_was u v l m h = elim (expanded_was h.at h.state (Expand h.named) h.is (expand_not_todo h.named)) as
      (λ o. IsUnderLater nodes parent u v) [
        | inl e ↦
            let new = g.names h.named h.earlier h.first (at_growing h.at h.state (Expand h.named) h.is e) h.is_first in
            absurd (omega (arith, new.0, at_or_less h.first v m h.under_first))
        | inr old ↦ record {
          at = h.at;
          state = h.state;
          named = h.named;
          is = old.1;
          earlier = h.earlier;
          later = h.later;
          order = h.order;
          first = h.first;
          second = h.second;
          is_first = h.is_first;
          is_second = h.is_second;
          under_first = at_or_was h.first v m h.under_first;
          under_second = at_or_was h.second u l h.under_second;
        }
      ]

  pub before_kept : (u v : ℕ) → u < length nodes → v < length nodes → IsBefore nodes parent u v → IsBefore nodes' parent' u v
  before_kept u v l m (inl h) = inl (h.0, above_kept u h.0 v m h.1)
  before_kept u v l m (inr h) = inr (later_kept u v l m h)

  pub before_was : (u v : ℕ) → u < length nodes → v < length nodes → IsBefore nodes' parent' u v → IsBefore nodes parent u v
  before_was u v l m (inl h) = inl (h.0, above_was u h.0 v m h.1)
  before_was u v l m (inr h) = inr (later_was u v l m h)

  -- ---- the new nodes in the order

  -- the node that grows is before its children
  pub growing_before : (c : ℕ) → length nodes ≤ c → c < length nodes' → IsBefore nodes' parent' n c
  growing_before c l m = inl (zero, (omega (arith, l, inside), g.fresh c l m))

  under_fresh : (u c : ℕ) → length nodes ≤ c → c < length nodes' → IsAtOrAbove parent u n → IsAtOrAbove parent' u c
  under_fresh u c l m h = inr (go (at_or_kept u n inside h))
    where
      go : IsAtOrAbove parent' u n → IsAbove parent' u c
      go (inl e) = (zero, (omega (arith, l, inside), g.fresh c l m ∙ sym e))
      go (inr k) = (suc k.0, (omega (arith, l, inside), subst (λ (x : ℕ). IsAboveBy parent' u k.0 x) (sym (g.fresh c l m)) k.1))

  -- what is before it is before them
  pub before_fresh : (u c : ℕ) → u < length nodes → length nodes ≤ c → c < length nodes' → IsBefore nodes parent u n
      → IsBefore nodes' parent' u c
  before_fresh u c k l m (inl h) = elim (under_fresh u c l m (inr h)) as (λ o. IsBefore nodes' parent' u c) [
    | inl e ↦ absurd (omega (arith, e, k, l))
    | inr up ↦ inl up
  ]
  before_fresh u c k l m (inr h) = inr
      (later_moved u n u c h (under_fresh h.first c l m h.under_first) (at_or_kept h.second u k h.under_second))

  -- they are before what it is before
  pub fresh_before : (c v : ℕ) → v < length nodes → length nodes ≤ c → c < length nodes' → IsBefore nodes parent n v
      → IsBefore nodes' parent' c v
  fresh_before c v k l m (inl h) = absurd (under_none nodes parent tree n state g.was h.0 v k h.1)
  fresh_before c v k l m (inr h) = inr
      (later_moved n v c v h (at_or_kept h.first v k h.under_first) (under_fresh h.second c l m h.under_second))

  -- of two, the later one is
  pub fresh_order : (list : List ℕ) (i j a b : ℕ) → by ≡ Expand list → i < j → slice_get list i ≡ Some a → slice_get list j ≡ Some b
      → IsBefore nodes' parent' b a
  fresh_order list i j a b e l ha hb = inr (record {
    at = n;
    state = state;
    named = list;
    is = subst (λ (x : By). IsNode nodes' n state x) e g.now;
    earlier = i;
    later = j;
    order = l;
    first = a;
    second = b;
    is_first = ha;
    is_second = hb;
    under_first = inl refl;
    under_second = inl refl;
  })
