-- What holds between growths holds after one.
use Rattle.std.proofs.Common.{◌≡◌, ◌≢◌, inl, inr, ℕ, zero, suc, ◌+◌, ◌-◌, ◌<◌, ◌≤◌, List, [], ◌∷◌, ◌++◌, length, map, replicate}
use Rattle.std.proofs.Common.{Some, subst, ap, arith, refl, ◌∙◌, sym, length-append}
use Rattle.std.specs.Prelude.{slice_get}
use Rattle.std.specs.List.{AllByRecursion}
use Rattle.std.proofs.lemmas.Bool.{cases_eq, cases_lt}
use Rattle.std.proofs.lemmas.List.{length-replicate}
use Rattle.std.proofs.lemmas.Option.{slice_get_within, same_Some}
use Rattle.list_views.proofs.Items.{get_behind}
use Rattle.abs_cells.specs.AbstractStates.{AbstractState}
use Rattle.term_graph.specs.declared.nodes.By.{By}
use Rattle.term_graph.specs.declared.nodes.By.TheVariants.{Expand, Todo}
use Rattle.term_graph.specs.Graphs.{GraphNode, left_by}
use Rattle.graph_build.specs.Rules.{GrowthRules}
use Rattle.graph_build.specs.Disciplined.{IsNode, IsBefore, IsTree, IsLeftAsDue, IsDueAt, Due, IsStateAt}
use Rattle.list_views.specs.Lists.{Has}
use Rattle.graph_build.specs.inner.Working.{parent_in, todo, AreInOrder, IsSound}
use Rattle.graph_build.proofs.Ancestry.{one_is_before}
use Rattle.graph_build.proofs.Extending.{Extends, same_by, same_state, before_kept, fresh_before, fresh_order}
use Rattle.graph_build.proofs.Keeping.{grown_disciplined, due_kept, state_kept}
use Rattle.graph_build.proofs.Nodes.{Fresh, extends, count, left_elsewhere}
use Rattle.graph_build.proofs.Growths.{pushed, pushed_has, has_pushed_old, has_pushed_new, pushed_order}

-- ---- the new nodes

todo_good : (good : AbstractState → Type 0) (states : List AbstractState) (i : ℕ) (s : AbstractState) (b : By)
    → AllByRecursion good states → IsNode (map todo states) i s b → good s
todo_good good [] i s b all h = absurd (omega (arith, slice_get_within {A = GraphNode} [] i (record { state = s; by = b }) h))
todo_good good (x ∷ xs) zero s b all h = subst good
    (ap (λ (node : GraphNode). node.state) (same_Some (todo x) (record { state = s; by = b }) h)) all.0
todo_good good (x ∷ xs) (suc i) s b all h = todo_good good xs i s b all.1 h

todo_there : (states : List AbstractState) (i : ℕ) → i < length states → (s : AbstractState) × IsNode (map todo states) i s Todo
todo_there [] i l = absurd (omega (arith, l))
todo_there (x ∷ xs) zero l = (x, refl)
todo_there (x ∷ xs) (suc i) l = todo_there xs i (omega (arith, l))

module _ (rules : GrowthRules) (good : AbstractState → Type 0) (root : AbstractState) (nodes : List GraphNode) (parents : List ℕ)
    (n : ℕ) (rest : List ℕ) (sound : IsSound rules good root (record { nodes = nodes; parents = parents; waiting = n ∷ rest }))
    (state : AbstractState) (was : IsNode nodes n state Todo) (states : List AbstractState) (by : By)
    (f : Fresh (length nodes) (length states) by) where
  abbrev pub nodes' : List GraphNode
  nodes' = left_by (nodes ++ map todo states) n by

  abbrev pub parents' : List ℕ
  parents' = parents ++ replicate (length states) n

  tree : IsTree nodes (parent_in parents)
  tree = sound.disciplined.tree

  g : Extends nodes nodes' (parent_in parents) (parent_in parents') n state by
  g = extends nodes parents n state by states was sound.parents f

  long : length nodes' ≡ length nodes + length states
  long = count nodes parents n state by states was sound.parents f

  low : n < length nodes
  low = slice_get_within nodes n (record { state = state; by = Todo }) was

  first : (m : ℕ) (s : AbstractState) → IsNode nodes m s Todo → m ≢ n → IsBefore nodes (parent_in parents) n m
  first m s is other = elim (sound.all m s is) as (λ o. IsBefore nodes (parent_in parents) n m) [
    | inl e ↦ absurd (other (sym e))
    | inr h ↦ sound.order.0 m h
  ]

  not_again : Has rest n → ⊥
  not_again h = let b = sound.order.0 n h in one_is_before nodes (parent_in parents) tree n n low low b b

  rest_within : (m : ℕ) → Has rest m → m < length nodes
  rest_within m h = let w = sound.waiting m (inr h) in slice_get_within nodes m (record { state = w.0; by = Todo }) w.1

  -- a new node, by its place
  new_node : (m : ℕ) → length nodes ≤ m → slice_get nodes' m ≡ slice_get (map todo states) (m - length nodes)
  new_node m l =
      let other : m ≢ n = λ e. absurd (omega (arith, e, l, low)) in
      let place : length nodes + (m - length nodes) ≡ m = omega (arith, l) in
      left_elsewhere (nodes ++ map todo states) n m by other
      ∙ ap (λ (k : ℕ). slice_get (nodes ++ map todo states) k) (sym place)
      ∙ get_behind nodes (map todo states) (m - length nodes)

  are_good : AllByRecursion good states → (m : ℕ) (s : AbstractState) (b : By) → IsNode nodes' m s b → good s
  are_good new m s b is = elim (cases_eq m n) as (λ o. good s) [
    | inl e ↦ subst good (same_state nodes' n state s by b g.now (subst (λ (x : ℕ). IsNode nodes' x s b) e is))
        (sound.are_good n state Todo was)
    | inr e ↦ elim (cases_lt m (length nodes)) as (λ o. good s) [
      | inl l ↦ sound.are_good m s b (g.back m s b e l is)
      | inr l ↦ todo_good good states (m - length nodes) s b new (sym (new_node m l) ∙ is)
    ]
  ]

  waiting : (m : ℕ) → Has (pushed (length nodes) (length states) rest) m → (s : AbstractState) × IsNode nodes' m s Todo
  waiting m h = elim (pushed_has (length nodes) (length states) rest m h) as (λ o. (s : AbstractState) × IsNode nodes' m s Todo) [
    | inl r ↦
        let there = todo_there states (m - length nodes) (omega (arith, r.0, r.1)) in
        (there.0, new_node m r.0 ∙ there.1)
    | inr old ↦
        let w = sound.waiting m (inr old) in
        (w.0, g.kept m w.0 Todo (λ e. not_again (subst (λ (x : ℕ). Has rest x) e old)) w.1)
  ]

  all : (m : ℕ) (s : AbstractState) → IsNode nodes' m s Todo → Has (pushed (length nodes) (length states) rest) m
  all m s is = elim (cases_eq m n) as (λ o. Has (pushed (length nodes) (length states) rest) m) [
    | inl e ↦ absurd (g.done (same_by nodes' n state s by Todo g.now (subst (λ (x : ℕ). IsNode nodes' x s Todo) e is)))
    | inr e ↦ elim (cases_lt m (length nodes)) as (λ o. Has (pushed (length nodes) (length states) rest) m) [
      | inl l ↦ has_pushed_old (length nodes) (length states) rest m (in_rest (sound.all m s (g.back m s Todo e l is)))
      | inr l ↦ has_pushed_new (length nodes) (length states) rest m l
          (omega (arith, slice_get_within nodes' m (record { state = s; by = Todo }) is, long))
    ]
  ]
    where
      in_rest : Has (n ∷ rest) m → Has rest m
      in_rest (inl same) = absurd
          (g.done (same_by nodes' n state s by Todo g.now (subst (λ (x : ℕ). IsNode nodes' x s Todo) (sym same) is)))
      in_rest (inr h) = h

  order_kept : (ms : List ℕ) → ((m : ℕ) → Has ms m → m < length nodes) → AreInOrder nodes (parent_in parents) ms
      → AreInOrder nodes' (parent_in parents') ms
  order_kept [] within h = tt
  order_kept (m ∷ ms) within h = (
    λ k has. before_kept nodes nodes' (parent_in parents) (parent_in parents') n state by tree g m k (within m (inl refl))
        (within k (inr has)) (h.0 k has),
    order_kept ms (λ k has. within k (inr has)) h.1,
  )

  pub sound_after : AllByRecursion good states
      → ((a b : ℕ) → length nodes ≤ a → a < b → b < length nodes + length states → IsBefore nodes' (parent_in parents') b a)
      → IsLeftAsDue rules nodes' (parent_in parents') n state by
      → IsSound rules good root (record { nodes = nodes'; parents = parents'; waiting = pushed (length nodes) (length states) rest })
  sound_after new each left = record {
    disciplined = grown_disciplined rules nodes nodes' (parent_in parents) (parent_in parents') n state by tree g root
        sound.disciplined first left;
    parents = length-append parents (replicate (length states) n)
        ∙ ap (λ (k : ℕ). length parents + k) (length-replicate {A = ℕ} (length states) n)
        ∙ ap (λ (k : ℕ). k + length states) sound.parents ∙ sym long;
    are_good = are_good new;
    waiting = waiting;
    all = all;
    order = pushed_order nodes' (parent_in parents') (length nodes) (length states) rest each
        (λ a m l r has. fresh_before nodes nodes' (parent_in parents) (parent_in parents') n state by tree g a m (rest_within m has)
        l (omega (arith, r, long)) (sound.order.0 m has))
        (order_kept rest rest_within sound.order.1);
  }

  pub due_after : (due : Due) → IsDueAt rules nodes (parent_in parents) n state due → IsDueAt rules nodes' (parent_in parents') n state due
  due_after due h = due_kept rules nodes nodes' (parent_in parents) (parent_in parents') n state by tree g n state due low
      (λ b. one_is_before nodes (parent_in parents) tree n n low low b b) h

  pub state_after : (s : AbstractState) (m : ℕ) → IsStateAt nodes s m → IsStateAt nodes' s m
  state_after s m h = state_kept rules nodes nodes' (parent_in parents) (parent_in parents') n state by tree g s m h

  pub new_state : (i : ℕ) (s : AbstractState) → IsNode (map todo states) i s Todo → IsNode nodes' (length nodes + i) s Todo
  new_state i s h =
      let place : (length nodes + i) - length nodes ≡ i = omega arith in
      new_node (length nodes + i) (omega arith) ∙ ap (λ (k : ℕ). slice_get (map todo states) k) place ∙ h

  pub comes_after : (m : ℕ) → length nodes ≤ m → m < length nodes + length states → parent_in parents' m ≡ n
  comes_after m l r = g.fresh m l (omega (arith, r, long))

  pub order_after : (list : List ℕ) (i j a b : ℕ) → by ≡ Expand list → i < j → slice_get list i ≡ Some a → slice_get list j ≡ Some b
      → IsBefore nodes' (parent_in parents') b a
  order_after = fresh_order nodes nodes' (parent_in parents) (parent_in parents') n state by tree g
