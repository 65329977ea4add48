-- A disciplined graph stays one where its first open node grows as is due.
use Rattle.std.proofs.Common.{◌≡◌, ◌≢◌, ◌⊎◌, inl, inr, ℕ, ◌<◌, ◌≤◌, true, List, [], ◌∷◌, length, subst, ap, arith, refl, ◌∙◌, sym}
use Rattle.std.specs.List.{AllZip}
use Rattle.std.proofs.lemmas.Bool.{false≢true, cases_eq, cases_lt}
use Rattle.std.proofs.lemmas.Option.{slice_get_within}
use Rattle.abs_cells.specs.AbstractStates.{AbstractState}
use Rattle.term_graph.specs.declared.nodes.By.{By}
use Rattle.term_graph.specs.declared.nodes.By.TheVariants.{Expand, Instance, End, Todo}
use Rattle.term_graph.specs.Graphs.{GraphNode}
use Rattle.graph_build.specs.Rules.{GrowthRules}
use Rattle.graph_build.specs.Disciplined.{IsNode, IsTree, IsAtOrAbove, IsBefore, is_expanded, IsWidening, IsEarlier, IsMatch}
use Rattle.graph_build.specs.Disciplined.{IsAlikeAbove, IsSeeking, IsDueAt, Due, IsStateAt, IsLeftAsDue, IsDisciplinedBy}
use Rattle.graph_build.specs.Disciplined.Due.{growing, matching, widening}
use Rattle.graph_build.proofs.Ancestry.{one_is_before}
use Rattle.graph_build.proofs.Extending.{Extends, same_by, same_state, names_no_todo, todo_not_expanded, childless}
use Rattle.graph_build.proofs.Extending as extending

end_not_todo : End ≢ Todo
end_not_todo e = false≢true (sym (ap is_expanded e))

instance_not_todo : (target : ℕ) (entries : List (ℕ × ℕ)) → Instance target entries ≢ Todo
instance_not_todo target entries e = names_no_todo (Instance target entries) target refl e

module _ (rules : GrowthRules) (nodes nodes' : List GraphNode) (parent parent' : ℕ → ℕ) (n : ℕ) (state : AbstractState) (by : By)
    (tree : IsTree nodes parent) (g : Extends nodes nodes' parent parent' n state by) where
  inside : n < length nodes
  inside = extending.inside nodes nodes' parent parent' n state by tree g

  expanded_was : (m : ℕ) (s : AbstractState) (b : By) → IsNode nodes' m s b → b ≢ Todo → (m ≡ n) ⊎ ((m ≢ n) × IsNode nodes m s b)
  expanded_was = extending.expanded_was nodes nodes' parent parent' n state by tree g

  before_kept : (u v : ℕ) → u < length nodes → v < length nodes → IsBefore nodes parent u v → IsBefore nodes' parent' u v
  before_kept = extending.before_kept nodes nodes' parent parent' n state by tree g

  before_was : (u v : ℕ) → u < length nodes → v < length nodes → IsBefore nodes' parent' u v → IsBefore nodes parent u v
  before_was = extending.before_was nodes nodes' parent parent' n state by tree g

  grown_tree : IsTree nodes' parent'
  grown_tree = extending.grown_tree nodes nodes' parent parent' n state by tree g

  other_than : (m : ℕ) (s : AbstractState) (b : By) → IsNode nodes m s b → b ≢ Todo → m ≢ n
  other_than = extending.other_than nodes nodes' parent parent' n state by tree g

  node_within : (m : ℕ) (s : AbstractState) (b : By) → IsNode nodes m s b → m < length nodes
  node_within m s b is = slice_get_within nodes m (record { state = s; by = b }) is

  -- ---- what is found from a node that the growing one isn't before

  earlier_was : (m : ℕ) (s : AbstractState) (u : ℕ) (other : AbstractState) → m < length nodes → (IsBefore nodes parent n m → ⊥)
      → IsEarlier nodes' parent' m s u other → IsEarlier nodes parent m s u other
  earlier_was m s u other l none h = elim (expanded_was u other h.by h.is (λ e. todo_not_expanded h.by e h.expanded)) as
      (λ o. IsEarlier nodes parent m s u other) [
        | inl e ↦ absurd (none (before_was n m inside l (subst (λ (x : ℕ). IsBefore nodes' parent' x m) e h.before)))
        | inr old ↦ record {
          by = h.by;
          is = old.1;
          expanded = h.expanded;
          before = before_was u m (node_within u other h.by old.1) l h.before;
          positions = h.positions;
        }
      ]

  earlier_kept : (m : ℕ) (s : AbstractState) (u : ℕ) (other : AbstractState) → m < length nodes → IsEarlier nodes parent m s u other
      → IsEarlier nodes' parent' m s u other
  earlier_kept m s u other l h = record {
    by = h.by;
    is = g.kept u other h.by (other_than u other h.by h.is (λ e. todo_not_expanded h.by e h.expanded)) h.is;
    expanded = h.expanded;
    before = before_kept u m (node_within u other h.by h.is) l h.before;
    positions = h.positions;
  }

  match_was : (m : ℕ) (s : AbstractState) (u : ℕ) → m < length nodes → (IsBefore nodes parent n m → ⊥)
      → IsMatch rules nodes' parent' m s u → IsMatch rules nodes parent m s u
  match_was m s u l none h = record {
    other = h.other;
    earlier = earlier_was m s u h.other l none h.earlier;
    entries = h.entries;
    instance = h.instance;
  }

  match_kept : (m : ℕ) (s : AbstractState) (u : ℕ) → m < length nodes → IsMatch rules nodes parent m s u
      → IsMatch rules nodes' parent' m s u
  match_kept m s u l h = record {
    other = h.other;
    earlier = earlier_kept m s u h.other l h.earlier;
    entries = h.entries;
    instance =
        h.instance;
  }

  alike_was : (m : ℕ) (s : AbstractState) (u : ℕ) → m < length nodes → (IsBefore nodes parent n m → ⊥)
      → IsAlikeAbove nodes' parent' m s u → IsAlikeAbove nodes parent m s u
  alike_was m s u l none h = record {
    other = h.other;
    earlier = earlier_was m s u h.other l none h.earlier;
    above = (h.above.0, extending.above_was nodes nodes' parent parent' n state by tree g u h.above.0 m l h.above.1);
  }

  alike_kept : (m : ℕ) (s : AbstractState) (u : ℕ) → m < length nodes → IsAlikeAbove nodes parent m s u → IsAlikeAbove nodes' parent' m s u
  alike_kept m s u l h = record {
    other = h.other;
    earlier = earlier_kept m s u h.other l h.earlier;
    above = (h.above.0, extending.above_kept nodes nodes' parent parent' n state by tree g u h.above.0 m l h.above.1);
  }

  widening_was : (m : ℕ) → m < length nodes → IsWidening nodes' parent' m → IsWidening nodes parent m
  widening_was m l h =
      let is : IsNode nodes' (parent m) h.state (Instance m h.entries) = subst
      (λ (x : ℕ). IsNode nodes' x h.state (Instance m h.entries)) (g.same m l) h.is in
      record {
        positive = h.positive;
        state = h.state;
        entries = h.entries;
        is = g.back (parent m) h.state (Instance m h.entries) (λ e. childless nodes parent tree n state g.was m h.positive l e)
            (omega (arith, tree.lower m h.positive l, l)) is;
      }

  widening_kept : (m : ℕ) → m < length nodes → IsWidening nodes parent m → IsWidening nodes' parent' m
  widening_kept m l h = record {
    positive = h.positive;
    state = h.state;
    entries = h.entries;
    is = subst (λ (x : ℕ). IsNode nodes' x h.state (Instance m h.entries)) (sym (g.same m l))
        (g.kept (parent m) h.state (Instance m h.entries)
        (other_than (parent m) h.state (Instance m h.entries) h.is (instance_not_todo m h.entries)) h.is);
  }

  seeking_kept : (m : ℕ) (s : AbstractState) → m < length nodes → IsSeeking rules nodes parent m s → IsSeeking rules nodes' parent' m s
  seeking_kept m s l h = record { head = h.head; no_widening = λ w. h.no_widening (widening_was m l w) }

  -- ---- what is due

  pub due_kept : (m : ℕ) (s : AbstractState) (due : Due) → m < length nodes → (IsBefore nodes parent n m → ⊥)
      → IsDueAt rules nodes parent m s due → IsDueAt rules nodes' parent' m s due
  due_kept m s growing l none (inl h) = inl h
  due_kept m s growing l none (inr (inl w)) = inr (inl (widening_kept m l w))
  due_kept m s growing l none (inr (inr a)) = inr (inr (record {
    unmatched = λ u h. a.unmatched u (match_was m s u l none h);
    none_above = λ u h. a.none_above u (alike_was m s u l none h);
  }))
  due_kept m s (matching u) l none h = record {
    seeks = seeking_kept m s l h.seeks;
    met = match_kept m s u l h.met;
    least = λ other k. h.least other (match_was m s other l none k);
  }
  due_kept m s (widening u) l none h = record {
    seeks = seeking_kept m s l h.seeks;
    unmatched = λ v k. h.unmatched v (match_was m s v l none k);
    alike = alike_kept m s u l h.alike;
    nearest = λ v k. near (h.nearest v (alike_was m s v l none k));
  }
    where
      near : {v : ℕ} → IsAtOrAbove parent v u → IsAtOrAbove parent' v u
      near (inl e) = inl e
      near {v} (inr k) = inr (k.0, extending.above_kept nodes nodes' parent parent' n state by tree g v k.0 u under k.1)
        where
          under : u < length nodes
          under = node_within u h.alike.other h.alike.earlier.by h.alike.earlier.is

  -- ---- how nodes are left

  pub state_kept : (s : AbstractState) (m : ℕ) → IsStateAt nodes s m → IsStateAt nodes' s m
  state_kept s m h = elim (cases_eq m n) as (λ o. IsStateAt nodes' s m) [
    | inl e ↦
        let is : IsNode nodes n s h.by = subst (λ (x : ℕ). IsNode nodes x s h.by) e h.is in
        let same : state ≡ s = same_state nodes n state s Todo h.by g.was is in
        record {
          by = by;
          is = subst (λ (x : ℕ). IsNode nodes' x s by) (sym e)
              (subst (λ (x : AbstractState). IsNode nodes' n x by) same g.now);
        }
    | inr e ↦ record { by = h.by; is = g.kept m s h.by e h.is }
  ]

  pub states_kept : (states : List AbstractState) (named : List ℕ) → AllZip (IsStateAt nodes) states named
      → AllZip (IsStateAt nodes') states named
  states_kept [] [] h = tt
  states_kept [] (m ∷ ms) h = absurd h
  states_kept (s ∷ ss) [] h = absurd h
  states_kept (s ∷ ss) (m ∷ ms) h = (state_kept s m h.0, states_kept ss ms h.1)

  left_kept : (m : ℕ) (s : AbstractState) (b : By) → m < length nodes → (IsBefore nodes parent n m → ⊥)
      → IsLeftAsDue rules nodes parent m s b → IsLeftAsDue rules nodes' parent' m s b
  left_kept m s (Expand named) l none h = (
    due_kept m s growing l none h.0,
    record {
      children = h.1.children;
      are = h.1.are;
      names = states_kept h.1.children named
          h.1.names;
    },
  )
  left_kept m s End l none h = (due_kept m s growing l none h.0, h.1)
  left_kept m s (Instance target entries) l none (inl h) = inl (record {
    due = due_kept m s (matching target) l none h.due;
    other = h.other;
    is = state_kept h.other target h.is;
    instance = h.instance;
  })
  left_kept m s (Instance target entries) l none (inr h) = inr (record {
    u = h.u;
    due = due_kept m s (widening h.u) l none h.due;
    above = h.above;
    is_above = state_kept h.above h.u h.is_above;
    wide = h.wide;
    is_wide = state_kept h.wide target h.is_wide;
    comes = (h.comes.0, g.same target (node_within target h.wide h.is_wide.by h.is_wide.is) ∙ h.comes.1);
    widened = h.widened;
    instance = h.instance;
  })
  left_kept m s Todo l none h = tt

  -- ---- the graph

  module _ (root : AbstractState) (d : IsDisciplinedBy rules root nodes parent) (first : (m : ℕ) (s : AbstractState)
      → IsNode nodes m s Todo → m ≢ n → IsBefore nodes parent n m) (left : IsLeftAsDue rules nodes' parent' n state by) where
    -- the growing node is before none that is known
    not_before : (m : ℕ) (s : AbstractState) (b : By) → IsNode nodes m s b → b ≢ Todo → IsBefore nodes parent n m → ⊥
    not_before m s b is done h = one_is_before nodes parent tree n m inside (node_within m s b is) h (d.later n m state s b g.was is done)

    before_none : (b : ℕ) → 0 < b → b < length nodes → IsBefore nodes parent n (parent b) → ⊥
    before_none b p l h =
        let c = tree.comes b p l in
        not_before (parent b) c.state c.by c.is (names_no_todo c.by b c.names) h

    rise : (u v a b : ℕ) → IsBefore nodes' parent' u v → 0 < a → a < length nodes' → parent' a ≡ u → 0 < b → b < length nodes'
        → parent' b ≡ v → (a < length nodes) ⊎ (length nodes ≤ a) → (b < length nodes) ⊎ (length nodes ≤ b) → a < b
    rise u v a b h pa la ea pb lb eb (inl ka) (inl kb) =
        let u_is : parent a ≡ u = sym (g.same a ka) ∙ ea in
        let v_is : parent b ≡ v = sym (g.same b kb) ∙ eb in
        let u_in : u < length nodes = omega (arith, u_is, tree.lower a pa ka, ka) in
        let v_in : v < length nodes = omega (arith, v_is, tree.lower b pb kb, kb) in
        d.rise u v a b (before_was u v u_in v_in h) pa ka u_is pb kb v_is
    rise u v a b h pa la ea pb lb eb (inl ka) (inr kb) = omega (arith, ka, kb)
    rise u v a b h pa la ea pb lb eb (inr ka) (inl kb) =
        let u_is : n ≡ u = sym (g.fresh a ka la) ∙ ea in
        let v_is : parent b ≡ v = sym (g.same b kb) ∙ eb in
        let moved : IsBefore nodes' parent' n (parent b) = subst (λ (x : ℕ). IsBefore nodes' parent' n x) (sym v_is)
        (subst (λ (x : ℕ). IsBefore nodes' parent' x v) (sym u_is) h) in
        absurd (before_none b pb kb (before_was n (parent b) inside (omega (arith, tree.lower b pb kb, kb)) moved))
    rise u v a b h pa la ea pb lb eb (inr ka) (inr kb) =
        let u_is : n ≡ u = sym (g.fresh a ka la) ∙ ea in
        let v_is : n ≡ v = sym (g.fresh b kb lb) ∙ eb in
        let moved : IsBefore nodes' parent' n n = subst (λ (x : ℕ). IsBefore nodes' parent' n x) (sym v_is)
        (subst (λ (x : ℕ). IsBefore nodes' parent' x v) (sym u_is) h) in
        let in_new : n < length nodes' = omega (arith, inside, g.more) in
        absurd (one_is_before nodes' parent' grown_tree n n in_new in_new moved moved)

    each_old : (m : ℕ) (s : AbstractState) (b : By) → IsNode nodes m s b → IsLeftAsDue rules nodes' parent' m s b
    each_old m s (Expand named) is = left_kept m s (Expand named) (node_within m s (Expand named) is)
        (not_before m s (Expand named) is (λ e. false≢true (sym (ap is_expanded e)))) (d.each m s (Expand named) is)
    each_old m s (Instance target entries) is = left_kept m s (Instance target entries)
        (node_within m s (Instance target entries) is)
        (not_before m s (Instance target entries) is (instance_not_todo target entries)) (d.each m s (Instance target entries) is)
    each_old m s End is = left_kept m s End (node_within m s End is) (not_before m s End is end_not_todo) (d.each m s End is)
    each_old m s Todo is = tt

    each : (m : ℕ) (s : AbstractState) (b : By) → IsNode nodes' m s b → IsLeftAsDue rules nodes' parent' m s b
    each m s b is = elim (cases_eq m n) as (λ o. IsLeftAsDue rules nodes' parent' m s b) [
      | inl e ↦
          let here : IsNode nodes' n s b = subst (λ (x : ℕ). IsNode nodes' x s b) e is in
          subst (λ (x : ℕ). IsLeftAsDue rules nodes' parent' x s b) (sym e)
          (subst (λ (x : By). IsLeftAsDue rules nodes' parent' n s x) (same_by nodes' n state s by b g.now here)
          (subst (λ (x : AbstractState). IsLeftAsDue rules nodes' parent' n x by) (same_state nodes' n state s by b g.now here) left))
      | inr e ↦ elim (cases_lt m (length nodes)) as (λ o. IsLeftAsDue rules nodes' parent' m s b) [
        | inl k ↦ each_old m s b (g.back m s b e k is)
        | inr k ↦ subst (λ (x : By). IsLeftAsDue rules nodes' parent' m s x) (sym (g.fresh_open m s b k is)) tt
      ]
    ]

    later_old : (k m : ℕ) (s other : AbstractState) (b : By) → IsNode nodes k s Todo → k ≢ n → IsNode nodes' m other b → b ≢ Todo
        → IsBefore nodes' parent' m k
    later_old k m s other b is e known done = elim (expanded_was m other b known done) as (λ o. IsBefore nodes' parent' m k) [
      | inl same ↦ subst (λ (x : ℕ). IsBefore nodes' parent' x k) (sym same)
          (before_kept n k inside (node_within k s Todo is) (first k s is e))
      | inr old ↦ before_kept m k (node_within m other b old.1) (node_within k s Todo is) (d.later k m s other b is old.1 done)
    ]

    later_fresh : (k m : ℕ) (other : AbstractState) (b : By) → length nodes ≤ k → k < length nodes' → IsNode nodes' m other b
        → b ≢ Todo → IsBefore nodes' parent' m k
    later_fresh k m other b l r known done = elim (expanded_was m other b known done) as (λ o. IsBefore nodes' parent' m k) [
      | inl same ↦ subst (λ (x : ℕ). IsBefore nodes' parent' x k) (sym same)
          (extending.growing_before nodes nodes' parent parent' n state by tree g k l r)
      | inr old ↦ extending.before_fresh nodes nodes' parent parent' n state by tree g m k (node_within m other b old.1) l r
          (d.later n m state other b g.was old.1 done)
    ]

    later : (k m : ℕ) (s other : AbstractState) (b : By) → IsNode nodes' k s Todo → IsNode nodes' m other b → b ≢ Todo
        → IsBefore nodes' parent' m k
    later k m s other b is known done = elim (cases_eq k n) as (λ o. IsBefore nodes' parent' m k) [
      | inl e ↦ absurd (g.done (same_by nodes' n state s by Todo g.now (subst (λ (x : ℕ). IsNode nodes' x s Todo) e is)))
      | inr e ↦ elim (cases_lt k (length nodes)) as (λ o. IsBefore nodes' parent' m k) [
        | inl l ↦ later_old k m s other b (g.back k s Todo e l is) e known done
        | inr l ↦ later_fresh k m other b l (slice_get_within nodes' k (record { state = s; by = Todo }) is) known done
      ]
    ]

    pub grown_disciplined : IsDisciplinedBy rules root nodes' parent'
    grown_disciplined = record {
      rooted = state_kept root 0 d.rooted;
      tree = grown_tree;
      rise = λ u v a b h pa la ea pb lb eb. rise u v a b h pa la ea pb lb eb (cases_lt a (length nodes)) (cases_lt b (length nodes));
      each = each;
      later = later;
    }
