-- A graph of one open node is disciplined.
use Rattle.std.proofs.Common.{◌≡◌, inl, inr, ℕ, zero, suc, List, [], ◌∷◌, subst, arith, refl, sym}
use Rattle.std.proofs.lemmas.Option.{slice_get_within}
use Rattle.abs_cells.specs.AbstractStates.{AbstractState}
use Rattle.term_graph.specs.declared.nodes.By.{By}
use Rattle.term_graph.specs.declared.nodes.By.TheVariants.{Expand, Todo}
use Rattle.term_graph.specs.Graphs.{GraphNode}
use Rattle.graph_build.specs.Rules.{GrowthRules}
use Rattle.graph_build.specs.Disciplined.{IsNode, IsTree, IsLeftAsDue, IsDisciplinedBy}
use Rattle.list_views.specs.Lists.{Has}
use Rattle.graph_build.specs.inner.Working.{parent_in, todo, of_root, IsSound}
use Rattle.graph_build.proofs.Extending.{same_by, same_state, todo_not_expanded}

module _ (rules : GrowthRules) (good : AbstractState → Type 0) (root : AbstractState) where
  abbrev nodes : List GraphNode
  nodes = todo root ∷ []

  number_is : (n : ℕ) (s : AbstractState) (b : By) → IsNode nodes n s b → n ≡ 0
  number_is zero s b h = refl
  number_is (suc n) s b h = absurd (omega (arith, slice_get_within nodes (suc n) (record { state = s; by = b }) h))

  by_is : (n : ℕ) (s : AbstractState) (b : By) → IsNode nodes n s b → b ≡ Todo
  by_is n s b h = same_by nodes 0 s root b Todo (subst (λ (k : ℕ). IsNode nodes k s b) (number_is n s b h) h) refl

  state_is : (n : ℕ) (s : AbstractState) (b : By) → IsNode nodes n s b → s ≡ root
  state_is n s b h = same_state nodes 0 s root b Todo (subst (λ (k : ℕ). IsNode nodes k s b) (number_is n s b h) h) refl

  tree : IsTree nodes (parent_in (0 ∷ []))
  tree = record {
    comes = λ n p l. absurd (omega (arith, p, l));
    lower = λ n p l. absurd (omega (arith, p, l));
    children = λ n place child s named is at. absurd (todo_not_expanded (Expand named) (by_is n s (Expand named) is) refl);
    in_order = λ n i j a b s named is l ha hb. absurd (todo_not_expanded (Expand named) (by_is n s (Expand named) is) refl);
  }

  disciplined : IsDisciplinedBy rules root nodes (parent_in (0 ∷ []))
  disciplined = record {
    rooted = record { by = Todo; is = refl };
    tree = tree;
    rise = λ u v a b h pa la ea pb lb eb. absurd (omega (arith, pa, la));
    each = λ n s b is. subst (λ (x : By). IsLeftAsDue rules nodes (parent_in (0 ∷ [])) n s x) (sym (by_is n s b is)) tt;
    later = λ n m s o b is known done. absurd (done (by_is m o b known));
  }

  there : (n : ℕ) → Has (0 ∷ []) n → (s : AbstractState) × IsNode nodes n s Todo
  there n (inl e) = (root, subst (λ (k : ℕ). IsNode nodes k root Todo) e refl)
  there n (inr h) = absurd h

  pub root_is_sound : good root → IsSound rules good root (of_root root)
  root_is_sound g = record {
    disciplined = disciplined;
    parents = refl;
    are_good = λ n s b is. subst good (sym (state_is n s b is)) g;
    waiting = there;
    all = λ n s is. inl (sym (number_is n s Todo is));
    order = ((λ m h. absurd h), tt);
  }
