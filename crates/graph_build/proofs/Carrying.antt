-- A growth that may be carried out keeps what holds between growths.
use Rattle.std.proofs.Common.{◌≡◌, inl, inr, ℕ, suc, ◌+◌, ◌-◌, ◌<◌, List, [], ◌∷◌, ◌++◌, length, map, replicate, Some, subst, ap}
use Rattle.std.proofs.Common.{arith, refl, ◌∙◌, sym}
use Rattle.std.specs.Prelude.{slice_get}
use Rattle.std.specs.List.{AllZip}
use Rattle.abs_cells.specs.AbstractStates.{AbstractState}
use Rattle.term_graph.specs.declared.nodes.By.{By}
use Rattle.term_graph.specs.declared.nodes.By.TheVariants.{Expand, Instance, End, Todo}
use Rattle.term_graph.specs.Graphs.{GraphNode, left_by}
use Rattle.graph_build.specs.Rules.{GrowthRules}
use Rattle.graph_build.specs.Disciplined.{IsNode, IsStateAt}
use Rattle.graph_build.specs.Disciplined.Due.{growing, matching, widening}
use Rattle.list_views.specs.Lists.{numbers_from}
use Rattle.graph_build.specs.inner.Working.{Work, todo, with_all, without, left, tail_of, grown, IsSound, MayGrow}
use Rattle.graph_build.specs.declared.growth.Plan.{Plan}
use Rattle.graph_build.specs.declared.growth.Plan.TheVariants as plan
use Rattle.graph_build.proofs.Growths.{pushed, with_all_is, number_is, fresh_end, fresh_joining, fresh_opening, fresh_expanding}
use Rattle.graph_build.proofs.Sounding.{nodes', sound_after, due_after, state_after, new_state, comes_after, order_after}

pub grown_as : (work : Work) (n : ℕ) (rest : List ℕ) (states : List AbstractState) (by : By) → work.waiting ≡ n ∷ rest
    → left (with_all (without work) states n) n by ≡ record {
      nodes = left_by (work.nodes ++ map todo states) n by;
      parents = work.parents ++ replicate (length states) n;
      waiting = pushed
          (length work.nodes) (length states) rest;
    }
grown_as work n rest states by e =
    ap (λ (w : Work). left w n by) (with_all_is (without work) states n)
    ∙ ap (λ (ws : List ℕ). record {
      nodes = left_by (work.nodes ++ map todo states) n by;
      parents = work.parents ++ replicate
          (length states) n;
      waiting = pushed (length work.nodes) (length states) (tail_of ws);
    }) e

named_states : (nodes : List GraphNode) (states : List AbstractState) (from : ℕ)
    → ((i : ℕ) (s : AbstractState) → IsNode (map todo states) i s Todo → IsNode nodes (from + i) s Todo)
    → AllZip (IsStateAt nodes) states (numbers_from from (length states))
named_states nodes [] from h = tt
named_states nodes (s ∷ ss) from h = (
  record { by = Todo; is = subst (λ (k : ℕ). IsNode nodes k s Todo) (omega arith) (h 0 s refl) },
  named_states nodes ss (suc from) (λ i x is. subst (λ (k : ℕ). IsNode nodes k x Todo) (omega arith) (h (suc i) x is)),
)

module _ (rules : GrowthRules) (good : AbstractState → Type 0) (root : AbstractState) (nodes : List GraphNode) (parents : List ℕ)
    (n : ℕ) (rest : List ℕ) (sound : IsSound rules good root (record { nodes = nodes; parents = parents; waiting = n ∷ rest }))
    (state : AbstractState) (was : IsNode nodes n state Todo) (limit : ℕ) where
  abbrev work : Work
  work = record { nodes = nodes; parents = parents; waiting = n ∷ rest }

  after_end : (P : Type 0) → MayGrow {P = P} rules good work n state limit plan.End
      → IsSound rules good root (grown {P = P} work n plan.End)
  after_end P may =
      let f = fresh_end (length nodes) in
      subst (λ (w : Work). IsSound rules good root w) (sym (grown_as work n rest [] End refl))
      (sound_after rules good root nodes parents n rest sound state was [] End f tt
      (λ a b l m r. absurd (omega (arith, l, m, r)))
      (due_after rules good root nodes parents n rest sound state was [] End f growing may.0, may.1))

  after_joining : (P : Type 0) (u : ℕ) (entries : List (ℕ × ℕ))
      → MayGrow {P = P} rules good work n state limit (plan.Join u entries)
      → IsSound rules good root (grown {P = P} work n (plan.Join u entries))
  after_joining P u entries may =
      let f = fresh_joining (length nodes) u entries in
      subst (λ (w : Work). IsSound rules good root w) (sym (grown_as work n rest [] (Instance u entries) refl))
      (sound_after rules good root nodes parents n rest sound state was [] (Instance u entries) f tt
      (λ a b l m r. absurd (omega (arith, l, m, r)))
      (inl (record {
        due = due_after rules good root nodes parents n rest sound state was [] (Instance u entries) f (matching u) may.due;
        other = may.other;
        is = state_after rules good root nodes parents n rest sound state was [] (Instance u entries) f may.other u may.is;
        instance = may.instance;
      })))

  after_opening : (P : Type 0) (wide : AbstractState) (entries : List (ℕ × ℕ))
      → MayGrow {P = P} rules good work n state limit (plan.Open wide entries)
      → IsSound rules good root (grown {P = P} work n (plan.Open wide entries))
  after_opening P wide entries may =
      let way = Instance (length nodes) entries in
      let f = fresh_opening (length nodes) entries in
      let m = may.0 in
      let here : IsNode (nodes' rules good root nodes parents n rest sound state was (wide ∷ []) way f) (length nodes) wide Todo =
      subst (λ (k : ℕ). IsNode (nodes' rules good root nodes parents n rest sound state was (wide ∷ []) way f) k wide Todo)
      (omega arith) (new_state rules good root nodes parents n rest sound state was (wide ∷ []) way f 0 wide refl) in
      subst (λ (w : Work). IsSound rules good root w) (sym (grown_as work n rest (wide ∷ []) way refl))
      (sound_after rules good root nodes parents n rest sound state was (wide ∷ []) way f (m.good_wide, tt)
      (λ a b l k r. absurd (omega (arith, l, k, r)))
      (inr (record {
        u = m.u;
        due = due_after rules good root nodes parents n rest sound state was (wide ∷ []) way f (widening m.u) m.due;
        above = m.above;
        is_above = state_after rules good root nodes parents n rest sound state was (wide ∷ []) way f m.above m.u m.is_above;
        wide = wide;
        is_wide = record { by = Todo; is = here };
        comes = (
          positive,
          comes_after rules good root nodes parents n rest sound state was (wide ∷ []) way f (length nodes)
              (omega arith) (omega arith),
        );
        widened = m.widened;
        instance = m.instance;
      })))
    where
      positive : 0 < length nodes
      positive = go nodes was
        where
          go : (ns : List GraphNode) → IsNode ns n state Todo → 0 < length ns
          go [] h = absurd (none_there h)
            where
              none_there : slice_get {X = GraphNode} [] n ≡ Some (record { state = state; by = Todo }) → ⊥
              none_there h = cc
          go (x ∷ xs) h = omega arith

  after_expanding : (P : Type 0) (states : List AbstractState)
      → MayGrow {P = P} rules good work n state limit (plan.Children states)
      → IsSound rules good root (grown {P = P} work n (plan.Children states))
  after_expanding P states may =
      let list = numbers_from (length nodes) (length states) in
      let f = fresh_expanding (length nodes) (length states) in
      subst (λ (w : Work). IsSound rules good root w) (sym (grown_as work n rest states (Expand list) refl))
      (sound_after rules good root nodes parents n rest sound state was states (Expand list) f may.1.0.1
      (λ a b l m r. order_after rules good root nodes parents n rest sound state was states (Expand list) f list (a - length nodes)
      (b - length nodes) a b refl (omega (arith, l, m))
      (number_is (length nodes) (length states) (a - length nodes) (omega (arith, l, m, r)) ∙ ap (λ (x : ℕ). Some x) (omega (arith, l)))
      (number_is (length nodes) (length states) (b - length nodes) (omega (arith, l, m, r))
      ∙ ap (λ (x : ℕ). Some x) (omega (arith, l, m)))) (
        due_after rules good root nodes parents n rest sound state was states (Expand list) f growing may.0,
        record {
          children = states;
          are = may.1.0.0;
          names = named_states (nodes' rules good root nodes parents n rest sound state was states (Expand list) f) states
              (length nodes) (new_state rules good root nodes parents n rest sound state was states (Expand list) f);
        },
      ))

  pub after_growth : {P : Type 0} (p : Plan P) → MayGrow rules good work n state limit p → IsSound rules good root (grown work n p)
  after_growth {P} plan.End may = after_end P may
  after_growth {P} (plan.Children states) may = after_expanding P states may
  after_growth {P} (plan.Join u entries) may = after_joining P u entries may
  after_growth {P} (plan.Open wide entries) may = after_opening P wide entries may
