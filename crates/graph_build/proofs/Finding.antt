-- What is found at the next open node is due there.
use Rattle.std.proofs.Common.{◌≡◌, ◌≢◌, ◌⊎◌, inl, inr, ℕ, ◌<◌, ◌≤◌, ◌&&◌, Bool, true, false, not, List, length, subst, ap, refl}
use Rattle.std.proofs.Common.{◌∙◌, sym, ltb}
use Rattle.std.specs.Prelude.{nat_lt}
use Rattle.std.proofs.lemmas.Bool.{false≢true, cases_lt, ltb-true, lt-ltb, and_parts, not-true, not-false, and_cases}
use Rattle.std.proofs.lemmas.Option.{slice_get_within}
use Rattle.abs_cells.specs.AbstractStates.{AbstractState}
use Rattle.term_graph.specs.declared.nodes.By.{By}
use Rattle.term_graph.specs.declared.nodes.By.TheVariants.{Expand, Instance, End, Todo}
use Rattle.term_graph.specs.Graphs.{GraphNode}
use Rattle.graph_build.specs.Rules.{GrowthRules}
use Rattle.graph_build.specs.Disciplined.{IsNode, Names, IsWidening, IsMatch, IsAlikeAbove, IsSeeking, IsFirstMatch, HasNoMatch}
use Rattle.graph_build.specs.Disciplined.{IsWidenedBy, IsDueAt}
use Rattle.graph_build.specs.Disciplined.Due.{growing, widening}
use Rattle.graph_build.specs.inner.Working.{parent_in, is_instance, is_instance_of, is_instance_at, IsPassed, IsFirstFound, IsAlike}
use Rattle.graph_build.specs.inner.Working.{IsNearest, IsNextOpen}
use Rattle.graph_build.proofs.Extending.{todo_not_expanded}

module _ (rules : GrowthRules) (good : AbstractState → Type 0) (nodes : List GraphNode) (parents : List ℕ) (n : ℕ)
    (state : AbstractState) (open_node : IsNextOpen rules good nodes parents n state) where
  pub low : n < length nodes
  low = slice_get_within nodes n (record { state = state; by = Todo }) open_node.is

  -- a widening is told by its parent
  widening_told : IsWidening nodes (parent_in parents) n → (nat_lt 0 n && is_instance_at nodes (parent_in parents n)) ≡ true
  widening_told w =
      let at : is_instance_at nodes (parent_in parents n) ≡ true = ap is_instance_of w.is in
      ap (λ (b : Bool). b && is_instance_at nodes (parent_in parents n)) (lt-ltb 0 n w.positive) ∙ at

  instance_named : (by : By) → Names by n → is_instance by ≡ true → (entries : List (ℕ × ℕ)) × (by ≡ Instance n entries)
  instance_named (Expand named) names h = absurd (false≢true h)
  instance_named (Instance target entries) names h = (entries, ap (λ (t : ℕ). Instance t entries) names)
  instance_named End names h = absurd (false≢true h)
  instance_named Todo names h = absurd (false≢true h)

  told_widening : (nat_lt 0 n && is_instance_at nodes (parent_in parents n)) ≡ true → IsWidening nodes (parent_in parents) n
  told_widening h =
      let both = and_parts (nat_lt 0 n) (is_instance_at nodes (parent_in parents n)) h in
      let positive : 0 < n = ltb-true 0 n both.0 in
      let c = open_node.disciplined.tree.comes n positive low in
      let named = instance_named c.by c.names (sym (ap is_instance_of c.is) ∙ both.1) in
      record {
        positive = positive;
        state = c.state;
        entries = named.0;
        is = subst (λ (b : By). IsNode nodes (parent_in parents n) c.state b) named.1 c.is;
      }

  pub seeks : (rules.is_head state && not (nat_lt 0 n && is_instance_at nodes (parent_in parents n))) ≡ true
      → IsSeeking rules nodes (parent_in parents) n state
  seeks h =
      let both = and_parts (rules.is_head state) (not (nat_lt 0 n && is_instance_at nodes (parent_in parents n))) h in
      record {
        head = both.0;
        no_widening = λ w. false≢true (sym (not-true (nat_lt 0 n && is_instance_at nodes (parent_in parents n)) both.1) ∙ widening_told w);
      }

  pub not_seeking : (rules.is_head state && not (nat_lt 0 n && is_instance_at nodes (parent_in parents n))) ≡ false
      → IsDueAt rules nodes (parent_in parents) n state growing
  not_seeking h = elim (and_cases (rules.is_head state) (not (nat_lt 0 n && is_instance_at nodes (parent_in parents n))) h) as
      (λ o. IsDueAt rules nodes (parent_in parents) n state growing) [
        | inl head ↦ inl head
        | inr told ↦ inr (inl (told_widening (not-false (nat_lt 0 n && is_instance_at nodes (parent_in parents n)) told)))
      ]

  pub found_match : (u : ℕ) (entries : List (ℕ × ℕ)) → IsFirstFound rules nodes state u entries
      → IsMatch rules nodes (parent_in parents) n state u
  found_match u entries f = record {
    other = f.other;
    earlier = record {
      by = f.by;
      is = f.is;
      expanded = f.expanded;
      before = open_node.disciplined.later n u state f.other f.by open_node.is f.is (λ e. todo_not_expanded f.by e f.expanded);
      positions = f.positions;
    };
    entries = entries;
    instance = f.instance;
  }

  not_passed : (u : ℕ) → IsPassed rules nodes state u → IsMatch rules nodes (parent_in parents) n state u → ⊥
  not_passed u p m = p m.other m.earlier.by m.earlier.is m.earlier.expanded m.earlier.positions m.entries m.instance

  pub first_is_due : (u : ℕ) (entries : List (ℕ × ℕ)) → IsSeeking rules nodes (parent_in parents) n state
      → IsFirstFound rules nodes state u entries → IsFirstMatch rules nodes (parent_in parents) n state u
  first_is_due u entries s f = record {
    seeks = s;
    met = found_match u entries f;
    least = λ other m. elim (cases_lt other u) as (λ o. u ≤ other) [
      | inl l ↦ absurd (not_passed other (f.first other l) m)
      | inr l ↦ l
    ];
  }

  pub none_found : ((u : ℕ) → IsPassed rules nodes state u) → HasNoMatch rules nodes (parent_in parents) n state
  none_found all u m = not_passed u (all u) m

  alike_from : (u : ℕ) → IsAlikeAbove nodes (parent_in parents) n state u → IsAlike nodes (parent_in parents) n state u
  alike_from u a = record {
    other = a.other;
    by = a.earlier.by;
    is = a.earlier.is;
    expanded = a.earlier.expanded;
    positions =
        a.earlier.positions;
    above = a.above;
  }

  pub nearest_is_due : (u : ℕ) → IsSeeking rules nodes (parent_in parents) n state
      → HasNoMatch rules nodes (parent_in parents) n state → IsNearest nodes (parent_in parents) n state u
      → IsWidenedBy rules nodes (parent_in parents) n state u
  nearest_is_due u s none near = record {
    seeks = s;
    unmatched = none;
    alike = record {
      other = near.alike.other;
      earlier = record {
        by = near.alike.by;
        is = near.alike.is;
        expanded = near.alike.expanded;
        before = inl near.alike.above;
        positions = near.alike.positions;
      };
      above = near.alike.above;
    };
    nearest = λ other a. near.nearest other (alike_from other a);
  }

  pub alone_is_due : HasNoMatch rules nodes (parent_in parents) n state
      → ((u : ℕ) → IsAlike nodes (parent_in parents) n state u → ⊥) → IsDueAt rules nodes (parent_in parents) n state growing
  alone_is_due none above = inr (inr (record { unmatched = none; none_above = λ u a. above u (alike_from u a) }))
