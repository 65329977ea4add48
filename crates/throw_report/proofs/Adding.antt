-- Reports of more and more nodes.
use Rattle.std.proofs.Common.{◌≡◌, ◌⊎◌, ◌∙◌, inl, inr, ℕ, zero, suc, ◌<◌, ◌≤◌, ◌+◌, Bool, true, false, cond, List, [], ◌∷◌, length}
use Rattle.std.proofs.Common.{Option, Some, None}
use Rattle.std.proofs.Common.{slice_get, refl, sym, ap, subst, arith}
use Rattle.std.specs.Prelude.{MatchBool}
use Rattle.std.proofs.lemmas.Bool.{false≢true, cases_lt}
use Rattle.std.proofs.lemmas.Option.{none-some, slice_get_within}
use Rattle.std.specs.Option.{option_map}
use Rattle.list_views.specs.Lists.{Has}
use Rattle.list_views.proofs.Options.{map_some}
use Rattle.jvm_values.proofs.Options.{some_is}
use Rattle.abs_cells.specs.declared.cells.Cell.{Cell}
use Rattle.abs_cells.specs.declared.cells.Cell.TheVariants as cells
use Rattle.abs_cells.specs.AbstractStates.{AbstractState}
use Rattle.abs_cells.specs.Cells.{cell_at}
use Rattle.term_graph.specs.declared.nodes.By.{By}
use Rattle.term_graph.specs.declared.nodes.By.TheVariants as ways
use Rattle.term_graph.specs.Graphs.{GraphNode}
use Rattle.throw_report.specs.declared.ways.Report.{Report}
use Rattle.throw_report.specs.Reports.{IsReached, IsEndState, Returns, Throws, Reports, IsReport}
use Rattle.throw_report.specs.inner.Words.{class_in, with_number, with_class, with_thrown, with_end, is_end, AddsNode}
use Rattle.throw_report.specs.inner.Words.{AddsMarked, is_marked, AreMarked}
use Rattle.throw_report.proofs.Numbers.{number_comes, number_only, number_rises}

-- ---- the same states

-- the nodes before one that edges reach
abbrev pub Before : List GraphNode → ℕ → ℕ → Type 0
Before nodes n k = (k < n) × IsReached nodes k

returns_by : (nodes : List GraphNode) (P Q : ℕ → Type 0) → ((s : AbstractState) → IsEndState nodes P s → IsEndState nodes Q s)
    → Returns nodes P → Returns nodes Q
returns_by nodes P Q f h = record { state = h.state; ends = f h.state h.ends; normal = h.normal }

throws_by : (nodes : List GraphNode) (P Q : ℕ → Type 0) (class : ℕ)
    → ((s : AbstractState) → IsEndState nodes P s → IsEndState nodes Q s) → Throws nodes P class → Throws nodes Q class
throws_by nodes P Q class f h = record {
  state = h.state;
  ends = f h.state h.ends;
  id = h.id;
  thrown = h.thrown;
  fields = h.fields;
  cell = h.cell;
}

-- a report of the same states
pub same_states : (nodes : List GraphNode) (P Q : ℕ → Type 0) (report : Report)
    → ((s : AbstractState) → IsEndState nodes P s → IsEndState nodes Q s)
    → ((s : AbstractState) → IsEndState nodes Q s → IsEndState nodes P s) → Reports nodes P report → Reports nodes Q report
same_states nodes P Q report f g r = record {
  returns = (λ e. returns_by nodes P Q f (r.returns.0 e), λ h. r.returns.1 (returns_by nodes Q P g h));
  throws = λ class. (
    λ e. throws_by nodes P Q class f ((r.throws class).0 e),
    λ h. (r.throws class).1 (throws_by nodes Q P class g h),
  );
  rising = r.rising;
}

-- ---- one state more

pub record Grows (nodes : List GraphNode) (P Q : ℕ → Type 0) (state : AbstractState) : Type 0 where
  pub old : (s : AbstractState) → IsEndState nodes P s → IsEndState nodes Q s
  pub new : IsEndState nodes Q state
  pub only : (s : AbstractState) → IsEndState nodes Q s → IsEndState nodes P s ⊎ (s ≡ state)

module _ (nodes : List GraphNode) (P Q : ℕ → Type 0) (state : AbstractState) (grows : Grows nodes P Q state) where
  -- a state in normal mode is no throwing one
  not_thrown : (class : ℕ) → state.throwing ≡ None → Throws nodes Q class → Throws nodes P class
  not_thrown class normal h = elim (grows.only h.state h.ends) as (λ o. Throws nodes P class) [
    | inl was ↦ record { state = h.state; ends = was; id = h.id; thrown = h.thrown; fields = h.fields; cell = h.cell }
    | inr is ↦ absurd (none-some h.id (sym normal ∙ (ap (λ (s : AbstractState). s.throwing) (sym is) ∙ h.thrown)))
  ]

  not_normal : (id : ℕ) → state.throwing ≡ Some id → Returns nodes Q → Returns nodes P
  not_normal id thrown h = elim (grows.only h.state h.ends) as (λ o. Returns nodes P) [
    | inl was ↦ record { state = h.state; ends = was; normal = h.normal }
    | inr is ↦ absurd (none-some id (sym h.normal ∙ (ap (λ (s : AbstractState). s.throwing) is ∙ thrown)))
  ]

  -- its class is the one that is found
  class_found : (id class : ℕ) (fields : List ℕ) → cell_at state id ≡ Some (cells.Obj class fields)
      → class_in state.cells id ≡ Some class
  class_found id class fields e = rw e refl

  other_class : (id class : ℕ) (found : Option ℕ) → state.throwing ≡ Some id → class_in state.cells id ≡ found
      → Throws nodes Q class → Throws nodes P class ⊎ (found ≡ Some class)
  other_class id class found thrown e h = elim (grows.only h.state h.ends) as (λ o. Throws nodes P class ⊎ (found ≡ Some class)) [
    | inl was ↦ inl (record { state = h.state; ends = was; id = h.id; thrown = h.thrown; fields = h.fields; cell = h.cell })
    | inr is ↦
        let one : h.id ≡ id = some_is (sym h.thrown ∙ (ap (λ (s : AbstractState). s.throwing) is ∙ thrown)) in
        let cell : cell_at state id ≡ Some (cells.Obj class h.fields) = subst (λ (n : ℕ). cell_at state n ≡ Some (cells.Obj class h.fields))
        one (subst (λ (s : AbstractState). cell_at s h.id ≡ Some (cells.Obj class h.fields)) is h.cell) in
        inr (sym e ∙ class_found id class h.fields cell)
  ]

  -- the class that is found is thrown
  class_thrown : (id class : ℕ) (found : Option Cell) → state.throwing ≡ Some id → cell_at state id ≡ found
      → class_in state.cells id ≡ Some class → Throws nodes Q class
  class_thrown id class (Some (cells.Obj c fields)) thrown at e =
      let one : c ≡ class = some_is (sym (class_found id c fields at) ∙ e) in
      record {
        state = state;
        ends = grows.new;
        id = id;
        thrown = thrown;
        fields = fields;
        cell = subst (λ (k : ℕ). cell_at state id ≡ Some (cells.Obj k fields)) one at;
      }
  class_thrown id class None thrown at e = let k : class_in state.cells id ≡ None = rw at refl in absurd (none-some class (sym k ∙ e))
  class_thrown id class (Some (cells.Int interval)) thrown at e = let k : class_in state.cells id ≡ None = rw at refl in absurd
      (none-some class (sym k ∙ e))
  class_thrown id class (Some cells.Null) thrown at e = let k : class_in state.cells id ≡ None = rw at refl in absurd
      (none-some class (sym k ∙ e))
  class_thrown id class (Some (cells.Nums kind len)) thrown at e = let k : class_in state.cells id ≡ None = rw at refl in absurd
      (none-some class (sym k ∙ e))
  class_thrown id class (Some (cells.Refs element len shape)) thrown at e = let k : class_in state.cells id ≡ None = rw at refl in absurd
      (none-some class (sym k ∙ e))
  class_thrown id class (Some (cells.Unk bound nullable shape)) thrown at e = let k : class_in state.cells id ≡ None = rw at refl in absurd
      (none-some class (sym k ∙ e))

  -- a report of the states before is one of all with the way in which the state ends
  module _ (report : Report) (r : Reports nodes P report) where
    returning : state.throwing ≡ None → Reports nodes Q (record { returns = true; throws = report.throws })
    returning normal = record {
      returns = (λ e. record { state = state; ends = grows.new; normal = normal }, λ h. refl);
      throws = λ class. (
        λ e. throws_by nodes P Q class grows.old ((r.throws class).0 e),
        λ h. (r.throws class).1 (not_thrown class normal h),
      );
      rising = r.rising;
    }

    unknown : (id : ℕ) → state.throwing ≡ Some id → class_in state.cells id ≡ None → Reports nodes Q report
    unknown id thrown none = record {
      returns = (λ e. returns_by nodes P Q grows.old (r.returns.0 e), λ h. r.returns.1 (not_normal id thrown h));
      throws = λ class. (
        λ e. throws_by nodes P Q class grows.old ((r.throws class).0 e),
        λ h. elim (other_class id class None thrown none h) as (λ o. Has report.throws class) [
          | inl was ↦ (r.throws class).1 was
          | inr e ↦ absurd (none-some class e)
        ],
      );
      rising = r.rising;
    }

    throwing : (id found : ℕ) → state.throwing ≡ Some id → class_in state.cells id ≡ Some found
        → Reports nodes Q (record { returns = report.returns; throws = with_number found report.throws })
    throwing id found thrown is = record {
      returns = (λ e. returns_by nodes P Q grows.old (r.returns.0 e), λ h. r.returns.1 (not_normal id thrown h));
      throws = λ class. (
        λ e. elim (number_only found report.throws class e) as (λ o. Throws nodes Q class) [
          | inl s ↦ subst (λ (c : ℕ). Throws nodes Q c) s (class_thrown id found (cell_at state id) thrown refl is)
          | inr k ↦ throws_by nodes P Q class grows.old ((r.throws class).0 k)
        ],
        λ h. number_comes found report.throws class (elim (other_class id class (Some found) thrown is h) as
            (λ o. (found ≡ class) ⊎ Has report.throws class) [
              | inl was ↦ inr ((r.throws class).1 was)
              | inr s ↦ inl (some_is s)
            ]),
      );
      rising = number_rises found 0 report.throws (omega arith) r.rising;
    }

    by_class : (id : ℕ) (found : Option ℕ) → state.throwing ≡ Some id → class_in state.cells id ≡ found
        → Reports nodes Q (with_class found report)
    by_class id None thrown e = unknown id thrown e
    by_class id (Some class) thrown e = throwing id class thrown e

    by_thrown : (thrown : Option ℕ) → state.throwing ≡ thrown → Reports nodes Q (with_thrown state.cells thrown report)
    by_thrown None e = returning e
    by_thrown (Some id) e = by_class id (class_in state.cells id) e refl

    pub with_end_reports : Reports nodes Q (with_end state report)
    with_end_reports = by_thrown state.throwing refl

-- ---- one node more

earlier : (nodes : List GraphNode) (n : ℕ) (s : AbstractState) → IsEndState nodes (Before nodes n) s
    → IsEndState nodes (Before nodes (n + 1)) s
earlier nodes n s h = record {
  number = h.number;
  node = h.node;
  is = h.is;
  counts = (omega (arith, h.counts.0), h.counts.1);
  ends = h.ends;
  state_is = h.state_is;
}

-- it is an end before, or the node's own
at_or_before : (nodes : List GraphNode) (n : ℕ) (node : GraphNode) (s : AbstractState) → slice_get nodes n ≡ Some node
    → IsEndState nodes (Before nodes (n + 1)) s
    → IsEndState nodes (Before nodes n) s ⊎ (IsReached nodes n × ((node.by ≡ ways.End) × (node.state ≡ s)))
at_or_before nodes n node s is h = elim (cases_lt h.number n) as
    (λ o. IsEndState nodes (Before nodes n) s ⊎ (IsReached nodes n × ((node.by ≡ ways.End) × (node.state ≡ s)))) [
      | inl l ↦ inl (record {
        number = h.number;
        node = h.node;
        is = h.is;
        counts = (l, h.counts.1);
        ends = h.ends;
        state_is = h.state_is;
      })
      | inr k ↦
          let here : h.number ≡ n = omega (arith, k, h.counts.0) in
          let one : h.node ≡ node = some_is (sym h.is ∙ (ap (slice_get nodes) here ∙ is)) in
          inr (
            subst (λ (x : ℕ). IsReached nodes x) here h.counts.1,
            (
              subst (λ (x : GraphNode). x.by ≡ ways.End) one h.ends,
              subst (λ (x : GraphNode). x.state ≡ s) one h.state_is,
            ),
          )
    ]

none_here : (nodes : List GraphNode) (n : ℕ) (node : GraphNode) → slice_get nodes n ≡ Some node
    → (IsReached nodes n → node.by ≡ ways.End → ⊥) → (s : AbstractState) → IsEndState nodes (Before nodes (n + 1)) s
    → IsEndState nodes (Before nodes n) s
none_here nodes n node is not s h = elim (at_or_before nodes n node s is h) as (λ o. IsEndState nodes (Before nodes n) s) [
  | inl was ↦ was
  | inr here ↦ absurd (not here.0 here.1.0)
]

-- the node is not reached, or is no End node
pub passed_over : (nodes : List GraphNode) (n : ℕ) (node : GraphNode) (report : Report) → slice_get nodes n ≡ Some node
    → (IsReached nodes n → node.by ≡ ways.End → ⊥) → Reports nodes (Before nodes n) report → Reports nodes (Before nodes (n + 1)) report
passed_over nodes n node report is not r = same_states nodes (Before nodes n) (Before nodes (n + 1)) report (earlier nodes n)
    (none_here nodes n node is not) r

-- it is an End node that edges reach
taken : (nodes : List GraphNode) (n : ℕ) (node : GraphNode) (report : Report) → slice_get nodes n ≡ Some node → IsReached nodes n
    → node.by ≡ ways.End → Reports nodes (Before nodes n) report → Reports nodes (Before nodes (n + 1)) (with_end node.state report)
taken nodes n node report is reached ends r = with_end_reports nodes (Before nodes n) (Before nodes (n + 1)) node.state (record {
  old = earlier nodes n;
  new = record { number = n; node = node; is = is; counts = (omega arith, reached); ends = ends; state_is = refl };
  only = λ s h. elim (at_or_before nodes n node s is h) as (λ o. IsEndState nodes (Before nodes n) s ⊎ (s ≡ node.state)) [
    | inl was ↦ inl was
    | inr here ↦ inr (sym here.1.1)
  ];
}) report r

end_is : (by : By) → is_end by ≡ true → by ≡ ways.End
end_is ways.End e = refl
end_is (ways.Expand named) e = absurd (false≢true e)
end_is (ways.Instance target entries) e = absurd (false≢true e)
end_is ways.Todo e = absurd (false≢true e)

end_of : (by : By) → by ≡ ways.End → is_end by ≡ true
end_of by e = ap is_end e

by_way : (nodes : List GraphNode) (n : ℕ) (node : GraphNode) (b : Bool) (report : Report) → slice_get nodes n ≡ Some node
    → IsReached nodes n → is_end node.by ≡ b → Reports nodes (Before nodes n) report
    → Reports nodes (Before nodes (n + 1)) (cond b (with_end node.state report) report)
by_way nodes n node true report is reached e r = taken nodes n node report is reached (end_is node.by e) r
by_way nodes n node false report is reached e r = passed_over nodes n node report is
    (λ _ ends. false≢true (sym e ∙ end_of node.by ends)) r

-- what the code does at a node
pub adds_nothing : (nodes : List GraphNode) (n : ℕ) (by : By) (report : Report)
    → option_map (λ (node : GraphNode). node.by) (slice_get nodes n) ≡ Some by → is_end by ≡ false → AddsNode nodes n report report
adds_nothing nodes n by report at e =
    let found = map_some (λ (node : GraphNode). node.by) (slice_get nodes n) by at in
    let left : is_end found.0.by ≡ false = ap is_end found.1.1 ∙ e in
    record { node = found.0; is = found.1.0; adds = ap (λ (b : Bool). cond b (with_end found.0.state report) report) (sym left) }

pub adds_end : (nodes : List GraphNode) (n : ℕ) (by : By) (node : GraphNode) (report more : Report)
    → option_map (λ (node : GraphNode). node.by) (slice_get nodes n) ≡ Some by → is_end by ≡ true → slice_get nodes n ≡ Some node
    → more ≡ with_end node.state report → AddsNode nodes n report more
adds_end nodes n by node report more at e is made =
    let one : node.by ≡ by = some_is (ap (option_map (λ (x : GraphNode). x.by)) (sym is) ∙ at) in
    let left : is_end node.by ≡ true = ap is_end one ∙ e in
    record { node = node; is = is; adds = made ∙ ap (λ (b : Bool). cond b (with_end node.state report) report) (sym left) }

one_more : (nodes : List GraphNode) (n : ℕ) (marks : List Bool) (report more : Report) → AreMarked nodes marks
    → is_marked marks n ≡ true → AddsNode nodes n report more → Reports nodes (Before nodes n) report
    → Reports nodes (Before nodes (n + 1)) more
one_more nodes n marks report more marked m adds r = subst (λ (x : Report). Reports nodes (Before nodes (n + 1)) x) (sym adds.adds)
    (by_way nodes n adds.node (is_end adds.node.by) report adds.is ((marked n adds.node adds.is).0 m) refl r)

-- a node that isn't marked
one_passed : (nodes : List GraphNode) (n : ℕ) (marks : List Bool) (report : Report) → AreMarked nodes marks → n < length nodes
    → is_marked marks n ≡ false → Reports nodes (Before nodes n) report → Reports nodes (Before nodes (n + 1)) report
one_passed nodes n marks report marked l m r =
    let at = node_there nodes n l in
    passed_over nodes n at.0 report at.1 (λ reached ends. false≢true (sym m ∙ (marked n at.0 at.1).1 reached)) r
  where
    node_there : (xs : List GraphNode) (k : ℕ) → k < length xs → (x : GraphNode) × (slice_get xs k ≡ Some x)
    node_there [] k h = absurd (omega (arith, h))
    node_there (x ∷ xs) zero h = (x, refl)
    node_there (x ∷ xs) (suc k) h = node_there xs k (omega (arith, h))

pub one_step : (nodes : List GraphNode) (n : ℕ) (marks : List Bool) (report more : Report) → AreMarked nodes marks → n < length nodes
    → AddsMarked nodes marks n report more → Reports nodes (Before nodes n) report → Reports nodes (Before nodes (n + 1)) more
one_step nodes n marks report more marked l adds r = by (is_marked marks n) refl adds
  where
    by : (b : Bool) → is_marked marks n ≡ b → MatchBool b (AddsNode nodes n report more) (more ≡ report)
        → Reports nodes (Before nodes (n + 1)) more
    by true e a = one_more nodes n marks report more marked e a r
    by false e s = subst (λ (x : Report). Reports nodes (Before nodes (n + 1)) x) (sym s) (one_passed nodes n marks report marked l e r)

-- ---- all nodes

no_state : (nodes : List GraphNode) (s : AbstractState) → IsEndState nodes (Before nodes 0) s → ⊥
no_state nodes s h = omega (arith, h.counts.0)

pub none_yet : (nodes : List GraphNode) → Reports nodes (Before nodes 0) (record { returns = false; throws = [] })
none_yet nodes = record {
  returns = (λ e. absurd (false≢true e), λ h. absurd (no_state nodes h.state h.ends));
  throws = λ class. (λ h. absurd h, λ h. absurd (no_state nodes h.state h.ends));
  rising = tt;
}

pub all_done : (nodes : List GraphNode) (n : ℕ) (report : Report) → length nodes ≤ n → Reports nodes (Before nodes n) report
    → IsReport nodes report
all_done nodes n report l r = same_states nodes (Before nodes n) (IsReached nodes) report
    (λ s h. record { number = h.number; node = h.node; is = h.is; counts = h.counts.1; ends = h.ends; state_is = h.state_is })
    (λ s h.
    let k = slice_get_within nodes h.number h.node h.is in
    record {
      number = h.number;
      node = h.node;
      is = h.is;
      counts = (omega (arith, k, l), h.counts);
      ends = h.ends;
      state_is = h.state_is;
    }) r
