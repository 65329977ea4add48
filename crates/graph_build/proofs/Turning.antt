-- A turn of the loop that builds a graph: the next open node, the growth that it is given, and where the graph stops.
use Rattle.std.proofs.Common.{◌≡◌, ◌≢◌, inl, inr, ℕ, zero, suc, ◌+◌, ◌-◌, ◌<◌, ◌≤◌, List, [], ◌∷◌, ◌++◌, length, get_or, Some}
use Rattle.std.proofs.Common.{subst, ap, arith, refl, ◌∙◌, sym, length-append}
use Rattle.std.specs.Prelude.{slice_get, Bool, true, false, ◌==◌}
use Rattle.std.proofs.lemmas.Bool.{eqb-true, false≢true}
use Rattle.std.proofs.lemmas.Option.{slice_get_within, same_Some}
use Rattle.abs_cells.specs.AbstractStates.{AbstractState}
use Rattle.term_graph.specs.declared.nodes.By.TheVariants.{Expand, Instance, End, Todo}
use Rattle.term_graph.specs.Graphs.{GraphNode}
use Rattle.graph_build.specs.Rules.{GrowthRules}
use Rattle.graph_build.specs.Disciplined.{IsNode, IsBefore, IsDisciplined}
use Rattle.graph_build.specs.Answers.{IsClosed, IsFirstOpen, IsStopped}
use Rattle.list_views.specs.Lists.{Has, numbers_from}
use Rattle.graph_build.specs.inner.Working.{Work, parent_in, todo, with_all, with_one, without, tail_of, grown, AreInOrder, IsSound}
use Rattle.graph_build.specs.inner.Working.{IsNextOpen, MayGrow, HasRoom, work_left}
use Rattle.graph_build.specs.declared.growth.Plan.{Plan}
use Rattle.graph_build.specs.declared.growth.Plan.TheVariants as plan
use Rattle.graph_build.proofs.Nodes.{length_left}
use Rattle.graph_build.proofs.Carrying.{after_growth}

-- ---- whether one is left

pub some_left : (b : Bool) (k : ℕ) → b ≡ (k == 0) → b ≡ false → 0 < k
some_left b zero e f = absurd (false≢true (sym f ∙ e))
some_left b (suc k) e f = omega arith

pub none_left : (b : Bool) (k : ℕ) → b ≡ (k == 0) → b ≡ true → k ≡ 0
none_left b k e t = eqb-true k 0 (sym e ∙ t)

-- ---- the next open node

has_first : (ns : List ℕ) (n : ℕ) → 0 < length ns → n ≡ get_or ns 0 n → Has ns n
has_first [] n l e = absurd (omega (arith, l))
has_first (m ∷ ms) n l e = inl (sym e)

first_before : (nodes : List GraphNode) (parent : ℕ → ℕ) (ns : List ℕ) (n : ℕ) → n ≡ get_or ns 0 n → AreInOrder nodes parent ns
    → (m : ℕ) → Has ns m → m ≢ n → IsBefore nodes parent n m
first_before nodes parent [] n e order m h d = absurd h
first_before nodes parent (k ∷ ks) n e order m (inl same) d = absurd (d (sym same ∙ sym e))
first_before nodes parent (k ∷ ks) n e order m (inr h) d = subst (λ (x : ℕ). IsBefore nodes parent x m) (sym e) (order.0 m h)

module _ (rules : GrowthRules) (good : AbstractState → Type 0) (root : AbstractState) (work : Work)
    (sound : IsSound rules good root work) where
  pub all_closed : length work.waiting ≡ 0 → IsDisciplined rules root work.nodes × IsClosed work.nodes
  all_closed e = (
    record { parent = parent_in work.parents; by = sound.disciplined },
    λ n state is. nowhere work.waiting n e (sound.all n state is),
  )
    where
      nowhere : (ns : List ℕ) (n : ℕ) → length ns ≡ 0 → Has ns n → ⊥
      nowhere [] n e h = h
      nowhere (m ∷ ms) n e h = omega (arith, e)

  module _ (n : ℕ) (some : 0 < length work.waiting) (head : n ≡ get_or work.waiting 0 n) where
    opened : (state : AbstractState) × IsNode work.nodes n state Todo
    opened = sound.waiting n (has_first work.waiting n some head)

    pub first_within : n < length work.nodes
    first_within = slice_get_within work.nodes n (record { state = opened.0; by = Todo }) opened.1

    pub first_is : (node : GraphNode) (state : AbstractState) → slice_get work.nodes n ≡ Some node → state ≡ node.state
        → IsNode work.nodes n state Todo
    first_is node state at e =
        let same : opened.0 ≡ node.state = ap (λ (x : GraphNode). x.state)
        (same_Some (record { state = opened.0; by = Todo }) node (sym opened.1 ∙ at)) in
        opened.1 ∙ ap (λ (s : AbstractState). Some (record { state = s; by = Todo })) (same ∙ sym e)

    pub next_open : (state : AbstractState) → IsNode work.nodes n state Todo → IsNextOpen rules good work.nodes work.parents n state
    next_open state is = record {
      root = root;
      disciplined = sound.disciplined;
      parents_are = sound.parents;
      are_good =
          sound.are_good;
      is = is;
    }

    pub first_open : (state : AbstractState) → IsNode work.nodes n state Todo → IsFirstOpen work.nodes (parent_in work.parents) n state
    first_open state is = record {
      is = is;
      first = λ m other at d. first_before work.nodes (parent_in work.parents) work.waiting n head sound.order m (sound.all m other at) d;
    }

    pub stopped : (state : AbstractState) (Why : (ℕ → ℕ) → ℕ → AbstractState → Type 0) → IsNode work.nodes n state Todo
        → Why (parent_in work.parents) n state → IsStopped rules root work.nodes Why
    stopped state Why is why = record {
      parent = parent_in work.parents;
      by = sound.disciplined;
      n = n;
      state = state;
      first =
          first_open state is;
      why = why;
    }

-- ---- the growth

pub has_room : {P : Type 0} (rules : GrowthRules) (good : AbstractState → Type 0) (work : Work) (n : ℕ) (state : AbstractState)
    (limit : ℕ) (p : Plan P) → limit ≤ 20000 → MayGrow rules good work n state limit p → HasRoom work p
has_room rules good work n state limit plan.End small may = tt
has_room rules good work n state limit (plan.Children states) small may = omega (arith, may.1.1, small)
has_room rules good work n state limit (plan.Join u entries) small may = tt
has_room rules good work n state limit (plan.Open wide entries) small may = omega (arith, may.1, small)

pub grown_sound : {P : Type 0} (rules : GrowthRules) (good : AbstractState → Type 0) (root : AbstractState) (nodes : List GraphNode)
    (parents waiting : List ℕ) (n : ℕ) (state : AbstractState) (limit : ℕ) (p : Plan P) → 0 < length waiting
    → n ≡ get_or waiting 0 n → IsNode nodes n state Todo
    → IsSound rules good root (record { nodes = nodes; parents = parents; waiting = waiting })
    → MayGrow rules good (record { nodes = nodes; parents = parents; waiting = waiting }) n state limit p
    → IsSound rules good root (grown (record { nodes = nodes; parents = parents; waiting = waiting }) n p)
grown_sound rules good root nodes parents [] n state limit p some head is = absurd (omega (arith, some))
grown_sound rules good root nodes parents (k ∷ rest) n state limit p some head is =
    subst (λ (x : ℕ). IsSound rules good root (record { nodes = nodes; parents = parents; waiting = x ∷ rest })
    → MayGrow rules good (record { nodes = nodes; parents = parents; waiting = x ∷ rest }) n state limit p
    → IsSound rules good root (grown (record { nodes = nodes; parents = parents; waiting = x ∷ rest }) n p)) head
    (λ sound may. after_growth rules good root nodes parents n rest sound state is limit p may)

-- ---- how much there is after it

-- how many nodes a growth adds
abbrev new_by : {P : Type 0} → Plan P → ℕ
new_by plan.End = 0
new_by (plan.Children states) = length states
new_by (plan.Join u entries) = 0
new_by (plan.Open wide entries) = 1

all_nodes : (work : Work) (states : List AbstractState) (parent : ℕ)
    → (length (with_all work states parent).nodes ≡ length work.nodes + length states)
    × (length (with_all work states parent).waiting ≡ length work.waiting + length states)
all_nodes work [] parent = (omega arith, omega arith)
all_nodes work (s ∷ ss) parent =
    let rest = all_nodes (with_one work s parent) ss parent in
    let more : length (with_one work s parent).nodes ≡ length work.nodes + 1 = length-append work.nodes (todo s ∷ []) in
    (omega (arith, rest.0, more), omega (arith, rest.1))

grown_nodes : {P : Type 0} (work : Work) (n : ℕ) (p : Plan P) → (length (grown work n p).nodes ≡ length work.nodes + new_by p)
    × (length (grown work n p).waiting ≡ length (tail_of work.waiting) + new_by p)
grown_nodes work n plan.End = (length_left work.nodes n End ∙ omega arith, omega arith)
grown_nodes work n (plan.Children states) =
    let all = all_nodes (without work) states n in
    (length_left (with_all (without work) states n).nodes n (Expand (numbers_from (length work.nodes) (length states))) ∙ all.0, all.1)
grown_nodes work n (plan.Join u entries) = (length_left work.nodes n (Instance u entries) ∙ omega arith, omega arith)
grown_nodes work n (plan.Open wide entries) = (
  length_left (work.nodes ++ todo wide ∷ []) n (Instance (length work.nodes) entries)
      ∙ length-append work.nodes (todo wide ∷ []),
  omega arith,
)

one_less : (ns : List ℕ) → 0 < length ns → suc (length (tail_of ns)) ≡ length ns
one_less [] l = absurd (omega (arith, l))
one_less (n ∷ ns) l = refl

may_add : {P : Type 0} (rules : GrowthRules) (good : AbstractState → Type 0) (work : Work) (n : ℕ) (state : AbstractState)
    (limit : ℕ) (p : Plan P) → length work.nodes ≤ limit → MayGrow rules good work n state limit p → length work.nodes + new_by p ≤ limit
may_add rules good work n state limit plan.End few may = omega (arith, few)
may_add rules good work n state limit (plan.Children states) few may = may.1.1
may_add rules good work n state limit (plan.Join u entries) few may = omega (arith, few)
may_add rules good work n state limit (plan.Open wide entries) few may = may.1

module _ {P : Type 0} (rules : GrowthRules) (good : AbstractState → Type 0) (work : Work) (n : ℕ) (state : AbstractState)
    (limit : ℕ) (p : Plan P) (few : length work.nodes ≤ limit) (may : MayGrow rules good work n state limit p) where
  pub grown_few : length (grown work n p).nodes ≤ limit
  grown_few = omega (arith, (grown_nodes work n p).0, may_add rules good work n state limit p few may)

  pub less_work : 0 < length work.waiting → work_left limit (grown work n p) < work_left limit work
  less_work some =
      let counts = grown_nodes work n p in
      let one = one_less work.waiting some in
      omega (arith, counts.0, counts.1, one, few, may_add rules good work n state limit p few may)
