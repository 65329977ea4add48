-- The cycles without a cut are those of the lists of successors that are no cuts.
use Rattle.std.proofs.Common.{◌≡◌, ℕ, Bool, true, false, cond, List, [], ◌∷◌, map, Option, Some, None, subst}
use Rattle.std.proofs.Common.{ap, refl, ◌∙◌, sym}
use Rattle.std.specs.Option.{option_and_then}
use Rattle.jvm_values.specs.Paths.{follow}
use Rattle.number_graphs.specs.Graphs.{IsWay, Leads, IsOnCycle, IsLeastOnCycle}
use Rattle.number_graphs.specs.Lists.{row_at, Edge, Fall}
use Rattle.number_graphs.proofs.Falling.{no_cycle}
use Rattle.term_graph.specs.Graphs.{GraphNode}
use Rattle.path_rules.specs.Paths.{IsUncut, IsLeastUncut, IsCut, inner_edges, edges, is_cut}
use Rattle.path_rules.specs.Successors.{AreMarks, inner_row, lists_of}
use Rattle.path_rules.proofs.Counted.{inner_edge, edge_inner}
use Rattle.path_rules.proofs.Picking.{has_at, at_has}
use Rattle.path_rules.proofs.Whole.{row_is}

abbrev inner_of : List GraphNode → List Bool → List (List ℕ)
inner_of graph marks = map (inner_row marks) (lists_of graph)

-- an edge of the lists is one of the graph
edge_there : (graph : List GraphNode) (cuts : List ℕ) (marks : List Bool) → AreMarks cuts marks → (a b : ℕ)
    → Edge (inner_of graph marks) a b → (place : ℕ) × (inner_edges graph cuts a place ≡ Some b)
edge_there graph cuts marks are a b e =
    let kept = edge_inner (lists_of graph) marks a b e in
    let there = at_has (row_at (lists_of graph) a) b kept.0 in (
      there.0,
      ap (option_and_then (λ (to : ℕ). cond (is_cut cuts to) None (Some to))) (sym (row_is graph a there.0) ∙ there.1)
          ∙ ap (λ (x : Bool). cond x None (Some b)) (sym (are b) ∙ kept.1),
    )

-- and the other way round
there_edge : (graph : List GraphNode) (cuts : List ℕ) (marks : List Bool) → AreMarks cuts marks → (a b place : ℕ)
    → inner_edges graph cuts a place ≡ Some b → Edge (inner_of graph marks) a b
there_edge graph cuts marks are a b place e = at (edges graph a place) refl e
  where
    at : (o : Option ℕ) → edges graph a place ≡ o → option_and_then (λ (to : ℕ). cond (is_cut cuts to) None (Some to)) o ≡ Some b
        → Edge (inner_of graph marks) a b
    at None there k = absurd (cc)
    at (Some to) there k = by (is_cut cuts to) refl k
      where
        by : (x : Bool) → is_cut cuts to ≡ x → cond x None (Some to) ≡ Some b → Edge (inner_of graph marks) a b
        by true m g = absurd (cc)
        by false m g =
            let same : to ≡ b = cc in
            subst (λ (n : ℕ). Edge (inner_of graph marks) a n) same
            (inner_edge (lists_of graph) marks a to (has_at (row_at (lists_of graph) a) place to (row_is graph a place ∙ there))
            (are to ∙ m))

-- ways by edges
record Followed (graph : List GraphNode) (cuts : List ℕ) (a b : ℕ) : Type 0 where
  pub first : ℕ
  pub places : List ℕ
  pub leads : follow (inner_edges graph cuts) (first ∷ places) a ≡ Some b

followed : (graph : List GraphNode) (cuts : List ℕ) (marks : List Bool) → AreMarks cuts marks → (way : List ℕ) (a b : ℕ)
    → IsWay (Edge (inner_of graph marks)) a way b → Followed graph cuts a b
followed graph cuts marks are [] a b w = let e = edge_there graph cuts marks are a b w in record
    { first = e.0; places = []; leads = ap (option_and_then (λ (to : ℕ). Some to)) e.1 }
followed graph cuts marks are (next ∷ way) a b w =
    let e = edge_there graph cuts marks are a next w.0 in
    let more = followed graph cuts marks are way next b w.1 in
    record {
      first = e.0;
      places = more.first ∷ more.places;
      leads = ap
          (option_and_then (follow (inner_edges graph cuts) (more.first ∷ more.places))) e.1 ∙ more.leads;
    }

leads_last : (graph : List GraphNode) (cuts : List ℕ) (marks : List Bool) → AreMarks cuts marks → (first a b : ℕ) (o : Option ℕ)
    → inner_edges graph cuts a first ≡ o → option_and_then (λ (to : ℕ). Some to) o ≡ Some b → Leads (Edge (inner_of graph marks)) a b
leads_last graph cuts marks are first a b None there k = absurd (cc)
leads_last graph cuts marks are first a b (Some to) there k = let same : to ≡ b = cc in
    ([], subst (λ (n : ℕ). Edge (inner_of graph marks) a n) same (there_edge graph cuts marks are a to first there))

leads_on : (graph : List GraphNode) (cuts : List ℕ) (marks : List Bool) → AreMarks cuts marks
    → (places : List ℕ) (first a b : ℕ) (o : Option ℕ) → inner_edges graph cuts a first ≡ o
    → option_and_then (follow (inner_edges graph cuts) places) o ≡ Some b
    → ((to : ℕ) → follow (inner_edges graph cuts) places to ≡ Some b → Leads (Edge (inner_of graph marks)) to b)
    → Leads (Edge (inner_of graph marks)) a b
leads_on graph cuts marks are places first a b None there k later = absurd (cc)
leads_on graph cuts marks are places first a b (Some to) there k later = let more = later to k in
    (to ∷ more.0, (there_edge graph cuts marks are a to first there, more.1))

leads_by : (graph : List GraphNode) (cuts : List ℕ) (marks : List Bool) → AreMarks cuts marks → (places : List ℕ) (first a b : ℕ)
    → follow (inner_edges graph cuts) (first ∷ places) a ≡ Some b → Leads (Edge (inner_of graph marks)) a b
leads_by graph cuts marks are [] first a b e = leads_last graph cuts marks are first a b (inner_edges graph cuts a first) refl e
leads_by graph cuts marks are (p ∷ ps) first a b e = leads_on graph cuts marks are (p ∷ ps) first a b
    (inner_edges graph cuts a first) refl e (λ to k. leads_by graph cuts marks are ps p to b k)

on_cycle : (graph : List GraphNode) (cuts : List ℕ) (marks : List Bool) → AreMarks cuts marks → (a : ℕ) → IsUncut graph cuts a
    → IsOnCycle (Edge (inner_of graph marks)) a
on_cycle graph cuts marks are a u = leads_by graph cuts marks are u.places u.first a a u.leads

pub least_uncut : (graph : List GraphNode) (cuts : List ℕ) (marks : List Bool) (a : ℕ) → AreMarks cuts marks
    → IsLeastOnCycle (Edge (map (inner_row marks) (lists_of graph))) a → IsLeastUncut graph cuts a
least_uncut graph cuts marks a are least =
    let f = followed graph cuts marks are least.on.0 a a least.on.1 in
    record {
      uncut = record { first = f.first; places = f.places; leads = f.leads };
      least = λ other l u. least.least other l (on_cycle graph cuts marks are other u);
    }

pub is_all_cut : (graph : List GraphNode) (cuts : List ℕ) (marks : List Bool) (ranks : List ℕ) → AreMarks cuts marks
    → Fall (map (inner_row marks) (lists_of graph)) ranks → IsCut graph cuts
is_all_cut graph cuts marks ranks are fall node u = no_cycle (inner_of graph marks) ranks fall node (on_cycle graph cuts marks are node u)
