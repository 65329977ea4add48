-- Parts have one filled graph, and a good graph is that of its own parts.
use mathlib.Core.Logic.{∥∥₁_elim, ∥∥₁_prop}
use Rattle.std.proofs.Common.{◌≡◌, ◌∙◌, ℕ, zero, suc, List, [], ◌∷◌, map, length, Option, Some, None, slice_get, inl, refl, sym, ap, subst}
use Rattle.std.proofs.Common.{arith}
use Rattle.std.specs.List.{AllZip}
use Rattle.std.proofs.lemmas.List.{length-map}
use Rattle.std.proofs.lemmas.Option.{slice_get_within, none-some}
use Rattle.list_views.proofs.Items.{get_within}
use Rattle.list_views.proofs.Options.{map_some}
use Rattle.jvm_values.proofs.Options.{some_is}
use Rattle.abs_cells.specs.AbstractStates.{AbstractState}
use Rattle.class_program.specs.Programs.{Program}
use Rattle.frame_types.specs.Tables.{CodeTypes}
use Rattle.term_graph.specs.declared.links.Link.{Link}
use Rattle.term_graph.specs.declared.nodes.By.{By}
use Rattle.term_graph.specs.declared.nodes.By.TheVariants.{Expand}
use Rattle.term_graph.specs.Graphs.{GraphNode, GraphPart}
use Rattle.filled_graphs.specs.Filling.{Names, IsChildAt, HasStateOf, IsNodeOf, IsFilled, ways_of}
use Rattle.filled_graphs.specs.lemmas.Lists.{image_at, mapped_of}
use Rattle.filled_graphs.specs.lemmas.Once.{filled_one}
use Rattle.graph_check.specs.Good.{NamesChild, IsExpanded, IsLeftBy, IsGoodNode, GraphOk}
use Rattle.graph_check.proofs.abs_expand.ZipLists.{beside}
use Rattle.graph_fill.specs.ChildrenOfStates.{child_rules}
use Rattle.graph_fill.specs.Laws.{ArePartsOf, FilledGraphsAreOne, IsStateOrNone, GoodGraphsFillThemselves}

abbrev by_of : GraphNode → By
by_of node = node.by

abbrev way_of : GraphPart → By
way_of part = part.by

-- what stands on the left at a place, beside an item
record Behind {A B : Type 0} (R : A → B → Type 0) (xs : List A) (n : ℕ) (y : B) : Type 0 where
  other : A
  there : slice_get xs n ≡ Some other
  alike : R other y

behind : {A B : Type 0} (R : A → B → Type 0) (xs : List A) (ys : List B) (n : ℕ) (y : B) → AllZip R xs ys → slice_get ys n ≡ Some y
    → Behind R xs n y
behind R xs [] n y all at = absurd (none-some y at)
behind R [] (z ∷ ys) n y all at = absurd all
behind R (x ∷ xs) (z ∷ ys) zero y all at = record { other = x; there = refl; alike = subst (R x) (some_is at) all.0 }
behind R (x ∷ xs) (z ∷ ys) (suc n) y all at =
    let rest = behind R xs ys n y all.1 at in
    record { other = rest.other; there = rest.there; alike = rest.alike }

-- ---- a good graph, of which some states are left out

module _ (p : Program) (typing : ℕ → CodeTypes) (nodes : List GraphNode) (root : AbstractState) (links : List (List Link))
    (parts : List GraphPart) (ok : GraphOk p typing nodes root links) (are : ArePartsOf nodes parts) where
  same_count : length nodes ≡ length parts
  same_count = sym (length-map nodes by_of) ∙ ap length are.ways ∙ length-map parts way_of

  -- a node that names another one has its state as a child
  record IsNamer (place : ℕ) (node : GraphNode) (namer : ℕ) : Type 0 where
    from : GraphNode
    there : slice_get nodes namer ≡ Some from
    child : IsChildAt (child_rules p typing) from.state place node.state

  child_of : (from : GraphNode) (named : List ℕ) (link : List Link) (place number : ℕ) (node : GraphNode)
      → slice_get nodes number ≡ Some node → slice_get named place ≡ Some number → IsExpanded p typing nodes from.state named link
      → IsChildAt (child_rules p typing) from.state place node.state
  child_of from named link place number node is at good =
      let found = behind (NamesChild nodes) good.children named place number good.names at in
      let same : found.alike.node ≡ node = some_is (sym found.alike.is ∙ is) in
      record {
        children = good.children;
        are = good.are;
        child = found.other;
        at = found.there;
        state_is = ap (λ (x : GraphNode). x.state) (sym same) ∙ found.alike.state_is;
      }

  namer_of : (number : ℕ) (node : GraphNode) (namer place : ℕ) → slice_get nodes number ≡ Some node
      → Names (ways_of parts) namer place number → IsNamer place node namer
  namer_of number node namer place is n =
      let way : slice_get (map by_of nodes) namer ≡ Some (Expand n.named) = ap (λ (bys : List By). slice_get bys namer) are.ways ∙ n.is in
      let from = map_some by_of (slice_get nodes namer) (Expand n.named) (sym (mapped_of by_of nodes namer) ∙ way) in
      let good = beside (IsGoodNode p typing nodes) nodes links namer from.0 ok.each from.1.0 in
      record {
        from = from.0;
        there = from.1.0;
        child = child_of from.0 n.named good.other place number node is n.at
            (subst (λ (b : By). IsLeftBy p typing nodes from.0.state b good.other) from.1.1 good.alike);
      }

  -- its own states are those that parts take
  own_state : (filled : List GraphNode) (number : ℕ) (node : GraphNode) → slice_get nodes number ≡ Some node
      → (given : Option AbstractState) (state : AbstractState) → IsStateOrNone given node.state
      → HasStateOf (child_rules p typing) (ways_of parts) filled number given state
      → HasStateOf (child_rules p typing) (ways_of parts) nodes number given node.state
  own_state filled number node is (Some given) state own h = sym own
  own_state filled number node is None state own t =
      let from = namer_of number node t.namer t.place is t.named.names in
      let low = t.earlier in
      let inside = slice_get_within nodes number node is in
      let first = get_within nodes 0 (omega (arith, low, inside)) in
      record {
        namer = t.namer;
        place = t.place;
        named = t.named;
        earlier = t.earlier;
        node = from.from;
        is = from.there;
        first = first.0;
        is_first = first.1;
        takes = inl from.child;
      }

  own_node : (filled : List GraphNode) → IsFilled (child_rules p typing) parts filled → (number : ℕ) (node : GraphNode)
      → slice_get nodes number ≡ Some node → IsNodeOf (child_rules p typing) parts nodes number node
  own_node filled f number node is =
      let inside = slice_get_within nodes number node is in
      let long = f.long in
      let count = same_count in
      let there = get_within filled number (omega (arith, inside, long, count)) in
      let x = f.each number there.0 there.1 in
      record {
        part = x.part;
        is = x.is;
        by = some_is (sym (image_at by_of nodes number node is) ∙ ap (λ (bys : List By). slice_get bys number) are.ways
            ∙ image_at way_of parts number x.part x.is);
        state = own_state filled number node is x.part.state there.0.state (are.states number x.part node x.is is) x.state;
      }

  own_filled : (filled : List GraphNode) → IsFilled (child_rules p typing) parts filled → IsFilled (child_rules p typing) parts nodes
  own_filled filled f = record { long = same_count; each = own_node filled f }

-- ---- the laws

pub filled_once : FilledGraphsAreOne
filled_once p typing parts nodes others = filled_one (child_rules p typing) parts (length parts) nodes others

pub good_fills : GoodGraphsFillThemselves
good_fills p typing nodes filled root links parts ok are fill = filled_one (child_rules p typing) parts (length parts) filled nodes fill
    (∥∥₁_elim fill ∥∥₁_prop (λ f. ∣ own_filled p typing nodes root links parts ok are filled f ∣₁))
