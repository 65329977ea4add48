-- A good graph, some of whose nodes have their states taken away, is the filled graph of what is left.
use Rattle.std.proofs.Common.{◌≡◌, ◌∙◌, ℕ, zero, suc, List, [], ◌∷◌, map, length, Option, Some, None, slice_get, inl, refl, sym, ap, subst}
use Rattle.std.proofs.Common.{arith}
use Rattle.std.specs.List.{AllZip}
use Rattle.std.proofs.lemmas.List.{length-map}
use Rattle.std.proofs.lemmas.Option.{slice_get_within, none-some, same_Some}
use Rattle.list_views.proofs.Items.{get_within}
use Rattle.list_views.proofs.Options.{map_some}
use Rattle.abs_cells.specs.AbstractStates.{AbstractState}
use Rattle.class_program.specs.Programs.{Program}
use Rattle.frame_types.specs.Tables.{CodeTypes}
use Rattle.term_graph.specs.declared.links.Link.{Link}
use Rattle.term_graph.specs.declared.nodes.By.{By}
use Rattle.term_graph.specs.declared.nodes.By.TheVariants.{Expand}
use Rattle.term_graph.specs.Graphs.{GraphNode, GraphPart, GraphChild}
use Rattle.filled_graphs.specs.Filling.{IsChildAt, HasStateOf, IsNodeOf, CanBeFilled, ways_of}
use Rattle.filled_graphs.specs.lemmas.Lists.{image_at, mapped_of}
use Rattle.cert_check.specs.graph_check.Good.{NamesChild, IsExpanded, IsLeftBy, IsGoodNode, GraphOk}
use Rattle.cert_check.proofs.abs_expand.ZipLists.{beside}
use Rattle.graph_fill.specs.ChildrenOfStates.{child_rules, IsFilledGraph}
use Rattle.graph_fill.specs.Laws.{ArePartsOf, IsStateOrNone}
use Rattle.cert_making.proofs.FirstNames.{first_below}

abbrev by_of : GraphNode → By
by_of node = node.by

abbrev way_of : GraphPart → By
way_of part = part.by

-- a child at a place is named there
record Named (nodes : List GraphNode) (children : List GraphChild) (place : ℕ) (node : GraphNode) : Type 0 where
  child : GraphChild
  there : slice_get children place ≡ Some child
  alike : node.state ≡ child.state

named_at : (nodes : List GraphNode) (children : List GraphChild) (named : List ℕ) (place number : ℕ) (node : GraphNode)
    → AllZip (NamesChild nodes) children named → slice_get named place ≡ Some number → slice_get nodes number ≡ Some node
    → Named nodes children place node
named_at nodes [] [] place number node zip at is = absurd (none-some number at)
named_at nodes [] (n ∷ named) place number node zip at is = absurd zip
named_at nodes (child ∷ children) [] place number node zip at is = absurd zip
named_at nodes (child ∷ children) (n ∷ named) zero number node zip at is =
    let here : slice_get nodes n ≡ Some node = ap (slice_get nodes) (same_Some n number at) ∙ is in
    let same : zip.0.node ≡ node = same_Some zip.0.node node (sym zip.0.is ∙ here) in
    record { child = child; there = refl; alike = ap (λ (x : GraphNode). x.state) (sym same) ∙ zip.0.state_is }
named_at nodes (child ∷ children) (n ∷ named) (suc place) number node zip at is =
    let rest = named_at nodes children named place number node zip.1 at is in
    record { child = rest.child; there = rest.there; alike = rest.alike }

module _ (p : Program) (typing : ℕ → CodeTypes) (nodes : List GraphNode) (root : AbstractState) (links : List (List Link))
    (parts : List GraphPart) (ok : GraphOk p typing nodes root links) (are : ArePartsOf nodes parts) (can : CanBeFilled parts) where
  child_of : (from : GraphNode) (named : List ℕ) (link : List Link) (place number : ℕ) (node : GraphNode)
      → slice_get nodes number ≡ Some node → slice_get named place ≡ Some number → IsExpanded p typing nodes from.state named link
      → IsChildAt (child_rules p typing) from.state place node.state
  child_of from named link place number node is at good =
      let found = named_at nodes good.children named place number node good.names at is in
      record { children = good.children; are = good.are; child = found.child; at = found.there; state_is = found.alike }

  -- the state of a node that lacks its own is the child where it is first named
  taken : (number : ℕ) (node : GraphNode) (part : GraphPart) → slice_get nodes number ≡ Some node → slice_get parts number ≡ Some part
      → part.state ≡ None → HasStateOf (child_rules p typing) (ways_of parts) nodes number None node.state
  taken number node part is there none =
      let before = can number part there none in
      let first = first_below (ways_of parts) number before.namer before.place before.names before.earlier in
      let n = first.named.names in
      let way : slice_get (map by_of nodes) first.node ≡ Some (Expand n.named) = ap (λ (bys : List By). slice_get bys first.node) are.ways
      ∙ n.is in
      let from = map_some by_of (slice_get nodes first.node) (Expand n.named) (sym (mapped_of by_of nodes first.node) ∙ way) in
      let good = beside (IsGoodNode p typing nodes) nodes links first.node from.0 ok.each from.1.0 in
      let low = first.earlier in
      let inside = slice_get_within nodes number node is in
      let zeroth = get_within nodes 0 (omega (arith, low, inside)) in
      record {
        namer = first.node;
        place = first.place;
        named = first.named;
        earlier = first.earlier;
        node = from.0;
        is = from.1.0;
        first = zeroth.0;
        is_first = zeroth.1;
        takes = inl (child_of from.0 n.named good.other first.place number node is n.at
            (subst (λ (b : By). IsLeftBy p typing nodes from.0.state b good.other) from.1.1 good.alike));
      }

  has_state : (number : ℕ) (node : GraphNode) (part : GraphPart) (given : Option AbstractState) → slice_get nodes number ≡ Some node
      → slice_get parts number ≡ Some part → part.state ≡ given → IsStateOrNone given node.state
      → HasStateOf (child_rules p typing) (ways_of parts) nodes number given node.state
  has_state number node part (Some state) is there e own = sym own
  has_state number node part None is there e own = taken number node part is there e

  own_node : (number : ℕ) (node : GraphNode) → slice_get nodes number ≡ Some node → IsNodeOf (child_rules p typing) parts nodes number node
  own_node number node is =
      let inside = slice_get_within nodes number node is in
      let count : length nodes ≡ length parts = sym (length-map nodes by_of) ∙ ap length are.ways ∙ length-map parts way_of in
      let there = get_within parts number (omega (arith, inside, count)) in
      record {
        part = there.0;
        is = there.1;
        by = same_Some node.by there.0.by (sym (image_at by_of nodes number node is) ∙ ap (λ (bys : List By). slice_get bys number) are.ways
            ∙ image_at way_of parts number there.0 there.1);
        state = has_state number node there.0 there.0.state is there.1 refl (are.states number there.0 node there.1 is);
      }

  pub fills_itself : IsFilledGraph p typing parts nodes
  fills_itself = ∣ (record {
    long = sym (length-map nodes by_of) ∙ ap length are.ways ∙ length-map parts way_of;
    each = own_node;
  }) ∣₁
