-- Nodes are read again.
use Rattle.std.proofs.Common.{◌≡◌, ℕ, suc, Bool, true, false, List, [], ◌∷◌, ◌++◌, length, Option, Some, None, All, refl, sym, ap}
use Rattle.std.proofs.Common.{◌∙◌, subst, append-nil, append_assoc}
use Rattle.std.proofs.lemmas.List.Elements.{All-head, All-tail}
use Rattle.json_view.specs.Names.{least_unlisted, first_missing}
use Rattle.json_view.specs.Reading.{items_of as count_of, item_of, text_of, only_of, field_of}
use Rattle.abs_cells.specs.AbstractStates.{AbstractState}
use Rattle.term_graph.specs.Graphs.{GraphNode, GraphPart}
use Rattle.term_graph.specs.declared.nodes.By.{By}
use Rattle.term_graph.specs.declared.nodes.By.TheVariants.{Expand, Instance, End, Todo}
use Rattle.cert_form.specs.Fields.{of_length, longer_than, nth, a_word, only, field, a_number}
use Rattle.cert_form.specs.Ways.{numbers_of, map_entry, map_of, expand_of, instance_of, by_of}
use Rattle.cert_form.specs.Certificates.{whole_node, named_node, lacks_state, node_with, node_in}
use Rattle.cert_form.specs.cert_write.Data.{natural, naturals, pair, pairs, by, node, part_of, parts_from}
use Rattle.cert_form.specs.cert_write.Readable.{IsNumber, IsId, IsState, IsWay, IsStated, AreParts, IsNode}
use Rattle.cert_form.proofs.Backs.{Back, EachBack, then_back, a_number_back, all_back}
use Rattle.cert_form.proofs.WordBacks.{AreNames}
use Rattle.cert_form.proofs.StateBacks.{two_back, state_back}

pub numbers_back : (ns : List ℕ) → All IsNumber ns → Back numbers_of (naturals ns) ns
unfolding numbers_of
numbers_back ns all place = all_back IsNumber a_number natural ns a_number_back all place

entry_back : (p : ℕ × ℕ) → IsId p.0 × IsId p.1 → Back map_entry (pair p) p
unfolding map_entry of_length count_of
entry_back p is place = two_back p is.0 is.1 place

map_back : (ps : List (ℕ × ℕ)) → All (λ p. IsId p.0 × IsId p.1) ps → Back map_of (pairs ps) ps
unfolding map_of
map_back ps all place = all_back (λ (p : ℕ × ℕ). IsId p.0 × IsId p.1) map_entry pair ps entry_back all place

by_back : (way : By) → IsWay way → Back by_of (by way) way
unfolding by_of longer_than count_of nth item_of a_word text_of of_length expand_of instance_of
by_back (Expand children) is place = then_back _ _ children _ (numbers_back children is _) refl
by_back (Instance target map) is place = then_back _ _ target _ (a_number_back target is.0 _)
    (then_back _ _ map _ (map_back map is.1 _) refl)
by_back End is place = refl
by_back Todo is place = absurd is

with_back : (names : List (List ℕ)) (lacks : Bool) (way : By) (state : Option AbstractState) → AreNames names → IsWay way
    → IsStated names lacks state → Back (node_with names lacks) (node names (record { state = state; by = way }))
    (record { state = state; by = way })
unfolding named_node whole_node only only_of least_unlisted first_missing field field_of
with_back names true way (Some state) all is stated place = absurd stated
with_back names true way None all is stated place = then_back _ _ way _ (by_back way is _) refl
with_back names false way (Some state) all is stated place = then_back _ _ way _ (by_back way is _)
    (then_back _ _ state _ (state_back names state all stated _) refl)
with_back names false way None all is stated place = absurd stated

pub node_back : (second : Bool) (names : List (List ℕ)) (front : List GraphPart) (part : GraphPart) → AreNames names → IsWay part.by
    → IsStated names (lacks_state second front) part.state → Back (node_in names second front) (node names part) part
unfolding node_in
node_back second names front part all is stated place = with_back names (lacks_state second front) part.by part.state all is stated place

pub each_part : (second : Bool) (names : List (List ℕ)) (front parts : List GraphPart) → AreNames names
    → AreParts second names front parts → EachBack (node_in names second) (node names) front parts
each_part second names front [] all are = tt
each_part second names front (part ∷ parts) all are =
    (node_back second names front part all are.0.0 are.0.1, each_part second names (front ++ part ∷ []) parts all are.1)

-- ---- the nodes of a graph

-- the nodes behind these; in form 2 each without its state where one in front of it names it
abbrev behind : Bool → List GraphPart → List GraphNode → List GraphPart
behind second front [] = []
behind second front (n ∷ rest) = part_of (lacks_state second front) n ∷ behind second
    (front ++ part_of (lacks_state second front) n ∷ []) rest

behind_is : (second : Bool) (front : List GraphPart) (graph : List GraphNode)
    → parts_from second front graph ≡ front ++ behind second front graph
behind_is second front [] = sym (append-nil front)
behind_is second front (n ∷ rest) = behind_is second (front ++ part_of (lacks_state second front) n ∷ []) rest
    ∙ append_assoc front (part_of (lacks_state second front) n ∷ [])
    (behind second (front ++ part_of (lacks_state second front) n ∷ []) rest)

stated : (names : List (List ℕ)) (lacks : Bool) (n : GraphNode) → IsState names n.state → IsStated names lacks (part_of lacks n).state
stated names true n is = tt
stated names false n is = is

behind_are : (second : Bool) (names : List (List ℕ)) (front : List GraphPart) (graph : List GraphNode) → All (IsNode names) graph
    → AreParts second names front (behind second front graph)
behind_are second names front [] all = tt
behind_are second names front (n ∷ rest) all =
    let first : IsNode names n = All-head (IsNode names) n rest all in (
      (first.way, stated names (lacks_state second front) n first.state),
      behind_are second names
          (front ++ part_of (lacks_state second front) n ∷ []) rest (All-tail (IsNode names) n rest all),
    )

pub graph_parts : (second : Bool) (names : List (List ℕ)) (graph : List GraphNode) → All (IsNode names) graph
    → AreParts second names [] (parts_from second [] graph)
graph_parts second names graph all = subst (λ (parts : List GraphPart). AreParts second names [] parts)
    (sym (behind_is second [] graph)) (behind_are second names [] graph all)

behind_count : (second : Bool) (front : List GraphPart) (graph : List GraphNode) → length (behind second front graph) ≡ length graph
behind_count second front [] = refl
behind_count second front (n ∷ rest) = ap (λ (m : ℕ). suc m)
    (behind_count second (front ++ part_of (lacks_state second front) n ∷ []) rest)

pub graph_count : (second : Bool) (graph : List GraphNode) → length (parts_from second [] graph) ≡ length graph
graph_count second graph = ap (λ (parts : List GraphPart). length parts) (behind_is second [] graph) ∙ behind_count second [] graph
