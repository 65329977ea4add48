-- What is written of a graph in either form has the graph's nodes, some without their states.
use Rattle.std.proofs.Common.{◌≡◌, ◌∙◌, ℕ, zero, suc, Bool, true, false, List, [], ◌∷◌, ◌++◌, map, Some, slice_get}
use Rattle.std.proofs.Common.{refl, sym, ap, subst}
use Rattle.std.proofs.lemmas.List.{append_assoc, append-nil}
use Rattle.std.proofs.lemmas.Option.{none-some, same_Some}
use Rattle.term_graph.specs.declared.nodes.By.{By}
use Rattle.term_graph.specs.Graphs.{GraphNode, GraphPart}
use Rattle.cert_form.specs.Certificates.{lacks_state}
use Rattle.cert_form.specs.cert_write.Data.{part_of, parts_from}
use Rattle.cert_verdict.specs.GraphFillLaws.{IsStateOrNone, ArePartsOf}

-- the parts behind those in front
abbrev rest_from : Bool → List GraphPart → List GraphNode → List GraphPart
rest_from second front [] = []
rest_from second front (n ∷ nodes) = let part = part_of (lacks_state second front) n in part ∷ rest_from second (front ++ part ∷ []) nodes

parts_are : (second : Bool) (front : List GraphPart) (nodes : List GraphNode)
    → parts_from second front nodes ≡ front ++ rest_from second front nodes
parts_are second front [] = sym (append-nil front)
parts_are second front (n ∷ nodes) =
    let part = part_of (lacks_state second front) n in
    parts_are second (front ++ part ∷ []) nodes ∙ append_assoc front (part ∷ []) (rest_from second (front ++ part ∷ []) nodes)

ways_same : (second : Bool) (front : List GraphPart) (nodes : List GraphNode)
    → map (λ (node : GraphNode). node.by) nodes ≡ map (λ (part : GraphPart). part.by) (rest_from second front nodes)
ways_same second front [] = refl
ways_same second front (n ∷ nodes) =
    ap (λ (ways : List By). n.by ∷ ways) (ways_same second (front ++ part_of (lacks_state second front) n ∷ []) nodes)

state_same : (lacks : Bool) (n : GraphNode) → IsStateOrNone (part_of lacks n).state n.state
state_same true n = tt
state_same false n = refl

states_same : (second : Bool) (front : List GraphPart) (nodes : List GraphNode) (k : ℕ) (part : GraphPart) (node : GraphNode)
    → slice_get (rest_from second front nodes) k ≡ Some part → slice_get nodes k ≡ Some node → IsStateOrNone part.state node.state
states_same second front [] k part node e f = absurd (none-some node f)
states_same second front (n ∷ nodes) zero part node e f =
    subst (λ (x : GraphPart). IsStateOrNone x.state node.state) (same_Some (part_of (lacks_state second front) n) part e)
    (subst (λ (x : GraphNode). IsStateOrNone (part_of (lacks_state second front) n).state x.state) (same_Some n node f)
    (state_same (lacks_state second front) n))
states_same second front (n ∷ nodes) (suc k) part node e f =
    states_same second (front ++ part_of (lacks_state second front) n ∷ []) nodes k part node e f

pub written_parts : (second : Bool) (nodes : List GraphNode) → ArePartsOf nodes (parts_from second [] nodes)
written_parts second nodes = subst (ArePartsOf nodes) (sym (parts_are second [] nodes)) (record {
  ways = ways_same second [] nodes;
  states = λ k part node e f. states_same second [] nodes k part node e f;
})
