-- The rule of a path, built edge by edge.
use Rattle.std.proofs.Common.{◌≡◌, ℕ, zero, suc, ◌+◌, ◌*◌, ◌<◌, ◌≤◌, ◌^◌, Bool, true, false, cond, List, [], ◌∷◌, ◌++◌}
use Rattle.std.proofs.Common.{length, map, drop, get_or, ℤ, pos, Option, Some, None, subst, ap, arith, refl, ◌∙◌, sym}
use Rattle.std.specs.Prelude.{slice_get, All}
use Rattle.std.specs.List.{AllByRecursion, flat_map}
use Rattle.std.specs.Option.{option_map, option_and_then, option_map_or}
use Rattle.std.proofs.Math.ListN.{drop_of_length-le}
use Rattle.std.proofs.Math.Seq.{drop-cons}
use Rattle.std.proofs.lemmas.Option.{slice_get-map, slice_get_within}
use Rattle.std.proofs.lemmas.List.{length-append, length-map, append_assoc, append-nil, get_or_default}
use Rattle.std.proofs.lemmas.List.Elements.{All-from_recursion, recursion_from_All}
use Rattle.list_views.proofs.Orders.{one_more}
use Rattle.list_views.proofs.Zipped.{zip_left}
use Rattle.list_views.proofs.Quantified.{all_at}
use Rattle.list_views.proofs.Options.{map_some, one_answer, then_some}
use Rattle.lin_core.specs.declared.rows.WRow.{WRow}
use Rattle.descent.specs.declared.rules.PathRule.{PathRule}
use Rattle.descent.specs.declared.rules.SlotForm.{SlotForm}
use Rattle.jvm_values.specs.declared.shape.Shape.TheVariants.{Tree, Dag, Any}
use Rattle.abs_cells.specs.declared.cells.Cell.{Cell}
use Rattle.abs_cells.specs.declared.cells.Cell.TheVariants.{Int, Null, Obj, Nums, Refs, Unk}
use Rattle.abs_cells.specs.AbstractStates.{AbstractState}
use Rattle.abs_cells.specs.Patterns.{Pattern}
use Rattle.abs_cells.specs.Sound.{IsWellFormed, AreIdsRising}
use Rattle.abs_reach.specs.Keys.{AreKeysRising}
use Rattle.term_graph.specs.declared.nodes.By.{By}
use Rattle.term_graph.specs.declared.nodes.By.TheVariants.{Expand, Instance, End, Todo}
use Rattle.term_graph.specs.declared.links.Side.{Side}
use Rattle.term_graph.specs.declared.links.Side.TheVariants.{Before, After}
use Rattle.term_graph.specs.declared.links.LinkRow.{LinkRow}
use Rattle.term_graph.specs.declared.links.Link.{Link}
use Rattle.term_graph.specs.Edges.{is_size_variable}
use Rattle.term_graph.specs.Graphs.{GraphNode, successors}
use Rattle.path_rules.specs.Paths.{edges, end_of, only_last, is_cut}
use Rattle.path_rules.specs.Stops.{Stop, Leg, child, instance, LinkedGraph, leg_by, leg_at, stop_at, ride_at, rides_from}
use Rattle.path_rules.specs.Rules.{is_variable, variables, variable_of, bounds_of, rows_of_stop, rows_of_leg, rows_along}
use Rattle.path_rules.specs.Rules.{last_along, variables_after, slots_of, at_least_zero}
use Rattle.path_rules.specs.Conditions.{IsTermBetween, IsRowBetween, IsGoodChild, IsGoodBy}
use Rattle.path_rules.specs.Conditions.{AreBounded}
use Rattle.path_rules.specs.inner.Building.{size_of_terms, AllBounded, AreKeyed, IsSmall, IsBegun, IsGone}
use Rattle.path_rules.specs.Conditions.{AreGood}
use Rattle.path_rules.specs.inner.Building.{IsRuleAlong, HasRides, links_at}
use Rattle.path_rules.specs.inner.Sizing.{sized, sized_graph, sizes_of}
use Rattle.path_rules.proofs.Finding.{ids_in_cells}

-- ---- states are well-formed, and maps are keyed

pub good_state : (graph : List GraphNode) (node : ℕ) (n : GraphNode) → All (λ (x : GraphNode). IsWellFormed x.state) graph
    → slice_get graph node ≡ Some n → IsWellFormed n.state
good_state graph node n states e = all_at (λ (x : GraphNode). IsWellFormed x.state) graph node n states e

-- ---- children are nodes, and links have small numbers

abbrev IsThere : List GraphNode → ℕ → Type 0
IsThere graph to = (m : GraphNode) × (slice_get graph to ≡ Some m)

pub good_at : (graph : List GraphNode) (links : List (List Link)) (node : ℕ) (n : GraphNode) → AreGood graph links
    → slice_get graph node ≡ Some n → (l : List Link) × ((slice_get links node ≡ Some l) × IsGoodBy graph n.state n.by l)
good_at graph links node n good e = zip_left (λ (x : GraphNode) (l : List Link). IsGoodBy graph x.state x.by l) graph links node n
    good.nodes e

keys_rise : (low : ℕ) (entries : List (ℕ × ℕ)) (cells : List (ℕ × Cell))
    → map (λ (entry : ℕ × ℕ). entry.0) entries ≡ map (λ (c : ℕ × Cell). c.0) cells → AreIdsRising low cells → AreKeysRising low entries
keys_rise low [] cells e rising = tt
keys_rise low (entry ∷ entries) [] e rising = absurd (cc)
keys_rise low (entry ∷ entries) (c ∷ cells) e rising =
    let first : c.0 ≡ entry.0 = cc in
    let rest : map (λ (x : ℕ × ℕ). x.0) entries ≡ map (λ (x : ℕ × Cell). x.0) cells = cc in
    let l = rising.0 in
    (omega (arith, l, first), keys_rise (suc entry.0) entries cells rest (subst (λ (n : ℕ). AreIdsRising (suc n) cells) first rising.1.1))

keyed_by : (graph : List GraphNode) (state : AbstractState) (by : By) (links : List Link) → IsGoodBy graph state by links → AreKeyed by
keyed_by graph state (Expand children) links good = tt
keyed_by graph state (Instance target entries) links good = keys_rise 0 entries good.0.state.cells good.1.1.lists.each good.1.1.lists.rise
keyed_by graph state End links good = tt
keyed_by graph state Todo links good = tt

pub keyed_at : (graph : List GraphNode) (links : List (List Link)) (node : ℕ) (n : GraphNode) → AreGood graph links
    → slice_get graph node ≡ Some n → AreKeyed n.by
keyed_at graph links node n good e =
    let l = good_at graph links node n good e in
    keyed_by graph n.state n.by l.0 l.1.1

-- the leg of an edge, and the node to which it leads
record IsLed (graph : List GraphNode) (by : By) (links : List Link) (place to : ℕ) : Type 0 where
  pub node : GraphNode
  pub leg : Leg
  pub there : slice_get graph to ≡ Some node
  pub leg_is : leg_by by links place ≡ Some leg

led_by : (graph : List GraphNode) (state : AbstractState) (by : By) (links : List Link) (place to : ℕ)
    → IsGoodBy graph state by links → slice_get (successors by) place ≡ Some to → IsLed graph by links place to
led_by graph state (Expand children) links place to good e =
    let l = zip_left (IsGoodChild graph state) children links place to good e in
    record { node = l.1.1.0; leg = child l.0; there = l.1.1.1.0; leg_is = ap (option_map child) l.1.0 }
led_by graph state (Instance target entries) links zero to good e =
    let is : target ≡ to = cc in
    record { node = good.0; leg = instance entries; there = subst (λ (x : ℕ). slice_get graph x ≡ Some good.0) is good.1.0; leg_is = refl }
led_by graph state (Instance target entries) links (suc place) to good e = absurd (cc)
led_by graph state End links place to good e = absurd (cc)
led_by graph state Todo links place to good e = absurd (cc)

pub leads_within : (graph : List GraphNode) (links : List (List Link)) (node place to : ℕ) (n : GraphNode) → AreGood graph links
    → slice_get graph node ≡ Some n → slice_get (successors n.by) place ≡ Some to → to < length graph
leads_within graph links node place to n good here e =
    let l = good_at graph links node n good here in
    let led = led_by graph n.state n.by l.0 place to l.1.1 e in
    slice_get_within graph to led.node led.there

few_terms : (state next : AbstractState) (terms : List (Side × ℕ × ℤ)) → AllByRecursion (IsTermBetween state next) terms
    → size_of_terms terms ≤ length terms * 2 ^ 33
few_terms state next [] all = omega arith
few_terms state next ((Before, id, number) ∷ terms) all = let more = few_terms state next terms all.1 in let k = all.0.1 in omega
    (arith, more, k)
few_terms state next ((After, id, number) ∷ terms) all = let more = few_terms state next terms all.1 in let k = all.0.1 in omega
    (arith, more, k)

small_row : (state next : AbstractState) (row : LinkRow) → IsRowBetween state next row → IsSmall row
small_row state next row is =
    let few = few_terms state next row.terms (recursion_from_All (IsTermBetween state next) row.terms is.terms) in
    let l = is.short in
    omega (arith, few, l)

all_small : (state next : AbstractState) (rows : List LinkRow) → AllByRecursion (IsRowBetween state next) rows
    → AllByRecursion IsSmall rows
all_small state next [] all = tt
all_small state next (row ∷ rows) all = (small_row state next row all.0, all_small state next rows all.1)

small_by : (graph : List GraphNode) (state : AbstractState) (by : By) (links : List Link) (place to : ℕ) (link : Link)
    → IsGoodBy graph state by links → slice_get (successors by) place ≡ Some to → leg_by by links place ≡ Some (child link)
    → All IsSmall link.rows
small_by graph state (Expand children) links place to link good e is =
    let l = zip_left (IsGoodChild graph state) children links place to good e in
    let f = map_some child (slice_get links place) (child link) is in
    let one = one_answer (slice_get links place) l.0 f.0 l.1.0 f.1.0 in
    let same = f.1.1 in
    let is_link : f.0 ≡ link = cc in
    subst (λ (x : Link). All IsSmall x.rows) (one ∙ is_link)
    (All-from_recursion IsSmall l.0.rows
    (all_small state l.1.1.0.state l.0.rows (recursion_from_All (IsRowBetween state l.1.1.0.state) l.0.rows l.1.1.1.1.rows)))
small_by graph state (Instance target entries) links place to link good e is = absurd (cc)
small_by graph state End links place to link good e is = absurd (cc)
small_by graph state Todo links place to link good e is = absurd (cc)

links_here : (links : List (List Link)) (node : ℕ) (l : List Link) → slice_get links node ≡ Some l → links_at links node ≡ l
links_here links node l e = ap (λ (o : Option (List Link)). option_map_or (λ (x : List Link). x) o []) e

pub links_small : (graph : List GraphNode) (links : List (List Link)) (node place to : ℕ) (n : GraphNode) → AreGood graph links
    → slice_get graph node ≡ Some n → slice_get (successors n.by) place ≡ Some to → (link : Link)
    → leg_by n.by (links_at links node) place ≡ Some (child link) → All IsSmall link.rows
links_small graph links node place to n good here e link is =
    let l = good_at graph links node n good here in
    small_by graph n.state n.by l.0 place to link l.1.1 e
    (ap (λ (x : List Link). leg_by n.by x place) (sym (links_here links node l.0 l.1.0)) ∙ is)

-- ---- one edge

stop_there : (graph : List GraphNode) (links : List (List Link)) (node : ℕ) (n : GraphNode) → slice_get graph node ≡ Some n
    → stop_at (sized_graph graph links) node ≡ Some (sized n.state)
stop_there graph links node n e =
    ap (option_and_then (λ (m : GraphNode). option_map (λ (s : List (ℕ × Pattern)). record { state = m.state; sizes = s })
    (slice_get (map (λ (x : GraphNode). sizes_of x.state) graph) node))) e
    ∙ ap (option_map (λ (s : List (ℕ × Pattern)). record { state = n.state; sizes = s }))
    (slice_get-map (λ (x : GraphNode). sizes_of x.state) graph node ∙ ap (option_map (λ (x : GraphNode). sizes_of x.state)) e)

pub is_over : (graph : List GraphNode) (links : List (List Link)) (at place to : ℕ) (node after : GraphNode) (first next : ℕ)
    (rows more : List WRow) → slice_get graph at ≡ Some node → slice_get (successors node.by) place ≡ Some to
    → slice_get graph to ≡ Some after → next ≡ variables_after first (sized node.state)
    → ((leg : Leg) → leg_by node.by (links_at links at) place ≡ Some leg
    → more ≡ (rows ++ rows_of_leg first (sized node.state) leg next (sized after.state)) ++ rows_of_stop next after.state)
    → AreBounded after.state → IsGone (sized_graph graph links) at place node first rows to after next more
is_over graph links at place to node after first next rows more here e there is made bounded other ride edge goes =
    let from = then_some (λ (x : GraphNode). slice_get (successors x.by) place) (slice_get graph at) other edge in
    let from_is = one_answer (slice_get graph at) from.0 node from.1.0 here in
    let to_is = one_answer (slice_get (successors node.by) place) to other e
    (subst (λ (x : GraphNode). slice_get (successors x.by) place ≡ Some other) from_is from.1.1) in
    let leg = then_some (λ (l : Leg). option_map (λ (s : Stop). (l, s)) (stop_at (sized_graph graph links) other))
    (leg_at (sized_graph graph links) at place) ride goes in
    let stop = map_some (λ (s : Stop). (leg.0, s)) (stop_at (sized_graph graph links) other) ride leg.1.1 in
    let n = then_some (λ (x : GraphNode). option_and_then (λ (ls : List Link). leg_by x.by ls place) (slice_get links at))
    (slice_get graph at) leg.0 leg.1.0 in
    let l = then_some (λ (ls : List Link). leg_by n.0.by ls place) (slice_get links at) leg.0 n.1.1 in
    let n_is = one_answer (slice_get graph at) n.0 node n.1.0 here in
    let leg_is : leg_by node.by (links_at links at) place ≡ Some leg.0 = ap (λ (x : List Link). leg_by node.by x place)
    (links_here links at l.0 l.1.0) ∙ subst (λ (x : GraphNode). leg_by x.by l.0 place ≡ Some leg.0) n_is l.1.1 in
    let stop_same = one_answer (stop_at (sized_graph graph links) other) stop.0 (sized after.state) stop.1.0
    (subst (λ (x : ℕ). stop_at (sized_graph graph links) x ≡ Some (sized after.state)) to_is
    (stop_there graph links to after there)) in
    let ride_leg : leg.0 ≡ ride.0 = ap (λ (r : Leg × Stop). r.0) stop.1.1 in
    let ride_stop : ride.1 ≡ sized after.state = sym (ap (λ (r : Leg × Stop). r.1) stop.1.1) ∙ stop_same in
    record {
      at_is = to_is;
      there = there;
      stop_is = ride_stop;
      next_is = is;
      rows_are = made leg.0 leg_is
          ∙ (append_assoc rows (rows_of_leg first (sized node.state) leg.0 next (sized after.state)) (rows_of_stop next after.state)
          ∙ (ap (λ (g : Leg). rows ++ (rows_of_leg first (sized node.state) g next (sized after.state) ++ rows_of_stop next
          after.state)) ride_leg
          ∙ ap (λ (s : Stop). rows ++ (rows_of_leg first (sized node.state) ride.0 next s ++ rows_of_stop next s.state)) (sym ride_stop)));
      bounded = bounded;
    }

-- ---- a stop has a row for each variable, and more

cell_long : (f : ℕ × Cell → ℕ) (c : ℕ × Cell) (cells : List (ℕ × Cell)) (n : ℕ)
    → length (ids_in_cells is_variable cells) ≤ n + length (ids_in_cells is_size_variable cells)
    → length (ids_in_cells is_variable (c ∷ cells)) ≤ length (bounds_of (f c) c.1) + n + length (ids_in_cells is_size_variable (c ∷ cells))
cell_long f (id, Int interval) cells n l = omega (arith, l)
cell_long f (id, Null) cells n l = omega (arith, l)
cell_long f (id, Obj class ids) cells n l = omega (arith, l)
cell_long f (id, Nums kind len) cells n l = omega (arith, l)
cell_long f (id, Refs element len shape) cells n l = omega (arith, l)
cell_long f (id, Unk bound nullable Tree) cells n l = omega (arith, l)
cell_long f (id, Unk bound nullable Dag) cells n l = omega (arith, l)
cell_long f (id, Unk bound nullable Any) cells n l = omega (arith, l)

cells_long : (f : ℕ × Cell → ℕ) (cells : List (ℕ × Cell)) → length (ids_in_cells is_variable cells) ≤ length
    (flat_map (λ (c : ℕ × Cell). bounds_of (f c) c.1) cells) + length (ids_in_cells is_size_variable cells)
cells_long f [] = omega arith
cells_long f (c ∷ cells) =
    let here = cell_long f c cells (length (flat_map (λ (d : ℕ × Cell). bounds_of (f d) d.1) cells)) (cells_long f cells) in
    let long = length-append (bounds_of (f c) c.1) (flat_map (λ (d : ℕ × Cell). bounds_of (f d) d.1) cells) in
    omega (arith, here, long)

pub stop_long : (first : ℕ) (state : AbstractState) → length (variables state) ≤ length (rows_of_stop first state)
stop_long first state =
    let here = cells_long (λ (c : ℕ × Cell). variable_of first state c.0) state.cells in
    let long = length-append (flat_map (λ (c : ℕ × Cell). bounds_of (variable_of first state c.0) c.1) state.cells)
    (map (λ (id : ℕ). at_least_zero ((variable_of first state id, pos 1) ∷ []) (pos 0)) (ids_in_cells is_size_variable state.cells)) in
    let same = length-map (ids_in_cells is_size_variable state.cells)
    (λ (id : ℕ). at_least_zero ((variable_of first state id, pos 1) ∷ []) (pos 0)) in
    omega (arith, here, long, same)

-- ---- a path

-- the rows behind those of a stop
abbrev pub rows_after : ℕ → Stop → List (Leg × Stop) → List WRow
rows_after first stop [] = []
rows_after first stop (ride ∷ rides) = rows_of_leg first stop ride.0 (variables_after first stop) ride.1
    ++ (rows_of_stop (variables_after first stop) ride.1.state ++ rows_after (variables_after first stop) ride.1 rides)

rows_split : (first : ℕ) (stop : Stop) (rides : List (Leg × Stop)) → rows_along first stop rides ≡ rows_of_stop first stop.state
    ++ rows_after first stop rides
rows_split first stop [] = sym (append-nil (rows_of_stop first stop.state))
rows_split first stop (ride ∷ rides) = ap
    (λ (r : List WRow). rows_of_stop first stop.state ++ (rows_of_leg first stop ride.0 (variables_after first stop) ride.1 ++ r))
    (rows_split (variables_after first stop) ride.1 rides)

-- where the building of a rule has come to
pub record IsRest (linked : LinkedGraph) (places : List ℕ) (at : ℕ) (state : AbstractState) (first : ℕ) (rows : List WRow)
    (start : Stop) (rides : List (Leg × Stop)) : Type 0 where
  pub rest : List (Leg × Stop)
  pub goes : rides_from linked at places ≡ Some rest
  pub rows_are : rows_along 0 start rides ≡ rows ++ rows_after first (sized state) rest
  pub last_is : last_along 0 start rides ≡ last_along first (sized state) rest
  pub start_bounded : AreBounded start.state
  pub bounded : AllBounded rest → AllBounded rides

pub record IsOnPath (graph : List GraphNode) (links : List (List Link)) (from : ℕ) (places left : List ℕ) (at : ℕ)
    (node : GraphNode) (first : ℕ) (rows : List WRow) : Type 0 where
  pub there : slice_get graph at ≡ Some node
  pub few : first + length (variables node.state) ≤ length rows
  pub on : (start : Stop) (rides : List (Leg × Stop)) → stop_at (sized_graph graph links) from ≡ Some start
      → rides_from (sized_graph graph links) from places ≡ Some rides → IsRest (sized_graph graph links) left at node.state first
      rows start rides

-- in the same graph
pub moved : {graph other : List GraphNode} {links : List (List Link)} {from : ℕ} {places left : List ℕ} {at : ℕ} {node : GraphNode}
    {first : ℕ} {rows : List WRow} → graph ≡ other → IsOnPath graph links from places left at node first rows
    → IsOnPath other links from places left at node first rows
moved {graph} {other} {links} {from} {places} {left} {at} {node} {first} {rows} same on = subst
    (λ (g : List GraphNode). IsOnPath g links from places left at node first rows) same on

pub path_begins : (graph : List GraphNode) (links : List (List Link)) (from : ℕ) (places : List ℕ) (node : GraphNode) (first : ℕ)
    (rows : List WRow) → IsBegun graph from node first rows → IsOnPath graph links from places places from node first rows
path_begins graph links from places node first rows begun =
    let long = stop_long 0 node.state in
    let zero_is = begun.first_is in
    let size = ap (λ (r : List WRow). length r) begun.rows_are in
    record {
      there = begun.there;
      few = omega (arith, long, zero_is, size);
      on = λ start rides starts goes.
          let same = one_answer (stop_at (sized_graph graph links) from) start (sized node.state) starts
          (stop_there graph links from node begun.there) in
          record {
            rest = rides;
            goes = goes;
            rows_are = ap (λ (s : Stop). rows_along 0 s rides) same
                ∙ (rows_split 0 (sized node.state) rides
                ∙ (ap (λ (r : List WRow). r ++ rows_after 0 (sized node.state) rides) (sym begun.rows_are)
                ∙ ap (λ (n : ℕ). rows ++ rows_after n (sized node.state) rides) (sym begun.first_is)));
            last_is = ap (λ (s : Stop). last_along 0 s rides) same ∙ ap (λ (n : ℕ). last_along n (sized node.state) rides)
                (sym begun.first_is);
            start_bounded = subst (λ (s : Stop). AreBounded s.state) (sym same) begun.bounded;
            bounded = λ b. b;
          };
    }

-- the first of some edges
record IsFirst (linked : LinkedGraph) (at place : ℕ) (left : List ℕ) (rides : List (Leg × Stop)) : Type 0 where
  pub to : ℕ
  pub ride : Leg × Stop
  pub rest : List (Leg × Stop)
  pub edge : edges linked.graph at place ≡ Some to
  pub taken : ride_at linked at place to ≡ Some ride
  pub goes : rides_from linked to left ≡ Some rest
  pub are : ride ∷ rest ≡ rides

first_of : (linked : LinkedGraph) (at place : ℕ) (left : List ℕ) (rides : List (Leg × Stop))
    → rides_from linked at (place ∷ left) ≡ Some rides → IsFirst linked at place left rides
first_of linked at place left rides e =
    let to = then_some (λ (to : ℕ). option_and_then
    (λ (ride : Leg × Stop). option_map (λ (more : List (Leg × Stop)). ride ∷ more) (rides_from linked to left))
    (ride_at linked at place to)) (edges linked.graph at place) rides e in
    let ride = then_some (λ (ride : Leg × Stop). option_map (λ (more : List (Leg × Stop)). ride ∷ more)
    (rides_from linked to.0 left)) (ride_at linked at place to.0) rides to.1.1 in
    let rest = map_some (λ (more : List (Leg × Stop)). ride.0 ∷ more) (rides_from linked to.0 left) rides ride.1.1 in
    record { to = to.0; ride = ride.0; rest = rest.0; edge = to.1.0; taken = ride.1.0; goes = rest.1.0; are = rest.1.1 }

rest_over : (graph : List GraphNode) (links : List (List Link)) (place : ℕ) (left : List ℕ) (at after_at : ℕ)
    (node after : GraphNode) (first next : ℕ) (rows more : List WRow) (start : Stop) (rides : List (Leg × Stop))
    → IsGone (sized_graph graph links) at place node first rows after_at after next more
    → IsRest (sized_graph graph links) (place ∷ left) at node.state first rows start rides
    → IsRest (sized_graph graph links) left after_at after.state next more start rides
rest_over graph links place left at after_at node after first next rows more start rides gone is =
    let f = first_of (sized_graph graph links) at place left is.rest is.goes in
    let over = gone f.to f.ride f.edge f.taken in
    let tail = rows_after (variables_after first (sized node.state)) f.ride.1 f.rest in
    record {
      rest = f.rest;
      goes = ap (λ (n : ℕ). rides_from (sized_graph graph links) n left) over.at_is ∙ f.goes;
      rows_are =
          is.rows_are ∙ (ap (λ (r : List (Leg × Stop)). rows ++ rows_after first (sized node.state) r) (sym f.are)
          ∙ (ap (λ (n : ℕ). rows
          ++ (rows_of_leg first (sized node.state) f.ride.0 n f.ride.1
          ++ (rows_of_stop n f.ride.1.state ++ rows_after n f.ride.1 f.rest))) (sym over.next_is)
          ∙ (joined rows (rows_of_leg first (sized node.state) f.ride.0 next f.ride.1) (rows_of_stop next f.ride.1.state)
          (rows_after next f.ride.1 f.rest)
          ∙ (ap (λ (r : List WRow). r ++ rows_after next f.ride.1 f.rest) (sym over.rows_are)
          ∙ ap (λ (s : Stop). more ++ rows_after next s f.rest) over.stop_is))));
      last_is =
          is.last_is ∙ (ap (last_along first (sized node.state)) (sym f.are)
          ∙ (ap (λ (n : ℕ). last_along n f.ride.1 f.rest) (sym over.next_is)
          ∙ ap (λ (s : Stop). last_along next s f.rest) over.stop_is));
      start_bounded = is.start_bounded;
      bounded = λ b. is.bounded (subst AllBounded f.are (subst (λ (s : Stop). AreBounded s.state) (sym over.stop_is) over.bounded, b));
    }
  where
    joined : (a b c d : List WRow) → a ++ (b ++ (c ++ d)) ≡ (a ++ (b ++ c)) ++ d
    joined a b c d = ap (λ (x : List WRow). a ++ x) (sym (append_assoc b c d)) ∙ sym (append_assoc a (b ++ c) d)

-- the number of rows that the building of a rule has, and more, are the path's
pub path_goes_on : (graph : List GraphNode) (links : List (List Link)) (from : ℕ) (places : List ℕ) (place : ℕ) (left : List ℕ)
    (at after_at : ℕ) (node after : GraphNode) (first next : ℕ) (rows more : List WRow)
    → HasRides (sized_graph graph links) from places → IsGone (sized_graph graph links) at place node first rows after_at after next
    more → IsOnPath graph links from places (place ∷ left) at node first rows → IsOnPath graph links from places left after_at after
    next more
path_goes_on graph links from places place left at after_at node after first next rows more has gone on =
    let here = on.on has.start has.rides has.starts has.goes in
    let f = first_of (sized_graph graph links) at place left here.rest here.goes in
    let over = gone f.to f.ride f.edge f.taken in
    let few = on.few in
    let is = over.next_is in
    let size = ap (λ (r : List WRow). length r) over.rows_are in
    let leg = rows_of_leg first (sized node.state) f.ride.0 next f.ride.1 in
    let stop = rows_of_stop next f.ride.1.state in
    let long = length-append rows (leg ++ stop) in
    let more_long = length-append leg stop in
    let stops = stop_long next after.state in
    let same : length stop ≡ length (rows_of_stop next after.state) = ap (λ (s : Stop). length (rows_of_stop next s.state)) over.stop_is in
    record {
      there = over.there;
      few = omega (arith, few, is, size, long, more_long, stops, same);
      on = λ start rides starts goes. rest_over graph links place left at after_at node after first next rows more start rides gone
          (on.on start rides starts goes);
    }

-- too many rows so far
pub too_long : (graph : List GraphNode) (links : List (List Link)) (from to : ℕ) (places left : List ℕ) (at : ℕ) (node : GraphNode)
    (first : ℕ) (rows : List WRow) → IsOnPath graph links from places left at node first rows → 65536 < length rows
    → IsRuleAlong (sized_graph graph links) from to places None
too_long graph links from to places left at node first rows on l start rides starts goes =
    let here = on.on start rides starts goes in
    let size = ap (λ (r : List WRow). length r) here.rows_are in
    let long = length-append rows (rows_after first (sized node.state) here.rest) in
    omega (arith, l, size, long)

abbrev rule_at : ℕ → ℕ → ℕ → List WRow → List SlotForm → List SlotForm → PathRule
rule_at from to vars rows first last = record { from = from; to = to; vars = vars; rows = rows; first = first; last = last }

-- the path's end
pub path_ends : (graph : List GraphNode) (links : List (List Link)) (from to : ℕ) (places : List ℕ) (start_node : GraphNode)
    (at : ℕ) (node : GraphNode) (first : ℕ) (rows : List WRow) (rule : PathRule) → slice_get graph from ≡ Some start_node
    → IsOnPath graph links from places [] at node first rows → length rows ≤ 65536
    → rule ≡ record {
      from = from;
      to = to;
      vars = first + length (variables node.state);
      rows = rows;
      first = slots_of 0
          (sized start_node.state);
      last = slots_of first (sized node.state);
    } → IsRuleAlong (sized_graph graph links) from to places
    (Some rule)
path_ends graph links from to places start_node at node first rows rule begins on l is start rides starts goes =
    let here = on.on start rides starts goes in
    let none : here.rest ≡ [] = sym (nothing here.rest here.goes) in
    let same = one_answer (stop_at (sized_graph graph links) from) start (sized start_node.state) starts
    (stop_there graph links from start_node begins) in
    let all : rows_along 0 start rides ≡ rows = here.rows_are
    ∙ (ap (λ (r : List (Leg × Stop)). rows ++ rows_after first (sized node.state) r) none ∙ append-nil rows) in
    let end : last_along 0 start rides ≡ (first, sized node.state) = here.last_is ∙ ap (last_along first (sized node.state)) none in (
      is
          ∙ (ap (λ (r : List WRow). rule_at from to (first + length (variables node.state)) r (slots_of 0 (sized start_node.state))
          (slots_of first (sized node.state))) (sym all)
          ∙ (ap (λ (s : Stop). rule_at from to (first + length (variables node.state)) (rows_along 0 start rides) (slots_of 0 s)
          (slots_of first (sized node.state))) (sym same)
          ∙ ap (λ (e : ℕ × Stop). rule_at from to (variables_after e.0 e.1) (rows_along 0 start rides) (slots_of 0 start)
          (slots_of e.0 e.1)) (sym end))),
      (subst (λ (r : PathRule). length r.rows ≤ 65536) (sym is) l, (here.start_bounded, here.bounded (subst AllBounded (sym none) tt))),
    )
  where
    nothing : (rest : List (Leg × Stop)) → rides_from (sized_graph graph links) at [] ≡ Some rest → [] ≡ rest
    nothing rest e = cc

-- ---- a path's edges are there

rides_over : (graph : List GraphNode) (links : List (List Link)) (node place to : ℕ) (n : GraphNode) → AreGood graph links
    → slice_get graph node ≡ Some n → edges graph node place ≡ Some to → (ride : Leg × Stop)
    × ((ride_at (sized_graph graph links) node place to ≡ Some ride) × IsThere graph to)
rides_over graph links node place to n good here e =
    let l = good_at graph links node n good here in
    let f = then_some (λ (x : GraphNode). slice_get (successors x.by) place) (slice_get graph node) to e in
    let f_is = one_answer (slice_get graph node) f.0 n f.1.0 here in
    let led = led_by graph n.state n.by l.0 place to l.1.1
    (subst (λ (x : GraphNode). slice_get (successors x.by) place ≡ Some to) f_is f.1.1) in
    let leg : leg_at (sized_graph graph links) node place ≡ Some led.leg =
    ap (option_and_then (λ (x : GraphNode). option_and_then (λ (ls : List Link). leg_by x.by ls place) (slice_get links node))) here
    ∙ (ap (option_and_then (λ (ls : List Link). leg_by n.by ls place)) l.1.0 ∙ led.leg_is) in (
      (led.leg, sized led.node.state),
      (
        ap (option_and_then (λ (g : Leg). option_map (λ (s : Stop). (g, s)) (stop_at (sized_graph graph links) to))) leg
            ∙ ap (option_map (λ (s : Stop). (led.leg, s))) (stop_there graph links to led.node led.there),
        (led.node, led.there),
      ),
    )

rides_on : (graph : List GraphNode) (links : List (List Link)) (node place to : ℕ) (left : List ℕ) (n : GraphNode)
    → AreGood graph links → slice_get graph node ≡ Some n → edges graph node place ≡ Some to
    → (IsThere graph to → (rest : List (Leg × Stop)) × (rides_from (sized_graph graph links) to left ≡ Some rest))
    → (rides : List (Leg × Stop)) × (rides_from (sized_graph graph links) node (place ∷ left) ≡ Some rides)
rides_on graph links node place to left n good here e later =
    let over = rides_over graph links node place to n good here e in
    let rest = later over.1.1 in (
      over.0 ∷ rest.0,
      ap (option_and_then (λ (t : ℕ). option_and_then
          (λ (ride : Leg × Stop). option_map (λ (more : List (Leg × Stop)). ride ∷ more)
          (rides_from (sized_graph graph links) t left)) (ride_at (sized_graph graph links) node place t))) e
          ∙ (ap (option_and_then
          (λ (ride : Leg × Stop). option_map (λ (more : List (Leg × Stop)). ride ∷ more)
          (rides_from (sized_graph graph links) to left))) over.1.0
          ∙ ap (option_map (λ (more : List (Leg × Stop)). over.0 ∷ more)) rest.1),
    )

rides_by : (graph : List GraphNode) (links : List (List Link)) (cuts : List ℕ) (place end : ℕ) (left : List ℕ) (node : ℕ)
    (n : GraphNode) (o : Option ℕ) → AreGood graph links → slice_get graph node ≡ Some n → edges graph node place ≡ o
    → option_and_then (λ (t : ℕ). cond (is_cut cuts t) (only_last left t) (end_of graph cuts t left)) o ≡ Some end
    → ((to : ℕ) → end_of graph cuts to left ≡ Some end → IsThere graph to → (rest : List (Leg × Stop))
    × (rides_from (sized_graph graph links) to left ≡ Some rest)) → (rides : List (Leg × Stop))
    × (rides_from (sized_graph graph links) node (place ∷ left) ≡ Some rides)
rides_by graph links cuts place end left node n None good here e k later = absurd (cc)
rides_by graph links cuts place end left node n (Some to) good here e k later = rides_on graph links node place to left n good here
    e (λ there. at left (is_cut cuts to) k later there)
  where
    at : (w : List ℕ) (b : Bool) → cond b (only_last w to) (end_of graph cuts to w) ≡ Some end
        → ((t : ℕ) → end_of graph cuts t w ≡ Some end → IsThere graph t → (rest : List (Leg × Stop))
        × (rides_from (sized_graph graph links) t w ≡ Some rest)) → IsThere graph to → (rest : List (Leg × Stop))
        × (rides_from (sized_graph graph links) to w ≡ Some rest)
    at [] true g more there = ([], refl)
    at (x ∷ w) true g more there = absurd (cc)
    at w false g more there = more to g there

rides_there : (graph : List GraphNode) (links : List (List Link)) (cuts : List ℕ) (places : List ℕ) (node end : ℕ)
    → AreGood graph links → IsThere graph node → end_of graph cuts node places ≡ Some end → (rides : List (Leg × Stop))
    × (rides_from (sized_graph graph links) node places ≡ Some rides)
rides_there graph links cuts [] node end good there e = ([], refl)
rides_there graph links cuts (place ∷ left) node end good there e = rides_by graph links cuts place end left node there.0
    (edges graph node place) good there.1 refl e (λ to k more. rides_there graph links cuts left to end good more k)

pub has_rides : (graph : List GraphNode) (links : List (List Link)) (cuts places : List ℕ) (from end : ℕ) → AreGood graph links
    → from < length graph → end_of graph cuts from places ≡ Some end → HasRides (sized_graph graph links) from places
has_rides graph links cuts places from end good l e = at (slice_get graph from) refl
  where
    at : (o : Option GraphNode) → slice_get graph from ≡ o → HasRides (sized_graph graph links) from places
    at None k = absurd (none_at graph from l k)
      where
        none_at : (xs : List GraphNode) (n : ℕ) → n < length xs → slice_get xs n ≡ None → ⊥
        none_at [] n l k = omega (arith, l)
        none_at (x ∷ xs) zero l k = cc
        none_at (x ∷ xs) (suc n) l k = none_at xs n (omega (arith, l)) k
    at (Some n) k =
        let rides = rides_there graph links cuts places from end good (n, k) e in
        record { start = sized n.state; rides = rides.0; starts = stop_there graph links from n k; goes = rides.1 }

-- ---- along a list of edges

pub path_steps : (graph : List GraphNode) (links : List (List Link)) (from : ℕ) (places : List ℕ) (i place : ℕ) (at after_at : ℕ)
    (node after : GraphNode) (first next : ℕ) (rows more : List WRow) → i < length places → place ≡ get_or places i place
    → HasRides (sized_graph graph links) from places → IsGone (sized_graph graph links) at place node first rows after_at after next
    more → IsOnPath graph links from places (drop i places) at node first rows
    → IsOnPath graph links from places (drop (i + 1) places) after_at after next more
path_steps graph links from places i place at after_at node after first next rows more l is has gone on =
    let here : drop i places ≡ place ∷ drop (suc i) places = drop-cons places i place l
    ∙ ap (λ (p : ℕ). p ∷ drop (suc i) places) (sym is) in
    subst (λ (n : ℕ). IsOnPath graph links from places (drop n places) after_at after next more) (one_more i)
    (path_goes_on graph links from places place (drop (suc i) places) at after_at node after first next rows more has gone
    (subst (λ (left : List ℕ). IsOnPath graph links from places left at node first rows) here on))

-- the places are gone through as the items of a list
pub path_steps_by : (graph : List GraphNode) (links : List (List Link)) (from : ℕ) (items places : List ℕ) (i place d : ℕ)
    (at after_at : ℕ) (node after : GraphNode) (first next : ℕ) (rows more : List WRow) → items ≡ places → i < length items
    → place ≡ get_or items i d → HasRides (sized_graph graph links) from places
    → IsGone (sized_graph graph links) at place node first rows after_at after next more
    → IsOnPath graph links from places (drop i places) at node first rows → IsOnPath graph links from places (drop (i + 1) places)
    after_at after next more
path_steps_by graph links from items places i place d at after_at node after first next rows more same l is has gone on =
    let long = ap (λ (p : List ℕ). length p) same in
    path_steps graph links from places i place at after_at node after first next rows more (omega (arith, l, long))
    (is ∙ (get_or_default items i d place l ∙ ap (λ (p : List ℕ). get_or p i place) same)) has gone on

pub gone_moved : (graph other : List GraphNode) (links : List (List Link)) (at place : ℕ) (node : GraphNode) (first : ℕ)
    (rows : List WRow) (after_at : ℕ) (after : GraphNode) (next : ℕ) (more : List WRow) → graph ≡ other
    → IsGone (sized_graph graph links) at place node first rows after_at after next more
    → IsGone (sized_graph other links) at place node first rows after_at after next more
gone_moved graph other links at place node first rows after_at after next more same gone = subst
    (λ (g : List GraphNode). IsGone (sized_graph g links) at place node first rows after_at after next more) same gone

pub path_done : (graph : List GraphNode) (links : List (List Link)) (from to : ℕ) (places : List ℕ) (i : ℕ) (start_node : GraphNode)
    (at : ℕ) (node : GraphNode) (first : ℕ) (rows : List WRow) (slots last : List SlotForm) (rule : PathRule) → length places ≤ i
    → slice_get graph from ≡ Some start_node → slots ≡ slots_of 0 (sized start_node.state)
    → IsOnPath graph links from places (drop i places) at node first rows → length rows ≤ 65536
    → last ≡ slots_of first (sized node.state)
    → rule ≡ record { from = from; to = to; vars = first + length (variables node.state); rows = rows; first = slots; last = last }
    → IsRuleAlong (sized_graph graph links) from to places (Some rule)
path_done graph links from to places i start_node at node first rows slots last rule l begins first_is on few last_is is =
    path_ends graph links from to places start_node at node first rows rule begins
    (subst (λ (left : List ℕ). IsOnPath graph links from places left at node first rows) (drop_of_length-le places l) on) few
    (is ∙ (ap (λ (s : List SlotForm). rule_at from to (first + length (variables node.state)) rows s last) first_is
    ∙ ap (λ (s : List SlotForm). rule_at from to (first + length (variables node.state)) rows (slots_of 0 (sized start_node.state))
    s) last_is))

-- what the step over an edge asks for
pub path_here : (graph : List GraphNode) (links : List (List Link)) (from : ℕ) (places left : List ℕ) (at : ℕ) (node : GraphNode)
    (first : ℕ) (rows : List WRow) → IsOnPath graph links from places left at node first rows → slice_get graph at ≡ Some node
path_here graph links from places left at node first rows on = on.there

pub path_few : (graph : List GraphNode) (links : List (List Link)) (from : ℕ) (places left : List ℕ) (at : ℕ) (node : GraphNode)
    (first : ℕ) (rows : List WRow) → IsOnPath graph links from places left at node first rows → length rows ≤ 65536
    → first + length (variables node.state) ≤ 65536
path_few graph links from places left at node first rows on l = let few = on.few in omega (arith, few, l)
