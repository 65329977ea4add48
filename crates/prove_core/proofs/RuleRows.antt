-- The equations of a rule's rows are short.
use Rattle.std.proofs.Common.{◌≡◌, ℕ, ◌+◌, ◌≤◌, List, [], ◌∷◌, ◌++◌, length, map, ℤ, pos, negsuc, Option, Some, None, refl, ap}
use Rattle.std.proofs.Common.{subst, arith}
use Rattle.std.specs.Prelude.{All, filter, slice_get, unsigned_abs}
use Rattle.std.specs.List.{AllByRecursion, flat_map}
use Rattle.std.specs.Option.{option_and_then}
use Rattle.std.proofs.lemmas.List.Elements.{recursion_from_All}
use Rattle.std.proofs.lemmas.List.{length-map}
use Rattle.list_views.proofs.Quantified.{all_at, all_joined, all_flat}
use Rattle.list_views.proofs.Options.{map_some, then_some}
use Rattle.lin_core.specs.declared.rows.WRow.{WRow}
use Rattle.lin_core.specs.Weights.{total_size}
use Rattle.abs_cells.specs.declared.cells.Cell.{Cell}
use Rattle.abs_cells.specs.declared.cells.Cell.TheVariants.{Int, Null, Obj, Nums, Refs, Unk}
use Rattle.abs_cells.specs.AbstractStates.{AbstractState}
use Rattle.abs_cells.specs.Cells.{is_int}
use Rattle.abs_cells.specs.Patterns.{Pattern, null, leaf, node, variable, count_in}
use Rattle.abs_reach.specs.Instances.{image_in}
use Rattle.term_graph.specs.declared.nodes.By.{By}
use Rattle.term_graph.specs.declared.nodes.By.TheVariants.{Expand, Instance, End, Todo}
use Rattle.term_graph.specs.declared.links.Side.{Side}
use Rattle.term_graph.specs.declared.links.LinkRow.{LinkRow}
use Rattle.term_graph.specs.declared.links.Link.{Link}
use Rattle.term_graph.specs.Edges.{is_size_variable, id_after}
use Rattle.term_enc.specs.Sizes.{collected, each_times, variables_in, size_row}
use Rattle.term_graph.specs.Graphs.{GraphNode}
use Rattle.abs_turns.proofs.OptionLists.{each_any}
use Rattle.path_rules.specs.Stops.{Stop, Leg, child, instance, LinkedGraph, pattern_in, leg_by, leg_at, rides_from}
use Rattle.path_rules.specs.Rules.{at_least_zero, ids_with, variable_of, variable_at, bounds_of, rows_of_stop, tie, has_int}
use Rattle.path_rules.specs.Rules.{link_row, rows_of_size, rows_of_child, image_row, image_size_row, rows_of_instance, rows_of_leg}
use Rattle.path_rules.specs.Rules.{variables_after, rows_along}
use Rattle.path_rules.specs.Conditions.{IsRowBetween, IsLinkBetween}
use Rattle.path_rules.proofs.Adding.{few_variables_among}
use Rattle.path_rules.proofs.Fitting.{pattern_small}
use Rattle.path_rules.proofs.Walking.{IsGoodStop, sized_by, IsGoodLeg, AreGoodAlong, good_first}
use Rattle.path_rules.proofs.Ready.{no_rides, ride_first}
use Rattle.rank_forms.specs.Graphs.{IsShort}
use Rattle.prove_core.specs.ShortLinks.{IsShortRow, IsShortLink, AreShortLinks}
use Rattle.prove_core.proofs.Collected.{collected_within, three_collected}

abbrev AreShort : List WRow → Type 0
AreShort rows = AllByRecursion IsShort rows

-- ---- rows of a stop

at_least_short : (terms : List (ℕ × ℤ)) (constant : ℤ) → IsShort (at_least_zero terms constant)
at_least_short terms constant = record { low = λ kind weights a b c e. absurd (cc) }

bounds_short : (v : ℕ) (cell : Cell) → AreShort (bounds_of v cell)
bounds_short v (Int interval) = (at_least_short _ _, (at_least_short _ _, tt))
bounds_short v Null = tt
bounds_short v (Obj class ids) = tt
bounds_short v (Nums kind len) = tt
bounds_short v (Refs element len shape) = tt
bounds_short v (Unk bound nullable shape) = tt

stop_short : (first : ℕ) (state : AbstractState) → AreShort (rows_of_stop first state)
stop_short first state =
    all_joined IsShort (flat_map (λ (c : ℕ × Cell). bounds_of (variable_of first state c.0) c.1) state.cells)
    (map (λ (id : ℕ). at_least_zero ((variable_of first state id, pos 1) ∷ []) (pos 0)) (ids_with is_size_variable state))
    (all_flat IsShort (λ (c : ℕ × Cell). bounds_of (variable_of first state c.0) c.1) state.cells
    (λ c. bounds_short (variable_of first state c.0) c.1))
    (each_any IsShort (λ (id : ℕ). at_least_zero ((variable_of first state id, pos 1) ∷ []) (pos 0))
    (ids_with is_size_variable state) (λ id. at_least_short ((variable_of first state id, pos 1) ∷ []) (pos 0)))

-- ---- rows of an edge

tie_short : (v w : ℕ) → IsShort (tie v w)
tie_short v w = record {
  low = λ kind weights a b c e. three_collected ((v, pos 1) ∷ (w, negsuc 0) ∷ []) (omega arith)
      (λ three. absurd (omega (arith, three))) a b c e;
}

-- three terms of a link, over variables
three_named : (name : Side × ℕ × ℤ → ℕ) (terms : List (Side × ℕ × ℤ)) → length terms ≡ 3
    → ((a b c : Side × ℕ × ℤ) → terms ≡ a ∷ b ∷ c ∷ [] → unsigned_abs a.2 + (unsigned_abs b.2 + unsigned_abs c.2) ≤ 4096)
    → total_size (map (λ (term : Side × ℕ × ℤ). (name term, term.2)) terms) ≤ 4096
three_named name [] three small = absurd (omega (arith, three))
three_named name (a ∷ []) three small = absurd (omega (arith, three))
three_named name (a ∷ b ∷ []) three small = absurd (omega (arith, three))
three_named name (a ∷ b ∷ c ∷ []) three small = let most = small a b c refl in omega (arith, most)
three_named name (a ∷ b ∷ c ∷ d ∷ rest) three small = absurd (omega (arith, three))

link_short : (before after : ℕ → ℕ) (row : LinkRow) → length row.terms ≤ 3 → IsShortRow row → IsShort (link_row before after row)
link_short before after row few small =
    let name : Side × ℕ × ℤ → ℕ = λ (term : Side × ℕ × ℤ). variable_at before after term.0 term.1 in
    let terms = map (λ (term : Side × ℕ × ℤ). (name term, term.2)) row.terms in
    let long : length terms ≡ length row.terms = length-map row.terms (λ (term : Side × ℕ × ℤ). (name term, term.2)) in
    record {
      low = λ kind weights a b c e. three_collected terms (omega (arith, long, few))
          (λ three. three_named name row.terms (omega (arith, long, three)) (small kind)) a b c e;
    }

links_short : (state other : AbstractState) (before after : ℕ → ℕ) (rows : List LinkRow)
    → AllByRecursion (IsRowBetween state other) rows → AllByRecursion IsShortRow rows → AreShort (map (link_row before after) rows)
links_short state other before after [] between small = tt
links_short state other before after (row ∷ rows) between small =
    (link_short before after row between.0.short small.0, links_short state other before after rows between.1 small.1)

-- the terms of a size are few
pub few_size_terms : (v : ℕ) (place : ℕ → ℕ) (pattern : Pattern) → count_in pattern ≤ 4096
    → total_size (collected ((v, pos 1) ∷ each_times (negsuc 0) (map place (variables_in pattern)))) ≤ 4096
few_size_terms v place pattern few =
    let w = (collected_within ((v, pos 1) ∷ each_times (negsuc 0) (map place (variables_in pattern)))).size_is in
    let each = once_each place (variables_in pattern) in
    let short = names_short pattern few in
    omega (arith, w, each, short)
  where
    once_each : (f : ℕ → ℕ) (names : List ℕ) → total_size (each_times (negsuc 0) (map f names)) ≡ length names
    once_each f [] = refl
    once_each f (name ∷ names) = let rest = once_each f names in omega (arith, rest)

    names_short : (p : Pattern) → count_in p ≤ 4096 → length (variables_in p) ≤ 4095
    names_short null l = omega arith
    names_short leaf l = omega arith
    names_short (node class children) l = let h = few_variables_among children in omega (arith, h, l)
    names_short (variable id) l = omega arith

size_short : (v : ℕ) (place : ℕ → ℕ) (pattern : Pattern) → count_in pattern ≤ 4096 → IsShort (size_row v place pattern)
size_short v place pattern few = record {
  low = λ kind weights a b c e.
      let small = few_size_terms v place pattern few in
      let sum : total_size (collected ((v, pos 1) ∷ each_times (negsuc 0) (map place (variables_in pattern))))
      ≡ unsigned_abs a.1 + (unsigned_abs b.1 + (unsigned_abs c.1 + 0)) = ap total_size e in
      (omega (arith, small, sum), omega (arith, small, sum), omega (arith, small, sum));
}

found_short : (v first : ℕ) (stop : Stop) (id : ℕ) (found : Option Pattern) → IsGoodStop stop → pattern_in stop.sizes id ≡ found
    → AreShort (rows_of_size v first stop.state found)
found_short v first stop id None good e = tt
found_short v first stop id (Some pattern) good e =
    (size_short v (variable_of first stop.state) pattern (pattern_small stop.state id pattern (sized_by stop id pattern good e)), tt)

child_short : (first next : ℕ) (stop after : Stop) (link : Link) → IsGoodStop after → IsLinkBetween stop.state after.state link
    → IsShortLink link → AreShort (rows_of_child first stop link next after)
child_short first next stop after link good between small =
    let ties = map (λ (id : ℕ). tie (variable_of first stop.state id) (variable_of next after.state id))
    (filter (has_int after.state) (ids_with is_int stop.state)) in
    let linked = map (link_row (variable_of first stop.state) (variable_of next after.state)) link.rows in
    let size : ℕ → List WRow = λ (id : ℕ). rows_of_size (variable_of first stop.state id) next after.state
    (pattern_in after.sizes (id_after link.merged id)) in
    all_joined IsShort ties (linked ++ flat_map size (ids_with is_size_variable stop.state))
    (each_any IsShort (λ (id : ℕ). tie (variable_of first stop.state id) (variable_of next after.state id))
    (filter (has_int after.state) (ids_with is_int stop.state))
    (λ id. tie_short (variable_of first stop.state id) (variable_of next after.state id)))
    (all_joined IsShort linked (flat_map size (ids_with is_size_variable stop.state))
    (links_short stop.state after.state (variable_of first stop.state) (variable_of next after.state) link.rows
    (recursion_from_All (IsRowBetween stop.state after.state) link.rows between.rows)
    (recursion_from_All IsShortRow link.rows small))
    (all_flat IsShort size (ids_with is_size_variable stop.state)
    (λ id. found_short (variable_of first stop.state id) next after (id_after link.merged id)
    (pattern_in after.sizes (id_after link.merged id)) good refl)))

image_short : (first v : ℕ) (stop : Stop) (found : Option ℕ) → AreShort (image_row first stop v found)
image_short first v stop None = tt
image_short first v stop (Some image) = (tie_short v (variable_of first stop.state image), tt)

image_size_short : (first v : ℕ) (stop : Stop) (found : Option ℕ) → IsGoodStop stop → AreShort (image_size_row first stop v found)
image_size_short first v stop None good = tt
image_size_short first v stop (Some image) good = found_short v first stop image (pattern_in stop.sizes image) good refl

instance_short : (first next : ℕ) (stop target : Stop) (entries : List (ℕ × ℕ)) → IsGoodStop stop
    → AreShort (rows_of_instance first stop entries next target)
instance_short first next stop target entries good =
    all_joined IsShort (flat_map (λ (id : ℕ). image_row first stop (variable_of next target.state id) (image_in entries id))
    (ids_with is_int target.state))
    (flat_map (λ (id : ℕ). image_size_row first stop (variable_of next target.state id) (image_in entries id))
    (ids_with is_size_variable target.state))
    (all_flat IsShort (λ (id : ℕ). image_row first stop (variable_of next target.state id) (image_in entries id))
    (ids_with is_int target.state) (λ id. image_short first (variable_of next target.state id) stop (image_in entries id)))
    (all_flat IsShort (λ (id : ℕ). image_size_row first stop (variable_of next target.state id) (image_in entries id))
    (ids_with is_size_variable target.state)
    (λ id. image_size_short first (variable_of next target.state id) stop (image_in entries id) good))

abbrev IsShortLeg : Leg → Type 0
IsShortLeg (child link) = IsShortLink link
IsShortLeg (instance entries) = Unit {0}

leg_short : (first next : ℕ) (stop after : Stop) (leg : Leg) → IsGoodStop stop → IsGoodStop after
    → IsGoodLeg stop.state leg after.state → IsShortLeg leg → AreShort (rows_of_leg first stop leg next after)
leg_short first next stop after (child link) good good_after between small = child_short first next stop after link good_after
    between small
leg_short first next stop after (instance entries) good good_after between small = instance_short first next stop after entries good

-- ---- the whole path

abbrev AreShortRides : List (Leg × Stop) → Type 0
AreShortRides rides = AllByRecursion (λ (ride : Leg × Stop). IsShortLeg ride.0) rides

along_short : (first : ℕ) (stop : Stop) (rides : List (Leg × Stop)) → AreGoodAlong stop rides → AreShortRides rides
    → AreShort (rows_along first stop rides)
along_short first stop [] good small = stop_short first stop.state
along_short first stop (ride ∷ rides) good small =
    let next = variables_after first stop in
    all_joined IsShort (rows_of_stop first stop.state) (rows_of_leg first stop ride.0 next ride.1 ++ rows_along next ride.1 rides)
    (stop_short first stop.state)
    (all_joined IsShort (rows_of_leg first stop ride.0 next ride.1) (rows_along next ride.1 rides)
    (leg_short first next stop ride.1 ride.0 good.0 (good_first ride.1 rides good.1.1) good.1.0 small.0)
    (along_short next ride.1 rides good.1.1 small.1))

-- ---- the edges of a graph

by_short : (by : By) (links : List Link) (place : ℕ) (leg : Leg) → All IsShortLink links → leg_by by links place ≡ Some leg
    → IsShortLeg leg
by_short (Expand children) links place leg small e =
    let link = map_some child (slice_get links place) leg e in
    subst IsShortLeg link.1.1 (all_at IsShortLink links place link.0 small link.1.0)
by_short (Instance target entries) links place leg small e = let is : instance entries ≡ leg = cc in subst IsShortLeg is tt
by_short End links place leg small e = absurd (cc)
by_short Todo links place leg small e = absurd (cc)

edge_short : (linked : LinkedGraph) (from place : ℕ) (leg : Leg) → AreShortLinks linked.links → leg_at linked from place ≡ Some leg
    → IsShortLeg leg
edge_short linked from place leg small e =
    let n = then_some (λ (n : GraphNode). option_and_then (λ (links : List Link). leg_by n.by links place)
    (slice_get linked.links from)) (slice_get linked.graph from) leg e in
    let l = then_some (λ (links : List Link). leg_by n.0.by links place) (slice_get linked.links from) leg n.1.1 in
    by_short n.0.by l.0 place leg (all_at (λ (list : List Link). All IsShortLink list) linked.links from l.0 small l.1.0) l.1.1

rides_short : (linked : LinkedGraph) (from : ℕ) (places : List ℕ) (rides : List (Leg × Stop)) → AreShortLinks linked.links
    → rides_from linked from places ≡ Some rides → AreShortRides rides
rides_short linked from [] rides small e = subst AreShortRides (no_rides linked from rides e) tt
rides_short linked from (place ∷ places) rides small e =
    let r = ride_first linked from place places rides e in
    subst AreShortRides r.are (edge_short linked from place r.ride.0 small r.leg, rides_short linked r.to places r.rest small r.more)

-- the rows of a path's rule
pub rows_short : (linked : LinkedGraph) (first from : ℕ) (places : List ℕ) (stop : Stop) (rides : List (Leg × Stop))
    → AreShortLinks linked.links → AreGoodAlong stop rides → rides_from linked from places ≡ Some rides
    → AllByRecursion IsShort (rows_along first stop rides)
rows_short linked first from places stop rides small good e = along_short first stop rides good
    (rides_short linked from places rides small e)
