-- The rule of a path: rows over one copy of the variables for each stop, and the slots of both ends.
use Rattle.std.specs.Prelude.{◌≡◌, ℕ, suc, ◌+◌, ◌==◌, ℤ, pos, negsuc, ◌-ℤ◌, Bool, true, false, ◌||◌, if◌then◌else◌}
use Rattle.std.specs.Prelude.{List, [], ◌∷◌, ◌++◌, map, filter, length, reverse, Option, Some, None}
use Rattle.std.specs.List.{flat_map}
use Rattle.std.specs.Option.{option_map_or}
use Rattle.lin_core.specs.declared.rows.RowKind.TheVariants.{AtLeastZero, IsZero}
use Rattle.lin_core.specs.declared.rows.WRow.{WRow}
use Rattle.descent.specs.declared.rules.Place.{Place}
use Rattle.descent.specs.declared.rules.SlotForm.{SlotForm}
use Rattle.descent.specs.declared.rules.PathRule.{PathRule}
use Rattle.abs_cells.specs.declared.cells.Cell.{Cell}
use Rattle.abs_cells.specs.declared.cells.Cell.TheVariants.{Int, Null, Obj, Nums, Refs, Unk}
use Rattle.abs_cells.specs.AbstractStates.{AbstractFrame, AbstractState}
use Rattle.abs_cells.specs.Cells.{is_int, is_of_sort, cell_at}
use Rattle.abs_cells.specs.Patterns.{Pattern}
use Rattle.abs_reach.specs.Instances.{image_in}
use Rattle.term_graph.specs.declared.links.Side.{Side}
use Rattle.term_graph.specs.declared.links.Side.TheVariants.{Before, After}
use Rattle.term_graph.specs.declared.links.LinkRow.{LinkRow}
use Rattle.term_graph.specs.declared.links.Link.{Link}
use Rattle.term_graph.specs.Edges.{is_size_variable, id_after}
use Rattle.term_enc.specs.Sizes.{collected, size_terms, size_weights, size_row}
use Rattle.path_rules.specs.Paths.{Path, end_of}
use Rattle.path_rules.specs.Stops.{Stop, Leg, child, instance, LinkedGraph, stop_at, rides_from, pattern_in}

-- ---- rows

-- the terms, with a constant, are at least 0
abbrev pub at_least_zero : List (ℕ × ℤ) → ℤ → WRow
at_least_zero terms constant = record { kind = AtLeastZero; terms = terms; constant = constant; weights = [] }

-- the terms, which stand in any order and more than once, are 0
abbrev pub is_zero : List (ℕ × ℤ) → WRow
is_zero terms = record { kind = IsZero; terms = collected terms; constant = pos 0; weights = [] }

-- ---- variables

-- the ids of a state whose cells are of a sort
abbrev pub ids_with : (Cell → Bool) → AbstractState → List ℕ
ids_with sort state = map (λ (c : ℕ × Cell). c.0) (filter (λ (c : ℕ × Cell). sort c.1) state.cells)

-- the ids that are variables: the ints, and the ids whose size is one
abbrev pub is_variable : Cell → Bool
is_variable cell = is_int cell || is_size_variable cell

-- the ids of all variables of a state
abbrev pub variables : AbstractState → List ℕ
variables state = ids_with is_variable state

-- how many ids stand before an id; all of them, where it isn't among them
abbrev pub place_of : List ℕ → ℕ → ℕ
place_of [] id = 0
place_of (other ∷ ids) id = if other == id then 0 else suc (place_of ids id)

-- a stop on a path: the number of its first variable. The variables of one stop are numbered by id, those of the next one
-- come after them
abbrev pub variable_of : ℕ → AbstractState → ℕ → ℕ
variable_of first state id = first + place_of (variables state) id

-- ---- rows of a stop

-- each int lies in its interval
abbrev pub bounds_of : ℕ → Cell → List WRow
bounds_of v (Int interval) = at_least_zero ((v, pos 1) ∷ []) (pos 0 -ℤ interval.lo) ∷ at_least_zero ((v, negsuc 0) ∷ []) interval.hi ∷ []
bounds_of v Null = []
bounds_of v (Obj class ids) = []
bounds_of v (Nums kind len) = []
bounds_of v (Refs element len shape) = []
bounds_of v (Unk bound nullable shape) = []

-- then each size is at least 0
abbrev pub rows_of_stop : ℕ → AbstractState → List WRow
rows_of_stop first state = flat_map (λ (c : ℕ × Cell). bounds_of (variable_of first state c.0) c.1) state.cells ++ map
    (λ (id : ℕ). at_least_zero ((variable_of first state id, pos 1) ∷ []) (pos 0)) (ids_with is_size_variable state)

-- ---- sizes

-- a size variable is the size of a pattern over a stop's variables, where there is a pattern
abbrev pub rows_of_size : ℕ → ℕ → AbstractState → Option Pattern → List WRow
rows_of_size v first state None = []
rows_of_size v first state (Some pattern) = size_row v (variable_of first state) pattern ∷ []

-- ---- rows of an edge

-- one variable is another
abbrev pub tie : ℕ → ℕ → WRow
tie v w = is_zero ((v, pos 1) ∷ (w, negsuc 0) ∷ [])

-- a state has an id, and it is an int
abbrev pub has_int : AbstractState → ℕ → Bool
has_int state id = is_of_sort is_int (cell_at state id)

-- the variable of a term of a link
abbrev pub variable_at : (ℕ → ℕ) → (ℕ → ℕ) → Side → ℕ → ℕ
variable_at before after Before id = before id
variable_at before after After id = after id

-- a row of a link over the variables of its two stops
abbrev pub link_row : (ℕ → ℕ) → (ℕ → ℕ) → LinkRow → WRow
link_row before after row = record {
  kind = row.kind;
  terms = collected (map (λ (term : Side × ℕ × ℤ). (variable_at before after term.0 term.1, term.2)) row.terms);
  constant = row.constant;
  weights = [];
}

-- an edge to a child: each int id of both is the same; then the link's rows; then each size variable is the size of the id that
-- stands for it in the child
abbrev pub rows_of_child : ℕ → Stop → Link → ℕ → Stop → List WRow
rows_of_child first stop link next after =
    map (λ (id : ℕ). tie (variable_of first stop.state id) (variable_of next after.state id))
    (filter (has_int after.state) (ids_with is_int stop.state))
    ++ (map (link_row (variable_of first stop.state) (variable_of next after.state)) link.rows
    ++ flat_map (λ (id : ℕ). rows_of_size (variable_of first stop.state id) next after.state
    (pattern_in after.sizes (id_after link.merged id))) (ids_with is_size_variable stop.state))

-- what an id of a target is in the rows, where it has an image
abbrev pub image_row : ℕ → Stop → ℕ → Option ℕ → List WRow
image_row first stop v None = []
image_row first stop v (Some image) = tie v (variable_of first stop.state image) ∷ []

-- a size variable of a target's id in the rows: it is the size of the id's image, where there is one
abbrev pub image_size_row : ℕ → Stop → ℕ → Option ℕ → List WRow
image_size_row first stop v None = []
image_size_row first stop v (Some image) = rows_of_size v first stop.state (pattern_in stop.sizes image)

-- an edge to the state of which one is an instance: each int id of that state is its image; then each size variable of it is the
-- size of its image
abbrev pub rows_of_instance : ℕ → Stop → List (ℕ × ℕ) → ℕ → Stop → List WRow
rows_of_instance first stop entries next target =
    flat_map (λ (id : ℕ). image_row first stop (variable_of next target.state id) (image_in entries id)) (ids_with is_int target.state)
    ++ flat_map (λ (id : ℕ). image_size_row first stop (variable_of next target.state id) (image_in entries id))
    (ids_with is_size_variable target.state)

-- the rows of an edge, of either kind
abbrev pub rows_of_leg : ℕ → Stop → Leg → ℕ → Stop → List WRow
rows_of_leg first stop (child link) next after = rows_of_child first stop link next after
rows_of_leg first stop (instance entries) next after = rows_of_instance first stop entries next after

-- ---- the whole path

-- the number of the first variable behind those of a stop
abbrev pub variables_after : ℕ → Stop → ℕ
variables_after first stop = first + length (variables stop.state)

-- a stop, the edge from it, the next stop, and so on
abbrev pub rows_along : ℕ → Stop → List (Leg × Stop) → List WRow
rows_along first stop [] = rows_of_stop first stop.state
rows_along first stop (ride ∷ rides) = rows_of_stop first stop.state
    ++ (rows_of_leg first stop ride.0 (variables_after first stop) ride.1 ++ rows_along (variables_after first stop) ride.1 rides)

-- the last stop, with the number of its first variable
abbrev pub last_along : ℕ → Stop → List (Leg × Stop) → ℕ × Stop
last_along first stop [] = (first, stop)
last_along first stop (ride ∷ rides) = last_along (variables_after first stop) ride.1 rides

-- ---- slots

-- the places of a frame with an id, its places being numbered from a number on
abbrev pub locals_with : ℕ → ℕ → ℕ → List (Option ℕ) → List Place
locals_with id frame index [] = []
locals_with id frame index (local ∷ locals) = option_map_or
    (λ (other : ℕ). if other == id then record { frame = frame; stack = false; index = index } ∷ [] else []) local [] ++ locals_with
    id frame (suc index) locals

-- the entries of a stack, from the bottom, with an id
abbrev pub entries_with : ℕ → ℕ → ℕ → List ℕ → List Place
entries_with id frame index [] = []
entries_with id frame index (entry ∷ entries) = (if entry == id then record { frame = frame; stack = true; index = index } ∷ [] else
    []) ++ entries_with id frame (suc index) entries

-- frame by frame from the bottom up, the locals before the stack
abbrev pub places_from : ℕ → ℕ → List AbstractFrame → List Place
places_from id frame [] = []
places_from id frame (first ∷ rest) = locals_with id frame 0 first.locals
    ++ (entries_with id frame 0 (reverse first.stack) ++ places_from id (suc frame) rest)

-- all positions of a state with an id, the bottom frame's first
abbrev pub places_of : AbstractState → ℕ → List Place
places_of state id = places_from id 0 (reverse state.frames)

-- the slot of an int id is its variable
abbrev pub int_slot : ℕ → Stop → ℕ → SlotForm
int_slot first stop id = record {
  id = id;
  size = false;
  places = places_of stop.state id;
  terms = (variable_of first stop.state id, pos 1) ∷ [];
  constant = pos 0;
  weights = [];
}

-- the slot of a sized id is the size of its pattern
abbrev pub size_slot : ℕ → Stop → ℕ × Pattern → SlotForm
size_slot first stop entry = record {
  id = entry.0;
  size = true;
  places = places_of stop.state entry.0;
  terms = size_terms (variable_of first stop.state) entry.1;
  constant = pos 0;
  weights = size_weights entry.1;
}

-- the slots of an end: the ints, and then the sized ids
abbrev pub slots_of : ℕ → Stop → List SlotForm
slots_of first stop = map (int_slot first stop) (ids_with is_int stop.state) ++ map (size_slot first stop) stop.sizes

-- ---- the rule

-- the rule of a start and what follows it, between two cuts: how many variables it has, its rows, and the slots of its ends
abbrev pub rule_over : ℕ → ℕ → Stop → List (Leg × Stop) → PathRule
rule_over from to start rides =
    let last = last_along 0 start rides in
    record {
      from = from;
      to = to;
      vars = variables_after last.0 last.1;
      rows = rows_along 0 start rides;
      first = slots_of 0 start;
      last = slots_of last.0 last.1;
    }

-- the rule of a path
pub record IsRuleOf (linked : LinkedGraph) (cuts : List ℕ) (path : Path) (rule : PathRule) : Type 0 where
  pub to : ℕ
  pub start : Stop
  pub rides : List (Leg × Stop)
  pub ends : end_of linked.graph cuts path.from path.places ≡ Some to
  pub starts : stop_at linked path.from ≡ Some start
  pub goes : rides_from linked path.from path.places ≡ Some rides
  pub is : rule ≡ rule_over path.from to start rides
