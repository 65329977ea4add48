-- Rows of edges, put together.
use Rattle.std.proofs.Common.{◌≡◌, ℕ, List, [], ◌∷◌, ◌++◌, map, get_or, Option, Some, None, ap}
use Rattle.std.proofs.Common.{refl, ◌∙◌, sym}
use Rattle.std.specs.Prelude.{filter, slice_get, Result, Ok, Err, OnOk}
use Rattle.std.specs.List.{flat_map}
use Rattle.std.specs.Option.{option_map}
use Rattle.std.proofs.lemmas.List.{append_assoc}
use Rattle.std.proofs.lemmas.Option.{same_Some, none-some}
use Rattle.lin_core.specs.declared.rows.WRow.{WRow}
use Rattle.abs_cells.specs.AbstractStates.{AbstractState}
use Rattle.abs_cells.specs.Cells.{is_int}
use Rattle.abs_cells.specs.Sound.{AreIdsRising}
use Rattle.abs_reach.specs.Instances.{image_in}
use Rattle.abs_reach.specs.Keys.{AreKeysRising, IsKeyAt, IsNoKey}
use Rattle.abs_reach.proofs.Keys.{stands, none}
use Rattle.term_graph.specs.declared.nodes.By.{By}
use Rattle.term_graph.specs.declared.nodes.By.TheVariants.{Expand, Instance, End, Todo}
use Rattle.term_graph.specs.declared.links.Link.{Link}
use Rattle.term_graph.specs.Edges.{id_after, is_size_variable}
use Rattle.path_rules.specs.Stops.{Leg, child, instance, leg_by, pattern_in}
use Rattle.path_rules.specs.Rules.{tie, has_int, ids_with, link_row, rows_of_size, image_row, image_size_row, variable_of}
use Rattle.path_rules.specs.Rules.{rows_of_child, rows_of_instance, rows_of_leg}
use Rattle.path_rules.specs.inner.Sizing.{sized, sizes_of, rows_of_image}
use Rattle.path_rules.specs.Sizing.{size_at}
use Rattle.path_rules.proofs.Sized.{sizes_at}

same_rows : (f g : ℕ → List WRow) (ids : List ℕ) → ((id : ℕ) → f id ≡ g id) → flat_map f ids ≡ flat_map g ids
same_rows f g [] same = refl
same_rows f g (id ∷ ids) same = ap (λ (r : List WRow). r ++ flat_map f ids) (same id)
    ∙ ap (λ (r : List WRow). g id ++ r) (same_rows f g ids same)

abbrev ties_of : ℕ → AbstractState → ℕ → AbstractState → List WRow
ties_of first state next after = map (λ (id : ℕ). tie (variable_of first state id) (variable_of next after id))
    (filter (has_int after) (ids_with is_int state))

abbrev links_of : ℕ → AbstractState → Link → ℕ → AbstractState → List WRow
links_of first state link next after = map (link_row (variable_of first state) (variable_of next after)) link.rows

abbrev sizes_after : ℕ → AbstractState → Link → ℕ → AbstractState → List WRow
sizes_after first state link next after =
    flat_map (λ (id : ℕ). rows_of_size (variable_of first state id) next after (size_at after (id_after link.merged id)))
    (ids_with is_size_variable state)

-- the ties, the link's rows and the sizes are all
child_rows : (first : ℕ) (state : AbstractState) (link : Link) (next : ℕ) (after : AbstractState)
    (rows tied linked more : List WRow) → AreIdsRising 0 after.cells →
    tied ≡ rows ++ ties_of first state next after → linked ≡ tied ++ links_of first state link next after
    → more ≡ linked ++ sizes_after first state link next after →
    more ≡ rows ++ rows_of_child first (sized state) link next (sized after)
child_rows first state link next after rows tied linked more rising tied_is linked_is more_is =
    let ties = ties_of first state next after in
    let links = links_of first state link next after in
    let sizes = sizes_after first state link next after in
    let listed = flat_map
    (λ (id : ℕ). rows_of_size (variable_of first state id) next after (pattern_in (sizes_of after) (id_after link.merged id)))
    (ids_with is_size_variable state) in
    let same : sizes ≡ listed =
    same_rows (λ (id : ℕ). rows_of_size (variable_of first state id) next after (size_at after (id_after link.merged id)))
    (λ (id : ℕ). rows_of_size (variable_of first state id) next after (pattern_in (sizes_of after) (id_after link.merged id)))
    (ids_with is_size_variable state)
    (λ id. ap (rows_of_size (variable_of first state id) next after) (sym (sizes_at after (id_after link.merged id) rising))) in
    more_is
    ∙ (ap (λ (r : List WRow). r ++ sizes) linked_is
    ∙ (ap (λ (r : List WRow). (r ++ links) ++ sizes) tied_is
    ∙ (append_assoc (rows ++ ties) links sizes
    ∙ (append_assoc rows ties (links ++ sizes)
    ∙ ap (λ (r : List WRow). rows ++ (ties ++ (links ++ r))) same))))

pub rows_child : {A E : Type 0} (first : ℕ) (state : AbstractState) (link : Link) (next : ℕ) (after : AbstractState)
    (rows tied linked more : List WRow) (r : Result A E) →
    AreIdsRising 0 after.cells → tied ≡ rows ++ ties_of first state next after → linked ≡ tied ++ links_of first state link next after →
    OnOk r (more ≡ linked ++ sizes_after first state link next after)
    → OnOk r (more ≡ rows ++ rows_of_child first (sized state) link next (sized after))
rows_child first state link next after rows tied linked more (Ok x) rising tied_is linked_is is = child_rows first state link next
    after rows tied linked more rising tied_is linked_is is
rows_child first state link next after rows tied linked more (Err e) rising tied_is linked_is is = is

-- ---- images

pub image_there : (entries : List (ℕ × ℕ)) (id k : ℕ) (d : ℕ × ℕ) → AreKeysRising 0 entries → IsKeyAt entries id k
    → Some (get_or entries k d).1 ≡ image_in entries id
image_there entries id k d rising at = sym (stands image_in (λ i. refl) (λ c pairs i. refl) 0 entries id k d rising at.0 (at.1 d))

pub no_image : (entries : List (ℕ × ℕ)) (id : ℕ) → IsNoKey entries id → None ≡ image_in entries id
no_image entries id h = sym (none image_in (λ i. refl) (λ c pairs i. refl) entries id h)

abbrev images_of : ℕ → AbstractState → List (ℕ × ℕ) → ℕ → AbstractState → List WRow
images_of first state entries next target = flat_map
    (λ (id : ℕ). image_row first (sized state) (variable_of next target id) (image_in entries id)) (ids_with is_int target)

abbrev image_sizes_of : ℕ → AbstractState → List (ℕ × ℕ) → ℕ → AbstractState → List WRow
image_sizes_of first state entries next target = flat_map
    (λ (id : ℕ). rows_of_image (variable_of next target id) first state (image_in entries id)) (ids_with is_size_variable target)

image_size : (first : ℕ) (state : AbstractState) (v : ℕ) (o : Option ℕ) → AreIdsRising 0 state.cells
    → rows_of_image v first state o ≡ image_size_row first (sized state) v o
image_size first state v None rising = refl
image_size first state v (Some image) rising = ap (rows_of_size v first state) (sym (sizes_at state image rising))

-- the images and their sizes are all
instance_rows : (first : ℕ) (state : AbstractState) (entries : List (ℕ × ℕ)) (next : ℕ) (target : AbstractState)
    (rows mid more : List WRow) → AreIdsRising 0 state.cells →
    mid ≡ rows ++ images_of first state entries next target → more ≡ mid ++ image_sizes_of first state entries next target →
    more ≡ rows ++ rows_of_instance first (sized state) entries next (sized target)
instance_rows first state entries next target rows mid more rising mid_is more_is =
    let images = images_of first state entries next target in
    let sizes = image_sizes_of first state entries next target in
    more_is
    ∙ (ap (λ (r : List WRow). r ++ sizes) mid_is
    ∙ (append_assoc rows images sizes
    ∙ ap (λ (r : List WRow). rows ++ (images ++ r))
    (same_rows (λ (id : ℕ). rows_of_image (variable_of next target id) first state (image_in entries id))
    (λ (id : ℕ). image_size_row first (sized state) (variable_of next target id) (image_in entries id))
    (ids_with is_size_variable target) (λ id. image_size first state (variable_of next target id) (image_in entries id) rising))))

pub rows_instance : {A E : Type 0} (first : ℕ) (state : AbstractState) (entries : List (ℕ × ℕ)) (next : ℕ) (target : AbstractState)
    (rows mid more : List WRow) (r : Result A E) →
    AreIdsRising 0 state.cells → mid ≡ rows ++ images_of first state entries next target
    → OnOk r (more ≡ mid ++ image_sizes_of first state entries next target) →
    OnOk r (more ≡ rows ++ rows_of_instance first (sized state) entries next (sized target))
rows_instance first state entries next target rows mid more (Ok x) rising mid_is is = instance_rows first state entries next target
    rows mid more rising mid_is is
rows_instance first state entries next target rows mid more (Err e) rising mid_is is = is

-- ---- legs

-- so are those of the edge to a child
pub leg_child : (first : ℕ) (state : AbstractState) (by : By) (children : List ℕ) (links : List Link) (link : Link) (place next : ℕ)
    (after : AbstractState) (rows more : List WRow) (leg : Leg) → by ≡ Expand children → Some link ≡ slice_get links place
    → more ≡ rows ++ rows_of_child first (sized state) link next (sized after) → leg_by by links place ≡ Some leg
    → more ≡ rows ++ rows_of_leg first (sized state) leg next (sized after)
leg_child first state by children links link place next after rows more leg by_is there is leg_is =
    let one : Some (child link) ≡ Some leg = ap (option_map child) there ∙ (sym (ap (λ (b : By). leg_by b links place) by_is) ∙ leg_is) in
    is ∙ ap (λ (g : Leg). rows ++ rows_of_leg first (sized state) g next (sized after)) (same_Some (child link) leg one)

-- where there is no link there is no edge
pub leg_past : (by : By) (children : List ℕ) (links : List Link) (place : ℕ) (leg : Leg) → by ≡ Expand children
    → None ≡ slice_get links place → leg_by by links place ≡ Some leg → ⊥
leg_past by children links place leg by_is none leg_is = none-some leg
    (ap (option_map child) none ∙ (sym (ap (λ (b : By). leg_by b links place) by_is) ∙ leg_is))

pub leg_end : (by : By) (links : List Link) (place : ℕ) (leg : Leg) → by ≡ End → leg_by by links place ≡ Some leg → ⊥
leg_end by links place leg by_is leg_is = none-some leg (sym (ap (λ (b : By). leg_by b links place) by_is) ∙ leg_is)

pub leg_todo : (by : By) (links : List Link) (place : ℕ) (leg : Leg) → by ≡ Todo → leg_by by links place ≡ Some leg → ⊥
leg_todo by links place leg by_is leg_is = none-some leg (sym (ap (λ (b : By). leg_by b links place) by_is) ∙ leg_is)

-- so are those of the edge to an instance's target
leg_instance : (first : ℕ) (state : AbstractState) (by : By) (target : ℕ) (entries list : List (ℕ × ℕ)) (links : List Link)
    (place next : ℕ) (after : AbstractState) (rows more : List WRow) (leg : Leg) →
    by ≡ Instance target entries → list ≡ entries → more ≡ rows ++ rows_of_instance first (sized state) list next (sized after)
    → leg_by by links place ≡ Some leg →
    more ≡ rows ++ rows_of_leg first (sized state) leg next (sized after)
leg_instance first state by target entries list links place next after rows more leg by_is same is leg_is =
    let one : Some (instance entries) ≡ Some leg = sym (ap (λ (b : By). leg_by b links place) by_is) ∙ leg_is in
    is ∙ (ap (λ (l : List (ℕ × ℕ)). rows ++ rows_of_instance first (sized state) l next (sized after)) same
    ∙ ap (λ (g : Leg). rows ++ rows_of_leg first (sized state) g next (sized after)) (same_Some (instance entries) leg one))

pub legs_instance : {A E : Type 0} (first : ℕ) (state : AbstractState) (by : By) (target : ℕ) (entries list : List (ℕ × ℕ))
    (links : List Link) (place next : ℕ) (after : AbstractState) (rows more : List WRow) (r : Result A E) →
    by ≡ Instance target entries → list ≡ entries → OnOk r (more ≡ rows ++ rows_of_instance first (sized state) list next (sized after)) →
    OnOk r ((leg : Leg) → leg_by by links place ≡ Some leg → more ≡ rows ++ rows_of_leg first (sized state) leg next (sized after))
legs_instance first state by target entries list links place next after rows more (Ok x) by_is same is = λ leg leg_is. leg_instance
    first state by target entries list links place next after rows more leg by_is same is leg_is
legs_instance first state by target entries list links place next after rows more (Err e) by_is same is = is

pub legs_child : {A E : Type 0} (first : ℕ) (state : AbstractState) (by : By) (children : List ℕ) (links : List Link) (link : Link)
    (place next : ℕ) (after : AbstractState) (rows more : List WRow) (r : Result A E) →
    by ≡ Expand children → Some link ≡ slice_get links place
    → OnOk r (more ≡ rows ++ rows_of_child first (sized state) link next (sized after)) →
    OnOk r ((leg : Leg) → leg_by by links place ≡ Some leg → more ≡ rows ++ rows_of_leg first (sized state) leg next (sized after))
legs_child first state by children links link place next after rows more (Ok x) by_is there is = λ leg leg_is. leg_child first state
    by children links link place next after rows more leg by_is there is leg_is
legs_child first state by children links link place next after rows more (Err e) by_is there is = is
