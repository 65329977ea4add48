-- An equation of a rule that has a size has sizes alone, with small coefficients.
use Rattle.std.proofs.Common.{◌≡◌, ◌∙◌, ℕ, suc, ◌+◌, ◌≤◌, Bool, true, false, cond, eqb, List, [], ◌∷◌, ◌++◌, length, map, ℤ}
use Rattle.std.proofs.Common.{pos, negsuc, ◌+ℤ◌, Option, Some, None, refl, sym, ap, subst, arith}
use Rattle.std.specs.Prelude.{All, filter, nat_lt, slice_get, unsigned_abs}
use Rattle.std.specs.List.{AllByRecursion, flat_map}
use Rattle.std.specs.Option.{option_map, option_map_or}
use Rattle.std.specs.Ordering.{int_eq}
use Rattle.std.proofs.lemmas.Bool.{false≢true}
use Rattle.std.proofs.lemmas.List.{length-map}
use Rattle.std.proofs.lemmas.List.Elements.{All-from_recursion, recursion_from_All}
use Rattle.std.proofs.lemmas.Option.{slice_get-map, slice_get_within}
use Rattle.jvm_values.proofs.Options.{some_is}
use Rattle.list_views.proofs.Items.{get_front}
use Rattle.list_views.proofs.Quantified.{all_at, all_joined, all_flat, all_weaker}
use Rattle.lin_core.specs.declared.rows.WRow.{WRow}
use Rattle.lin_core.specs.Weights.{total_size}
use Rattle.abs_cells.specs.declared.cells.Cell.{Cell}
use Rattle.abs_cells.specs.declared.cells.Cell.TheVariants.{Int, Null, Obj, Nums, Refs, Unk}
use Rattle.abs_cells.specs.AbstractStates.{AbstractState}
use Rattle.abs_cells.specs.Cells.{is_int, is_of_sort, cell_at, HasCell}
use Rattle.abs_cells.specs.Patterns.{Pattern}
use Rattle.abs_reach.specs.Instances.{image_in}
use Rattle.abs_turns.proofs.OptionLists.{each_any}
use Rattle.term_enc.specs.Laws.{IsSizedBy}
use Rattle.term_enc.specs.Sizes.{unless_zero, with_term, collected, each_times, variables_in, size_row}
use Rattle.term_graph.specs.declared.links.Side.{Side}
use Rattle.term_graph.specs.declared.links.Side.TheVariants.{Before, After}
use Rattle.term_graph.specs.declared.links.LinkRow.{LinkRow}
use Rattle.term_graph.specs.declared.links.Link.{Link}
use Rattle.term_graph.specs.Edges.{is_size_variable, id_after}
use Rattle.abs_reach.specs.Keys.{AreKeysRising}
use Rattle.path_rules.specs.Stops.{Stop, Leg, child, instance, pattern_in}
use Rattle.path_rules.specs.Rules.{at_least_zero, tie, ids_with, variables, variable_of, place_of, bounds_of, rows_of_stop, rows_of_size}
use Rattle.path_rules.specs.Rules.{has_int, variable_at, link_row, rows_of_child, image_row, image_size_row, rows_of_leg}
use Rattle.path_rules.specs.Rules.{variables_after, rows_along, int_slot, size_slot, slots_of}
use Rattle.path_rules.specs.Conditions.{IsTermBetween, IsRowBetween, IsLinkBetween, IsMapBetween}
use Rattle.path_rules.proofs.Finding.{found_in, have_sort, int_variable, size_variable, variable_found}
use Rattle.path_rules.proofs.Fitting.{pattern_small}
use Rattle.path_rules.proofs.PatternIds.{pattern_variables}
use Rattle.path_rules.proofs.PatternLists.{pattern_first, pattern_later}
use Rattle.path_rules.proofs.Picking.{get_back}
use Rattle.path_rules.proofs.Walking.{IsGoodStop, of_sort, sized_by, IsGoodLeg, AreGoodAlong, good_first}
use Rattle.rank_forms.specs.rule_links.Links.{IsAmong, HasBound}
use Rattle.rank_forms.specs.Graphs.{IsSizeSlot, IsOneKind}
use Rattle.prove_core.proofs.Close.{among_along, among_second}
use Rattle.prove_core.proofs.RuleRows.{few_size_terms}

-- ---- what is said of all names is so of what is collected

module _ (P : ℕ → Type 0) where
  abbrev pub AreNamedSo : List (ℕ × ℤ) → Type 0
  AreNamedSo terms = AllByRecursion (λ (term : ℕ × ℤ). P term.0) terms

  unless_so : (name : ℕ) (number : ℤ) (rest : List (ℕ × ℤ)) → P name → AreNamedSo rest → AreNamedSo (unless_zero name number rest)
  unless_so name number rest p all = at (int_eq number (pos 0))
    where
      at : (b : Bool) → AreNamedSo (cond b rest ((name, number) ∷ rest))
      at true = all
      at false = (p, all)

  with_so : (term : ℕ × ℤ) (terms : List (ℕ × ℤ)) → P term.0 → AreNamedSo terms → AreNamedSo (with_term term terms)
  with_so term [] p all = unless_so term.0 term.1 [] p tt
  with_so term (first ∷ rest) p all = at (eqb term.0 first.0) (nat_lt term.0 first.0) (with_so term rest p all.1)
    where
      at : (same before : Bool) → AreNamedSo (with_term term rest)
          → AreNamedSo (cond same (unless_zero term.0 (term.1 +ℤ first.1) rest)
          (cond before (unless_zero term.0 term.1 (first ∷ rest)) (first ∷ with_term term rest)))
      at true before later = unless_so term.0 (term.1 +ℤ first.1) rest p all.1
      at false true later = unless_so term.0 term.1 (first ∷ rest) p all
      at false false later = (all.0, later)

  pub collected_so : (terms : List (ℕ × ℤ)) → AreNamedSo terms → AreNamedSo (collected terms)
  collected_so [] all = tt
  collected_so (term ∷ terms) all = with_so term (collected terms) all.0 (collected_so terms all.1)

  times_so : (number : ℤ) (place : ℕ → ℕ) (names : List ℕ) → AllByRecursion (λ (name : ℕ). P (place name)) names
      → AreNamedSo (each_times number (map place names))
  times_so number place [] all = tt
  times_so number place (name ∷ names) all = (all.0, times_so number place names all.1)

-- ---- rows of one kind

module _ (sizes : ℕ → Bool) where
  abbrev pub AreOneKind : List WRow → Type 0
  AreOneKind rows = AllByRecursion (IsOneKind sizes) rows

  -- a row that is no equation
  at_least_kind : (terms : List (ℕ × ℤ)) (constant : ℤ) → IsOneKind sizes (at_least_zero terms constant)
  at_least_kind terms constant = record { alike = λ kind n term e size. absurd (cc) }

  -- a row without sizes
  int_kind : (row : WRow) → AreNamedSo (λ (n : ℕ). sizes n ≡ false) row.terms → IsOneKind sizes row
  int_kind row all = record {
    alike = λ kind n term e size.
        let none = all_at (λ (t : ℕ × ℤ). sizes t.0 ≡ false) row.terms n term
        (All-from_recursion (λ (t : ℕ × ℤ). sizes t.0 ≡ false) row.terms all) e in
        absurd (false≢true (sym none ∙ size));
  }

  small_terms : (terms : List (ℕ × ℤ)) → AreNamedSo (λ (n : ℕ). sizes n ≡ true) terms → total_size terms ≤ 4096
      → AllByRecursion (λ (term : ℕ × ℤ). (sizes term.0 ≡ true) × (unsigned_abs term.1 ≤ 4096)) terms
  small_terms [] all l = tt
  small_terms (term ∷ terms) all l = ((all.0, omega (arith, l)), small_terms terms all.1 (omega (arith, l)))

  -- a row of sizes alone
  size_kind : (row : WRow) → AreNamedSo (λ (n : ℕ). sizes n ≡ true) row.terms → total_size row.terms ≤ 4096 → IsOneKind sizes row
  size_kind row all small = record {
    alike = λ kind n term e size.
        All-from_recursion (λ (t : ℕ × ℤ). (sizes t.0 ≡ true) × (unsigned_abs t.1 ≤ 4096)) row.terms (small_terms row.terms all small);
  }

  -- which variables of a stop are sizes
  pub record Knows (first : ℕ) (state : AbstractState) : Type 0 where
    pub int : (id : ℕ) → HasCell is_int state id → sizes (variable_of first state id) ≡ false
    pub size : (id : ℕ) → HasCell is_size_variable state id → sizes (variable_of first state id) ≡ true

  bounds_kind : (v : ℕ) (cell : Cell) → AreOneKind (bounds_of v cell)
  bounds_kind v (Int interval) = (at_least_kind _ _, (at_least_kind _ _, tt))
  bounds_kind v Null = tt
  bounds_kind v (Obj class ids) = tt
  bounds_kind v (Nums kind len) = tt
  bounds_kind v (Refs element len shape) = tt
  bounds_kind v (Unk bound nullable shape) = tt

  stop_kind : (first : ℕ) (state : AbstractState) → AreOneKind (rows_of_stop first state)
  stop_kind first state =
      all_joined (IsOneKind sizes) (flat_map (λ (c : ℕ × Cell). bounds_of (variable_of first state c.0) c.1) state.cells)
      (map (λ (id : ℕ). at_least_zero ((variable_of first state id, pos 1) ∷ []) (pos 0)) (ids_with is_size_variable state))
      (all_flat (IsOneKind sizes) (λ (c : ℕ × Cell). bounds_of (variable_of first state c.0) c.1) state.cells
      (λ c. bounds_kind (variable_of first state c.0) c.1))
      (each_any (IsOneKind sizes) (λ (id : ℕ). at_least_zero ((variable_of first state id, pos 1) ∷ []) (pos 0))
      (ids_with is_size_variable state) (λ id. at_least_kind ((variable_of first state id, pos 1) ∷ []) (pos 0)))

  tie_kind : (v w : ℕ) → sizes v ≡ false → sizes w ≡ false → IsOneKind sizes (tie v w)
  tie_kind v w a b = int_kind (tie v w) (collected_so (λ (n : ℕ). sizes n ≡ false) ((v, pos 1) ∷ (w, negsuc 0) ∷ []) (a, (b, tt)))

  ties_kind : (first next : ℕ) (state other : AbstractState) → Knows first state → Knows next other → (ids : List ℕ)
      → AllByRecursion (HasCell is_int state) ids
      → AreOneKind (map (λ (id : ℕ). tie (variable_of first state id) (variable_of next other id)) (filter (has_int other) ids))
  ties_kind first next state other k l [] all = tt
  ties_kind first next state other k l (id ∷ ids) all = at (has_int other id) refl (ties_kind first next state other k l ids all.1)
    where
      at : (b : Bool) → has_int other id ≡ b
          → AreOneKind (map (λ (x : ℕ). tie (variable_of first state x) (variable_of next other x)) (filter (has_int other) ids))
          → AreOneKind (map (λ (x : ℕ). tie (variable_of first state x) (variable_of next other x))
          (cond b (id ∷ filter (has_int other) ids) (filter (has_int other) ids)))
      at true e rest = (
        tie_kind (variable_of first state id) (variable_of next other id) (k.int id all.0)
            (l.int id (of_sort other id (cell_at other id) refl e)),
        rest,
      )
      at false e rest = rest

  link_names : (first next : ℕ) (state other : AbstractState) → Knows first state → Knows next other → (terms : List (Side × ℕ × ℤ))
      → AllByRecursion (IsTermBetween state other) terms
      → AreNamedSo (λ (n : ℕ). sizes n ≡ false)
      (map (λ (term : Side × ℕ × ℤ). (variable_at (variable_of first state) (variable_of next other) term.0 term.1, term.2)) terms)
  link_names first next state other k l [] all = tt
  link_names first next state other k l ((Before, id, number) ∷ terms) all =
      (k.int id all.0.0, link_names first next state other k l terms all.1)
  link_names first next state other k l ((After, id, number) ∷ terms) all =
      (l.int id all.0.0, link_names first next state other k l terms all.1)

  links_kind : (first next : ℕ) (state other : AbstractState) → Knows first state → Knows next other → (rows : List LinkRow)
      → AllByRecursion (IsRowBetween state other) rows
      → AreOneKind (map (link_row (variable_of first state) (variable_of next other)) rows)
  links_kind first next state other k l [] all = tt
  links_kind first next state other k l (row ∷ rows) all = (
    int_kind (link_row (variable_of first state) (variable_of next other) row)
        (collected_so (λ (n : ℕ). sizes n ≡ false)
        (map (λ (term : Side × ℕ × ℤ). (variable_at (variable_of first state) (variable_of next other) term.0 term.1, term.2)) row.terms)
        (link_names first next state other k l row.terms (recursion_from_All (IsTermBetween state other) row.terms all.0.terms))),
    links_kind first next state other k l rows all.1,
  )

  -- ---- rows of sizes

  found_kind : (v first : ℕ) (stop : Stop) (id : ℕ) (found : Option Pattern) → IsGoodStop stop → Knows first stop.state → sizes v ≡ true
      → pattern_in stop.sizes id ≡ found → AreOneKind (rows_of_size v first stop.state found)
  found_kind v first stop id None good k size e = tt
  found_kind v first stop id (Some pattern) good k size e =
      let is = sized_by stop id pattern good e in (
        size_kind (size_row v (variable_of first stop.state) pattern)
            (collected_so (λ (n : ℕ). sizes n ≡ true)
            ((v, pos 1) ∷ each_times (negsuc 0) (map (variable_of first stop.state) (variables_in pattern))) (
              size,
              times_so (λ (n : ℕ). sizes n ≡ true) (negsuc 0) (variable_of first stop.state) (variables_in pattern)
                  (all_weaker (HasCell is_size_variable stop.state) (λ (x : ℕ). sizes (variable_of first stop.state x) ≡ true)
                  (λ x has. k.size x has)
                  (variables_in pattern) (pattern_variables stop.state id pattern is)),
            ))
            (few_size_terms v (variable_of first stop.state) pattern (pattern_small stop.state id pattern is)),
        tt,
      )

  child_sizes_kind : (first next : ℕ) (state : AbstractState) (after : Stop) (link : Link) → IsGoodStop after → Knows first state
      → Knows next after.state → (ids : List ℕ) → AllByRecursion (HasCell is_size_variable state) ids
      → AreOneKind (flat_map (λ (id : ℕ). rows_of_size (variable_of first state id) next after.state
      (pattern_in after.sizes (id_after link.merged id))) ids)
  child_sizes_kind first next state after link good k l [] all = tt
  child_sizes_kind first next state after link good k l (id ∷ ids) all =
      all_joined (IsOneKind sizes)
      (rows_of_size (variable_of first state id) next after.state (pattern_in after.sizes (id_after link.merged id)))
      (flat_map (λ (x : ℕ). rows_of_size (variable_of first state x) next after.state
      (pattern_in after.sizes (id_after link.merged x))) ids)
      (found_kind (variable_of first state id) next after (id_after link.merged id)
      (pattern_in after.sizes (id_after link.merged id)) good l (k.size id all.0) refl)
      (child_sizes_kind first next state after link good k l ids all.1)

  child_kind : (first next : ℕ) (stop after : Stop) (link : Link) → IsGoodStop stop → IsGoodStop after
      → IsLinkBetween stop.state after.state link → Knows first stop.state → Knows next after.state
      → AreOneKind (rows_of_child first stop link next after)
  child_kind first next stop after link good good_after between k l =
      all_joined (IsOneKind sizes)
      (map (λ (id : ℕ). tie (variable_of first stop.state id) (variable_of next after.state id))
      (filter (has_int after.state) (ids_with is_int stop.state)))
      (map (link_row (variable_of first stop.state) (variable_of next after.state)) link.rows
      ++ flat_map (λ (id : ℕ). rows_of_size (variable_of first stop.state id) next after.state
      (pattern_in after.sizes (id_after link.merged id))) (ids_with is_size_variable stop.state))
      (ties_kind first next stop.state after.state k l (ids_with is_int stop.state) (have_sort is_int stop.state good.good.rising))
      (all_joined (IsOneKind sizes)
      (map (link_row (variable_of first stop.state) (variable_of next after.state)) link.rows)
      (flat_map (λ (id : ℕ). rows_of_size (variable_of first stop.state id) next after.state
      (pattern_in after.sizes (id_after link.merged id))) (ids_with is_size_variable stop.state))
      (links_kind first next stop.state after.state k l link.rows
      (recursion_from_All (IsRowBetween stop.state after.state) link.rows between.rows))
      (child_sizes_kind first next stop.state after link good_after k l (ids_with is_size_variable stop.state)
      (have_sort is_size_variable stop.state good.good.rising)))

  image_kind : (first v : ℕ) (stop : Stop) (found : Option ℕ) → sizes v ≡ false
      → ((image : ℕ) → found ≡ Some image → sizes (variable_of first stop.state image) ≡ false) → AreOneKind (image_row first stop v found)
  image_kind first v stop None a b = tt
  image_kind first v stop (Some image) a b = (tie_kind v (variable_of first stop.state image) a (b image refl), tt)

  images_kind : (first next : ℕ) (stop target : Stop) (entries : List (ℕ × ℕ)) → IsMapBetween stop.state target.state entries
      → Knows first stop.state → Knows next target.state → (ids : List ℕ) → AllByRecursion (HasCell is_int target.state) ids
      → AreOneKind (flat_map (λ (id : ℕ). image_row first stop (variable_of next target.state id) (image_in entries id)) ids)
  images_kind first next stop target entries between k l [] all = tt
  images_kind first next stop target entries between k l (id ∷ ids) all =
      let given = between.ints id all.0 in
      all_joined (IsOneKind sizes) (image_row first stop (variable_of next target.state id) (image_in entries id))
      (flat_map (λ (x : ℕ). image_row first stop (variable_of next target.state x) (image_in entries x)) ids)
      (image_kind first (variable_of next target.state id) stop (image_in entries id) (l.int id all.0)
      (λ image e. k.int image (subst (λ (x : ℕ). HasCell is_int stop.state x) (some_is (sym given.1.0 ∙ e)) given.1.1)))
      (images_kind first next stop target entries between k l ids all.1)

  image_size_kind : (first v : ℕ) (stop : Stop) (found : Option ℕ) → IsGoodStop stop → Knows first stop.state → sizes v ≡ true
      → AreOneKind (image_size_row first stop v found)
  image_size_kind first v stop None good k size = tt
  image_size_kind first v stop (Some image) good k size = found_kind v first stop image (pattern_in stop.sizes image) good k size refl

  image_sizes_kind : (first next : ℕ) (stop target : Stop) (entries : List (ℕ × ℕ)) → IsGoodStop stop → Knows first stop.state
      → Knows next target.state → (ids : List ℕ) → AllByRecursion (HasCell is_size_variable target.state) ids
      → AreOneKind (flat_map (λ (id : ℕ). image_size_row first stop (variable_of next target.state id) (image_in entries id)) ids)
  image_sizes_kind first next stop target entries good k l [] all = tt
  image_sizes_kind first next stop target entries good k l (id ∷ ids) all =
      all_joined (IsOneKind sizes) (image_size_row first stop (variable_of next target.state id) (image_in entries id))
      (flat_map (λ (x : ℕ). image_size_row first stop (variable_of next target.state x) (image_in entries x)) ids)
      (image_size_kind first (variable_of next target.state id) stop (image_in entries id) good k (l.size id all.0))
      (image_sizes_kind first next stop target entries good k l ids all.1)

  leg_kind : (first next : ℕ) (stop after : Stop) (leg : Leg) → IsGoodStop stop → IsGoodStop after → IsGoodLeg stop.state leg after.state
      → Knows first stop.state → Knows next after.state → AreOneKind (rows_of_leg first stop leg next after)
  leg_kind first next stop after (child link) good good_after between k l = child_kind first next stop after link good good_after
      between k l
  leg_kind first next stop after (instance entries) good good_after between k l =
      all_joined (IsOneKind sizes)
      (flat_map (λ (id : ℕ). image_row first stop (variable_of next after.state id) (image_in entries id)) (ids_with is_int after.state))
      (flat_map (λ (id : ℕ). image_size_row first stop (variable_of next after.state id) (image_in entries id))
      (ids_with is_size_variable after.state))
      (images_kind first next stop after entries between k l (ids_with is_int after.state)
      (have_sort is_int after.state good_after.good.rising))
      (image_sizes_kind first next stop after entries good k l (ids_with is_size_variable after.state)
      (have_sort is_size_variable after.state good_after.good.rising))

  -- ---- the whole path

  abbrev pub KnowsAlong : ℕ → Stop → List (Leg × Stop) → Type 0
  KnowsAlong first stop [] = Knows first stop.state
  KnowsAlong first stop (ride ∷ rides) = Knows first stop.state × KnowsAlong (variables_after first stop) ride.1 rides

  pub knows_first : (first : ℕ) (stop : Stop) (rides : List (Leg × Stop)) → KnowsAlong first stop rides → Knows first stop.state
  knows_first first stop [] k = k
  knows_first first stop (ride ∷ rides) k = k.0

  pub along_kind : (first : ℕ) (stop : Stop) (rides : List (Leg × Stop)) → AreGoodAlong stop rides → KnowsAlong first stop rides
      → AreOneKind (rows_along first stop rides)
  along_kind first stop [] good k = stop_kind first stop.state
  along_kind first stop (ride ∷ rides) good k =
      let next = variables_after first stop in
      all_joined (IsOneKind sizes) (rows_of_stop first stop.state)
      (rows_of_leg first stop ride.0 next ride.1 ++ rows_along next ride.1 rides)
      (stop_kind first stop.state)
      (all_joined (IsOneKind sizes) (rows_of_leg first stop ride.0 next ride.1) (rows_along next ride.1 rides)
      (leg_kind first next stop ride.1 ride.0 good.0 (good_first ride.1 rides good.1.1) good.1.0 k.0 (knows_first next ride.1 rides k.1))
      (along_kind next ride.1 rides good.1.1 k.1))

-- ---- which variables of a path are sizes

abbrev has_size : AbstractState → ℕ → Bool
has_size state id = is_of_sort is_size_variable (cell_at state id)

abbrev pub kinds_along : Stop → List (Leg × Stop) → List Bool
kinds_along stop [] = map (has_size stop.state) (variables stop.state)
kinds_along stop (ride ∷ rides) = map (has_size stop.state) (variables stop.state) ++ kinds_along ride.1 rides

abbrev pub kind_at : List Bool → ℕ → Bool
kind_at kinds n = option_map_or (λ (b : Bool). b) (slice_get kinds n) false

no_size : (cell : Cell) → is_int cell ≡ true → is_size_variable cell ≡ false
no_size (Int interval) e = refl
no_size Null e = absurd (false≢true e)
no_size (Obj class ids) e = absurd (false≢true e)
no_size (Nums kind len) e = absurd (false≢true e)
no_size (Refs element len shape) e = absurd (false≢true e)
no_size (Unk bound nullable shape) e = absurd (false≢true e)

stop_knows : (sizes : ℕ → Bool) (first : ℕ) (state : AbstractState)
    → ((n : ℕ) (b : Bool) → slice_get (map (has_size state) (variables state)) n ≡ Some b → sizes (first + n) ≡ b)
    → Knows sizes first state
stop_knows sizes first state same = record {
  int = λ id has. same (place_of (variables state) id) false
      (slice_get-map (has_size state) (variables state) (place_of (variables state) id)
      ∙ (ap (option_map (has_size state)) (variable_found state id (int_variable state id has))
      ∙ ap (λ (b : Bool). Some b) (ap (is_of_sort is_size_variable) has.is ∙ no_size has.cell has.sort_is)));
  size = λ id has. same (place_of (variables state) id) true
      (slice_get-map (has_size state) (variables state) (place_of (variables state) id)
      ∙ (ap (option_map (has_size state)) (variable_found state id (size_variable state id has))
      ∙ ap (λ (b : Bool). Some b) (ap (is_of_sort is_size_variable) has.is ∙ has.sort_is)));
}

shifted : (first a n : ℕ) → (first + a) + n ≡ first + (a + n)
shifted first a n = omega arith

pub knows_along : (sizes : ℕ → Bool) (first : ℕ) (stop : Stop) (rides : List (Leg × Stop))
    → ((n : ℕ) (b : Bool) → slice_get (kinds_along stop rides) n ≡ Some b → sizes (first + n) ≡ b) → KnowsAlong sizes first stop rides
knows_along sizes first stop [] same = stop_knows sizes first stop.state same
knows_along sizes first stop (ride ∷ rides) same =
    let here = map (has_size stop.state) (variables stop.state) in
    let long : length (variables stop.state) ≡ length here = sym (length-map (variables stop.state) (has_size stop.state)) in (
      stop_knows sizes first stop.state (λ n b e. same n b
          (get_front here (kinds_along ride.1 rides) n (slice_get_within here n b e) ∙ e)),
      knows_along sizes (variables_after first stop) ride.1 rides (λ n b e.
          ap sizes (shifted first (length (variables stop.state)) n)
          ∙ same (length (variables stop.state) + n) b
          (get_back here (kinds_along ride.1 rides) (length (variables stop.state) + n) n (ap (λ (k : ℕ). k + n) long) ∙ e)),
    )

from_first : (n : ℕ) → 0 + n ≡ n
from_first n = omega arith

pub path_knows : (stop : Stop) (rides : List (Leg × Stop)) → KnowsAlong (kind_at (kinds_along stop rides)) 0 stop rides
path_knows stop rides = knows_along (kind_at (kinds_along stop rides)) 0 stop rides
    (λ n b e. ap (kind_at (kinds_along stop rides)) (from_first n) ∙ ap (λ (o : Option Bool). option_map_or (λ (x : Bool). x) o false) e)

-- ---- the slots of sizes

-- a variable is that of an id whose size is one
record IsSizeOf (first : ℕ) (state : AbstractState) (variable : ℕ) : Type 0 where
  pub id : ℕ
  pub has : HasCell is_size_variable state id
  pub is : variable_of first state id ≡ variable

among_mapped : (f : ℕ → WRow) (ids : List ℕ) (n id : ℕ) → slice_get ids n ≡ Some id → IsAmong (map f ids) (f id)
among_mapped f ids n id e = (n, slice_get-map f ids n ∙ ap (option_map f) e)

module _ (first : ℕ) (stop : Stop) (rides : List (Leg × Stop)) (good : IsGoodStop stop) (sizes : ℕ → Bool)
    (k : Knows sizes first stop.state) where
  size_bound : (id : ℕ) → HasCell is_size_variable stop.state id
      → HasBound (rows_along first stop rides) (variable_of first stop.state id) (pos 1) (pos 0)
  size_bound id has = record {
    row = at_least_zero ((variable_of first stop.state id, pos 1) ∷ []) (pos 0);
    among =
        among_along first stop rides (at_least_zero ((variable_of first stop.state id, pos 1) ∷ []) (pos 0))
        (among_second (flat_map (λ (c : ℕ × Cell). bounds_of (variable_of first stop.state c.0) c.1) stop.state.cells)
        (map (λ (x : ℕ). at_least_zero ((variable_of first stop.state x, pos 1) ∷ []) (pos 0)) (ids_with is_size_variable stop.state))
        (at_least_zero ((variable_of first stop.state id, pos 1) ∷ []) (pos 0))
        (among_mapped (λ (x : ℕ). at_least_zero ((variable_of first stop.state x, pos 1) ∷ []) (pos 0))
        (ids_with is_size_variable stop.state)
        (place_of (ids_with is_size_variable stop.state) id) id
        (found_in is_size_variable stop.state.cells id has.cell has.is has.sort_is)));
    inequality = refl;
    terms = refl;
    number = refl;
    weights = refl;
  }

  size_slot_is : (id : ℕ) (pattern : Pattern) → IsSizedBy stop.state id pattern
      → IsSizeSlot (rows_along first stop rides) sizes (size_slot first stop (id, pattern))
  size_slot_is id pattern is size v variable =
      let named = collected_so (IsSizeOf first stop.state) (each_times (pos 1) (map (variable_of first stop.state) (variables_in pattern)))
      (times_so (IsSizeOf first stop.state) (pos 1) (variable_of first stop.state) (variables_in pattern)
      (all_weaker (HasCell is_size_variable stop.state) (λ (x : ℕ). IsSizeOf first stop.state (variable_of first stop.state x))
      (λ x has. record { id = x; has = has; is = refl }) (variables_in pattern) (pattern_variables stop.state id pattern is))) in
      let of = (subst (λ (ts : List (ℕ × ℤ)). AllByRecursion (λ (t : ℕ × ℤ). IsSizeOf first stop.state t.0) ts) variable.terms named).0 in
      subst (λ (n : ℕ). (sizes n ≡ true) × HasBound (rows_along first stop rides) n (pos 1) (pos 0)) of.is
      (k.size of.id of.has, size_bound of.id of.has)

  size_slots_are : (low : ℕ) (list : List (ℕ × Pattern)) → AreKeysRising low list
      → ((id : ℕ) (pattern : Pattern) → pattern_in list id ≡ Some pattern → IsSizedBy stop.state id pattern)
      → AllByRecursion (IsSizeSlot (rows_along first stop rides) sizes) (map (size_slot first stop) list)
  size_slots_are low [] rise each = tt
  size_slots_are low (entry ∷ list) rise each = (
    size_slot_is entry.0 entry.1 (each entry.0 entry.1 (pattern_first entry list)),
    size_slots_are (suc entry.0) list rise.1 (λ id pattern e. each id pattern (pattern_later entry list id pattern rise.1 e)),
  )

  int_slots_are : (ids : List ℕ) → AllByRecursion (IsSizeSlot (rows_along first stop rides) sizes) (map (int_slot first stop) ids)
  int_slots_are [] = tt
  int_slots_are (id ∷ ids) = ((λ size. absurd (false≢true size)), int_slots_are ids)

  pub slots_sized : All (IsSizeSlot (rows_along first stop rides) sizes) (slots_of first stop)
  slots_sized =
      All-from_recursion (IsSizeSlot (rows_along first stop rides) sizes) (slots_of first stop)
      (all_joined (IsSizeSlot (rows_along first stop rides) sizes) (map (int_slot first stop) (ids_with is_int stop.state))
      (map (size_slot first stop) stop.sizes) (int_slots_are (ids_with is_int stop.state))
      (size_slots_are 0 stop.sizes good.sizes.rise (λ id pattern e. sized_by stop id pattern good e)))
