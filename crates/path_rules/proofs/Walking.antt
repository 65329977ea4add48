-- What a walk along a path says of the rows of its rule, for a weighing.
use Rattle.std.proofs.Common.{◌≡◌, ℕ, suc, Bool, true, false, cond, eqb, List, [], ◌∷◌, ◌++◌, map, ℤ, pos, negsuc}
use Rattle.std.proofs.Common.{◌+ℤ◌, ◌*ℤ◌, Option, Some, None, subst, ap, arith, refl, ◌∙◌, sym}
use Rattle.std.specs.Prelude.{filter, All, ◌≤ℤ◌}
use Rattle.std.specs.List.{AllByRecursion, flat_map}
use Rattle.std.proofs.lemmas.Int.{ints}
use Rattle.std.proofs.lemmas.Bool.{false≢true, eqb-true}
use Rattle.std.proofs.lemmas.List.Elements.{All-from_recursion}
use Rattle.list_views.proofs.Quantified.{all_joined, all_weaker}
use Rattle.lin_core.specs.declared.rows.WRow.{WRow}
use Rattle.lin_core.specs.Rows.{value_of_terms, Holds, IsOfKind}
use Rattle.lin_core.specs.Weights.{row_under}
use Rattle.descent.specs.Valuations.{IsWeighing}
use Rattle.jvm_values.specs.declared.heap.Heap.{Heap}
use Rattle.jvm_values.specs.Terms.{HeapTerm, HeapTerms}
use Rattle.jvm_values.specs.Terms as terms
use Rattle.jvm_values.specs.TypedHeaps.{WorldTypes}
use Rattle.jvm_values.proofs.Options.{some_is}
use Rattle.abs_cells.specs.declared.cells.Cell.{Cell}
use Rattle.abs_cells.specs.declared.cells.Cell.TheVariants.{Int, Null, Obj, Nums, Refs, Unk}
use Rattle.abs_cells.specs.AbstractStates.{AbstractState}
use Rattle.abs_cells.specs.Cells.{is_int, is_of_sort, cell_at, HasCell}
use Rattle.abs_cells.specs.Fits.{Meaning, Fits, Describes}
use Rattle.abs_cells.specs.Patterns.{Pattern}
use Rattle.abs_cells.specs.Sound.{IsWellFormed}
use Rattle.abs_reach.specs.Instances.{image_in}
use Rattle.term_enc.specs.Laws.{IsDescribed, IsSizedBy, HaveWeights}
use Rattle.term_enc.specs.Sizes.{weight_of, weights_of, Weighs, variables_in}
use Rattle.term_enc.proofs.Described.{edge_rows, instance_rows}
use Rattle.term_enc.proofs.Summed.{collected_value}
use Rattle.term_graph.specs.declared.links.Side.{Side}
use Rattle.term_graph.specs.declared.links.Side.TheVariants.{Before, After}
use Rattle.term_graph.specs.declared.links.LinkRow.{LinkRow}
use Rattle.term_graph.specs.declared.links.Link.{Link}
use Rattle.term_graph.specs.Edges.{is_size_variable, id_after, Edge, InstanceEdge, HoldsBetween, number_of}
use Rattle.term_graph.specs.Edges.{value_of_terms as value_between}
use Rattle.path_rules.specs.Stops.{Stop, Leg, child, instance, AreSizes, pattern_in}
use Rattle.path_rules.specs.Rules.{at_least_zero, tie, ids_with, variable_of, bounds_of, rows_of_stop, rows_of_size, has_int}
use Rattle.path_rules.specs.Rules.{variable_at, link_row, rows_of_child, image_row, image_size_row, rows_of_instance, rows_of_leg}
use Rattle.path_rules.specs.Rules.{variables_after, rows_along, last_along}
use Rattle.path_rules.specs.Conditions.{IsTermBetween, IsRowBetween, IsLinkBetween, IsMapBetween}
use Rattle.path_rules.specs.Walks.{Spot, FitsStop, Crosses, IsWalk, last_of}
use Rattle.path_rules.proofs.Finding.{IsSuffix, whole_suffix, suffix_first, suffix_rest, have_sort}
use Rattle.path_rules.proofs.PatternIds.{pattern_variables}

-- ---- good stops

pub record IsGoodStop (stop : Stop) : Type 0 where
  pub good : IsWellFormed stop.state
  pub sizes : AreSizes stop.state stop.sizes

pub described : (types : WorldTypes) (stop : Stop) (spot : Spot) → IsGoodStop stop → FitsStop types stop spot
    → IsDescribed types stop.state spot.machine spot.meaning
described types stop spot good fits = record { good = good.good; fits = fits.fits; closed = fits.closed }

pub sized_by : (stop : Stop) (id : ℕ) (pattern : Pattern) → IsGoodStop stop → pattern_in stop.sizes id ≡ Some pattern
    → IsSizedBy stop.state id pattern
sized_by stop id pattern good e = let is = good.sizes.each id pattern e in record { sized = is.1.0; is = is.1.1 }

pub of_sort : (state : AbstractState) (id : ℕ) (found : Option Cell) → cell_at state id ≡ found → is_of_sort is_int found ≡ true
    → HasCell is_int state id
of_sort state id None e t = absurd (false≢true t)
of_sort state id (Some cell) e t = record { cell = cell; is = e; sort_is = t }

-- ---- weights are at least 0

module _ (weigh : ℕ → ℤ) (weighs : IsWeighing weigh) where
  mutual
    some_weight : (term : HeapTerm) → pos 0 ≤ℤ weight_of weigh term
    some_weight terms.null = omega (arith, ints)
    some_weight terms.leaf = omega (arith, ints)
    some_weight (terms.node class children) = let a = weighs class in let b = some_weights children in omega (arith, ints, a, b)

    some_weights : (children : HeapTerms) → pos 0 ≤ℤ weights_of weigh children
    some_weights terms.none = omega (arith, ints)
    some_weights (terms.more term rest) = let a = some_weight term in let b = some_weights rest in omega (arith, ints, a, b)

-- ---- images

image_cases : (entry : ℕ × ℕ) (entries : List (ℕ × ℕ)) (id image : ℕ) (meaning after : Meaning) (here : Bool)
    → eqb entry.0 id ≡ here → after entry.0 ≡ meaning entry.1 →
    cond here (Some entry.1) (image_in entries id) ≡ Some image → (image_in entries id ≡ Some image → after id ≡ meaning image)
    → after id ≡ meaning image
image_cases entry entries id image meaning after true h first k more =
    let same = eqb-true entry.0 id h in
    let is : entry.1 ≡ image = cc in
    subst (λ (x : ℕ). after x ≡ meaning image) same (subst (λ (x : ℕ). after entry.0 ≡ meaning x) is first)
image_cases entry entries id image meaning after false h first k more = more k

image_means : (entries : List (ℕ × ℕ)) (id image : ℕ) (meaning after : Meaning)
    → All (λ (entry : ℕ × ℕ). after entry.0 ≡ meaning entry.1) entries → image_in entries id ≡ Some image → after id ≡ meaning image
image_means [] id image meaning after all e = absurd (cc)
image_means (entry ∷ entries) id image meaning after all e =
    image_cases entry entries id image meaning after (eqb entry.0 id) refl (all 0 entry (omega arith)) e
    (λ k. image_means entries id image meaning after (λ i d l. all (suc i) d (omega (arith, l))) k)

-- ---- rows that hold

abbrev pub IsTrueBy : (ℕ → ℤ) → (ℕ → ℤ) → WRow → Type 0
IsTrueBy weigh numbers row = Holds numbers (row_under weigh row)

abbrev pub AreTrueBy : (ℕ → ℤ) → (ℕ → ℤ) → List WRow → Type 0
AreTrueBy weigh numbers rows = AllByRecursion (IsTrueBy weigh numbers) rows

-- the ids of a stop that are variables have their numbers
pub record Looks (weigh numbers : ℕ → ℤ) (first : ℕ) (state : AbstractState) (spot : Spot) : Type 0 where
  pub ints : (id : ℕ) → HasCell is_int state id → numbers (variable_of first state id) ≡ number_of (spot.meaning id)
  pub sizes : (id : ℕ) → HasCell is_size_variable state id → Weighs weigh spot.machine.heap (spot.meaning id)
      (numbers (variable_of first state id))

module _ (types : WorldTypes) (weigh numbers : ℕ → ℤ) (weighs : IsWeighing weigh) where
  -- one number is another
  tie_true : (v w : ℕ) → numbers v ≡ numbers w → IsTrueBy weigh numbers (tie v w)
  tie_true v w e =
      let value = collected_value numbers ((v, pos 1) ∷ (w, negsuc 0) ∷ []) in
      omega (arith, ints, value, e)

  -- ---- the rows of a stop

  bounds_true : (heap : Heap) (meaning : Meaning) (v id : ℕ) (cell : Cell) → Describes types heap meaning cell (meaning id)
      → (is_int cell ≡ true → numbers v ≡ number_of (meaning id)) → AreTrueBy weigh numbers (bounds_of v cell)
  bounds_true heap meaning v id (Int interval) d same =
      let e = same refl in
      let is = ap number_of d.1.0 in
      let low = d.1.1.0 in
      let high = d.1.1.1 in
      (omega (arith, ints, is, e, low), (omega (arith, ints, is, e, high), tt))
  bounds_true heap meaning v id Null d same = tt
  bounds_true heap meaning v id (Obj class ids) d same = tt
  bounds_true heap meaning v id (Nums kind len) d same = tt
  bounds_true heap meaning v id (Refs element len shape) d same = tt
  bounds_true heap meaning v id (Unk bound nullable shape) d same = tt

  cells_true : (first : ℕ) (state : AbstractState) (spot : Spot) (cells : List (ℕ × Cell)) → IsSuffix state cells
      → Fits types state spot.machine spot.meaning → Looks weigh numbers first state spot →
      AreTrueBy weigh numbers (flat_map (λ (c : ℕ × Cell). bounds_of (variable_of first state c.0) c.1) cells)
  cells_true first state spot [] s fits looks = tt
  cells_true first state spot (c ∷ cells) s fits looks =
      let at = suffix_first state c cells s in
      let here = bounds_true spot.machine.heap spot.meaning (variable_of first state c.0) c.0 c.1 (fits.cells c.0 c.1 at)
      (λ t. looks.ints c.0 (record { cell = c.1; is = at; sort_is = t })) in
      all_joined (IsTrueBy weigh numbers) (bounds_of (variable_of first state c.0) c.1)
      (flat_map (λ (x : ℕ × Cell). bounds_of (variable_of first state x.0) x.1) cells) here
      (cells_true first state spot cells (suffix_rest state c cells s) fits looks)

  size_bounds_true : (first : ℕ) (state : AbstractState) (spot : Spot) (ids : List ℕ)
      → AllByRecursion (HasCell is_size_variable state) ids → Looks weigh numbers first state spot →
      AreTrueBy weigh numbers (map (λ (id : ℕ). at_least_zero ((variable_of first state id, pos 1) ∷ []) (pos 0)) ids)
  size_bounds_true first state spot [] all looks = tt
  size_bounds_true first state spot (id ∷ ids) all looks =
      let w = looks.sizes id all.0 in
      let e = w.number_is in
      let low = some_weight weigh weighs w.term in
      (omega (arith, ints, e, low), size_bounds_true first state spot ids all.1 looks)

  stop_true : (first : ℕ) (stop : Stop) (spot : Spot) → IsGoodStop stop → FitsStop types stop spot
      → Looks weigh numbers first stop.state spot → AreTrueBy weigh numbers (rows_of_stop first stop.state)
  stop_true first stop spot good fits looks =
      all_joined (IsTrueBy weigh numbers) (flat_map (λ (c : ℕ × Cell). bounds_of (variable_of first stop.state c.0) c.1) stop.state.cells)
      (map (λ (id : ℕ). at_least_zero ((variable_of first stop.state id, pos 1) ∷ []) (pos 0)) (ids_with is_size_variable stop.state))
      (cells_true first stop.state spot stop.state.cells (whole_suffix stop.state good.good.rising) fits.fits looks)
      (size_bounds_true first stop.state spot (ids_with is_size_variable stop.state)
      (have_sort is_size_variable stop.state good.good.rising) looks)

  -- ---- the rows of an edge

  tie_cases : (first next : ℕ) (state other : AbstractState) (id : ℕ) (ids : List ℕ) (there : Bool) → has_int other id ≡ there →
      (HasCell is_int other id → numbers (variable_of first state id) ≡ numbers (variable_of next other id)) →
      AreTrueBy weigh numbers (map (λ (x : ℕ). tie (variable_of first state x) (variable_of next other x)) ids) →
      AreTrueBy weigh numbers (map (λ (x : ℕ). tie (variable_of first state x) (variable_of next other x)) (cond there (id ∷ ids) ids))
  tie_cases first next state other id ids true e same rest =
      (tie_true (variable_of first state id) (variable_of next other id) (same (of_sort other id (cell_at other id) refl e)), rest)
  tie_cases first next state other id ids false e same rest = rest

  ties_true : (first next : ℕ) (state other : AbstractState) (ids : List ℕ) → AllByRecursion (HasCell is_int state) ids →
      ((id : ℕ) → HasCell is_int state id → HasCell is_int other id
      → numbers (variable_of first state id) ≡ numbers (variable_of next other id)) →
      AreTrueBy weigh numbers (map (λ (id : ℕ). tie (variable_of first state id) (variable_of next other id)) (filter (has_int other) ids))
  ties_true first next state other [] a same = tt
  ties_true first next state other (id ∷ ids) a same = tie_cases first next state other id (filter (has_int other) ids)
      (has_int other id) refl (λ b. same id a.0 b) (ties_true first next state other ids a.1 same)

  terms_value : (first next : ℕ) (state other : AbstractState) (spot then : Spot) (terms : List (Side × ℕ × ℤ))
      → Looks weigh numbers first state spot → Looks weigh numbers next other then → All (IsTermBetween state other) terms →
      value_of_terms numbers
      (map (λ (term : Side × ℕ × ℤ). (variable_at (variable_of first state) (variable_of next other) term.0 term.1, term.2))
      terms) ≡ value_between spot.meaning then.meaning terms
  terms_value first next state other spot then [] here there all = refl
  terms_value first next state other spot then ((Before, id, number) ∷ terms) here there all =
      let rest = terms_value first next state other spot then terms here there (λ k d l. all (suc k) d (omega (arith, l))) in
      let is = here.ints id (all 0 (Before, id, number) (omega arith)).0 in
      let more = value_of_terms numbers
      (map (λ (term : Side × ℕ × ℤ). (variable_at (variable_of first state) (variable_of next other) term.0 term.1, term.2)) terms) in
      ap (λ (z : ℤ). number *ℤ z +ℤ more) is ∙ ap (λ (z : ℤ). number *ℤ number_of (spot.meaning id) +ℤ z) rest
  terms_value first next state other spot then ((After, id, number) ∷ terms) here there all =
      let rest = terms_value first next state other spot then terms here there (λ k d l. all (suc k) d (omega (arith, l))) in
      let is = there.ints id (all 0 (After, id, number) (omega arith)).0 in
      let more = value_of_terms numbers
      (map (λ (term : Side × ℕ × ℤ). (variable_at (variable_of first state) (variable_of next other) term.0 term.1, term.2)) terms) in
      ap (λ (z : ℤ). number *ℤ z +ℤ more) is ∙ ap (λ (z : ℤ). number *ℤ number_of (then.meaning id) +ℤ z) rest

  unweighed : (a c : ℤ) → a +ℤ c ≡ a +ℤ (c +ℤ pos 0)
  unweighed a c = omega (arith, ints)

  link_true : (first next : ℕ) (state other : AbstractState) (spot then : Spot) (row : LinkRow)
      → Looks weigh numbers first state spot → Looks weigh numbers next other then → IsRowBetween state other row
      → HoldsBetween spot.meaning then.meaning row →
      IsTrueBy weigh numbers (link_row (variable_of first state) (variable_of next other) row)
  link_true first next state other spot then row here there good holds =
      let terms = map (λ (term : Side × ℕ × ℤ).
      (variable_at (variable_of first state) (variable_of next other) term.0 term.1, term.2)) row.terms in
      let value = collected_value numbers terms ∙ terms_value first next state other spot then row.terms here there good.terms in
      subst (IsOfKind row.kind) (ap (λ (z : ℤ). z +ℤ row.constant) (sym value) ∙ unweighed _ row.constant) holds

  links_true : (first next : ℕ) (state other : AbstractState) (spot then : Spot) (rows : List LinkRow)
      → Looks weigh numbers first state spot → Looks weigh numbers next other then → All (IsRowBetween state other) rows
      → All (HoldsBetween spot.meaning then.meaning) rows →
      AreTrueBy weigh numbers (map (link_row (variable_of first state) (variable_of next other)) rows)
  links_true first next state other spot then [] here there good holds = tt
  links_true first next state other spot then (row ∷ rows) here there good holds = (
    link_true first next state other spot then row here there (good 0 row (omega arith)) (holds 0 row (omega arith)),
    links_true
        first next state other spot then rows here there (λ k d l. good (suc k) d (omega (arith, l)))
        (λ k d l. holds (suc k) d (omega (arith, l))),
  )

  -- the variables of a pattern have the weights of their values
  pub have_weights : (first : ℕ) (state : AbstractState) (spot : Spot) (id : ℕ) (pattern : Pattern) → IsSizedBy state id pattern
      → Looks weigh numbers first state spot → HaveWeights weigh spot.machine spot.meaning numbers (variable_of first state) pattern
  have_weights first state spot id pattern is looks =
      All-from_recursion (λ (x : ℕ). Weighs weigh spot.machine.heap (spot.meaning x) (numbers (variable_of first state x)))
      (variables_in pattern)
      (all_weaker (HasCell is_size_variable state)
      (λ (x : ℕ). Weighs weigh spot.machine.heap (spot.meaning x) (numbers (variable_of first state x)))
      (λ x has. looks.sizes x has) (variables_in pattern) (pattern_variables state id pattern is))

  child_size_true : (first next : ℕ) (stop after : Stop) (spot then : Spot) (link : Link) (id : ℕ) (found : Option Pattern)
      → pattern_in after.sizes (id_after link.merged id) ≡ found → IsGoodStop after → FitsStop types after then →
      Looks weigh numbers first stop.state spot → Looks weigh numbers next after.state then
      → Edge stop.state spot.machine spot.meaning link after.state then.machine then.meaning → HasCell is_size_variable stop.state id →
      AreTrueBy weigh numbers (rows_of_size (variable_of first stop.state id) next after.state found)
  child_size_true first next stop after spot then link id None e good fits here there edge has = tt
  child_size_true first next stop after spot then link id (Some pattern) e good fits here there edge has =
      let is = sized_by after (id_after link.merged id) pattern good e in (
        edge_rows types stop.state after.state spot.machine then.machine spot.meaning then.meaning link edge
            (described types after then good fits) id pattern has is weigh numbers
            (variable_of first stop.state id) (variable_of next after.state) weighs (here.sizes id has)
            (have_weights next after.state then (id_after link.merged id) pattern is there),
        tt,
      )

  child_sizes_true : (first next : ℕ) (stop after : Stop) (spot then : Spot) (link : Link) (ids : List ℕ) → IsGoodStop after
      → FitsStop types after then →
      Looks weigh numbers first stop.state spot → Looks weigh numbers next after.state then
      → Edge stop.state spot.machine spot.meaning link after.state then.machine then.meaning
      → AllByRecursion (HasCell is_size_variable stop.state) ids →
      AreTrueBy weigh numbers
      (flat_map (λ (id : ℕ). rows_of_size (variable_of first stop.state id) next after.state
      (pattern_in after.sizes (id_after link.merged id))) ids)
  child_sizes_true first next stop after spot then link [] good fits here there edge all = tt
  child_sizes_true first next stop after spot then link (id ∷ ids) good fits here there edge all =
      all_joined (IsTrueBy weigh numbers)
      (rows_of_size (variable_of first stop.state id) next after.state (pattern_in after.sizes (id_after link.merged id)))
      (flat_map (λ (x : ℕ). rows_of_size (variable_of first stop.state x) next after.state
      (pattern_in after.sizes (id_after link.merged x))) ids)
      (child_size_true first next stop after spot then link id (pattern_in after.sizes (id_after link.merged id)) refl good fits
      here there edge all.0)
      (child_sizes_true first next stop after spot then link ids good fits here there edge all.1)

  child_true : (first next : ℕ) (stop after : Stop) (spot then : Spot) (link : Link) → IsGoodStop stop → IsGoodStop after
      → FitsStop types after then → IsLinkBetween stop.state after.state link →
      Looks weigh numbers first stop.state spot → Looks weigh numbers next after.state then
      → Edge stop.state spot.machine spot.meaning link after.state then.machine then.meaning
      → AreTrueBy weigh numbers (rows_of_child first stop link next after)
  child_true first next stop after spot then link good good_after fits between here there edge =
      let ties = map (λ (id : ℕ). tie (variable_of first stop.state id) (variable_of next after.state id))
      (filter (has_int after.state) (ids_with is_int stop.state)) in
      let linked = map (link_row (variable_of first stop.state) (variable_of next after.state)) link.rows in
      let sizes = flat_map (λ (id : ℕ). rows_of_size (variable_of first stop.state id) next after.state
      (pattern_in after.sizes (id_after link.merged id))) (ids_with is_size_variable stop.state) in
      all_joined (IsTrueBy weigh numbers) ties (linked ++ sizes)
      (ties_true first next stop.state after.state (ids_with is_int stop.state) (have_sort is_int stop.state good.good.rising)
      (λ id a b. here.ints id a ∙ sym (ap number_of (edge.ints id a b)) ∙ sym (there.ints id b)))
      (all_joined (IsTrueBy weigh numbers) linked sizes
      (links_true first next stop.state after.state spot then link.rows here there between.rows edge.rows)
      (child_sizes_true first next stop after spot then link (ids_with is_size_variable stop.state) good_after fits here there edge
      (have_sort is_size_variable stop.state good.good.rising)))

  -- ---- the rows of an instance

  image_true : (first : ℕ) (stop : Stop) (v : ℕ) (found : Option ℕ)
      → ((image : ℕ) → found ≡ Some image → numbers v ≡ numbers (variable_of first stop.state image))
      → AreTrueBy weigh numbers (image_row first stop v found)
  image_true first stop v None same = tt
  image_true first stop v (Some image) same = (tie_true v (variable_of first stop.state image) (same image refl), tt)

  images_true : (first next : ℕ) (stop target : Stop) (entries : List (ℕ × ℕ)) (ids : List ℕ)
      → AllByRecursion (HasCell is_int target.state) ids →
      ((id image : ℕ) → HasCell is_int target.state id → image_in entries id ≡ Some image
      → numbers (variable_of next target.state id) ≡ numbers (variable_of first stop.state image)) →
      AreTrueBy weigh numbers (flat_map (λ (id : ℕ). image_row first stop (variable_of next target.state id) (image_in entries id)) ids)
  images_true first next stop target entries [] a same = tt
  images_true first next stop target entries (id ∷ ids) a same =
      all_joined (IsTrueBy weigh numbers) (image_row first stop (variable_of next target.state id) (image_in entries id))
      (flat_map (λ (x : ℕ). image_row first stop (variable_of next target.state x) (image_in entries x)) ids)
      (image_true first stop (variable_of next target.state id) (image_in entries id) (λ image e. same id image a.0 e))
      (images_true first next stop target entries ids a.1 same)

  image_size_true : (first next : ℕ) (stop target : Stop) (spot then : Spot) (entries : List (ℕ × ℕ)) (id : ℕ) → IsGoodStop stop
      → FitsStop types stop spot →
      Looks weigh numbers first stop.state spot → Looks weigh numbers next target.state then
      → InstanceEdge entries spot.machine spot.meaning then.machine then.meaning → HasCell is_size_variable target.state id →
      (found : Option ℕ) → image_in entries id ≡ found
      → AreTrueBy weigh numbers (image_size_row first stop (variable_of next target.state id) found)
  image_size_true first next stop target spot then entries id good fits here there edge has None e = tt
  image_size_true first next stop target spot then entries id good fits here there edge has (Some image) e = by
      (pattern_in stop.sizes image) refl
    where
      by : (o : Option Pattern) → pattern_in stop.sizes image ≡ o
          → AreTrueBy weigh numbers (rows_of_size (variable_of next target.state id) first stop.state o)
      by None k = tt
      by (Some pattern) k =
          let is = sized_by stop image pattern good k in (
            instance_rows types stop.state entries spot.machine then.machine spot.meaning then.meaning edge
                (described types stop spot good fits) id image pattern e is weigh numbers
                (variable_of next target.state id) (variable_of first stop.state) (there.sizes id has)
                (have_weights first stop.state spot image pattern is here),
            tt,
          )

  image_sizes_true : (first next : ℕ) (stop target : Stop) (spot then : Spot) (entries : List (ℕ × ℕ)) (ids : List ℕ)
      → IsGoodStop stop → FitsStop types stop spot →
      Looks weigh numbers first stop.state spot → Looks weigh numbers next target.state then
      → InstanceEdge entries spot.machine spot.meaning then.machine then.meaning
      → AllByRecursion (HasCell is_size_variable target.state) ids →
      AreTrueBy weigh numbers
      (flat_map (λ (id : ℕ). image_size_row first stop (variable_of next target.state id) (image_in entries id)) ids)
  image_sizes_true first next stop target spot then entries [] good fits here there edge all = tt
  image_sizes_true first next stop target spot then entries (id ∷ ids) good fits here there edge all =
      all_joined (IsTrueBy weigh numbers) (image_size_row first stop (variable_of next target.state id) (image_in entries id))
      (flat_map (λ (x : ℕ). image_size_row first stop (variable_of next target.state x) (image_in entries x)) ids)
      (image_size_true first next stop target spot then entries id good fits here there edge all.0 (image_in entries id) refl)
      (image_sizes_true first next stop target spot then entries ids good fits here there edge all.1)

  instance_true : (first next : ℕ) (stop target : Stop) (spot then : Spot) (entries : List (ℕ × ℕ)) → IsGoodStop stop
      → IsGoodStop target → FitsStop types stop spot → IsMapBetween stop.state target.state entries →
      Looks weigh numbers first stop.state spot → Looks weigh numbers next target.state then
      → InstanceEdge entries spot.machine spot.meaning then.machine then.meaning
      → AreTrueBy weigh numbers (rows_of_instance first stop entries next target)
  instance_true first next stop target spot then entries good good_target fits between here there edge =
      all_joined (IsTrueBy weigh numbers)
      (flat_map (λ (id : ℕ). image_row first stop (variable_of next target.state id) (image_in entries id))
      (ids_with is_int target.state))
      (flat_map (λ (id : ℕ). image_size_row first stop (variable_of next target.state id) (image_in entries id))
      (ids_with is_size_variable target.state))
      (images_true first next stop target entries (ids_with is_int target.state)
      (have_sort is_int target.state good_target.good.rising) same)
      (image_sizes_true first next stop target spot then entries (ids_with is_size_variable target.state) good fits here there edge
      (have_sort is_size_variable target.state good_target.good.rising))
    where
      same : (id image : ℕ) → HasCell is_int target.state id → image_in entries id ≡ Some image
          → numbers (variable_of next target.state id) ≡ numbers (variable_of first stop.state image)
      same id image has e =
          let given = between.ints id has in
          let is = some_is (sym given.1.0 ∙ e) in
          there.ints id has ∙ ap number_of (image_means entries id image spot.meaning then.meaning edge.images e)
          ∙ sym (here.ints image (subst (λ (x : ℕ). HasCell is_int stop.state x) is given.1.1))

-- ---- the whole path

abbrev pub IsGoodLeg : AbstractState → Leg → AbstractState → Type 0
IsGoodLeg state (child link) next = IsLinkBetween state next link
IsGoodLeg state (instance entries) next = IsMapBetween state next entries

abbrev pub AreGoodAlong : Stop → List (Leg × Stop) → Type 0
AreGoodAlong stop [] = IsGoodStop stop
AreGoodAlong stop (ride ∷ rides) = IsGoodStop stop × (IsGoodLeg stop.state ride.0 ride.1.state × AreGoodAlong ride.1 rides)

pub good_first : (stop : Stop) (rides : List (Leg × Stop)) → AreGoodAlong stop rides → IsGoodStop stop
good_first stop [] g = g
good_first stop (ride ∷ rides) g = g.0

abbrev pub LooksAlong : (ℕ → ℤ) → (ℕ → ℤ) → ℕ → Stop → Spot → List (Leg × Stop) → List Spot → Type 0
LooksAlong weigh numbers first stop spot [] spots = Looks weigh numbers first stop.state spot
LooksAlong weigh numbers first stop spot (ride ∷ rides) [] = ⊥
LooksAlong weigh numbers first stop spot (ride ∷ rides) (after ∷ spots) = Looks weigh numbers first stop.state spot
    × LooksAlong weigh numbers (variables_after first stop) ride.1 after rides spots

pub looks_first : (weigh numbers : ℕ → ℤ) (first : ℕ) (stop : Stop) (spot : Spot) (rides : List (Leg × Stop)) (spots : List Spot)
    → LooksAlong weigh numbers first stop spot rides spots → Looks weigh numbers first stop.state spot
looks_first weigh numbers first stop spot [] spots l = l
looks_first weigh numbers first stop spot (ride ∷ rides) [] l = absurd l
looks_first weigh numbers first stop spot (ride ∷ rides) (after ∷ spots) l = l.0

pub fits_first : (types : WorldTypes) (stop : Stop) (spot : Spot) (rides : List (Leg × Stop)) (spots : List Spot)
    → IsWalk types stop spot rides spots → FitsStop types stop spot
fits_first types stop spot [] [] walk = walk
fits_first types stop spot [] (after ∷ spots) walk = absurd walk
fits_first types stop spot (ride ∷ rides) [] walk = absurd walk
fits_first types stop spot (ride ∷ rides) (after ∷ spots) walk = walk.0

module _ (types : WorldTypes) (weigh numbers : ℕ → ℤ) (weighs : IsWeighing weigh) where
  leg_true : (first next : ℕ) (stop after : Stop) (spot then : Spot) (leg : Leg) → IsGoodStop stop → IsGoodStop after
      → FitsStop types stop spot → FitsStop types after then → IsGoodLeg stop.state leg after.state →
      Looks weigh numbers first stop.state spot → Looks weigh numbers next after.state then → Crosses stop spot leg after then
      → AreTrueBy weigh numbers (rows_of_leg first stop leg next after)
  leg_true first next stop after spot then (child link) good good_after fits fits_after between here there edge = child_true types
      weigh numbers weighs first next stop after spot then link good good_after fits_after between here there edge
  leg_true first next stop after spot then (instance entries) good good_after fits fits_after between here there edge =
      instance_true types weigh numbers weighs first next stop after spot then entries good good_after fits between here there edge

  pub rows_true : (first : ℕ) (stop : Stop) (spot : Spot) (rides : List (Leg × Stop)) (spots : List Spot) → AreGoodAlong stop rides
      → IsWalk types stop spot rides spots → LooksAlong weigh numbers first stop spot rides spots
      → AreTrueBy weigh numbers (rows_along first stop rides)
  rows_true first stop spot [] [] good walk looks = stop_true types weigh numbers weighs first stop spot good walk looks
  rows_true first stop spot [] (after ∷ spots) good walk looks = absurd walk
  rows_true first stop spot (ride ∷ rides) [] good walk looks = absurd walk
  rows_true first stop spot (ride ∷ rides) (after ∷ spots) good walk looks =
      let next = variables_after first stop in
      let then_good = good_first ride.1 rides good.1.1 in
      let then_fits = fits_first types ride.1 after rides spots walk.1.1 in
      let there = looks_first weigh numbers next ride.1 after rides spots looks.1 in
      all_joined (IsTrueBy weigh numbers) (rows_of_stop first stop.state)
      (rows_of_leg first stop ride.0 next ride.1 ++ rows_along next ride.1 rides)
      (stop_true types weigh numbers weighs first stop spot good.0 walk.0 looks.0)
      (all_joined (IsTrueBy weigh numbers) (rows_of_leg first stop ride.0 next ride.1) (rows_along next ride.1 rides)
      (leg_true first next stop ride.1 spot after ride.0 good.0 then_good walk.0 then_fits good.1.0 looks.0 there walk.1.0)
      (rows_true next ride.1 after rides spots good.1.1 walk.1.1 looks.1))

-- ---- the last stop

pub last_looks : (types : WorldTypes) (weigh numbers : ℕ → ℤ) (first : ℕ) (stop : Stop) (spot : Spot) (rides : List (Leg × Stop))
    (spots : List Spot) → IsWalk types stop spot rides spots → LooksAlong weigh numbers first stop spot rides spots →
    Looks weigh numbers (last_along first stop rides).0 (last_along first stop rides).1.state (last_of spot spots)
last_looks types weigh numbers first stop spot [] [] walk l = l
last_looks types weigh numbers first stop spot [] (after ∷ spots) walk l = absurd walk
last_looks types weigh numbers first stop spot (ride ∷ rides) [] walk l = absurd walk
last_looks types weigh numbers first stop spot (ride ∷ rides) (after ∷ spots) walk l = last_looks types weigh numbers
    (variables_after first stop) ride.1 after rides spots walk.1.1 l.1

pub last_fits : (types : WorldTypes) (first : ℕ) (stop : Stop) (spot : Spot) (rides : List (Leg × Stop)) (spots : List Spot)
    → IsWalk types stop spot rides spots → FitsStop types (last_along first stop rides).1 (last_of spot spots)
last_fits types first stop spot [] [] walk = walk
last_fits types first stop spot [] (after ∷ spots) walk = absurd walk
last_fits types first stop spot (ride ∷ rides) [] walk = absurd walk
last_fits types first stop spot (ride ∷ rides) (after ∷ spots) walk = last_fits types (variables_after first stop) ride.1 after
    rides spots walk.1.1

pub last_good : (first : ℕ) (stop : Stop) (rides : List (Leg × Stop)) → AreGoodAlong stop rides
    → IsGoodStop (last_along first stop rides).1
last_good first stop [] good = good
last_good first stop (ride ∷ rides) good = last_good (variables_after first stop) ride.1 rides good.1.1
