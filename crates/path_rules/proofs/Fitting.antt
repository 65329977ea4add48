-- The rows and the slots of a path's rule are over its variables and have small numbers.
use Rattle.std.proofs.Common.{◌≡◌, ℕ, suc, ◌+◌, ◌<◌, ◌≤◌, Bool, true, false, cond, eqb, List, [], ◌∷◌, ◌++◌, map, ℤ, pos}
use Rattle.std.proofs.Common.{negsuc, ◌+ℤ◌, Option, Some, None, subst, ap, arith, refl, ◌∙◌, sym}
use Rattle.std.specs.Prelude.{filter, nat_lt, All, length, unsigned_abs}
use Rattle.std.specs.List.{AllByRecursion, flat_map}
use Rattle.std.specs.Ordering.{int_eq}
use Rattle.std.proofs.lemmas.Int.{ints}
use Rattle.std.proofs.lemmas.Bool.{eqb-true, eqb-false, ltb-true, ltb-false}
use Rattle.std.proofs.lemmas.List.Elements.{All-from_recursion}
use Rattle.lin_core.proofs.Coefficients.{rise_lower}
use Rattle.list_views.proofs.Quantified.{all_joined, all_weaker}
use Rattle.lin_core.specs.declared.rows.WRow.{WRow}
use Rattle.lin_core.specs.Rows.{Rise, RiseFrom}
use Rattle.lin_core.specs.Weights.{IsRow, total_size}
use Rattle.descent.specs.Conditions.{IsSlot, IsRule}
use Rattle.jvm_values.proofs.Options.{some_is}
use Rattle.abs_cells.specs.declared.cells.Cell.{Cell}
use Rattle.abs_cells.specs.declared.cells.Cell.TheVariants.{Int, Null, Obj, Nums, Refs, Unk}
use Rattle.abs_cells.specs.AbstractStates.{AbstractState}
use Rattle.abs_cells.specs.Cells.{is_int, cell_at, HasCell}
use Rattle.abs_cells.specs.Patterns.{Pattern, count_in}
use Rattle.abs_cells.proofs.PatternLaws.{one_pattern}
use Rattle.abs_reach.specs.Instances.{image_in}
use Rattle.term_enc.specs.Laws.{IsSizedBy}
use Rattle.term_enc.specs.Sizes.{unless_zero, with_term, collected, each_times, variables_in, classes_in, size_row}
use Rattle.term_graph.specs.declared.links.Side.{Side}
use Rattle.term_graph.specs.declared.links.Side.TheVariants.{Before, After}
use Rattle.term_graph.specs.declared.links.LinkRow.{LinkRow}
use Rattle.term_graph.specs.declared.links.Link.{Link}
use Rattle.term_graph.specs.Edges.{is_size_variable, id_after}
use Rattle.abs_reach.specs.Keys.{AreKeysRising}
use Rattle.path_rules.specs.Stops.{Stop, Leg, child, instance, LinkedGraph, AreSized, pattern_in}
use Rattle.path_rules.specs.Rules.{at_least_zero, tie, ids_with, variables, variable_of, bounds_of, rows_of_stop, rows_of_size}
use Rattle.path_rules.specs.Rules.{has_int, variable_at, link_row, rows_of_child, image_row, image_size_row, rows_of_instance}
use Rattle.path_rules.specs.Rules.{rows_of_leg, variables_after, rows_along, last_along, int_slot, size_slot, slots_of, rule_over}
use Rattle.path_rules.specs.Conditions.{IsTermBetween, IsRowBetween, IsLinkBetween, IsMapBetween, IsReady}
use Rattle.path_rules.specs.Conditions.{IsBounded, AreBounded}
use Rattle.path_rules.specs.inner.Building.{AllBounded, HasRides}
use Rattle.path_rules.proofs.Adding.{few_classes}
use Rattle.path_rules.proofs.Collecting.{total_with}
use Rattle.path_rules.proofs.Finding.{IsSuffix, whole_suffix, suffix_first, suffix_rest, have_sort, int_variable, size_variable}
use Rattle.path_rules.proofs.Finding.{variable_below}
use Rattle.path_rules.proofs.PatternIds.{pattern_variables}
use Rattle.path_rules.proofs.PatternLists.{pattern_first, pattern_later}
use Rattle.path_rules.proofs.Ready.{good_along}
use Rattle.path_rules.proofs.Walking.{IsGoodStop, of_sort, sized_by, IsGoodLeg, AreGoodAlong, good_first, last_good}

-- ---- collected terms rise

unless_rises : (low name end : ℕ) (number : ℤ) (rest : List (ℕ × ℤ)) → low ≤ name → name < end → RiseFrom (suc name) end rest
    → RiseFrom low end (unless_zero name number rest)
unless_rises low name end number rest l m rise = at (int_eq number (pos 0))
  where
    at : (b : Bool) → RiseFrom low end (cond b rest ((name, number) ∷ rest))
    at true = rise_lower low (suc name) end rest (omega (arith, l)) rise
    at false = (l, m, rise)

with_rises : (low end : ℕ) (term : ℕ × ℤ) (terms : List (ℕ × ℤ)) → low ≤ term.0 → term.0 < end → RiseFrom low end terms
    → RiseFrom low end (with_term term terms)
with_rises low end term [] l m rise = unless_rises low term.0 end term.1 [] l m tt
with_rises low end term (first ∷ rest) l m rise = at (eqb term.0 first.0) (nat_lt term.0 first.0) refl refl
    (λ k. with_rises (suc first.0) end term rest k m rise.2)
  where
    at : (same before : Bool) → eqb term.0 first.0 ≡ same → nat_lt term.0 first.0 ≡ before
        → (suc first.0 ≤ term.0 → RiseFrom (suc first.0) end (with_term term rest))
        → RiseFrom low end (cond same (unless_zero term.0 (term.1 +ℤ first.1) rest)
        (cond before (unless_zero term.0 term.1 (first ∷ rest)) (first ∷ with_term term rest)))
    at true before e k more =
        let is = eqb-true term.0 first.0 e in
        unless_rises low term.0 end (term.1 +ℤ first.1) rest l m
        (rise_lower (suc term.0) (suc first.0) end rest (omega (arith, is)) rise.2)
    at false true e k more =
        let below = ltb-true term.0 first.0 k in
        unless_rises low term.0 end term.1 (first ∷ rest) l m (omega (arith, below), rise.1, rise.2)
    at false false e k more =
        let not_below = ltb-false term.0 first.0 k in
        (rise.0, rise.1, more (apart term.0 first.0 not_below (eqb-false term.0 first.0 e)))
      where
        apart : (a b : ℕ) → b ≤ a → (a ≡ b → ⊥) → suc b ≤ a
        apart a b l d = omega (arith, l, d)

-- the variables of terms are below a number
abbrev AreBelow : ℕ → List (ℕ × ℤ) → Type 0
AreBelow end terms = AllByRecursion (λ (term : ℕ × ℤ). term.0 < end) terms

collected_rises : (end : ℕ) (terms : List (ℕ × ℤ)) → AreBelow end terms → Rise end (collected terms)
collected_rises end [] below = tt
collected_rises end (term ∷ terms) below = with_rises 0 end term (collected terms) (omega arith) below.0
    (collected_rises end terms below.1)

-- ---- sums of names

-- names, each by its place, are below a number
names_below : (end : ℕ) (number : ℤ) (place : ℕ → ℕ) (names : List ℕ) → AllByRecursion (λ (name : ℕ). place name < end) names
    → AreBelow end (each_times number (map place names))
names_below end number place [] all = tt
names_below end number place (name ∷ names) all = (all.0, names_below end number place names all.1)

collected_small : (number : ℤ) (names : List ℕ) → unsigned_abs number ≤ 1 → total_size (collected (each_times number names)) ≤ length names
collected_small number [] unit = omega arith
collected_small number (name ∷ names) unit =
    let more = collected_small number names unit in
    let w = total_with (name, number) (collected (each_times number names)) in
    omega (arith, more, w, unit)

-- ---- rows

abbrev AreFit : ℕ → List WRow → Type 0
AreFit end rows = AllByRecursion (IsRow end) rows

int_below : (first end : ℕ) (state : AbstractState) (id : ℕ) → first + length (variables state) ≤ end → HasCell is_int state id
    → variable_of first state id < end
int_below first end state id l has = variable_below first end state id l (int_variable state id has)

size_below : (first end : ℕ) (state : AbstractState) (id : ℕ) → first + length (variables state) ≤ end
    → HasCell is_size_variable state id → variable_of first state id < end
size_below first end state id l has = variable_below first end state id l (size_variable state id has)

bounds_fit : (end v : ℕ) (cell : Cell) → (is_int cell ≡ true → v < end) → IsBounded cell → AreFit end (bounds_of v cell)
bounds_fit end v (Int interval) below bounded =
    let l = below refl in
    let low = bounded.0 in
    let high = bounded.1 in (
      record { rise = (omega arith, l, tt); constant = omega (arith, ints, low); weights = omega arith },
      (record { rise = (omega arith, l, tt); constant = omega (arith, ints, high); weights = omega arith }, tt),
    )
bounds_fit end v Null below bounded = tt
bounds_fit end v (Obj class ids) below bounded = tt
bounds_fit end v (Nums kind len) below bounded = tt
bounds_fit end v (Refs element len shape) below bounded = tt
bounds_fit end v (Unk bound nullable shape) below bounded = tt

cells_fit : (first end : ℕ) (state : AbstractState) (cells : List (ℕ × Cell)) → first + length (variables state) ≤ end
    → IsSuffix state cells → All (λ (c : ℕ × Cell). IsBounded c.1) cells →
    AreFit end (flat_map (λ (c : ℕ × Cell). bounds_of (variable_of first state c.0) c.1) cells)
cells_fit first end state [] l s bounded = tt
cells_fit first end state (c ∷ cells) l s bounded =
    all_joined (IsRow end) (bounds_of (variable_of first state c.0) c.1)
    (flat_map (λ (x : ℕ × Cell). bounds_of (variable_of first state x.0) x.1) cells)
    (bounds_fit end (variable_of first state c.0) c.1
    (λ t. int_below first end state c.0 l (record { cell = c.1; is = suffix_first state c cells s; sort_is = t }))
    (bounded 0 c (omega arith)))
    (cells_fit first end state cells l (suffix_rest state c cells s) (λ k d m. bounded (suc k) d (omega (arith, m))))

size_bounds_fit : (first end : ℕ) (state : AbstractState) (ids : List ℕ) → first + length (variables state) ≤ end
    → AllByRecursion (HasCell is_size_variable state) ids →
    AreFit end (map (λ (id : ℕ). at_least_zero ((variable_of first state id, pos 1) ∷ []) (pos 0)) ids)
size_bounds_fit first end state [] l all = tt
size_bounds_fit first end state (id ∷ ids) l all = (
  record { rise = (omega arith, size_below first end state id l all.0, tt); constant = omega arith; weights = omega arith },
  size_bounds_fit first end state ids l all.1,
)

stop_fit : (first end : ℕ) (stop : Stop) → first + length (variables stop.state) ≤ end → IsGoodStop stop → AreBounded stop.state
    → AreFit end (rows_of_stop first stop.state)
stop_fit first end stop l good bounded =
    all_joined (IsRow end) (flat_map (λ (c : ℕ × Cell). bounds_of (variable_of first stop.state c.0) c.1) stop.state.cells)
    (map (λ (id : ℕ). at_least_zero ((variable_of first stop.state id, pos 1) ∷ []) (pos 0)) (ids_with is_size_variable stop.state))
    (cells_fit first end stop.state stop.state.cells l (whole_suffix stop.state good.good.rising) bounded)
    (size_bounds_fit first end stop.state (ids_with is_size_variable stop.state) l
    (have_sort is_size_variable stop.state good.good.rising))

tie_fits : (end v w : ℕ) → v < end → w < end → IsRow end (tie v w)
tie_fits end v w l m = record {
  rise = collected_rises end ((v, pos 1) ∷ (w, negsuc 0) ∷ []) (l, (m, tt));
  constant = omega arith;
  weights = omega arith;
}

ties_fit : (first next end : ℕ) (state other : AbstractState) (ids : List ℕ) → first + length (variables state) ≤ end
    → next + length (variables other) ≤ end → AllByRecursion (HasCell is_int state) ids →
    AreFit end (map (λ (id : ℕ). tie (variable_of first state id) (variable_of next other id)) (filter (has_int other) ids))
ties_fit first next end state other [] l m all = tt
ties_fit first next end state other (id ∷ ids) l m all = at (has_int other id) refl (ties_fit first next end state other ids l m all.1)
  where
    at : (b : Bool) → has_int other id ≡ b
        → AreFit end (map (λ (x : ℕ). tie (variable_of first state x) (variable_of next other x)) (filter (has_int other) ids)) →
        AreFit end (map (λ (x : ℕ). tie (variable_of first state x) (variable_of next other x))
        (cond b (id ∷ filter (has_int other) ids) (filter (has_int other) ids)))
    at true e rest = (
      tie_fits end (variable_of first state id) (variable_of next other id) (int_below first end state id l all.0)
          (int_below next end other id m (of_sort other id (cell_at other id) refl e)),
      rest,
    )
    at false e rest = rest

terms_below : (first next end : ℕ) (state other : AbstractState) (terms : List (Side × ℕ × ℤ))
    → first + length (variables state) ≤ end → next + length (variables other) ≤ end → All (IsTermBetween state other) terms →
    AreBelow end (map (λ (term : Side × ℕ × ℤ).
    (variable_at (variable_of first state) (variable_of next other) term.0 term.1, term.2)) terms)
terms_below first next end state other [] l m all = tt
terms_below first next end state other ((Before, id, number) ∷ terms) l m all = (
  int_below first end state id l (all 0 (Before, id, number) (omega arith)).0,
  terms_below first next end state other terms l m
      (λ k d n. all (suc k) d (omega (arith, n))),
)
terms_below first next end state other ((After, id, number) ∷ terms) l m all = (
  int_below next end other id m (all 0 (After, id, number) (omega arith)).0,
  terms_below first next end state other terms l m
      (λ k d n. all (suc k) d (omega (arith, n))),
)

links_fit : (first next end : ℕ) (state other : AbstractState) (rows : List LinkRow) → first + length (variables state) ≤ end
    → next + length (variables other) ≤ end → All (IsRowBetween state other) rows →
    AreFit end (map (link_row (variable_of first state) (variable_of next other)) rows)
links_fit first next end state other [] l m all = tt
links_fit first next end state other (row ∷ rows) l m all =
    let good = all 0 row (omega arith) in
    let small = good.constant in (
      record {
        rise = collected_rises end
            (map (λ (term : Side × ℕ × ℤ). (variable_at (variable_of first state) (variable_of next other) term.0 term.1, term.2))
            row.terms) (terms_below first next end state other row.terms l m good.terms);
        constant = omega (arith, small);
        weights = omega arith;
      },
      links_fit first next end state other rows l m (λ k d n. all (suc k) d (omega (arith, n))),
    )

-- the pattern of a sized id has at most 4,096 parts, and its variables are below a number
pub pattern_small : (state : AbstractState) (id : ℕ) (pattern : Pattern) → IsSizedBy state id pattern → count_in pattern ≤ 4096
pattern_small state id pattern is =
    let small = is.sized.small in
    let same = ap count_in (one_pattern state id pattern is.sized.pattern is.is is.sized.is) in
    omega (arith, small, same)

pattern_below : (first end : ℕ) (state : AbstractState) (id : ℕ) (pattern : Pattern) → first + length (variables state) ≤ end
    → IsSizedBy state id pattern → AllByRecursion (λ (x : ℕ). variable_of first state x < end) (variables_in pattern)
pattern_below first end state id pattern l is =
    all_weaker (HasCell is_size_variable state) (λ (x : ℕ). variable_of first state x < end)
    (λ x has. size_below first end state x l has) (variables_in pattern) (pattern_variables state id pattern is)

size_row_fits : (end v first : ℕ) (stop : Stop) (id : ℕ) (pattern : Pattern) → v < end → first + length (variables stop.state) ≤ end
    → IsSizedBy stop.state id pattern → IsRow end (size_row v (variable_of first stop.state) pattern)
size_row_fits end v first stop id pattern l m is =
    let few = pattern_small stop.state id pattern is in
    let short = few_classes pattern in
    let small = collected_small (negsuc 0) (classes_in pattern) (omega arith) in
    record {
      rise = collected_rises end ((v, pos 1) ∷ each_times (negsuc 0) (map (variable_of first stop.state) (variables_in pattern))) (
        l,
        names_below end (negsuc 0) (variable_of first stop.state) (variables_in pattern)
            (pattern_below first end stop.state id pattern m is),
      );
      constant = omega arith;
      weights = omega (arith, few, short, small);
    }

size_fits : (end v first : ℕ) (stop : Stop) (id : ℕ) (found : Option Pattern) → v < end
    → first + length (variables stop.state) ≤ end → IsGoodStop stop → pattern_in stop.sizes id ≡ found
    → AreFit end (rows_of_size v first stop.state found)
size_fits end v first stop id None l m good e = tt
size_fits end v first stop id (Some pattern) l m good e =
    (size_row_fits end v first stop id pattern l m (sized_by stop id pattern good e), tt)

child_sizes_fit : (first next end : ℕ) (state : AbstractState) (after : Stop) (link : Link) (ids : List ℕ)
    → first + length (variables state) ≤ end → next + length (variables after.state) ≤ end → IsGoodStop after →
    AllByRecursion (HasCell is_size_variable state) ids
    → AreFit end (flat_map
    (λ (id : ℕ). rows_of_size (variable_of first state id) next after.state (pattern_in after.sizes (id_after link.merged id))) ids)
child_sizes_fit first next end state after link [] l m good all = tt
child_sizes_fit first next end state after link (id ∷ ids) l m good all =
    all_joined (IsRow end) (rows_of_size (variable_of first state id) next after.state (pattern_in after.sizes (id_after link.merged id)))
    (flat_map (λ (x : ℕ). rows_of_size (variable_of first state x) next after.state (pattern_in after.sizes (id_after link.merged x))) ids)
    (size_fits end (variable_of first state id) next after (id_after link.merged id)
    (pattern_in after.sizes (id_after link.merged id)) (size_below first end state id l all.0) m good refl)
    (child_sizes_fit first next end state after link ids l m good all.1)

child_fits : (first next end : ℕ) (stop after : Stop) (link : Link) → first + length (variables stop.state) ≤ end
    → next + length (variables after.state) ≤ end → IsGoodStop stop → IsGoodStop after → IsLinkBetween stop.state after.state link →
    AreFit end (rows_of_child first stop link next after)
child_fits first next end stop after link l m good good_after between =
    let ties = map (λ (id : ℕ). tie (variable_of first stop.state id) (variable_of next after.state id))
    (filter (has_int after.state) (ids_with is_int stop.state)) in
    let linked = map (link_row (variable_of first stop.state) (variable_of next after.state)) link.rows in
    let sizes = flat_map (λ (id : ℕ). rows_of_size (variable_of first stop.state id) next after.state
    (pattern_in after.sizes (id_after link.merged id))) (ids_with is_size_variable stop.state) in
    all_joined (IsRow end) ties (linked ++ sizes)
    (ties_fit first next end stop.state after.state (ids_with is_int stop.state) l m (have_sort is_int stop.state good.good.rising))
    (all_joined (IsRow end) linked sizes (links_fit first next end stop.state after.state link.rows l m between.rows)
    (child_sizes_fit first next end stop.state after link (ids_with is_size_variable stop.state) l m good_after
    (have_sort is_size_variable stop.state good.good.rising)))

image_fits : (end first v : ℕ) (stop : Stop) (found : Option ℕ) → v < end
    → ((image : ℕ) → found ≡ Some image → variable_of first stop.state image < end) → AreFit end (image_row first stop v found)
image_fits end first v stop None l m = tt
image_fits end first v stop (Some image) l m = (tie_fits end v (variable_of first stop.state image) l (m image refl), tt)

images_fit : (first next end : ℕ) (stop target : Stop) (entries : List (ℕ × ℕ)) (ids : List ℕ)
    → first + length (variables stop.state) ≤ end → next + length (variables target.state) ≤ end
    → IsMapBetween stop.state target.state entries →
    AllByRecursion (HasCell is_int target.state) ids
    → AreFit end (flat_map (λ (id : ℕ). image_row first stop (variable_of next target.state id) (image_in entries id)) ids)
images_fit first next end stop target entries [] l m good all = tt
images_fit first next end stop target entries (id ∷ ids) l m good all =
    let given = good.ints id all.0 in
    all_joined (IsRow end) (image_row first stop (variable_of next target.state id) (image_in entries id))
    (flat_map (λ (x : ℕ). image_row first stop (variable_of next target.state x) (image_in entries x)) ids)
    (image_fits end first (variable_of next target.state id) stop (image_in entries id) (int_below next end target.state id m all.0)
    (λ image e. int_below first end stop.state image l
    (subst (λ (x : ℕ). HasCell is_int stop.state x) (some_is (sym given.1.0 ∙ e)) given.1.1)))
    (images_fit first next end stop target entries ids l m good all.1)

image_size_fits : (end first v : ℕ) (stop : Stop) (found : Option ℕ) → v < end → first + length (variables stop.state) ≤ end
    → IsGoodStop stop → AreFit end (image_size_row first stop v found)
image_size_fits end first v stop None l m good = tt
image_size_fits end first v stop (Some image) l m good = size_fits end v first stop image (pattern_in stop.sizes image) l m good refl

image_sizes_fit : (first next end : ℕ) (stop target : Stop) (entries : List (ℕ × ℕ)) (ids : List ℕ)
    → first + length (variables stop.state) ≤ end → next + length (variables target.state) ≤ end → IsGoodStop stop →
    AllByRecursion (HasCell is_size_variable target.state) ids
    → AreFit end (flat_map (λ (id : ℕ). image_size_row first stop (variable_of next target.state id) (image_in entries id)) ids)
image_sizes_fit first next end stop target entries [] l m good all = tt
image_sizes_fit first next end stop target entries (id ∷ ids) l m good all =
    all_joined (IsRow end) (image_size_row first stop (variable_of next target.state id) (image_in entries id))
    (flat_map (λ (x : ℕ). image_size_row first stop (variable_of next target.state x) (image_in entries x)) ids)
    (image_size_fits end first (variable_of next target.state id) stop (image_in entries id)
    (size_below next end target.state id m all.0) l good)
    (image_sizes_fit first next end stop target entries ids l m good all.1)

instance_fits : (first next end : ℕ) (stop target : Stop) (entries : List (ℕ × ℕ)) → first + length (variables stop.state) ≤ end
    → next + length (variables target.state) ≤ end → IsGoodStop stop → IsGoodStop target →
    IsMapBetween stop.state target.state entries → AreFit end (rows_of_instance first stop entries next target)
instance_fits first next end stop target entries l m good good_target between =
    all_joined (IsRow end) (flat_map (λ (id : ℕ). image_row first stop (variable_of next target.state id) (image_in entries id))
    (ids_with is_int target.state))
    (flat_map (λ (id : ℕ). image_size_row first stop (variable_of next target.state id) (image_in entries id))
    (ids_with is_size_variable target.state))
    (images_fit first next end stop target entries (ids_with is_int target.state) l m between
    (have_sort is_int target.state good_target.good.rising))
    (image_sizes_fit first next end stop target entries (ids_with is_size_variable target.state) l m good
    (have_sort is_size_variable target.state good_target.good.rising))

leg_fits : (first next end : ℕ) (stop after : Stop) (leg : Leg) → first + length (variables stop.state) ≤ end
    → next + length (variables after.state) ≤ end → IsGoodStop stop → IsGoodStop after → IsGoodLeg stop.state leg after.state →
    AreFit end (rows_of_leg first stop leg next after)
leg_fits first next end stop after (child link) l m good good_after between = child_fits first next end stop after link l m good
    good_after between
leg_fits first next end stop after (instance entries) l m good good_after between = instance_fits first next end stop after entries
    l m good good_after between

-- ---- the whole path

abbrev vars_of : ℕ → Stop → List (Leg × Stop) → ℕ
vars_of first stop rides = variables_after (last_along first stop rides).0 (last_along first stop rides).1

high : (first : ℕ) (stop : Stop) (rides : List (Leg × Stop)) → variables_after first stop ≤ vars_of first stop rides
high first stop [] = omega arith
high first stop (ride ∷ rides) = let more = high (variables_after first stop) ride.1 rides in omega (arith, more)

along_fits : (first end : ℕ) (stop : Stop) (rides : List (Leg × Stop)) → vars_of first stop rides ≤ end → AreGoodAlong stop rides
    → AreBounded stop.state → AllBounded rides → AreFit end (rows_along first stop rides)
along_fits first end stop [] l good bounded all = stop_fit first end stop l good bounded
along_fits first end stop (ride ∷ rides) l good bounded all =
    let next = variables_after first stop in
    let up = high next ride.1 rides in
    let here : first + length (variables stop.state) ≤ end = omega (arith, up, l) in
    let there : next + length (variables ride.1.state) ≤ end = omega (arith, up, l) in
    all_joined (IsRow end) (rows_of_stop first stop.state) (rows_of_leg first stop ride.0 next ride.1 ++ rows_along next ride.1 rides)
    (stop_fit first end stop here good.0 bounded)
    (all_joined (IsRow end) (rows_of_leg first stop ride.0 next ride.1) (rows_along next ride.1 rides)
    (leg_fits first next end stop ride.1 ride.0 here there good.0 (good_first ride.1 rides good.1.1) good.1.0)
    (along_fits next end ride.1 rides l good.1.1 all.0 all.1))

-- ---- slots

slots_fit : (first end : ℕ) (stop : Stop) (ids : List ℕ) → first + length (variables stop.state) ≤ end
    → AllByRecursion (HasCell is_int stop.state) ids → AllByRecursion (IsSlot end) (map (int_slot first stop) ids)
slots_fit first end stop [] l all = tt
slots_fit first end stop (id ∷ ids) l all = (
  record { rise = (omega arith, int_below first end stop.state id l all.0, tt); constant = omega arith; weights = omega arith },
  slots_fit first end stop ids l all.1,
)

size_slot_fits : (first end : ℕ) (stop : Stop) (id : ℕ) (pattern : Pattern) → first + length (variables stop.state) ≤ end
    → IsSizedBy stop.state id pattern → IsSlot end (size_slot first stop (id, pattern))
size_slot_fits first end stop id pattern l is =
    let few = pattern_small stop.state id pattern is in
    let short = few_classes pattern in
    let small = collected_small (pos 1) (classes_in pattern) (omega arith) in
    record {
      rise = collected_rises end (each_times (pos 1) (map (variable_of first stop.state) (variables_in pattern)))
          (names_below end (pos 1) (variable_of first stop.state) (variables_in pattern)
          (pattern_below first end stop.state id pattern l is));
      constant = omega arith;
      weights = omega (arith, few, short, small);
    }

size_slots_fit : (first end low : ℕ) (stop : Stop) (sizes : List (ℕ × Pattern)) → first + length (variables stop.state) ≤ end
    → AreKeysRising low sizes →
    ((id : ℕ) (pattern : Pattern) → pattern_in sizes id ≡ Some pattern → IsSizedBy stop.state id pattern)
    → AllByRecursion (IsSlot end) (map (size_slot first stop) sizes)
size_slots_fit first end low stop [] l rise each = tt
size_slots_fit first end low stop (entry ∷ sizes) l rise each = (
  size_slot_fits first end stop entry.0 entry.1 l (each entry.0 entry.1 (pattern_first entry sizes)),
  size_slots_fit first end (suc entry.0) stop sizes l rise.1
      (λ id pattern e. each id pattern (pattern_later entry sizes id pattern rise.1 e)),
)

stop_slots : (first end : ℕ) (stop : Stop) → first + length (variables stop.state) ≤ end → IsGoodStop stop
    → AllByRecursion (IsSlot end) (slots_of first stop)
stop_slots first end stop l good =
    all_joined (IsSlot end) (map (int_slot first stop) (ids_with is_int stop.state)) (map (size_slot first stop) stop.sizes)
    (slots_fit first end stop (ids_with is_int stop.state) l (have_sort is_int stop.state good.good.rising))
    (size_slots_fit first end 0 stop stop.sizes l good.sizes.rise (λ id pattern e. sized_by stop id pattern good e))

-- ---- the rule

pub rule_fits : (linked : LinkedGraph) (cuts : List ℕ) (from to : ℕ) (places : List ℕ) (has : HasRides linked from places)
    → IsReady linked.graph linked.links cuts → AreSized linked → AreBounded has.start.state → AllBounded has.rides →
    IsRule (rule_over from to has.start has.rides)
rule_fits linked cuts from to places has ready sized bounded all =
    let good = good_along linked cuts from places has.start has.rides ready sized has.starts has.goes in
    let end = vars_of 0 has.start has.rides in
    let up = high 0 has.start has.rides in
    record {
      rows = All-from_recursion (IsRow end) (rows_along 0 has.start has.rides)
          (along_fits 0 end has.start has.rides (omega arith) good bounded all);
      first = All-from_recursion (IsSlot end) (slots_of 0 has.start)
          (stop_slots 0 end has.start (omega (arith, up)) (good_first has.start has.rides good));
      last = All-from_recursion (IsSlot end) (slots_of (last_along 0 has.start has.rides).0 (last_along 0 has.start has.rides).1)
          (stop_slots (last_along 0 has.start has.rides).0 end (last_along 0 has.start has.rides).1 (omega arith)
          (last_good 0 has.start has.rides good));
    }
