-- Every walk of fitting states along a path meets all rows of its rule, and has the values of the slots of both ends.
use Rattle.std.proofs.Common.{◌≡◌, ℕ, zero, suc, ◌+◌, Bool, true, false, List, [], ◌∷◌, ◌++◌, length, map, ℤ, pos, ◌+ℤ◌, ◌*ℤ◌}
use Rattle.std.proofs.Common.{Option, Some, subst, ap, arith, refl, ◌∙◌, sym}
use Rattle.std.specs.Prelude.{slice_get, ◌||◌}
use Rattle.std.specs.List.{AllByRecursion}
use Rattle.std.specs.Option.{option_map_or}
use Rattle.std.proofs.lemmas.Int.{ints}
use Rattle.std.proofs.lemmas.Bool.{false≢true}
use Rattle.std.proofs.lemmas.Option.{slice_get_within}
use Rattle.std.proofs.lemmas.List.Elements.{All-from_recursion}
use Rattle.list_views.proofs.Items.{get_front}
use Rattle.list_views.proofs.Options.{one_answer}
use Rattle.list_views.proofs.Quantified.{all_joined}
use Rattle.lin_core.specs.declared.rows.WRow.{WRow}
use Rattle.lin_core.specs.Rows.{Holds, value_of_terms}
use Rattle.lin_core.specs.Weights.{rows_under}
use Rattle.descent.specs.declared.rules.PathRule.{PathRule}
use Rattle.descent.specs.declared.rules.SlotForm.{SlotForm}
use Rattle.descent.specs.Valuations.{Amount, Valuation, numbers_under}
use Rattle.jvm_values.specs.Terms.{HeapTerm, HeapTerms, IsTerm}
use Rattle.jvm_values.specs.Terms as terms
use Rattle.jvm_values.specs.TypedHeaps.{WorldTypes}
use Rattle.abs_cells.specs.declared.cells.Cell.{Cell}
use Rattle.abs_cells.specs.declared.cells.Cell.TheVariants.{Int, Null, Obj, Nums, Refs, Unk}
use Rattle.abs_cells.specs.AbstractStates.{AbstractState}
use Rattle.abs_cells.specs.Cells.{is_int, cell_at, HasCell}
use Rattle.abs_cells.specs.Patterns.{Pattern, variable}
use Rattle.term_enc.specs.Laws.{IsSizedBy}
use Rattle.term_enc.specs.Sizes.{weight_of, weights_of, each_times, size_terms, size_weights}
use Rattle.term_enc.proofs.Described.{terms_fill, sizes_are}
use Rattle.term_enc.proofs.Summed.{sum_over, sum_both, each_once}
use Rattle.term_enc.proofs.Variables.{variables_sized}
use Rattle.term_graph.specs.Edges.{is_size_variable, number_of}
use Rattle.path_rules.specs.Paths.{Path}
use Rattle.abs_reach.specs.Keys.{AreKeysRising}
use Rattle.path_rules.specs.Stops.{Stop, Leg, LinkedGraph, AreSized, stop_at, rides_from, pattern_in}
use Rattle.path_rules.specs.Rules.{is_variable, place_of, rule_over, last_along, slots_of, int_slot, size_slot, ids_with, variables}
use Rattle.path_rules.specs.Rules.{variable_of, variables_after}
use Rattle.path_rules.specs.Conditions.{IsReady}
use Rattle.path_rules.specs.Walks.{Spot, FitsStop, IsWalk, last_of, SlotIs, SlotsAre, Tells, WalksMeetRules}
use Rattle.path_rules.proofs.Finding.{have_sort, int_variable, size_variable, variable_found}
use Rattle.path_rules.proofs.PatternLists.{pattern_first, pattern_later}
use Rattle.path_rules.proofs.Picking.{get_back}
use Rattle.path_rules.proofs.Walking.{IsGoodStop, AreGoodAlong, Looks, LooksAlong, AreTrueBy, described, sized_by, have_weights}
use Rattle.path_rules.proofs.Walking.{good_first, last_good, looks_first, last_looks, last_fits, fits_first, rows_true}
use Rattle.path_rules.proofs.Ready.{good_along}

-- ---- what a term weighs, as multiples of class weights

abbrev mutual
  term_classes : HeapTerm → List ℕ
  term_classes terms.null = []
  term_classes terms.leaf = []
  term_classes (terms.node class children) = class ∷ all_classes children

  all_classes : HeapTerms → List ℕ
  all_classes terms.none = []
  all_classes (terms.more term rest) = term_classes term ++ all_classes rest

module _ (weigh : ℕ → ℤ) where
  mutual
    weight_sum : (term : HeapTerm) → sum_over weigh (term_classes term) ≡ weight_of weigh term
    weight_sum terms.null = refl
    weight_sum terms.leaf = refl
    weight_sum (terms.node class children) = ap (λ (z : ℤ). weigh class +ℤ z) (weights_sum children)

    weights_sum : (children : HeapTerms) → sum_over weigh (all_classes children) ≡ weights_of weigh children
    weights_sum terms.none = refl
    weights_sum (terms.more term rest) =
        sum_both weigh (term_classes term) (all_classes rest)
        ∙ (ap (λ (z : ℤ). z +ℤ sum_over weigh (all_classes rest)) (weight_sum term)
        ∙ ap (λ (z : ℤ). weight_of weigh term +ℤ z) (weights_sum rest))

-- ---- amounts

abbrev nothing : Amount
nothing = record { number = pos 0; multiples = [] }

abbrev amount_under : (ℕ → ℤ) → Amount → ℤ
amount_under weigh amount = amount.number +ℤ value_of_terms weigh amount.multiples

-- what an id whose size is a variable stands for
pub record HasSize (spot : Spot) (id : ℕ) (amount : Amount) : Type 0 where
  pub term : HeapTerm
  pub is : IsTerm spot.machine.heap (spot.meaning id) term
  pub weight_is : (weigh : ℕ → ℤ) → amount_under weigh amount ≡ weight_of weigh term

pub record IsAmount (state : AbstractState) (spot : Spot) (id : ℕ) (amount : Amount) : Type 0 where
  pub int : HasCell is_int state id → (weigh : ℕ → ℤ) → amount_under weigh amount ≡ number_of (spot.meaning id)
  pub size : HasCell is_size_variable state id → HasSize spot id amount

not_both : (cell : Cell) → is_int cell ≡ true → is_size_variable cell ≡ true → ⊥
not_both (Int interval) e f = false≢true f
not_both Null e f = false≢true e
not_both (Obj class ids) e f = false≢true e
not_both (Nums kind len) e f = false≢true e
not_both (Refs element len shape) e f = false≢true e
not_both (Unk bound nullable shape) e f = false≢true e

apart : (state : AbstractState) (id : ℕ) → HasCell is_int state id → HasCell is_size_variable state id → ⊥
apart state id a b = not_both b.cell (ap is_int (one_answer (cell_at state id) b.cell a.cell b.is a.is) ∙ a.sort_is) b.sort_is

plain : (n : ℤ) → n +ℤ pos 0 ≡ n
plain n = omega (arith, ints)

from_nothing : (n : ℤ) → pos 0 +ℤ n ≡ n
from_nothing n = omega (arith, ints)

module _ (types : WorldTypes) (stop : Stop) (spot : Spot) (good : IsGoodStop stop) (fits : FitsStop types stop spot) where
  amount_of : (id : ℕ) → HasCell is_variable stop.state id → (amount : Amount) × IsAmount stop.state spot id amount
  amount_of id has = at (is_int has.cell) refl has.sort_is
    where
      at : (b : Bool) → is_int has.cell ≡ b → (b || is_size_variable has.cell) ≡ true → (amount : Amount)
          × IsAmount stop.state spot id amount
      at true e v = (
        record { number = number_of (spot.meaning id); multiples = [] },
        record {
          int = λ h weigh. plain (number_of (spot.meaning id));
          size = λ h. absurd (apart stop.state id (record { cell = has.cell; is = has.is; sort_is = e }) h);
        },
      )
      at false e v =
          let here : HasCell is_size_variable stop.state id = record { cell = has.cell; is = has.is; sort_is = v } in
          let term = (terms_fill types stop.state spot.machine spot.meaning (described types stop spot good fits) id (variable id)
          (variables_sized stop.state id here)).has in (
            record { number = pos 0; multiples = each_times (pos 1) (term_classes term.0) },
            record {
              int = λ h weigh. absurd (apart stop.state id h here);
              size = λ h. record {
                term = term.0;
                is = term.1;
                weight_is = λ weigh. from_nothing (value_of_terms weigh (each_times (pos 1) (term_classes term.0)))
                    ∙ (each_once weigh (term_classes term.0) ∙ weight_sum weigh term.0);
              };
            },
          )

  -- of some ids each
  record AreAmounts (ids : List ℕ) : Type 0 where
    pub amounts : List Amount
    pub long : length amounts ≡ length ids
    pub each : (k id : ℕ) → slice_get ids k ≡ Some id → (amount : Amount)
        × ((slice_get amounts k ≡ Some amount) × IsAmount stop.state spot id amount)

  amounts_of : (ids : List ℕ) → AllByRecursion (HasCell is_variable stop.state) ids → AreAmounts ids
  amounts_of [] all = record { amounts = []; long = refl; each = λ k id e. absurd (cc) }
  amounts_of (id ∷ ids) all =
      let first = amount_of id all.0 in
      let rest = amounts_of ids all.1 in
      record { amounts = first.0 ∷ rest.amounts; long = ap suc rest.long; each = λ k x e. at first rest k x e }
    where
      at : (first : (amount : Amount) × IsAmount stop.state spot id amount) (rest : AreAmounts ids) (k x : ℕ)
          → slice_get (id ∷ ids) k ≡ Some x → (amount : Amount)
          × ((slice_get (first.0 ∷ rest.amounts) k ≡ Some amount) × IsAmount stop.state spot x amount)
      at first rest zero x e = let same : id ≡ x = cc in
          (first.0, (refl, subst (λ (y : ℕ). IsAmount stop.state spot y first.0) same first.1))
      at first rest (suc k) x e = rest.each k x e

  -- of the stop's variables
  stop_amounts : AreAmounts (variables stop.state)
  stop_amounts = amounts_of (variables stop.state) (have_sort is_variable stop.state good.good.rising)

-- ---- the valuation of a walk

-- for every valuation that gives these amounts from a variable on
record Builds (stop : Stop) (spot : Spot) (rides : List (Leg × Stop)) (spots : List Spot) : Type 0 where
  pub amounts : List Amount
  pub looks : (valuation : Valuation) (first : ℕ)
      → ((n : ℕ) (amount : Amount) → slice_get amounts n ≡ Some amount → valuation (first + n) ≡ amount) → (weigh : ℕ → ℤ)
      → LooksAlong weigh (numbers_under weigh valuation) first stop spot rides spots

module _ (types : WorldTypes) where
  -- where the amounts begin with those of a stop
  stop_looks : (stop : Stop) (spot : Spot) (good : IsGoodStop stop) (fits : FitsStop types stop spot) (amounts : List Amount)
      (valuation : Valuation) (first : ℕ) →
      ((n : ℕ) (amount : Amount) → slice_get (stop_amounts types stop spot good fits).amounts n ≡ Some amount
      → valuation (first + n) ≡ amount) → (weigh : ℕ → ℤ) → Looks weigh (numbers_under weigh valuation) first stop.state spot
  stop_looks stop spot good fits amounts valuation first same weigh =
      let are = stop_amounts types stop spot good fits in
      record {
        ints = λ id has.
            let a = are.each (place_of (variables stop.state) id) id (variable_found stop.state id (int_variable stop.state id has)) in
            ap (amount_under weigh) (same (place_of (variables stop.state) id) a.0 a.1.0) ∙ a.1.1.int has weigh;
        sizes = λ id has.
            let a = are.each (place_of (variables stop.state) id) id (variable_found stop.state id (size_variable stop.state id has)) in
            let size = a.1.1.size has in
            record {
              term = size.term;
              is = size.is;
              number_is = ap (amount_under weigh)
                  (same (place_of (variables stop.state) id) a.0 a.1.0) ∙ size.weight_is weigh;
            };
      }

  shifted : (first a n : ℕ) → (first + a) + n ≡ first + (a + n)
  shifted first a n = omega arith

  build : (stop : Stop) (spot : Spot) (rides : List (Leg × Stop)) (spots : List Spot) → AreGoodAlong stop rides
      → IsWalk types stop spot rides spots → Builds stop spot rides spots
  build stop spot [] [] good walk = record {
    amounts = (stop_amounts types stop spot good walk).amounts;
    looks = λ valuation first same weigh. stop_looks stop spot good walk [] valuation first same weigh;
  }
  build stop spot [] (after ∷ spots) good walk = absurd walk
  build stop spot (ride ∷ rides) [] good walk = absurd walk
  build stop spot (ride ∷ rides) (after ∷ spots) good walk =
      let here = stop_amounts types stop spot good.0 walk.0 in
      let rest = build ride.1 after rides spots good.1.1 walk.1.1 in
      record {
        amounts = here.amounts ++ rest.amounts;
        looks = λ valuation first same weigh. (
          stop_looks stop spot good.0 walk.0 [] valuation first
              (λ n amount e. same n amount (get_front here.amounts rest.amounts n (slice_get_within here.amounts n amount e) ∙ e)) weigh,
          rest.looks valuation (variables_after first stop) (λ n amount e.
              ap valuation (shifted first (length (variables stop.state)) n)
              ∙ same (length (variables stop.state) + n) amount
              (get_back here.amounts rest.amounts (length (variables stop.state) + n) n (ap (λ (k : ℕ). k + n) (sym here.long))
              ∙ e)) weigh,
        );
      }

-- ---- rows

rows_hold : (weigh numbers : ℕ → ℤ) (rows : List WRow) → AreTrueBy weigh numbers rows
    → AllByRecursion (Holds numbers) (rows_under weigh rows)
rows_hold weigh numbers [] are = tt
rows_hold weigh numbers (row ∷ rows) are = (are.0, rows_hold weigh numbers rows are.1)

-- ---- slots

once : (n : ℤ) → (pos 1 *ℤ n +ℤ pos 0) +ℤ (pos 0 +ℤ pos 0) ≡ n
once n = omega (arith, ints)

summed : (a b : ℤ) → a +ℤ (pos 0 +ℤ b) ≡ a +ℤ b
summed a b = omega (arith, ints)

module _ (types : WorldTypes) (valuation : Valuation) (first : ℕ) (stop : Stop) (spot : Spot) (good : IsGoodStop stop)
    (fits : FitsStop types stop spot)
    (looks : (weigh : ℕ → ℤ) → Looks weigh (numbers_under weigh valuation) first stop.state spot) where
  int_slots : (ids : List ℕ) → AllByRecursion (HasCell is_int stop.state) ids
      → AllByRecursion (λ (slot : SlotForm). SlotIs valuation spot slot slot.size) (map (int_slot first stop) ids)
  int_slots [] a = tt
  int_slots (id ∷ ids) a = (
    (λ weigh weighs. once (numbers_under weigh valuation (variable_of first stop.state id)) ∙ (looks weigh).ints id a.0),
    int_slots ids a.1,
  )

  size_is : (id : ℕ) (pattern : Pattern) → IsSizedBy stop.state id pattern
      → SlotIs valuation spot (size_slot first stop (id, pattern)) true
  size_is id pattern is =
      let d = described types stop spot good fits in
      let term = (terms_fill types stop.state spot.machine spot.meaning d id pattern is).has in (
        term.0,
        (
          term.1,
          λ weigh weighs.
              summed (value_of_terms (numbers_under weigh valuation) (size_terms (variable_of first stop.state) pattern))
              (value_of_terms weigh (size_weights pattern))
              ∙ sym (sizes_are types stop.state spot.machine spot.meaning d id pattern is weigh (numbers_under weigh valuation)
              (variable_of first stop.state)
              (have_weights types weigh (numbers_under weigh valuation) weighs first stop.state spot id pattern is (looks weigh))
              term.0 term.1),
        ),
      )

  size_slots : (low : ℕ) (sizes : List (ℕ × Pattern)) → AreKeysRising low sizes
      → ((id : ℕ) (pattern : Pattern) → pattern_in sizes id ≡ Some pattern → IsSizedBy stop.state id pattern) →
      AllByRecursion (λ (slot : SlotForm). SlotIs valuation spot slot slot.size) (map (size_slot first stop) sizes)
  size_slots low [] rise each = tt
  size_slots low (entry ∷ sizes) rise each = (
    size_is entry.0 entry.1 (each entry.0 entry.1 (pattern_first entry sizes)),
    size_slots (suc entry.0) sizes rise.1
        (λ id pattern e. each id pattern (pattern_later entry sizes id pattern rise.1 e)),
  )

  slots_are : SlotsAre valuation spot (slots_of first stop)
  slots_are =
      All-from_recursion (λ (slot : SlotForm). SlotIs valuation spot slot slot.size) (slots_of first stop)
      (all_joined (λ (slot : SlotForm). SlotIs valuation spot slot slot.size)
      (map (int_slot first stop) (ids_with is_int stop.state)) (map (size_slot first stop) stop.sizes)
      (int_slots (ids_with is_int stop.state) (have_sort is_int stop.state good.good.rising))
      (size_slots 0 stop.sizes good.sizes.rise (λ id pattern e. sized_by stop id pattern good e)))

-- ---- the law

amount_there : (amounts : List Amount) (n : ℕ) (amount : Amount) → slice_get amounts n ≡ Some amount
    → option_map_or (λ (a : Amount). a) (slice_get amounts n) nothing ≡ amount
amount_there amounts n amount e = ap (λ (o : Option Amount). option_map_or (λ (a : Amount). a) o nothing) e

from_first : (n : ℕ) → 0 + n ≡ n
from_first n = omega arith

tells : (types : WorldTypes) (linked : LinkedGraph) (cuts : List ℕ) (path : Path) (to : ℕ) (start : Stop)
    (rides : List (Leg × Stop)) (spot : Spot) (spots : List Spot) → IsReady linked.graph linked.links cuts → AreSized linked →
    stop_at linked path.from ≡ Some start → rides_from linked path.from path.places ≡ Some rides
    → IsWalk types start spot rides spots → Tells (rule_over path.from to start rides) spot (last_of spot spots)
tells types linked cuts path to start rides spot spots ready sized here goes walk =
    let good = good_along linked cuts path.from path.places start rides ready sized here goes in
    let built = build types start spot rides spots good walk in
    let valuation : Valuation = λ (n : ℕ). option_map_or (λ (a : Amount). a) (slice_get built.amounts n) nothing in
    let looks = built.looks valuation 0 (λ n amount e. ap valuation (from_first n) ∙ amount_there built.amounts n amount e) in
    let last = last_along 0 start rides in
    record {
      valuation = valuation;
      meets = λ weigh weighs.
          All-from_recursion (Holds (numbers_under weigh valuation)) (rows_under weigh (rule_over path.from to start rides).rows)
          (rows_hold weigh (numbers_under weigh valuation) (rule_over path.from to start rides).rows
          (rows_true types weigh (numbers_under weigh valuation) weighs 0 start spot rides spots good walk (looks weigh)));
      first = slots_are types valuation 0 start spot (good_first start rides good) (fits_first types start spot rides spots walk)
          (λ weigh. looks_first weigh (numbers_under weigh valuation) 0 start spot rides spots (looks weigh));
      last = slots_are types valuation last.0 last.1 (last_of spot spots) (last_good 0 start rides good)
          (last_fits types 0 start spot rides spots walk)
          (λ weigh. last_looks types weigh (numbers_under weigh valuation) 0 start spot rides spots walk (looks weigh));
    }

pub walks_meet_rules : WalksMeetRules
walks_meet_rules types linked cuts path rule start spots ready sized is along =
    let stop_same = one_answer (stop_at linked path.from) along.stop is.start along.starts is.starts in
    let rides_same = one_answer (rides_from linked path.from path.places) along.rides is.rides along.goes is.goes in
    let walk = subst (λ (r : List (Leg × Stop)). IsWalk types is.start start r spots) rides_same
    (subst (λ (s : Stop). IsWalk types s start along.rides spots) stop_same along.walk) in
    subst (λ (r : PathRule). Tells r start (last_of start spots)) (sym is.is)
    (tells types linked cuts path is.to is.start is.rides start spots ready sized is.starts is.goes walk)
