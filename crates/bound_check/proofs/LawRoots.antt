-- What forms are worth at node 0, and that a chain's first turn begins with that.
use Rattle.std.proofs.Common.{◌≡◌, ◌∙◌, ℕ, zero, suc, Bool, true, false, cond, eqb, List, [], ◌∷◌, ◌++◌, map, ℤ, pos, ◌+ℤ◌, ◌*ℤ◌, ◌≤ℤ◌}
use Rattle.std.proofs.Common.{Option, Some, None, slice_get, refl, sym, ap, subst, arith}
use Rattle.std.specs.Prelude.{filter, is_some}
use Rattle.std.specs.List.{AllByRecursion}
use Rattle.std.proofs.lemmas.Bool.{false≢true, true≢false, and_parts}
use Rattle.std.proofs.lemmas.Int.{ints}
use Rattle.std.proofs.lemmas.List.Elements.{recursion_from_All}
use Rattle.std.proofs.lemmas.Option.{none-some, same_Some}
use Rattle.lin_core.proofs.Signs.{mul-zero_ℤ}
use Rattle.lin_core.specs.Weights.{weight_in, AreWeights}
use Rattle.jvm_values.specs.Terms.{HeapTerm, HeapTerms, IsTerm}
use Rattle.jvm_values.specs.Terms as terms
use Rattle.jvm_values.specs.TypedHeaps.{WorldTypes}
use Rattle.abs_cells.specs.Cells.{is_int, is_of_sort, cell_at, HasCell}
use Rattle.abs_cells.specs.Patterns.{Pattern, IsSized}
use Rattle.abs_cells.specs.Sound.{IsWellFormed}
use Rattle.abs_reach.specs.Instances.{is_no_int}
use Rattle.abs_reach.specs.Keys.{AreKeysRising}
use Rattle.descent.specs.declared.proof.CutForm.{CutForm}
use Rattle.descent.specs.declared.proof.RankStep.{RankStep}
use Rattle.descent.specs.declared.rules.PathRule.{PathRule}
use Rattle.descent.specs.declared.rules.SlotForm.{SlotForm}
use Rattle.descent.specs.Chains.{Turn, IsTurn}
use Rattle.descent.specs.Conditions.{IsRanked}
use Rattle.descent.specs.Laws.{start_value}
use Rattle.descent.specs.Rankings.{form_at, slot_at, ints_of, sizes_of, base_of, have_slots, is_taken, takes_start}
use Rattle.descent.specs.Valuations.{Valuation, IsWeighing}
use Rattle.descent.specs.lemmas.Values.{value_of, entry_value, line_value, line_is, found_at}
use Rattle.term_graph.specs.Edges.{number_of}
use Rattle.term_enc.specs.Laws.{IsDescribed, TermsFillPatterns}
use Rattle.term_enc.specs.Sizes.{weight_of, weights_of, Weighs}
use Rattle.path_rules.specs.Rules.{ids_with, int_slot, size_slot, slots_of}
use Rattle.path_rules.specs.Stops.{Stop, AreSizes, pattern_in}
use Rattle.path_rules.specs.Walks.{Spot, SlotIs, SlotsAre}
use Rattle.path_rules.proofs.Finding.{have_sort}
use Rattle.path_rules.proofs.PatternLists.{pattern_first, pattern_later}
use Rattle.cert_check.proofs.Terms.{one_term}
use Rattle.bound_text.specs.declared.texts.BoundEntry.{BoundEntry}
use Rattle.bound_check.specs.Bounds.{AreSizedIds, ints_worth, SizesWorth}
use Rattle.bound_check.proofs.LawUses.{with_forms, BeginsAt}
use Rattle.bound_check.proofs.LawTerms.{RootWorth}

-- ---- weights

weighs_cases : (here : Bool) (weight rest : ℤ) → pos 0 ≤ℤ weight → pos 0 ≤ℤ rest → pos 0 ≤ℤ cond here weight rest
weighs_cases true weight rest h k = h
weighs_cases false weight rest h k = k

is_weighing : (weights : List (ℕ × ℤ)) → AreWeights weights → IsWeighing (weight_in weights)
is_weighing [] fit class = omega (arith, ints)
is_weighing (weight ∷ rest) fit class = weighs_cases (eqb weight.0 class) weight.1 (weight_in rest class) (fit 0 weight (omega arith)).0
    (is_weighing rest (λ i d w. fit (suc i) d (omega (arith, w))) class)

-- where no class weighs anything, no term does
mutual
  weightless : (term : HeapTerm) → weight_of (weight_in []) term ≡ pos 0
  weightless terms.null = refl
  weightless terms.leaf = refl
  weightless (terms.node class children) = let h = all_weightless children in omega (arith, ints, h)

  all_weightless : (children : HeapTerms) → weights_of (weight_in []) children ≡ pos 0
  all_weightless terms.none = refl
  all_weightless (terms.more term rest) =
      let h = weightless term in
      let k = all_weightless rest in
      omega (arith, ints, h, k)

-- ---- slots

all_at : {A : Type 0} (P : A → Type 0) (xs : List A) (n : ℕ) (x : A) → AllByRecursion P xs → slice_get xs n ≡ Some x → P x
all_at P [] n x all e = absurd (none-some x e)
all_at P (y ∷ xs) zero x all e = subst P (same_Some y x e) all.0
all_at P (y ∷ xs) (suc n) x all e = all_at P xs n x all.1 e

all_both : {A : Type 0} (P : A → Type 0) (xs ys : List A) → AllByRecursion P xs → AllByRecursion P ys → AllByRecursion P (xs ++ ys)
all_both P [] ys a b = b
all_both P (x ∷ xs) ys a b = (a.0, all_both P xs ys a.1 b)

-- a first turn from a stop
pub record StartsAt (rules : List PathRule) (cut : ℕ) (stop : Stop) (spot : Spot) (turn : Turn) : Type 0 where
  pub is : IsTurn rules turn
  pub from_is : is.taken.from ≡ cut
  pub slots_are : is.taken.first ≡ slots_of 0 stop
  pub first : SlotsAre turn.valuation spot is.taken.first

abbrev pub BeginsFrom : List PathRule → ℕ → Stop → Spot → List Turn → Type 0
BeginsFrom rules cut stop spot [] = Unit {0}
BeginsFrom rules cut stop spot (turn ∷ turns) = StartsAt rules cut stop spot turn

module _ (stop : Stop) (sizes : AreSizes stop.state stop.sizes) (good : IsWellFormed stop.state) where
  -- a slot's id is an int or sized
  record IsSlotOf (slot : SlotForm) : Type 0 where
    pub int : slot.size ≡ false → HasCell is_int stop.state slot.id
    pub sized : slot.size ≡ true → HasCell is_no_int stop.state slot.id × IsSized stop.state slot.id

  int_slots : (ids : List ℕ) → AllByRecursion (HasCell is_int stop.state) ids → AllByRecursion IsSlotOf (map (int_slot 0 stop) ids)
  int_slots [] all = tt
  int_slots (id ∷ ids) all = (record { int = λ e. all.0; sized = λ e. absurd (false≢true e) }, int_slots ids all.1)

  size_slots : (low : ℕ) (entries : List (ℕ × Pattern)) → AreKeysRising low entries
      → ((id : ℕ) (pattern : Pattern) → pattern_in entries id ≡ Some pattern → HasCell is_no_int stop.state id × IsSized stop.state id)
      → AllByRecursion IsSlotOf (map (size_slot 0 stop) entries)
  size_slots low [] rise each = tt
  size_slots low (entry ∷ entries) rise each = (
    record { int = λ e. absurd (true≢false e); sized = λ e. each entry.0 entry.1 (pattern_first entry entries) },
    size_slots (suc entry.0) entries rise.1 (λ id pattern e. each id pattern (pattern_later entry entries id pattern rise.1 e)),
  )

  all_slots : AllByRecursion IsSlotOf (slots_of 0 stop)
  all_slots = all_both IsSlotOf (map (int_slot 0 stop) (ids_with is_int stop.state)) (map (size_slot 0 stop) stop.sizes)
      (int_slots (ids_with is_int stop.state) (have_sort is_int stop.state good.rising))
      (size_slots 0 stop.sizes sizes.rise (λ id pattern e. let h = sizes.each id pattern e in (h.0, h.1.0)))

  -- ---- values of slots

  module _ (spot : Spot) (valuation : Valuation) (slots : SlotsAre valuation spot (slots_of 0 stop)) where
    -- an id's slot of a kind, with the id's value
    record Found (size : Bool) (id : ℕ) : Type 0 where
      pub slot : SlotForm
      pub is : slot_at (slots_of 0 stop) size id ≡ Some slot
      pub id_is : slot.id ≡ id
      pub value : SlotIs valuation spot slot size
      pub of : IsSlotOf slot
      pub size_is : slot.size ≡ size

    found : (size : Bool) (id : ℕ) (one : Option SlotForm) → slot_at (slots_of 0 stop) size id ≡ one → is_some one ≡ true → Found size id
    found size id None e has = absurd (false≢true has)
    found size id (Some slot) e has =
        let f = found_at (slots_of 0 stop) size id slot e in
        record {
          slot = slot;
          is = e;
          id_is = f.id_is;
          value = subst (λ (b : Bool). SlotIs valuation spot slot b) f.size_is
              (all_at (λ (s : SlotForm). SlotIs valuation spot s s.size) (slots_of 0 stop) f.place slot
              (recursion_from_All (λ (s : SlotForm). SlotIs valuation spot s s.size) (slots_of 0 stop) slots) f.at);
          of = all_at IsSlotOf (slots_of 0 stop) f.place slot all_slots f.at;
          size_is = f.size_is;
        }

    ints_same : (weigh : ℕ → ℤ) → IsWeighing weigh → (entries : List (ℕ × ℤ)) → have_slots (slots_of 0 stop) false entries ≡ true
        → ints_worth spot.meaning (filter (λ (e : ℕ × ℤ). is_of_sort is_int (cell_at stop.state e.0)) entries)
        ≡ entry_value weigh valuation (slots_of 0 stop) false entries
    ints_same weigh g [] has = refl
    ints_same weigh g (entry ∷ rest) has =
        let both = and_parts (is_some (slot_at (slots_of 0 stop) false entry.0)) (have_slots (slots_of 0 stop) false rest) has in
        let f = found false entry.0 (slot_at (slots_of 0 stop) false entry.0) refl both.0 in
        let cell = subst (HasCell is_int stop.state) f.id_is (f.of.int f.size_is) in
        let kept : is_of_sort is_int (cell_at stop.state entry.0) ≡ true = ap (is_of_sort is_int) cell.is ∙ cell.sort_is in
        let more = ints_same weigh g rest both.1 in
        let value : number_of (spot.meaning entry.0) ≡ value_of weigh valuation (slot_at (slots_of 0 stop) false entry.0) =
        ap (λ (id : ℕ). number_of (spot.meaning id)) (sym f.id_is) ∙ sym (f.value weigh g)
        ∙ ap (value_of weigh valuation) (sym f.is) in
        ap (λ (b : Bool). ints_worth spot.meaning (cond b (entry ∷ filter (λ (e : ℕ × ℤ). is_of_sort is_int (cell_at stop.state e.0)) rest)
        (filter (λ (e : ℕ × ℤ). is_of_sort is_int (cell_at stop.state e.0)) rest))) kept
        ∙ ap (λ (z : ℤ). entry.1 *ℤ z +ℤ ints_worth spot.meaning
        (filter (λ (e : ℕ × ℤ). is_of_sort is_int (cell_at stop.state e.0)) rest)) value
        ∙ ap (λ (z : ℤ). entry.1 *ℤ value_of weigh valuation (slot_at (slots_of 0 stop) false entry.0) +ℤ z) more

    -- the first of a sum's multiples
    record First (weigh : ℕ → ℤ) (entry : ℕ × ℤ) (rest : List (ℕ × ℤ)) (value : ℤ) : Type 0 where
      pub size : ℤ
      pub sum : ℤ
      pub weighs : Weighs weigh spot.machine.heap (spot.meaning entry.0) size
      pub others : SizesWorth weigh spot.machine spot.meaning rest sum
      pub is : value ≡ entry.1 *ℤ size +ℤ sum

    first_of : (weigh : ℕ → ℤ) (entry : ℕ × ℤ) (rest : List (ℕ × ℤ)) (value : ℤ)
        → SizesWorth weigh spot.machine spot.meaning (entry ∷ rest) value → First weigh entry rest value
    first_of weigh e r value (SizesWorth.more entry rest size sum w others) =
        record { size = size; sum = sum; weighs = w; others = others; is = refl }

    none_is : (weigh : ℕ → ℤ) (value : ℤ) → SizesWorth weigh spot.machine spot.meaning [] value → value ≡ pos 0
    none_is weigh value SizesWorth.none = refl

    module _ (sized : ℕ → Bool) (are_sized : AreSizedIds stop.state sized) where
      sizes_same : (weigh : ℕ → ℤ) → IsWeighing weigh → (entries : List (ℕ × ℤ)) (value : ℤ)
          → SizesWorth weigh spot.machine spot.meaning (filter (λ (e : ℕ × ℤ). sized e.0) entries) value
          → have_slots (slots_of 0 stop) true entries ≡ true → value ≡ entry_value weigh valuation (slots_of 0 stop) true entries
      sizes_same weigh g [] value worth has = none_is weigh value worth
      sizes_same weigh g (entry ∷ rest) value worth has =
          let both = and_parts (is_some (slot_at (slots_of 0 stop) true entry.0)) (have_slots (slots_of 0 stop) true rest) has in
          let f = found true entry.0 (slot_at (slots_of 0 stop) true entry.0) refl both.0 in
          let of = f.of.sized f.size_is in
          let kept : sized entry.0 ≡ true = (are_sized entry.0).1
          (subst (λ (id : ℕ). HasCell is_no_int stop.state id × IsSized stop.state id) f.id_is of) in
          let first = first_of weigh entry (filter (λ (e : ℕ × ℤ). sized e.0) rest) value
          (subst (λ (b : Bool). SizesWorth weigh spot.machine spot.meaning (cond b (entry ∷ filter (λ (e : ℕ × ℤ). sized e.0) rest)
          (filter (λ (e : ℕ × ℤ). sized e.0) rest)) value) kept worth) in
          let more = sizes_same weigh g rest first.sum first.others both.1 in
          let term = subst (λ (id : ℕ). IsTerm spot.machine.heap (spot.meaning id) f.value.0) f.id_is f.value.1.0 in
          let size : first.size ≡ value_of weigh valuation (slot_at (slots_of 0 stop) true entry.0) =
          first.weighs.number_is
          ∙ ap (weight_of weigh) (one_term spot.machine.heap (spot.meaning entry.0) first.weighs.term f.value.0 first.weighs.is term)
          ∙ sym (f.value.1.1 weigh g) ∙ ap (value_of weigh valuation) (sym f.is) in
          first.is ∙ ap (λ (z : ℤ). entry.1 *ℤ z +ℤ first.sum) size
          ∙ ap (λ (z : ℤ). entry.1 *ℤ value_of weigh valuation (slot_at (slots_of 0 stop) true entry.0) +ℤ z) more

      nothing : (entries : List (ℕ × ℤ)) (value : ℤ) → SizesWorth (weight_in []) spot.machine spot.meaning entries value → value ≡ pos 0
      nothing [] value worth = none_is (weight_in []) value worth
      nothing (entry ∷ rest) value worth =
          let first = first_of (weight_in []) entry rest value worth in
          let size : first.size ≡ pos 0 = first.weighs.number_is ∙ weightless first.weighs.term in
          let more = nothing rest first.sum first.others in
          let product : entry.1 *ℤ first.size ≡ pos 0 = ap (λ (z : ℤ). entry.1 *ℤ z) size ∙ mul-zero_ℤ entry.1 in
          first.is ∙ add_both (entry.1 *ℤ first.size) first.sum product more
        where
          add_both : (a b : ℤ) → a ≡ pos 0 → b ≡ pos 0 → a +ℤ b ≡ pos 0
          add_both a b e h = omega (arith, ints, e, h)

      -- sizes count, or weigh nothing
      by_order : (size : Bool) (weights : List (ℕ × ℤ)) → AreWeights weights → (form : Option CutForm) (value : ℤ)
          → SizesWorth (weight_in (cond size weights [])) spot.machine spot.meaning
          (filter (λ (e : ℕ × ℤ). sized e.0) (sizes_of true form)) value
          → have_slots (slots_of 0 stop) true (sizes_of size form) ≡ true
          → value ≡ entry_value (weight_in (cond size weights [])) valuation (slots_of 0 stop) true (sizes_of size form)
      by_order true weights fit form value worth has = sizes_same (weight_in weights) (is_weighing weights fit)
          (sizes_of true form) value worth has
      by_order false weights fit form value worth has = nothing (filter (λ (e : ℕ × ℤ). sized e.0) (sizes_of true form)) value worth

  -- ---- forms

  module _ (types : WorldTypes) (spot : Spot) (described : IsDescribed types stop.state spot.machine spot.meaning)
      (filled : TermsFillPatterns) (sized : ℕ → Bool) (are_sized : AreSizedIds stop.state sized) where
    record SomeSizes (weigh : ℕ → ℤ) (entries : List (ℕ × ℤ)) : Type 0 where
      pub value : ℤ
      pub worth : SizesWorth weigh spot.machine spot.meaning entries value

    -- what a sized id stands for has a size
    weighed : (weigh : ℕ → ℤ) (id : ℕ) → IsSized stop.state id → (size : ℤ) × Weighs weigh spot.machine.heap (spot.meaning id) size
    weighed weigh id is =
        let h = filled types stop.state spot.machine spot.meaning described id is.pattern (record { sized = is; is = is.is }) in
        (weight_of weigh h.has.0, record { term = h.has.0; is = h.has.1; number_is = refl })

    some_sizes : (weigh : ℕ → ℤ) (entries : List (ℕ × ℤ)) → SomeSizes weigh (filter (λ (e : ℕ × ℤ). sized e.0) entries)
    some_sizes weigh [] = record { value = pos 0; worth = SizesWorth.none }
    some_sizes weigh (entry ∷ rest) = by_size (sized entry.0) refl (some_sizes weigh rest)
      where
        by_size : (b : Bool) → sized entry.0 ≡ b → SomeSizes weigh (filter (λ (e : ℕ × ℤ). sized e.0) rest)
            → SomeSizes weigh (cond b (entry ∷ filter (λ (e : ℕ × ℤ). sized e.0) rest) (filter (λ (e : ℕ × ℤ). sized e.0) rest))
        by_size true e more =
            let size = weighed weigh entry.0 ((are_sized entry.0).0 e).1 in
            record {
              value = entry.1 *ℤ size.0 +ℤ more.value;
              worth = SizesWorth.more entry (filter (λ (x : ℕ × ℤ). sized x.0) rest) size.0 more.value size.1 more.worth;
            }
        by_size false e more = more

    module _ (rules : List PathRule) (turns : List Turn) (begins : BeginsFrom rules 0 stop spot turns)
        (rank : RankStep) (entry : BoundEntry)
        (fits : IsRanked rank) where
      abbrev weights : List (ℕ × ℤ)
      weights = cond rank.size rank.weights []

      abbrev form : Option CutForm
      form = form_at (rank.forms ++ entry.forms) 0

      abbrev kept_ints : List (ℕ × ℤ)
      kept_ints = filter (λ (e : ℕ × ℤ). is_of_sort is_int (cell_at stop.state e.0)) (ints_of form)

      order_weighing : IsWeighing (weight_in weights)
      order_weighing = is_weighing weights (by_size rank.size)
        where
          by_size : (b : Bool) → AreWeights (cond b rank.weights [])
          by_size true = fits.weights
          by_size false = λ i d w. absurd (omega (arith, w))

      begins_at : (turn : Turn) → StartsAt rules 0 stop spot turn → (sizes_value : ℤ)
          → SizesWorth (weight_in weights) spot.machine spot.meaning (filter (λ (e : ℕ × ℤ). sized e.0) (sizes_of true form)) sizes_value
          → (t : IsTurn rules turn) → takes_start (with_forms rank entry.forms) t.taken ≡ true
          → start_value (with_forms rank entry.forms) t.taken turn.valuation
          ≡ base_of form +ℤ (ints_worth spot.meaning kept_ints +ℤ sizes_value)
      begins_at turn starts sizes_value worth t takes =
          let same : t.taken ≡ starts.is.taken = same_Some t.taken starts.is.taken (sym t.is ∙ starts.is.is) in
          let from : t.taken.from ≡ 0 = ap (λ (r : PathRule). r.from) same ∙ starts.from_is in
          let slots_are : t.taken.first ≡ slots_of 0 stop = ap (λ (r : PathRule). r.first) same ∙ starts.slots_are in
          let slots = subst (SlotsAre turn.valuation spot) starts.slots_are starts.first in
          let whole = with_forms rank entry.forms in
          let taken : is_taken whole form (slots_of 0 stop) ≡ true =
          subst (λ (ss : List SlotForm). is_taken whole form ss ≡ true) slots_are
          (subst (λ (cut : ℕ). is_taken whole (form_at (rank.forms ++ entry.forms) cut) t.taken.first ≡ true) from takes) in
          let both = and_parts (have_slots (slots_of 0 stop) false (ints_of form))
          (have_slots (slots_of 0 stop) true (sizes_of rank.size form)) taken in
          let ints_are = ints_same spot turn.valuation slots (weight_in weights) order_weighing (ints_of form) both.0 in
          let sizes_are = by_order spot turn.valuation slots sized are_sized rank.size rank.weights
          fits.weights form sizes_value worth both.1 in
          line_is whole turn.valuation (form_at (rank.forms ++ entry.forms) t.taken.from) t.taken.first
          ∙ ap (λ (cut : ℕ). line_value whole turn.valuation (form_at (rank.forms ++ entry.forms) cut) t.taken.first) from
          ∙ ap (line_value whole turn.valuation form) slots_are
          ∙ ap (λ (z : ℤ). base_of form +ℤ (z +ℤ entry_value (weight_in weights) turn.valuation (slots_of 0 stop) true
          (sizes_of rank.size form))) (sym ints_are)
          ∙ ap (λ (z : ℤ). base_of form +ℤ (ints_worth spot.meaning kept_ints +ℤ z)) (sym sizes_are)

      pub root_worth : RootWorth rules spot.machine spot.meaning stop.state sized turns rank entry
      root_worth =
          let sizes_there = some_sizes (weight_in weights) (sizes_of true form) in
          record {
            value = base_of form +ℤ (ints_worth spot.meaning kept_ints +ℤ sizes_there.value);
            worth = record { sizes = sizes_there.value; are = sizes_there.worth; is = refl };
            begins = by_turns turns begins sizes_there.value sizes_there.worth;
          }
        where
          by_turns : (ts : List Turn) → BeginsFrom rules 0 stop spot ts → (sizes_value : ℤ)
              → SizesWorth (weight_in weights) spot.machine spot.meaning
              (filter (λ (e : ℕ × ℤ). sized e.0) (sizes_of true form)) sizes_value
              → BeginsAt rules (with_forms rank entry.forms) ts (base_of form +ℤ (ints_worth spot.meaning kept_ints +ℤ sizes_value))
          by_turns [] b sizes_value worth = tt
          by_turns (turn ∷ ts) b sizes_value worth = begins_at turn b sizes_value worth
