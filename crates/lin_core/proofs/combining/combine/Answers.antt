use Rattle.std.proofs.Common.{◌≡◌, ◌∙◌, sym, arith, FitsSigned, to_z, of_z, to_z-of_z, rules}
use Rattle.std.specs.Int.{w64}
use Rattle.lin_core.specs.Weights.{weight_in, unweighed, row_under, rows_under}
use Rattle.lin_core.proofs.Admitted.{all_allowed}
use Rattle.lin_core.proofs.Partly.{partly_first, partly_entry, partly_more, partly_last, partly_within, within_more}
use Rattle.lin_core.proofs.Soundness.{sum_nonneg_where_rows_hold}
use Rattle.lin_core.proofs.Weighs.{found_under, found_inside, same_faults, rise_under, row_is, row_rises, adds_row}
use Rattle.lin_core.proofs.combining.combine.Goals as goal

pub returns-in-Some-clause-fault : goal.returns-in-Some-clause-fault
returns-in-Some-clause-fault c = sym (same_faults (weight_in c.args.weights.now) unweighed c.args.rows.now 0 c.args.multipliers.now
    ∙ sym c.first_fault.ensures ∙ c.in-Some.is)

pub loop-index-init : goal.loop-index-init
loop-index-init c = partly_first _ _ _ _
    (same_faults (weight_in c.args.weights.now) unweighed c.args.rows.now 0 c.args.multipliers.now ∙ sym c.first_fault.ensures
    ∙ c.in_default.is) c.clear.ensures

pub bounds-rows-index : goal.bounds-rows-index
bounds-rows-index c =
    let entry = partly_entry _ _ _ _ _ c.loop-index-test.true c.loop-index.invariant in
    found_inside (weight_in c.args.weights.now) c.args.rows.now _ _ entry.is

pub constant_of-requires-clause-number : goal.constant_of-requires-clause-number
constant_of-requires-clause-number c =
    let entry = partly_entry _ _ _ _ _ c.loop-index-test.true c.loop-index.invariant in
    (row_is c.args.rows.now _ _ c.index-rows-index.result (found_inside (weight_in c.args.weights.now) c.args.rows.now _ _ entry.is)
    c.index-rows-index.is c.requires.rows).constant

pub constant_of-requires-clause-multiples : goal.constant_of-requires-clause-multiples
constant_of-requires-clause-multiples c =
    let entry = partly_entry _ _ _ _ _ c.loop-index-test.true c.loop-index.invariant in
    (row_is c.args.rows.now _ _ c.index-rows-index.result (found_inside (weight_in c.args.weights.now) c.args.rows.now _ _ entry.is)
    c.index-rows-index.is c.requires.rows).weights

pub add-requires-clause-size : goal.add-requires-clause-size
add-requires-clause-size c = (partly_entry _ _ _ _ _ c.loop-index-test.true c.loop-index.invariant).size

pub add-requires-clause-rise : goal.add-requires-clause-rise
add-requires-clause-rise c =
    let entry = partly_entry _ _ _ _ _ c.loop-index-test.true c.loop-index.invariant in
    let inside = found_inside (weight_in c.args.weights.now) c.args.rows.now _ _ entry.is in
    rw c.as_slice.ensures (row_rises c.args.rows.now _ _ c.index-rows-index.result c.loop-index.into inside c.index-rows-index.is
    c.requires.rows c.loop-index.invariant.count)

pub add-requires-clause-room : goal.add-requires-clause-room
add-requires-clause-room c = within_more _ _ _ (omega arith) c.loop-index.invariant.within

pub loop-index-preserved : goal.loop-index-preserved
loop-index-preserved c =
    let entry = partly_entry _ _ _ _ _ c.loop-index-test.true c.loop-index.invariant in
    let found = found_under (weight_in c.args.weights.now) c.args.rows.now _ c.index-rows-index.result
    (found_inside (weight_in c.args.weights.now) c.args.rows.now _ _ entry.is) c.index-rows-index.is in
    let fits : FitsSigned w64 c.constant_of.result = search rules in
    let back : to_z w64 (of_z w64 c.constant_of.result) ≡ c.constant_of.result = to_z-of_z fits in
    partly_more (rows_under (weight_in c.args.weights.now) c.args.rows.now) _
    (row_under (weight_in c.args.weights.now) c.index-rows-index.result) _ _ _ _ c.loop-index-test.true c.loop-index.invariant
    found (adds_row (row_under (weight_in c.args.weights.now) c.index-rows-index.result) c.as_slice.result.now _ _ _ _
    c.as_slice.ensures (back ∙ c.constant_of.ensures) c.add.ensures)

pub returns-clause-fault : goal.returns-clause-fault
returns-clause-fault c = sym (same_faults (weight_in c.args.weights.now) unweighed c.args.rows.now 0 c.args.multipliers.now
    ∙ sym c.first_fault.ensures ∙ c.in_default.is)

pub returns-clause-sum : goal.returns-clause-sum
returns-clause-sum c = partly_last _ _ _ _ _ (omega arith) c.loop-index.invariant

pub returns-clause-within : goal.returns-clause-within
returns-clause-within c = partly_within _ _ _ _ _ _ (omega (arith, c.loop-index.auto.index-index-end)) c.loop-index.invariant

pub returns-clause-sound : goal.returns-clause-sound
returns-clause-sound c = λ numbers hold.
    let none = same_faults (weight_in c.args.weights.now) unweighed c.args.rows.now 0 c.args.multipliers.now
    ∙ sym c.first_fault.ensures ∙ c.in_default.is in
    sum_nonneg_where_rows_hold numbers _ _ _ _ (rise_under (weight_in c.args.weights.now) _ c.args.rows.now c.requires.rows)
    (partly_last _ _ _ _ _ (omega arith) c.loop-index.invariant) (all_allowed _ 0 _ none) hold
