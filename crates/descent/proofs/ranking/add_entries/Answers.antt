use Rattle.std.proofs.Common.{◌≡◌, ◌∙◌, arith, FitsSigned, to_z, of_z, to_z-of_z, rules}
use Rattle.std.specs.Int.{w64}
use Rattle.lin_core.specs.Sums.{variables}
use Rattle.lin_core.specs.Weights.{weight_in}
use Rattle.descent.specs.lemmas.Shown.{slot_fits}
use Rattle.descent.proofs.Adding.{adding_room, adding_last, adding_slot_more, adding_none_more}
use Rattle.descent.proofs.ranking.add_entries.Goals as goal
use Rattle.descent.proofs.ranking.add_entries.Goals.{in-Some, in_default}

pub slot_constant-requires-clause-slot : goal.slot_constant-requires-clause-slot
slot_constant-requires-clause-slot c = (
  variables c.args.scratch.now,
  slot_fits (variables c.args.scratch.now) c.args.slots.now
      c.args.size _ c.in-Some.slot.now c.requires.slots c.in-Some.ensures,
)

pub add-requires-clause-rise : goal.add-requires-clause-rise
add-requires-clause-rise c =
    let fit = slot_fits (variables c.args.scratch.now) c.args.slots.now c.args.size _ c.in-Some.slot.now c.requires.slots
    c.in-Some.ensures in
    rw (c.as_slice.ensures, c.loop-id.invariant.count) fit.rise

pub add-requires-clause-room : goal.add-requires-clause-room
add-requires-clause-room c = adding_room _ _ _ _ _ _ _ _ _ c.loop-id-test.true c.requires.entries c.requires.room c.loop-id.invariant

pub loop-id-preserved : goal.loop-id-preserved
loop-id-preserved c =
    elim c.match-slot_at.branch [
      | in-Some w ↦
          let one : FitsSigned w64 w.slot_constant.result = search rules in
          let other : FitsSigned w64 w.signed.result = search rules in
          let number : to_z w64 (of_z w64 w.slot_constant.result) ≡ w.slot_constant.result = to_z-of_z one in
          let by : to_z w64 (of_z w64 w.signed.result) ≡ w.signed.result = to_z-of_z other in
          rw w.scratch-is (adding_slot_more (weight_in c.args.weights.now) c.args.slots.now c.args.size _ _ _ c.args.entries.now
          w.in-Some.slot.now _ c.loop-id.id-index c.args.scratch.now c.loop-id.scratch _ c.loop-id-test.true
          c.loop-id.invariant w.in-Some.ensures (by ∙ w.signed.ensures.value) w.as_slice.ensures
          (number ∙ w.slot_constant.ensures) w.add.ensures)
      | in_default w ↦ rw w.scratch-is
          (adding_none_more (weight_in c.args.weights.now) c.args.slots.now c.args.size _ c.args.entries.now c.loop-id.id-index
          c.args.scratch.now c.loop-id.scratch c.loop-id-test.true c.loop-id.invariant w.in_default.ensures)
    ]

pub returns : goal.returns
returns c = adding_last _ _ _ _ _ _ _ _ (omega arith) c.loop-id.auto.id-index-end c.requires.entries c.loop-id.invariant
