use Rattle.std.proofs.Common.{◌≡◌, ◌∙◌, List, Some, refl, sym, subst, length, slice_get, slice_index_or, arith}
use Rattle.std.specs.Prelude.{All}
use Rattle.std.proofs.lemmas.Bool.{false≢true}
use Rattle.std.proofs.lemmas.Option.{slice_get_read, slice_get_within}
use Rattle.jvm_values.specs.declared.heap.Value.{Value}
use Rattle.jvm_values.specs.Heaps.{IsInHeap}
use Rattle.class_world.specs.WorldTypes.{types_of}
use Rattle.class_program.specs.declared.program.Method.{Method}
use Rattle.class_program.specs.Programs.{Program}
use Rattle.class_program.specs.Good.{IsGood}
use Rattle.class_program.specs.Views.{program_of}
use Rattle.input_fits.proofs.Starting.{given_in_heap, have_room}
use Rattle.input_fits.proofs.Told.{fits_told}
use Rattle.input_fits.proofs.given.fits.Goals as goal

entry_is : (p : Program) (m : Method) → IsGood p → m ≡ slice_index_or p.methods 0 m → slice_get p.methods 0 ≡ Some m
entry_is p m good e = slice_get_read p.methods (length p.methods) 0 m refl (slice_get_within p.methods 0 good.first.0 good.first.1) e

pub returns-then-args-from : goal.returns-then-args-from
returns-then-args-from c = (
  λ e. absurd (false≢true e),
  λ h.
      let p = program_of c.args.program.now in
      let entry = entry_is p c.at.result.now c.is_good.ensures.good c.at.ensures in
      let room = have_room p c.args.desc.now c.args.args.now c.args.statics.now c.args.heap.now c.at.result.now entry c.requires h in
      absurd (omega (arith, room, c.if-args-from.true, c.from.ensures)),
)

pub fit_together-requires-clause-closed : goal.fit_together-requires-clause-closed
fit_together-requires-clause-closed c = c.typed_heaps_are_closed.ensures (types_of (program_of c.args.program.now).world) c.args.heap.now
    c.requires.heap_is

pub fit_together-requires-clause-in_heap : goal.fit_together-requires-clause-in_heap
fit_together-requires-clause-in_heap c = subst (λ (vs : List Value). All (IsInHeap (length c.args.heap.now.objects)) vs)
    (sym (c.as_slice.ensures ∙ c.in_ok-values.ensures))
    (given_in_heap (program_of c.args.program.now) c.args.args.now c.args.statics.now c.args.heap.now c.requires)

pub returns : goal.returns
returns c =
    let p = program_of c.args.program.now in
    let entry = entry_is p c.at.result.now c.is_good.ensures.good c.at.ensures in
    fits_told p c.args.desc.now c.args.args.now c.args.statics.now c.as_slice.result.now c.args.heap.now c.at.result.now
    c.fit_together.result entry c.requires (omega (arith, c.if-args-from.false, c.from.ensures)) (c.as_slice.ensures ∙ c.in_ok-values.ensures)
    c.fit_together.ensures
