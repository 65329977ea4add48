use Rattle.std.proofs.Common.{sym, ◌∙◌, arith}
use Rattle.std.proofs.lemmas.Bool.{false≢true}
use Rattle.std.proofs.lemmas.Option.{none-some}
use Rattle.abs_cells.proofs.PackedLooks.{found_same, found_more, slot_in}
use Rattle.abs_cells.proofs.packed.slots_of.Goals as goal
use Rattle.abs_cells.proofs.packed.slots_of.Goals.{in-Some+then-has, in-Some+else-has, in_default}

pub loop-id-preserved : goal.loop-id-preserved
loop-id-preserved c = elim c.match-slot_of.branch [
  | in-Some+then-has w ↦
      rw w.found-is (found_more c.args.slots.now c.args.set.now c.loop-id.found w.put.new.self c.loop-id.id w.in-Some.slot
      c.loop-id.invariant (sym c.slot_of.ensures ∙ w.in-Some.is) (sym w.has.ensures ∙ w.if-has.true) w.put.ensures)
  | in-Some+else-has w ↦
      rw w.found-is (found_same c.args.slots.now c.args.set.now c.loop-id.found c.loop-id.id c.loop-id.invariant
      (λ s e h. false≢true (sym w.if-has.false ∙ w.has.ensures ∙ h)))
  | in_default w ↦
      rw w.found-is (found_same c.args.slots.now c.args.set.now c.loop-id.found c.loop-id.id c.loop-id.invariant
      (λ s e h. none-some s (sym w.in_default.is ∙ c.slot_of.ensures ∙ e)))
]

pub returns-clause-all : goal.returns-clause-all
returns-clause-all c a s e h = c.loop-id.invariant.0 a s (omega (arith, slot_in c.args.slots.now a s e, c.loop-id-test.false)) e h
