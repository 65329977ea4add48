use Rattle.std.proofs.Common.{◌∙◌}
use Rattle.class_world.specs.Fields.{own_slots, fields_of}
use Rattle.class_world.proofs.FieldLemmas.{slots_more, slots_start}
use Rattle.class_world.proofs.roster.Roster.fields_of.Goals as goal

pub loop-here-init : goal.loop-here-init
unfolding fields_of
loop-here-init c = slots_start (own_slots c.args.self.now.classes) c.new-slots.result c.into_vec-line.result.items _
    c.new-slots.ensures (c.into_vec-line.ensures ∙ c.in_ok-line_of.ensures)

pub loop-here-preserved : goal.loop-here-preserved
loop-here-preserved c = slots_more (own_slots c.args.self.now.classes) c.loop-here.slots c.extend_from_slice.new.self
    c.loop-here.line.items c.pop.new.self.items c.in-Some.here c.added_by.result.now _ c.loop-here.invariant c.in-Some.ensures.items
    c.added_by.ensures c.in_ok-extend_from_slice.ensures
