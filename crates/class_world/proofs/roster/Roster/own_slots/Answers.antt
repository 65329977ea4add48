use Rattle.std.proofs.Common.{◌≡◌, subst, ap, List}
use Rattle.std.specs.Prelude.{IfOk}
use Rattle.jvm_values.specs.declared.types.Slot.{Slot}
use Rattle.class_world.proofs.FieldLemmas.{own_from}
use Rattle.class_world.proofs.roster.Roster.own_slots.Goals as goal

pub returns : goal.returns
returns c =
    subst (λ (want : List Slot). IfOk c.slots_of.result (λ slots. slots ≡ want))
    (own_from c.args.self.now.classes c.args.class c.at-view.result.now c.view.inside.fields c.as_slice.result.now c.requires
    c.at-view.ensures (ap (λ x. x.fields) c.view.view_is) c.as_slice.ensures)
    c.slots_of.ensures
