use Rattle.std.proofs.Common.{◌≡◌, ◌≤◌, List, length, Ok, sym, ◌∙◌, ap, subst}
use Rattle.class_world.specs.Worlds.{classes_of}
use Rattle.class_program.specs.declared.program.StaticField.{StaticField}
use Rattle.class_program.specs.Statics.{statics_named}
use Rattle.class_program.proofs.StaticLists.{statics_few}
use Rattle.class_program.proofs.closing.placed.Goals as goal

pub methods_numbered-requires : goal.methods_numbered-requires
methods_numbered-requires c =
    let world = classes_of c.args.world.now in
    let methods = c.args.methods in
    let statics = c.in_ok-statics.statics in
    let said : statics_named world methods ≡ Ok statics = ap (statics_named world) (sym c.as_slice.ensures) ∙ c.in_ok-statics.ensures in
    subst (λ (ss : List StaticField). length ss ≤ 256) (sym c.as_slice-2.ensures) (statics_few world methods statics said)
