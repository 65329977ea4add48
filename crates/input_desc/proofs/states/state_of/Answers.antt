use Rattle.std.proofs.Common.{subst}
use Rattle.class_program.specs.Views.{program_of}
use Rattle.input_desc.specs.States.{Gives, objects_of}
use Rattle.input_desc.proofs.TypedInputs.{typed_if_given}
use Rattle.input_desc.proofs.states.state_of.Goals as goal

pub returns-clause-typed : goal.returns-clause-typed
returns-clause-typed c =
    let p = program_of c.args.program.now in
    let with_objects = subst (λ o. Gives p o c.args.text.args c.in_ok-statics.statics c.tested.result) c.in_ok-objects.ensures
    c.tested.ensures in
    let with_statics = subst (λ s. Gives p (objects_of p c.args.text) c.args.text.args s c.tested.result) c.in_ok-statics.ensures
    with_objects in
    typed_if_given p c.args.text c.tested.result with_statics
