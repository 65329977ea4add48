use Rattle.std.proofs.Common.{arith}
use Rattle.std.proofs.lemmas.List.{length-map}
use Rattle.input_steps.proofs.Files.{spell_length, spell_read}
use Rattle.class_calls.proofs.describe.calls.template_of.Goals as goal

pub template_in-requires-clause-few : goal.template_in-requires-clause-few
template_in-requires-clause-few c =
    let read = spell_length _ _ c.in_ok-classes.ensures.classes in
    let files = length-map c.args.files.now (λ file. file.items) in
    omega (arith, read, files, c.requires)

pub template_in-requires-clause-read : goal.template_in-requires-clause-read
template_in-requires-clause-read c = spell_read _ _ c.in_ok-classes.ensures.classes
