use Rattle.std.proofs.Common.{◌∙◌, ℕ, List, [], Option, ap, sym}
use Rattle.std.specs.Option.{unwrap_or}
use Rattle.cert_form.proofs.ClassTexts.{each_named}
use Rattle.cert_form.proofs.cert_write.types.class_name.Goals as goal

pub as_text-requires : goal.as_text-requires
as_text-requires c = each_named c.args.words.now.names.now c.args.class c.in-Some.name.now c.args.words.now.named (sym c.in-Some.ensures)

pub returns-in-Some : goal.returns-in-Some
returns-in-Some c = c.as_text.ensures ∙ ap (λ (found : Option (List ℕ)). unwrap_or found []) c.in-Some.ensures
