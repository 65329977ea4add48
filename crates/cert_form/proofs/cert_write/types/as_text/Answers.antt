use Rattle.std.proofs.lemmas.Str.{IsUtf8-from_is_utf8}
use Rattle.cert_form.proofs.ClassTexts.{is_text}
use Rattle.cert_form.proofs.cert_write.types.as_text.Goals as goal

pub returns-in-Err : goal.returns-in-Err
returns-in-Err c = absurd (c.in-Err.ensures.cases.0 (IsUtf8-from_is_utf8 _ (is_text c.args.name.now c.requires)))
