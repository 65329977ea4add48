use Rattle.std.proofs.Common.{ap, sym, ◌∙◌}
use Rattle.class_calls.specs.command_rows.inner.Reading.{is_plain}
use Rattle.class_calls.proofs.Numbers.{not_plain, not_read, is_read}
use Rattle.class_calls.proofs.command_rows.words.number_of.Goals as goal

pub returns-then-not-is_plain : goal.returns-then-not-is_plain
returns-then-not-is_plain c = not_plain c.args.word.now (ap is_plain (sym c.as_bytes.ensures.value) ∙ sym c.is_plain.ensures
    ∙ c.if-not-is_plain.true)

pub returns-in_default : goal.returns-in_default
returns-in_default c = not_read c.args.word.now c.parse.result c.parse.ensures.value.0 (λ n e. let both = sym c.in_default.is ∙ e in cc)

pub returns : goal.returns
returns c =
    is_read c.args.word.now c.parse.result c.in-Ok.number c.parse.ensures.value.0 c.in-Ok.is
    (ap is_plain (sym c.as_bytes.ensures.value) ∙ sym c.is_plain.ensures ∙ c.if-not-is_plain.false)
