use Rattle.std.proofs.Common.{map, string_bytes, sym, subst}
use Rattle.class_calls.specs.declared.command_rows.row.Row.{Row}
use Rattle.class_calls.specs.command_rows.Rows.{number_of}
use Rattle.class_calls.specs.command_rows.inner.Reading.{Reads}
use Rattle.class_calls.proofs.Commands.{none_says}
use Rattle.class_calls.proofs.command_rows.words.asked_of.Goals as goal

pub returns-in_err-behind : goal.returns-in_err-behind
returns-in_err-behind c =
    none_says _ c.from_residual.result c.from_residual.ensures
    (λ request files is reads. c.in_err-behind.ensures (number_of request) files
    (subst (λ (row : Row). Reads row (map string_bytes c.args.words.now) (number_of request) files) (sym c.row.ensures) reads))
