use Rattle.std.proofs.Common.{ap, ◌∙◌}
use Rattle.class_calls.specs.declared.command_rows.row.Row.{Row}
use Rattle.class_calls.specs.command_rows.Rows.{row_of}
use Rattle.class_calls.proofs.Rows.{tested, passed}
use Rattle.class_calls.proofs.command_rows.words.command_named.Goals as goal

pub loop-command-preserved : goal.loop-command-preserved
loop-command-preserved c =
    let own = c.as_slice.ensures ∙ ap (λ (row : Row). row.word) c.row.ensures in
    let other = tested c.args.word.now (row_of c.in-Some.command.now).word c.as_bytes.result.now c.as_slice.result.now c.eq.result
    c.as_bytes.ensures.value own c.eq.ensures c.if-eq.false in
    passed c.args.word.now c.loop-command.rest.now c.in-Some.others.now c.in-Some.command.now _ c.in-Some.ensures.cases.0 other
    c.loop-command.invariant
