use Rattle.std.proofs.Common.{map, string_bytes}
use Rattle.class_calls.proofs.Lists.{words_are, from_needed}
use Rattle.class_calls.proofs.command_rows.words.needed.Goals as goal

pub returns : goal.returns
returns c =
    let split = words_are string_bytes c.args.words.now c.in_ok-word.word.now c.in_ok-word.files.now c.as_str.result.now
    c.in_ok-word.ensures.cases.0 c.as_str.ensures.value in
    from_needed string_bytes (λ read. read.number) (λ read. read.files.now) c.args.row.now c.requires.0 c.args.range
    (map string_bytes c.args.words.now) c.as_str.result.now
    c.in_ok-number.number c.in_ok-word.files.now c.with_files.result c.requires.1 split c.in_ok-number.ensures c.with_files.ensures
