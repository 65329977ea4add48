use Rattle.std.proofs.Common.{string_bytes}
use Rattle.class_calls.proofs.Lists.{are_files}
use Rattle.class_calls.proofs.command_rows.words.are_files.Goals as goal

pub returns-then-is_count : goal.returns-then-is_count
returns-then-is_count c = are_files string_bytes c.args.row.now c.args.words.now c.are_file_words.result c.are_file_words.ensures
    (c.is_count.ensures.0 c.if-is_count.true)
