use Rattle.std.proofs.Common.{List, ℕ, ◌∷◌, map, string_bytes, ap, ◌∙◌}
use Rattle.class_calls.proofs.Lists.{words_are, from_limited}
use Rattle.class_calls.proofs.command_rows.words.limited.Goals as goal

pub returns : goal.returns
returns c =
    let behind = words_are string_bytes c.in_ok-behind.behind.now c.in_ok-word.word.now c.in_ok-word.files.now c.as_str.result.now
    c.in_ok-word.ensures.cases.0 c.as_str.ensures.value in
    let first = c.in_ok-behind.field-0-0.now in
    let split = ap (map string_bytes) c.in_ok-behind.ensures.cases.0 ∙ ap (λ (ws : List (List ℕ)). string_bytes first ∷ ws) behind in
    from_limited string_bytes (λ read. read.number) (λ read. read.files.now) c.args.row.now c.requires.option c.args.range
    c.requires.otherwise (map string_bytes c.args.words.now)
    (string_bytes first) c.as_str.result.now c.in_ok-number.number c.in_ok-word.files.now c.with_files.result c.requires.kind
    c.requires.no_file c.requires.begins split
    c.in_ok-number.ensures c.with_files.ensures
