use Rattle.std.proofs.Common.{map, string_bytes, sym, ◌∙◌}
use Rattle.class_calls.proofs.Lists.{words_are}
use Rattle.class_calls.proofs.Commands.{from_asked}
use Rattle.class_calls.proofs.command_rows.words.Asked.from_words.Goals as goal

pub returns : goal.returns
returns c =
    let split = words_are string_bytes c.args.words.now c.in_ok-word.word.now c.in_ok-word.rest.now c.as_str.result.now
    c.in_ok-word.ensures.cases.0 c.as_str.ensures.value in
    from_asked string_bytes (λ asked. asked.request) (λ asked. asked.files.now) (map string_bytes c.args.words.now)
    c.as_str.result.now (map string_bytes c.in_ok-word.rest.now)
    c.in_ok-command.command c.asked_of.result split (sym c.command_named.ensures ∙ c.in_ok-command.was) c.asked_of.ensures
