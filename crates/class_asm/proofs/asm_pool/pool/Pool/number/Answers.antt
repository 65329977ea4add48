use Rattle.std.proofs.Common.{◌≡◌, ℕ, List, Option, Some, slice_index_or, sym, ap, ◌∙◌}
use Rattle.std.specs.Option.{option_map_or}
use Rattle.class_asm.proofs.Entered.{entry_position}
use Rattle.class_asm.proofs.asm_pool.pool.Pool.number.Goals as goal

abbrev at_place : List ℕ → Option ℕ → ℕ
at_place numbers o = option_map_or (λ place. slice_index_or numbers place 0) o 0

-- src/pool.rt:141:5
pub returns-in-Some : goal.returns-in-Some
returns-in-Some c =
    let found = entry_position c.args.entry c.self.inside.lines.entries ∙ sym c.get_index_of.ensures.index ∙ c.in-Some.is in
    let shown : c.number_at.result ≡ at_place c.self.inside.numbers (Some c.in-Some.place) = c.number_at.ensures
    ∙ ap (λ ns. slice_index_or ns c.in-Some.place 0) c.as_slice.ensures in
    rw (← c.self.view_is) (shown ∙ sym (ap (at_place c.self.inside.numbers) found))

-- src/pool.rt:141:5
pub returns-in-None : goal.returns-in-None
returns-in-None c =
    let found = entry_position c.args.entry c.self.inside.lines.entries ∙ sym c.get_index_of.ensures.index ∙ c.in-None.is in
    rw (← c.self.view_is) (sym (ap (at_place c.self.inside.numbers) found))
