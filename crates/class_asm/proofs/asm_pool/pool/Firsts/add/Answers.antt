use Rattle.std.proofs.Common.{◌≡◌, ◌∷◌, [], true, false, List, ◌++◌, map, Option, Some, None, is_some, refl, sym, ap, ◌∙◌}
use Rattle.std.proofs.lemmas.List.{map-append}
use Rattle.std.specs.Prelude.{position}
use Rattle.list_views.proofs.Options.{none_from_is_some}
use Rattle.indexmap.proofs.CallerLemmas.{insert_entry-new}
use Rattle.class_asm.specs.asm_pool.Entries.{same, seen}
use Rattle.class_asm.specs.asm_pool.Pools.{Need, with_first}
use Rattle.class_asm.proofs.Entered.{position_is, seen_need, equal}
use Rattle.class_asm.proofs.asm_pool.pool.Firsts.add.Goals as goal

stays : (found : List Need) (need : Need) → is_some (position (λ n. same need.0 n.0) found) ≡ true → found ≡ with_first found need
stays found need h = rw h refl

grows : (found : List Need) (need : Need) → is_some (position (λ n. same need.0 n.0) found) ≡ false
    → found ++ need ∷ [] ≡ with_first found need
grows found need h = rw h refl

pub returns-then-is_some : goal.returns-then-is_some
returns-then-is_some c =
    let es = c.self.inside.lines.entries in
    let there = ap (λ o. is_some o) (position_is c.args.entry es ∙ sym c.get_index_of.ensures.index) ∙ sym c.is_some.ensures
    ∙ c.if-is_some.true in
    rw (← c.self.view_is) (stays (map seen_need es) (seen c.args.entry, c.args.line) there)

pub returns : goal.returns
returns c =
    let m = c.self.inside.lines in
    let es = m.entries in
    let key = c.args.entry in
    let absent = sym c.is_some.ensures ∙ c.if-is_some.false in
    let new = ap (λ o. is_some o) (position_is key es ∙ sym c.get_index_of.ensures.index) ∙ absent in
    let none = none_from_is_some _ (sym c.get_index_of.ensures.found ∙ absent) in
    let entries = c.in_ok-insert.ensures.entries ∙ insert_entry-new equal m key c.args.line none in
    ap (map seen_need) entries ∙ map-append seen_need es ((key, c.args.line) ∷ [])
    ∙ rw (← c.self.view_is) (grows (map seen_need es) (seen key, c.args.line) new)
