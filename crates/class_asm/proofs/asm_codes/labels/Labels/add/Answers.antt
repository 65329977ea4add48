use Rattle.std.proofs.Common.{◌∙◌, sym, ap, is_some}
use Rattle.std.specs.Str.{bytes_eq}
use Rattle.list_views.proofs.Options.{none_from_is_some}
use Rattle.indexmap.proofs.CallerLemmas.{insert_entry-new}
use Rattle.class_asm.proofs.FoundLabels.{lookup-map, put, kept}
use Rattle.class_asm.proofs.asm_codes.labels.Labels.add.Goals as goal

pub returns-then-contains_key : goal.returns-then-contains_key
returns-then-contains_key c =
    let there = ap is_some (lookup-map (λ k. k.now) (bytes_eq c.args.label.now) c.self.inside.places.entries)
    ∙ sym c.contains_key.ensures ∙ c.if-contains_key.true in
    rw (← c.self.view_is) (kept _ c.args.label.now c.args.place there)

pub returns : goal.returns
returns c =
    let none = none_from_is_some _ (sym c.contains_key.ensures ∙ c.if-contains_key.false) in
    rw (← c.self.view_is) (put (λ k. k.now) c.self.inside.places.entries c.insert.new.self.entries c.args.label c.args.place
    (c.in_ok-insert.ensures.entries ∙ insert_entry-new _ c.self.inside.places c.args.label c.args.place none))
