use Rattle.std.proofs.Common.{ℕ, [], ◌∷◌, ◌++◌, sym, ap, ◌∙◌}
use Rattle.list_views.proofs.Items.{take_one_more}
use Rattle.class_asm.specs.declared.asm_pool.entry.Entry.{Entry as Kept}
use Rattle.class_asm.proofs.asm_pool.pool.entries_of.Goals as goal

pub loop-place-preserved : goal.loop-place-preserved
loop-place-preserved c =
    let e : Kept × ℕ = (c.in-Some.entry.now, c.in-Some.line.now) in
    c.in_ok-push.ensures.items ∙ ap (λ xs. xs ++ e ∷ []) c.loop-place.invariant
    ∙ sym (take_one_more c.args.lines.now.entries c.loop-place.place e (sym c.in-Some.ensures.entry))
