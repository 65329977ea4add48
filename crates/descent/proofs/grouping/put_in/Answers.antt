use Rattle.std.proofs.Common.{◌∙◌, ap, sym, true, false}
use Rattle.descent.specs.inner.Inserting.{first_at, joins}
use Rattle.descent.proofs.Classes.{on_ok_then, put_told}
use Rattle.descent.proofs.grouping.put_in.Goals as goal

pub returns-then-joins : goal.returns-then-joins
returns-then-joins c = on_ok_then _ _ c.add_to.result _ _ c.add_to.ensures
    (λ p. p ∙ put_told c.args.table.now c.args.rule c.first_at-n.result true c.args.classes.now.items
    (c.first_at-n.ensures.place ∙ ap (first_at c.args.table.now c.args.rule) c.as_slice.ensures.value)
    (sym c.if-joins.true ∙ c.joins.ensures ∙ ap (λ l. joins c.args.table.now c.args.rule l c.first_at-n.result)
    c.as_slice-2.ensures.value))

pub returns-else-joins : goal.returns-else-joins
returns-else-joins c = on_ok_then _ _ c.add_before.result _ _ c.add_before.ensures
    (λ p. p ∙ put_told c.args.table.now c.args.rule c.first_at-n.result false c.args.classes.now.items
    (c.first_at-n.ensures.place ∙ ap (first_at c.args.table.now c.args.rule) c.as_slice.ensures.value)
    (sym c.if-joins.false ∙ c.joins.ensures ∙ ap (λ l. joins c.args.table.now c.args.rule l c.first_at-n.result)
    c.as_slice-2.ensures.value))
