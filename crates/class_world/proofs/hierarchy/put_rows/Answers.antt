use Rattle.std.proofs.Common.{◌≡◌, ◌++◌, ◌∷◌, [], length, ap, sym, ◌∙◌, arith}
use Rattle.class_world.specs.World.{is_above}
use Rattle.class_world.specs.inner.Once.{supers_once}
use Rattle.class_world.specs.inner.Tables.{values_to}
use Rattle.class_world.proofs.Tables.{length-values, values_more}
use Rattle.class_world.proofs.Rows.{table_closed, row_is}
use Rattle.class_world.proofs.hierarchy.put_rows.Goals as goal

pub above_row-requires-clause-within : goal.above_row-requires-clause-within
above_row-requires-clause-within c =
    let world = c.args.roster.now.classes in
    let n : length c.args.supers.now ≡ length world = ap length c.requires.supers ∙ length-values (supers_once world) (length world) in
    omega (arith, n, c.len-class-end.ensures, c.loop-class-test.true)

pub above_row-requires-clause-closed : goal.above_row-requires-clause-closed
above_row-requires-clause-closed c = table_closed c.args.roster.now.classes _ c.requires.supers

pub loop-class-preserved : goal.loop-class-preserved
loop-class-preserved c =
    let world = c.args.roster.now.classes in
    let row = row_is world _ c.loop-class.class _ c.requires.supers c.in_ok-above_row.ensures in
    c.in_ok-push.ensures.items
    ∙ ap (λ t. t ++ c.in_ok-above_row.field-0 ∷ []) c.loop-class.invariant
    ∙ ap (λ r. values_to (λ a. values_to (is_above world a) (length world)) c.loop-class.class ++ r ∷ []) row
    ∙ sym (values_more (λ a. values_to (is_above world a) (length world)) c.loop-class.class)
