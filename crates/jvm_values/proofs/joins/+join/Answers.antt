use Rattle.std.proofs.Common.{sym, ◌∙◌, arith}
use Rattle.jvm_values.proofs.Joining.{items_fit, items_join}
use Rattle.jvm_values.proofs.joins.+join.Goals as goal

pub overflow_add-result : goal.overflow_add-result
overflow_add-result g t c = let h = items_fit _ _ _ _ _ (g.met.T.Types.laws c.args.types.now) c.args.a c.in-Some-Some.x
    c.in-Some-Some.y c.join-items.result (sym c.item_of.ensures ∙ c.in-Some-Some.is-0) c.requires.left c.join-items.ensures in omega
    (arith, h)

pub returns-in-Some-Some : goal.returns-in-Some-Some
returns-in-Some-Some g t c = items_join _ _ _ _ _ (g.met.T.Types.laws c.args.types.now) c.args.a c.args.b c.in-Some-Some.x
    c.in-Some-Some.y c.join-items.result (sym c.item_of.ensures ∙ c.in-Some-Some.is-0)
    (sym c.item_of-2.ensures ∙ c.in-Some-Some.is-1) c.requires.left c.requires.right c.join-items.ensures
