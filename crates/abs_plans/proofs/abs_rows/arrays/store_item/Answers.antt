use Rattle.std.proofs.Common.{◌≡◌}
use Rattle.abs_turns.specs.PlansSeen.{plan_seen}
use Rattle.abs_turns.specs.Table.{access_of, aastore_plan}
use Rattle.abs_turns.proofs.OptionLists.{if_ok}
use Rattle.abs_plans.specs.declared.abs_rows.arrays.Access.TheVariants.{ItemStore}
use Rattle.abs_plans.specs.abs_rows.inner.Accesses.{good_of, length_of}
use Rattle.abs_plans.proofs.StoredItems.{stored}
use Rattle.abs_plans.proofs.abs_rows.arrays.store_item.Goals as goal

pub returns : goal.returns
returns g c =
    let here = c.args.spot.now in
    let value = c.in-Some.value in
    let index = c.in-Some-pop_two.index in
    let k = c.in-Some-pop_two.k in
    let stack = c.pop_two.new.stack.0 in
    if_ok (λ plan. plan_seen plan ≡ access_of here 2 k index (length_of here (ItemStore value) k index)
    (good_of here (ItemStore value) k stack)) (λ plan. plan_seen plan ≡ aastore_plan here c.args.stack.0) c.access_of.result
    (λ plan e. stored here value index k c.args.stack.0 c.pop.new.self.0 stack (plan_seen plan) c.in-Some.ensures.items
    c.in-Some-pop_two.ensures e) c.access_of.ensures
