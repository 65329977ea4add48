use Rattle.std.proofs.Common.{◌≡◌, ◌++◌, [], ◌∙◌, ap, ℤ, pos, ◌-ℤ◌, map, Some, to_z, of_z, w64, arith}
use Rattle.std.proofs.lemmas.Int.{ints}
use Rattle.std.specs.Option.{option_to_list}
use Rattle.std.specs.List.{cons_option}
use Rattle.abs_cells.specs.lin_core.Intervals.{interval_of}
use Rattle.abs_ints.specs.IntIntervals.{just}
use Rattle.abs_turns.specs.Turns.{switch_turn}
use Rattle.abs_turns.specs.PlansSeen.{turn_seen}
use Rattle.abs_turns.proofs.SwitchLists.{two_put}
use Rattle.abs_turns.proofs.OptionLists.{if_ok}
use Rattle.abs_turns.proofs.switches.put_key.Goals as goal

pub returns : goal.returns
returns g c =
    let f = switch_turn c.args.spot.now c.args.x c.args.stack.now.0 in
    let a = f (interval_of c.args.low.now (c.args.key.now -ℤ pos 1), c.args.default) in
    let low : to_z w64 (of_z w64 (to_z w64 (of_z w64 c.args.key.now) -ℤ pos 1)) ≡ c.args.key.now -ℤ pos 1 = omega (arith, ints) in
    let b = f (Some (just c.args.key.now), c.args.place) in
    if_ok (λ _. map turn_seen c.put_one.new.turns ≡ map turn_seen c.put_gap.new.turns ++ option_to_list b)
    (λ _. map turn_seen c.put_one.new.turns ≡ map turn_seen c.args.turns.now ++ cons_option a (cons_option b [])) c.put_one.result
    (λ u e. two_put a b (map turn_seen c.args.turns.now) (map turn_seen c.put_gap.new.turns) (map turn_seen c.put_one.new.turns)
    (c.in_ok-put_gap.ensures
    ∙ ap (λ (n : ℤ). map turn_seen c.args.turns.now ++ option_to_list (f (interval_of c.args.low.now n, c.args.default)))
    low) e) c.put_one.ensures
