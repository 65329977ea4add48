use Rattle.std.proofs.Common.{◌∙◌, ap, sym, map}
use Rattle.std.specs.Option.{option_map}
use Rattle.std.proofs.lemmas.Bool.{and_parts}
use Rattle.abs_turns.specs.Turns.{with_stack, turn_of_case, turns_of}
use Rattle.abs_turns.specs.OperandsSeen.{operand_seen}
use Rattle.abs_turns.specs.ShortRows.{are_short, have_short_rows}
use Rattle.abs_turns.specs.PlansSeen.{goal_seen, turn_seen}
use Rattle.abs_turns.proofs.SwitchLists.{case_more}
use Rattle.abs_turns.proofs.turns.turns_of.Goals as goal

pub loop-case-preserved : goal.loop-case-preserved
loop-case-preserved g c =
    let left = operand_seen c.args.left in
    let right = operand_seen c.args.right in
    let frames = with_stack c.args.spot.now c.args.spot.now.next c.args.stack.now.0 in
    let f = turn_of_case c.args.spot.now left right frames (goal_seen c.args.goal) in
    record {
      so_far = case_more f (map turn_seen c.loop-case.turns) (map turn_seen c.put.new.turns) c.loop-case.cases c.take_first.new.self
          c.in-Some.case (option_map turn_seen c.in_ok-turn.turn)
          (turns_of c.args.spot.now c.args.op left right frames (goal_seen c.args.goal)) c.in-Some.ensures c.in_ok-turn.ensures
          c.in_ok-put.ensures c.loop-case.invariant.so_far;
      short = (and_parts (are_short left right c.in-Some.case.rows) (have_short_rows left right c.take_first.new.self)
          (ap (have_short_rows left right) (sym c.in-Some.ensures) ∙ c.loop-case.invariant.short)).1;
    }
