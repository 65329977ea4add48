-- Plans of the code, seen as the definitions' plans.
use Rattle.std.specs.Prelude.{ℕ, List, map, reverse}
use Rattle.abs_heap.specs.term_graph.declared.links.LinkRow.{LinkRow}
use Rattle.abs_heap.specs.Writing.{Write}
use Rattle.abs_turns.specs.declared.plans.Write.{Write as WriteSeen}
use Rattle.abs_turns.specs.declared.plans.Act.{Act as ActSeen}
use Rattle.abs_turns.specs.declared.plans.Act.TheVariants as acts
use Rattle.abs_turns.specs.declared.plans.Goal.{Goal as GoalSeen}
use Rattle.abs_turns.specs.declared.plans.Goal.TheVariants as goals
use Rattle.abs_turns.specs.declared.plans.Rows.{Rows as RowsSeen}
use Rattle.abs_turns.specs.declared.plans.Rows.TheVariants as link_rows
use Rattle.abs_turns.specs.declared.plans.Turn.{Turn as TurnSeen}
use Rattle.abs_turns.specs.declared.plans.Plan.{Plan as PlanSeen}
use Rattle.abs_turns.specs.declared.plans.Plan.TheVariants as plans
use Rattle.abs_turns.specs.Plans.{Act, nothing, makes, writes, item, object, array, Goal, nowhere, on_stack, in_local, in_bottom}
use Rattle.abs_turns.specs.Plans.{in_field, is_thrown, Turn, Plan, ends, steps, by_null, by_class, by_equal, no_rows}
use Rattle.abs_turns.specs.Turns.{rows_over}
use Rattle.abs_turns.specs.OperandsSeen.{operand_seen}

-- a write of a reference in the code, as one of the definitions
abbrev pub write_seen : WriteSeen → Write
write_seen write = record { object = write.object; field = write.field; value = write.value }

-- what a step of the code does to ids, as an act of the definitions
abbrev pub act_seen : ActSeen → Act
act_seen acts.Nothing = nothing
act_seen (acts.Makes cell) = makes cell
act_seen (acts.Writes write) = writes (write_seen write)
act_seen (acts.Item k) = item k
act_seen (acts.Object class) = object class
act_seen (acts.Array slot len) = array slot len

-- where the code sends a fresh id, as a goal of the definitions
abbrev pub goal_seen : GoalSeen → Goal
goal_seen goals.Nowhere = nowhere
goal_seen goals.OnStack = on_stack
goal_seen (goals.InLocal n) = in_local n
goal_seen (goals.InBottom n) = in_bottom n
goal_seen (goals.InField k place) = in_field k place
goal_seen goals.Thrown = is_thrown

-- the rows of a step of the code: none, or those of a case over its two operands
abbrev pub rows_seen : RowsSeen → ℕ → List LinkRow
rows_seen link_rows.Nothing = no_rows
rows_seen (link_rows.Over over) = rows_over (operand_seen over.left) (operand_seen over.right) over.rows

-- a step of the code as one of the definitions; the code has the running frame last
abbrev pub turn_seen : TurnSeen → Turn
turn_seen turn = record {
  changed = turn.changed;
  frames = reverse turn.frames;
  throwing = turn.throwing;
  act = act_seen turn.act;
  goal = goal_seen turn.goal;
  rows = rows_seen turn.rows;
}

-- a plan of the code as one of the definitions, step by step
abbrev pub plan_seen : PlanSeen → Plan
plan_seen plans.Ends = ends
plan_seen (plans.Steps turns) = steps (map turn_seen turns)
plan_seen (plans.ByNull x) = by_null x
plan_seen (plans.ByClass x wanted) = by_class x wanted
plan_seen (plans.ByEqual x y) = by_equal x y
