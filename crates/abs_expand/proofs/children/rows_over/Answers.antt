use Rattle.std.proofs.Common.{sym, ap, ◌∙◌, ◌++◌, List, map}
use Rattle.std.proofs.lemmas.Bool.{and_parts}
use Rattle.abs_ints.specs.declared.cases.ShortRow.{ShortRow}
use Rattle.term_graph.specs.declared.links.LinkRow.{LinkRow}
use Rattle.abs_plans.specs.abs_turns.Turns.{row_over}
use Rattle.abs_plans.specs.abs_turns.OperandsSeen.{operand_seen}
use Rattle.abs_plans.specs.abs_turns.ShortRows.{is_short_row, are_short}
use Rattle.abs_expand.proofs.ChildLists.{more_made}
use Rattle.abs_expand.proofs.children.rows_over.Goals as goal

pub loop-row-preserved : goal.loop-row-preserved
loop-row-preserved c =
    let left = operand_seen c.args.left in
    let right = operand_seen c.args.right in
    let all = ap (λ (xs : List ShortRow). are_short left right xs) (sym c.in-Some.ensures) ∙ c.loop-row.invariant.are_short in
    record {
      so_far =
          ap (λ (made : List LinkRow). made ++ map (row_over left right c.args.fresh) c.take_first.new.self)
          c.in_ok-push.ensures.items ∙ more_made (row_over left right c.args.fresh)
          c.loop-row.made c.loop-row.short c.take_first.new.self c.in-Some.row c.in_ok-row_over.field-0 _ c.in-Some.ensures
          c.in_ok-row_over.ensures c.loop-row.invariant.so_far;
      are_short = (and_parts (is_short_row left right c.in-Some.row) (are_short left right c.take_first.new.self) all).1;
    }
