use Rattle.std.proofs.Common.{◌∙◌}
use Rattle.class_program.specs.Views.{program_of}
use Rattle.call_graph.proofs.Rows.{acyclic_none, acyclic_some, number_within, few_rows, cycle_least, ranks_leave_none}
use Rattle.call_graph.proofs.check.acyclic.Goals as goal

pub rank-requires : goal.rank-requires
rank-requires c = few_rows c.in_ok-graph.graph c.as_slice.result.now c.as_slice.ensures c.in_ok-graph.ensures.few

pub method_name-requires : goal.method_name-requires
method_name-requires c =
    let least = cycle_least c.as_slice.result.now c.in_ok-rank.field-0 c.in-Cycle.number c.in_ok-rank.ensures c.in-Cycle.is in
    number_within c.cycles_are_listed.ensures (program_of c.args.program.now) c.as_slice.result.now c.in-Cycle.number
    (c.as_slice.ensures ∙ c.in_ok-graph.ensures.graph) least

pub returns-in-Ranks : goal.returns-in-Ranks
returns-in-Ranks c =
    let none = ranks_leave_none c.falling_has_no_cycle.ensures c.as_slice.result.now c.in_ok-rank.field-0 c.in-Ranks.field-0
    c.in_ok-rank.ensures c.in-Ranks.is in
    acyclic_none (program_of c.args.program.now) c.as_slice.result.now (c.as_slice.ensures ∙ c.in_ok-graph.ensures.graph) none

pub returns : goal.returns
returns c =
    let least = cycle_least c.as_slice.result.now c.in_ok-rank.field-0 c.in-Cycle.number c.in_ok-rank.ensures c.in-Cycle.is in
    acyclic_some (program_of c.args.program.now) c.as_slice.result.now c.in-Cycle.number c.in_ok-method-in-Cycle.method
    (c.as_slice.ensures ∙ c.in_ok-graph.ensures.graph) least c.in_ok-method-in-Cycle.ensures
