use Rattle.std.proofs.Common.{◌<◌, ◌≤◌, length, arith, refl}
use Rattle.jvm_values.specs.States.{types_of as seen}
use Rattle.class_program.specs.Views.{program_of}
use Rattle.code_verify.proofs.WorldOf.{laws_at}
use Rattle.code_verify.proofs.FlowLaws.{came, did_not_come}
use Rattle.code_verify.proofs.Solved.{empty_table, too_many}
use Rattle.code_verify.proofs.Steps.{begun_proper, begun, not_begun}
use Rattle.code_verify.proofs.method.first_table.Goals as goal

pub returns-then-len-from : goal.returns-then-len-from
returns-then-len-from c =
    let l : c.args.method.now.max_locals < length c.args.method.now.params = omega
    (arith, c.len.ensures, c.from.ensures, c.if-len-from.true) in
    too_many (program_of c.args.program.now) c.args.method.now c.requires.good c.requires.method (laws_at c.args.program.now.world) l

pub enter-requires-clause-table : goal.enter-requires-clause-table
enter-requires-clause-table c = empty_table (program_of c.args.program.now) c.args.method.now c.requires.good c.requires.method
    (laws_at c.args.program.now.world) c.new-table.result c.new-table.ensures

pub enter-requires-clause-proper : goal.enter-requires-clause-proper
enter-requires-clause-proper c =
    let l : length c.args.method.now.params ≤ c.args.method.now.max_locals = omega
    (arith, c.len.ensures, c.from.ensures, c.if-len-from.false) in
    begun_proper (program_of c.args.program.now) c.args.method.now c.requires.good c.requires.method
    (laws_at c.args.program.now.world) c.new-table.result c.new-table.ensures (seen c.in_ok-entry.entry) c.in_ok-entry.ensures l

pub returns-then-entered : goal.returns-then-entered
returns-then-entered c =
    begun (program_of c.args.program.now) c.args.method.now c.requires.good c.requires.method (laws_at c.args.program.now.world)
    c.new-table.result c.new-table.ensures (seen c.in_ok-entry.entry) _ c.in_ok-entry.ensures c.requires.catches
    (came _ (laws_at c.args.program.now.world) _ _ _ _ c.if-entered.true c.in_ok-entered.ensures)

pub returns : goal.returns
returns c =
    not_begun (program_of c.args.program.now) c.args.method.now c.requires.good c.requires.method (laws_at c.args.program.now.world)
    c.new-table.result c.new-table.ensures (seen c.in_ok-entry.entry) c.in_ok-entry.ensures
    (did_not_come _ (laws_at c.args.program.now.world) _ _ _ _ c.if-entered.false c.in_ok-entered.ensures)
