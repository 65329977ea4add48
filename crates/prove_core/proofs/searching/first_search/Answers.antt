use Rattle.std.proofs.Common.{◌≤◌, length, arith}
use Rattle.class_program.specs.Views.{program_of}
use Rattle.code_verify.specs.Typings.{typing_at}
use Rattle.input_desc.specs.Initial.{initial_of}
use Rattle.prove_core.proofs.Beginning.{grown_from, nodes_from, ids_from}
use Rattle.prove_core.proofs.searching.first_search.Goals as goal

pub of_closed-requires-clause-grown : goal.of_closed-requires-clause-grown
of_closed-requires-clause-grown g c =
    let p = program_of c.args.program.now in
    grown_from p (typing_at c.args.typing.now) c.in_ok-first.first (initial_of p c.args.desc.now) c.in_ok-first.ensures.is c.args.limit
    c.in-Ok-Closed.graph (rw c.in-Ok-Closed.field-0-is at c.in-Ok-Closed.ensures)

pub of_closed-requires-clause-few : goal.of_closed-requires-clause-few
of_closed-requires-clause-few g c =
    let built = rw c.in-Ok-Closed.field-0-is at c.in-Ok-Closed.ensures in
    let few : length c.in-Ok-Closed.graph ≤ c.args.limit = built.1 in
    omega (arith, few, c.requires.small)

pub returns-in-Ok-Closed : goal.returns-in-Ok-Closed
returns-in-Ok-Closed g c =
    let built = rw c.in-Ok-Closed.field-0-is at c.in-Ok-Closed.ensures in
    c.of_closed.ensures c.args.limit built.1

pub returns-in-Ok-Nodes : goal.returns-in-Ok-Nodes
returns-in-Ok-Nodes g c =
    let p = program_of c.args.program.now in
    nodes_from p (typing_at c.args.typing.now) c.in_ok-first.first (initial_of p c.args.desc.now) c.in_ok-first.ensures.is c.args.limit
    c.in-Ok-Nodes.graph (rw c.in-Ok-Nodes.field-0-is at c.in-Ok-Nodes.ensures)

pub returns-in-Ok-Ids : goal.returns-in-Ok-Ids
returns-in-Ok-Ids g c =
    let p = program_of c.args.program.now in
    ids_from p (typing_at c.args.typing.now) c.in_ok-first.first (initial_of p c.args.desc.now) c.in_ok-first.ensures.is c.args.limit
    c.in-Ok-Ids.graph (rw c.in-Ok-Ids.field-0-is at c.in-Ok-Ids.ensures)
