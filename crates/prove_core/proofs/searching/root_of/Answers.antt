use Rattle.class_program.specs.Views.{program_of}
use Rattle.code_verify.specs.Typings.{typing_at}
use Rattle.prove_core.proofs.Beginning.{root_grows, root_small}
use Rattle.prove_core.proofs.searching.root_of.Goals as goal

pub returns-clause-grows : goal.returns-clause-grows
returns-clause-grows g c =
    root_grows (program_of c.args.program.now) (typing_at c.args.typing.now) c.args.desc.now c.in_ok-root.root c.roots_grow.ensures
    c.is_good.ensures.closed c.requires.typing c.requires.own c.in_ok-root.ensures

pub returns-clause-ids : goal.returns-clause-ids
returns-clause-ids g c = root_small (program_of c.args.program.now) c.args.desc.now c.in_ok-root.root c.requires.own c.in_ok-root.ensures
