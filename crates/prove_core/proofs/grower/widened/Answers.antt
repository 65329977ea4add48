use Rattle.class_program.specs.Views.{program_of}
use Rattle.code_verify.specs.Typings.{typing_at}
use Rattle.prove_core.proofs.Grown.{stand_alike, widens}
use Rattle.prove_core.proofs.grower.widened.Goals as goal

pub widen-requires-clause-alike : goal.widen-requires-clause-alike
widen-requires-clause-alike g c =
    stand_alike (program_of c.args.program.now) (typing_at c.args.typing.now) c.args.above.now c.args.state.now c.requires.above
    c.requires.state c.requires.positions c.growing_states_stand_alike.ensures

pub returns-in-Ok : goal.returns-in-Ok
returns-in-Ok g c =
    widens (program_of c.args.program.now) (typing_at c.args.typing.now) c.args.above.now c.args.state.now c.requires.above
    c.requires.state c.requires.positions c.growing_states_stand_alike.ensures c.widenings_grow.ensures c.is_good.ensures.closed
    c.in-Ok.wide c.in-Ok.ensures.ok c.in-Ok.ensures.wider.1
