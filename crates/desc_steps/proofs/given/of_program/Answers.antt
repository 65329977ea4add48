use Rattle.desc_steps.proofs.given.of_program.Goals as goal

pub returns-in-Ok-clause-ready : goal.returns-in-Ok-clause-ready
returns-in-Ok-clause-ready c = record {
  typing = c.in-Ok.ensures.given.typing;
  own = c.in-Ok.ensures.given.own;
  good = c.in-Ok.ensures.given.good;
}
