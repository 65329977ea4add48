use Rattle.code_verify.specs.Typings.{typing_at}
use Rattle.prove_core.proofs.grower.RunGrowerGrower.matches.Goals as goal

pub matched-requires-clause-good : goal.matched-requires-clause-good
matched-requires-clause-good g c = c.requires.state.grows.good.sound.well_formed

pub matched-requires-clause-reached : goal.matched-requires-clause-reached
matched-requires-clause-reached g c = c.requires.other.grows.reached

pub returns-clause-found : goal.returns-clause-found
returns-clause-found g c = c.matched.ensures (typing_at c.args.self.now.typing.now)
