use Rattle.json_view.specs.Located.{located}
use Rattle.input_text.proofs.ValueCases.{int_is}
use Rattle.input_text.proofs.values.int_or_reference.Goals as goal

pub returns-in-Ok : goal.returns-in-Ok
returns-in-Ok c = int_is (located c.args.view.now) c.in-Ok.number c.in-Ok.ensures
