use Rattle.json_view.specs.Located.{located}
use Rattle.input_text.proofs.Items.{no_list}
use Rattle.bound_text.proofs.lists.list.Goals as goal

pub returns-in-Err : goal.returns-in-Err
returns-in-Err g c = no_list g.T.Said.reader (located c.args.view.now) c.in-Err.fault c.in-Err.ensures.answer
