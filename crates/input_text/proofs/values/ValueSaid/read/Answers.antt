use Rattle.std.proofs.Common.{codes, sym}
use Rattle.json_view.specs.Located.{located}
use Rattle.input_text.proofs.ValueCases.{null_is, ref_is}
use Rattle.input_text.proofs.values.ValueSaid.read.Goals as goal

pub returns-then-is_null : goal.returns-then-is_null
returns-then-is_null c = null_is (located c.args.view.now) (sym c.if-is_null.ensures)

pub returns-then-has : goal.returns-then-has
returns-then-has c = rw (ref_is (codes "ref") (located c.args.view.now) (sym c.if-has.ensures)) c.reference.ensures
