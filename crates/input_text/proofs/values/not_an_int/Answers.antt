use Rattle.json_view.specs.Located.{located}
use Rattle.input_text.proofs.ValueCases.{ref_says, other_says}
use Rattle.input_text.proofs.values.not_an_int.Goals as goal

pub returns-in-WrongKind : goal.returns-in-WrongKind
returns-in-WrongKind c = rw (ref_says (located c.args.view.now) c.args.fault c.in-WrongKind.place c.in-WrongKind.is
    c.requires.not_null c.requires.due) c.reference.ensures

pub returns-in_default : goal.returns-in_default
returns-in_default c = other_says (located c.args.view.now) c.args.fault c.in_default.not-WrongKind c.requires.due
