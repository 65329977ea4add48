use Rattle.std.proofs.Common.{arith, Ok, ap}
use Rattle.serde_json.proofs.Views.{items_len-items_view}
use Rattle.json_view.specs.Located.{located}
use Rattle.json_view.specs.Reading.{items_of}
use Rattle.json_view.proofs.view.View.items.Goals as goal

pub returns-in-Some-clause-answer : goal.returns-in-Some-clause-answer
unfolding located items_of
returns-in-Some-clause-answer c = rw (← c.in-Some.ensures) (ap Ok (omega (arith, items_len-items_view c.in-Some.items.now.items)))

pub returns-in-Some-clause-count : goal.returns-in-Some-clause-count
unfolding located
returns-in-Some-clause-count c = rw (← c.in-Some.ensures) (omega (arith, items_len-items_view c.in-Some.items.now.items))
