use Rattle.std.proofs.Common.{◌≡◌, ◌∙◌, ◌+◌, ◌≤◌, length, Some, sym, ap}
use Rattle.std.specs.Bool.{MatchBool}
use Rattle.std.proofs.lemmas.Result.{IfOk-weaker}
use Rattle.abs_match.specs.inner.Forced.{ArePut, NoneDoes, stacked, fields_ask}
use Rattle.abs_match.proofs.ForcingPlaces.{fields_put, no_fields}
use Rattle.abs_match.proofs.forced.put_fields.Goals as goal

pub returns-in_default : goal.returns-in_default
returns-in_default c = no_fields c.args.ids.now c.args.below.now c.in_default.ensures

pub returns : goal.returns
returns c =
    IfOk-weaker c.put_all.result
    (λ r. MatchBool r ((length c.args.ids.now ≡ length c.as_slice.result.now)
    × (c.put_all.new.todo.0 ≡ stacked c.args.ids.now c.as_slice.result.now c.args.todo.now.0))
    (length c.args.ids.now ≡ length c.as_slice.result.now → ⊥))
    (λ r. MatchBool r (ArePut (fields_ask c.args.ids.now c.args.below.now) c.args.ids.now c.args.todo.now.0 c.put_all.new.todo.0
    × (length c.put_all.new.todo.0 ≤ length c.args.todo.now.0 + length c.args.ids.now))
    (NoneDoes (fields_ask c.args.ids.now c.args.below.now)))
    (λ r h. fields_put c.args.ids.now c.as_slice.result.now c.args.below.now r c.args.todo.now.0 c.put_all.new.todo.0
    (c.in-Some.ensures ∙ ap Some (sym c.as_slice.ensures)) h)
    c.put_all.ensures
