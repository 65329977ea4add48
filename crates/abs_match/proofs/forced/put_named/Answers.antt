use Rattle.std.proofs.Common.{[], ◌∷◌, ◌+◌, ◌≤◌, length, Some, refl, ap}
use Rattle.std.specs.Bool.{MatchBool}
use Rattle.std.proofs.lemmas.Result.{IfOk-weaker}
use Rattle.abs_cells.specs.Cells.{ids_in}
use Rattle.abs_match.specs.inner.Forced.{ArePut, NoneDoes, place_asks, fields_ask, cell_asks}
use Rattle.abs_match.proofs.ForcingPlaces.{instance_put, numbers_put, array_put}
use Rattle.abs_match.proofs.forced.put_named.Goals as goal

pub returns-in-Obj : goal.returns-in-Obj
returns-in-Obj c sub =
    IfOk-weaker c.put_fields.result
    (λ r. MatchBool r (ArePut (fields_ask c.as_slice.result.now c.args.below.now) c.as_slice.result.now c.args.todo.now.0
    c.put_fields.new.todo.0 × (length c.put_fields.new.todo.0 ≤ length c.args.todo.now.0 + length c.as_slice.result.now))
    (NoneDoes (fields_ask c.as_slice.result.now c.args.below.now)))
    (λ r. MatchBool r (ArePut (cell_asks sub c.args.cell.now c.args.below.now) (ids_in c.args.cell.now) c.args.todo.now.0
    c.put_fields.new.todo.0 × (length c.put_fields.new.todo.0 ≤ length c.args.todo.now.0 + length (ids_in c.args.cell.now)))
    (NoneDoes (cell_asks sub c.args.cell.now c.args.below.now)))
    (λ r h. instance_put sub c.args.cell.now c.args.below.now _ _ c.as_slice.result.now r c.args.todo.now.0 c.put_fields.new.todo.0
    c.in-Obj.is c.as_slice.ensures h)
    c.put_fields.ensures

pub returns-in-Nums : goal.returns-in-Nums
returns-in-Nums c sub =
    IfOk-weaker c.put_place.result
    (λ r. MatchBool r (ArePut (place_asks (Some c.in-Nums.len) c.numbers_length.result) (c.in-Nums.len ∷ []) c.args.todo.now.0
    c.put_place.new.todo.0) (NoneDoes (place_asks (Some c.in-Nums.len) c.numbers_length.result)))
    (λ r. MatchBool r (ArePut (cell_asks sub c.args.cell.now c.args.below.now) (ids_in c.args.cell.now) c.args.todo.now.0
    c.put_place.new.todo.0 × (length c.put_place.new.todo.0 ≤ length c.args.todo.now.0 + length (ids_in c.args.cell.now)))
    (NoneDoes (cell_asks sub c.args.cell.now c.args.below.now)))
    (λ r h. numbers_put sub c.args.cell.now c.args.below.now _ c.in-Nums.len c.numbers_length.result r c.args.todo.now.0
    c.put_place.new.todo.0 c.in-Nums.is c.numbers_length.ensures c.put_place.ensures.few h)
    c.put_place.ensures.puts

pub returns-in-Refs : goal.returns-in-Refs
returns-in-Refs c sub =
    IfOk-weaker c.put_place-in-Refs.result
    (λ r. MatchBool r (ArePut (place_asks (Some c.in-Refs.len) c.array_length.result) (c.in-Refs.len ∷ []) c.args.todo.now.0
    c.put_place-in-Refs.new.todo.0) (NoneDoes (place_asks (Some c.in-Refs.len) c.array_length.result)))
    (λ r. MatchBool r (ArePut (cell_asks sub c.args.cell.now c.args.below.now) (ids_in c.args.cell.now) c.args.todo.now.0
    c.put_place-in-Refs.new.todo.0
    × (length c.put_place-in-Refs.new.todo.0 ≤ length c.args.todo.now.0 + length (ids_in c.args.cell.now)))
    (NoneDoes (cell_asks sub c.args.cell.now c.args.below.now)))
    (λ r h. array_put sub c.args.cell.now c.args.below.now _ c.in-Refs.len _ c.array_length.result r c.args.todo.now.0
    c.put_place-in-Refs.new.todo.0 c.in-Refs.is c.array_length.ensures c.put_place-in-Refs.ensures.few h)
    c.put_place-in-Refs.ensures.puts
