use Rattle.std.proofs.Common.{◌∙◌, ℕ, Option, ap}
use Rattle.std.specs.Option.{option_map}
use Rattle.jvm_values.specs.TypedHeaps.{world_types}
use Rattle.abs_widen.specs.Visits.{thrown_pair}
use Rattle.abs_widen.specs.Widening.{number_of}
use Rattle.abs_widen.proofs.Widened.{merged_of}
use Rattle.abs_widen.proofs.widening.bare_state.Goals as goal

pub returns : goal.returns
returns g c =
    merged_of (world_types (g.T.Types.sub c.args.types.now) (g.T.Types.erase c.args.types.now) (g.T.Types.classes c.args.types.now)
    (g.T.Types.fields c.args.types.now) (g.T.Types.can_be_made c.args.types.now)) c.args.a.now c.args.b.now c.args.pairs.now
    c.in_ok-frames.frames c.number_of_some-thrown.result c.in_ok-cells.cells (g.P.Pairs.pairs c.empty.result)
    (g.P.Pairs.pairs c.empty-2.result) c.new.result
    c.new.ensures c.in_ok-frames.ensures
    (c.number_of_some-thrown.ensures
    ∙ ap (option_map (number_of c.args.pairs.now))
    (c.thrown_pair.ensures ∙ ap (λ (x : Option ℕ). thrown_pair x c.throwing-2.result) c.throwing.ensures
    ∙ ap (λ (y : Option ℕ). thrown_pair c.args.a.now.throwing y) c.throwing-2.ensures))
    c.in_ok-cells.ensures c.empty.ensures c.empty-2.ensures
