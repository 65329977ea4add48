use Rattle.class_world.specs.lemmas.WorldLaws.{world_laws}
use Rattle.class_world.specs.WorldTypes.{types_of}
use Rattle.abs_widen.specs.Widening.{without_pairs}
use Rattle.place_sorts.proofs.Waiting.{at_calls}
use Rattle.grow_laws.proofs.Widened.{widened_placed, widened_waits}
use Rattle.grow_laws.proofs.laws.widenings_grow.Goals as goal

pub returns : goal.returns
returns c = λ p typing a b result closed g h alike wide.
    let types = types_of p.world in
    let sound = c.widenings_are_sound.ensures types a b result (world_laws p.world closed.known.linked) g.good.sound h.good.sound
    alike wide in
    let waits = widened_waits types a b result wide p typing g.waiting in
    record {
      good = record {
        sound = sound;
        placed = widened_placed types a b result wide p typing sound.well_formed alike g.good.placed h.good.placed;
        called = at_calls p result.frames waits;
      };
      waiting = waits;
      reached = λ id there.
          let r = c.dropped_states_reach_all.ensures wide.is.merged (without_pairs result) wide.is.dropped id
          (record { cell = there.cell; is = there.is; sort_is = there.sort_is }) in
          record { place = r.place; start = r.start; stands = r.stands; reaches = r.reaches };
    }
