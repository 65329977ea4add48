use Rattle.std.proofs.Common.{arith}
use Rattle.abs_reach.proofs.Walked.{begun, turned, lessened, roomy, top_low, has_room, more_room, met_exact, cyclic_exact, twice_exact}
use Rattle.abs_reach.proofs.walk.run.Goals as goal

pub loop-id-init : goal.loop-id-init
loop-id-init c = record {
  walk = begun c.args.names c.args.cells.now c.args.found.now c.args.trail.now.0 c.requires.begun;
  room = c.requires.begun.room;
  space = c.requires.room;
}

pub turn-requires-clause-low : goal.turn-requires-clause-low
turn-requires-clause-low c = top_low c.args.names c.args.cells.now c.args.found.now.met c.args.trail.now.0 c.loop-id.found
    c.loop-id.trail.0 c.pop.new.self.0 c.in-Some.id c.in-Some.place c.in-Some.ensures.items c.loop-id.invariant.walk
    c.requires.rising c.requires.there

pub turn-requires-clause-room : goal.turn-requires-clause-room
turn-requires-clause-room c = has_room c.args.names c.args.cells.now c.args.found.now.met c.args.trail.now.0 c.loop-id.found
    c.loop-id.trail.0 c.pop.new.self.0 c.in-Some.id c.in-Some.place c.in-Some.ensures.items c.loop-id.invariant.walk
    c.requires.rising c.requires.there c.pop.new.self.1 (omega (arith, c.in-Some.ensures.room, c.loop-id.invariant.space))
    c.loop-id.invariant.room

pub turn-requires-clause-more : goal.turn-requires-clause-more
turn-requires-clause-more c = more_room c.args.names c.args.cells.now c.args.found.now.met c.args.trail.now.0 c.loop-id.found
    c.loop-id.trail.0 c.pop.new.self.0 c.in-Some.id c.in-Some.place c.in-Some.ensures.items c.loop-id.invariant.walk
    c.requires.rising c.requires.there c.pop.new.self.1 (omega (arith, c.in-Some.ensures.room, c.loop-id.invariant.space))
    c.loop-id.invariant.room

pub loop-id-smaller : goal.loop-id-smaller
loop-id-smaller c = lessened c.args.names c.args.cells.now c.args.found.now.met c.args.trail.now.0 c.loop-id.found c.turn.new.found
    c.loop-id.trail.0 c.pop.new.self.0 c.turn.new.trail.0 c.in-Some.id c.in-Some.place c.in-Some.ensures.items
    c.loop-id.invariant.walk
    (record { leaves = c.turn.ensures.leaves; meets = c.turn.ensures.meets; enters = c.turn.ensures.enters }) c.requires.there

pub loop-id-preserved : goal.loop-id-preserved
loop-id-preserved c = record {
  walk = turned c.args.names c.args.cells.now c.args.found.now.met c.args.trail.now.0 c.loop-id.found c.turn.new.found
      c.loop-id.trail.0 c.pop.new.self.0 c.turn.new.trail.0 c.in-Some.id c.in-Some.place c.in-Some.ensures.items
      c.loop-id.invariant.walk (record { leaves = c.turn.ensures.leaves; meets = c.turn.ensures.meets; enters = c.turn.ensures.enters });
  room = roomy c.args.names c.args.cells.now c.args.found.now.met c.args.trail.now.0 c.loop-id.found c.turn.new.found
      c.loop-id.trail.0 c.pop.new.self.0 c.turn.new.trail.0 c.in-Some.id c.in-Some.place c.in-Some.ensures.items
      c.loop-id.invariant.walk
      (record { leaves = c.turn.ensures.leaves; meets = c.turn.ensures.meets; enters = c.turn.ensures.enters }) c.requires.there
      c.loop-id.invariant.room;
  space = omega (arith, c.turn.ensures.room, c.in-Some.ensures.room, c.loop-id.invariant.space);
}

pub returns-clause-met : goal.returns-clause-met
returns-clause-met c = met_exact c.args.names c.args.cells.now c.args.found.now.met c.args.trail.now.0 c.loop-id.found
    c.loop-id.trail.0 c.in_default.ensures.items.0 c.loop-id.invariant.walk

pub returns-clause-cyclic : goal.returns-clause-cyclic
returns-clause-cyclic c = cyclic_exact c.args.names c.args.cells.now c.args.found.now.met c.args.trail.now.0 c.loop-id.found
    c.loop-id.trail.0 c.in_default.ensures.items.0 c.loop-id.invariant.walk

pub returns-clause-twice : goal.returns-clause-twice
returns-clause-twice c = twice_exact c.args.names c.args.cells.now c.args.found.now.met c.args.trail.now.0 c.loop-id.found
    c.loop-id.trail.0 c.in_default.ensures.items.0 c.loop-id.invariant.walk
