use Rattle.std.proofs.Common.{arith}
use Rattle.class_world.proofs.Counting.{kept_long, slots_long, row_long, counts}
use Rattle.class_world.proofs.world.World.fields_before.Goals as goal

pub at-kept-requires : goal.at-kept-requires
at-kept-requires c =
    let w = c.args.self.now in
    kept_long w.roster.classes c.args.class c.args.index w.index.kept w.slots
    (record { kept = w.indexed.kept; laid_out = w.laid_out; placed = w.placed; within = c.requires.class; there = c.requires.index })

pub at-requires : goal.at-requires
at-requires c =
    let w = c.args.self.now in
    slots_long w.roster.classes c.args.class c.args.index w.index.kept w.slots
    (record { kept = w.indexed.kept; laid_out = w.laid_out; placed = w.placed; within = c.requires.class; there = c.requires.index })

pub overflow_sub-len : goal.overflow_sub-len
overflow_sub-len c =
    let w = c.args.self.now in
    let r = row_long w.roster.classes c.args.class c.args.index w.index.kept w.slots
    (record {
      kept = w.indexed.kept;
      laid_out = w.laid_out;
      placed = w.placed;
      within = c.requires.class;
      there =
          c.requires.index;
    }) c.at-kept.result.now c.at-kept.ensures in
    omega (arith, r.1, c.len.ensures)

pub at-requires-2 : goal.at-requires-2
at-requires-2 c =
    let w = c.args.self.now in
    let r = row_long w.roster.classes c.args.class c.args.index w.index.kept w.slots
    (record {
      kept = w.indexed.kept;
      laid_out = w.laid_out;
      placed = w.placed;
      within = c.requires.class;
      there =
          c.requires.index;
    }) c.at-kept.result.now c.at-kept.ensures in
    omega (arith, r.1, c.len.ensures)

pub at-requires-3 : goal.at-requires-3
at-requires-3 c =
    let w = c.args.self.now in
    let r = row_long w.roster.classes c.args.class c.args.index w.index.kept w.slots
    (record {
      kept = w.indexed.kept;
      laid_out = w.laid_out;
      placed = w.placed;
      within = c.requires.class;
      there =
          c.requires.index;
    }) c.at-kept.result.now c.at-kept.ensures in
    omega (arith, r.0)

pub overflow_sub-result : goal.overflow_sub-result
overflow_sub-result c =
    let w = c.args.self.now in
    let k = counts w.roster.classes c.args.class c.args.index w.index.kept w.slots
    (record {
      kept = w.indexed.kept;
      laid_out = w.laid_out;
      placed = w.placed;
      within = c.requires.class;
      there =
          c.requires.index;
    }) c.at-kept.result.now c.at.result.now _ _ _ _ c.at-kept.ensures c.at.ensures c.len.ensures
    c.len-all.ensures c.at-2.ensures c.at-3.ensures in
    omega (arith, k.all_is)

pub overflow_add-result : goal.overflow_add-result
overflow_add-result c =
    let w = c.args.self.now in
    let k = counts w.roster.classes c.args.class c.args.index w.index.kept w.slots
    (record {
      kept = w.indexed.kept;
      laid_out = w.laid_out;
      placed = w.placed;
      within = c.requires.class;
      there =
          c.requires.index;
    }) c.at-kept.result.now c.at.result.now _ _ _ _ c.at-kept.ensures c.at.ensures c.len.ensures
    c.len-all.ensures c.at-2.ensures c.at-3.ensures in
    omega (arith, k.all_is, k.less, k.fits)

pub overflow_cast-result : goal.overflow_cast-result
overflow_cast-result c =
    let w = c.args.self.now in
    let k = counts w.roster.classes c.args.class c.args.index w.index.kept w.slots
    (record {
      kept = w.indexed.kept;
      laid_out = w.laid_out;
      placed = w.placed;
      within = c.requires.class;
      there =
          c.requires.index;
    }) c.at-kept.result.now c.at.result.now _ _ _ _ c.at-kept.ensures c.at.ensures c.len.ensures
    c.len-all.ensures c.at-2.ensures c.at-3.ensures in
    omega (arith, k.all_is, k.less, k.fits)

pub returns : goal.returns
returns c =
    let w = c.args.self.now in
    let k = counts w.roster.classes c.args.class c.args.index w.index.kept w.slots
    (record {
      kept = w.indexed.kept;
      laid_out = w.laid_out;
      placed = w.placed;
      within = c.requires.class;
      there =
          c.requires.index;
    }) c.at-kept.result.now c.at.result.now _ _ _ _ c.at-kept.ensures c.at.ensures c.len.ensures
    c.len-all.ensures c.at-2.ensures c.at-3.ensures in
    omega (arith, k.all_is, k.before_is)
