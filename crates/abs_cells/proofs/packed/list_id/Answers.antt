use Rattle.std.proofs.Common.{◌≤◌, ◌+◌, ℕ, Some, set, ap, length, arith}
use Rattle.abs_cells.specs.PackedBits.{row_start}
use Rattle.abs_cells.proofs.PackedCalls.{unlisted, next_low, listed}
use Rattle.abs_cells.proofs.packed.list_id.Goals as goal

pub overflow_add-slot : goal.overflow_add-slot
overflow_add-slot c =
    omega (
      arith,
      next_low c.args.packed.now.slots.items c.args.packed.now.count c.args.packed.now.words.items
          c.make_room.new.slots.items c.args.id c.requires.packed c.in_ok-make_room.ensures.same c.in_ok-make_room.ensures.counted
          c.in_ok-make_room.ensures.few c.in_ok-make_room.ensures.ok
          (unlisted _ _ _ _ c.deref.ensures.value c.slot_of.ensures c.in_default.is),
    )

pub row_start-requires : goal.row_start-requires
row_start-requires c =
    omega (
      arith,
      next_low c.args.packed.now.slots.items c.args.packed.now.count c.args.packed.now.words.items
          c.make_room.new.slots.items c.args.id c.requires.packed c.in_ok-make_room.ensures.same c.in_ok-make_room.ensures.counted
          c.in_ok-make_room.ensures.few c.in_ok-make_room.ensures.ok
          (unlisted _ _ _ _ c.deref.ensures.value c.slot_of.ensures c.in_default.is),
    )

pub overflow_add-packed : goal.overflow_add-packed
overflow_add-packed c =
    omega (
      arith,
      next_low c.args.packed.now.slots.items c.args.packed.now.count c.args.packed.now.words.items
          c.make_room.new.slots.items c.args.id c.requires.packed c.in_ok-make_room.ensures.same c.in_ok-make_room.ensures.counted
          c.in_ok-make_room.ensures.few c.in_ok-make_room.ensures.ok
          (unlisted _ _ _ _ c.deref.ensures.value c.slot_of.ensures c.in_default.is),
    )

pub returns-clause-grown : goal.returns-clause-grown
returns-clause-grown c =
    let long : row_start (c.args.packed.now.count + 1) ≤ length c.make_rows.new.words.items = omega
    (arith, c.in_ok-make_rows.ensures.ok, c.row_start.ensures) in
    (listed c.args.packed.now.slots.items c.args.packed.now.count c.args.packed.now.words.items c.make_room.new.slots.items
    c.args.id c.requires.packed c.in_ok-make_room.ensures.same c.in_ok-make_room.ensures.counted c.in_ok-make_room.ensures.few
    c.in_ok-make_room.ensures.ok (unlisted _ _ _ _ c.deref.ensures.value c.slot_of.ensures c.in_default.is)
    c.make_rows.new.words.items _ c.in_ok-make_rows.ensures.same c.in_ok-make_rows.ensures.longer long
    (ap (λ (i : ℕ). set c.make_room.new.slots.items i (Some c.args.packed.now.count)) c.from.ensures)).0

pub returns-clause-slot : goal.returns-clause-slot
returns-clause-slot c =
    let long : row_start (c.args.packed.now.count + 1) ≤ length c.make_rows.new.words.items = omega
    (arith, c.in_ok-make_rows.ensures.ok, c.row_start.ensures) in
    (listed c.args.packed.now.slots.items c.args.packed.now.count c.args.packed.now.words.items c.make_room.new.slots.items
    c.args.id c.requires.packed c.in_ok-make_room.ensures.same c.in_ok-make_room.ensures.counted c.in_ok-make_room.ensures.few
    c.in_ok-make_room.ensures.ok (unlisted _ _ _ _ c.deref.ensures.value c.slot_of.ensures c.in_default.is)
    c.make_rows.new.words.items _ c.in_ok-make_rows.ensures.same c.in_ok-make_rows.ensures.longer long
    (ap (λ (i : ℕ). set c.make_room.new.slots.items i (Some c.args.packed.now.count)) c.from.ensures)).1
