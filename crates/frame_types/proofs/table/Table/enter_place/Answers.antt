use Rattle.std.proofs.Common.{refl, ap}
use Rattle.frame_types.specs.declared.table.Table.{Table}
use Rattle.frame_types.proofs.Entering.{entered_same, entered_more, entered_apart, was_proper}
use Rattle.frame_types.proofs.table.Table.enter_place.Goals as goal

pub come-requires-clause-old : goal.come-requires-clause-old
come-requires-clause-old g c = was_proper _ (g.met.T.Types.laws c.args.types.now) _ _ _ _ _ c.requires.table
    c.in_ok-make_room.ensures.roomier c.in_ok-make_room.ensures.count c.at_mut-there.ensures.item c.requires.proper.count

pub returns-in-Same : goal.returns-in-Same
returns-in-Same g c =
    let m = rw c.in-Same.is at c.in_ok-coming.ensures in
    entered_same _ (g.met.T.Types.laws c.args.types.now) c.args.self.now c.make_room.new.self _ _ _ _ _ _ c.requires.table
    c.in_ok-make_room.ensures.roomier c.in_ok-make_room.ensures.count c.at_mut-there.ensures.item refl refl refl
    c.requires.depth c.requires.proper.count m.1.0 m.1.1 refl refl m.1.2

pub returns-in-Grew : goal.returns-in-Grew
returns-in-Grew g c =
    let m = rw c.in-Grew.is at c.in_ok-coming.ensures in
    entered_more _ (g.met.T.Types.laws c.args.types.now) c.args.self.now c.make_room.new.self _ _ _ _ _ _ c.requires.table
    c.in_ok-make_room.ensures.roomier c.in_ok-make_room.ensures.count c.at_mut-there.ensures.item
    (ap (λ (t : Table). t.types) c.mark.ensures) (ap (λ (t : Table). t.max_locals) c.mark.ensures)
    (ap (λ (t : Table). t.max_stack) c.mark.ensures) c.requires.depth c.requires.proper.count m.1.0 m.1.1
    (ap (λ (t : Table). t.waiting) c.mark.ensures) (ap (λ (t : Table). t.low) c.mark.ensures) m.1.2

pub returns-in-Apart : goal.returns-in-Apart
returns-in-Apart g c =
    let m = rw c.in-Apart.is at c.in_ok-coming.ensures in
    entered_apart _ (g.met.T.Types.laws c.args.types.now) c.args.self.now c.make_room.new.self _ _ _
    c.in_ok-make_room.ensures.roomier c.in_ok-make_room.ensures.count c.at_mut-there.ensures.item c.requires.proper.count m
