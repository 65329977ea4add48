use Rattle.std.proofs.Common.{◌<◌, refl, arith}
use Rattle.abs_reach.specs.Instances.{whole_map, positions, mode, cells, aliases, sharing, shapes}
use Rattle.abs_match.proofs.Ready.{entries_rise}
use Rattle.abs_match.proofs.Testing.{holds_of, fails_of, matched, whole, first, below_1, below_2, below_3, below_4, below_5, below_6}
use Rattle.abs_match.proofs.matching.instance.Goals as goal

pub place_fault-requires : goal.place_fault-requires
place_fault-requires g c = entries_rise c.args.a.now c.args.b.now c.args.map.now
    (matched (g.T.Types.sub c.args.types.now) c.args.a.now c.args.b.now c.args.map.now c.requires
    (holds_of (g.T.Types.sub c.args.types.now) c.args.a.now c.args.b.now c.args.map.now whole_map c.map_fault.result
    c.in_default.is (c.map_fault.ensures (g.T.Types.sub c.args.types.now))))

pub mode_fault-requires : goal.mode_fault-requires
mode_fault-requires g c = entries_rise c.args.a.now c.args.b.now c.args.map.now
    (matched (g.T.Types.sub c.args.types.now) c.args.a.now c.args.b.now c.args.map.now c.requires
    (holds_of (g.T.Types.sub c.args.types.now) c.args.a.now c.args.b.now c.args.map.now whole_map c.map_fault.result
    c.in_default.is (c.map_fault.ensures (g.T.Types.sub c.args.types.now))))

pub id_fault-requires : goal.id_fault-requires
id_fault-requires g c = matched (g.T.Types.sub c.args.types.now) c.args.a.now c.args.b.now c.args.map.now c.requires
    (holds_of (g.T.Types.sub c.args.types.now) c.args.a.now c.args.b.now c.args.map.now whole_map c.map_fault.result c.in_default.is
    (c.map_fault.ensures (g.T.Types.sub c.args.types.now)))

pub id_fault-requires-2 : goal.id_fault-requires-2
id_fault-requires-2 g c = matched (g.T.Types.sub c.args.types.now) c.args.a.now c.args.b.now c.args.map.now c.requires
    (holds_of (g.T.Types.sub c.args.types.now) c.args.a.now c.args.b.now c.args.map.now whole_map c.map_fault.result c.in_default.is
    (c.map_fault.ensures (g.T.Types.sub c.args.types.now)))

pub id_fault-requires-3 : goal.id_fault-requires-3
id_fault-requires-3 g c = matched (g.T.Types.sub c.args.types.now) c.args.a.now c.args.b.now c.args.map.now c.requires
    (holds_of (g.T.Types.sub c.args.types.now) c.args.a.now c.args.b.now c.args.map.now whole_map c.map_fault.result c.in_default.is
    (c.map_fault.ensures (g.T.Types.sub c.args.types.now)))

pub id_fault-requires-4 : goal.id_fault-requires-4
id_fault-requires-4 g c = matched (g.T.Types.sub c.args.types.now) c.args.a.now c.args.b.now c.args.map.now c.requires
    (holds_of (g.T.Types.sub c.args.types.now) c.args.a.now c.args.b.now c.args.map.now whole_map c.map_fault.result c.in_default.is
    (c.map_fault.ensures (g.T.Types.sub c.args.types.now)))

pub returns-in-Some-clause-err : goal.returns-in-Some-clause-err
returns-in-Some-clause-err g c =
    first (g.T.Types.sub c.args.types.now) c.args.a.now c.args.b.now c.args.map.now whole_map 0 c.in-Some.id refl
    (λ other l. absurd (omega (arith, l)))
    (fails_of (g.T.Types.sub c.args.types.now) c.args.a.now c.args.b.now c.args.map.now whole_map c.map_fault.result c.in-Some.id
    c.in-Some.is (c.map_fault.ensures (g.T.Types.sub c.args.types.now)))

pub returns-in-Some-place_fault-clause-err : goal.returns-in-Some-place_fault-clause-err
returns-in-Some-place_fault-clause-err g c =
    first (g.T.Types.sub c.args.types.now) c.args.a.now c.args.b.now c.args.map.now positions 1 c.in-Some-place_fault.id refl
    (below_1 (g.T.Types.sub c.args.types.now) c.args.a.now c.args.b.now c.args.map.now
    (holds_of (g.T.Types.sub c.args.types.now) c.args.a.now c.args.b.now c.args.map.now whole_map c.map_fault.result
    c.in_default.is (c.map_fault.ensures (g.T.Types.sub c.args.types.now))))
    (fails_of (g.T.Types.sub c.args.types.now) c.args.a.now c.args.b.now c.args.map.now positions c.place_fault.result
    c.in-Some-place_fault.id c.in-Some-place_fault.is (c.place_fault.ensures (g.T.Types.sub c.args.types.now)))

pub returns-in-Some-mode_fault-clause-err : goal.returns-in-Some-mode_fault-clause-err
returns-in-Some-mode_fault-clause-err g c =
    first (g.T.Types.sub c.args.types.now) c.args.a.now c.args.b.now c.args.map.now mode 2 c.in-Some-mode_fault.id refl
    (below_2 (g.T.Types.sub c.args.types.now) c.args.a.now c.args.b.now c.args.map.now
    (holds_of (g.T.Types.sub c.args.types.now) c.args.a.now c.args.b.now c.args.map.now whole_map c.map_fault.result
    c.in_default.is (c.map_fault.ensures (g.T.Types.sub c.args.types.now)))
    (holds_of (g.T.Types.sub c.args.types.now) c.args.a.now c.args.b.now c.args.map.now positions c.place_fault.result
    c.in_default-place_fault.is (c.place_fault.ensures (g.T.Types.sub c.args.types.now))))
    (fails_of (g.T.Types.sub c.args.types.now) c.args.a.now c.args.b.now c.args.map.now mode c.mode_fault.result
    c.in-Some-mode_fault.id c.in-Some-mode_fault.is (c.mode_fault.ensures (g.T.Types.sub c.args.types.now)))

pub returns-in-Some-id_fault-clause-err : goal.returns-in-Some-id_fault-clause-err
returns-in-Some-id_fault-clause-err g c =
    first (g.T.Types.sub c.args.types.now) c.args.a.now c.args.b.now c.args.map.now cells 3 c.in-Some-id_fault.id refl
    (below_3 (g.T.Types.sub c.args.types.now) c.args.a.now c.args.b.now c.args.map.now
    (holds_of (g.T.Types.sub c.args.types.now) c.args.a.now c.args.b.now c.args.map.now whole_map c.map_fault.result
    c.in_default.is (c.map_fault.ensures (g.T.Types.sub c.args.types.now)))
    (holds_of (g.T.Types.sub c.args.types.now) c.args.a.now c.args.b.now c.args.map.now positions c.place_fault.result
    c.in_default-place_fault.is (c.place_fault.ensures (g.T.Types.sub c.args.types.now)))
    (holds_of (g.T.Types.sub c.args.types.now) c.args.a.now c.args.b.now c.args.map.now mode c.mode_fault.result
    c.in_default-mode_fault.is (c.mode_fault.ensures (g.T.Types.sub c.args.types.now))))
    (fails_of (g.T.Types.sub c.args.types.now) c.args.a.now c.args.b.now c.args.map.now cells c.id_fault.result
    c.in-Some-id_fault.id c.in-Some-id_fault.is c.id_fault.ensures)

pub returns-in-Some-id_fault-2-clause-err : goal.returns-in-Some-id_fault-2-clause-err
returns-in-Some-id_fault-2-clause-err g c =
    first (g.T.Types.sub c.args.types.now) c.args.a.now c.args.b.now c.args.map.now aliases 4 c.in-Some-id_fault-2.id refl
    (below_4 (g.T.Types.sub c.args.types.now) c.args.a.now c.args.b.now c.args.map.now
    (below_3 (g.T.Types.sub c.args.types.now) c.args.a.now c.args.b.now c.args.map.now
    (holds_of (g.T.Types.sub c.args.types.now) c.args.a.now c.args.b.now c.args.map.now whole_map c.map_fault.result
    c.in_default.is (c.map_fault.ensures (g.T.Types.sub c.args.types.now)))
    (holds_of (g.T.Types.sub c.args.types.now) c.args.a.now c.args.b.now c.args.map.now positions c.place_fault.result
    c.in_default-place_fault.is (c.place_fault.ensures (g.T.Types.sub c.args.types.now)))
    (holds_of (g.T.Types.sub c.args.types.now) c.args.a.now c.args.b.now c.args.map.now mode c.mode_fault.result
    c.in_default-mode_fault.is (c.mode_fault.ensures (g.T.Types.sub c.args.types.now))))
    (holds_of (g.T.Types.sub c.args.types.now) c.args.a.now c.args.b.now c.args.map.now cells c.id_fault.result
    c.in_default-id_fault.is c.id_fault.ensures))
    (fails_of (g.T.Types.sub c.args.types.now) c.args.a.now c.args.b.now c.args.map.now aliases c.id_fault-2.result
    c.in-Some-id_fault-2.id c.in-Some-id_fault-2.is c.id_fault-2.ensures)

pub returns-in-Some-id_fault-3-clause-err : goal.returns-in-Some-id_fault-3-clause-err
returns-in-Some-id_fault-3-clause-err g c =
    first (g.T.Types.sub c.args.types.now) c.args.a.now c.args.b.now c.args.map.now sharing 5 c.in-Some-id_fault-3.id refl
    (below_5 (g.T.Types.sub c.args.types.now) c.args.a.now c.args.b.now c.args.map.now
    (below_4 (g.T.Types.sub c.args.types.now) c.args.a.now c.args.b.now c.args.map.now
    (below_3 (g.T.Types.sub c.args.types.now) c.args.a.now c.args.b.now c.args.map.now
    (holds_of (g.T.Types.sub c.args.types.now) c.args.a.now c.args.b.now c.args.map.now whole_map c.map_fault.result
    c.in_default.is (c.map_fault.ensures (g.T.Types.sub c.args.types.now)))
    (holds_of (g.T.Types.sub c.args.types.now) c.args.a.now c.args.b.now c.args.map.now positions c.place_fault.result
    c.in_default-place_fault.is (c.place_fault.ensures (g.T.Types.sub c.args.types.now)))
    (holds_of (g.T.Types.sub c.args.types.now) c.args.a.now c.args.b.now c.args.map.now mode c.mode_fault.result
    c.in_default-mode_fault.is (c.mode_fault.ensures (g.T.Types.sub c.args.types.now))))
    (holds_of (g.T.Types.sub c.args.types.now) c.args.a.now c.args.b.now c.args.map.now cells c.id_fault.result
    c.in_default-id_fault.is c.id_fault.ensures))
    (holds_of (g.T.Types.sub c.args.types.now) c.args.a.now c.args.b.now c.args.map.now aliases c.id_fault-2.result
    c.in_default-id_fault-2.is c.id_fault-2.ensures))
    (fails_of (g.T.Types.sub c.args.types.now) c.args.a.now c.args.b.now c.args.map.now sharing c.id_fault-3.result
    c.in-Some-id_fault-3.id c.in-Some-id_fault-3.is c.id_fault-3.ensures)

pub returns-in-Some-id_fault-4-clause-err : goal.returns-in-Some-id_fault-4-clause-err
returns-in-Some-id_fault-4-clause-err g c =
    first (g.T.Types.sub c.args.types.now) c.args.a.now c.args.b.now c.args.map.now shapes 6 c.in-Some-id_fault-4.id refl
    (below_6 (g.T.Types.sub c.args.types.now) c.args.a.now c.args.b.now c.args.map.now
    (below_5 (g.T.Types.sub c.args.types.now) c.args.a.now c.args.b.now c.args.map.now
    (below_4 (g.T.Types.sub c.args.types.now) c.args.a.now c.args.b.now c.args.map.now
    (below_3 (g.T.Types.sub c.args.types.now) c.args.a.now c.args.b.now c.args.map.now
    (holds_of (g.T.Types.sub c.args.types.now) c.args.a.now c.args.b.now c.args.map.now whole_map c.map_fault.result
    c.in_default.is (c.map_fault.ensures (g.T.Types.sub c.args.types.now)))
    (holds_of (g.T.Types.sub c.args.types.now) c.args.a.now c.args.b.now c.args.map.now positions c.place_fault.result
    c.in_default-place_fault.is (c.place_fault.ensures (g.T.Types.sub c.args.types.now)))
    (holds_of (g.T.Types.sub c.args.types.now) c.args.a.now c.args.b.now c.args.map.now mode c.mode_fault.result
    c.in_default-mode_fault.is (c.mode_fault.ensures (g.T.Types.sub c.args.types.now))))
    (holds_of (g.T.Types.sub c.args.types.now) c.args.a.now c.args.b.now c.args.map.now cells c.id_fault.result
    c.in_default-id_fault.is c.id_fault.ensures))
    (holds_of (g.T.Types.sub c.args.types.now) c.args.a.now c.args.b.now c.args.map.now aliases c.id_fault-2.result
    c.in_default-id_fault-2.is c.id_fault-2.ensures))
    (holds_of (g.T.Types.sub c.args.types.now) c.args.a.now c.args.b.now c.args.map.now sharing c.id_fault-3.result
    c.in_default-id_fault-3.is c.id_fault-3.ensures))
    (fails_of (g.T.Types.sub c.args.types.now) c.args.a.now c.args.b.now c.args.map.now shapes c.id_fault-4.result
    c.in-Some-id_fault-4.id c.in-Some-id_fault-4.is c.id_fault-4.ensures)

pub returns-clause-ok : goal.returns-clause-ok
returns-clause-ok g c =
    whole (g.T.Types.sub c.args.types.now) c.args.a.now c.args.b.now c.args.map.now
    (holds_of (g.T.Types.sub c.args.types.now) c.args.a.now c.args.b.now c.args.map.now whole_map c.map_fault.result c.in_default.is
    (c.map_fault.ensures (g.T.Types.sub c.args.types.now)))
    (holds_of (g.T.Types.sub c.args.types.now) c.args.a.now c.args.b.now c.args.map.now positions c.place_fault.result
    c.in_default-place_fault.is (c.place_fault.ensures (g.T.Types.sub c.args.types.now)))
    (holds_of (g.T.Types.sub c.args.types.now) c.args.a.now c.args.b.now c.args.map.now mode c.mode_fault.result
    c.in_default-mode_fault.is (c.mode_fault.ensures (g.T.Types.sub c.args.types.now)))
    (holds_of (g.T.Types.sub c.args.types.now) c.args.a.now c.args.b.now c.args.map.now cells c.id_fault.result
    c.in_default-id_fault.is c.id_fault.ensures)
    (holds_of (g.T.Types.sub c.args.types.now) c.args.a.now c.args.b.now c.args.map.now aliases c.id_fault-2.result
    c.in_default-id_fault-2.is c.id_fault-2.ensures)
    (holds_of (g.T.Types.sub c.args.types.now) c.args.a.now c.args.b.now c.args.map.now sharing c.id_fault-3.result
    c.in_default-id_fault-3.is c.id_fault-3.ensures)
    (holds_of (g.T.Types.sub c.args.types.now) c.args.a.now c.args.b.now c.args.map.now shapes c.id_fault-4.result
    c.in_default-id_fault-4.is c.id_fault-4.ensures)
