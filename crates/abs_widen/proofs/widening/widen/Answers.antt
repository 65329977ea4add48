use Rattle.std.proofs.Common.{refl, subst}
use Rattle.std.proofs.lemmas.Result.{IfOk-weaker}
use Rattle.jvm_values.specs.TypedHeaps.{world_types}
use Rattle.abs_cells.specs.PairLists.{IsRising}
use Rattle.abs_cells.specs.Sound.{IsSound}
use Rattle.abs_widen.specs.Laws.{IsInstance}
use Rattle.abs_widen.specs.Widening.{IsWidening}
use Rattle.abs_widen.proofs.Rising.{never_itself}
use Rattle.abs_widen.proofs.Soundness.{sound_result}
use Rattle.abs_widen.proofs.Wider.{both_wider}
use Rattle.abs_widen.proofs.widening.widen.Goals as goal

pub returns-clause-wider : goal.returns-clause-wider
returns-clause-wider g c =
    IfOk-weaker c.widening_of.result
    (λ wide. IsWidening (world_types (g.T.Types.sub c.args.types.now) (g.T.Types.erase c.args.types.now)
    (g.T.Types.classes c.args.types.now) (g.T.Types.fields c.args.types.now) (g.T.Types.can_be_made c.args.types.now))
    c.args.a.now c.args.b.now wide)
    (λ wide. IsInstance (world_types (g.T.Types.sub c.args.types.now) (g.T.Types.erase c.args.types.now)
    (g.T.Types.classes c.args.types.now) (g.T.Types.fields c.args.types.now) (g.T.Types.can_be_made c.args.types.now))
    c.args.a.now wide × IsInstance (world_types (g.T.Types.sub c.args.types.now) (g.T.Types.erase c.args.types.now)
    (g.T.Types.classes c.args.types.now) (g.T.Types.fields c.args.types.now) (g.T.Types.can_be_made c.args.types.now))
    c.args.b.now wide)
    (λ wide w.
    both_wider (world_types (g.T.Types.sub c.args.types.now) (g.T.Types.erase c.args.types.now) (g.T.Types.classes c.args.types.now)
    (g.T.Types.fields c.args.types.now) (g.T.Types.can_be_made c.args.types.now)) c.args.a.now c.args.b.now wide
    c.requires.first c.requires.second c.requires.alike w
    (λ id h. never_itself id id c.args.a.now.eq refl (subst IsRising c.eq.ensures c.rise.ensures) h)
    (λ id h. never_itself id id c.args.b.now.eq refl (subst IsRising c.eq-2.ensures c.rise-2.ensures) h))
    c.widening_of.ensures.ok

pub returns-clause-sound : goal.returns-clause-sound
returns-clause-sound g c =
    IfOk-weaker c.widening_of.result
    (λ wide. IsWidening (world_types (g.T.Types.sub c.args.types.now) (g.T.Types.erase c.args.types.now)
    (g.T.Types.classes c.args.types.now) (g.T.Types.fields c.args.types.now) (g.T.Types.can_be_made c.args.types.now))
    c.args.a.now c.args.b.now wide)
    (λ wide. IsSound (world_types (g.T.Types.sub c.args.types.now) (g.T.Types.erase c.args.types.now)
    (g.T.Types.classes c.args.types.now) (g.T.Types.fields c.args.types.now) (g.T.Types.can_be_made c.args.types.now)) wide)
    (λ wide w. sound_result (world_types (g.T.Types.sub c.args.types.now) (g.T.Types.erase c.args.types.now)
    (g.T.Types.classes c.args.types.now) (g.T.Types.fields c.args.types.now) (g.T.Types.can_be_made c.args.types.now))
    c.args.a.now c.args.b.now wide (g.met.T.Types.laws c.args.types.now) c.requires.first c.requires.second c.requires.alike
    w) c.widening_of.ensures.ok
