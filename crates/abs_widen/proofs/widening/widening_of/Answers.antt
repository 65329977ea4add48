use Rattle.std.proofs.Common.{◌≤◌, ℕ, List, length, sym, subst}
use Rattle.std.specs.List.{AllByRecursion}
use Rattle.jvm_values.specs.TypedHeaps.{world_types}
use Rattle.abs_widen.specs.inner.Visiting.{ArePairCells}
use Rattle.abs_widen.specs.inner.Pairing.{IsWithin, IsPaired}
use Rattle.abs_widen.specs.Widening.{IsMerged}
use Rattle.abs_widen.proofs.Alike.{all_paired_cells, all_as_long}
use Rattle.abs_widen.proofs.Whole.{merged_is_good}
use Rattle.abs_widen.proofs.Widened.{all_within, is_widening}
use Rattle.abs_widen.proofs.widening.widening_of.Goals as goal

pub pairs_of-requires-clause-long : goal.pairs_of-requires-clause-long
pairs_of-requires-clause-long g c = all_as_long c.args.a.now c.args.b.now c.args.a.now.frames c.args.b.now.frames c.requires.alike.frames

pub bare_state-requires-clause-long : goal.bare_state-requires-clause-long
bare_state-requires-clause-long g c = all_as_long c.args.a.now c.args.b.now c.args.a.now.frames c.args.b.now.frames c.requires.alike.frames

pub bare_state-requires-clause-few : goal.bare_state-requires-clause-few
bare_state-requires-clause-few g c = subst (λ (l : List (ℕ × ℕ)). length l ≤ 512) (sym c.deref.ensures.value)
    c.in_ok-pairs.ensures.ok.0.few

pub bare_state-requires-clause-cells : goal.bare_state-requires-clause-cells
bare_state-requires-clause-cells g c =
    subst (λ (l : List (ℕ × ℕ)). AllByRecursion
    (ArePairCells (world_types (g.T.Types.sub c.args.types.now) (g.T.Types.erase c.args.types.now)
    (g.T.Types.classes c.args.types.now) (g.T.Types.fields c.args.types.now) (g.T.Types.can_be_made c.args.types.now))
    c.args.a.now c.args.b.now) l) (sym c.deref.ensures.value)
    (all_paired_cells c.args.a.now c.args.b.now (world_types (g.T.Types.sub c.args.types.now) (g.T.Types.erase c.args.types.now)
    (g.T.Types.classes c.args.types.now) (g.T.Types.fields c.args.types.now) (g.T.Types.can_be_made c.args.types.now))
    c.requires.first c.requires.second c.requires.alike c.in_ok-pairs.pairs.items c.in_ok-pairs.ensures.ok.0.paired)

pub drop_unreached-left-requires : goal.drop_unreached-left-requires
drop_unreached-left-requires g c =
    merged_is_good (world_types (g.T.Types.sub c.args.types.now) (g.T.Types.erase c.args.types.now)
    (g.T.Types.classes c.args.types.now) (g.T.Types.fields c.args.types.now) (g.T.Types.can_be_made c.args.types.now))
    c.args.a.now c.args.b.now c.in_ok-pairs.pairs.items c.in_ok-bare.bare c.in_ok-pairs.ensures.ok.1 c.in_ok-pairs.ensures.ok.0.few
    (all_as_long c.args.a.now c.args.b.now c.args.a.now.frames c.args.b.now.frames c.requires.alike.frames)
    (subst (λ (l : List (ℕ × ℕ)). IsMerged (world_types (g.T.Types.sub c.args.types.now) (g.T.Types.erase c.args.types.now)
    (g.T.Types.classes c.args.types.now) (g.T.Types.fields c.args.types.now) (g.T.Types.can_be_made c.args.types.now))
    c.args.a.now c.args.b.now l c.in_ok-bare.bare) c.deref.ensures.value c.in_ok-bare.ensures)

pub paired-requires-clause-long : goal.paired-requires-clause-long
paired-requires-clause-long g c = all_as_long c.args.a.now c.args.b.now c.args.a.now.frames c.args.b.now.frames c.requires.alike.frames

pub paired-requires-clause-within : goal.paired-requires-clause-within
paired-requires-clause-within g c =
    subst (λ (l : List (ℕ × ℕ)). AllByRecursion (IsWithin c.args.a.now c.args.b.now) l) (sym c.deref-2.ensures.value)
    (all_within (world_types (g.T.Types.sub c.args.types.now) (g.T.Types.erase c.args.types.now)
    (g.T.Types.classes c.args.types.now) (g.T.Types.fields c.args.types.now) (g.T.Types.can_be_made c.args.types.now))
    c.args.a.now c.args.b.now c.in_ok-pairs.pairs.items
    (all_paired_cells c.args.a.now c.args.b.now (world_types (g.T.Types.sub c.args.types.now) (g.T.Types.erase c.args.types.now)
    (g.T.Types.classes c.args.types.now) (g.T.Types.fields c.args.types.now) (g.T.Types.can_be_made c.args.types.now))
    c.requires.first c.requires.second c.requires.alike c.in_ok-pairs.pairs.items c.in_ok-pairs.ensures.ok.0.paired))

pub paired-requires-clause-few : goal.paired-requires-clause-few
paired-requires-clause-few g c = subst (λ (l : List (ℕ × ℕ)). length l ≤ 512) (sym c.deref-2.ensures.value) c.in_ok-pairs.ensures.ok.0.few

pub returns-clause-ok : goal.returns-clause-ok
returns-clause-ok g c =
    is_widening (world_types (g.T.Types.sub c.args.types.now) (g.T.Types.erase c.args.types.now)
    (g.T.Types.classes c.args.types.now) (g.T.Types.fields c.args.types.now) (g.T.Types.can_be_made c.args.types.now))
    c.args.a.now c.args.b.now c.in_ok-pairs.pairs.items c.in_ok-bare.bare c.drop_unreached-left.result c.in_ok-paired.field-0
    (subst (λ (l : List (ℕ × ℕ)). IsMerged (world_types (g.T.Types.sub c.args.types.now) (g.T.Types.erase c.args.types.now)
    (g.T.Types.classes c.args.types.now) (g.T.Types.fields c.args.types.now) (g.T.Types.can_be_made c.args.types.now))
    c.args.a.now c.args.b.now l c.in_ok-bare.bare) c.deref.ensures.value c.in_ok-bare.ensures)
    c.drop_unreached-left.ensures.dropped
    (subst (λ (l : List (ℕ × ℕ)). IsPaired c.args.a.now c.args.b.now l c.drop_unreached-left.result c.in_ok-paired.field-0)
    c.deref-2.ensures.value c.in_ok-paired.ensures)
    c.in_ok-pairs.ensures.ok.1 c.in_ok-pairs.ensures.ok.0.few c.drop_unreached-left.ensures.good.rising
