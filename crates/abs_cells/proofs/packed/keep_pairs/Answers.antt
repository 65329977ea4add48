use Rattle.std.proofs.Common.{◌+◌, sym, subst}
use Rattle.abs_cells.specs.declared.packed.Packed.{Packed}
use Rattle.abs_cells.specs.PackedBits.{pairs_in, ArePacked}
use Rattle.abs_cells.specs.inner.PackedRows.{IsKeptTo}
use Rattle.abs_cells.proofs.PackedLaws.{packed_rises}
use Rattle.abs_cells.proofs.KeepLaws.{kept_none, kept_over, kept_less, kept_at_end, stays}
use Rattle.abs_cells.proofs.packed.keep_pairs.Goals as goal
use Rattle.abs_cells.proofs.packed.keep_pairs.Goals.{then-is_lost, else-is_lost}

pub loop-a-init : goal.loop-a-init
loop-a-init c = record
    { packed = c.requires; pairs = kept_none c.args.ids.now (pairs_in c.args.packed.now.slots.items c.args.packed.now.words.items) }

pub loop-a-preserved : goal.loop-a-preserved
loop-a-preserved c = elim c.if-is_lost.branch [
  | then-is_lost w ↦ record {
    packed = subst (λ (p : Packed). ArePacked p.slots.items p.count p.words.items) (sym w.packed-is) w.clear_row.ensures.packed;
    pairs = subst (λ (p : Packed). IsKeptTo c.args.ids.now (pairs_in c.args.packed.now.slots.items c.args.packed.now.words.items)
        (pairs_in p.slots.items p.words.items) (c.loop-a.a + 1)) (sym w.packed-is)
        (kept_less c.args.ids.now (pairs_in c.args.packed.now.slots.items c.args.packed.now.words.items)
        (pairs_in c.loop-a.packed.slots.items c.loop-a.packed.words.items)
        (pairs_in w.clear_row.new.packed.slots.items w.clear_row.new.packed.words.items) c.loop-a.a
        (c.is_lost.ensures.yes w.if-is_lost.true)
        (packed_rises c.loop-a.packed.slots.items c.loop-a.packed.count c.loop-a.packed.words.items c.loop-a.invariant.packed)
        (packed_rises w.clear_row.new.packed.slots.items w.clear_row.new.packed.count w.clear_row.new.packed.words.items
        w.clear_row.ensures.packed) w.clear_row.ensures.pairs c.loop-a.invariant.pairs);
  }
  | else-is_lost w ↦ record {
    packed = subst (λ (p : Packed). ArePacked p.slots.items p.count p.words.items) (sym w.packed-is) c.loop-a.invariant.packed;
    pairs = subst (λ (p : Packed). IsKeptTo c.args.ids.now (pairs_in c.args.packed.now.slots.items c.args.packed.now.words.items)
        (pairs_in p.slots.items p.words.items) (c.loop-a.a + 1)) (sym w.packed-is)
        (kept_over c.args.ids.now (pairs_in c.args.packed.now.slots.items c.args.packed.now.words.items)
        (pairs_in c.loop-a.packed.slots.items c.loop-a.packed.words.items) c.loop-a.a
        (stays c.args.ids.now c.loop-a.packed.slots.items c.loop-a.packed.words.items c.loop-a.a
        (c.is_lost.ensures.no w.if-is_lost.false)) c.loop-a.invariant.pairs);
  }
]

pub returns-clause-pairs : goal.returns-clause-pairs
returns-clause-pairs c = kept_at_end c.args.ids.now (pairs_in c.args.packed.now.slots.items c.args.packed.now.words.items)
    (pairs_in c.loop-a.packed.slots.items c.loop-a.packed.words.items) c.loop-a.a c.loop-a-test.false c.loop-a.auto.a-end
    (packed_rises c.args.packed.now.slots.items c.args.packed.now.count c.args.packed.now.words.items c.requires)
    (packed_rises c.loop-a.packed.slots.items c.loop-a.packed.count c.loop-a.packed.words.items c.loop-a.invariant.packed)
    c.loop-a.invariant.pairs
