use Rattle.std.proofs.Common.{◌+◌, sym, subst}
use Rattle.abs_cells.specs.declared.packed.Packed.{Packed}
use Rattle.abs_cells.specs.PackedBits.{pairs_in, ArePacked}
use Rattle.abs_cells.specs.inner.PackedRows.{IsCleared}
use Rattle.abs_cells.proofs.PackedLaws.{packed_rises}
use Rattle.abs_cells.proofs.KeepLaws.{cleared_none, cleared_one, cleared_over}
use Rattle.abs_cells.proofs.packed.clear_row.Goals as goal
use Rattle.abs_cells.proofs.packed.clear_row.Goals.{then-b-a, else-b-a}

pub loop-b-init : goal.loop-b-init
loop-b-init c = record
    { packed = c.requires; pairs = cleared_none c.args.a (pairs_in c.args.packed.now.slots.items c.args.packed.now.words.items) }

pub loop-b-preserved : goal.loop-b-preserved
loop-b-preserved c =
    elim c.if-b-a.branch [
      | then-b-a w ↦ record {
        packed = subst (λ (p : Packed). ArePacked p.slots.items p.count p.words.items) (sym w.packed-is) w.remove_pair.ensures.packed;
        pairs = subst (λ (p : Packed). IsCleared (pairs_in c.args.packed.now.slots.items c.args.packed.now.words.items)
            (pairs_in p.slots.items p.words.items) c.args.a (c.loop-b.b + 1)) (sym w.packed-is)
            (cleared_one c.args.a c.loop-b.b (pairs_in c.args.packed.now.slots.items c.args.packed.now.words.items)
            (pairs_in c.loop-b.packed.slots.items c.loop-b.packed.words.items)
            (pairs_in w.remove_pair.new.packed.slots.items w.remove_pair.new.packed.words.items) (λ e. w.if-b-a.true (sym e))
            (packed_rises c.loop-b.packed.slots.items c.loop-b.packed.count c.loop-b.packed.words.items
            c.loop-b.invariant.packed) w.remove_pair.ensures.pairs c.loop-b.invariant.pairs);
      }
      | else-b-a w ↦ record {
        packed = subst (λ (p : Packed). ArePacked p.slots.items p.count p.words.items) (sym w.packed-is) c.loop-b.invariant.packed;
        pairs = subst (λ (p : Packed). IsCleared (pairs_in c.args.packed.now.slots.items c.args.packed.now.words.items)
            (pairs_in p.slots.items p.words.items) c.args.a (c.loop-b.b + 1)) (sym w.packed-is)
            (cleared_over c.args.a c.loop-b.b (pairs_in c.args.packed.now.slots.items c.args.packed.now.words.items)
            (pairs_in c.loop-b.packed.slots.items c.loop-b.packed.words.items) w.if-b-a.false c.loop-b.invariant.pairs);
      }
    ]
