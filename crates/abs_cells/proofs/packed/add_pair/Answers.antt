use Rattle.std.proofs.Common.{◌≡◌, ℕ, ◌==◌, ◌||◌, ap, ◌∙◌, arith}
use Rattle.abs_cells.specs.PairLists.{added}
use Rattle.abs_cells.specs.IdSets.{has_bit}
use Rattle.abs_cells.specs.PackedBits.{pairs_in}
use Rattle.abs_cells.proofs.PackedCalls.{on_err, grown_pairs, grown_twice, slot_low, words_within, set_packed, after_set}
use Rattle.abs_cells.proofs.packed.add_pair.Goals as goal

pub returns-in_err-s-clause-err : goal.returns-in_err-s-clause-err
returns-in_err-s-clause-err c =
    let p = c.args.packed.now in
    let q = c.list_id.new.packed in
    on_err c.from_residual.result (pairs_in q.slots.items q.words.items ≡ pairs_in p.slots.items p.words.items)
    (grown_pairs p.slots.items q.slots.items p.words.items q.words.items p.count q.count c.requires.packed c.in_err-s.ensures.grown)

pub returns-in_err-t-clause-err : goal.returns-in_err-t-clause-err
returns-in_err-t-clause-err c =
    let p = c.args.packed.now in
    let q = c.list_id.new.packed in
    let r = c.list_id-2.new.packed in
    on_err c.from_residual-in_err-t.result (pairs_in r.slots.items r.words.items ≡ pairs_in p.slots.items p.words.items)
    (grown_pairs p.slots.items r.slots.items p.words.items r.words.items p.count r.count c.requires.packed
    (grown_twice p.slots.items q.slots.items r.slots.items p.words.items q.words.items r.words.items q.count r.count
    c.in_ok-s.ensures.grown c.in_err-t.ensures.grown))

pub place-requires : goal.place-requires
place-requires c =
    let r = c.list_id-2.new.packed in
    let g = c.in_ok-t.ensures.grown in (
      slot_low r.slots.items r.count r.words.items g.packed c.args.a c.in_ok-s.s
          (g.kept c.args.a c.in_ok-s.s c.in_ok-s.ensures.slot),
      slot_low r.slots.items r.count r.words.items g.packed c.args.b
          c.in_ok-t.t c.in_ok-t.ensures.slot,
    )

pub set_bit-requires : goal.set_bit-requires
set_bit-requires c =
    let r = c.list_id-2.new.packed in
    let g = c.in_ok-t.ensures.grown in
    omega (
      arith,
      words_within r.slots.items r.count r.words.items g.packed c.args.a c.args.b c.in_ok-s.s c.in_ok-t.t
          (g.kept c.args.a c.in_ok-s.s c.in_ok-s.ensures.slot) c.in_ok-t.ensures.slot,
      c.place.ensures,
    )

pub returns-clause-packed : goal.returns-clause-packed
returns-clause-packed c =
    let r = c.list_id-2.new.packed in
    let g = c.in_ok-t.ensures.grown in
    set_packed r.slots.items r.count r.words.items c.set_bit.new.words.items g.packed c.args.a c.args.b c.in_ok-s.s c.in_ok-t.t
    c.requires.differ (g.kept c.args.a c.in_ok-s.s c.in_ok-s.ensures.slot) c.in_ok-t.ensures.slot c.set_bit.ensures.len
    (λ n. c.set_bit.ensures.bits n ∙ ap (λ (k : ℕ). (n == k) || has_bit r.words.items n) c.place.ensures)

pub returns-clause-ok : goal.returns-clause-ok
returns-clause-ok c =
    let p = c.args.packed.now in
    let q = c.list_id.new.packed in
    let r = c.list_id-2.new.packed in
    let g = c.in_ok-t.ensures.grown in
    let bits = λ (n : ℕ). c.set_bit.ensures.bits n ∙ ap (λ (k : ℕ). (n == k) || has_bit r.words.items n) c.place.ensures in
    let at = g.kept c.args.a c.in_ok-s.s c.in_ok-s.ensures.slot in
    let good = set_packed r.slots.items r.count r.words.items c.set_bit.new.words.items g.packed c.args.a c.args.b c.in_ok-s.s
    c.in_ok-t.t c.requires.differ at c.in_ok-t.ensures.slot c.set_bit.ensures.len bits in
    after_set r.slots.items r.count r.words.items c.set_bit.new.words.items g.packed good c.args.a c.args.b c.in_ok-s.s c.in_ok-t.t
    c.requires.differ c.requires.low.0 c.requires.low.1 at c.in_ok-t.ensures.slot bits
    ∙ ap (added c.args.a c.args.b) (grown_pairs p.slots.items r.slots.items p.words.items r.words.items p.count r.count
    c.requires.packed (grown_twice p.slots.items q.slots.items r.slots.items p.words.items q.words.items r.words.items q.count
    r.count c.in_ok-s.ensures.grown g))
