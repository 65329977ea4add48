use Rattle.std.proofs.Common.{◌≡◌, ℕ, List, Option, None, ◌==◌, ◌&&◌, not, sym, ap, ◌∙◌, arith}
use Rattle.abs_cells.specs.IdSets.{has_bit}
use Rattle.abs_cells.specs.PackedBits.{slot_of}
use Rattle.abs_cells.proofs.PackedLaws.{no_hit}
use Rattle.abs_cells.proofs.PackedCalls.{slot_low, words_within, clear_packed, after_clear, not_cleared, left_no_hit}
use Rattle.abs_cells.proofs.packed.remove_pair.Goals as goal

pub place-requires : goal.place-requires
place-requires c =
    let p = c.args.packed.now in
    let s = ap (λ (xs : List (Option ℕ)). slot_of xs c.args.a) (sym c.deref.ensures.value) ∙ sym c.slot_of.ensures ∙ c.in-Some.is in
    let t = ap (λ (xs : List (Option ℕ)). slot_of xs c.args.b) (sym c.deref-in-Some.ensures.value) ∙ sym c.slot_of-in-Some.ensures
    ∙ c.in-Some-slot_of.is in (
      slot_low p.slots.items p.count p.words.items c.requires.packed c.args.a c.in-Some.s s,
      slot_low p.slots.items p.count
          p.words.items c.requires.packed c.args.b c.in-Some-slot_of.t t,
    )

pub clear_bit-requires : goal.clear_bit-requires
clear_bit-requires c =
    let p = c.args.packed.now in
    let s = ap (λ (xs : List (Option ℕ)). slot_of xs c.args.a) (sym c.deref.ensures.value) ∙ sym c.slot_of.ensures ∙ c.in-Some.is in
    let t = ap (λ (xs : List (Option ℕ)). slot_of xs c.args.b) (sym c.deref-in-Some.ensures.value) ∙ sym c.slot_of-in-Some.ensures
    ∙ c.in-Some-slot_of.is in
    omega (
      arith,
      words_within p.slots.items p.count p.words.items c.requires.packed c.args.a c.args.b c.in-Some.s
          c.in-Some-slot_of.t s t,
      c.place.ensures,
    )

pub returns-in-Some-slot_of-clause-packed : goal.returns-in-Some-slot_of-clause-packed
returns-in-Some-slot_of-clause-packed c =
    let p = c.args.packed.now in
    let s = ap (λ (xs : List (Option ℕ)). slot_of xs c.args.a) (sym c.deref.ensures.value) ∙ sym c.slot_of.ensures ∙ c.in-Some.is in
    let t = ap (λ (xs : List (Option ℕ)). slot_of xs c.args.b) (sym c.deref-in-Some.ensures.value) ∙ sym c.slot_of-in-Some.ensures
    ∙ c.in-Some-slot_of.is in
    clear_packed p.slots.items p.count p.words.items c.clear_bit.new.words.items c.requires.packed c.args.a c.args.b c.in-Some.s
    c.in-Some-slot_of.t c.requires.differ s t c.clear_bit.ensures.len
    (λ n. c.clear_bit.ensures.bits n ∙ ap (λ (k : ℕ). not (n == k) && has_bit p.words.items n) c.place.ensures)

pub returns-in-Some-slot_of-clause-pairs : goal.returns-in-Some-slot_of-clause-pairs
returns-in-Some-slot_of-clause-pairs c =
    let p = c.args.packed.now in
    let s = ap (λ (xs : List (Option ℕ)). slot_of xs c.args.a) (sym c.deref.ensures.value) ∙ sym c.slot_of.ensures ∙ c.in-Some.is in
    let t = ap (λ (xs : List (Option ℕ)). slot_of xs c.args.b) (sym c.deref-in-Some.ensures.value) ∙ sym c.slot_of-in-Some.ensures
    ∙ c.in-Some-slot_of.is in
    let bits = λ (n : ℕ). c.clear_bit.ensures.bits n ∙ ap (λ (k : ℕ). not (n == k) && has_bit p.words.items n) c.place.ensures in
    let good = clear_packed p.slots.items p.count p.words.items c.clear_bit.new.words.items c.requires.packed c.args.a c.args.b
    c.in-Some.s c.in-Some-slot_of.t c.requires.differ s t c.clear_bit.ensures.len bits in
    after_clear p.slots.items p.count p.words.items c.clear_bit.new.words.items c.requires.packed good c.args.a c.args.b c.in-Some.s
    c.in-Some-slot_of.t c.requires.differ s t bits

pub returns-in_default-slot_of-clause-pairs : goal.returns-in_default-slot_of-clause-pairs
returns-in_default-slot_of-clause-pairs c =
    let p = c.args.packed.now in
    let t : slot_of p.slots.items c.args.b ≡ None = ap (λ (xs : List (Option ℕ)). slot_of xs c.args.b)
    (sym c.deref-in-Some.ensures.value) ∙ sym c.slot_of-in-Some.ensures ∙ c.in_default-slot_of.is in
    not_cleared p.slots.items p.words.items c.args.a c.args.b c.requires.differ (no_hit p.slots.items p.words.items c.args.a c.args.b t)

pub returns-in_default-clause-pairs : goal.returns-in_default-clause-pairs
returns-in_default-clause-pairs c =
    let p = c.args.packed.now in
    let s : slot_of p.slots.items c.args.a ≡ None = ap (λ (xs : List (Option ℕ)). slot_of xs c.args.a) (sym c.deref.ensures.value)
    ∙ sym c.slot_of.ensures ∙ c.in_default.is in
    not_cleared p.slots.items p.words.items c.args.a c.args.b c.requires.differ
    (left_no_hit p.slots.items p.words.items c.args.a c.args.b s)
