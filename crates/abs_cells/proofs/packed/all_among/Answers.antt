use Rattle.std.proofs.Common.{sym, ◌∙◌, refl, arith}
use Rattle.std.proofs.lemmas.Bool.{false≢true}
use Rattle.abs_cells.specs.PackedBits.{hit}
use Rattle.abs_cells.proofs.AmongLaws.{rows_more, all_rows, row_of_all}
use Rattle.abs_cells.proofs.packed.all_among.Goals as goal

pub returns-then-not-row_among : goal.returns-then-not-row_among
returns-then-not-row_among c =
    let p = c.args.some.now in
    let q = c.args.others.now in (
      λ h. absurd (false≢true h),
      λ h. absurd
          (false≢true (sym c.if-not-row_among.true
          ∙ c.row_among.ensures.1 (row_of_all p.slots.items p.count p.words.items q.slots.items q.words.items h c.loop-a.a))),
    )

pub loop-a-preserved : goal.loop-a-preserved
loop-a-preserved c =
    let p = c.args.some.now in
    let q = c.args.others.now in
    rows_more (hit p.slots.items p.words.items) (hit q.slots.items q.words.items) c.loop-a.a c.loop-a.invariant
    (c.row_among.ensures.0 c.if-not-row_among.false)

pub returns : goal.returns
returns c =
    let p = c.args.some.now in
    let q = c.args.others.now in
    let all = all_rows p.slots.items p.count p.words.items q.slots.items q.words.items c.requires.some c.loop-a.a
    (omega (arith, c.loop-a-test.false, c.len-end.ensures, c.args.some.now.slots.ok.0)) c.loop-a.invariant in
    (λ _. all, λ _. refl)
