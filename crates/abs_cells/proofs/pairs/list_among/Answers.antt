use Rattle.std.proofs.Common.{ℕ, ◌+◌, ◌≤◌, length, sym, subst, ◌∙◌, arith, eq-eqb}
use Rattle.std.proofs.lemmas.Bool.{false≢true, eqb-true}
use Rattle.std.proofs.lemmas.Option.{slice_get_within}
use Rattle.abs_cells.proofs.AmongLaws.{IsLeft, met_one, passed_one, list_answer}
use Rattle.abs_cells.proofs.pairs.list_among.Goals as goal
use Rattle.abs_cells.proofs.pairs.list_among.Goals.{then-stands_at, else-stands_at}

pub loop-other-preserved : goal.loop-other-preserved
loop-other-preserved c = elim c.if-stands_at.branch [
  | then-stands_at w ↦ subst (λ (n : ℕ). IsLeft c.args.some.now c.args.others.now n (c.loop-other.other-index + 1)
      × (n ≤ length c.args.some.now)) (sym w.met-is) (
        met_one c.args.some.now c.args.others.now c.loop-other.met c.loop-other.other-index (0, 0) c.requires.some
            c.loop-other-test.true (c.stands_at.ensures.0 w.if-stands_at.true) c.loop-other.invariant.0,
        omega (arith, slice_get_within c.args.some.now c.loop-other.met _ (c.stands_at.ensures.0 w.if-stands_at.true)),
      )
  | else-stands_at w ↦ subst (λ (n : ℕ). IsLeft c.args.some.now c.args.others.now n (c.loop-other.other-index + 1)
      × (n ≤ length c.args.some.now)) (sym w.met-is) (
        passed_one c.args.some.now c.args.others.now c.loop-other.met c.loop-other.other-index (0, 0) c.requires.some c.requires.others
            c.loop-other-test.true (λ e. false≢true (sym w.if-stands_at.false ∙ c.stands_at.ensures.1 e)) c.loop-other.invariant.0,
        c.loop-other.invariant.1,
      )
]

pub returns : goal.returns
returns c =
    let answer = list_answer c.args.some.now c.args.others.now c.loop-other.met c.loop-other.other-index c.requires.some
    c.loop-other.invariant.1 c.loop-other-test.false c.loop-other.invariant.0 in (
      λ e. answer.0 (eqb-true c.loop-other.met (length c.args.some.now) e),
      λ h. eq-eqb c.loop-other.met (length c.args.some.now)
          (answer.1 h),
    )
