use Rattle.std.proofs.Common.{◌∙◌, ℕ, ℤ, ap, sym, cond, arith, FitsSigned, to_z-of_z, rules}
use Rattle.std.specs.Int.{w128}
use Rattle.lin_core.proofs.Matching.{matched_more, matched_last, unmatched, shown_sound, count_of_one}
use Rattle.lin_core.specs.Rounds.{is_nonzero}
use Rattle.lin_core.proofs.showing.shows.Goals as goal

pub returns-then-not-has-clause-shown : goal.returns-then-not-has-clause-shown
returns-then-not-has-clause-shown c =
    let fits : FitsSigned w128 c.widened-wanted.result = search rules in
    let has = simp to_z-of_z at c.has.ensures in (
      λ h. absurd (cc),
      λ shows. absurd (unmatched c.args.target.now c.as_slice-variable-items.result.now c.loop-variable.variable-index
          c.args.sum.now c.loop-variable.found c.loop-variable-test.true c.loop-variable.invariant.0 (λ e.
          let yes = has.1 (e ∙ sym c.widened-wanted.ensures) in
          cc) shows),
    )

pub loop-variable-preserved : goal.loop-variable-preserved
loop-variable-preserved c =
    let fits : FitsSigned w128 c.widened-wanted.result = search rules in
    let has = simp to_z-of_z at c.has.ensures in
    let one = simp to_z-of_z at c.count_of-found.ensures in (
      matched_more c.args.target.now.terms c.as_slice-variable-items.result.now c.loop-variable.variable-index c.args.sum.now
          c.loop-variable.found c.count_of-found.result c.loop-variable-test.true c.loop-variable.invariant.0
          (has.0 c.if-not-has.false ∙ c.widened-wanted.ensures)
          (one ∙ ap (λ (z : ℤ). cond {A = ℕ} (is_nonzero z) 1 0) c.widened-wanted.ensures),
      omega (arith, count_of_one (is_nonzero c.widened-wanted.result)),
    )

pub returns-then-has_nonzero-clause-sound : goal.returns-then-has_nonzero-clause-sound
returns-then-has_nonzero-clause-sound c = λ yes numbers.
    let last = matched_last c.args.target.now c.as_slice-variable-items.result.now c.loop-variable.variable-index c.args.sum.now
    c.loop-variable.found c.loop-variable-test.false c.loop-variable.invariant.0 in
    shown_sound numbers c.args.sum.now c.args.target.now c.requires
    (last.0 (c.has_nonzero.ensures.0 c.if-has_nonzero.true) (c.is_at_most.ensures.0 yes))

pub returns-else-has_nonzero-clause-shown : goal.returns-else-has_nonzero-clause-shown
returns-else-has_nonzero-clause-shown c =
    let last = matched_last c.args.target.now c.as_slice-variable-items.result.now c.loop-variable.variable-index c.args.sum.now
    c.loop-variable.found c.loop-variable-test.false c.loop-variable.invariant.0 in
    (λ h. absurd (cc), λ shows. c.has_nonzero.ensures.1 (last.1 shows).0)
