use Rattle.std.proofs.Common.{◌∙◌, ◌+◌, ◌≤◌, ◌^◌, List, ℕ, ℤ, sym, ap, subst, arith, drop}
use Rattle.std.specs.Prelude.{unsigned_abs}
use Rattle.lin_core.specs.Weights.{total_size}
use Rattle.term_enc.specs.Sizes.{with_term}
use Rattle.path_rules.proofs.Adding.{AreAdded, one_added, added_fits}
use Rattle.path_rules.proofs.sizes.added.Goals as goal

pub with_term-requires : goal.with_term-requires
with_term-requires c =
    subst (λ (t : ℕ × ℤ). unsigned_abs t.1 + total_size c.as_slice.result.now ≤ 2 ^ 62) (sym c.term_of-term.ensures)
    (added_fits c.args.number.now c.args.names.now c.loop-left.left c.as_slice.result.now c.requires.unit c.requires.few
    (subst (λ (s : List (ℕ × ℤ)). AreAdded c.args.number.now (drop c.loop-left.left c.args.names.now) s) (sym c.as_slice.ensures)
    c.loop-left.invariant.made))

pub loop-left-preserved : goal.loop-left-preserved
loop-left-preserved c =
    let within = c.loop-left.invariant.within in
    record {
      within = omega (arith, within);
      made =
          one_added c.args.number.now c.args.names.now c.loop-left.left 0 c.as_slice.result.now c.in_ok-sum.sum c.requires.unit
          c.loop-left-test.true within
          (c.in_ok-sum.ensures ∙ ap (λ (t : ℕ × ℤ). with_term t c.as_slice.result.now) c.term_of-term.ensures)
          (subst (λ (s : List (ℕ × ℤ)). AreAdded c.args.number.now (drop c.loop-left.left c.args.names.now) s)
          (sym c.as_slice.ensures) c.loop-left.invariant.made);
    }
