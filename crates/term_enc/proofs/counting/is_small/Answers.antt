use Rattle.std.proofs.Common.{◌≡◌, ◌+◌, ℕ, is_some, suc, ap, sym, ◌∙◌, arith}
use Rattle.term_enc.specs.inner.Counting.{left_after}
use Rattle.term_enc.proofs.Shallow.{counted, counts}
use Rattle.term_enc.proofs.counting.is_small.Goals as goal

pub returns : goal.returns
returns c =
    let at : c.args.most + 1 ≡ suc c.args.most = omega arith in
    let is : c.is_some.result ≡ is_some (left_after (suc c.args.most) c.args.cells.now c.args.id c.args.most) = c.is_some.ensures
    ∙ ap is_some
    (c.left_after.ensures ∙ ap (λ (n : ℕ). left_after n c.args.cells.now c.args.id c.args.most) at) in
    (λ h. counted c.args.most c.args.cells.now c.args.id (sym is ∙ h), λ s. is ∙ counts c.args.most c.args.cells.now c.args.id s)
