use Rattle.std.proofs.Common.{List, ℕ, ◌++◌, ◌∷◌, [], sym, ap, ◌∙◌}
use Rattle.code_decode.specs.Texts.{zeros}
use Rattle.code_decode.proofs.Written.{adds_then, zeros_push}
use Rattle.code_decode.proofs.writing.put_zeros.Goals as goal

pub loop-preserved : goal.loop-preserved
loop-preserved c =
    adds_then c.args.out.now.items c.loop.out.items c.push.new.self.items (zeros c.loop.counter) (0 ∷ []) c.loop.invariant
    c.in_ok-push.ensures.items
    ∙ ap (λ (t : List ℕ). c.args.out.now.items ++ t) (sym (zeros_push c.loop.counter))
