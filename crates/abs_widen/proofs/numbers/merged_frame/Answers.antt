use Rattle.std.proofs.Common.{◌∙◌, ap, map, zip, reverse, List, ℕ, Option}
use Rattle.abs_widen.specs.Widening.{number_of, merged_locals}
use Rattle.abs_widen.proofs.Frames.{frame_is}
use Rattle.abs_widen.proofs.numbers.merged_frame.Goals as goal

pub returns : goal.returns
returns g c =
    frame_is c.args.a.now c.args.b.now c.args.pairs.now c.args.frame.now c.args.other.now c.in_ok-locals.locals c.from_vec.result
    c.requires.long
    (c.in_ok-locals.ensures
    ∙ ap (λ (l : List (Option ℕ)). merged_locals c.args.a.now c.args.b.now c.args.pairs.now l c.locals-2.result.now)
    c.locals.ensures ∙ ap (λ (l : List (Option ℕ)). merged_locals c.args.a.now c.args.b.now c.args.pairs.now
    c.args.frame.now.locals l) c.locals-2.ensures)
    (c.from_vec.ensures ∙ c.in_ok-stack.ensures ∙ ap (λ (l : List ℕ). map (number_of c.args.pairs.now) (zip l c.stack-2.result.now))
    c.stack.ensures ∙ ap (λ (l : List ℕ). map (number_of c.args.pairs.now) (zip (reverse c.args.frame.now.stack) l))
    c.stack-2.ensures)
    c.new.result
    (c.new.ensures
    ∙ ap (λ (m : ℕ). record { method = m; pc = c.pc.result; locals = c.in_ok-locals.locals; stack = reverse c.from_vec.result })
    c.method.ensures
    ∙ ap (λ (p : ℕ). record {
      method = c.args.frame.now.method;
      pc = p;
      locals = c.in_ok-locals.locals;
      stack = reverse
          c.from_vec.result;
    }) c.pc.ensures)
