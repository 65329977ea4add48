use Rattle.std.proofs.Common.{◌≡◌, ℕ, ◌+◌, List, [], ◌∷◌, ◌++◌, map, Option, Some, refl, sym, ap, ◌∙◌, append_assoc}
use Rattle.std.specs.List.{range_with_len}
use Rattle.std.proofs.lemmas.List.FromFn.{map-range_with_len_more}
use Rattle.input_desc.proofs.beginning.give.Goals as goal

-- one id more
more : (old now pushed : List (Option ℕ)) (first n : ℕ) → now ≡ old ++ map Some (range_with_len first n)
    → pushed ≡ now ++ Some (first + n) ∷ [] → pushed ≡ old ++ map Some (range_with_len first (n + 1))
more old now pushed first n so_far push =
    push
    ∙ ap (λ ls. ls ++ Some (first + n) ∷ []) so_far
    ∙ append_assoc old (map Some (range_with_len first n)) (Some (first + n) ∷ [])
    ∙ ap (λ ls. old ++ ls) (sym (map-range_with_len_more Some first n (first + n) refl))

pub loop-n-preserved : goal.loop-n-preserved
loop-n-preserved c = more c.args.locals.now c.loop-n.locals c.push.new.self c.args.from c.loop-n.n c.loop-n.invariant
    c.in_ok-push.ensures.items
