use Rattle.std.proofs.Common.{ℕ, ℤ, pos, ◌+ℤ◌, ◌-◌, ◌++◌, length, ap, ◌∙◌}
use Rattle.std.specs.Int.{w32}
use Rattle.std.specs.List.{flat_map}
use Rattle.code_decode.specs.Texts.{signed, distance, padding_of, zeros}
use Rattle.code_decode.proofs.Written.{adds_then, kept}
use Rattle.code_decode.proofs.writing.put_table.Goals as goal

pub returns : goal.returns
returns c =
    let pc = c.args.pc in
    let d = signed w32 (distance pc c.args.default) in
    let l = signed w32 c.args.low.now in
    let top = c.args.low.now +ℤ pos (length c.args.targets.now - 1) in
    let h = signed w32 top in
    let t = flat_map (λ target. signed w32 (distance pc target)) c.args.targets.now in
    adds_then c.args.out.now.items c.put_zeros.new.out.items c.put_targets.new.out.items (zeros (padding_of pc))
    (d ++ (l ++ (h ++ t))) (c.in_ok-put_zeros.ensures ∙ ap (λ (n : ℕ). c.args.out.now.items ++ zeros n) c.padding_of.ensures)
    (adds_then c.put_zeros.new.out.items c.put_target.new.out.items c.put_targets.new.out.items d (l ++ (h ++ t))
    c.in_ok-put_target.ensures
    (adds_then c.put_target.new.out.items c.put_signed_word.new.out.items c.put_targets.new.out.items l (h ++ t)
    c.in_ok-put_signed_word.ensures
    (adds_then c.put_signed_word.new.out.items c.put_signed_word-2.new.out.items c.put_targets.new.out.items h t
    (c.in_ok-put_signed_word-2.ensures ∙ ap (λ (v : ℤ). c.put_signed_word.new.out.items ++ signed w32 v)
    (kept c.highest-high.result top c.highest-high.ensures c.requires.highest))
    c.in_ok-put_targets.ensures)))
