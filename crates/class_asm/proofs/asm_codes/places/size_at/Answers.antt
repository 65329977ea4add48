use Rattle.std.proofs.Common.{◌∙◌, ap, is_some}
use Rattle.class_asm.specs.asm_codes.Instructions.{insn_in}
use Rattle.class_asm.specs.asm_codes.Places.{place_in, size_of}
use Rattle.class_asm.proofs.Sizes.{fits_first}
use Rattle.class_asm.proofs.asm_codes.places.size_at.Goals as goal

pub size_of-requires : goal.size_of-requires
size_of-requires c = fits_first c.args.line.now c.in_ok-insn.insn
    (c.in_ok-insn.ensures ∙ ap (λ es. insn_in (place_in es) c.args.line.now) c.requires)

pub returns : goal.returns
returns c =
    let is = c.in_ok-insn.ensures ∙ ap (λ es. insn_in (place_in es) c.args.line.now) c.requires in
    (c.size_of.ensures.value ∙ ap (size_of c.args.pc) is, c.size_of.ensures.small, c.is_some.ensures ∙ ap is_some is)
