use Rattle.std.proofs.Common.{◌%◌, ◌∙◌, subst, ap, sym, arith}
use Rattle.class_asm.specs.asm_codes.Places.{FitsFirst, size_of}
use Rattle.class_asm.proofs.Sizes.{size_turned, size_small}
use Rattle.class_asm.proofs.asm_codes.places.size_of.Goals as goal

pub length-requires : goal.length-requires
length-requires c = subst FitsFirst c.in-Some.is c.requires (c.args.pc % 4) (omega arith)

pub returns-in-Some-clause-value : goal.returns-in-Some-clause-value
returns-in-Some-clause-value c = size_turned c.args.pc c.length.result c.in-Some.insn c.length.ensures
    ∙ sym (ap (size_of c.args.pc) c.in-Some.is)

pub returns-in-Some-clause-small : goal.returns-in-Some-clause-small
returns-in-Some-clause-small c = size_small (c.args.pc % 4) c.length.result c.in-Some.insn
    (subst FitsFirst c.in-Some.is c.requires (c.args.pc % 4) (omega arith)) c.length.ensures
