use Rattle.std.proofs.Common.{Option, sym, ◌∙◌, subst}
use Rattle.code_forms.specs.Faults.{Gives}
use Rattle.code_decode.specs.Reading.{OperandLayout, operands_at}
use Rattle.code_decode.proofs.Choices.{byte_layout, pair_layout, jump_layout, other_layout}
use Rattle.code_decode.proofs.reading.operand_insn_at.Goals as goal

pub returns-then-takes_byte : goal.returns-then-takes_byte
returns-then-takes_byte c =
    subst (λ (f : Option OperandLayout). Gives (λ x. (x.0, x.1.now)) c.byte_operand_at.result
    (operands_at c.args.pc c.args.op f c.args.bytes.now))
    (sym (byte_layout c.args.op (sym c.takes_byte.ensures ∙ c.if-takes_byte.true))) c.byte_operand_at.ensures

pub returns-then-takes_pair : goal.returns-then-takes_pair
returns-then-takes_pair c =
    subst (λ (f : Option OperandLayout). Gives (λ x. (x.0, x.1.now)) c.pair_operand_at.result
    (operands_at c.args.pc c.args.op f c.args.bytes.now))
    (sym (pair_layout c.args.op (sym c.takes_byte.ensures ∙ c.if-takes_byte.false)
    (sym c.takes_pair.ensures ∙ c.if-takes_pair.true))) c.pair_operand_at.ensures

pub returns-then-takes_jump : goal.returns-then-takes_jump
returns-then-takes_jump c =
    subst (λ (f : Option OperandLayout). Gives (λ x. (x.0, x.1.now)) c.jump_operand_at.result
    (operands_at c.args.pc c.args.op f c.args.bytes.now))
    (sym (jump_layout c.args.op (sym c.takes_byte.ensures ∙ c.if-takes_byte.false)
    (sym c.takes_pair.ensures ∙ c.if-takes_pair.false) (sym c.takes_jump.ensures ∙ c.if-takes_jump.true)))
    c.jump_operand_at.ensures

pub returns : goal.returns
returns c =
    subst (λ (f : Option OperandLayout). Gives (λ x. (x.0, x.1.now)) c.single_at.result
    (operands_at c.args.pc c.args.op f c.args.bytes.now))
    (sym (other_layout c.args.op (sym c.takes_byte.ensures ∙ c.if-takes_byte.false)
    (sym c.takes_pair.ensures ∙ c.if-takes_pair.false) (sym c.takes_jump.ensures ∙ c.if-takes_jump.false))) c.single_at.ensures
