use Rattle.std.proofs.Common.{ℕ, ◌∙◌, ap}
use Rattle.std.specs.Prelude.{option_map}
use Rattle.code_forms.specs.Opcodes.{find_by, with_jump}
use Rattle.class_asm.proofs.asm_codes.instruction.insn_of.Goals as goal

pub returns-in-Jump : goal.returns-in-Jump
returns-in-Jump c = rw c.in-Jump.is
    (c.with_jump.ensures ∙ ap (λ (n : ℕ). option_map (λ make. make n) (find_by with_jump c.in-Jump.op)) c.target.ensures)
