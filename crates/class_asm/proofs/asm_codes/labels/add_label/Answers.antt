use Rattle.class_asm.proofs.FoundLabels.{is_new, added}
use Rattle.class_asm.proofs.asm_codes.labels.add_label.Goals as goal

pub returns-clause-labels : goal.returns-clause-labels
returns-clause-labels c = added _ _ _ _ c.in_ok-is_new.ensures.names c.in_ok-is_new.ensures.was_there

pub returns-clause-is_new : goal.returns-clause-is_new
returns-clause-is_new c = is_new _ _ c.in_ok-is_new.ensures.was_there
