use Rattle.class_asm.proofs.ClassFile.{class_file}
use Rattle.class_asm.proofs.laws.assembled_keeps_rules.Goals as goal

pub returns : goal.returns
returns c = class_file
