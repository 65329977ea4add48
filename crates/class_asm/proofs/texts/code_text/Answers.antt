use Rattle.std.proofs.Common.{◌≡◌, ◌<◌, ◌^◌, length, sym, subst}
use Rattle.class_asm.proofs.CodeBounds.{IsFew, few}
use Rattle.class_asm.proofs.texts.code_text.Goals as goal

-- src/texts.rt:99:18
pub code_fits-requires-clause-bytes : goal.code_fits-requires-clause-bytes
code_fits-requires-clause-bytes c = (subst IsFew (sym c.in_ok-code.ensures.code) (few c.args.pool.now c.args.m.now)).bytes

-- src/texts.rt:99:18
pub code_fits-requires-clause-table : goal.code_fits-requires-clause-table
code_fits-requires-clause-table c = (subst IsFew (sym c.in_ok-code.ensures.code) (few c.args.pool.now c.args.m.now)).table
