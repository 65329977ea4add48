use Rattle.std.proofs.Common.{ℕ, ◌+◌, ◌*◌, ◌/◌, ◌%◌, ap, ◌∙◌, arith}
use Rattle.abs_cells.proofs.PackedCalls.{row_formula, few_words}
use Rattle.abs_cells.proofs.packed.row_start.Goals as goal

pub overflow_mul-result : goal.overflow_mul-result
overflow_mul-result c = omega (arith, row_formula c.args.slot, few_words c.args.slot c.requires)

pub returns : goal.returns
returns c =
    ap (λ (x : ℕ). (x / 64 + 1) * (32 * (x / 64) + c.from.result % 64)) c.from-block.ensures
    ∙ ap (λ (y : ℕ). (c.args.slot / 64 + 1) * (32 * (c.args.slot / 64) + y % 64)) c.from.ensures
    ∙ row_formula c.args.slot
