-- Rows that are made over operands without a sum past 64 bits.
use Rattle.std.specs.Prelude.{ℤ, pos, negsuc, int_le, Bool, true, false, ◌&&◌, List}
use Rattle.std.specs.List.{list_all}
use Rattle.jvm_values.specs.declared.ints.IntOp.{IntOp}
use Rattle.jvm_values.specs.declared.ints.IntOp.TheVariants.{Add, Sub}
use Rattle.abs_ints.specs.declared.cases.IntCase.{IntCase}
use Rattle.abs_ints.specs.declared.cases.ShortRow.{ShortRow}
use Rattle.abs_turns.specs.Turns.{Operand, known, id}

-- a row takes an operand once, minus once or not at all
abbrev pub is_small_factor : ℤ → Bool
is_small_factor times = int_le (negsuc 0) times && int_le times (pos 1)

-- a row takes both operands once, minus once or not at all, beside a constant of at most 2 to the 40th in size
abbrev pub is_small_row : ShortRow → Bool
is_small_row row = (is_small_factor row.left && is_small_factor row.right)
    && (int_le (negsuc 1099511627775) row.constant && int_le row.constant (pos 1099511627776))

-- a row can be made over two operands without a sum past 64 bits: any over two ids, a small one over an id and a number; over two numbers
-- none is made
abbrev pub is_short_row : Operand → Operand → ShortRow → Bool
is_short_row (id x) (id y) row = true
is_short_row (id x) (known n) row = is_small_row row
is_short_row (known m) (id y) row = is_small_row row
is_short_row (known m) (known n) row = false

-- each of some rows can be made over two operands without a sum past 64 bits
abbrev pub are_short : Operand → Operand → List ShortRow → Bool
are_short left right rows = list_all (is_short_row left right) rows

-- the rows of all cases can be made over two operands without a sum past 64 bits
abbrev pub have_short_rows : Operand → Operand → List IntCase → Bool
have_short_rows left right cases = list_all (λ (case : IntCase). are_short left right case.rows) cases

-- the operators that take a number of the instruction itself: the sum of iinc and the difference of ineg
abbrev pub is_sum_or_difference : IntOp → Bool
is_sum_or_difference Add = true
is_sum_or_difference Sub = true
is_sum_or_difference _ = false

-- an operator takes two ids, whatever it is; a sum and a difference take an id and a number too; none takes two numbers
abbrev pub takes_operands : IntOp → Operand → Operand → Bool
takes_operands op (id x) (id y) = true
takes_operands op (id x) (known n) = is_sum_or_difference op
takes_operands op (known m) (id y) = is_sum_or_difference op
takes_operands op (known m) (known n) = false

-- both operands are ids, if rows are wanted
abbrev pub are_ids_if : Bool → Operand → Operand → Bool
are_ids_if false left right = true
are_ids_if true (id x) (id y) = true
are_ids_if true (id x) (known n) = false
are_ids_if true (known m) right = false
