-- The rows of a case hold between the ints of an edge's two states.
use Rattle.std.proofs.Common.{◌≡◌, ◌∙◌, ℕ, ℤ, pos, ◌+ℤ◌, ◌*ℤ◌, Bool, true, false, if◌then◌else◌, List, [], ◌∷◌, ◌++◌, refl, sym, ap}
use Rattle.std.proofs.Common.{subst, arith, slice_index_or}
use Rattle.std.specs.List.{All}
use Rattle.std.specs.Ordering.{int_eq}
use Rattle.std.proofs.lemmas.Int.{ints}
use Rattle.std.proofs.lemmas.Bool.Decides.{Decides-int_eq}
use Rattle.std.proofs.lemmas.List.Elements.{All-map}
use Rattle.list_views.proofs.Orders.{zero_times, plus_zero, zero_plus}
use Rattle.lin_core.specs.Rows.{IsOfKind}
use Rattle.abs_cells.specs.Fits.{Meaning}
use Rattle.abs_ints.specs.Cases.{value_of, IsTrueOf, AllTrueOf}
use Rattle.abs_ints.specs.declared.cases.ShortRow.{ShortRow}
use Rattle.term_graph.specs.declared.links.Side.{Side}
use Rattle.term_graph.specs.declared.links.Side.TheVariants.{Before, After}
use Rattle.term_graph.specs.Edges.{number_of, map_of, value_of_terms, HoldsBetween}
use Rattle.abs_expand.specs.Turns.{Operand, known, id, term_of, terms_of, constant_of, row_over, rows_over}

-- an operand is a number
abbrev pub OperandIs : Meaning → Operand → ℤ → Type 0
OperandIs meaning (known k) n = k ≡ n
OperandIs meaning (id x) n = number_of (meaning x) ≡ n

beside : (x y z : ℤ) → x +ℤ (y +ℤ z) ≡ (x +ℤ y) +ℤ z
beside x y z = omega (arith, ints)

term_value : (before after : Meaning) (side : Side) (x : ℕ) (times : ℤ) → value_of_terms before after (term_of side x times) ≡ times
    *ℤ number_of (map_of before after side x)
term_value before after side x times = at (int_eq times (pos 0)) refl
  where
    at : (b : Bool) → int_eq times (pos 0) ≡ b → value_of_terms before after (if b then [] else (side, x, times) ∷ []) ≡ times *ℤ
        number_of (map_of before after side x)
    at true e = sym (ap (λ (t : ℤ). t *ℤ number_of (map_of before after side x)) ((Decides-int_eq times (pos 0)).0 e)
        ∙ zero_times (number_of (map_of before after side x)))
    at false e = plus_zero (times *ℤ number_of (map_of before after side x))

terms_both : (before after : Meaning) (xs ys : List (Side × ℕ × ℤ)) → value_of_terms before after (xs ++ ys) ≡ value_of_terms before
    after xs +ℤ value_of_terms before after ys
terms_both before after [] ys = sym (zero_plus (value_of_terms before after ys))
terms_both before after (x ∷ xs) ys =
    ap (λ (v : ℤ). x.2 *ℤ number_of (map_of before after x.0 x.1) +ℤ v) (terms_both before after xs ys)
    ∙ beside (x.2 *ℤ number_of (map_of before after x.0 x.1)) (value_of_terms before after xs) (value_of_terms before after ys)

operand_value : (before after : Meaning) (operand : Operand) (times n : ℤ) → OperandIs before operand n
    → value_of_terms before after (terms_of operand times) +ℤ constant_of operand times ≡ times *ℤ n
operand_value before after (known k) times n e = zero_plus (times *ℤ k) ∙ ap (λ (m : ℤ). times *ℤ m) e
operand_value before after (id x) times n e =
    ap (λ (v : ℤ). v +ℤ pos 0) (term_value before after Before x times) ∙ plus_zero (times *ℤ number_of (before x))
    ∙ ap (λ (m : ℤ). times *ℤ m) e

sums : (left right result lk rk constant l r v : ℤ) → left +ℤ lk ≡ l → right +ℤ rk ≡ r → result ≡ v
    → l +ℤ r +ℤ v +ℤ constant ≡ (left +ℤ (right +ℤ result)) +ℤ (constant +ℤ (lk +ℤ rk))
sums left right result lk rk constant l r v a b c = omega (arith, ints, a, b, c)

-- a row over operands and a result has the value of the row of its numbers
row_value : (before after : Meaning) (left right : Operand) (fresh : ℕ) (row : ShortRow) (l r v : ℤ) → OperandIs before left l
    → OperandIs before right r → row.result *ℤ number_of (after fresh) ≡ row.result *ℤ v
    → value_of row l r v ≡ value_of_terms before after (row_over left right fresh row).terms +ℤ (row_over left right fresh row).constant
row_value before after left right fresh row l r v a b c =
    let lt = terms_of left row.left in
    let rt = terms_of right row.right in
    let vt = term_of After fresh row.result in
    sums (value_of_terms before after lt) (value_of_terms before after rt) (value_of_terms before after vt)
    (constant_of left row.left) (constant_of right row.right) row.constant (row.left *ℤ l) (row.right *ℤ r) (row.result *ℤ v)
    (operand_value before after left row.left l a) (operand_value before after right row.right r b)
    (term_value before after After fresh row.result ∙ c)
    ∙ sym (ap (λ (t : ℤ). t +ℤ (row.constant +ℤ (constant_of left row.left +ℤ constant_of right row.right)))
    (terms_both before after lt (rt ++ vt) ∙ ap (λ (t : ℤ). value_of_terms before after lt +ℤ t) (terms_both before after rt vt)))

row_holds : (before after : Meaning) (left right : Operand) (fresh : ℕ) (row : ShortRow) (l r v : ℤ) → OperandIs before left l
    → OperandIs before right r → row.result *ℤ number_of (after fresh) ≡ row.result *ℤ v → IsTrueOf l r v row
    → HoldsBetween before after (row_over left right fresh row)
row_holds before after left right fresh row l r v a b c h = subst (IsOfKind row.kind)
    (row_value before after left right fresh row l r v a b c) h

-- the rows of a case with a result
pub rows_hold : (before after : Meaning) (left right : Operand) (fresh : ℕ) (rows : List ShortRow) (l r v : ℤ)
    → OperandIs before left l → OperandIs before right r → number_of (after fresh) ≡ v → AllTrueOf l r v rows
    → All (HoldsBetween before after) (rows_over left right rows fresh)
rows_hold before after left right fresh rows l r v a b c h =
    All-map (HoldsBetween before after) (row_over left right fresh) rows
    (λ k d low. row_holds before after left right fresh (slice_index_or rows k d) l r v a b
    (ap (λ (n : ℤ). (slice_index_or rows k d).result *ℤ n) c) (h k d low))

-- the rows of a case without one
pub rows_hold_without : (before after : Meaning) (left right : Operand) (fresh : ℕ) (rows : List ShortRow) (l r : ℤ)
    → OperandIs before left l → OperandIs before right r → All (λ (row : ShortRow). row.result ≡ pos 0) rows
    → AllTrueOf l r (pos 0) rows → All (HoldsBetween before after) (rows_over left right rows fresh)
rows_hold_without before after left right fresh rows l r a b none h =
    All-map (HoldsBetween before after) (row_over left right fresh) rows (λ k d low.
    let row = slice_index_or rows k d in
    let zero_of : (n : ℤ) → row.result *ℤ n ≡ pos 0 = λ n. ap (λ (t : ℤ). t *ℤ n) (none k d low) ∙ zero_times n in
    row_holds before after left right fresh row l r (pos 0) a b (zero_of (number_of (after fresh)) ∙ sym (zero_of (pos 0))) (h k d low))
