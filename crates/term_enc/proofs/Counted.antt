-- What is left of a number of parts, step by step over the fields of an instance.
use Rattle.std.proofs.Common.{◌≡◌, ℕ, zero, suc, ◌-◌, ◌<◌, ◌≤◌, List, length, drop, get_or, Some, None, refl, sym, ap, ◌∙◌, arith}
use Rattle.std.specs.Option.{option_and_then}
use Rattle.std.proofs.Math.ListN.{drop_of_length-le}
use Rattle.std.proofs.Math.Seq.{drop-cons}
use Rattle.abs_cells.specs.declared.cells.Cell.{Cell}
use Rattle.abs_cells.specs.declared.cells.Cell.TheVariants.{Obj}
use Rattle.abs_cells.specs.Cells.{cell_in}
use Rattle.term_enc.specs.inner.Counting.{one_less, left_after_all, left_after_cell, left_after}

less : (n : ℕ) → n ≡ suc n - 1
less n = omega arith

-- the fields of an instance, one after another
fields_left : (depth : ℕ) (cells : List (ℕ × Cell)) (id left class : ℕ) (ids : List ℕ) (first : ℕ) → (depth ≡ 0 → ⊥)
    → cell_in cells id ≡ Some (Obj class ids) →
    one_less left ≡ Some first → left_after_all (left_after (depth - 1) cells) ids first ≡ left_after depth cells id left
fields_left zero cells id left class ids first d e h = absurd (d refl)
fields_left (suc depth) cells id left class ids first d e h =
    ap (λ (n : ℕ). left_after_all (left_after n cells) ids first) (sym (less depth))
    ∙ sym (ap (option_and_then (left_after_all (left_after depth cells) ids)) h)
    ∙ sym (ap (option_and_then (left_after_cell (left_after depth cells) left)) e)

-- all of them are passed
pub all_left : (depth : ℕ) (cells : List (ℕ × Cell)) (id left class : ℕ) (ids items : List ℕ) (first index now : ℕ) → (depth ≡ 0 → ⊥) →
    cell_in cells id ≡ Some (Obj class ids) → items ≡ ids → one_less left ≡ Some first →
    left_after_all (left_after (depth - 1) cells) (drop index items) now ≡ left_after_all (left_after (depth - 1) cells) items first
    → length items ≤ index →
    Some now ≡ left_after depth cells id left
all_left depth cells id left class ids items first index now d e same h so l =
    ap (λ (xs : List ℕ). left_after_all (left_after (depth - 1) cells) xs now) (sym (drop_of_length-le items l))
    ∙ so
    ∙ ap (λ (xs : List ℕ). left_after_all (left_after (depth - 1) cells) xs first) same
    ∙ fields_left depth cells id left class ids first d e h

-- one of them has more than what was left
pub none_left : (depth : ℕ) (cells : List (ℕ × Cell)) (id left class : ℕ) (ids items : List ℕ) (first index now child : ℕ)
    → (depth ≡ 0 → ⊥) →
    cell_in cells id ≡ Some (Obj class ids) → items ≡ ids → one_less left ≡ Some first →
    left_after_all (left_after (depth - 1) cells) (drop index items) now ≡ left_after_all (left_after (depth - 1) cells) items first
    → index < length items →
    left_after (depth - 1) cells (get_or items index child) now ≡ None → None ≡ left_after depth cells id left
none_left depth cells id left class ids items first index now child d e same h so l none =
    sym (ap (option_and_then (left_after_all (left_after (depth - 1) cells) (drop (suc index) items))) none)
    ∙ ap (λ (xs : List ℕ). left_after_all (left_after (depth - 1) cells) xs now) (sym (drop-cons items index child l))
    ∙ so
    ∙ ap (λ (xs : List ℕ). left_after_all (left_after (depth - 1) cells) xs first) same
    ∙ fields_left depth cells id left class ids first d e h
