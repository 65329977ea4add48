-- The lines of methods, one method more.
use Rattle.std.proofs.Common.{◌≡◌, ℕ, ◌+◌, ◌≤◌, ◌<◌, true, false, cond, List, ◌∷◌, ◌++◌, length, map, get_or, drop, sym, ap, ◌∙◌}
use Rattle.std.proofs.Common.{append_assoc, append-nil}
use Rattle.std.specs.Prelude.{filter}
use Rattle.std.specs.List.{flat_map}
use Rattle.std.proofs.lemmas.List.{at_drop_more, at_drop_all}
use Rattle.class_read.specs.View.{method_content}
use Rattle.class_read.specs.declared.view.MethodView.{MethodView}
use Rattle.class_calls.specs.describe.Methods.{has_inputs, method_line, method_lines}

-- the lines of views
abbrev pub lines_in : List MethodView → List ℕ
lines_in methods = method_lines (map method_content methods)

-- what the methods from a place on have for lines, by the first of them
by_first : (methods : List MethodView) (i : ℕ) (m : MethodView) → i < length methods
    → lines_in (drop i methods) ≡ lines_in (get_or methods i m ∷ drop (i + 1) methods)
by_first methods i m l = at_drop_more lines_in methods i m l

first_put : (m : MethodView) (rest : List MethodView) → has_inputs (method_content m) ≡ true
    → lines_in (m ∷ rest) ≡ method_line (method_content m) ++ lines_in rest
first_put m rest h = ap
    (λ b. flat_map method_line
    (cond b (method_content m ∷ filter has_inputs (map method_content rest)) (filter has_inputs (map method_content rest)))) h

first_left : (m : MethodView) (rest : List MethodView) → has_inputs (method_content m) ≡ false → lines_in (m ∷ rest) ≡ lines_in rest
first_left m rest h = ap
    (λ b. flat_map method_line
    (cond b (method_content m ∷ filter has_inputs (map method_content rest)) (filter has_inputs (map method_content rest)))) h

pub line_more : (lines pushed : List ℕ) (methods : List MethodView) (i : ℕ) (m : MethodView) (whole : List ℕ) → i < length methods
    → m ≡ get_or methods i m → has_inputs (method_content m) ≡ true → pushed ≡ lines ++ method_line (method_content m)
    → lines ++ lines_in (drop i methods) ≡ whole → pushed ++ lines_in (drop (i + 1) methods) ≡ whole
line_more lines pushed methods i m whole l e h push so_far =
    let rest = drop (i + 1) methods in
    let first : lines_in (drop i methods) ≡ method_line (method_content m) ++ lines_in rest =
    by_first methods i m l ∙ ap (λ (x : MethodView). lines_in (x ∷ rest)) (sym e) ∙ first_put m rest h in
    ap (λ xs. xs ++ lines_in rest) push
    ∙ append_assoc lines (method_line (method_content m)) (lines_in rest)
    ∙ ap (λ xs. lines ++ xs) (sym first)
    ∙ so_far

pub line_none : (lines : List ℕ) (methods : List MethodView) (i : ℕ) (m : MethodView) (whole : List ℕ) → i < length methods
    → m ≡ get_or methods i m → has_inputs (method_content m) ≡ false → lines ++ lines_in (drop i methods) ≡ whole
    → lines ++ lines_in (drop (i + 1) methods) ≡ whole
line_none lines methods i m whole l e h so_far =
    let rest = drop (i + 1) methods in
    let first : lines_in (drop i methods) ≡ lines_in rest =
    by_first methods i m l ∙ ap (λ (x : MethodView). lines_in (x ∷ rest)) (sym e) ∙ first_left m rest h in
    ap (λ xs. lines ++ xs) (sym first) ∙ so_far

pub lines_end : (lines : List ℕ) (methods : List MethodView) (i : ℕ) (whole : List ℕ) → length methods ≤ i
    → lines ++ lines_in (drop i methods) ≡ whole → lines ≡ whole
lines_end lines methods i whole l so_far = sym (append-nil lines) ∙ ap (λ xs. lines ++ xs) (sym (at_drop_all lines_in methods i l))
    ∙ so_far
