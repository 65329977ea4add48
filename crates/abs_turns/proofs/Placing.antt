-- Lists with another item at a place.
use Rattle.std.proofs.Common.{◌≡◌, ◌∙◌, ◌<◌, ◌≤◌, ◌+◌, ◌-◌, ◌==◌, ℕ, zero, suc, false, List, [], ◌∷◌, ◌++◌, length, take, drop}
use Rattle.std.proofs.Common.{reverse, get_or, Some, refl, sym, ap, subst, arith}
use Rattle.std.specs.Prelude.{slice_set, slice_index_or}
use Rattle.std.proofs.lemmas.Bool.{false≢true}
use Rattle.std.proofs.lemmas.List.{reverse-append, take_rest}
use Rattle.abs_cells.specs.AbstractStates.{AbstractFrame}
use Rattle.abs_turns.specs.Table.{bottom_with}

pub set_split : (ids : List ℕ) (p x : ℕ) → p < length ids → slice_set ids p x ≡ (take p ids ++ x ∷ []) ++ drop (p + 1) ids
set_split [] p x l = absurd (omega (arith, l))
set_split (i ∷ ids) zero x l = refl
set_split (i ∷ ids) (suc p) x l =
    let after : suc (p + 1) ≡ suc p + 1 = omega arith in
    ap (λ (xs : List ℕ). i ∷ xs) (set_split ids p x (omega (arith, l)))
    ∙ ap (λ (k : ℕ). (i ∷ (take p ids ++ x ∷ [])) ++ drop k (i ∷ ids)) after

-- the ids before a place, the other id, and those behind it
pub set_parts : (ids : List ℕ) (p x : ℕ) (first second whole : List ℕ) → p < length ids → first ≡ take p ids
    → second ≡ first ++ x ∷ [] → whole ≡ second ++ take (length ids - (p + 1)) (drop (p + 1) ids) → whole ≡ slice_set ids p x
set_parts ids p x first second whole l f s w = w ∙ ap (λ (xs : List ℕ). second ++ xs) (take_rest ids (p + 1))
    ∙ ap (λ (xs : List ℕ). xs ++ drop (p + 1) ids) (s ∙ ap (λ (xs : List ℕ). xs ++ x ∷ []) f) ∙ sym (set_split ids p x l)

pub set_past : (ids : List ℕ) (p x : ℕ) → length ids ≤ p → slice_set ids p x ≡ ids
set_past [] p x l = refl
set_past (i ∷ ids) zero x l = absurd (omega (arith, l))
set_past (i ∷ ids) (suc p) x l = ap (λ (xs : List ℕ). i ∷ xs) (set_past ids p x (omega (arith, l)))

at_end : (n x : ℕ) (frames : List AbstractFrame) (last : AbstractFrame)
    → bottom_with n x (frames ++ last ∷ []) ≡ frames ++ record last { locals = slice_set last.locals n (Some x) } ∷ []
at_end n x [] last = refl
at_end n x (frame ∷ []) last = refl
at_end n x (frame ∷ next ∷ rest) last = ap (λ (fs : List AbstractFrame). frame ∷ fs) (at_end n x (next ∷ rest) last)

pub bottom_turned : (n x : ℕ) (frames : List AbstractFrame) (first changed : AbstractFrame) → (length frames == 0) ≡ false
    → first ≡ slice_index_or frames 0 first → changed ≡ record first { locals = slice_set first.locals n (Some x) }
    → reverse (slice_set frames 0 changed) ≡ bottom_with n x (reverse frames)
bottom_turned n x [] first changed e is c = absurd (false≢true (sym e))
bottom_turned n x (frame ∷ frames) first changed e is c =
    reverse-append (changed ∷ []) frames
    ∙ ap (λ (f : AbstractFrame). reverse frames ++ f ∷ [])
    (c ∙ ap (λ (f : AbstractFrame). record f { locals = slice_set f.locals n (Some x) }) is)
    ∙ sym (at_end n x (reverse frames) frame)
    ∙ ap (bottom_with n x) (sym (reverse-append (frame ∷ []) frames))

-- the last of a list, and those before it
last_from : {X : Type 0} (y : X) (xs : List X) (n : ℕ) (x : X) → n ≡ length xs → x ≡ get_or (y ∷ xs) n x
    → reverse (y ∷ xs) ≡ x ∷ reverse (take n (y ∷ xs))
last_from {X} y [] n x m is = subst (λ (k : ℕ). x ≡ get_or (y ∷ []) k x → y ∷ [] ≡ x ∷ reverse (take k (y ∷ []))) (sym m)
    (λ same. ap (λ (z : X). z ∷ []) (sym same)) is
last_from {X} y (z ∷ xs) n x m is =
    let rest = last_from z xs (length xs) x refl (subst (λ (k : ℕ). x ≡ get_or (y ∷ z ∷ xs) k x) m is) in
    reverse-append (y ∷ []) (z ∷ xs) ∙ ap (λ (ys : List X). ys ++ y ∷ []) rest
    ∙ ap (λ (ys : List X). x ∷ ys) (sym (reverse-append (y ∷ []) (take (length xs) (z ∷ xs))))
    ∙ ap (λ (k : ℕ). x ∷ reverse (take k (y ∷ z ∷ xs))) (sym m)

pub last_turned : {X : Type 0} (xs : List X) (n : ℕ) (x : X) → (length xs == 0) ≡ false → n ≡ length xs - 1 → x ≡ get_or xs n x
    → reverse xs ≡ x ∷ reverse (take n xs)
last_turned [] n x e m is = absurd (false≢true (sym e))
last_turned (y ∷ xs) n x e m is = last_from y xs n x (omega (arith, m)) is
