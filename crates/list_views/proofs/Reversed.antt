-- Lists the other way round.
use Rattle.std.proofs.Common.{◌≡◌, ◌≢◌, ◌⊎◌, inl, inr, ℕ, ◌-◌, ◌<◌, List, length, get_or, set, take, drop, reverse, sym, ap, ◌∙◌, arith}
use Rattle.std.proofs.lemmas.Bool.{cases_eq}
use Rattle.std.proofs.lemmas.List.{same_lists, get_or-reverse, get_or-set_same, get_or-set_other, length-set, length-reverse}
use Rattle.std.proofs.lemmas.List.{length-drop, reverse-append, take-append-drop, drop_at}

-- an item that changes, from the other end
pub reverse-set : {X : Type 0} (xs : List X) (k : ℕ) (x : X) → k < length xs
    → reverse (set xs (length xs - 1 - k) x) ≡ set (reverse xs) k x
reverse-set {X} xs k x below =
    same_lists (reverse (set xs (length xs - 1 - k) x)) (set (reverse xs) k x) same_length at_each
  where
    same_length : length (reverse (set xs (length xs - 1 - k) x)) ≡ length (set (reverse xs) k x)
    same_length = length-reverse (set xs (length xs - 1 - k) x) ∙ length-set xs (length xs - 1 - k) x ∙ sym (length-reverse xs)
        ∙ sym (length-set (reverse xs) k x)

    by : (j : ℕ) (d : X) → j < length xs → (j ≡ k) ⊎ (j ≢ k)
        → get_or (set xs (length xs - 1 - k) x) (length xs - 1 - j) d ≡ get_or (set (reverse xs) k x) j d
    by j d h (inl e) =
        rw e (get_or-set_same xs (length xs - 1 - k) x d (omega arith)
        ∙ sym (get_or-set_same (reverse xs) k x d (omega (arith, length-reverse xs))))
    by j d h (inr n) =
        get_or-set_other xs (length xs - 1 - k) (length xs - 1 - j) x d (λ e. n (omega arith)) ∙ sym (get_or-reverse xs j d h)
        ∙ sym (get_or-set_other (reverse xs) k j x d n)

    at_each : (j : ℕ) (d : X) → j < length (reverse (set xs (length xs - 1 - k) x))
        → get_or (reverse (set xs (length xs - 1 - k) x)) j d ≡ get_or (set (reverse xs) k x) j d
    at_each j d h =
        let n : length (reverse (set xs (length xs - 1 - k) x)) ≡ length xs = length-reverse (set xs (length xs - 1 - k) x)
        ∙ length-set xs (length xs - 1 - k) x in
        let l : j < length xs = omega (arith, n) in
        let m : j < length (set xs (length xs - 1 - k) x) = omega (arith, length-set xs (length xs - 1 - k) x) in
        get_or-reverse (set xs (length xs - 1 - k) x) j d m ∙ ap (λ i. get_or (set xs (length xs - 1 - k) x) (i - 1 - j) d)
        (length-set xs (length xs - 1 - k) x) ∙ by j d l (cases_eq j k)

-- the front of a list, from the other end
pub reverse-take : {X : Type 0} (n : ℕ) (xs : List X) → reverse (take n xs) ≡ drop (length xs - n) (reverse xs)
reverse-take n xs =
    sym (ap (drop (length xs - n)) (ap reverse (sym (take-append-drop n xs)) ∙ reverse-append (take n xs) (drop n xs))
    ∙ drop_at (reverse (drop n xs)) (reverse (take n xs)) (length xs - n) (length-reverse (drop n xs) ∙ length-drop n xs))

-- ---- a stack, whose items are kept with the top last

-- the lowest items
pub lowest : {X : Type 0} (xs ys old : List X) (n : ℕ) → ys ≡ take n xs → reverse xs ≡ old → reverse ys ≡ drop (length old - n) old
lowest xs ys old n e o = rw (e, ← o) (reverse-take n xs ∙ ap (λ m. drop (m - n) (reverse xs)) (sym (length-reverse xs)))

-- what a stack is seen as
abbrev with_room : {X : Type 0} → List X → ℕ → List X × ℕ
with_room items room = (items, room)

-- an item that changes, beside the room
pub changed : {X : Type 0} (xs : List X) (room : ℕ) (old : List X × ℕ) (count k : ℕ) (x : X) → count ≡ length xs
    → with_room (reverse xs) room ≡ old → k < length old.0
    → with_room (reverse (set xs (count - 1 - k) x)) room ≡ with_room (set old.0 k x) old.1
changed xs room old count k x n o below =
    rw (n, ← o) (ap (λ ys. with_room ys room) (reverse-set xs k x (omega (arith, length-reverse xs, ap (λ p. length p.0) o))))

-- the item at a depth, as it was
pub under : {X : Type 0} (xs : List X) (old : List X × ℕ) (room count place k : ℕ) (x : X) → count ≡ length xs
    → place ≡ count - 1 - k → with_room (reverse xs) room ≡ old → k < length old.0
    → x ≡ get_or xs place x → x ≡ get_or old.0 k x
under xs old room count place k x n p o below e =
    let l : length (reverse xs) ≡ length old.0 = ap (λ q. length q.0) o in
    e ∙ ap (λ i. get_or xs i x) (p ∙ ap (λ m. m - 1 - k) n) ∙ sym (get_or-reverse xs k x (omega (arith, length-reverse xs, l)))
    ∙ ap (λ q. get_or q.0 k x) o
