-- The operands of a form, one by one from the lowest.
use Rattle.std.proofs.Common.{◌≡◌, ◌∙◌, ◌<◌, ◌≤◌, ◌+◌, ◌||◌, ℕ, zero, suc, Bool, true, false, if◌then◌else◌, List, [], ◌∷◌, ◌++◌}
use Rattle.std.proofs.Common.{length, take, reverse, zip, get_or, Option, Some, None, refl, sym, ap, arith}
use Rattle.std.specs.Prelude.{min, slice_index_or}
use Rattle.std.proofs.lemmas.List.{reverse-append}
use Rattle.jvm_values.specs.declared.typing.PlaceType.{PlaceType}
use Rattle.jvm_values.specs.declared.typing.PlaceType.TheVariants.{Unset}
use Rattle.jvm_values.specs.TypedHeaps.{WorldTypes}
use Rattle.abs_cells.specs.AbstractStates.{AbstractState}
use Rattle.abs_turns.specs.Plans.{Plan}
use Rattle.abs_turns.specs.Stops.{or_next, stop_of, first_stop}
use Rattle.abs_turns.specs.Needs.{passing_id, operands_of}

-- ---- operands

taken_turned : {X : Type 0} (xs : List X) (n : ℕ) (x : X) → n < length xs → get_or xs n x ≡ x
    → reverse (take (n + 1) xs) ≡ x ∷ reverse (take n xs)
taken_turned {X} xs n x l e = ap reverse (taken xs n x l e) ∙ reverse-append (take n xs) (x ∷ [])
  where
    taken : (xs : List X) (n : ℕ) (x : X) → n < length xs → get_or xs n x ≡ x → take (n + 1) xs ≡ take n xs ++ x ∷ []
    taken [] n x l e = absurd (omega (arith, l))
    taken (y ∷ xs) zero x l e = ap (λ (z : X). z ∷ []) e
    taken (y ∷ xs) (suc n) x l e =
        let after : suc n + 1 ≡ suc (n + 1) = omega arith in
        ap (λ (k : ℕ). take k (y ∷ xs)) after ∙ ap (λ (zs : List X). y ∷ zs) (taken xs n x (omega (arith, l)) e)

-- the lowest operands that are left
abbrev pub left_of : ℕ → List PlaceType → List ℕ → List (PlaceType × ℕ)
left_of depth places stack = reverse (take depth (zip places stack))

zip_at : (places : List PlaceType) (stack : List ℕ) (n : ℕ) (place : PlaceType) (x : ℕ) → n < length places → n < length stack
    → place ≡ get_or places n place → x ≡ get_or stack n x → get_or (zip places stack) n (place, x) ≡ (place, x)
zip_at [] stack n place x l m e f = absurd (omega (arith, l))
zip_at (p ∷ places) [] n place x l m e f = absurd (omega (arith, m))
zip_at (p ∷ places) (y ∷ stack) zero place x l m e f = ap (λ (q : PlaceType). (q, y)) (sym e) ∙ ap (λ (k : ℕ). (place, k)) (sym f)
zip_at (p ∷ places) (y ∷ stack) (suc n) place x l m e f = zip_at places stack n place x (omega (arith, l)) (omega (arith, m)) e f

zip_length : (places : List PlaceType) (stack : List ℕ) (n : ℕ) → n < length places → n < length stack → n < length (zip places stack)
zip_length [] stack n l m = absurd (omega (arith, l))
zip_length (p ∷ places) [] n l m = absurd (omega (arith, m))
zip_length (p ∷ places) (y ∷ stack) zero l m = omega arith
zip_length (p ∷ places) (y ∷ stack) (suc n) l m = let rest = zip_length places stack n (omega (arith, l)) (omega (arith, m)) in
    omega (arith, rest)

pub left_next : (places : List PlaceType) (stack : List ℕ) (n : ℕ) (place : PlaceType) (x : ℕ) → n < length places
    → n < length stack → place ≡ get_or places n place → x ≡ get_or stack n x
    → left_of (n + 1) places stack ≡ (place, x) ∷ left_of n places stack
left_next places stack n place x l m e f = taken_turned (zip places stack) n (place, x) (zip_length places stack n l m)
    (zip_at places stack n place x l m e f)

take_least : {X : Type 0} (n : ℕ) (xs : List X) → take (min n (length xs)) xs ≡ take n xs
take_least zero xs =
    let none : min 0 (length xs) ≡ 0 = omega arith in
    ap (λ (k : ℕ). take k xs) none
take_least {X} (suc n) [] =
    let none : min (suc n) (length {A = X} []) ≡ 0 = omega arith in
    ap (λ (k : ℕ). take k []) none
take_least (suc n) (x ∷ xs) =
    let least : min (suc n) (length (x ∷ xs)) ≡ suc (min n (length xs)) = omega arith in
    ap (λ (k : ℕ). take k (x ∷ xs)) least ∙ ap (λ (ys : List _). x ∷ ys) (take_least n xs)

zip_least : (places : List PlaceType) (stack : List ℕ) → length (zip places stack) ≡ min (length places) (length stack)
zip_least [] stack = omega arith
zip_least (p ∷ places) [] = omega arith
zip_least (p ∷ places) (y ∷ stack) = let rest = zip_least places stack in omega (arith, rest)

pub left_all : (count depth : ℕ) (places : List PlaceType) (stack : List ℕ) → depth ≡ min count (min (length places) (length stack))
    → left_of depth places stack ≡ operands_of count places stack
left_all count depth places stack e = ap (λ (k : ℕ). left_of k places stack) (e ∙ ap (min count) (sym (zip_least places stack)))
    ∙ ap reverse (take_least count (zip places stack))

-- what is read of a list within it doesn't hang on what stands for no item
read_any : {X : Type 0} (xs : List X) (n : ℕ) (d e : X) → n < length xs → get_or xs n d ≡ get_or xs n e
read_any [] n d e l = absurd (omega (arith, l))
read_any (x ∷ xs) zero d e l = refl
read_any (x ∷ xs) (suc n) d e l = read_any xs n d e (omega (arith, l))

-- an operand that passes leaves what is above it
pub passed : (types : WorldTypes) (state : AbstractState) (places : List PlaceType) (stack : List ℕ) (depth n : ℕ)
    (place : PlaceType) (x : ℕ) → depth ≤ length places → depth ≤ length stack → depth ≡ n + 1
    → place ≡ slice_index_or places n Unset → x ≡ slice_index_or stack n x → stop_of (passing_id types state place x) x ≡ None
    → first_stop types state (left_of depth places stack) ≡ first_stop types state (left_of n places stack)
passed types state places stack depth n place x l m e p q none =
    ap (λ (k : ℕ). first_stop types state (left_of k places stack)) e
    ∙ ap (first_stop types state)
    (left_next places stack n place x (omega (arith, l, e)) (omega (arith, m, e))
    (p ∙ read_any places n Unset place (omega (arith, l, e))) q)
    ∙ ap (λ (o : Option Plan). or_next o (first_stop types state (left_of n places stack))) none

-- and one that doesn't is the first
pub stopped : (types : WorldTypes) (state : AbstractState) (places : List PlaceType) (stack : List ℕ) (depth n : ℕ)
    (place : PlaceType) (x : ℕ) (stop : Plan) → depth ≤ length places → depth ≤ length stack → depth ≡ n + 1
    → place ≡ slice_index_or places n Unset → x ≡ slice_index_or stack n x → stop_of (passing_id types state place x) x ≡ Some stop
    → first_stop types state (left_of depth places stack) ≡ Some stop
stopped types state places stack depth n place x stop l m e p q some =
    ap (λ (k : ℕ). first_stop types state (left_of k places stack)) e
    ∙ ap (first_stop types state)
    (left_next places stack n place x (omega (arith, l, e)) (omega (arith, m, e))
    (p ∙ read_any places n Unset place (omega (arith, l, e))) q)
    ∙ ap (λ (o : Option Plan). or_next o (first_stop types state (left_of n places stack))) some
