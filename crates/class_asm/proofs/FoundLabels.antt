-- Labels found through an index.
use Rattle.std.proofs.Common.{◌≡◌, ℕ, Bool, true, false, cond, ◌||◌, List, [], ◌∷◌, ◌++◌, Option, Some, None, not, refl, sym, ap}
use Rattle.std.proofs.Common.{◌∙◌, inl, inr, is_some}
use Rattle.std.proofs.Math.Path.{fun_ext}
use Rattle.std.proofs.lemmas.Bool.{cases_Bool}
use Rattle.std.proofs.lemmas.Slice.Eq.{bytes_eq-Decides}
use Rattle.std.specs.Prelude.{map}
use Rattle.std.specs.Option.{option_or}
use Rattle.std.specs.List.{list_any}
use Rattle.std.specs.Map.{lookup}
use Rattle.std.specs.Str.{bytes_eq}
use Rattle.list_views.proofs.Truths.{or_false}
use Rattle.class_asm.specs.asm_codes.Instructions.{Places}
use Rattle.class_asm.specs.asm_codes.Places.{place_in, with_place}
use Rattle.class_asm.specs.asm_codes.LineFaults.{is_among, with_label}

-- ---- places

pub lookup-map : {A : Type 0} (f : A → List ℕ) (test : List ℕ → Bool) (es : List (A × ℕ))
    → lookup test (map (λ e. (f e.0, e.1)) es) ≡ lookup (λ k. test (f k)) es
lookup-map f test [] = refl
lookup-map f test (e ∷ es) = ap (λ (o : Option ℕ). cond (test (f e.0)) (Some e.1) o) (lookup-map f test es)

chosen_or : (b : Bool) (v : ℕ) (o p : Option ℕ) → cond b (Some v) (option_or o p) ≡ option_or (cond b (Some v) o) p
chosen_or true v o p = refl
chosen_or false v o p = refl

lookup-append : (test : List ℕ → Bool) (es fs : List (List ℕ × ℕ)) → lookup test (es ++ fs) ≡ option_or (lookup test es) (lookup test fs)
lookup-append test [] fs = refl
lookup-append test (e ∷ es) fs = ap (λ (o : Option ℕ). cond (test e.0) (Some e.1) o) (lookup-append test es fs)
    ∙ chosen_or (test e.0) e.1 (lookup test es) (lookup test fs)

map-push : {A B : Type 0} (f : A → B) (xs : List A) (x : A) → map f (xs ++ x ∷ []) ≡ map f xs ++ f x ∷ []
map-push f [] x = refl
map-push {B = B} f (y ∷ ys) x = ap (λ (zs : List B). f y ∷ zs) (map-push f ys x)

pub put : {A : Type 0} (f : A → List ℕ) (es fs : List (A × ℕ)) (a : A) (place : ℕ) → fs ≡ es ++ (a, place) ∷ []
    → place_in (map (λ e. (f e.0, e.1)) fs) ≡ with_place (place_in (map (λ e. (f e.0, e.1)) es)) (f a) place
put {A = A} f es fs a place h =
    let shown : List (A × ℕ) → List (List ℕ × ℕ) = λ xs. map (λ e. (f e.0, e.1)) xs in
    ap (λ (xs : List (A × ℕ)). place_in (shown xs)) h
    ∙ ap place_in (map-push (λ (e : A × ℕ). (f e.0, e.1)) es (a, place))
    ∙ fun_ext (λ other. lookup-append (bytes_eq other) (shown es) ((f a, place) ∷ []))

same_label : (places : Places) (label other : List ℕ) → is_some (places label) ≡ true → places other ≡ None → bytes_eq other label ≡ false
same_label places label other there h =
    elim (cases_Bool (bytes_eq other label)) [
      | inl same ↦ let e : other ≡ label = (bytes_eq-Decides other label).0 same in absurd
          (let g : places label ≡ None = ap places (sym e) ∙ h in cc)
      | inr differs ↦ differs
    ]

seen_before : (o : Option ℕ) (b : Bool) (place : ℕ) → (o ≡ None → b ≡ false) → o ≡ option_or o (cond b (Some place) None)
seen_before (Some p) b place h = refl
seen_before None b place h = ap (λ v. cond v (Some place) None) (sym (h refl))

pub kept : (es : List (List ℕ × ℕ)) (label : List ℕ) (place : ℕ) → is_some (place_in es label) ≡ true
    → place_in es ≡ with_place (place_in es) label place
kept es label place there = fun_ext
    (λ other. seen_before (place_in es other) (bytes_eq other label) place (same_label (place_in es) label other there))

-- ---- labels alone

or_more : (a b c : Bool) → (a || b) || c ≡ a || (b || c)
or_more true b c = refl
or_more false b c = refl

any-push : (test : List ℕ → Bool) (xs : List (List ℕ)) (x : List ℕ) → list_any test (xs ++ x ∷ []) ≡ (list_any test xs || test x)
any-push test [] x = or_false (test x)
any-push test (y ∷ ys) x = ap (λ b. test y || b) (any-push test ys x) ∙ sym (or_more (test y) (list_any test ys) (test x))

or_seen : (a b : Bool) → (a ≡ false → b ≡ false) → a ≡ (a || b)
or_seen true b h = refl
or_seen false b h = sym (h refl)

among_too : (xs : List (List ℕ)) (label other : List ℕ) → is_among xs label ≡ true → is_among xs other ≡ false
    → bytes_eq other label ≡ false
among_too xs label other there h =
    elim (cases_Bool (bytes_eq other label)) [
      | inl same ↦ let e : other ≡ label = (bytes_eq-Decides other label).0 same in absurd
          (let g : is_among xs label ≡ false = ap (is_among xs) (sym e) ∙ h in cc)
      | inr differs ↦ differs
    ]

-- a label that is added where it isn't there, by what the set answers
pub added : (xs ys : List (List ℕ)) (label : List ℕ) (fresh : Bool) → ys ≡ cond fresh (xs ++ label ∷ []) xs
    → list_any (bytes_eq label) xs ≡ cond fresh false true → is_among ys ≡ with_label (is_among xs) label
added xs ys label true h there = ap is_among h ∙ fun_ext (λ other. any-push (bytes_eq other) xs label)
added xs ys label false h there = ap is_among h
    ∙ fun_ext (λ other. or_seen (is_among xs other) (bytes_eq other label) (among_too xs label other there))

pub is_new : (fresh there : Bool) → there ≡ cond fresh false true → fresh ≡ not there
is_new true there h = rw h refl
is_new false there h = rw h refl
