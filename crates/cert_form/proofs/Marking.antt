-- Marks say which nodes a list names as children.
use Rattle.std.proofs.Common.{◌≡◌, ℕ, zero, suc, ◌+◌, ◌<◌, ◌≤◌, ◌==◌, ◌||◌, Bool, true, false, List, [], ◌∷◌, ◌++◌, length}
use Rattle.std.proofs.Common.{replicate, Option, Some, None, slice_get, slice_set, slice_index_or, refl, sym, ap, ◌∙◌, subst, arith}
use Rattle.std.specs.Option.{unwrap_or}
use Rattle.std.specs.List.{list_any}
use Rattle.std.proofs.lemmas.Bool.Decides.{nat_tests}
use Rattle.std.proofs.lemmas.List.Folds.{list_any-append}
use Rattle.list_views.proofs.Orders.{same_number}
use Rattle.list_views.proofs.Items.{get_within}
use Rattle.list_views.proofs.Truths.{or_behind}
use Rattle.term_graph.specs.Graphs.{GraphPart}
use Rattle.term_graph.specs.declared.nodes.By.{By}
use Rattle.term_graph.specs.declared.nodes.By.TheVariants.{Expand, Instance, End, Todo}
use Rattle.cert_form.specs.Certificates.{names_child, is_named}
use Rattle.cert_form.specs.Marks.{all_marked, marked_by}

-- each mark says whether one of the nodes names it
abbrev pub Marked : List Bool → List GraphPart → Type 0
Marked marks front = (k : ℕ) (b : Bool) → slice_get marks k ≡ Some b → b ≡ is_named k front

-- a mark behind a step: what it was, or set
abbrev SetAt : List Bool → Bool → ℕ → Bool → Type 0
SetAt marks named k b = (a : Bool) × ((slice_get marks k ≡ Some a) × (b ≡ (named || a)))

set_there : (marks : List Bool) (i : ℕ) (b : Bool) → slice_get (slice_set marks i true) i ≡ Some b → SetAt marks true i b
set_there [] i b e = let no : ⊥ = cc in absurd no
set_there (x ∷ xs) zero b e = let same : b ≡ true = cc in (x, (refl, same))
set_there (x ∷ xs) (suc i) b e = set_there xs i b e

set_other : (marks : List Bool) (i k : ℕ) → (i ≡ k → ⊥) → slice_get (slice_set marks i true) k ≡ slice_get marks k
set_other [] i k d = refl
set_other (x ∷ xs) zero zero d = absurd (d refl)
set_other (x ∷ xs) zero (suc k) d = refl
set_other (x ∷ xs) (suc i) zero d = refl
set_other (x ∷ xs) (suc i) (suc k) d = set_other xs i k (λ e. d (ap (λ n. suc n) e))

other_number : (i k : ℕ) → (i == k) ≡ false → i ≡ k → ⊥
other_number i k e f = grind (arith, nat_tests)

get_set : (marks : List Bool) (i k : ℕ) (b : Bool) → slice_get (slice_set marks i true) k ≡ Some b → SetAt marks (i == k) k b
get_set marks i k b e = go (i == k) refl
  where
    go : (t : Bool) → (i == k) ≡ t → SetAt marks t k b
    go true t =
        let same = same_number i k t in
        subst (λ (m : ℕ). SetAt marks true m b) same
        (set_there marks i b (subst (λ (m : ℕ). slice_get (slice_set marks i true) m ≡ Some b) (sym same) e))
    go false t = (b, (sym (set_other marks i k (other_number i k t)) ∙ e, refl))

or_turns : (p q a : Bool) → (q || (p || a)) ≡ ((p || q) || a)
or_turns true true a = refl
or_turns true false a = refl
or_turns false true a = refl
or_turns false false a = refl

get_all : (marks : List Bool) (children : List ℕ) (k : ℕ) (b : Bool) → slice_get (all_marked marks children) k ≡ Some b
    → SetAt marks (list_any (λ child. child == k) children) k b
get_all marks [] k b e = (b, (e, refl))
get_all marks (c ∷ cs) k b e =
    let later = get_all (slice_set marks c true) cs k b e in
    let first = get_set marks c k later.0 later.1.0 in (
      first.0,
      (
        first.1.0,
        later.1.1 ∙ ap (λ (x : Bool). list_any (λ child. child == k) cs || x) first.1.1
            ∙ or_turns (c == k) (list_any (λ child. child == k) cs) first.0,
      ),
    )

get_by : (marks : List Bool) (by : By) (k : ℕ) (b : Bool) → slice_get (marked_by marks by) k ≡ Some b → SetAt marks (names_child k by) k b
get_by marks (Expand children) k b e = get_all marks children k b e
get_by marks (Instance target map) k b e = (b, (e, refl))
get_by marks End k b e = (b, (e, refl))
get_by marks Todo k b e = (b, (e, refl))

-- one more node
pub marked_on : (marks : List Bool) (front : List GraphPart) (part : GraphPart) → Marked marks front
    → Marked (marked_by marks part.by) (front ++ part ∷ [])
marked_on marks front part m k b e =
    let s = get_by marks part.by k b e in
    s.1.1 ∙ or_behind (names_child k part.by) s.0
    ∙ ap (λ (x : Bool). x || (names_child k part.by || false)) (m k s.0 s.1.0)
    ∙ sym (list_any-append (λ (p : GraphPart). names_child k p.by) front (part ∷ []))

get_none : (count k : ℕ) (b : Bool) → slice_get (replicate count false) k ≡ Some b → b ≡ false
get_none zero k b e = let no : ⊥ = cc in absurd no
get_none (suc count) zero b e = let same : b ≡ false = cc in same
get_none (suc count) (suc k) b e = get_none count k b e

-- no node yet
pub marked_none : (count : ℕ) → Marked (replicate count false) []
marked_none count k b e = get_none count k b e

length_set : (marks : List Bool) (i : ℕ) → length (slice_set marks i true) ≡ length marks
length_set [] i = refl
length_set (x ∷ xs) zero = refl
length_set (x ∷ xs) (suc i) = ap (λ n. suc n) (length_set xs i)

length_all : (marks : List Bool) (children : List ℕ) → length (all_marked marks children) ≡ length marks
length_all marks [] = refl
length_all marks (c ∷ cs) = length_all (slice_set marks c true) cs ∙ length_set marks c

-- there are as many marks as before
pub length_marked : (marks : List Bool) (by : By) → length (marked_by marks by) ≡ length marks
length_marked marks (Expand children) = length_all marks children
length_marked marks (Instance target map) = refl
length_marked marks End = refl
length_marked marks Todo = refl

-- a number without a mark changes nothing
pub unmarked : (marks : List Bool) (i : ℕ) → length marks ≤ i → slice_set marks i true ≡ marks
unmarked [] i l = refl
unmarked (x ∷ xs) zero l = absurd (omega arith)
unmarked (x ∷ xs) (suc i) l = let m : length xs ≤ i = omega arith in ap (λ (ys : List Bool). x ∷ ys) (unmarked xs i m)

-- a mark that is there, and one that is not
pub mark_there : (marks : List Bool) (n : ℕ) (read : Bool) → n < length marks → read ≡ slice_index_or marks n read
    → read ≡ unwrap_or (slice_get marks n) false
mark_there [] n read l r = absurd (omega arith)
mark_there (x ∷ xs) zero read l r = r
mark_there (x ∷ xs) (suc n) read l r = mark_there xs n read (omega arith) r

pub mark_past : (marks : List Bool) (n : ℕ) → length marks ≤ n → false ≡ unwrap_or (slice_get marks n) false
mark_past [] n l = refl
mark_past (x ∷ xs) zero l = absurd (omega arith)
mark_past (x ∷ xs) (suc n) l = mark_past xs n (omega arith)

-- a mark says whether one of the nodes names it
pub has_is : (marks : List Bool) (front : List GraphPart) (n : ℕ) → Marked marks front → n < length marks
    → unwrap_or (slice_get marks n) false ≡ is_named n front
has_is marks front n m l =
    let f = get_within marks n l in
    ap (λ (mark : Option Bool). unwrap_or mark false) f.1 ∙ m n f.0 f.1
