-- Open nodes that are added one by one.
use Rattle.std.proofs.Common.{◌≡◌, inl, inr, ℕ, zero, suc, ◌+◌, ◌<◌, ◌≤◌, Bool, false, List, [], ◌∷◌, ◌++◌, length, ap, arith, refl}
use Rattle.std.proofs.Common.{◌∙◌, sym}
use Rattle.std.specs.Prelude.{◌↔◌, IsTrue}
use Rattle.std.proofs.lemmas.Bool.{false≢true, cases_lt}
use Rattle.std.proofs.lemmas.List.{length_push, length-append, append_assoc}
use Rattle.abs_cells.specs.AbstractStates.{AbstractState}
use Rattle.list_views.specs.Lists.{numbers_from}
use Rattle.graph_build.specs.inner.Working.{Work, todo, with_one, with_all}

pub with_all_push : (work : Work) (xs : List AbstractState) (x : AbstractState) (parent : ℕ)
    → with_all work (xs ++ x ∷ []) parent ≡ with_one (with_all work xs parent) x parent
with_all_push work [] x parent = refl
with_all_push work (y ∷ ys) x parent = with_all_push (with_one work y parent) ys x parent

numbers_push : (from count : ℕ) → numbers_from from (suc count) ≡ numbers_from from count ++ (from + count) ∷ []
numbers_push from zero = ap (λ (k : ℕ). k ∷ []) (omega arith)
numbers_push from (suc count) = ap (λ (ks : List ℕ). from ∷ ks) (numbers_push (suc from) count
    ∙ ap (λ (k : ℕ). numbers_from (suc from) count ++ k ∷ []) (omega arith))

pub with_all_long : (work : Work) (xs : List AbstractState) (parent : ℕ)
    → length (with_all work xs parent).nodes ≡ length work.nodes + length xs
with_all_long work [] parent = omega arith
with_all_long work (x ∷ xs) parent = with_all_long (with_one work x parent) xs parent
    ∙ ap (λ (k : ℕ). k + length xs) (length_push work.nodes (todo x)) ∙ omega arith

-- one more
pub added_push : (start work new : Work) (xs : List AbstractState) (x : AbstractState) (parent : ℕ)
    → work ≡ with_all start xs parent → new ≡ with_one work x parent → new ≡ with_all start (xs ++ x ∷ []) parent
added_push start work new xs x parent e f = f ∙ ap (λ (w : Work). with_one w x parent) e ∙ sym (with_all_push start xs x parent)

pub named_push : (start work : Work) (named new : List ℕ) (n : ℕ) (xs : List AbstractState) (x : AbstractState) (parent : ℕ)
    → work ≡ with_all start xs parent → named ≡ numbers_from (length start.nodes) (length xs) → n ≡ length work.nodes
    → new ≡ named ++ n ∷ [] → new ≡ numbers_from (length start.nodes) (length (xs ++ x ∷ []))
named_push start work named new n xs x parent e f g h =
    let at : n ≡ length start.nodes + length xs = g ∙ ap (λ (w : Work). length w.nodes) e ∙ with_all_long start xs parent in
    let long : suc (length xs) ≡ length (xs ++ x ∷ []) = omega (arith, length_push xs x) in
    h ∙ ap (λ (ks : List ℕ). ks ++ n ∷ []) f
    ∙ ap (λ (k : ℕ). numbers_from (length start.nodes) (length xs) ++ k ∷ []) at
    ∙ sym (numbers_push (length start.nodes) (length xs))
    ∙ ap (λ (k : ℕ). numbers_from (length start.nodes) k) long

pub whole_push : {A : Type 0} (xs ys zs all : List A) (x : A) → ys ≡ x ∷ zs → xs ++ ys ≡ all → (xs ++ x ∷ []) ++ zs ≡ all
whole_push xs ys zs all x e f = append_assoc xs (x ∷ []) zs ∙ ap (λ rest. xs ++ rest) (sym e) ∙ f

-- there is room for one more
pub has_room_for : (start work : Work) (states xs ys : List AbstractState) (x : AbstractState) (parent bound : ℕ)
    → work ≡ with_all start xs parent → xs ++ x ∷ ys ≡ states → length start.nodes + length states ≤ bound → length work.nodes < bound
has_room_for start work states xs ys x parent bound e f l =
    let long : length work.nodes ≡ length start.nodes + length xs = ap (λ (w : Work). length w.nodes) e ∙ with_all_long start xs parent in
    let parts : length xs + suc (length ys) ≡ length states = sym (length-append xs (x ∷ ys)) ∙ ap length f in
    omega (arith, long, parts, l)

pub no_room : (r : Bool) (a b : ℕ) → (IsTrue r ↔ (a ≤ b)) → r ≡ false → b < a
no_room r a b h e = elim (cases_lt b a) as (λ o. b < a) [
  | inl l ↦ l
  | inr l ↦ absurd (false≢true (sym e ∙ h.1 l))
]

pub kept_within : (start new : Work) (states : List AbstractState) (parent n : ℕ) → new ≡ with_all start states parent
    → n < length start.nodes → n < length new.nodes
kept_within start new states parent n e l =
    let long : length new.nodes ≡ length start.nodes + length states = ap (λ (w : Work). length w.nodes) e
    ∙ with_all_long start states parent in
    omega (arith, long, l)
