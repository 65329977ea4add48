-- Seeking along a superclass chain up to a class, and among all classes of a world.
use Rattle.std.proofs.Common.{◌≡◌, ◌||◌, ◌-◌, ◌+◌, ℕ, zero, suc, ◌<◌, ◌≤◌, Bool, true, false, cond, eqb, List, [], ◌∷◌, ◌++◌}
use Rattle.std.proofs.Common.{length, get_or, drop, Option, Some, None, sym, refl, ap, ap₂, ◌∙◌, subst, inl, inr, arith, zero-add}
use Rattle.std.proofs.Common.{add-one}
use Rattle.std.specs.List.{list_any, range_with_len}
use Rattle.std.proofs.Math.Seq.{drop-cons}
use Rattle.std.proofs.lemmas.List.Folds.{list_any-append}
use Rattle.code_forms.proofs.list_views.Items.{drop_past}
use Rattle.class_world.specs.World.{World, line_from, interfaces_of}
use Rattle.class_world.specs.lemmas.Walks.{IsIn, AnyOf-here}
use Rattle.class_world.specs.lemmas.Linked.{interface_of_world}
use Rattle.class_world.specs.inner.Once.{interfaces_once}
use Rattle.class_world.specs.Hidden.{before}
use Rattle.class_world.proofs.Counting.{range_more, in_range}
use Rattle.class_world.proofs.FieldLemmas.{rest_of_line}
use Rattle.class_world.proofs.Onces.{In_once}

-- ---- numbers in a range

-- a number below passes
pub any_below : (p : ℕ → Bool) (n x : ℕ) → x < n → p x ≡ true → list_any p (range_with_len 0 n) ≡ true
any_below p n x l e = AnyOf-here p (range_with_len 0 n) x (in_range 0 n x (omega arith) (omega (arith, l))) e

-- none so far, and not the next one
pub none_more : (p : ℕ → Bool) (n : ℕ) → list_any p (range_with_len 0 n) ≡ false → p n ≡ false
    → list_any p (range_with_len 0 (n + 1)) ≡ false
none_more p n none f =
    ap (list_any p) (range_more 0 n) ∙ list_any-append p (range_with_len 0 n) ((0 + n) ∷ [])
    ∙ ap₂ (λ v w. v || (w || false)) none (ap p (zero-add n) ∙ f)

-- ---- items of a list

-- the one at a place passes, where what comes from there on decides
pub any_at : {X : Type 0} (p : X → Bool) (xs : List X) (i : ℕ) (d : X) (all : Bool) → list_any p (drop i xs) ≡ all → i < length xs
    → p (get_or xs i d) ≡ true → true ≡ all
any_at p xs i d all e l t =
    let a : drop i xs ≡ get_or xs i d ∷ drop (i + 1) xs = rw (add-one) (drop-cons xs i d l) in
    sym (ap (list_any p) a ∙ ap (λ b. b || list_any p (drop (i + 1) xs)) t) ∙ e

-- nothing comes from there on
pub any_past : {X : Type 0} (p : X → Bool) (xs : List X) (i : ℕ) (all : Bool) → list_any p (drop i xs) ≡ all → length xs ≤ i → false ≡ all
any_past p xs i all e l = sym (ap (list_any p) (drop_past xs i l)) ∙ e

-- ---- up to a class

any_cond : (p : ℕ → Bool) (b : Bool) (here : ℕ) (rest : List ℕ)
    → list_any p (cond b [] (here ∷ rest)) ≡ cond b false (p here || list_any p rest)
any_cond p true here rest = refl
any_cond p false here rest = refl

module _ (super : ℕ → Option ℕ) (p : ℕ → Bool) (end : ℕ) (all : Bool) where
  abbrev pub Seeks : ℕ → Option ℕ → Type 0
  Seeks k next = list_any p (before end (rest_of_line super k next)) ≡ all

  pub seek_starts : (n class : ℕ) → list_any p (before end (line_from super n class)) ≡ all → Seeks (n - 0) (Some class)
  seek_starts n class e = let k : n - 0 ≡ n = omega arith in ap (λ x. list_any p (before end (line_from super x class))) k ∙ e

  step : (n i here : ℕ) (next : Option ℕ) → i < n → next ≡ Some here
      → list_any p (before end (rest_of_line super (n - i) next)) ≡ cond (eqb here end) false
      (p here || list_any p (before end (rest_of_line super (n - (i + 1)) (super here))))
  step n i here next l s =
      let k : n - i ≡ suc (n - (i + 1)) = omega arith in
      ap₂ (λ x o. list_any p (before end (rest_of_line super x o))) k s
      ∙ any_cond p (eqb here end) here (before end (rest_of_line super (n - (i + 1)) (super here)))

  -- the class itself
  pub seek_ends_at : (n i here : ℕ) (next : Option ℕ) → i < n → Seeks (n - i) next → next ≡ Some here → eqb here end ≡ true → false ≡ all
  seek_ends_at n i here next l e s m = sym
      (step n i here next l s
      ∙ ap (λ b. cond b false (p here || list_any p (before end (rest_of_line super (n - (i + 1)) (super here))))) m) ∙ e

  -- a class that passes
  pub seek_comes_to : (n i here : ℕ) (next : Option ℕ) (b : Bool) → i < n → Seeks (n - i) next → next ≡ Some here
      → eqb here end ≡ false → b ≡ p here → b ≡ true → true ≡ all
  seek_comes_to n i here next b l e s m q t =
      let rest = list_any p (before end (rest_of_line super (n - (i + 1)) (super here))) in
      sym (step n i here next l s ∙ ap₂ (λ v w. cond v false (w || rest)) m (sym q ∙ t)) ∙ e

  pub seek_goes_on : (n i here : ℕ) (next next' : Option ℕ) (b : Bool) → i < n → Seeks (n - i) next → next ≡ Some here
      → eqb here end ≡ false → b ≡ p here → b ≡ false → next' ≡ super here → Seeks (n - (i + 1)) next'
  seek_goes_on n i here next next' b l e s m q f w =
      let rest = list_any p (before end (rest_of_line super (n - (i + 1)) (super here))) in
      ap (λ o. list_any p (before end (rest_of_line super (n - (i + 1)) o))) w
      ∙ sym (step n i here next l s ∙ ap₂ (λ v u. cond v false (u || rest)) m (sym q ∙ f)) ∙ e

  pub seek_stops : (k : ℕ) (next : Option ℕ) → Seeks k next → next ≡ None → false ≡ all
  seek_stops k next e s = ap (λ o. list_any p (before end (rest_of_line super k o))) (sym s) ∙ e

  pub seek_ends : (n i : ℕ) (next : Option ℕ) → n ≤ i → Seeks (n - i) next → false ≡ all
  seek_ends n i next l e =
      let k : n - i ≡ 0 = omega arith in
      sym (ap (λ x. list_any p (before end (rest_of_line super x next))) k ∙ none next) ∙ e
    where
      none : (o : Option ℕ) → list_any p (before end (rest_of_line super 0 o)) ≡ false
      none None = refl
      none (Some x) = refl

-- ---- direct superinterfaces

In_at : (xs : List ℕ) (i d : ℕ) → i < length xs → IsIn (get_or xs i d) xs
In_at [] i d l = absurd (omega (arith, l))
In_at (x ∷ xs) zero d l = inl refl
In_at (x ∷ xs) (suc i) d l = inr (In_at xs i d (omega (arith, l)))

-- each of them is a class of the world
pub interface_within : (world : World) (class i x d : ℕ) (row : List ℕ) → row ≡ interfaces_once world class → i < length row
    → x ≡ get_or row i d → x < length world
unfolding interfaces_once
interface_within world class i x d row r l e =
    interface_of_world world class x
    (In_once x (interfaces_of world class) (subst (IsIn x) r (subst (λ (y : ℕ). IsIn y row) (sym e) (In_at row i d l))))
