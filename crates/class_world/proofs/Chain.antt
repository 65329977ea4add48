-- Seeking class by class along a superclass chain.
use Rattle.std.proofs.Common.{◌≡◌, ◌-◌, ◌+◌, ℕ, suc, ◌<◌, ◌≤◌, Bool, true, false, cond, List, [], ◌∷◌, Option, Some, None, sym}
use Rattle.std.proofs.Common.{refl, ap, ap₂, ◌∙◌, arith}
use Rattle.std.specs.List.{find}
use Rattle.std.specs.Option.{option_map, option_or}
use Rattle.class_world.specs.World.{line_from}
use Rattle.class_world.specs.Resolve.{first_found}
use Rattle.class_world.proofs.FieldLemmas.{rest_of_line}

-- the first answer
abbrev pub first_by : {A : Type 0} → (ℕ → Option A) → List ℕ → Option A
first_by g [] = None
first_by g (c ∷ cs) = option_or (g c) (first_by g cs)

abbrev pub with_class : (ℕ → Option ℕ) → ℕ → Option (ℕ × ℕ)
with_class place c = option_map (λ i. (c, i)) (place c)

abbrev pub where_true : (ℕ → Bool) → ℕ → Option ℕ
where_true p c = cond (p c) (Some c) None

pub found_by : (place : ℕ → Option ℕ) (xs : List ℕ) → first_found place xs ≡ first_by (with_class place) xs
found_by place [] = refl
found_by place (c ∷ cs) = ap (option_or (with_class place c)) (found_by place cs)

pub find_by : (p : ℕ → Bool) (xs : List ℕ) → find p xs ≡ first_by (where_true p) xs
find_by p [] = refl
find_by p (c ∷ cs) = go (p c) (find_by p cs)
  where
    go : (b : Bool) → find p cs ≡ first_by (where_true p) cs
        → cond b (Some c) (find p cs) ≡ option_or (cond b (Some c) None) (first_by (where_true p) cs)
    go true e = refl
    go false e = e

module _ {A : Type 0} (super : ℕ → Option ℕ) (g : ℕ → Option A) (all : Option A) where
  abbrev pub Goes : ℕ → Option ℕ → Type 0
  Goes k next = first_by g (rest_of_line super k next) ≡ all

  pub starts : (n class : ℕ) → first_by g (line_from super n class) ≡ all → Goes (n - 0) (Some class)
  starts n class e = let k : n - 0 ≡ n = omega arith in ap (λ x. first_by g (line_from super x class)) k ∙ e

  step : (n i here : ℕ) (next : Option ℕ) → i < n → next ≡ Some here
      → first_by g (rest_of_line super (n - i) next) ≡ option_or (g here) (first_by g (rest_of_line super (n - (i + 1)) (super here)))
  step n i here next l s =
      let k : n - i ≡ suc (n - (i + 1)) = omega arith in
      ap₂ (λ x o. first_by g (rest_of_line super x o)) k s

  pub goes_on : (n i here : ℕ) (next next' : Option ℕ) → i < n → Goes (n - i) next → next ≡ Some here → g here ≡ None
      → next' ≡ super here → Goes (n - (i + 1)) next'
  goes_on n i here next next' l e s m q =
      ap (λ o. first_by g (rest_of_line super (n - (i + 1)) o)) q
      ∙ sym (ap (λ o. option_or o (first_by g (rest_of_line super (n - (i + 1)) (super here)))) m)
      ∙ sym (step n i here next l s) ∙ e

  pub comes_to : (n i here : ℕ) (next : Option ℕ) (answer : Option A) (x : A) → i < n → Goes (n - i) next → next ≡ Some here
      → g here ≡ Some x → answer ≡ Some x → answer ≡ all
  comes_to n i here next answer x l e s m a =
      a ∙ sym (ap (λ o. option_or o (first_by g (rest_of_line super (n - (i + 1)) (super here)))) m) ∙ sym (step n i here next l s) ∙ e

  pub stops : (k : ℕ) (next : Option ℕ) → Goes k next → next ≡ None → None ≡ all
  stops k next e s = ap (λ o. first_by g (rest_of_line super k o)) (sym s) ∙ e

  pub ends : (n i : ℕ) (next : Option ℕ) → n ≤ i → Goes (n - i) next → None ≡ all
  ends n i next l e =
      let k : n - i ≡ 0 = omega arith in
      sym (ap (λ x. first_by g (rest_of_line super x next)) k ∙ none next) ∙ e
    where
      none : (o : Option ℕ) → first_by g (rest_of_line super 0 o) ≡ None
      none None = refl
      none (Some x) = refl
