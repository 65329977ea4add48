-- A text that ends with a byte, divided by it.
use Rattle.std.proofs.Common.{◌≡◌, ℕ, Bool, true, false, cond, eqb, List, [], ◌∷◌, ◌++◌, refl, sym, ap, ◌∙◌}
use Rattle.asm_lines.specs.LinesAndWords.{onto, parts}

-- the last byte is this one, or there is none
abbrev pub is_whole : ℕ → List ℕ → Bool
is_whole at [] = true
is_whole at (b ∷ []) = eqb b at
is_whole at (b ∷ c ∷ bytes) = is_whole at (c ∷ bytes)

pub whole_append : (at : ℕ) (xs ys : List ℕ) → is_whole at xs ≡ true → is_whole at ys ≡ true → is_whole at (xs ++ ys) ≡ true
whole_append at [] ys h k = k
whole_append at (b ∷ []) [] h k = h
whole_append at (b ∷ []) (c ∷ ys) h k = k
whole_append at (b ∷ c ∷ xs) ys h k = whole_append at (c ∷ xs) ys h k

record HasFirst (ps : List (List ℕ)) : Type 0 where
  pub first : List ℕ
  pub rest : List (List ℕ)
  pub is : ps ≡ first ∷ rest

onto_first : (b : ℕ) (ps : List (List ℕ)) → HasFirst (onto b ps)
onto_first b [] = record { first = b ∷ []; rest = []; is = refl }
onto_first b (p ∷ ps) = record { first = b ∷ p; rest = ps; is = refl }

parts_first : (at b : ℕ) (bytes : List ℕ) → HasFirst (parts at (b ∷ bytes))
parts_first at b bytes = elim (eqb b at) as (λ v. HasFirst (cond v ([] ∷ parts at bytes) (onto b (parts at bytes)))) [
  | true ↦ record { first = []; rest = parts at bytes; is = refl }
  | false ↦ onto_first b (parts at bytes)
]

onto_append : (b : ℕ) (ps qs : List (List ℕ)) → HasFirst ps → onto b (ps ++ qs) ≡ onto b ps ++ qs
onto_append b ps qs has = ap (λ (l : List (List ℕ)). onto b (l ++ qs)) has.is ∙ sym (ap (λ (l : List (List ℕ)). onto b l ++ qs) has.is)

pub parts_append : (at : ℕ) (xs ys : List ℕ) → is_whole at xs ≡ true → parts at (xs ++ ys) ≡ parts at xs ++ parts at ys
parts_append at [] ys h = refl
parts_append at (b ∷ []) ys h =
    ap (λ (v : Bool). cond v ([] ∷ parts at ys) (onto b (parts at ys))) h
    ∙ sym (ap (λ (v : Bool). cond v ([] ∷ []) (onto b []) ++ parts at ys) h)
parts_append at (b ∷ c ∷ xs) ys h =
    let more = parts_append at (c ∷ xs) ys h in
    elim (eqb b at) as (λ v. cond v ([] ∷ parts at (c ∷ (xs ++ ys))) (onto b (parts at (c ∷ (xs ++ ys))))
    ≡ cond v ([] ∷ parts at (c ∷ xs)) (onto b (parts at (c ∷ xs))) ++ parts at ys) [
      | true ↦ ap (λ (l : List (List ℕ)). [] ∷ l) more
      | false ↦ ap (onto b) more ∙ onto_append b (parts at (c ∷ xs)) (parts at ys) (parts_first at c xs)
    ]
