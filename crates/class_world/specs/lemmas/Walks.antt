-- Ways up a hierarchy: a way of any length, the test of `leads_up`, and that without cycles the test finds every way.
use Rattle.std.proofs.Common.{◌≡◌, ℕ, zero, suc, ◌<◌, ◌≤◌, Bool, true, false, ◌||◌, eqb, List, [], ◌∷◌, ◌++◌, length, sym, refl}
use Rattle.std.proofs.Common.{◌∙◌, subst, inl, inr, ◌⊎◌, arith, eq-eqb}
use Rattle.std.specs.List.{list_any, IsDistinct, AllByRecursion}
use Rattle.std.proofs.lemmas.Map.Steps.{length-le_from_distinct_below}
use Rattle.std.proofs.lemmas.Bool.{false≢true, eqb-true, or_parts, or_right, or_left, or_cases}
use Rattle.class_world.specs.World.{leads_up}

-- a number is one of a list
abbrev pub IsIn : ℕ → List ℕ → Type 0
IsIn x [] = ⊥
IsIn x (y ∷ ys) = (x ≡ y) ⊎ IsIn x ys

-- some element passes
pub AnyOf-cases : (p : ℕ → Bool) (xs : List ℕ) → list_any p xs ≡ true → (x : ℕ) × IsIn x xs × (p x ≡ true)
AnyOf-cases p [] e = absurd (false≢true e)
AnyOf-cases p (x ∷ xs) e = elim (or_cases (p x) (list_any p xs) e) [
  | inl here ↦ (x, inl refl, here)
  | inr there ↦ let r = AnyOf-cases p xs there in (r.0, inr r.1, r.2)
]

pub AnyOf-here : (p : ℕ → Bool) (xs : List ℕ) (x : ℕ) → IsIn x xs → p x ≡ true → list_any p xs ≡ true
AnyOf-here p [] x h e = absurd h
AnyOf-here p (y ∷ ys) x (inl same) e = or_left (p y) _ (subst (λ (z : ℕ). p z ≡ true) same e)
AnyOf-here p (y ∷ ys) x (inr there) e = or_right (p y) _ (AnyOf-here p ys x there e)

IsIn-append : (x : ℕ) (xs ys : List ℕ) → IsIn x (xs ++ ys) → IsIn x xs ⊎ IsIn x ys
IsIn-append x [] ys h = inr h
IsIn-append x (z ∷ zs) ys (inl same) = inl (inl same)
IsIn-append x (z ∷ zs) ys (inr there) = elim (IsIn-append x zs ys there) [ inl a ↦ inl (inr a) | inr b ↦ inr b ]

-- in a list that a test of equality searches
pub IsIn-from_any : (x : ℕ) (xs : List ℕ) → list_any (eqb x) xs ≡ true → IsIn x xs
IsIn-from_any x [] e = absurd (false≢true e)
IsIn-from_any x (y ∷ ys) e = elim (or_cases (eqb x y) _ e) [
  | inl here ↦ inl (eqb-true x y here)
  | inr there ↦ inr (IsIn-from_any x ys there)
]

pub any-from_IsIn : (x : ℕ) (xs : List ℕ) → IsIn x xs → list_any (eqb x) xs ≡ true
any-from_IsIn x xs h = AnyOf-here (eqb x) xs x h (eq-eqb x x refl)

module _ (up : ℕ → List ℕ) where
  -- a way from `a` by the classes of `p` that ends at `b`
  abbrev pub Walk : ℕ → List ℕ → ℕ → Type 0
  Walk a [] b = a ≡ b
  Walk a (c ∷ p) b = IsIn c (up a) × Walk c p b

  pub Walk-append : (a b d : ℕ) (p q : List ℕ) → Walk a p b → Walk b q d → Walk a (p ++ q) d
  Walk-append a b d [] q here more = subst (λ (x : ℕ). Walk x q d) (sym here) more
  Walk-append a b d (c ∷ p) q (step, rest) more = (step, Walk-append c b d p q rest more)

  -- the test finds a way
  pub Walk-from_leads : (steps a b : ℕ) → leads_up up steps a b ≡ true → (c : ℕ) × (p : List ℕ) × Walk a (c ∷ p) b × (length p < steps)
  Walk-from_leads zero a b e = absurd (false≢true e)
  Walk-from_leads (suc steps) a b e =
      let r = AnyOf-cases (λ c. eqb b c || leads_up up steps c b) (up a) e in
      elim (or_cases (eqb b r.0) (leads_up up steps r.0 b) r.2) [
        | inl here ↦ (r.0, [], (r.1, sym (eqb-true b r.0 here)), omega arith)
        | inr there ↦
            let w = Walk-from_leads steps r.0 b there in
            (r.0, w.0 ∷ w.1, (r.1, w.2), omega (arith, w.3))
      ]

  -- the test finds every way that is short enough
  pub leads-from_Walk : (steps a b c : ℕ) (p : List ℕ) → Walk a (c ∷ p) b → length p < steps → leads_up up steps a b ≡ true
  leads-from_Walk zero a b c p w h = absurd (omega arith)
  leads-from_Walk (suc steps) a b c [] w h =
      AnyOf-here (λ x. eqb b x || leads_up up steps x b) (up a) c w.0 (or_left (eqb b c) _ (eq-eqb b c (sym w.1)))
  leads-from_Walk (suc steps) a b c (d ∷ p) w h =
      AnyOf-here (λ x. eqb b x || leads_up up steps x b) (up a) c w.0
      (or_right (eqb b c) _ (leads-from_Walk steps c b d p w.1 (omega arith)))

  -- the part of a way that comes to no class twice, from the place where it comes to `y`
  after : (y a b : ℕ) (p : List ℕ) → Walk a p b → IsDistinct eqb p → IsIn y p → (q : List ℕ) × Walk y q b × IsDistinct eqb (y ∷ q)
  unfolding IsDistinct
  after y a b [] w d h = absurd h
  after y a b (c ∷ p) w d (inl same) =
      (p, subst (λ (x : ℕ). Walk x p b) (sym same) w.1, subst (λ (x : ℕ). IsDistinct eqb (x ∷ p)) (sym same) d)
  after y a b (c ∷ p) w d (inr there) = after y c b p w.1 d.1 there

  apart : (c : ℕ) (p : List ℕ) → list_any (eqb c) p ≡ false → AllByRecursion (λ y. eqb c y ≡ false) p
  apart c [] e = tt
  apart c (y ∷ ys) e = let r = or_parts (eqb c y) (list_any (eqb c) ys) e in (r.0, apart c ys r.1)

  -- where a way leads, a way leads that comes to no class twice
  pub shorten : (a c b : ℕ) (p : List ℕ) → Walk a (c ∷ p) b → (d : ℕ) × (q : List ℕ) × Walk a (d ∷ q) b × IsDistinct eqb (d ∷ q)
  unfolding IsDistinct
  shorten a c b [] w = (c, [], w, (tt, tt))
  shorten a c b (d ∷ p) w = go (shorten c d b p w.1)
    where
      go : (f : ℕ) × (q : List ℕ) × Walk c (f ∷ q) b × IsDistinct eqb (f ∷ q) → (d : ℕ) × (q : List ℕ) × Walk a (d ∷ q) b
          × IsDistinct eqb (d ∷ q)
      go r = by (list_any (eqb c) (r.0 ∷ r.1)) refl
        where
          by : (x : Bool) → list_any (eqb c) (r.0 ∷ r.1) ≡ x → (d : ℕ) × (q : List ℕ) × Walk a (d ∷ q) b × IsDistinct eqb (d ∷ q)
          by true e = let s = after c c b (r.0 ∷ r.1) r.2 r.3 (IsIn-from_any c (r.0 ∷ r.1) e) in (c, s.0, (w.0, s.1), s.2)
          by false e = (c, r.0 ∷ r.1, (w.0, r.2), (apart c (r.0 ∷ r.1) e, r.3))

  module _ (n : ℕ) (closed : (a b : ℕ) → IsIn b (up a) → b < n) where
    all_below : (a b : ℕ) (p : List ℕ) → Walk a p b → (q : ℕ) → IsIn q p → q < n
    all_below a b [] w q h = absurd h
    all_below a b (c ∷ p) w q (inl same) = subst (λ (x : ℕ). x < n) (sym same) (closed a c w.0)
    all_below a b (c ∷ p) w q (inr there) = all_below c b p w.1 q there

    -- the test finds every way
    pub leads-from_any_Walk : (a b c : ℕ) (p : List ℕ) → Walk a (c ∷ p) b → leads_up up n a b ≡ true
    leads-from_any_Walk a b c p w =
        let r = shorten a c b p w in
        let short : length (r.0 ∷ r.1) ≤ n = length-le_from_distinct_below (r.0 ∷ r.1) n r.3
        (λ q e. all_below a b (r.0 ∷ r.1) r.2 q (IsIn-from_any q (r.0 ∷ r.1) e)) in
        leads-from_Walk n a b r.0 r.1 r.2 (omega (arith, short))

    pub leads_trans : (a b c : ℕ) → leads_up up n a b ≡ true → leads_up up n b c ≡ true → leads_up up n a c ≡ true
    leads_trans a b c e f =
        let v = Walk-from_leads n a b e in
        let w = Walk-from_leads n b c f in
        leads-from_any_Walk a c v.0 (v.1 ++ w.0 ∷ w.1) (Walk-append a b c (v.0 ∷ v.1) (w.0 ∷ w.1) v.2 w.2)

    pub leads_antisym : ((a : ℕ) → leads_up up n a a ≡ false) → (a b : ℕ) → leads_up up n a b ≡ true → leads_up up n b a ≡ true → ⊥
    leads_antisym acyclic a b e f = false≢true (sym (acyclic a) ∙ leads_trans a b a e f)
