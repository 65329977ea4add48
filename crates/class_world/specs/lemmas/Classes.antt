-- The order of the classes of a world without cycles, in which interfaces are under Object and interfaces alone.
use Rattle.std.proofs.Common.{◌≡◌, ℕ, zero, suc, ◌<◌, Bool, true, false, ◌||◌, eqb, List, [], ◌∷◌, length, Option, Some, None, sym}
use Rattle.std.proofs.Common.{refl, ap, ◌∙◌, subst, inl, inr, ◌⊎◌, eq-eqb}
use Rattle.std.specs.Prelude.{option_and_then}
use Rattle.std.proofs.lemmas.Bool.{false≢true, eqb-true, or_left, or_right}
use Rattle.class_world.specs.World.{leads_up}
use Rattle.class_world.specs.lemmas.Walks.{IsIn, Walk, Walk-from_leads, leads-from_any_Walk, leads_trans, leads_antisym}

-- What linking makes of the classes of a world: n classes, each with its superclass and with all that it directly extends or
-- implements, without cycles, under class 0, in which interfaces extend interfaces and class 0 alone.
pub record IsHierarchy (n : ℕ) (super : ℕ → Option ℕ) (up : ℕ → List ℕ) (interface : ℕ → Bool) : Type 0 where
  pub some : 0 < n
  pub closed : (a b : ℕ) → IsIn b (up a) → b < n
  pub root : (b : ℕ) → IsIn b (up 0) → ⊥
  pub acyclic : (a : ℕ) → leads_up up n a a ≡ false
  pub super_in : (a b : ℕ) → super a ≡ Some b → IsIn b (up a)
  -- what a class extends is its superclass or an interface
  pub lone : (a b : ℕ) → IsIn b (up a) → interface b ≡ false → super a ≡ Some b
  -- what an interface extends is Object or an interface
  pub under : (a b : ℕ) → interface a ≡ true → IsIn b (up a) → interface b ≡ false → b ≡ 0
  pub class_root : interface 0 ≡ false
  pub interface_in : (a : ℕ) → interface a ≡ true → a < n

-- so many steps along the superclasses
abbrev pub climb : (ℕ → Option ℕ) → ℕ → ℕ → Option ℕ
climb super zero a = Some a
climb super (suc k) a = option_and_then (climb super k) (super a)

three : (a b c : Bool) → (a || b || c) ≡ true → (a ≡ true) ⊎ ((b ≡ true) ⊎ (c ≡ true))
three true b c e = inl refl
three false true c e = inr (inl refl)
three false false c e = inr (inr e)

module _ (n : ℕ) (super : ℕ → Option ℕ) (up : ℕ → List ℕ) (interface : ℕ → Bool) (h : IsHierarchy n super up interface) where
  abbrev leads : ℕ → ℕ → Bool
  leads = leads_up up n

  abbrev below : ℕ → ℕ → Bool
  below a b = eqb b 0 || eqb a b || leads a b

  pub below_root : (a : ℕ) → below a 0 ≡ true
  below_root a = refl

  pub below_same : (a : ℕ) → below a a ≡ true
  below_same a = or_left (eqb a 0 || eqb a a) _ (or_right (eqb a 0) _ (eq-eqb a a refl))

  pub below_up : (a b : ℕ) → leads a b ≡ true → below a b ≡ true
  below_up a b e = or_right (eqb b 0 || eqb a b) _ e

  pub below_cases : (a b : ℕ) → below a b ≡ true → (b ≡ 0) ⊎ ((a ≡ b) ⊎ (leads a b ≡ true))
  below_cases a b e = elim (three (eqb b 0) (eqb a b) (leads a b) e) [
    | inl z ↦ inl (eqb-true b 0 z)
    | inr r ↦ elim r [ inl s ↦ inr (inl (eqb-true a b s)) | inr t ↦ inr (inr t) ]
  ]

  root_up : (b : ℕ) → leads 0 b ≡ true → ⊥
  root_up b e = let w = Walk-from_leads up n 0 b e in h.root w.0 w.2.0

  pub below_trans : (a b c : ℕ) → below a b ≡ true → below b c ≡ true → below a c ≡ true
  below_trans a b c e f = go (below_cases b c f) (below_cases a b e)
    where
      go : (c ≡ 0) ⊎ ((b ≡ c) ⊎ (leads b c ≡ true)) → (b ≡ 0) ⊎ ((a ≡ b) ⊎ (leads a b ≡ true)) → below a c ≡ true
      go (inl z) _ = subst (λ (x : ℕ). below a x ≡ true) (sym z) (below_root a)
      go (inr (inl s)) _ = subst (λ (x : ℕ). below a x ≡ true) s e
      go (inr (inr t)) (inl z) = absurd (root_up c (subst (λ (x : ℕ). leads x c ≡ true) z t))
      go (inr (inr t)) (inr (inl s)) = below_up a c (subst (λ (x : ℕ). leads x c ≡ true) (sym s) t)
      go (inr (inr t)) (inr (inr u)) = below_up a c (leads_trans up n h.closed a b c u t)

  pub below_antisym : (a b : ℕ) → below a b ≡ true → below b a ≡ true → a ≡ b
  below_antisym a b e f = go (below_cases a b e) (below_cases b a f)
    where
      go : (b ≡ 0) ⊎ ((a ≡ b) ⊎ (leads a b ≡ true)) → (a ≡ 0) ⊎ ((b ≡ a) ⊎ (leads b a ≡ true)) → a ≡ b
      go (inl z) (inl y) = y ∙ sym z
      go (inl z) (inr (inl s)) = sym s
      go (inl z) (inr (inr t)) = absurd (root_up a (subst (λ (x : ℕ). leads x a ≡ true) z t))
      go (inr (inl s)) _ = s
      go (inr (inr t)) (inl y) = absurd (root_up b (subst (λ (x : ℕ). leads x b ≡ true) y t))
      go (inr (inr t)) (inr (inl s)) = sym s
      go (inr (inr t)) (inr (inr u)) = absurd (leads_antisym up n h.closed h.acyclic a b t u)

  -- above an interface is no class but Object
  over_interface : (c a : ℕ) (p : List ℕ) → interface c ≡ true → Walk up c p a → interface a ≡ false → a ≡ 0
  over_interface c a [] i w o = absurd (false≢true (sym o ∙ subst (λ (x : ℕ). interface x ≡ true) w i))
  over_interface c a (d ∷ p) i w o = go (interface d) refl (λ e. over_interface d a p e w.1 o)
    where
      at_root : (q : List ℕ) → Walk up 0 q a → a ≡ 0
      at_root [] v = sym v
      at_root (x ∷ q) v = absurd (h.root x v.0)

      go : (b : Bool) → interface d ≡ b → (interface d ≡ true → a ≡ 0) → a ≡ 0
      go true e further = further e
      go false e further = at_root p (subst (λ (x : ℕ). Walk up x p a) (h.under c d i w.0 e) w.1)

  -- below a class, no interface and not Object, is no interface
  pub below_class : (a b : ℕ) → below a b ≡ true → (b ≡ 0 → ⊥) → interface b ≡ false → interface a ≡ false
  below_class a b e not_root o = go (interface a) refl (below_cases a b e)
    where
      go : (i : Bool) → interface a ≡ i → (b ≡ 0) ⊎ ((a ≡ b) ⊎ (leads a b ≡ true)) → interface a ≡ false
      go false f _ = f
      go true f (inl z) = absurd (not_root z)
      go true f (inr (inl s)) = subst (λ (x : ℕ). interface x ≡ false) (sym s) o
      go true f (inr (inr t)) = let w = Walk-from_leads up n a b t in absurd (not_root (over_interface a b (w.0 ∷ w.1) f w.2 o))

  -- a way to a class goes by superclasses, or the class is Object
  pub by_supers : (t c a : ℕ) (p : List ℕ) → Walk up t (c ∷ p) a → interface a ≡ false
      → (a ≡ 0) ⊎ (climb super (suc (length p)) t ≡ Some a)
  by_supers t c a [] w o = go (interface c) refl
    where
      go : (b : Bool) → interface c ≡ b → (a ≡ 0) ⊎ (climb super 1 t ≡ Some a)
      go true e = inl (over_interface c a [] e w.1 o)
      go false e = inr (ap (option_and_then (climb super 0)) (h.lone t c w.0 e) ∙ ap Some w.1)
  by_supers t c a (d ∷ q) w o = go (interface c) refl (by_supers c d a q w.1 o)
    where
      go : (b : Bool) → interface c ≡ b → (a ≡ 0) ⊎ (climb super (suc (length q)) c ≡ Some a)
          → (a ≡ 0) ⊎ (climb super (suc (suc (length q))) t ≡ Some a)
      go true e further = inl (over_interface c a (d ∷ q) e w.1 o)
      go false e (inl z) = inl z
      go false e (inr r) = inr (ap (option_and_then (climb super (suc (length q)))) (h.lone t c w.0 e) ∙ r)

  pub climbed : (k a b : ℕ) → climb super k a ≡ Some b → (a ≡ b) ⊎ (leads a b ≡ true)
  climbed zero a b e = inl (same e)
    where
      same : Some a ≡ Some b → a ≡ b
      same f = cc
  climbed (suc k) a b e = go (super a) refl e (climbed k)
    where
      go : (s : Option ℕ) → super a ≡ s → option_and_then (climb super k) s ≡ Some b
          → ((x y : ℕ) → climb super k x ≡ Some y → (x ≡ y) ⊎ (leads x y ≡ true)) → (a ≡ b) ⊎ (leads a b ≡ true)
      go None e f further = cc
      go (Some c) e f further = elim (further c b f) [
        | inl s ↦ inr (leads-from_any_Walk up n h.closed a b c [] (h.super_in a c e, s))
        | inr t ↦
            let w = Walk-from_leads up n c b t in
            inr (leads-from_any_Walk up n h.closed a b c (w.0 ∷ w.1) (h.super_in a c e, w.2))
      ]

  -- of two classes along the superclasses one is above the other
  along : (i j t a b : ℕ) → climb super i t ≡ Some a → climb super j t ≡ Some b → (below a b ≡ true) ⊎ (below b a ≡ true)
  along zero j t a b e f = inl (from (climbed j t b f) (same e))
    where
      same : Some t ≡ Some a → t ≡ a
      same g = cc

      from : (t ≡ b) ⊎ (leads t b ≡ true) → t ≡ a → below a b ≡ true
      from (inl s) q = subst (λ (x : ℕ). below x b ≡ true) q (subst (λ (x : ℕ). below t x ≡ true) s (below_same t))
      from (inr l) q = below_up a b (subst (λ (x : ℕ). leads x b ≡ true) q l)
  along (suc i) zero t a b e f = inr (from (climbed (suc i) t a e) (same f))
    where
      same : Some t ≡ Some b → t ≡ b
      same g = cc

      from : (t ≡ a) ⊎ (leads t a ≡ true) → t ≡ b → below b a ≡ true
      from (inl s) q = subst (λ (x : ℕ). below x a ≡ true) q (subst (λ (x : ℕ). below t x ≡ true) s (below_same t))
      from (inr l) q = below_up b a (subst (λ (x : ℕ). leads x a ≡ true) q l)
  along (suc i) (suc j) t a b e f = go (super t) e f (along i j)
    where
      go : (s : Option ℕ) → option_and_then (climb super i) s ≡ Some a → option_and_then (climb super j) s ≡ Some b
          → ((x y z : ℕ) → climb super i x ≡ Some y → climb super j x ≡ Some z → (below y z ≡ true) ⊎ (below z y ≡ true))
          → (below a b ≡ true) ⊎ (below b a ≡ true)
      go None p q further = cc
      go (Some c) p q further = further c a b p q

  -- of two classes, and no interfaces, above one class or interface one is above the other
  pub below_chain : (t a b : ℕ) → below t a ≡ true → below t b ≡ true → interface a ≡ false → interface b ≡ false
      → (below a b ≡ true) ⊎ (below b a ≡ true)
  below_chain t a b e f i j = go (below_cases t a e) (below_cases t b f)
    where
      to_root_right : a ≡ 0 → (below a b ≡ true) ⊎ (below b a ≡ true)
      to_root_right z = inr (subst (λ (x : ℕ). below b x ≡ true) (sym z) (below_root b))

      to_root_left : b ≡ 0 → (below a b ≡ true) ⊎ (below b a ≡ true)
      to_root_left z = inl (subst (λ (x : ℕ). below a x ≡ true) (sym z) (below_root a))

      both : (a ≡ 0) ⊎ ((k : ℕ) × (climb super k t ≡ Some a)) → (b ≡ 0) ⊎ ((k : ℕ) × (climb super k t ≡ Some b))
          → (below a b ≡ true) ⊎ (below b a ≡ true)
      both (inl z) _ = to_root_right z
      both (inr r) (inl z) = to_root_left z
      both (inr r) (inr s) = along r.0 s.0 t a b r.1 s.1

      way_to : (x : ℕ) → interface x ≡ false → leads t x ≡ true → (x ≡ 0) ⊎ ((k : ℕ) × (climb super k t ≡ Some x))
      way_to x o l =
          let w = Walk-from_leads up n t x l in
          elim (by_supers t w.0 x w.1 w.2 o) [ inl z ↦ inl z | inr r ↦ inr (suc (length w.1), r) ]

      go : (a ≡ 0) ⊎ ((t ≡ a) ⊎ (leads t a ≡ true)) → (b ≡ 0) ⊎ ((t ≡ b) ⊎ (leads t b ≡ true)) → (below a b ≡ true) ⊎ (below b a ≡ true)
      go (inl z) _ = to_root_right z
      go (inr (inl s)) _ = inl (subst (λ (x : ℕ). below x b ≡ true) s f)
      go (inr (inr l)) (inl z) = to_root_left z
      go (inr (inr l)) (inr (inl s)) = inr (subst (λ (x : ℕ). below x a ≡ true) s e)
      go (inr (inr l)) (inr (inr m)) = both (way_to a i l) (way_to b j m)

  pub root_below : (a : ℕ) → below 0 a ≡ true → a ≡ 0
  root_below a e = go (below_cases 0 a e)
    where
      go : (a ≡ 0) ⊎ ((0 ≡ a) ⊎ (leads 0 a ≡ true)) → a ≡ 0
      go (inl z) = z
      go (inr (inl s)) = sym s
      go (inr (inr t)) = absurd (root_up a t)
