-- The list of reached methods as it grows, and that it ends as the definition says.
use Rattle.std.proofs.Common.{◌≡◌, ◌++◌, ℕ, zero, suc, ◌<◌, ◌≤◌, Bool, true, false, cond, List, [], ◌∷◌, length, sym, refl, ap, ◌∙◌}
use Rattle.std.proofs.Common.{subst, inl, inr, ◌⊎◌, arith, append_assoc, append-nil, length-append}
use Rattle.std.specs.Prelude.{flat_map}
use Rattle.std.proofs.lemmas.Grind.{flat_map-append}
use Rattle.std.proofs.lemmas.Bool.{cases_lt}
use Rattle.std.proofs.lemmas.List.{nil_from_length}
use Rattle.class_world.specs.declared.world.MethodRef.{MethodRef}
use Rattle.class_program.specs.Reached.{has_method, with_one, with_new}

-- ---- lists that begin with a list

abbrev pub Begins : List MethodRef → List MethodRef → Type 0
Begins front list = (rest : List MethodRef) × (list ≡ front ++ rest)

pub begins_refl : (xs : List MethodRef) → Begins xs xs
begins_refl xs = ([], sym (append-nil xs))

pub begins_trans : (xs ys zs : List MethodRef) → Begins xs ys → Begins ys zs → Begins xs zs
begins_trans xs ys zs a b = (a.0 ++ b.0, b.1 ∙ ap (λ l. l ++ b.0) a.1 ∙ append_assoc xs a.0 b.0)

pub begins_length : (xs ys : List MethodRef) → Begins xs ys → length xs ≤ length ys
begins_length xs ys b = let e = ap length b.1 ∙ length-append xs b.0 in omega (arith, e)

-- of two lists with which a list begins the longer one begins with the other
pub begins_both : (xs ys zs : List MethodRef) → Begins xs zs → Begins ys zs → length xs ≤ length ys → Begins xs ys
begins_both [] ys zs a b l = (ys, refl)
begins_both (x ∷ xs) [] zs a b l = absurd (omega (arith, l))
begins_both (x ∷ xs) (y ∷ ys) [] a b l = absurd (nil_cons a.1)
  where
    nil_cons : [] ≡ x ∷ (xs ++ a.0) → ⊥
    nil_cons e = cc
begins_both (x ∷ xs) (y ∷ ys) (z ∷ zs) a b l =
    let more = begins_both xs ys zs (a.0, tails z x zs (xs ++ a.0) a.1) (b.0, tails z y zs (ys ++ b.0) b.1) (omega (arith, l)) in
    (more.0, ap (λ h. h ∷ ys) (sym (heads z y zs (ys ++ b.0) b.1) ∙ heads z x zs (xs ++ a.0) a.1) ∙ ap (λ t. x ∷ t) more.1)
  where
    heads : (p q : MethodRef) (ps qs : List MethodRef) → p ∷ ps ≡ q ∷ qs → p ≡ q
    heads p q ps qs e = cc

    tails : (p q : MethodRef) (ps qs : List MethodRef) → p ∷ ps ≡ q ∷ qs → ps ≡ qs
    tails p q ps qs e = cc

pub begins_all : (xs ys : List MethodRef) → Begins xs ys → length ys ≤ length xs → xs ≡ ys
begins_all xs ys b l =
    let e = ap length b.1 ∙ length-append xs b.0 in
    let n : b.0 ≡ [] = nil_from_length b.0 (omega (arith, e, l)) in
    sym (b.1 ∙ ap (λ t. xs ++ t) n ∙ append-nil xs)

-- ---- lists with new methods put behind them

with_one_begins : (refs : List MethodRef) (x : MethodRef) → Begins refs (with_one refs x)
with_one_begins refs x = by (has_method refs x)
  where
    by : (b : Bool) → Begins refs (cond b refs (refs ++ x ∷ []))
    by true = begins_refl refs
    by false = (x ∷ [], refl)

pub with_new_begins : (refs more : List MethodRef) → Begins refs (with_new refs more)
with_new_begins refs [] = begins_refl refs
with_new_begins refs (x ∷ xs) = begins_trans refs (with_one refs x) (with_new (with_one refs x) xs) (with_one_begins refs x)
    (with_new_begins (with_one refs x) xs)

pub with_new_append : (refs xs ys : List MethodRef) → with_new refs (xs ++ ys) ≡ with_new (with_new refs xs) ys
with_new_append refs [] ys = refl
with_new_append refs (x ∷ xs) ys = with_new_append (with_one refs x) xs ys

-- ---- what an entry reaches

module _ (f : MethodRef → List MethodRef) (e : MethodRef) where
  -- the entry, and what the methods of a list reach
  abbrev pub made_by : List MethodRef → List MethodRef
  made_by refs = with_new (e ∷ []) (flat_map f refs)

  abbrev pub within : ℕ → List MethodRef
  within zero = e ∷ []
  within (suc n) = made_by (within n)

  made_more : (xs ys : List MethodRef) → made_by (xs ++ ys) ≡ with_new (made_by xs) (flat_map f ys)
  made_more xs ys = ap (with_new (e ∷ [])) (flat_map-append f xs ys) ∙ with_new_append (e ∷ []) (flat_map f xs) (flat_map f ys)

  made_begins : (xs ys : List MethodRef) → Begins xs ys → Begins (made_by xs) (made_by ys)
  made_begins xs ys b = let w = with_new_begins (made_by xs) (flat_map f b.0) in (w.0, ap made_by b.1 ∙ made_more xs b.0 ∙ w.1)

  -- The list as far as it is known, and those of its methods that have been gone through.
  pub record IsGrowing (gone refs : List MethodRef) : Type 0 where
    pub front : Begins gone refs
    pub made : refs ≡ made_by gone
    -- no shorter front makes all that is gone through
    pub carried : (p : List MethodRef) → Begins p gone → length p < length gone → length p < length (made_by p)

  pub grow_start : (refs : List MethodRef) → refs ≡ e ∷ [] → IsGrowing [] refs
  grow_start refs s = record {
    front = (refs, refl);
    made = s;
    carried = λ p b l. absurd (omega (arith, l));
  }

  pub grow_more : (gone refs more : List MethodRef) (x : MethodRef) → IsGrowing gone refs → Begins (gone ++ x ∷ []) refs
      → more ≡ with_new refs (f x) → IsGrowing (gone ++ x ∷ []) more
  grow_more gone refs more x g b m = record {
    front = begins_trans (gone ++ x ∷ []) refs more b (let w = with_new_begins refs (f x) in (w.0, m ∙ w.1));
    made = m ∙ ap (λ r. with_new r (f x)) g.made ∙ ap (with_new (made_by gone)) (sym (append-nil (f x))) ∙ sym (made_more gone (x ∷ []));
    carried = λ p q l.
        let n = length-append gone (x ∷ []) in
        let short : length p ≤ length gone = omega (arith, l, n) in
        let inside : Begins p gone = begins_both p gone (gone ++ x ∷ []) q (x ∷ [], refl) short in
        elim (cases_lt (length p) (length gone)) [
          | inl s ↦ g.carried p inside s
          | inr s ↦
              let same : p ≡ gone = begins_all p gone inside s in
              let long = begins_length (gone ++ x ∷ []) refs b in
              let all : length refs ≡ length (made_by p) = ap length (g.made ∙ ap made_by (sym same)) in
              omega (arith, long, all, short, n)
        ];
  }

  -- where something is left to go through, the definition's list begins with what is gone through and that
  pub within_begins : (gone refs : List MethodRef) (x : MethodRef) → IsGrowing gone refs → Begins (gone ++ x ∷ []) refs → (n : ℕ)
      → Begins (gone ++ x ∷ []) (within n) ⊎ ((p : List MethodRef) × Begins p gone × (n < length p) × Begins p (within n))
  within_begins gone refs x g b zero = elim (cases_lt 0 (length gone)) [
    | inl s ↦
        let w = with_new_begins (e ∷ []) (flat_map f gone) in
        inr (e ∷ [], begins_both (e ∷ []) gone refs (w.0, g.made ∙ w.1) g.front (omega (arith, s)), omega arith, begins_refl (e ∷ []))
    | inr s ↦
        let none : gone ≡ [] = nil_from_length gone (omega (arith, s)) in
        let all : refs ≡ e ∷ [] = g.made ∙ ap made_by none in
        inl (subst (λ r. Begins (gone ++ x ∷ []) r) all b)
  ]
  within_begins gone refs x g b (suc n) = elim (within_begins gone refs x g b n) [
    | inl h ↦ inl (whole (begins_trans gone (gone ++ x ∷ []) (within n) (x ∷ [], refl) h))
    | inr h ↦ further h.0 h.1 h.2 h.3
  ]
    where
      whole : Begins gone (within n) → Begins (gone ++ x ∷ []) (within (suc n))
      whole h = begins_trans (gone ++ x ∷ []) (made_by gone) (within (suc n)) (subst (λ r. Begins (gone ++ x ∷ []) r) g.made b)
          (made_begins gone (within n) h)

      further : (p : List MethodRef) → Begins p gone → n < length p → Begins p (within n) → Begins (gone ++ x ∷ []) (within (suc n))
          ⊎ ((q : List MethodRef) × Begins q gone × (suc n < length q) × Begins q (within (suc n)))
      further p q l h = elim (cases_lt (length p) (length gone)) [
        | inl s ↦
            let grown = g.carried p q s in
            let here : Begins (made_by p) refs = subst (λ r. Begins (made_by p) r) (sym g.made) (made_begins p gone q) in
            let there : Begins (made_by p) (within (suc n)) = made_begins p (within n) h in
            elim (cases_lt (length gone) (length (made_by p))) [
              | inl t ↦
                  let k = length-append gone (x ∷ []) in
                  inl (begins_trans (gone ++ x ∷ []) (made_by p) (within (suc n))
                  (begins_both (gone ++ x ∷ []) (made_by p) refs b here (omega (arith, t, k))) there)
              | inr t ↦ inr (made_by p, begins_both (made_by p) gone refs here g.front t, omega (arith, grown, l), there)
            ]
        | inr s ↦ inl (whole (subst (λ r. Begins r (within n)) (begins_all p gone q s) h))
      ]

  pub begins_in_time : (gone refs : List MethodRef) (x : MethodRef) (n : ℕ) → IsGrowing gone refs → Begins (gone ++ x ∷ []) refs
      → length refs ≤ n → Begins (gone ++ x ∷ []) (within n)
  begins_in_time gone refs x n g b l = elim (within_begins gone refs x g b n) [
    | inl h ↦ h
    | inr h ↦
        let a = begins_length h.0 gone h.1 in
        let c = begins_length gone refs g.front in
        absurd (omega (arith, a, c, l, h.2))
  ]

  -- where all is gone through, the definition's list is the whole
  pub within_ends : (refs : List MethodRef) → IsGrowing refs refs → (n : ℕ)
      → (within n ≡ refs) ⊎ ((p : List MethodRef) × Begins p refs × (n < length p) × (within n ≡ p))
  within_ends refs g zero = let w = with_new_begins (e ∷ []) (flat_map f refs) in inr (e ∷ [], (w.0, g.made ∙ w.1), omega arith, refl)
  within_ends refs g (suc n) = elim (within_ends refs g n) [
    | inl h ↦ inl (ap made_by h ∙ sym g.made)
    | inr h ↦ elim (cases_lt (length h.0) (length refs)) [
      | inl s ↦
          let grown = g.carried h.0 h.1 s in
          inr (
            made_by h.0,
            subst (λ r. Begins (made_by h.0) r) (sym g.made) (made_begins h.0 refs h.1),
            omega (arith, grown, h.2),
            ap made_by h.3,
          )
      | inr s ↦ inl (ap made_by (h.3 ∙ begins_all h.0 refs h.1 s) ∙ sym g.made)
    ]
  ]

  pub ends_in_time : (refs : List MethodRef) (n : ℕ) → IsGrowing refs refs → length refs ≤ n → within n ≡ refs
  ends_in_time refs n g l = elim (within_ends refs g n) [
    | inl h ↦ h
    | inr h ↦ let a = begins_length h.0 refs h.1 in absurd (omega (arith, a, l, h.2))
  ]
