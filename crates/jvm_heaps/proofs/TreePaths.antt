-- Paths by their last steps: where each place is entered by at most one step, and the start by none, one path leads to
-- each place.
use Rattle.std.proofs.Common.{◌≡◌, ℕ, zero, suc, ◌<◌, ◌≤◌, List, [], ◌∷◌, ◌++◌, length, Some, ◌⊎◌, inl, inr, refl, sym, ap, ◌∙◌}
use Rattle.std.proofs.Common.{arith, length-append}
use Rattle.list_views.proofs.Options.{then_some}
use Rattle.jvm_values.specs.Paths.{Steps, follow, Reaches, IsTreeFrom}
use Rattle.jvm_values.proofs.PathLaws.{follow-append}

pub nil_is_not_last : (p : List ℕ) (i : ℕ) → [] ≡ p ++ i ∷ [] → ⊥
nil_is_not_last [] i e = cc
nil_is_not_last (k ∷ p) i e = cc

same_head : (x y : ℕ) (xs ys : List ℕ) → x ∷ xs ≡ y ∷ ys → x ≡ y
same_head x y xs ys e = cc

same_tail : (x y : ℕ) (xs ys : List ℕ) → x ∷ xs ≡ y ∷ ys → xs ≡ ys
same_tail x y xs ys e = cc

record HasLast (p : List ℕ) : Type 0 where
  pub front : List ℕ
  pub last : ℕ
  pub is : p ≡ front ++ last ∷ []

last_of : (p : List ℕ) → (p ≡ []) ⊎ HasLast p
last_of [] = inl refl
last_of (x ∷ p) = elim (last_of p) [
  | inl e ↦ inr (record { front = []; last = x; is = ap (λ (q : List ℕ). x ∷ q) e })
  | inr h ↦ inr (record { front = x ∷ h.front; last = h.last; is = ap (λ (q : List ℕ). x ∷ q) h.is })
]

record LastStep (steps : Steps) (p : List ℕ) (a i b : ℕ) : Type 0 where
  pub place : ℕ
  pub reached : follow steps p a ≡ Some place
  pub leads : steps place i ≡ Some b

last_step : (steps : Steps) (p : List ℕ) (a i b : ℕ) → follow steps (p ++ i ∷ []) a ≡ Some b → LastStep steps p a i b
last_step steps p a i b e =
    let g = then_some (follow steps (i ∷ [])) (follow steps p a) b (sym (follow-append steps p (i ∷ []) a) ∙ e) in
    let h = then_some (follow steps []) (steps g.0 i) b g.1.1 in
    record { place = g.0; reached = g.1.0; leads = h.1.0 ∙ h.1.1 }

module _ (steps : Steps) (a : ℕ) (one : (c d i j b : ℕ) → Reaches steps a c → Reaches steps a d → steps c i ≡ Some b
    → steps d j ≡ Some b → (c ≡ d) × (i ≡ j)) (none : (c i : ℕ) → Reaches steps a c → steps c i ≡ Some a → ⊥) where
  no_way_back : (p : List ℕ) → HasLast p → follow steps p a ≡ Some a → ⊥
  no_way_back p h e =
      let s = last_step steps h.front a h.last a (ap (λ (q : List ℕ). follow steps q a) (sym h.is) ∙ e) in
      none s.place h.last (record { path = h.front; leads = s.reached }) s.leads

  same_by : (n : ℕ) (shorter : (p q : List ℕ) (b : ℕ) → length p < n → follow steps p a ≡ Some b → follow steps q a ≡ Some b
      → p ≡ q) (p q : List ℕ) (b : ℕ) → length p ≤ n → follow steps p a ≡ Some b → follow steps q a ≡ Some b → p ≡ q
  same_by n shorter p q b l e f = elim (last_of p) [
    | inl g ↦ elim (last_of q) [
      | inl h ↦ g ∙ sym h
      | inr h ↦ absurd (no_way_back q h (f ∙ sym e ∙ ap (λ (r : List ℕ). follow steps r a) g))
    ]
    | inr g ↦ elim (last_of q) [
      | inl h ↦ absurd (no_way_back p g (e ∙ sym f ∙ ap (λ (r : List ℕ). follow steps r a) h))
      | inr h ↦
          let s = last_step steps g.front a g.last b (ap (λ (r : List ℕ). follow steps r a) (sym g.is) ∙ e) in
          let t = last_step steps h.front a h.last b (ap (λ (r : List ℕ). follow steps r a) (sym h.is) ∙ f) in
          let u = one s.place t.place g.last h.last b (record { path = g.front; leads = s.reached })
          (record { path = h.front; leads = t.reached }) s.leads t.leads in
          let fronts : g.front ≡ h.front = shorter g.front h.front s.place
          (omega (arith, l, ap length g.is, length-append g.front (g.last ∷ []))) s.reached (t.reached ∙ ap Some (sym u.0)) in
          g.is ∙ ap (λ (r : List ℕ). r ++ g.last ∷ []) fronts ∙ ap (λ (i : ℕ). h.front ++ i ∷ []) u.1 ∙ sym h.is
    ]
  ]

  same_path : (n : ℕ) (p q : List ℕ) (b : ℕ) → length p ≤ n → follow steps p a ≡ Some b → follow steps q a ≡ Some b → p ≡ q
  same_path zero p q b l e f = same_by zero (λ r s c k. absurd (omega (arith, k))) p q b l e f
  same_path (suc n) p q b l e f = same_by (suc n) (λ r s c k. same_path n r s c (omega (arith, k))) p q b l e f

  pub tree_from : IsTreeFrom steps a
  tree_from p q b e f = same_path (length p) p q b (omega arith) e f
