-- The test of subtypes answers the least relation.
use Rattle.std.proofs.Common.{◌≡◌, ℕ, zero, suc, ◌+◌, ◌<◌, ◌≤◌, true, false, List, [], ◌∷◌, length, sym, refl, subst, inl, inr, ◌⊎◌}
use Rattle.std.proofs.Common.{arith, add-one}
use Rattle.std.proofs.lemmas.Bool.{false≢true}
use Rattle.jvm_values.specs.declared.types.Ty.{Ty}
use Rattle.jvm_values.specs.declared.types.Kind.{Kind}
use Rattle.jvm_values.specs.declared.types.Base.{Base}
use Rattle.jvm_values.specs.declared.types.Base.TheVariants.{Class, Num}
use Rattle.jvm_values.specs.Subtyping.{class_type, IsReference, IsReferenceBase, SubtypeLaws}
use Rattle.jvm_values.proofs.Joining.{same_type}
use Rattle.class_world.specs.World.{World, supers_of, is_above, is_interface_class, leads_up}
use Rattle.class_world.specs.Types.{Sub, Extends, is_base_below, is_sub, is_class_below, erase_by}
use Rattle.class_world.specs.Types.Sub.{same, follows, up, items, top}
use Rattle.class_world.specs.Linking.{is_linked}
use Rattle.class_world.specs.lemmas.Walks.{Walk, Walk-from_leads, leads-from_any_Walk, IsIn-from_any, any-from_IsIn}
use Rattle.class_world.specs.lemmas.Classes.{below_up, below_cases}
use Rattle.class_world.specs.lemmas.Subtypes.{laws_of, stands_from, stands_to, same_kind}
use Rattle.class_world.specs.lemmas.Linked.{hierarchy, linked_from, class_order}

module _ (world : World) (linked : is_linked world ≡ true) where
  abbrev n : ℕ
  n = length world

  laws : SubtypeLaws (is_sub world) (erase_by (is_interface_class world)) n (λ class. []) (λ class. false)
  laws = laws_of n (is_class_below world) (is_interface_class world) (class_order world linked) (λ class. [])
      (λ class h k x l. absurd (omega (arith, l))) (λ class. false) (λ class l m. absurd (false≢true m))

  step_above : (a b : ℕ) → Extends world a b → is_class_below world a b ≡ true
  unfolding is_class_below is_above
  step_above a b e =
      let h = hierarchy world (linked_from world linked) in
      below_up n _ _ _ h a b (leads-from_any_Walk (supers_of world) n h.closed a b b [] (IsIn-from_any b (supers_of world a) e, refl))

  extends_within : (a b : ℕ) → Extends world a b → b < n
  extends_within a b e = (hierarchy world (linked_from world linked)).closed a b (IsIn-from_any b (supers_of world a) e)

  pub test_finds : (a b : Ty) → Sub world a b → is_sub world a b ≡ true
  test_finds a b (same t r) = laws.reflexive t r
  test_finds a b (follows x y z p q) = laws.transitive x y z (test_finds x y p) (test_finds y z q)
  test_finds a b (up x y l e) = stands_to n _ _ (class_order world linked) (class_type x) (class_type y)
      ((omega arith, l), (omega arith, extends_within x y e), inl (refl, step_above x y e))
  test_finds a b (items x y r q p) = laws.below_array x y r q (test_finds x y p)
  test_finds a b (top t r) = laws.object_on_top t r

  -- a way up is a chain of direct steps
  by_steps : (a b : ℕ) (p : List ℕ) → a < n → Walk (supers_of world) a p b → Sub world (class_type a) (class_type b)
  by_steps a b [] l w = subst (λ (x : ℕ). Sub world (class_type a) (class_type x)) w (same (class_type a) (omega arith, l))
  by_steps a b (c ∷ p) l w =
      let e = any-from_IsIn c (supers_of world a) w.0 in
      follows (class_type a) (class_type c) (class_type b) (up a c l e) (by_steps c b p (extends_within a c e) w.1)

  by_class : (a b : ℕ) → a < n → b < n → is_class_below world a b ≡ true → Sub world (class_type a) (class_type b)
  unfolding is_class_below is_above
  by_class a b l m e =
      let h = hierarchy world (linked_from world linked) in
      go (below_cases n _ _ _ h a b e)
    where
      go : (b ≡ 0) ⊎ ((a ≡ b) ⊎ (leads_up (supers_of world) n a b ≡ true)) → Sub world (class_type a) (class_type b)
      go (inl z) = subst (λ (x : ℕ). Sub world (class_type a) (class_type x)) (sym z) (top (class_type a) (omega arith, l))
      go (inr (inl s)) = by_steps a b [] l s
      go (inr (inr t)) = let w = Walk-from_leads (supers_of world) n a b t in by_steps a b (w.0 ∷ w.1) l w.2

  abbrev at_depth : ℕ → Base → Ty
  at_depth d x = record { dims = d; base = x }

  -- under equally many dimensions
  by_items : (d a b : ℕ) → d ≤ 255 → a < n → b < n → is_class_below world a b ≡ true
      → Sub world (at_depth d (Class a)) (at_depth d (Class b))
  by_items zero a b r l m e = by_class a b l m e
  by_items (suc d) a b r l m e =
      subst (λ (k : ℕ). Sub world (at_depth k (Class a)) (at_depth k (Class b))) (add-one d)
      (items (at_depth d (Class a)) (at_depth d (Class b)) (omega (arith, r), l) (omega (arith, r), m)
      (by_items d a b (omega (arith, r)) l m e))

  lower_base : (d e : ℕ) (x : Base) → e < d → IsReferenceBase n (suc d) x → IsReferenceBase n d x
  lower_base d e (Class c) l r = r
  lower_base d e (Num k) l r = omega (arith, l)

  -- an array of more dimensions
  by_depth : (e d : ℕ) (x : Base) → 0 < n → e < d → d ≤ 255 → IsReferenceBase n d x → Sub world (at_depth d x) (at_depth e (Class 0))
  by_depth zero d x s l r q = top (at_depth d x) (r, q)
  by_depth (suc e) zero x s l r q = absurd (omega (arith, l))
  by_depth (suc e) (suc d) x s l r q =
      subst (λ (k : ℕ). Sub world (at_depth k x) (at_depth (suc e) (Class 0))) (add-one d)
      (subst (λ (k : ℕ). Sub world (at_depth (d + 1) x) (at_depth k (Class 0))) (add-one e)
      (items (at_depth d x) (at_depth e (Class 0)) (omega (arith, r), subst (λ (k : ℕ). IsReferenceBase n k x) (sym (add-one d)) q)
      (omega (arith, l, r), s)
      (by_depth e d x s (omega (arith, l)) (omega (arith, r)) (lower_base d e x (omega (arith, l)) q))))

  pub test_right : (a b : Ty) → is_sub world a b ≡ true → Sub world a b
  test_right a b e =
      let o = class_order world linked in
      let s = stands_from n _ _ o a b e in
      go o.some s.0 s.1 s.2
    where
      alike : (d : ℕ) (x y : Base) → IsReference n (at_depth d x) → IsReference n (at_depth d y)
          → is_base_below (is_class_below world) x y ≡ true → Sub world (at_depth d x) (at_depth d y)
      alike d (Class c) (Class f) r q t = by_items d c f r.0 r.1 q.1 t
      alike d (Class c) (Num k) r q t = absurd (false≢true t)
      alike d (Num j) (Class f) r q t = absurd (false≢true t)
      alike d (Num j) (Num k) r q t = subst (λ (i : Kind). Sub world (at_depth d (Num j)) (at_depth d (Num i))) (same_kind j k t)
          (same (at_depth d (Num j)) r)

      go : 0 < n → IsReference n a → IsReference n b
          → ((a.dims ≡ b.dims) × (is_base_below (is_class_below world) a.base b.base ≡ true))
          ⊎ ((b.dims < a.dims) × (b.base ≡ Class 0)) → Sub world a b
      go s r q (inl p) =
          subst (λ (t : Ty). Sub world a t) (same_type (at_depth a.dims b.base) b p.0 refl)
          (alike a.dims a.base b.base r (q_at r.0 q.1 p.0) p.1)
        where
          q_at : a.dims ≤ 255 → IsReferenceBase n b.dims b.base → a.dims ≡ b.dims → IsReference n (at_depth a.dims b.base)
          q_at x y z = (x, subst (λ (k : ℕ). IsReferenceBase n k b.base) (sym z) y)
      go s r q (inr p) = subst (λ (t : Ty). Sub world a t) (same_type (at_depth b.dims (Class 0)) b refl (sym p.1))
          (by_depth b.dims a.dims a.base s p.0 r.0 r.1)

pub least : (world : World) → is_linked world ≡ true → (a b : Ty) → (is_sub world a b ≡ true → Sub world a b)
    × (Sub world a b → is_sub world a b ≡ true)
least world linked a b = (test_right world linked a b, test_finds world linked a b)
