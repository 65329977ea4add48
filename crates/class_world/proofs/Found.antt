-- What look-up finds: it stands at or above the class in which it is sought, and has the name that is sought.
use Rattle.std.proofs.Common.{◌≡◌, ℕ, zero, suc, ◌<◌, true, false, List, [], ◌∷◌, ◌++◌, length, get_or, Option, Some, None, sym}
use Rattle.std.proofs.Common.{refl, ap, ◌∙◌, subst, inl, inr, ◌⊎◌}
use Rattle.std.specs.Prelude.{option_and_then, slice_get, position}
use Rattle.std.specs.List.{flat_map}
use Rattle.std.specs.Option.{option_map, option_map_or, option_or}
use Rattle.std.specs.Str.{bytes_eq}
use Rattle.std.proofs.lemmas.Bool.{and_parts}
use Rattle.std.proofs.lemmas.List.Quantifiers.{position-Some}
use Rattle.std.proofs.lemmas.Option.{slice_get-get_or}
use Rattle.std.proofs.lemmas.Slice.Eq.{bytes_eq-Decides}
use Rattle.jvm_values.specs.declared.types.Slot.{Slot}
use Rattle.class_read.specs.Content.{ClassContent, MethodContent}
use Rattle.class_world.specs.declared.world.MethodRef.{MethodRef}
use Rattle.class_world.specs.World.{World, built_in_init, super_of, interfaces_of, supers_of, is_interface_class, is_above}
use Rattle.class_world.specs.World.{line_from, line_of}
use Rattle.class_world.specs.Types.{is_class_below}
use Rattle.class_world.specs.Fields.{fields_of}
use Rattle.class_world.specs.Members.{is_method_named, declared_method}
use Rattle.class_world.specs.Resolve.{first_found, found_field, resolve_field, field_place, with_interfaces, superinterfaces_of}
use Rattle.class_world.specs.Resolve.{method_ref, resolve_method, method_at}
use Rattle.class_world.specs.Select.{selectable_method, select}
use Rattle.class_world.specs.Linking.{is_linked}
use Rattle.class_world.specs.lemmas.Walks.{IsIn, leads-from_any_Walk}
use Rattle.class_world.specs.lemmas.Classes.{IsHierarchy, climb, climbed, below_same, below_up, below_trans}
use Rattle.class_world.specs.lemmas.Linked.{hierarchy, linked_from}
use Rattle.class_world.proofs.Seeking.{interface_over}
use Rattle.class_world.proofs.Prefixes.{fields_in_order}

pub found_in : (place : ℕ → Option ℕ) (xs : List ℕ) (c i : ℕ) → first_found place xs ≡ Some (c, i) → IsIn c xs × (place c ≡ Some i)
found_in place [] c i e = cc
found_in place (x ∷ xs) c i e = go (place x) refl e (found_in place xs c i)
  where
    go : (o : Option ℕ) → place x ≡ o → option_or (option_map (λ k. (x, k)) o) (first_found place xs) ≡ Some (c, i)
        → (first_found place xs ≡ Some (c, i) → IsIn c xs × (place c ≡ Some i)) → IsIn c (x ∷ xs) × (place c ≡ Some i)
    go None p f further = let r = further f in (inr r.0, r.1)
    go (Some k) p f further =
        let here : Some (x, k) ≡ Some (c, i) = f in
        let class : x ≡ c = ap (λ o. option_map_or (λ y. y.0) o x) here in
        let index : k ≡ i = ap (λ o. option_map_or (λ y. y.1) o k) here in
        (inl (sym class), subst (λ (z : ℕ). place z ≡ Some i) class (p ∙ ap Some index))

on_line : (super : ℕ → Option ℕ) (k a x : ℕ) → IsIn x (line_from super k a) → (j : ℕ) × (climb super j a ≡ Some x)
on_line super zero a x h = absurd h
on_line super (suc k) a x (inl same) = (0, ap Some (sym same))
on_line super (suc k) a x (inr there) = go (super a) refl there (on_line super k)
  where
    go : (o : Option ℕ) → super a ≡ o → IsIn x (option_map_or (line_from super k) o [])
        → ((b y : ℕ) → IsIn y (line_from super k b) → (j : ℕ) × (climb super j b ≡ Some y)) → (j : ℕ) × (climb super j a ≡ Some x)
    go None q t further = absurd t
    go (Some s) q t further = let r = further s x t in (suc r.0, ap (option_and_then (climb super r.0)) q ∙ r.1)

In_append : (x : ℕ) (xs ys : List ℕ) → IsIn x (xs ++ ys) → IsIn x xs ⊎ IsIn x ys
In_append x [] ys h = inr h
In_append x (z ∷ zs) ys (inl same) = inl (inl same)
In_append x (z ∷ zs) ys (inr there) = elim (In_append x zs ys there) [ inl a ↦ inl (inr a) | inr b ↦ inr b ]

In_flat : (f : ℕ → List ℕ) (y : ℕ) (xs : List ℕ) → IsIn y (flat_map f xs) → (x : ℕ) × IsIn x xs × IsIn y (f x)
In_flat f y [] h = absurd h
In_flat f y (x ∷ xs) h = elim (In_append y (f x) (flat_map f xs) h) [
  | inl a ↦ (x, inl refl, a)
  | inr b ↦ let r = In_flat f y xs b in (r.0, inr r.1, r.2)
]

module _ (world : World) (linked : is_linked world ≡ true) where
  abbrev h : IsHierarchy (length world) (super_of world) (supers_of world) (is_interface_class world)
  h = hierarchy world (linked_from world linked)

  abbrev Below : ℕ → ℕ → Type 0
  Below a b = is_class_below world a b ≡ true

  pub itself : (a b : ℕ) → a ≡ b → is_class_below world a b ≡ true
  unfolding is_class_below is_above
  itself a b e = subst (λ (x : ℕ). is_class_below world a x ≡ true) e
      (below_same (length world) (super_of world) (supers_of world) (is_interface_class world) h a)

  pub further_below : (a b c : ℕ) → is_class_below world a b ≡ true → is_class_below world b c ≡ true → is_class_below world a c ≡ true
  unfolding is_class_below is_above
  further_below a b c e f = below_trans (length world) (super_of world) (supers_of world) (is_interface_class world) h a b c e f

  -- a class is below those along its superclass chain
  pub line_below : (a x : ℕ) → IsIn x (line_of world a) → is_class_below world a x ≡ true
  unfolding line_of is_class_below is_above
  line_below a x i =
      let r = on_line (super_of world) (length world) a x i in
      elim (climbed (length world) (super_of world) (supers_of world) (is_interface_class world) h r.0 a x r.1) [
        | inl same ↦ itself a x same
        | inr up ↦ below_up (length world) (super_of world) (supers_of world) (is_interface_class world) h a x up
      ]

  pub super_below : (a b : ℕ) → super_of world a ≡ Some b → is_class_below world a b ≡ true
  unfolding is_class_below is_above
  super_below a b e =
      below_up (length world) (super_of world) (supers_of world) (is_interface_class world) h a b
      (leads-from_any_Walk (supers_of world) (length world) h.closed a b b [] (h.super_in a b e, refl))

  pub direct_below : (a x : ℕ) → IsIn x (interfaces_of world a) → is_class_below world a x ≡ true
  unfolding is_class_below is_above
  direct_below a x i = below_up (length world) (super_of world) (supers_of world) (is_interface_class world) h a x
      (leads-from_any_Walk (supers_of world) (length world) h.closed a x x [] (interface_over world a x i, refl))

  tree_below : (k a x : ℕ) → IsIn x (with_interfaces (interfaces_of world) k a) → is_class_below world a x ≡ true
  tree_below zero a x i = absurd i
  tree_below (suc k) a x (inl same) = itself a x (sym same)
  tree_below (suc k) a x (inr there) =
      let r = In_flat (with_interfaces (interfaces_of world) k) x (interfaces_of world a) there in
      further_below a r.0 x (direct_below a r.0 r.1) (tree_below k r.0 x r.2)

  -- a class is below its superinterfaces
  pub interfaces_below : (a x : ℕ) → IsIn x (superinterfaces_of world a) → is_class_below world a x ≡ true
  unfolding superinterfaces_of
  interfaces_below a x i =
      let r = In_flat (with_interfaces (interfaces_of world) (length world)) x (flat_map (interfaces_of world) (line_of world a)) i in
      let s = In_flat (interfaces_of world) r.0 (line_of world a) r.1 in
      further_below a s.0 x (line_below a s.0 s.1)
      (further_below s.0 r.0 x (direct_below s.0 r.0 s.2) (tree_below (length world) r.0 x r.2))

  -- a field that is found in a class is part of the objects of each class below the named one, at its place
  pub field_below : (class c i place : ℕ) (name desc : List ℕ) (slot : Slot) → resolve_field world class name desc ≡ Some (c, i)
      → is_interface_class world c ≡ false → field_place world c i ≡ Some (place, slot)
      → (a : ℕ) → a < length world → is_class_below world a class ≡ true → slice_get (fields_of world a) place ≡ Some slot
  unfolding resolve_field
  field_below class c i place name desc slot e o f a l b =
      let on = (found_in (λ k. found_field world k name desc) (line_of world class) c i e).0 in
      (fields_in_order world linked).place a c i place slot l (further_below a class c b (line_below class c on)) o f

  ref_class : (c i : ℕ) (ref : MethodRef) → Some (method_ref (c, i)) ≡ Some ref → c ≡ ref.class
  ref_class c i ref e = ap (λ o. option_map_or (λ (r : MethodRef). r.class) o c) e

  -- a method that is found stands at or above the named class
  pub method_below : (class : ℕ) (name desc : List ℕ) (ref : MethodRef) → resolve_method world class name desc ≡ Some ref
      → is_class_below world class ref.class ≡ true
  unfolding resolve_method
  method_below class name desc ref e = go
      (first_found (λ c. declared_method world c name desc) (line_of world class ++ superinterfaces_of world class)) refl e
    where
      go : (o : Option (ℕ × ℕ))
          → first_found (λ c. declared_method world c name desc) (line_of world class ++ superinterfaces_of world class) ≡ o
          → option_map method_ref o ≡ Some ref → is_class_below world class ref.class ≡ true
      go None p f = cc
      go (Some r) p f =
          let on = (found_in (λ c. declared_method world c name desc) (line_of world class ++ superinterfaces_of world class) r.0
          r.1 p).0 in
          let below : is_class_below world class r.0 ≡ true = elim
          (In_append r.0 (line_of world class) (superinterfaces_of world class) on) [
            | inl a ↦ line_below class r.0 a
            | inr b ↦ interfaces_below class r.0 b
          ] in
          subst (λ (x : ℕ). is_class_below world class x ≡ true) (ref_class r.0 r.1 ref f) below

  -- what a class selects stands at or above it, along its superclass chain
  pub selected_below : (receiver : ℕ) (name desc : List ℕ) (ref : MethodRef) → select world name desc receiver ≡ Some ref
      → IsIn ref.class (line_of world receiver) × (is_class_below world receiver ref.class ≡ true)
  unfolding select
  selected_below receiver name desc ref e = go (first_found (λ c. selectable_method world c name desc) (line_of world receiver)) refl e
    where
      go : (o : Option (ℕ × ℕ)) → first_found (λ c. selectable_method world c name desc) (line_of world receiver) ≡ o
          → option_map method_ref o ≡ Some ref → IsIn ref.class (line_of world receiver) × (is_class_below world receiver ref.class ≡ true)
      go None p f = cc
      go (Some r) p f =
          let on = (found_in (λ c. selectable_method world c name desc) (line_of world receiver) r.0 r.1 p).0 in
          let at = subst (λ (x : ℕ). IsIn x (line_of world receiver)) (ref_class r.0 r.1 ref f) on in
          (at, line_below receiver ref.class at)

-- a declared method is there, and has the name and the descriptor that were sought
pub declared_named : (world : World) (class : ℕ) (name desc : List ℕ) (i : ℕ) → declared_method world class name desc ≡ Some i
    → (m : MethodContent) × (method_at world (method_ref (class, i)) ≡ Some m) × (m.name ≡ name) × (m.desc ≡ desc)
unfolding declared_method method_at
declared_named world class name desc i e = go (slice_get world class) refl e
  where
    go : (o : Option ClassContent) → slice_get world class ≡ o
        → option_and_then (λ c. position (is_method_named name desc) c.methods) o ≡ Some i
        → (m : MethodContent) × (option_and_then (λ c. slice_get c.methods i) (slice_get world class) ≡ Some m) × (m.name ≡ name)
        × (m.desc ≡ desc)
    go None p f = cc
    go (Some c) p f =
        let at = position-Some (is_method_named name desc) c.methods i built_in_init f in
        let m = get_or c.methods i built_in_init in
        let both = and_parts (bytes_eq name m.name) (bytes_eq desc m.desc) at.1 in (
          m,
          ap (option_and_then (λ c. slice_get c.methods i)) p ∙ slice_get-get_or c.methods i built_in_init at.0,
          sym
              ((bytes_eq-Decides name m.name).0 both.0),
          sym ((bytes_eq-Decides desc m.desc).0 both.1),
        )
