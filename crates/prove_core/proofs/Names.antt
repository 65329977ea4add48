-- The classes of a linked world have different names.
use Rattle.std.proofs.Common.{◌≡◌, ◌∙◌, ℕ, suc, zero, Bool, true, false, cond, eqb, List, [], ◌∷◌, map, Option, Some, None, slice_get, refl, sym, ap}
use Rattle.std.specs.Prelude.{◌&&◌, not}
use Rattle.std.specs.Option.{option_map_or}
use Rattle.std.proofs.lemmas.Bool.{false≢true, eqb-true, and_parts}
use Rattle.std.proofs.lemmas.Option.{none-some, same_Some}
use Rattle.class_read.specs.Content.{ClassContent}
use Rattle.class_world.specs.declared.fault.LinkFault.TheVariants.{DuplicateClass}
use Rattle.class_world.specs.lemmas.Linked.{linked_from}
use Rattle.class_world.specs.Linking.{is_array_interface, duplicate_class, is_linked}
use Rattle.class_world.specs.World.{World, class_of}
use Rattle.cert_form.specs.cert_write.Readable.{AreDistinct}

-- the class of a name that stands somewhere
named_at : (classes : List ClassContent) (n : ℕ) (name : List ℕ)
    → slice_get (map (λ (class : ClassContent). class.name) classes) n ≡ Some name
    → (class : ClassContent) × ((slice_get classes n ≡ Some class) × (class.name ≡ name))
named_at [] n name e = absurd (none-some name e)
named_at (class ∷ classes) zero name e = (class, (refl, same_Some class.name name e))
named_at (class ∷ classes) (suc n) name e = named_at classes n name e

first_is : (found : Option ℕ) (n : ℕ) → option_map_or (λ (first : ℕ). eqb first n) found false ≡ true → found ≡ Some n
first_is None n e = absurd (false≢true e)
first_is (Some first) n e = ap Some (eqb-true first n e)

-- a class is the first of its name
first_named : (world : World) (n : ℕ) (class : ClassContent) → duplicate_class world n class ≡ None → class_of world class.name ≡ Some n
unfolding duplicate_class
first_named world n class e = go (not (is_array_interface class.name)
    && option_map_or (λ (first : ℕ). eqb first n) (class_of world class.name) false) refl e
  where
    go : (b : Bool) → (not (is_array_interface class.name)
        && option_map_or (λ (first : ℕ). eqb first n) (class_of world class.name) false) ≡ b
        → cond b None (Some (DuplicateClass class.name)) ≡ None → class_of world class.name ≡ Some n
    go true f g = first_is (class_of world class.name) n (and_parts (not (is_array_interface class.name))
        (option_map_or (λ (first : ℕ). eqb first n) (class_of world class.name) false) f).1
    go false f g = absurd (none-some (DuplicateClass class.name) (sym g))

pub names_differ : (world : World) → is_linked world ≡ true → AreDistinct (map (λ (class : ClassContent). class.name) world)
names_differ world linked m n name e f =
    let is = linked_from world linked in
    let c = named_at world m name e in
    let d = named_at world n name f in
    let one = first_named world m c.0 (is.distinct m c.0 c.1.0) in
    let other = first_named world n d.0 (is.distinct n d.0 d.1.0) in
    same_Some m n (sym one ∙ ap (class_of world) (c.1.1 ∙ sym d.1.1) ∙ other)
