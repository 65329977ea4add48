-- Below classes other than Object are no interfaces.
use Rattle.std.proofs.Common.{◌≡◌, ◌≢◌, ℕ, ◌<◌, Bool, true, false, cond, length, refl, ap, inl, inr, ◌⊎◌, arith}
use Rattle.std.proofs.lemmas.Bool.{false≢true}
use Rattle.jvm_values.specs.declared.types.Ty.{Ty}
use Rattle.jvm_values.specs.declared.types.Base.{Base}
use Rattle.jvm_values.specs.declared.types.Base.TheVariants.{Class, Num}
use Rattle.jvm_values.specs.Subtyping.{class_type, IsErased}
use Rattle.jvm_values.proofs.Joining.{same_type}
use Rattle.class_world.specs.World.{World, super_of, supers_of, is_interface_class, is_above}
use Rattle.class_world.specs.Types.{is_class_below, is_base_below, is_sub, erase, erase_by, erased_base}
use Rattle.class_world.specs.lemmas.Classes.{below_class}
use Rattle.class_world.specs.lemmas.Subtypes.{stands_from}
use Rattle.class_world.specs.lemmas.Linked.{linked_from, hierarchy, class_order}
use Rattle.class_world.specs.lemmas.WorldLaws.{made_no_interface}
use Rattle.class_world.specs.BuiltIns.{throwable, IsWorld, HasNoInterfacesBelow}
use Rattle.class_world.proofs.BuiltInLaws.{built_ins_known}

module _ (world : World) (known : IsWorld world) where
  below_no_interface : (class above : ℕ) → is_class_below world class above ≡ true → above ≢ 0
      → is_interface_class world above ≡ false → is_interface_class world class ≡ false
  unfolding is_class_below is_above
  below_no_interface class above = below_class (length world) (super_of world) (supers_of world) (is_interface_class world)
      (hierarchy world (linked_from world known.linked)) class above

  throwable_apart : throwable ≢ 0
  throwable_apart e = omega (arith, e)

  below_throwable : (class : ℕ) → is_class_below world class throwable ≡ true → is_interface_class world class ≡ false
  below_throwable class e = below_no_interface class throwable e throwable_apart
      (made_no_interface world throwable ((built_ins_known world known).made throwable (omega arith)))

  base_erased : (x : Base) → is_base_below (is_class_below world) x (Class throwable) ≡ true → erased_base (is_interface_class world) x ≡ x
  base_erased (Class c) e = ap (λ (b : Bool). cond b (Class 0) (Class c)) (below_throwable c e)
  base_erased (Num kind) e = absurd (false≢true e)

  type_erased : (t : Ty) → is_sub world t (class_type throwable) ≡ true → IsErased (erase world) t
  unfolding erase_by
  type_erased t e = go (stands_from (length world) (is_class_below world) (is_interface_class world)
      (class_order world known.linked) t (class_type throwable) e).2
    where
      go : ((t.dims ≡ 0) × (is_base_below (is_class_below world) t.base (Class throwable) ≡ true))
          ⊎ ((0 < t.dims) × (Class throwable ≡ Class 0)) → IsErased (erase world) t
      go (inl p) = same_type (erase world t) t refl (base_erased t.base p.1)
      go (inr p) = absurd (throwable_apart (let same : throwable ≡ 0 = cc in same))

pub no_interfaces_below : (world : World) → IsWorld world → HasNoInterfacesBelow world
no_interfaces_below world known = record {
  no_interface = below_no_interface world known;
  throwable_class = below_throwable world known;
  throwable_type = type_erased world known;
}
