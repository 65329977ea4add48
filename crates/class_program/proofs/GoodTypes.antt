-- The types that instructions and descriptors name are of the world.
use Rattle.std.proofs.Common.{◌≡◌, ℕ, zero, suc, ◌≤◌, ◌<◌, Bool, true, false, cond, eqb, List, [], ◌∷◌, length, Option, Some, None}
use Rattle.std.proofs.Common.{Ok, Err, sym, refl, ap, subst, arith, ◌∙◌}
use Rattle.std.specs.Prelude.{option_and_then, IfSome}
use Rattle.std.specs.List.{cons_option, AllByRecursion}
use Rattle.std.specs.Option.{option_map, option_map_or}
use Rattle.std.proofs.lemmas.Bool.{eqb-true}
use Rattle.std.proofs.lemmas.Option.{same_Some}
use Rattle.class_world.specs.class_base.declared.types.FieldType.{FieldType}
use Rattle.class_world.specs.class_base.declared.methods.MethodType.{MethodType}
use Rattle.class_world.specs.class_base.ClassNames.{is_class_name}
use Rattle.class_world.specs.class_base.Types.{type_at, field_type}
use Rattle.class_world.specs.class_base.MethodTypes.{types_at, returned_at, method_type}
use Rattle.jvm_values.specs.declared.types.Slot.{Slot}
use Rattle.jvm_values.specs.declared.types.Slot.TheVariants.{Num, Ref}
use Rattle.jvm_values.specs.declared.types.Base.{Base}
use Rattle.jvm_values.specs.declared.types.Base.TheVariants as bases
use Rattle.jvm_values.specs.declared.types.Ty.{Ty}
use Rattle.jvm_values.specs.Subtyping.{class_type, IsReference, IsSlot}
use Rattle.class_world.specs.World.{World, class_of}
use Rattle.class_world.specs.declared.meaning.Meaning.{Meaning}
use Rattle.class_world.specs.declared.meaning.Meaning.TheVariants.{Known, Unsupported, Missing}
use Rattle.class_world.specs.Descriptors.{meaning_of, known_slot}
use Rattle.class_world.specs.lemmas.Linked.{class_of_within}
use Rattle.class_world.specs.lemmas.SlotLaws.{type_dims, meaning_is}
use Rattle.list_views.proofs.Steps.{bind_ok}
use Rattle.class_program.specs.declared.refusal.Refusal.TheVariants as refusals
use Rattle.class_program.specs.declared.signature.Signature.{Signature}
use Rattle.class_program.specs.Refusals.{wanted}
use Rattle.class_program.specs.Signatures.{types_of, all_there, all_supported, slots_of, returned_slot, signature, signature_of}
use Rattle.class_program.specs.Signatures.{declared_signature}
use Rattle.class_program.specs.Ops.{meant_type, array_type, class_named, type_named, base_class, class_number}
use Rattle.class_program.proofs.Got.{got_wanted}

-- ---- types

-- a field type that is a whole text has at most 255 dimensions
pub whole_dims : (text : List ℕ) (t : FieldType) → field_type text ≡ Some t → t.dims ≤ 255
unfolding field_type
whole_dims text t e = go (type_at text) refl e
  where
    go : (o : Option (FieldType × List ℕ)) → type_at text ≡ o
        → option_and_then (λ x. cond (eqb (length x.1) 0) (Some x.0) None) o ≡ Some t → t.dims ≤ 255
    go None q f = cc
    go (Some x) q f = by (eqb (length x.1) 0) f
      where
        by : (b : Bool) → cond b (Some x.0) None ≡ Some t → t.dims ≤ 255
        by true g = let same : x.0 ≡ t = cc in subst (λ (u : FieldType). u.dims ≤ 255) same (type_dims text x.1 x.0 q)
        by false g = cc

-- a class's name gives a class of the world
pub named_class : (world : World) (name : List ℕ) (t : Ty) → class_named world name ≡ Ok t → (class : ℕ) × (t ≡ class_type class)
    × (class < length world)
unfolding class_named
named_class world name t e = go (class_of world name) refl e
  where
    go : (o : Option ℕ) → class_of world name ≡ o
        → option_map_or (λ class. Ok (class_type class)) o (Err (refusals.MissingClass name)) ≡ Ok t
        → (class : ℕ) × (t ≡ class_type class) × (class < length world)
    go None q f = cc
    go (Some class) q f = let same : t ≡ class_type class = cc in (class, same, class_of_within world name class q)

array_is : (world : World) (ft : FieldType) (t : Ty) → ft.dims ≤ 255 → array_type world ft ≡ Ok t → IsReference (length world) t
unfolding array_type
array_is world ft t l e = go (eqb ft.dims 0) e
  where
    meant : (m : Meaning) → meaning_of world ft ≡ m → meant_type m ≡ Ok t → IsReference (length world) t
    meant (Known (Ref u)) q f =
        let same : u ≡ t = cc in
        subst (λ (v : Ty). IsReference (length world) v) same (meaning_is world ft (Ref u) l (ap known_slot q))
    meant (Known (Num kind)) q f = cc
    meant Unsupported q f = cc
    meant (Missing name) q f = cc

    go : (b : Bool) → cond b (Err refusals.Unresolved) (meant_type (meaning_of world ft)) ≡ Ok t → IsReference (length world) t
    go true f = cc
    go false f = meant (meaning_of world ft) refl f

-- what a Class entry's text says is a reference type of the world
pub named_type : (world : World) (text : List ℕ) (t : Ty) → type_named world text ≡ Ok t → IsReference (length world) t
unfolding type_named
named_type world text t e = go (is_class_name text) e
  where
    array : (o : Option FieldType) → field_type text ≡ o → option_map_or (array_type world) o (Err refusals.Unresolved) ≡ Ok t
        → IsReference (length world) t
    array None q f = cc
    array (Some ft) q f = array_is world ft t (whole_dims text ft q) f

    go : (b : Bool) → cond b (class_named world text) (option_map_or (array_type world) (field_type text) (Err refusals.Unresolved))
        ≡ Ok t → IsReference (length world) t
    go true f =
        let r = named_class world text t f in
        subst (λ (v : Ty). IsReference (length world) v) (sym r.1) (omega arith, r.2)
    go false f = array (field_type text) refl f

-- the class of a reference type that has no dimensions
pub numbered_class : (n : ℕ) (t : Ty) (class : ℕ) → IsReference n t → class_number t ≡ Ok class → (t ≡ class_type class) × (class < n)
unfolding class_number
numbered_class n t class r e = go (eqb t.dims 0) refl e
  where
    parts : (dims : ℕ) (base : Base) → dims ≡ 0 → base ≡ bases.Class class
        → ◌≡◌ {A = Ty} (record { dims = dims; base = base }) (class_type class)
    parts dims base d b = cc

    based : (b : Base) → t.base ≡ b → base_class b ≡ Ok class → t.dims ≡ 0 → (t ≡ class_type class) × (class < n)
    based (bases.Class c) q f d =
        let same : c ≡ class = cc in
        let there : t ≡ class_type class = parts t.dims t.base d (q ∙ ap bases.Class same) in
        (there, (subst (λ (u : Ty). IsReference n u) there r).1)
    based (bases.Num kind) q f d = cc

    go : (b : Bool) → eqb t.dims 0 ≡ b → cond b (base_class t.base) (Err refusals.Unresolved) ≡ Ok class
        → (t ≡ class_type class) × (class < n)
    go true d f = based t.base refl f (eqb-true t.dims 0 d)
    go false d f = cc

-- ---- signatures

params_dims : (turns : ℕ) (text : List ℕ) (types : List FieldType) (rest : List ℕ) → types_at turns text ≡ Some (types, rest)
    → AllByRecursion (λ t. t.dims ≤ 255) types
unfolding types_at
params_dims zero text types rest e = cc
params_dims (suc turns) [] types rest e = cc
params_dims (suc turns) (b ∷ text) types rest e = go (params_dims turns) (eqb b 41) e
  where
    Rest : Type 0
    Rest = (after : List ℕ) (ts : List FieldType) (left : List ℕ) → types_at turns after ≡ Some (ts, left)
        → AllByRecursion (λ t. t.dims ≤ 255) ts

    more : Rest → (t : FieldType) (after : List ℕ) → type_at (b ∷ text) ≡ Some (t, after) → (o : Option (List FieldType × List ℕ))
        → types_at turns after ≡ o → option_map {U = List FieldType × List ℕ} (λ r. (t ∷ r.0, r.1)) o ≡ Some (types, rest)
        → AllByRecursion (λ u. u.dims ≤ 255) types
    more go_on t after q None p f = cc
    more go_on t after q (Some r) p f =
        let same : t ∷ r.0 ≡ types = ap (λ (z : List FieldType × List ℕ). z.0) (same_Some (t ∷ r.0, r.1) (types, rest) f) in
        subst (λ (us : List FieldType). AllByRecursion (λ u. u.dims ≤ 255) us) same (type_dims (b ∷ text) after t q, go_on after r.0 r.1 p)

    one : Rest → (o : Option (FieldType × List ℕ)) → type_at (b ∷ text) ≡ o
        → option_and_then (λ x. option_map {U = List FieldType × List ℕ} (λ r. (x.0 ∷ r.0, r.1)) (types_at turns x.1)) o ≡ Some
        (types, rest) → AllByRecursion (λ u. u.dims ≤ 255) types
    one go_on None q f = cc
    one go_on (Some x) q f = more go_on x.0 x.1 q (types_at turns x.1) refl f

    go : Rest → (c : Bool)
        → cond c (Some ([], text))
        (option_and_then (λ x. option_map {U = List FieldType × List ℕ} (λ r. (x.0 ∷ r.0, r.1)) (types_at turns x.1))
        (type_at (b ∷ text))) ≡ Some (types, rest) → AllByRecursion (λ u. u.dims ≤ 255) types
    go go_on true f = let same : [] ≡ types = ap (λ (z : List FieldType × List ℕ). z.0) (same_Some ([], text) (types, rest) f) in
        subst (λ (us : List FieldType). AllByRecursion (λ u. u.dims ≤ 255) us) same tt
    go go_on false f = one go_on (type_at (b ∷ text)) refl f

returned_dims : (text : List ℕ) (t : FieldType) → returned_at text ≡ Some (Some t) → t.dims ≤ 255
unfolding returned_at
returned_dims [] t e = cc
returned_dims (b ∷ text) t e = go (eqb b 86) e
  where
    void : (c : Bool) → cond c (Some None) None ≡ Some (Some t) → t.dims ≤ 255
    void true f = cc
    void false f = cc

    whole : (o : Option FieldType) → field_type (b ∷ text) ≡ o → option_map Some o ≡ Some (Some t) → t.dims ≤ 255
    whole None q f = cc
    whole (Some u) q f = let same : u ≡ t = cc in subst (λ (v : FieldType). v.dims ≤ 255) same (whole_dims (b ∷ text) u q)

    go : (c : Bool) → cond c (cond (eqb (length text) 0) (Some None) None) (option_map Some (field_type (b ∷ text))) ≡ Some (Some t)
        → t.dims ≤ 255
    go true f = void (eqb (length text) 0) f
    go false f = whole (field_type (b ∷ text)) refl f

-- the types of a method's parameters, and of its result, have few dimensions
record HasFewDims (m : MethodType) : Type 0 where
  pub params : AllByRecursion (λ t. t.dims ≤ 255) m.params
  pub returned : (t : FieldType) → m.returned ≡ Some t → t.dims ≤ 255

type_few : (text : List ℕ) (m : MethodType) → method_type text ≡ Some m → HasFewDims m
unfolding method_type
type_few [] m e = cc
type_few (b ∷ text) m e = go (eqb b 40) e
  where
    ret : (params : List FieldType) (rest : List ℕ) → types_at (length text) text ≡ Some (params, rest)
        → (o : Option (Option FieldType)) → returned_at rest ≡ o
        → option_map (λ r. record { params = params; returned = r }) o ≡ Some m → HasFewDims m
    ret params rest q None p f = cc
    ret params rest q (Some r) p f =
        let same : ◌≡◌ {A = MethodType} (record { params = params; returned = r }) m = cc in
        subst HasFewDims same (record {
          params = params_dims (length text) text params rest q;
          returned = λ t e. returned_dims rest t (p ∙ ap (λ (o : Option FieldType). Some o) e);
        })

    inner : (o : Option (List FieldType × List ℕ)) → types_at (length text) text ≡ o
        → option_and_then (λ x. option_map (λ r. record { params = x.0; returned = r }) (returned_at x.1)) o ≡ Some m → HasFewDims m
    inner None q f = cc
    inner (Some x) q f = ret x.0 x.1 q (returned_at x.1) refl f

    go : (c : Bool) → cond c (option_and_then (λ x. option_map (λ r. record { params = x.0; returned = r }) (returned_at x.1))
        (types_at (length text) text)) None ≡ Some m → HasFewDims m
    go true f = inner (types_at (length text) text) refl f
    go false f = cc

slots_good : (world : World) (types : List FieldType) → AllByRecursion (λ t. t.dims ≤ 255) types
    → AllByRecursion (IsSlot (length world)) (slots_of world types)
slots_good world [] h = tt
slots_good world (t ∷ ts) h = go (slots_good world ts h.1) (known_slot (meaning_of world t)) refl
  where
    go : AllByRecursion (IsSlot (length world)) (slots_of world ts) → (o : Option Slot) → known_slot (meaning_of world t) ≡ o
        → AllByRecursion (IsSlot (length world)) (cons_option o (slots_of world ts))
    go more None q = more
    go more (Some slot) q = (meaning_is world t slot h.0 q, more)

-- the slots of a signature are of the world
pub record IsGoodSignature (world : World) (s : Signature) : Type 0 where
  pub params : AllByRecursion (IsSlot (length world)) s.params
  pub result : IfSome s.result (IsSlot (length world))

signature_good : (world : World) (m : MethodType) → HasFewDims m → IsGoodSignature world (signature world m)
signature_good world m h = record { params = slots_good world m.params h.params; result = ret m.returned refl }
  where
    known : (t : FieldType) → t.dims ≤ 255 → (o : Option Slot) → known_slot (meaning_of world t) ≡ o → IfSome o (IsSlot (length world))
    known t l None q = tt
    known t l (Some slot) q = meaning_is world t slot l q

    ret : (o : Option FieldType) → m.returned ≡ o → IfSome (returned_slot world o) (IsSlot (length world))
    ret None q = tt
    ret (Some t) q = known t (h.returned t q) (known_slot (meaning_of world t)) refl

-- what a descriptor means where an instruction names it, and where a class declares it, is one signature
pub named_signature : (world : World) (desc : List ℕ) (s : Signature) → signature_of world desc ≡ Ok s
    → (m : MethodType) × (method_type desc ≡ Some m) × (s ≡ signature world m) × IsGoodSignature world s
unfolding signature_of
named_signature world desc s e =
    let m = bind_ok (wanted (method_type desc)) _ s e in
    let there = bind_ok (all_there world (types_of m.0)) _ s m.2 in
    let supported = bind_ok (all_supported world (types_of m.0)) _ s there.2 in
    let same : signature world m.0 ≡ s = cc in
    let type_is = got_wanted (method_type desc) m.0 m.1 in
    (m.0, type_is, sym same, subst (IsGoodSignature world) same (signature_good world m.0 (type_few desc m.0 type_is)))

pub own_signature : (world : World) (desc : List ℕ) (s : Signature) → declared_signature world desc ≡ Ok s
    → (m : MethodType) × (method_type desc ≡ Some m) × (s ≡ signature world m) × IsGoodSignature world s
unfolding declared_signature
own_signature world desc s e =
    let m = bind_ok (wanted (method_type desc)) _ s e in
    let supported = bind_ok (all_supported world (types_of m.0)) _ s m.2 in
    let there = bind_ok (all_there world (types_of m.0)) _ s supported.2 in
    let same : signature world m.0 ≡ s = cc in
    let type_is = got_wanted (method_type desc) m.0 m.1 in
    (m.0, type_is, sym same, subst (IsGoodSignature world) same (signature_good world m.0 (type_few desc m.0 type_is)))

pub one_signature : (world : World) (desc : List ℕ) (s t : Signature) → signature_of world desc ≡ Ok s
    → declared_signature world desc ≡ Ok t → s ≡ t
one_signature world desc s t e f =
    let a = named_signature world desc s e in
    let b = own_signature world desc t f in
    let same : a.0 ≡ b.0 = same_some a.0 b.0 (method_type desc) a.1 b.1 in
    a.2 ∙ ap (signature world) same ∙ sym b.2
  where
    same_some : (x y : MethodType) (o : Option MethodType) → o ≡ Some x → o ≡ Some y → x ≡ y
    same_some x y o p q = cc
