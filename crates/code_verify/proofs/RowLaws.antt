-- The table of rows keeps what is narrower narrower, and what is proper proper.
use Rattle.std.proofs.Common.{◌≡◌, ℕ, zero, suc, ◌+◌, ◌<◌, ◌≤◌, Bool, true, false, cond, ltb, List, [], ◌∷◌, ◌++◌, length, map}
use Rattle.std.proofs.Common.{reverse, set, Option, Some, None, refl, sym, ap, subst, ◌∙◌, arith}
use Rattle.std.specs.Prelude.{All, IfSome, slice_get, slice_set, nat_lt}
use Rattle.std.specs.List.{AllZip}
use Rattle.std.specs.Option.{option_map, option_and_then}
use Rattle.list_views.specs.Options.{asked}
use Rattle.std.proofs.lemmas.List.{length-set}
use Rattle.std.proofs.lemmas.List.Elements.{All-set, All-cons, All-head, All-tail, length_all_zip}
use Rattle.std.proofs.lemmas.Option.{none-some}
use Rattle.list_views.proofs.Zipped.{zip_right}
use Rattle.list_views.proofs.Options.{cond_guarded, then_some}
use Rattle.jvm_values.specs.declared.types.Ty.{Ty}
use Rattle.jvm_values.specs.declared.types.Kind.{Kind}
use Rattle.jvm_values.specs.declared.types.Base.{Base}
use Rattle.jvm_values.specs.declared.types.Base.TheVariants.{Class, Num}
use Rattle.jvm_values.specs.Joins.{item_of}
use Rattle.jvm_values.specs.declared.types.Slot.{Slot}
use Rattle.jvm_values.specs.declared.types.Slot.TheVariants as slots
use Rattle.jvm_values.specs.declared.typing.PlaceType.{PlaceType}
use Rattle.jvm_values.specs.declared.typing.PlaceType.TheVariants as places
use Rattle.jvm_values.specs.States.{PlaceTypes}
use Rattle.jvm_values.specs.Subtyping.{class_type, array_of, array_of_numbers, IsSlot, IsReference, IsReferenceBase}
use Rattle.jvm_values.specs.TypedHeaps.{WorldTypes, AreLawful}
use Rattle.jvm_values.proofs.Options.{some_is}
use Rattle.class_program.specs.class_world.WorldTypes.{types_of}
use Rattle.class_program.specs.class_world.BuiltIns.{throwable}
use Rattle.class_program.specs.declared.program.Method.{Method}
use Rattle.class_program.specs.Programs.{Program}
use Rattle.op_forms.specs.declared.form.Shuffle.{Shuffle as StackShuffle}
use Rattle.op_forms.specs.Forms.{Form, shuffled}
use Rattle.op_forms.specs.Forms.Form.{Nop, AconstNull, Iconst, Iload, Aload, Istore, Astore, Iinc, Shuffle, Arith, Ineg, Narrow, If}
use Rattle.op_forms.specs.Forms.Form.{IfIcmp, IfAcmpeq, IfAcmpne, Ifnull, Ifnonnull, Goto, Tableswitch, Lookupswitch, Ireturn}
use Rattle.op_forms.specs.Forms.Form.{Areturn, Return, Getstatic, Putstatic, Getfield, Putfield, Invokevirtual, Invokespecial}
use Rattle.op_forms.specs.Forms.Form.{Invokestatic, Invokeinterface, New, Newarray, Anewarray, Arraylength, NumberLoad, Aaload}
use Rattle.op_forms.specs.Forms.Form.{NumberStore, Aastore, Athrow, Checkcast, Instanceof}
use Rattle.frame_types.specs.Places.{IsWithin, IsFrameWithin, IsOfWorld, IsSet, IsProper}
use Rattle.frame_types.proofs.GrowthLaws.{within_refl}
use Rattle.code_verify.specs.declared.want.Want.{Want}
use Rattle.code_verify.specs.declared.want.Want.TheVariants as wants
use Rattle.code_verify.specs.Operands.{is_int, is_reference, item_place, place_of, want_of}
use Rattle.code_verify.specs.Rows.{taken, with_result, acted, iload_types, aload_types, sets, istore_types, top_place, astore_types}
use Rattle.code_verify.specs.Rows.{iinc_types, shuffle_types, aaload_types, argument_wants, special_receiver, static_slot}
use Rattle.code_verify.specs.Rows.{getstatic_types, putstatic_types, ireturn_types, areturn_types, return_types, types_after}
use Rattle.code_verify.specs.Answers.{IsGoodForm}
use Rattle.code_verify.proofs.Basics.{was_asked, zip_set, all_at}
use Rattle.code_verify.proofs.TypeShapes.{erased_of_world}
use Rattle.code_verify.proofs.OperandLaws.{int_within, reference_within, item_within, item_of_world, slot_of_world, taken_within}
use Rattle.code_verify.proofs.OperandLaws.{taken_all}
use Rattle.code_verify.proofs.Shuffling.{shuffled_zip, shuffled_all}

-- the types after a narrower frame are there, and are narrower
abbrev pub Narrower : WorldTypes → Option PlaceTypes → PlaceTypes → Type 0
Narrower types found wide = (narrow : PlaceTypes) × ((found ≡ Some narrow) × IsFrameWithin types narrow wide)

-- ints and references
set_int : (a : PlaceType) → is_int a ≡ true → IsSet a
set_int places.Unset h e = cc
set_int places.Int h e = cc
set_int places.Null h e = cc
set_int (places.Ref t) h e = cc

set_reference : (a : PlaceType) → is_reference a ≡ true → IsSet a
set_reference places.Unset h e = cc
set_reference places.Int h e = cc
set_reference places.Null h e = cc
set_reference (places.Ref t) h e = cc

item_is_set : (a i : PlaceType) → item_place a ≡ Some i → IsSet i
item_is_set places.Unset i e = absurd (none-some i e)
item_is_set places.Int i e = absurd (none-some i e)
item_is_set places.Null i e = λ (f : i ≡ places.Unset). let g : places.Null ≡ places.Unset = some_is e ∙ f in cc
item_is_set (places.Ref s) i e = go (item_of s) e
  where
    go : (x : Option Ty) → option_map places.Ref x ≡ Some i → IsSet i
    go None g = absurd (none-some i g)
    go (Some y) g = λ (f : i ≡ places.Unset). let k : places.Ref y ≡ places.Unset = some_is g ∙ f in cc

slot_is_set : (types : WorldTypes) (slot : Slot) → IsSet (place_of types slot)
slot_is_set types (slots.Num kind) e = cc
slot_is_set types (slots.Ref t) e = cc

pub deeper : (n d : ℕ) (base : Base) → IsReferenceBase n d base → IsReferenceBase n (d + 1) base
deeper n d (Class k) r = r
deeper n d (Num kind) r = omega arith

pub array_reference : (n : ℕ) (t : Ty) → IsReference n t → t.dims < 255 → IsReference n (array_of t)
array_reference n t r l = (omega arith, deeper n t.dims t.base r.1)

-- a result that may be pushed
abbrev IsResult : WorldTypes → PlaceType → Type 0
IsResult types place = IsOfWorld types place × IsSet place

module _ (types : WorldTypes) (laws : AreLawful types) where
  -- ---- operands and results

  result_within : (gives : Option PlaceType) (xs ys : List PlaceType) → IfSome gives (IsResult types)
      → AllZip (IsWithin types) xs ys → AllZip (IsWithin types) (with_result gives xs) (with_result gives ys)
  result_within None xs ys g w = w
  result_within (Some place) xs ys g w = (within_refl types laws place g.0, w)

  result_all : (P : PlaceType → Type 0) (gives : Option PlaceType) (xs : List PlaceType) → IfSome gives P → All P xs
      → All P (with_result gives xs)
  result_all P None xs g h = h
  result_all P (Some place) xs g h = All-cons P place xs g h

  of_world_result : (gives : Option PlaceType) → IfSome gives (IsResult types) → IfSome gives (IsOfWorld types)
  of_world_result None g = tt
  of_world_result (Some place) g = g.0

  set_result : (gives : Option PlaceType) → IfSome gives (IsResult types) → IfSome gives IsSet
  set_result None g = tt
  set_result (Some place) g = g.1

  acted_within : (asks : List Want) (gives : Option PlaceType) (count : ℕ) (a b wide : PlaceTypes) → IfSome gives (IsResult types)
      → IsProper types count a → IsFrameWithin types a b → acted types asks gives b ≡ Some wide
      → Narrower types (acted types asks gives a) wide
  unfolding acted
  acted_within asks gives count a b wide g o w e =
      let p = then_some (λ (below : List PlaceType). Some (record b { stack = with_result gives below })) (taken types asks b.stack)
      wide e in
      let t = taken_within types laws asks a.stack b.stack p.0 o.stack w.stack p.1.0 in (
        record a { stack = with_result gives t.0 },
        (
          ap (option_and_then (λ (below : List PlaceType). Some (record a { stack = with_result gives below }))) t.1.0,
          subst (IsFrameWithin types (record a { stack = with_result gives t.0 })) (some_is p.1.1)
              (record { locals = w.locals; stack = result_within gives t.0 p.0 g t.1.1 }),
        ),
      )

  acted_proper : (asks : List Want) (gives : Option PlaceType) (count : ℕ) (a after : PlaceTypes) → IfSome gives (IsResult types)
      → IsProper types count a → acted types asks gives a ≡ Some after → IsProper types count after
  unfolding acted
  acted_proper asks gives count a after g o e =
      let p = then_some (λ (below : List PlaceType). Some (record a { stack = with_result gives below })) (taken types asks a.stack)
      after e in
      subst (IsProper types count) (some_is p.1.1) (record {
        count = o.count;
        set = result_all IsSet gives p.0 (set_result gives g) (taken_all types laws IsSet asks a.stack p.0 o.set p.1.0);
        locals = o.locals;
        stack = result_all (IsOfWorld types) gives p.0 (of_world_result gives g)
            (taken_all types laws (IsOfWorld types) asks a.stack p.0 o.stack p.1.0);
      })

  -- ---- locals

  iload_within : (n : ℕ) (a b wide : PlaceTypes) → IsFrameWithin types a b → iload_types n b ≡ Some wide
      → Narrower types (iload_types n a) wide
  unfolding iload_types
  iload_within n a b wide w e =
      let p = then_some (λ (local : PlaceType). option_and_then
      (λ (fit : Unit {0}). Some (record b { stack = places.Int ∷ b.stack })) (asked (is_int local))) (slice_get b.locals n) wide e in
      let q = was_asked (is_int p.0) (λ (fit : Unit {0}). Some (record b { stack = places.Int ∷ b.stack })) wide p.1.1 in
      let x = zip_right (IsWithin types) a.locals b.locals w.locals n p.0 p.1.0 in (
        record a { stack = places.Int ∷ a.stack },
        (
          ap (option_and_then (λ (local : PlaceType). option_and_then
              (λ (fit : Unit {0}). Some (record a { stack = places.Int ∷ a.stack })) (asked (is_int local)))) x.1.0
              ∙ ap (λ (test : Bool). option_and_then (λ (fit : Unit {0}). Some (record a { stack = places.Int ∷ a.stack }))
              (asked test)) (int_within types laws x.0 p.0 x.1.1 q.0),
          subst (IsFrameWithin types (record a { stack = places.Int ∷ a.stack })) (some_is q.1)
              (record { locals = w.locals; stack = (tt, w.stack) }),
        ),
      )

  iload_proper : (n count : ℕ) (a after : PlaceTypes) → IsProper types count a → iload_types n a ≡ Some after → IsProper types count after
  unfolding iload_types
  iload_proper n count a after o e =
      let p = then_some (λ (local : PlaceType). option_and_then
      (λ (fit : Unit {0}). Some (record a { stack = places.Int ∷ a.stack })) (asked (is_int local))) (slice_get a.locals n)
      after e in
      let q = was_asked (is_int p.0) (λ (fit : Unit {0}). Some (record a { stack = places.Int ∷ a.stack })) after p.1.1 in
      subst (IsProper types count) (some_is q.1) (record {
        count = o.count;
        set = All-cons IsSet places.Int a.stack (set_int places.Int refl) o.set;
        locals = o.locals;
        stack = All-cons (IsOfWorld types) places.Int a.stack tt o.stack;
      })

  aload_within : (n : ℕ) (a b wide : PlaceTypes) → IsFrameWithin types a b → aload_types n b ≡ Some wide
      → Narrower types (aload_types n a) wide
  unfolding aload_types
  aload_within n a b wide w e =
      let p = then_some (λ (local : PlaceType). option_and_then (λ (fit : Unit {0}). Some (record b { stack = local ∷ b.stack }))
      (asked (is_reference local))) (slice_get b.locals n) wide e in
      let q = was_asked (is_reference p.0) (λ (fit : Unit {0}). Some (record b { stack = p.0 ∷ b.stack })) wide p.1.1 in
      let x = zip_right (IsWithin types) a.locals b.locals w.locals n p.0 p.1.0 in (
        record a { stack = x.0 ∷ a.stack },
        (
          ap (option_and_then (λ (local : PlaceType). option_and_then
              (λ (fit : Unit {0}). Some (record a { stack = local ∷ a.stack })) (asked (is_reference local)))) x.1.0
              ∙ ap (λ (test : Bool). option_and_then (λ (fit : Unit {0}). Some (record a { stack = x.0 ∷ a.stack })) (asked test))
              (reference_within types laws x.0 p.0 x.1.1 q.0),
          subst (IsFrameWithin types (record a { stack = x.0 ∷ a.stack })) (some_is q.1)
              (record { locals = w.locals; stack = (x.1.1, w.stack) }),
        ),
      )

  aload_proper : (n count : ℕ) (a after : PlaceTypes) → IsProper types count a → aload_types n a ≡ Some after → IsProper types count after
  unfolding aload_types
  aload_proper n count a after o e =
      let p = then_some (λ (local : PlaceType). option_and_then (λ (fit : Unit {0}). Some (record a { stack = local ∷ a.stack }))
      (asked (is_reference local))) (slice_get a.locals n) after e in
      let q = was_asked (is_reference p.0) (λ (fit : Unit {0}). Some (record a { stack = p.0 ∷ a.stack })) after p.1.1 in
      subst (IsProper types count) (some_is q.1) (record {
        count = o.count;
        set = All-cons IsSet p.0 a.stack (set_reference p.0 q.0) o.set;
        locals = o.locals;
        stack = All-cons (IsOfWorld types) p.0 a.stack (all_at (IsOfWorld types) a.locals o.locals n p.0 p.1.0) o.stack;
      })

  sets_within : (n : ℕ) (x y : PlaceType) (xs ys : List PlaceType) (a b wide : PlaceTypes) → IsFrameWithin types a b
      → IsWithin types x y → AllZip (IsWithin types) xs ys → sets n y ys b ≡ Some wide → Narrower types (sets n x xs a) wide
  sets_within n x y xs ys a b wide w r s e =
      let c = cond_guarded (nat_lt n (length b.locals)) (Some (record { locals = slice_set b.locals n y; stack = ys })) wide e in
      let same : nat_lt n (length a.locals) ≡ true = ap (nat_lt n) (length_all_zip (IsWithin types) a.locals b.locals w.locals) ∙ c.0 in (
        record { locals = slice_set a.locals n x; stack = xs },
        (
          ap (λ (test : Bool). cond test (Some (record { locals = slice_set a.locals n x; stack = xs })) None) same,
          subst (IsFrameWithin types (record { locals = slice_set a.locals n x; stack = xs })) (some_is c.1)
              (record { locals = zip_set (IsWithin types) a.locals b.locals n x y w.locals r; stack = s }),
        ),
      )

  sets_proper : (n count : ℕ) (x : PlaceType) (xs : List PlaceType) (a after : PlaceTypes) → IsProper types count a
      → IsOfWorld types x → All IsSet xs → All (IsOfWorld types) xs → sets n x xs a ≡ Some after → IsProper types count after
  sets_proper n count x xs a after o r s k e =
      let c = cond_guarded (nat_lt n (length a.locals)) (Some (record { locals = slice_set a.locals n x; stack = xs })) after e in
      subst (IsProper types count) (some_is c.1) (record {
        count = length-set a.locals n x ∙ o.count;
        set = s;
        locals = All-set (IsOfWorld types) a.locals n x r o.locals;
        stack = k;
      })

  istore_within : (n count : ℕ) (a b wide : PlaceTypes) → IsProper types count a → IsFrameWithin types a b
      → istore_types types n b ≡ Some wide → Narrower types (istore_types types n a) wide
  unfolding istore_types
  istore_within n count a b wide o w e =
      let p = then_some (λ (below : List PlaceType). sets n places.Int below b) (taken types (wants.Int ∷ []) b.stack) wide e in
      let t = taken_within types laws (wants.Int ∷ []) a.stack b.stack p.0 o.stack w.stack p.1.0 in
      let s = sets_within n places.Int places.Int t.0 p.0 a b wide w tt t.1.1 p.1.1 in
      (s.0, (ap (option_and_then (λ (below : List PlaceType). sets n places.Int below a)) t.1.0 ∙ s.1.0, s.1.1))

  istore_proper : (n count : ℕ) (a after : PlaceTypes) → IsProper types count a → istore_types types n a ≡ Some after
      → IsProper types count after
  unfolding istore_types
  istore_proper n count a after o e =
      let p = then_some (λ (below : List PlaceType). sets n places.Int below a) (taken types (wants.Int ∷ []) a.stack) after e in
      sets_proper n count places.Int p.0 a after o tt
      (taken_all types laws IsSet (wants.Int ∷ []) a.stack p.0 o.set p.1.0)
      (taken_all types laws (IsOfWorld types) (wants.Int ∷ []) a.stack p.0 o.stack p.1.0)
      p.1.1

  top_within : (xs ys : List PlaceType) (y : PlaceType × List PlaceType) → AllZip (IsWithin types) xs ys → top_place ys ≡ Some y
      → (x : PlaceType × List PlaceType) × ((top_place xs ≡ Some x) × (IsWithin types x.0 y.0 × AllZip (IsWithin types) x.1 y.1))
  top_within [] [] y w e = absurd (none-some y e)
  top_within [] (z ∷ ys) y w e = absurd w
  top_within (x ∷ xs) [] y w e = absurd w
  top_within (x ∷ xs) (z ∷ ys) y w e =
      let f = some_is e in
      ((x, xs), (refl, (subst (IsWithin types x) (ap (λ v. v.0) f) w.0, subst (AllZip (IsWithin types) xs) (ap (λ v. v.1) f) w.1)))

  top_of : (P : PlaceType → Type 0) (xs : List PlaceType) (x : PlaceType × List PlaceType) → All P xs → top_place xs ≡ Some x
      → P x.0 × All P x.1
  top_of P [] x o e = absurd (none-some x e)
  top_of P (z ∷ xs) x o e =
      let f = some_is e in
      (subst P (ap (λ v. v.0) f) (All-head P z xs o), subst (All P) (ap (λ v. v.1) f) (All-tail P z xs o))

  astore_within : (n : ℕ) (a b wide : PlaceTypes) → IsFrameWithin types a b → astore_types n b ≡ Some wide
      → Narrower types (astore_types n a) wide
  unfolding astore_types
  astore_within n a b wide w e =
      let p = then_some (λ (top : PlaceType × List PlaceType). option_and_then (λ (fit : Unit {0}). sets n top.0 top.1 b)
      (asked (is_reference top.0))) (top_place b.stack) wide e in
      let q = was_asked (is_reference p.0.0) (λ (fit : Unit {0}). sets n p.0.0 p.0.1 b) wide p.1.1 in
      let t = top_within a.stack b.stack p.0 w.stack p.1.0 in
      let s = sets_within n t.0.0 p.0.0 t.0.1 p.0.1 a b wide w t.1.1.0 t.1.1.1 q.1 in (
        s.0,
        (
          ap (option_and_then (λ (top : PlaceType × List PlaceType). option_and_then (λ (fit : Unit {0}). sets n top.0 top.1 a)
              (asked (is_reference top.0)))) t.1.0
              ∙ ap (λ (test : Bool). option_and_then (λ (fit : Unit {0}). sets n t.0.0 t.0.1 a) (asked test))
              (reference_within types laws t.0.0 p.0.0 t.1.1.0 q.0)
              ∙ s.1.0,
          s.1.1,
        ),
      )

  astore_proper : (n count : ℕ) (a after : PlaceTypes) → IsProper types count a → astore_types n a ≡ Some after
      → IsProper types count after
  unfolding astore_types
  astore_proper n count a after o e =
      let p = then_some (λ (top : PlaceType × List PlaceType). option_and_then (λ (fit : Unit {0}). sets n top.0 top.1 a)
      (asked (is_reference top.0))) (top_place a.stack) after e in
      let q = was_asked (is_reference p.0.0) (λ (fit : Unit {0}). sets n p.0.0 p.0.1 a) after p.1.1 in
      let s = top_of IsSet a.stack p.0 o.set p.1.0 in
      let k = top_of (IsOfWorld types) a.stack p.0 o.stack p.1.0 in
      sets_proper n count p.0.0 p.0.1 a after o k.0 s.1 k.1 q.1

  iinc_within : (n : ℕ) (a b wide : PlaceTypes) → IsFrameWithin types a b → iinc_types n b ≡ Some wide
      → Narrower types (iinc_types n a) wide
  unfolding iinc_types
  iinc_within n a b wide w e =
      let p = then_some (λ (local : PlaceType). option_and_then (λ (fit : Unit {0}). Some b) (asked (is_int local)))
      (slice_get b.locals n) wide e in
      let q = was_asked (is_int p.0) (λ (fit : Unit {0}). Some b) wide p.1.1 in
      let x = zip_right (IsWithin types) a.locals b.locals w.locals n p.0 p.1.0 in (
        a,
        (
          ap (option_and_then (λ (local : PlaceType). option_and_then (λ (fit : Unit {0}). Some a) (asked (is_int local)))) x.1.0
              ∙ ap (λ (test : Bool). option_and_then (λ (fit : Unit {0}). Some a) (asked test)) (int_within types laws x.0 p.0 x.1.1 q.0),
          subst (IsFrameWithin types a) (some_is q.1) w,
        ),
      )

  iinc_proper : (n count : ℕ) (a after : PlaceTypes) → IsProper types count a → iinc_types n a ≡ Some after → IsProper types count after
  unfolding iinc_types
  iinc_proper n count a after o e =
      let p = then_some (λ (local : PlaceType). option_and_then (λ (fit : Unit {0}). Some a) (asked (is_int local)))
      (slice_get a.locals n) after e in
      let q = was_asked (is_int p.0) (λ (fit : Unit {0}). Some a) after p.1.1 in
      subst (IsProper types count) (some_is q.1) o

  shuffle_within : (shuffle : StackShuffle) (a b wide : PlaceTypes) → IsFrameWithin types a b → shuffle_types shuffle b ≡ Some wide
      → Narrower types (shuffle_types shuffle a) wide
  unfolding shuffle_types
  shuffle_within shuffle a b wide w e =
      let p = then_some (λ (stack : List PlaceType). Some (record b { stack = stack })) (shuffled shuffle b.stack) wide e in
      let s = shuffled_zip (IsWithin types) shuffle a.stack b.stack p.0 w.stack p.1.0 in (
        record a { stack = s.0 },
        (
          ap (option_and_then (λ (stack : List PlaceType). Some (record a { stack = stack }))) s.1.0,
          subst (IsFrameWithin types (record a { stack = s.0 })) (some_is p.1.1) (record { locals = w.locals; stack = s.1.1 }),
        ),
      )

  shuffle_proper : (shuffle : StackShuffle) (count : ℕ) (a after : PlaceTypes) → IsProper types count a
      → shuffle_types shuffle a ≡ Some after → IsProper types count after
  unfolding shuffle_types
  shuffle_proper shuffle count a after o e =
      let p = then_some (λ (stack : List PlaceType). Some (record a { stack = stack })) (shuffled shuffle a.stack) after e in
      subst (IsProper types count) (some_is p.1.1) (record {
        count = o.count;
        set = shuffled_all IsSet shuffle a.stack p.0 o.set p.1.0;
        locals = o.locals;
        stack = shuffled_all (IsOfWorld types) shuffle a.stack p.0 o.stack p.1.0;
      })

  aaload_within : (count : ℕ) (a b wide : PlaceTypes) → IsProper types count a → IsFrameWithin types a b
      → aaload_types types b ≡ Some wide → Narrower types (aaload_types types a) wide
  unfolding aaload_types
  aaload_within count a b wide o w e =
      let p = then_some (λ (below : List PlaceType). option_and_then
      (λ (array : PlaceType × List PlaceType). option_and_then
      (λ (item : PlaceType). Some (record b { stack = item ∷ array.1 })) (item_place array.0)) (top_place below))
      (taken types (wants.Int ∷ []) b.stack) wide e in
      let q = then_some (λ (array : PlaceType × List PlaceType). option_and_then
      (λ (item : PlaceType). Some (record b { stack = item ∷ array.1 })) (item_place array.0)) (top_place p.0) wide p.1.1 in
      let r = then_some (λ (item : PlaceType). Some (record b { stack = item ∷ q.0.1 })) (item_place q.0.0) wide q.1.1 in
      let t = taken_within types laws (wants.Int ∷ []) a.stack b.stack p.0 o.stack w.stack p.1.0 in
      let u = top_within t.0 p.0 q.0 t.1.1 q.1.0 in
      let k = top_of (IsOfWorld types) t.0 u.0 (taken_all types laws (IsOfWorld types) (wants.Int ∷ []) a.stack t.0 o.stack t.1.0) u.1.0 in
      let i = item_within types laws u.0.0 q.0.0 r.0 k.0 u.1.1.0 r.1.0 in (
        record a { stack = i.0 ∷ u.0.1 },
        (
          ap (option_and_then (λ (below : List PlaceType). option_and_then
              (λ (array : PlaceType × List PlaceType). option_and_then
              (λ (item : PlaceType). Some (record a { stack = item ∷ array.1 })) (item_place array.0)) (top_place below))) t.1.0
              ∙ ap (option_and_then
              (λ (array : PlaceType × List PlaceType). option_and_then
              (λ (item : PlaceType). Some (record a { stack = item ∷ array.1 })) (item_place array.0))) u.1.0
              ∙ ap (option_and_then (λ (item : PlaceType). Some (record a { stack = item ∷ u.0.1 }))) i.1.0,
          subst (IsFrameWithin types (record a { stack = i.0 ∷ u.0.1 })) (some_is r.1.1)
              (record { locals = w.locals; stack = (i.1.1, u.1.1.1) }),
        ),
      )

  aaload_proper : (count : ℕ) (a after : PlaceTypes) → IsProper types count a → aaload_types types a ≡ Some after
      → IsProper types count after
  unfolding aaload_types
  aaload_proper count a after o e =
      let p = then_some (λ (below : List PlaceType). option_and_then
      (λ (array : PlaceType × List PlaceType). option_and_then
      (λ (item : PlaceType). Some (record a { stack = item ∷ array.1 })) (item_place array.0)) (top_place below))
      (taken types (wants.Int ∷ []) a.stack) after e in
      let q = then_some (λ (array : PlaceType × List PlaceType). option_and_then
      (λ (item : PlaceType). Some (record a { stack = item ∷ array.1 })) (item_place array.0)) (top_place p.0) after p.1.1 in
      let r = then_some (λ (item : PlaceType). Some (record a { stack = item ∷ q.0.1 })) (item_place q.0.0) after q.1.1 in
      let s = top_of IsSet p.0 q.0 (taken_all types laws IsSet (wants.Int ∷ []) a.stack p.0 o.set p.1.0) q.1.0 in
      let k = top_of (IsOfWorld types) p.0 q.0 (taken_all types laws (IsOfWorld types) (wants.Int ∷ []) a.stack p.0 o.stack p.1.0) q.1.0 in
      subst (IsProper types count) (some_is r.1.1) (record {
        count = o.count;
        set = All-cons IsSet r.0 q.0.1 (item_is_set q.0.0 r.0 r.1.0) s.1;
        locals = o.locals;
        stack = All-cons (IsOfWorld types) r.0 q.0.1 (item_of_world types laws q.0.0 r.0 k.0 r.1.0) k.1;
      })

  same_within : (a b wide : PlaceTypes) → IsFrameWithin types a b → Some b ≡ Some wide → Narrower types (Some a) wide
  same_within a b wide w e = (a, (refl, subst (IsFrameWithin types a) (some_is e) w))

  same_proper : (count : ℕ) (a after : PlaceTypes) → IsProper types count a → Some a ≡ Some after → IsProper types count after
  same_proper count a after o e = subst (IsProper types count) (some_is e) o

  -- ---- results

  given_int : IfSome (Some places.Int) (IsResult types)
  given_int = (tt, λ (e : places.Int ≡ places.Unset). cc)

  given_null : IfSome (Some places.Null) (IsResult types)
  given_null = (tt, λ (e : places.Null ≡ places.Unset). cc)

  given_erased : (t : Ty) → IsReference types.classes t → IfSome (Some (places.Ref (types.erase t))) (IsResult types)
  given_erased t r = (erased_of_world types laws t r, λ (e : places.Ref (types.erase t) ≡ places.Unset). cc)

  given_numbers : (kind : Kind) → IfSome (Some (places.Ref (array_of_numbers kind))) (IsResult types)
  given_numbers kind = (
    ((omega arith, omega arith), laws.erase_numbers kind),
    λ
        (e : places.Ref (array_of_numbers kind) ≡ places.Unset). cc,
  )

  given_slot : (slot : Slot) → IsSlot types.classes slot → IfSome (Some (place_of types slot)) (IsResult types)
  given_slot slot s = (slot_of_world types laws slot s, slot_is_set types slot)

  given_call : (result : Option Slot) → IfSome result (IsSlot types.classes) → IfSome (option_map (place_of types) result) (IsResult types)
  given_call None s = tt
  given_call (Some slot) s = given_slot slot s

-- ---- returns and static fields

module _ (p : Program) (m : Method) (laws : AreLawful (types_of p.world)) where
  returned_within : (count : ℕ) (a b wide : PlaceTypes) → IsProper (types_of p.world) count a → IsFrameWithin (types_of p.world) a b
      → (result : Option Slot) → ireturn_types (types_of p.world) result b ≡ Some wide
      → Narrower (types_of p.world) (ireturn_types (types_of p.world) result a) wide
  returned_within count a b wide o w (Some (slots.Num kind)) e = acted_within (types_of p.world) laws (wants.Int ∷ []) None count a
      b wide tt o w e
  returned_within count a b wide o w (Some (slots.Ref t)) e = absurd (none-some wide e)
  returned_within count a b wide o w None e = absurd (none-some wide e)

  returned_proper : (count : ℕ) (a after : PlaceTypes) → IsProper (types_of p.world) count a → (result : Option Slot)
      → ireturn_types (types_of p.world) result a ≡ Some after → IsProper (types_of p.world) count after
  returned_proper count a after o (Some (slots.Num kind)) e = acted_proper (types_of p.world) laws (wants.Int ∷ []) None count a
      after tt o e
  returned_proper count a after o (Some (slots.Ref t)) e = absurd (none-some after e)
  returned_proper count a after o None e = absurd (none-some after e)

  reference_returned_within : (count : ℕ) (a b wide : PlaceTypes) → IsProper (types_of p.world) count a
      → IsFrameWithin (types_of p.world) a b → (result : Option Slot) → areturn_types (types_of p.world) result b ≡ Some wide
      → Narrower (types_of p.world) (areturn_types (types_of p.world) result a) wide
  reference_returned_within count a b wide o w (Some (slots.Num kind)) e = absurd (none-some wide e)
  reference_returned_within count a b wide o w (Some (slots.Ref t)) e = acted_within (types_of p.world) laws (wants.Below t ∷ [])
      None count a b wide tt o w e
  reference_returned_within count a b wide o w None e = absurd (none-some wide e)

  reference_returned_proper : (count : ℕ) (a after : PlaceTypes) → IsProper (types_of p.world) count a → (result : Option Slot)
      → areturn_types (types_of p.world) result a ≡ Some after → IsProper (types_of p.world) count after
  reference_returned_proper count a after o (Some (slots.Num kind)) e = absurd (none-some after e)
  reference_returned_proper count a after o (Some (slots.Ref t)) e = acted_proper (types_of p.world) laws (wants.Below t ∷ []) None
      count a after tt o e
  reference_returned_proper count a after o None e = absurd (none-some after e)

  nothing_returned_within : (a b wide : PlaceTypes) → IsFrameWithin (types_of p.world) a b → (result : Option Slot)
      → return_types result b ≡ Some wide → Narrower (types_of p.world) (return_types result a) wide
  nothing_returned_within a b wide w (Some slot) e = absurd (none-some wide e)
  nothing_returned_within a b wide w None e = same_within (types_of p.world) laws a b wide w e

  nothing_returned_proper : (count : ℕ) (a after : PlaceTypes) → IsProper (types_of p.world) count a → (result : Option Slot)
      → return_types result a ≡ Some after → IsProper (types_of p.world) count after
  nothing_returned_proper count a after o (Some slot) e = absurd (none-some after e)
  nothing_returned_proper count a after o None e = same_proper (types_of p.world) laws count a after o e

  good_static : (place : ℕ) (slot : Slot) → IfSome (static_slot p place) (IsSlot (length p.world)) → static_slot p place ≡ Some slot
      → IsSlot (length p.world) slot
  good_static place slot good e = subst (λ (x : Option Slot). IfSome x (IsSlot (length p.world))) e good

  getstatic_within : (place count : ℕ) (a b wide : PlaceTypes) → IfSome (static_slot p place) (IsSlot (length p.world))
      → IsProper (types_of p.world) count a → IsFrameWithin (types_of p.world) a b → getstatic_types p place b ≡ Some wide
      → Narrower (types_of p.world) (getstatic_types p place a) wide
  unfolding getstatic_types
  getstatic_within place count a b wide good o w e =
      let q = then_some (λ (slot : Slot). acted (types_of p.world) [] (Some (place_of (types_of p.world) slot)) b)
      (static_slot p place) wide e in
      let r = acted_within (types_of p.world) laws [] (Some (place_of (types_of p.world) q.0)) count a b wide
      (given_slot (types_of p.world) laws q.0 (good_static place q.0 good q.1.0)) o w q.1.1 in (
        r.0,
        (
          ap (option_and_then (λ (slot : Slot). acted (types_of p.world) [] (Some (place_of (types_of p.world) slot)) a)) q.1.0
              ∙ r.1.0,
          r.1.1,
        ),
      )

  getstatic_proper : (place count : ℕ) (a after : PlaceTypes) → IfSome (static_slot p place) (IsSlot (length p.world))
      → IsProper (types_of p.world) count a → getstatic_types p place a ≡ Some after → IsProper (types_of p.world) count after
  unfolding getstatic_types
  getstatic_proper place count a after good o e =
      let q = then_some (λ (slot : Slot). acted (types_of p.world) [] (Some (place_of (types_of p.world) slot)) a)
      (static_slot p place) after e in
      acted_proper (types_of p.world) laws [] (Some (place_of (types_of p.world) q.0)) count a after
      (given_slot (types_of p.world) laws q.0 (good_static place q.0 good q.1.0)) o q.1.1

  putstatic_within : (place count : ℕ) (a b wide : PlaceTypes) → IsProper (types_of p.world) count a
      → IsFrameWithin (types_of p.world) a b → putstatic_types p place b ≡ Some wide
      → Narrower (types_of p.world) (putstatic_types p place a) wide
  unfolding putstatic_types
  putstatic_within place count a b wide o w e =
      let q = then_some (λ (slot : Slot). acted (types_of p.world) (want_of slot ∷ []) None b) (static_slot p place) wide e in
      let r = acted_within (types_of p.world) laws (want_of q.0 ∷ []) None count a b wide tt o w q.1.1 in
      (r.0, (ap (option_and_then (λ (slot : Slot). acted (types_of p.world) (want_of slot ∷ []) None a)) q.1.0 ∙ r.1.0, r.1.1))

  putstatic_proper : (place count : ℕ) (a after : PlaceTypes) → IsProper (types_of p.world) count a
      → putstatic_types p place a ≡ Some after → IsProper (types_of p.world) count after
  unfolding putstatic_types
  putstatic_proper place count a after o e =
      let q = then_some (λ (slot : Slot). acted (types_of p.world) (want_of slot ∷ []) None a) (static_slot p place) after e in
      acted_proper (types_of p.world) laws (want_of q.0 ∷ []) None count a after tt o q.1.1

  -- ---- the table

  pub types_within : (form : Form) (count : ℕ) (a b wide : PlaceTypes) → IsGoodForm p form → IsProper (types_of p.world) count a
      → IsFrameWithin (types_of p.world) a b → types_after p m form b ≡ Some wide
      → Narrower (types_of p.world) (types_after p m form a) wide
  types_within Nop count a b wide good o w e = same_within (types_of p.world) laws a b wide w e
  types_within AconstNull count a b wide good o w e = acted_within (types_of p.world) laws [] (Some places.Null) count a b wide
      (given_null (types_of p.world) laws) o w e
  types_within (Iconst n) count a b wide good o w e = acted_within (types_of p.world) laws [] (Some places.Int) count a b wide
      (given_int (types_of p.world) laws) o w e
  types_within (Iload n) count a b wide good o w e = iload_within (types_of p.world) laws n a b wide w e
  types_within (Aload n) count a b wide good o w e = aload_within (types_of p.world) laws n a b wide w e
  types_within (Istore n) count a b wide good o w e = istore_within (types_of p.world) laws n count a b wide o w e
  types_within (Astore n) count a b wide good o w e = astore_within (types_of p.world) laws n a b wide w e
  types_within (Iinc n by) count a b wide good o w e = iinc_within (types_of p.world) laws n a b wide w e
  types_within (Shuffle shuffle) count a b wide good o w e = shuffle_within (types_of p.world) laws shuffle a b wide w e
  types_within (Arith op) count a b wide good o w e = acted_within (types_of p.world) laws (wants.Int ∷ wants.Int ∷ [])
      (Some places.Int) count a b wide (given_int (types_of p.world) laws) o w e
  types_within Ineg count a b wide good o w e = acted_within (types_of p.world) laws (wants.Int ∷ []) (Some places.Int) count a b
      wide (given_int (types_of p.world) laws) o w e
  types_within (Narrow kind) count a b wide good o w e = acted_within (types_of p.world) laws (wants.Int ∷ []) (Some places.Int)
      count a b wide (given_int (types_of p.world) laws) o w e
  types_within (If cond place) count a b wide good o w e = acted_within (types_of p.world) laws (wants.Int ∷ []) None count a b wide
      tt o w e
  types_within (IfIcmp cond place) count a b wide good o w e = acted_within (types_of p.world) laws (wants.Int ∷ wants.Int ∷ [])
      None count a b wide tt o w e
  types_within (IfAcmpeq place) count a b wide good o w e = acted_within (types_of p.world) laws
      (wants.Reference ∷ wants.Reference ∷ []) None count a b wide tt o w e
  types_within (IfAcmpne place) count a b wide good o w e = acted_within (types_of p.world) laws
      (wants.Reference ∷ wants.Reference ∷ []) None count a b wide tt o w e
  types_within (Ifnull place) count a b wide good o w e = acted_within (types_of p.world) laws (wants.Reference ∷ []) None count a b
      wide tt o w e
  types_within (Ifnonnull place) count a b wide good o w e = acted_within (types_of p.world) laws (wants.Reference ∷ []) None count
      a b wide tt o w e
  types_within (Goto place) count a b wide good o w e = same_within (types_of p.world) laws a b wide w e
  types_within (Tableswitch default low targets) count a b wide good o w e = acted_within (types_of p.world) laws (wants.Int ∷ [])
      None count a b wide tt o w e
  types_within (Lookupswitch default cases) count a b wide good o w e = acted_within (types_of p.world) laws (wants.Int ∷ []) None
      count a b wide tt o w e
  types_within Ireturn count a b wide good o w e = returned_within count a b wide o w m.result e
  types_within Areturn count a b wide good o w e = reference_returned_within count a b wide o w m.result e
  types_within Return count a b wide good o w e = nothing_returned_within a b wide w m.result e
  types_within (Getstatic place) count a b wide good o w e = getstatic_within place count a b wide good o w e
  types_within (Putstatic place) count a b wide good o w e = putstatic_within place count a b wide o w e
  types_within (Getfield used) count a b wide good o w e = acted_within (types_of p.world) laws
      (wants.Below (class_type used.class) ∷ []) (Some (place_of (types_of p.world) used.slot)) count a b wide
      (given_slot (types_of p.world) laws used.slot good) o w e
  types_within (Putfield used) count a b wide good o w e = acted_within (types_of p.world) laws
      (want_of used.slot ∷ wants.Below (class_type used.class) ∷ []) None count a b wide tt o w e
  types_within (Invokevirtual call) count a b wide good o w e = acted_within (types_of p.world) laws
      (argument_wants call ++ wants.Below (class_type call.class) ∷ []) (option_map (place_of (types_of p.world)) call.result) count
      a b wide (given_call (types_of p.world) laws call.result good) o w e
  types_within (Invokespecial call) count a b wide good o w e = acted_within (types_of p.world) laws
      (argument_wants call ++ special_receiver p.world m.class call ∷ []) (option_map (place_of (types_of p.world)) call.result)
      count a b wide (given_call (types_of p.world) laws call.result good) o w e
  types_within (Invokestatic call) count a b wide good o w e = acted_within (types_of p.world) laws (argument_wants call)
      (option_map (place_of (types_of p.world)) call.result) count a b wide (given_call (types_of p.world) laws call.result good) o w e
  types_within (Invokeinterface call) count a b wide good o w e = acted_within (types_of p.world) laws
      (argument_wants call ++ wants.Reference ∷ []) (option_map (place_of (types_of p.world)) call.result) count a b wide
      (given_call (types_of p.world) laws call.result good) o w e
  types_within (New t) count a b wide good o w e = acted_within (types_of p.world) laws []
      (Some (places.Ref (((types_of p.world)).erase t))) count a b wide (given_erased (types_of p.world) laws t good) o w e
  types_within (Newarray kind) count a b wide good o w e = acted_within (types_of p.world) laws (wants.Int ∷ [])
      (Some (places.Ref (array_of_numbers kind))) count a b wide (given_numbers (types_of p.world) laws kind) o w e
  types_within (Anewarray t) count a b wide good o w e = acted_within (types_of p.world) laws (wants.Int ∷ [])
      (Some (places.Ref (((types_of p.world)).erase (array_of t)))) count a b wide
      (given_erased (types_of p.world) laws (array_of t) (array_reference (length p.world) t good.0 good.1)) o w e
  types_within Arraylength count a b wide good o w e = acted_within (types_of p.world) laws (wants.Array ∷ []) (Some places.Int)
      count a b wide (given_int (types_of p.world) laws) o w e
  types_within (NumberLoad for) count a b wide good o w e = acted_within (types_of p.world) laws
      (wants.Int ∷ wants.Numbers for ∷ []) (Some places.Int) count a b wide (given_int (types_of p.world) laws) o w e
  types_within Aaload count a b wide good o w e = aaload_within (types_of p.world) laws count a b wide o w e
  types_within (NumberStore for) count a b wide good o w e = acted_within (types_of p.world) laws
      (wants.Int ∷ wants.Int ∷ wants.Numbers for ∷ []) None count a b wide tt o w e
  types_within Aastore count a b wide good o w e = acted_within (types_of p.world) laws
      (wants.Reference ∷ wants.Int ∷ wants.References ∷ []) None count a b wide tt o w e
  types_within Athrow count a b wide good o w e = acted_within (types_of p.world) laws (wants.Below (class_type throwable) ∷ [])
      None count a b wide tt o w e
  types_within (Checkcast t) count a b wide good o w e = acted_within (types_of p.world) laws (wants.Reference ∷ [])
      (Some (places.Ref (((types_of p.world)).erase t))) count a b wide (given_erased (types_of p.world) laws t good) o w e
  types_within (Instanceof t) count a b wide good o w e = acted_within (types_of p.world) laws (wants.Reference ∷ [])
      (Some places.Int) count a b wide (given_int (types_of p.world) laws) o w e

  pub types_proper : (form : Form) (count : ℕ) (a after : PlaceTypes) → IsGoodForm p form → IsProper (types_of p.world) count a
      → types_after p m form a ≡ Some after → IsProper (types_of p.world) count after
  types_proper Nop count a after good o e = same_proper (types_of p.world) laws count a after o e
  types_proper AconstNull count a after good o e = acted_proper (types_of p.world) laws [] (Some places.Null) count a after
      (given_null (types_of p.world) laws) o e
  types_proper (Iconst n) count a after good o e = acted_proper (types_of p.world) laws [] (Some places.Int) count a after
      (given_int (types_of p.world) laws) o e
  types_proper (Iload n) count a after good o e = iload_proper (types_of p.world) laws n count a after o e
  types_proper (Aload n) count a after good o e = aload_proper (types_of p.world) laws n count a after o e
  types_proper (Istore n) count a after good o e = istore_proper (types_of p.world) laws n count a after o e
  types_proper (Astore n) count a after good o e = astore_proper (types_of p.world) laws n count a after o e
  types_proper (Iinc n by) count a after good o e = iinc_proper (types_of p.world) laws n count a after o e
  types_proper (Shuffle shuffle) count a after good o e = shuffle_proper (types_of p.world) laws shuffle count a after o e
  types_proper (Arith op) count a after good o e = acted_proper (types_of p.world) laws (wants.Int ∷ wants.Int ∷ [])
      (Some places.Int) count a after (given_int (types_of p.world) laws) o e
  types_proper Ineg count a after good o e = acted_proper (types_of p.world) laws (wants.Int ∷ []) (Some places.Int) count a after
      (given_int (types_of p.world) laws) o e
  types_proper (Narrow kind) count a after good o e = acted_proper (types_of p.world) laws (wants.Int ∷ []) (Some places.Int) count
      a after (given_int (types_of p.world) laws) o e
  types_proper (If cond place) count a after good o e = acted_proper (types_of p.world) laws (wants.Int ∷ []) None count a after tt o e
  types_proper (IfIcmp cond place) count a after good o e = acted_proper (types_of p.world) laws (wants.Int ∷ wants.Int ∷ []) None
      count a after tt o e
  types_proper (IfAcmpeq place) count a after good o e = acted_proper (types_of p.world) laws
      (wants.Reference ∷ wants.Reference ∷ []) None count a after tt o e
  types_proper (IfAcmpne place) count a after good o e = acted_proper (types_of p.world) laws
      (wants.Reference ∷ wants.Reference ∷ []) None count a after tt o e
  types_proper (Ifnull place) count a after good o e = acted_proper (types_of p.world) laws (wants.Reference ∷ []) None count a
      after tt o e
  types_proper (Ifnonnull place) count a after good o e = acted_proper (types_of p.world) laws (wants.Reference ∷ []) None count a
      after tt o e
  types_proper (Goto place) count a after good o e = same_proper (types_of p.world) laws count a after o e
  types_proper (Tableswitch default low targets) count a after good o e = acted_proper (types_of p.world) laws (wants.Int ∷ []) None
      count a after tt o e
  types_proper (Lookupswitch default cases) count a after good o e = acted_proper (types_of p.world) laws (wants.Int ∷ []) None
      count a after tt o e
  types_proper Ireturn count a after good o e = returned_proper count a after o m.result e
  types_proper Areturn count a after good o e = reference_returned_proper count a after o m.result e
  types_proper Return count a after good o e = nothing_returned_proper count a after o m.result e
  types_proper (Getstatic place) count a after good o e = getstatic_proper place count a after good o e
  types_proper (Putstatic place) count a after good o e = putstatic_proper place count a after o e
  types_proper (Getfield used) count a after good o e = acted_proper (types_of p.world) laws
      (wants.Below (class_type used.class) ∷ []) (Some (place_of (types_of p.world) used.slot)) count a after
      (given_slot (types_of p.world) laws used.slot good) o e
  types_proper (Putfield used) count a after good o e = acted_proper (types_of p.world) laws
      (want_of used.slot ∷ wants.Below (class_type used.class) ∷ []) None count a after tt o e
  types_proper (Invokevirtual call) count a after good o e = acted_proper (types_of p.world) laws
      (argument_wants call ++ wants.Below (class_type call.class) ∷ []) (option_map (place_of (types_of p.world)) call.result) count
      a after (given_call (types_of p.world) laws call.result good) o e
  types_proper (Invokespecial call) count a after good o e = acted_proper (types_of p.world) laws
      (argument_wants call ++ special_receiver p.world m.class call ∷ []) (option_map (place_of (types_of p.world)) call.result)
      count a after (given_call (types_of p.world) laws call.result good) o e
  types_proper (Invokestatic call) count a after good o e = acted_proper (types_of p.world) laws (argument_wants call)
      (option_map (place_of (types_of p.world)) call.result) count a after (given_call (types_of p.world) laws call.result good) o e
  types_proper (Invokeinterface call) count a after good o e = acted_proper (types_of p.world) laws
      (argument_wants call ++ wants.Reference ∷ []) (option_map (place_of (types_of p.world)) call.result) count a after
      (given_call (types_of p.world) laws call.result good) o e
  types_proper (New t) count a after good o e = acted_proper (types_of p.world) laws []
      (Some (places.Ref (((types_of p.world)).erase t))) count a after (given_erased (types_of p.world) laws t good) o e
  types_proper (Newarray kind) count a after good o e = acted_proper (types_of p.world) laws (wants.Int ∷ [])
      (Some (places.Ref (array_of_numbers kind))) count a after (given_numbers (types_of p.world) laws kind) o e
  types_proper (Anewarray t) count a after good o e = acted_proper (types_of p.world) laws (wants.Int ∷ [])
      (Some (places.Ref (((types_of p.world)).erase (array_of t)))) count a after
      (given_erased (types_of p.world) laws (array_of t) (array_reference (length p.world) t good.0 good.1)) o e
  types_proper Arraylength count a after good o e = acted_proper (types_of p.world) laws (wants.Array ∷ []) (Some places.Int) count
      a after (given_int (types_of p.world) laws) o e
  types_proper (NumberLoad for) count a after good o e = acted_proper (types_of p.world) laws (wants.Int ∷ wants.Numbers for ∷ [])
      (Some places.Int) count a after (given_int (types_of p.world) laws) o e
  types_proper Aaload count a after good o e = aaload_proper (types_of p.world) laws count a after o e
  types_proper (NumberStore for) count a after good o e = acted_proper (types_of p.world) laws
      (wants.Int ∷ wants.Int ∷ wants.Numbers for ∷ []) None count a after tt o e
  types_proper Aastore count a after good o e = acted_proper (types_of p.world) laws
      (wants.Reference ∷ wants.Int ∷ wants.References ∷ []) None count a after tt o e
  types_proper Athrow count a after good o e = acted_proper (types_of p.world) laws (wants.Below (class_type throwable) ∷ []) None
      count a after tt o e
  types_proper (Checkcast t) count a after good o e = acted_proper (types_of p.world) laws (wants.Reference ∷ [])
      (Some (places.Ref (((types_of p.world)).erase t))) count a after (given_erased (types_of p.world) laws t good) o e
  types_proper (Instanceof t) count a after good o e = acted_proper (types_of p.world) laws (wants.Reference ∷ []) (Some places.Int)
      count a after (given_int (types_of p.world) laws) o e
