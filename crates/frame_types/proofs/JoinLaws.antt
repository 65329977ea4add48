-- Two types of a world have a least one that is as wide as both, since the erased types above one type form a chain.
use Rattle.std.proofs.Common.{◌≡◌, ℕ, Bool, true, false, ◌&&◌, List, [], ◌∷◌, length, ◌⊎◌, inl, inr, refl, sym, ap, subst, ◌∙◌, arith}
use Rattle.std.specs.Prelude.{IsTrue, All}
use Rattle.std.specs.List.{AllZip}
use Rattle.std.proofs.lemmas.Bool.{false≢true}
use Rattle.std.proofs.lemmas.List.Elements.{All-nil, All-cons, All-head, All-tail, length_all_zip}
use Rattle.jvm_values.specs.declared.types.Ty.{Ty}
use Rattle.jvm_values.specs.declared.typing.PlaceType.{PlaceType}
use Rattle.jvm_values.specs.declared.typing.PlaceType.TheVariants as places
use Rattle.jvm_values.specs.States.{PlaceTypes}
use Rattle.jvm_values.specs.Subtyping.{object_type, IsReference}
use Rattle.jvm_values.specs.TypedHeaps.{WorldTypes, AreLawful}
use Rattle.frame_types.specs.Places.{IsWithin, IsFrameWithin, IsOfWorld, IsSet, IsProper}
use Rattle.frame_types.specs.Joins.{IsPlaceJoin, IsFrameJoin}
use Rattle.frame_types.specs.Heights.{all_types}
use Rattle.frame_types.proofs.HeightLaws.{Among, among_all}
use Rattle.frame_types.proofs.GrowthLaws.{within_refl}

both : (a b : Bool) → (a && b) ≡ true → (a ≡ true) × (b ≡ true)
both true b e = (refl, e)
both false b e = absurd (false≢true e)

true_or_false : (b : Bool) → (b ≡ true) ⊎ (b ≡ false)
true_or_false true = inl refl
true_or_false false = inr refl

module _ (types : WorldTypes) (laws : AreLawful types) where
  -- ---- reference types

  -- an erased type above both
  record IsUpper (s t u : Ty) : Type 0 where
    left : IsTrue (types.sub s u)
    right : IsTrue (types.sub t u)
    erased : IsTrue (types.sub (types.erase u) u)

  -- the least of those that are listed
  record IsLeastUpper (s t : Ty) (found : List Ty) (start best : Ty) : Type 0 where
    upper : IsUpper s t best
    below : IsTrue (types.sub best start)
    least : (u : Ty) → Among u found → IsUpper s t u → IsTrue (types.sub best u)

  abbrev is_better : Ty → Ty → Ty → Ty → Bool
  is_better s t c u = (types.sub s u && types.sub t u) && (types.sub (types.erase u) u && types.sub u c)

  is_erased : (u : Ty) → IsReference types.classes u → IsTrue (types.sub (types.erase u) u) → types.erase u ≡ u
  is_erased u r h = laws.antisymmetric (types.erase u) u h (laws.erase_up u r)

  better_upper : (s t c u : Ty) → is_better s t c u ≡ true → IsUpper s t u × IsTrue (types.sub u c)
  better_upper s t c u e =
      let a = both (types.sub s u && types.sub t u) (types.sub (types.erase u) u && types.sub u c) e in
      let b = both (types.sub s u) (types.sub t u) a.0 in
      let d = both (types.sub (types.erase u) u) (types.sub u c) a.1 in
      (record { left = b.0; right = b.1; erased = d.0 }, d.1)

  all_true : (a b c d : Bool) → a ≡ true → b ≡ true → c ≡ true → d ≡ true → ((a && b) && (c && d)) ≡ true
  all_true true true true true p q r s = refl
  all_true true true true false p q r s = absurd (false≢true s)
  all_true true true false d p q r s = absurd (false≢true r)
  all_true true false c d p q r s = absurd (false≢true q)
  all_true false b c d p q r s = absurd (false≢true p)

  not_better : (s t c u : Ty) → IsUpper s t c → is_better s t c u ≡ false → IsUpper s t u → IsTrue (types.sub c u)
  not_better s t c u h e k =
      let rc = (laws.of_world s c h.left).1 in
      let ru = (laws.of_world s u k.left).1 in
      elim (laws.chain s c u h.left k.left (is_erased c rc h.erased) (is_erased u ru k.erased)) [
        | inl l ↦ l
        | inr l ↦ absurd (false≢true (sym e ∙ all_true (types.sub s u) (types.sub t u) (types.sub (types.erase u) u) (types.sub u c)
            k.left k.right k.erased l))
      ]

  least_upper : (s t : Ty) (found : List Ty) (c : Ty) → IsUpper s t c → (best : Ty) × IsLeastUpper s t found c best
  least_upper s t [] c h = (c, record { upper = h; below = laws.reflexive c (laws.of_world s c h.left).1; least = λ u m k. absurd m })
  least_upper s t (x ∷ found) c h = elim (true_or_false (is_better s t c x)) [
    | inl e ↦
        let b = better_upper s t c x e in
        let r = least_upper s t found x b.0 in (
          r.0,
          record {
            upper = r.1.upper;
            below = laws.transitive r.0 x c r.1.below b.1;
            least = λ u m k. elim m [
              | inl same ↦ subst (λ (y : Ty). IsTrue (types.sub r.0 y)) (sym same) r.1.below
              | inr later ↦ r.1.least u later k
            ];
          },
        )
    | inr e ↦
        let r = least_upper s t found c h in (
          r.0,
          record {
            upper = r.1.upper;
            below = r.1.below;
            least = λ u m k. elim m [
              | inl same ↦ laws.transitive r.0 c u r.1.below (not_better s t c u h (ap (is_better s t c) same ∙ e) k)
              | inr later ↦ r.1.least u later k
            ];
          },
        )
  ]

  object_upper : (s t : Ty) → IsReference types.classes s → IsReference types.classes t → IsUpper s t object_type
  object_upper s t r q =
      let up = laws.object_on_top s r in
      let o = (laws.of_world s object_type up).1 in
      record {
        left = up;
        right = laws.object_on_top t q;
        erased = laws.object_on_top (types.erase object_type)
            (laws.of_world object_type (types.erase object_type) (laws.erase_up object_type o)).1;
      }

  -- ---- places

  least_ref : (s t best : Ty) → IsLeastUpper s t (all_types types) object_type best → (top : PlaceType) → IsOfWorld types top
      → IsWithin types (places.Ref s) top → IsWithin types (places.Ref t) top → IsWithin types (places.Ref best) top
  least_ref s t best h places.Unset o a b = tt
  least_ref s t best h places.Int o a b = absurd a
  least_ref s t best h places.Null o a b = absurd a
  least_ref s t best h (places.Ref u) o a b = h.least u (among_all types u o.0)
      (record { left = a; right = b; erased = subst (λ (x : Ty). IsTrue (types.sub x u)) (sym o.1) (laws.reflexive u o.0) })

  ref_join : (s t : Ty) → IsReference types.classes s → IsReference types.classes t
      → (join : PlaceType) × IsPlaceJoin types (places.Ref s) (places.Ref t) join
  ref_join s t r q =
      let b = least_upper s t (all_types types) object_type (object_upper s t r q) in
      let of = (laws.of_world s b.0 b.1.upper.left).1 in (
        places.Ref b.0,
        record {
          left = b.1.upper.left;
          right = b.1.upper.right;
          of_world = (of, is_erased b.0 of b.1.upper.erased);
          least = least_ref s t b.0 b.1;
        },
      )

  itself_right : (a b : PlaceType) → IsWithin types a b → IsOfWorld types b → IsPlaceJoin types a b b
  itself_right a b h o = record { left = h; right = within_refl types laws b o; of_world = o; least = λ top t p q. q }

  itself_left : (a b : PlaceType) → IsWithin types b a → IsOfWorld types a → IsPlaceJoin types a b a
  itself_left a b h o = record { left = within_refl types laws a o; right = h; of_world = o; least = λ top t p q. p }

  int_and_null : (top : PlaceType) → IsWithin types places.Int top → IsWithin types places.Null top → IsWithin types places.Unset top
  int_and_null places.Unset p q = tt
  int_and_null places.Int p q = absurd q
  int_and_null places.Null p q = absurd p
  int_and_null (places.Ref u) p q = absurd p

  int_and_ref : (t : Ty) (top : PlaceType) → IsWithin types places.Int top → IsWithin types (places.Ref t) top
      → IsWithin types places.Unset top
  int_and_ref t places.Unset p q = tt
  int_and_ref t places.Int p q = absurd q
  int_and_ref t places.Null p q = absurd p
  int_and_ref t (places.Ref u) p q = absurd p

  nothing : (a b : PlaceType) → ((top : PlaceType) → IsWithin types a top → IsWithin types b top → IsWithin types places.Unset top)
      → IsPlaceJoin types a b places.Unset
  nothing a b h = record { left = tt; right = tt; of_world = tt; least = λ top t p q. h top p q }

  pub join_exists : (a b : PlaceType) → IsOfWorld types a → IsOfWorld types b → (join : PlaceType) × IsPlaceJoin types a b join
  join_exists places.Unset b p q = (places.Unset, itself_left places.Unset b tt tt)
  join_exists places.Int places.Unset p q = (places.Unset, itself_right places.Int places.Unset tt tt)
  join_exists places.Int places.Int p q = (places.Int, itself_left places.Int places.Int tt tt)
  join_exists places.Int places.Null p q = (places.Unset, nothing places.Int places.Null int_and_null)
  join_exists places.Int (places.Ref t) p q = (places.Unset, nothing places.Int (places.Ref t) (int_and_ref t))
  join_exists places.Null places.Unset p q = (places.Unset, itself_right places.Null places.Unset tt tt)
  join_exists places.Null places.Int p q = (places.Unset, nothing places.Null places.Int (λ top a b. int_and_null top b a))
  join_exists places.Null places.Null p q = (places.Null, itself_left places.Null places.Null tt tt)
  join_exists places.Null (places.Ref t) p q = (places.Ref t, itself_right places.Null (places.Ref t) tt q)
  join_exists (places.Ref s) places.Unset p q = (places.Unset, itself_right (places.Ref s) places.Unset tt tt)
  join_exists (places.Ref s) places.Int p q = (places.Unset, nothing (places.Ref s) places.Int (λ top a b. int_and_ref s top b a))
  join_exists (places.Ref s) places.Null p q = (places.Ref s, itself_left (places.Ref s) places.Null tt p)
  join_exists (places.Ref s) (places.Ref t) p q = ref_join s t p.0 q.0

  -- ---- lists of places

  record IsListJoin (xs bs js : List PlaceType) : Type 0 where
    left : AllZip (IsWithin types) xs js
    right : AllZip (IsWithin types) bs js
    of_world : All (IsOfWorld types) js
    least : (top : List PlaceType) → All (IsOfWorld types) top → AllZip (IsWithin types) xs top → AllZip (IsWithin types) bs top
        → AllZip (IsWithin types) js top

  least_cons : (a b j : PlaceType) (xs bs js : List PlaceType) → IsPlaceJoin types a b j → IsListJoin xs bs js
      → (top : List PlaceType) → All (IsOfWorld types) top → AllZip (IsWithin types) (a ∷ xs) top
      → AllZip (IsWithin types) (b ∷ bs) top → AllZip (IsWithin types) (j ∷ js) top
  least_cons a b j xs bs js h r [] o p q = absurd p
  least_cons a b j xs bs js h r (t ∷ top) o p q =
      (h.least t (All-head (IsOfWorld types) t top o) p.0 q.0, r.least top (All-tail (IsOfWorld types) t top o) p.1 q.1)

  list_join : (xs bs : List PlaceType) → length xs ≡ length bs → All (IsOfWorld types) xs → All (IsOfWorld types) bs
      → (js : List PlaceType) × IsListJoin xs bs js
  list_join [] [] l p q = ([], record { left = tt; right = tt; of_world = All-nil (IsOfWorld types); least = λ top o a b. a })
  list_join [] (b ∷ bs) l p q = absurd (omega (arith, l))
  list_join (a ∷ xs) [] l p q = absurd (omega (arith, l))
  list_join (a ∷ xs) (b ∷ bs) l p q =
      let h = join_exists a b (All-head (IsOfWorld types) a xs p) (All-head (IsOfWorld types) b bs q) in
      let r = list_join xs bs (omega (arith, l)) (All-tail (IsOfWorld types) a xs p) (All-tail (IsOfWorld types) b bs q) in (
        h.0 ∷ r.0,
        record {
          left = (h.1.left, r.1.left);
          right = (h.1.right, r.1.right);
          of_world = All-cons (IsOfWorld types) h.0 r.0 h.1.of_world r.1.of_world;
          least = least_cons a b h.0 xs bs r.0 h.1 r.1;
        },
      )

  -- ---- frames

  set_under : (a b : PlaceType) → IsWithin types a b → IsSet b → IsSet a
  set_under places.Unset places.Unset h s = s
  set_under places.Unset places.Int h s = absurd h
  set_under places.Unset places.Null h s = absurd h
  set_under places.Unset (places.Ref t) h s = absurd h
  set_under places.Int b h s = λ (e : places.Int ≡ places.Unset). cc
  set_under places.Null b h s = λ (e : places.Null ≡ places.Unset). cc
  set_under (places.Ref t) b h s = λ (e : places.Ref t ≡ places.Unset). cc

  all_set_under : (xs bs : List PlaceType) → AllZip (IsWithin types) xs bs → All IsSet bs → All IsSet xs
  all_set_under [] [] h s = All-nil IsSet
  all_set_under [] (b ∷ bs) h s = absurd h
  all_set_under (a ∷ xs) [] h s = absurd h
  all_set_under (a ∷ xs) (b ∷ bs) h s = All-cons IsSet a xs (set_under a b h.0 (All-head IsSet b bs s))
      (all_set_under xs bs h.1 (All-tail IsSet b bs s))

  -- two frames that one frame is as wide as have a least such one
  pub frame_join : (max_locals : ℕ) (old more top : PlaceTypes) → IsProper types max_locals old → IsProper types max_locals more
      → IsProper types max_locals top → IsFrameWithin types old top → IsFrameWithin types more top
      → (new : PlaceTypes) × IsFrameJoin types max_locals old more new
  frame_join max_locals old more top p q t a b =
      let depth = length_all_zip (IsWithin types) old.stack top.stack a.stack
      ∙ sym (length_all_zip (IsWithin types) more.stack top.stack b.stack) in
      let l = list_join old.locals more.locals (p.count ∙ sym q.count) p.locals q.locals in
      let s = list_join old.stack more.stack depth p.stack q.stack in (
        record { locals = l.0; stack = s.0 },
        record {
          proper = record {
            count = sym (length_all_zip (IsWithin types) old.locals l.0 l.1.left) ∙ p.count;
            set = all_set_under s.0 top.stack (s.1.least top.stack t.stack a.stack b.stack) t.set;
            locals = l.1.of_world;
            stack = s.1.of_world;
          };
          left = record { locals = l.1.left; stack = s.1.left };
          right = record { locals = l.1.right; stack = s.1.right };
          least = λ above h x y. record {
            locals = l.1.least above.locals h.locals x.locals y.locals;
            stack = s.1.least above.stack
                h.stack x.stack y.stack;
          };
        },
      )
