-- Lists of places of which the first so many are joined.
use Rattle.std.proofs.Common.{◌≡◌, ◌≢◌, ℕ, ◌+◌, ◌<◌, Bool, true, false, List, length, get_or, set, refl, sym, ap, subst, ◌∙◌, arith}
use Rattle.std.proofs.Common.{below_more}
use Rattle.std.specs.Prelude.{All}
use Rattle.std.specs.List.{AllZip}
use Rattle.std.proofs.lemmas.List.{length-set, get_or-set_other, get_or-set_same, get_or_read}
use Rattle.std.proofs.lemmas.List.Elements.{length_all_zip, All-set, All-get_or, All-from_get_or, AllZip-get_or}
use Rattle.jvm_values.specs.declared.typing.PlaceType.{PlaceType}
use Rattle.jvm_values.specs.declared.typing.PlaceType.TheVariants as places
use Rattle.jvm_values.specs.States.{PlaceTypes}
use Rattle.jvm_values.specs.TypedHeaps.{WorldTypes}
use Rattle.frame_types.specs.Places.{IsWithin, IsOfWorld, IsSet, IsProper}
use Rattle.frame_types.specs.Joins.{IsPlaceJoin, AreJoinsBelow, AreJoins, AreApart, IsFrameJoin, AreFramesApart}
use Rattle.frame_types.proofs.Lists.{all_zip}

-- what a loop over two lists keeps
pub record AreMerging (types : WorldTypes) (i : ℕ) (old more now : List PlaceType) (grew : Bool) : Type 0 where
  pub below : AreJoinsBelow types i old more now
  pub same : grew ≡ false → now ≡ old
  pub changed : grew ≡ true → now ≡ old → ⊥

-- a stack with a set entry replaced
pub set_next : (now : List PlaceType) (i : ℕ) (j : PlaceType) (later : List PlaceType) → All IsSet now → IsSet j
    → later ≡ set now i j → All IsSet later
set_next now i j later a s e = subst (All IsSet) (sym e) (All-set IsSet now i j s a)

pub same_frame : (a b : PlaceTypes) → a.locals ≡ b.locals → a.stack ≡ b.stack → a ≡ b
same_frame a b p q =
    let f : List PlaceType → PlaceTypes = λ xs. record { locals = xs; stack = a.stack } in
    let g : List PlaceType → PlaceTypes = λ xs. record { locals = b.locals; stack = xs } in
    ap f p ∙ ap g q

module _ (types : WorldTypes) where
  pub none_yet : (old more : List PlaceType) → AreMerging types 0 old more old false
  none_yet old more = record {
    below = record { long = refl; joins = λ k l. absurd (omega arith); others = λ k l. refl };
    same = λ e. refl;
    changed = λ (e : false ≡ true). cc;
  }

  -- the place that is next is as it was
  pub is_old : (i : ℕ) (old more now : List PlaceType) (x : PlaceType) → AreJoinsBelow types i old more now → i < length now
      → x ≡ get_or now i x → x ≡ get_or old i places.Unset
  is_old i old more now x h l e = get_or_read now i x l e places.Unset ∙ h.others i (omega arith)

  pub old_of_world : (i : ℕ) (old more now : List PlaceType) (x : PlaceType) → All (IsOfWorld types) old
      → AreJoinsBelow types i old more now → i < length now → x ≡ get_or now i x → IsOfWorld types x
  old_of_world i old more now x a h l e =
      let m : i < length old = omega (arith, h.long) in
      subst (IsOfWorld types) (sym (is_old i old more now x h l e)) (All-get_or (IsOfWorld types) old i places.Unset m a)

  -- the next place is replaced
  pub next : (i : ℕ) (old more now : List PlaceType) (j : PlaceType) (grew : Bool) → i < length now
      → AreMerging types i old more now grew → IsPlaceJoin types (get_or old i places.Unset) (get_or more i places.Unset) j
      → (j ≡ get_or old i places.Unset → ⊥) → AreMerging types (i + 1) old more (set now i j) true
  next i old more now j grew l h k other = record {
    below = record {
      long = length-set now i j ∙ h.below.long;
      joins = below_more _ _
          (λ n m. let ne : n ≢ i = omega arith in subst (IsPlaceJoin types (get_or old n places.Unset) (get_or more n places.Unset))
          (sym (get_or-set_other now i n j places.Unset ne)) (h.below.joins n m))
          (subst (IsPlaceJoin types (get_or old i places.Unset) (get_or more i places.Unset))
          (sym (get_or-set_same now i j places.Unset l)) k);
      others = λ n m. let ne : n ≢ i = omega arith in get_or-set_other now i n j places.Unset ne ∙ h.below.others n (omega arith);
    };
    same = λ (e : true ≡ false). cc;
    changed = λ e f. other (sym (get_or-set_same now i j places.Unset l) ∙ ap (λ (xs : List PlaceType). get_or xs i places.Unset) f);
  }

  -- or is its own join
  pub stays : (i : ℕ) (old more now : List PlaceType) (j : PlaceType) (grew : Bool) → AreMerging types i old more now grew
      → IsPlaceJoin types (get_or old i places.Unset) (get_or more i places.Unset) j → j ≡ get_or old i places.Unset
      → AreMerging types (i + 1) old more now grew
  stays i old more now j grew h k e = record {
    below = record {
      long = h.below.long;
      joins = below_more _ _ h.below.joins (subst (IsPlaceJoin types (get_or old i places.Unset) (get_or more i places.Unset))
          (e ∙ sym (h.below.others i (omega arith))) k);
      others = λ n m. h.below.others n (omega arith);
    };
    same = h.same;
    changed = h.changed;
  }

  -- the same of what a call read and answered
  pub next_is : (i : ℕ) (old more now : List PlaceType) (x y j : PlaceType) (grew : Bool) (later : List PlaceType) (grown : Bool)
      → i < length now → AreMerging types i old more now grew → x ≡ get_or now i x → y ≡ get_or more i places.Unset
      → IsPlaceJoin types x y j → (j ≡ x → ⊥) → later ≡ set now i j → grown ≡ true → AreMerging types (i + 1) old more later grown
  next_is i old more now x y j grew later grown l h r s k other e f =
      let p : IsPlaceJoin types (get_or old i places.Unset) y j = subst (λ (v : PlaceType). IsPlaceJoin types v y j)
      (is_old i old more now x h.below l r) k in
      let q : IsPlaceJoin types (get_or old i places.Unset) (get_or more i places.Unset) j = subst
      (λ (v : PlaceType). IsPlaceJoin types (get_or old i places.Unset) v j) s p in
      let m : AreMerging types (i + 1) old more later true = subst
      (λ (xs : List PlaceType). AreMerging types (i + 1) old more xs true) (sym e)
      (next i old more now j grew l h q (λ d. other (d ∙ sym (is_old i old more now x h.below l r)))) in
      subst (AreMerging types (i + 1) old more later) (sym f) m

  pub stays_so : (i : ℕ) (old more now : List PlaceType) (x y j : PlaceType) (grew : Bool) (later : List PlaceType) (grown : Bool)
      → i < length now → AreMerging types i old more now grew → x ≡ get_or now i x → y ≡ get_or more i places.Unset
      → IsPlaceJoin types x y j → j ≡ x → later ≡ now → grown ≡ grew → AreMerging types (i + 1) old more later grown
  stays_so i old more now x y j grew later grown l h r s k same e f =
      let o = is_old i old more now x h.below l r in
      let p : IsPlaceJoin types (get_or old i places.Unset) y j = subst (λ (v : PlaceType). IsPlaceJoin types v y j) o k in
      let q : IsPlaceJoin types (get_or old i places.Unset) (get_or more i places.Unset) j = subst
      (λ (v : PlaceType). IsPlaceJoin types (get_or old i places.Unset) v j) s p in
      let m : AreMerging types (i + 1) old more later grew = subst
      (λ (xs : List PlaceType). AreMerging types (i + 1) old more xs grew) (sym e) (stays i old more now j grew h q (same ∙ o)) in
      subst (AreMerging types (i + 1) old more later) (sym f) m

  -- ---- what follows for whole lists

  module _ (old more new : List PlaceType) (even : length more ≡ length old) (h : AreJoins types old more new) where
    pub left_within : AllZip (IsWithin types) old new
    left_within = all_zip (IsWithin types) places.Unset old new h.long (λ k l. (h.joins k l).left)

    pub right_within : AllZip (IsWithin types) more new
    right_within = all_zip (IsWithin types) places.Unset more new (h.long ∙ sym even) (λ k l. (h.joins k (omega (arith, even))).right)

    pub all_of_world : All (IsOfWorld types) new
    all_of_world = All-from_get_or (IsOfWorld types) new places.Unset (λ k l. (h.joins k (omega (arith, h.long))).of_world)

    pub least_within : (top : List PlaceType) → All (IsOfWorld types) top → AllZip (IsWithin types) old top
        → AllZip (IsWithin types) more top → length top ≡ length old → AllZip (IsWithin types) new top
    least_within top a p q long =
        all_zip (IsWithin types) places.Unset new top (long ∙ sym h.long)
        (λ k l. (h.joins k (omega (arith, h.long))).least (get_or top k places.Unset)
        (All-get_or (IsOfWorld types) top k places.Unset (omega (arith, h.long, long)) a)
        (AllZip-get_or (IsWithin types) old top k places.Unset places.Unset p (omega (arith, h.long)))
        (AllZip-get_or (IsWithin types) more top k places.Unset places.Unset q (omega (arith, h.long, even))))

  unset_within : (place : PlaceType) → IsSet place → IsWithin types places.Unset place → ⊥
  unset_within places.Unset s w = s refl
  unset_within places.Int s w = w
  unset_within places.Null s w = w
  unset_within (places.Ref t) s w = w

  -- two frames, from their locals and their stacks
  pub frames_joined : (max_locals : ℕ) (old more new : PlaceTypes) → IsProper types max_locals old → IsProper types max_locals more
      → length more.stack ≡ length old.stack → AreJoins types old.locals more.locals new.locals
      → AreJoins types old.stack more.stack new.stack → All IsSet new.stack → IsFrameJoin types max_locals old more new
  frames_joined max_locals old more new p q even l s set =
      let many : length more.locals ≡ length old.locals = q.count ∙ sym p.count in
      record {
        proper = record {
          count = l.long ∙ p.count;
          set = set;
          locals = all_of_world old.locals more.locals new.locals many l;
          stack
              = all_of_world old.stack more.stack new.stack even s;
        };
        left = record {
          locals = left_within old.locals more.locals new.locals many l;
          stack = left_within old.stack more.stack
              new.stack even s;
        };
        right = record {
          locals = right_within old.locals more.locals new.locals many l;
          stack = right_within old.stack more.stack
              new.stack even s;
        };
        least = λ top t a b. record {
          locals = least_within old.locals more.locals new.locals many l top.locals t.locals a.locals b.locals (t.count ∙ sym p.count);
          stack = least_within old.stack more.stack new.stack even s top.stack t.stack a.stack b.stack
              (sym (length_all_zip (IsWithin types) old.stack top.stack a.stack));
        };
      }

  pub frames_apart : (max_locals : ℕ) (old more : PlaceTypes) → AreApart types old.stack more.stack
      → AreFramesApart types max_locals old more
  frames_apart max_locals old more h top t a b = h top.stack t.set t.stack a.stack b.stack

  pub depths_apart : (max_locals : ℕ) (old more : PlaceTypes) → (length old.stack ≡ length more.stack → ⊥)
      → AreFramesApart types max_locals old more
  depths_apart max_locals old more h top t a b = h (length_all_zip (IsWithin types) old.stack top.stack a.stack
      ∙ sym (length_all_zip (IsWithin types) more.stack top.stack b.stack))

  -- two entries without a type in common
  pub apart_at : (i : ℕ) (old more : List PlaceType) → i < length old → length more ≡ length old
      → IsPlaceJoin types (get_or old i places.Unset) (get_or more i places.Unset) places.Unset → AreApart types old more
  apart_at i old more l even h top s a p q =
      let m : i < length top = omega (arith, length_all_zip (IsWithin types) old top p) in
      unset_within (get_or top i places.Unset) (All-get_or IsSet top i places.Unset m s)
      (h.least (get_or top i places.Unset)
      (All-get_or (IsOfWorld types) top i places.Unset m a)
      (AllZip-get_or (IsWithin types) old top i places.Unset places.Unset p l)
      (AllZip-get_or (IsWithin types) more top i places.Unset places.Unset q (omega (arith, even))))

  pub apart_there : (i : ℕ) (old more now : List PlaceType) (x y : PlaceType) (grew : Bool) → i < length now
      → length more ≡ length old → AreMerging types i old more now grew → x ≡ get_or now i x → y ≡ get_or more i places.Unset
      → IsPlaceJoin types x y places.Unset → AreApart types old more
  apart_there i old more now x y grew l even h r s k =
      let p : IsPlaceJoin types (get_or old i places.Unset) y places.Unset = subst
      (λ (v : PlaceType). IsPlaceJoin types v y places.Unset) (is_old i old more now x h.below l r) k in
      let q : IsPlaceJoin types (get_or old i places.Unset) (get_or more i places.Unset) places.Unset = subst
      (λ (v : PlaceType). IsPlaceJoin types (get_or old i places.Unset) v places.Unset) s p in
      apart_at i old more (omega (arith, h.below.long)) even q
