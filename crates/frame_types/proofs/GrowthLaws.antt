-- Laws of wider types and of tables that grow, for the proofs of this crate and of those above it.
use Rattle.std.proofs.Common.{◌≡◌, ℕ, zero, suc, ◌+◌, ◌||◌, Bool, true, false, List, [], ◌∷◌, ◌++◌, length, get_or, Option, Some}
use Rattle.std.proofs.Common.{None, inl, inr, refl, sym, ap, subst, ◌∙◌, arith, length-append}
use Rattle.std.specs.Prelude.{All, IsTrue, nat_eq}
use Rattle.std.specs.List.{AllZip, list_any}
use Rattle.std.proofs.lemmas.List.{get_or_append_left, get_or-append-add}
use Rattle.std.proofs.lemmas.List.Elements.{All-append}
use Rattle.std.proofs.lemmas.List.Folds.{list_any-append}
use Rattle.std.proofs.lemmas.Option.{none-some}
use Rattle.jvm_values.specs.declared.typing.PlaceType.{PlaceType}
use Rattle.jvm_values.specs.declared.typing.PlaceType.TheVariants as places
use Rattle.jvm_values.specs.States.{PlaceTypes}
use Rattle.jvm_values.specs.TypedHeaps.{WorldTypes, AreLawful}
use Rattle.jvm_values.proofs.Options.{some_is}
use Rattle.frame_types.specs.declared.table.Table.{Table}
use Rattle.frame_types.specs.Places.{IsWithin, IsFrameWithin, IsOfWorld, IsProper, IsFrame}
use Rattle.frame_types.specs.Tables.{CodeTypes, Flow, Takes, IsAtMost, types_at}
use Rattle.frame_types.specs.Growth.{IsTable, AreFrames, IsGrown, AreRefused}
use Rattle.frame_types.proofs.HeightLaws.{frame_antisym}

-- ---- lists

pub all_left : {A : Type 0} (P : A → Type 0) (xs ys : List A) → All P (xs ++ ys) → All P xs
all_left P xs ys h k d l = subst P (get_or_append_left xs ys d k l) (h k d (omega (arith, length-append xs ys)))

pub all_right : {A : Type 0} (P : A → Type 0) (xs ys : List A) → All P (xs ++ ys) → All P ys
all_right P xs ys h k d l = subst P (get_or-append-add xs ys k d) (h (length xs + k) d (omega (arith, length-append xs ys)))

pub all_one : {A : Type 0} (P : A → Type 0) (x : A) → P x → All P (x ∷ [])
all_one P x p zero d l = p
all_one P x p (suc k) d l = absurd (omega arith)

pub one_of : {A : Type 0} (P : A → Type 0) (x : A) → All P (x ∷ []) → P x
one_of P x h = h 0 x (omega arith)

pub all_map : {A : Type 0} (P Q : A → Type 0) (xs : List A) → ((x : A) → P x → Q x) → All P xs → All Q xs
all_map P Q xs f h k d l = f (get_or xs k d) (h k d l)

or_true : (a : Bool) → (a || true) ≡ true
or_true true = refl
or_true false = refl

pub any_left : {A : Type 0} (p : A → Bool) (xs ys : List A) → IsTrue (list_any p xs) → IsTrue (list_any p (xs ++ ys))
any_left p xs ys h = list_any-append p xs ys ∙ ap (λ (b : Bool). b || list_any p ys) h

pub any_right : {A : Type 0} (p : A → Bool) (xs ys : List A) → IsTrue (list_any p ys) → IsTrue (list_any p (xs ++ ys))
any_right p xs ys h = list_any-append p xs ys ∙ ap (λ (b : Bool). list_any p xs || b) h ∙ or_true (list_any p xs)

zip_with : {A : Type 0} (R : A → A → Type 0) (P : A → Type 0) → ((a : A) → P a → R a a) → (xs : List A) → All P xs → AllZip R xs xs
zip_with R P f [] h = tt
zip_with R P f (x ∷ xs) h = (f x (h 0 x (omega arith)), zip_with R P f xs (λ k d l. h (suc k) d (omega arith)))

zip_trans : {A : Type 0} (R : A → A → Type 0) → ((a b c : A) → R a b → R b c → R a c) → (xs ys zs : List A) → AllZip R xs ys
    → AllZip R ys zs → AllZip R xs zs
zip_trans R f [] [] [] p q = tt
zip_trans R f [] [] (z ∷ zs) p q = absurd q
zip_trans R f [] (y ∷ ys) zs p q = absurd p
zip_trans R f (x ∷ xs) [] zs p q = absurd p
zip_trans R f (x ∷ xs) (y ∷ ys) [] p q = absurd q
zip_trans R f (x ∷ xs) (y ∷ ys) (z ∷ zs) p q = (f x y z p.0 q.0, zip_trans R f xs ys zs p.1 q.1)

-- ---- wider types

module _ (types : WorldTypes) (laws : AreLawful types) where
  pub within_refl : (a : PlaceType) → IsOfWorld types a → IsWithin types a a
  within_refl places.Unset h = tt
  within_refl places.Int h = tt
  within_refl places.Null h = tt
  within_refl (places.Ref t) h = laws.reflexive t h.0

  pub within_trans : (a b c : PlaceType) → IsWithin types a b → IsWithin types b c → IsWithin types a c
  within_trans a b places.Unset p q = tt
  within_trans a places.Unset places.Int p q = absurd q
  within_trans a places.Unset places.Null p q = absurd q
  within_trans a places.Unset (places.Ref t) p q = absurd q
  within_trans places.Int places.Int places.Int p q = tt
  within_trans places.Unset places.Int places.Int p q = absurd p
  within_trans places.Null places.Int places.Int p q = absurd p
  within_trans (places.Ref s) places.Int places.Int p q = absurd p
  within_trans a places.Int places.Null p q = absurd q
  within_trans a places.Int (places.Ref t) p q = absurd q
  within_trans a places.Null places.Int p q = absurd q
  within_trans places.Null places.Null places.Null p q = tt
  within_trans places.Unset places.Null places.Null p q = absurd p
  within_trans places.Int places.Null places.Null p q = absurd p
  within_trans (places.Ref s) places.Null places.Null p q = absurd p
  within_trans places.Null places.Null (places.Ref t) p q = tt
  within_trans places.Unset places.Null (places.Ref t) p q = absurd p
  within_trans places.Int places.Null (places.Ref t) p q = absurd p
  within_trans (places.Ref s) places.Null (places.Ref t) p q = absurd p
  within_trans a (places.Ref s) places.Int p q = absurd q
  within_trans a (places.Ref s) places.Null p q = absurd q
  within_trans places.Unset (places.Ref s) (places.Ref t) p q = absurd p
  within_trans places.Int (places.Ref s) (places.Ref t) p q = absurd p
  within_trans places.Null (places.Ref s) (places.Ref t) p q = tt
  within_trans (places.Ref r) (places.Ref s) (places.Ref t) p q = laws.transitive r s t p q

  pub frame_refl : (max_locals : ℕ) (a : PlaceTypes) → IsProper types max_locals a → IsFrameWithin types a a
  frame_refl max_locals a h = record {
    locals = zip_with (IsWithin types) (IsOfWorld types) within_refl a.locals h.locals;
    stack = zip_with (IsWithin types) (IsOfWorld types) within_refl a.stack h.stack;
  }

  pub frame_trans : (a b c : PlaceTypes) → IsFrameWithin types a b → IsFrameWithin types b c → IsFrameWithin types a c
  frame_trans a b c p q = record {
    locals = zip_trans (IsWithin types) within_trans a.locals b.locals c.locals p.locals q.locals;
    stack = zip_trans (IsWithin types) within_trans a.stack b.stack c.stack p.stack q.stack;
  }

  -- ---- flows

  pub takes_more : (typing other : CodeTypes) → IsAtMost types typing other → (flow : Flow) → Takes types typing flow
      → Takes types other flow
  takes_more typing other h flow t =
      let u = h flow.to t.there t.is_there in
      record { there = u.there; is_there = u.is_there; wide = frame_trans flow.frame t.there u.there t.wide u.wide }

  -- a narrower frame is taken where a wider one is
  pub takes_narrower : (typing : CodeTypes) (to : ℕ) (narrow wide : PlaceTypes) → IsFrameWithin types narrow wide
      → Takes types typing (record { to = to; frame = wide }) → Takes types typing (record { to = to; frame = narrow })
  takes_narrower typing to narrow wide h t = record {
    there = t.there;
    is_there = t.is_there;
    wide = frame_trans narrow wide t.there
        h t.wide;
  }

  pub at_most_itself : (max_locals max_stack : ℕ) (typing : CodeTypes)
      → ((place : ℕ) (frame : PlaceTypes) → typing place ≡ Some frame → IsFrame types max_locals max_stack frame)
      → IsAtMost types typing typing
  at_most_itself max_locals max_stack typing frames place frame e =
      record { there = frame; is_there = e; wide = frame_refl max_locals frame (frames place frame e).proper }

  pub at_most_trans : (a b c : CodeTypes) → IsAtMost types a b → IsAtMost types b c → IsAtMost types a c
  at_most_trans a b c p q place frame e = takes_more b c q (record { to = place; frame = frame }) (p place frame e)

  -- ---- growth

  -- a table that takes the flows need not grow
  pub grown_taken : (flows : List Flow) (table : Table) → IsTable types table → All (Takes types (types_at table.types)) flows
      → IsGrown types flows table table
  grown_taken flows table h t = record {
    table = h;
    max_locals = refl;
    max_stack = refl;
    kept = at_most_itself table.max_locals table.max_stack (types_at table.types) h.frames;
    taken = t;
    least = λ other frames below all. below;
    places = λ place frame e. inl (frame, e);
    changes = λ place. inl refl;
    still = λ place w. w;
    begun = λ place w. inl w;
  }

  pub grown_none : (table : Table) → IsTable types table → IsGrown types [] table table
  grown_none table h = grown_taken [] table h (λ k d l. absurd (omega arith))

  -- what has grown does not come back
  pub grown_on : (a b c : CodeTypes) → IsAtMost types a b → IsAtMost types b c → (place : ℕ) → (x y : Option PlaceTypes)
      → a place ≡ x → b place ≡ y → c place ≡ x → y ≡ x
  grown_on a b c p q place None None e f g = refl
  grown_on a b c p q place (Some before) None e f g = let t = p place before e in absurd (none-some t.there (sym f ∙ t.is_there))
  grown_on a b c p q place None (Some frame) e f g = let t = q place frame f in absurd (none-some t.there (sym g ∙ t.is_there))
  grown_on a b c p q place (Some before) (Some frame) e f g =
      let t = p place before e in
      let u = q place frame f in
      let same : t.there ≡ frame = some_is (sym t.is_there ∙ f) in
      let back : u.there ≡ before = some_is (sym u.is_there ∙ g) in
      ap Some (sym (frame_antisym types laws before frame (subst (IsFrameWithin types before) same t.wide)
      (subst (IsFrameWithin types frame) back u.wide)))

  other_frames : (a b : Table) → b.max_locals ≡ a.max_locals → b.max_stack ≡ a.max_stack → (other : CodeTypes)
      → AreFrames types a other → AreFrames types b other
  other_frames a b e f other h place frame g =
      let h2 : IsFrame types b.max_locals a.max_stack frame = subst (λ n. IsFrame types n a.max_stack frame) (sym e) (h place frame g) in
      subst (λ n. IsFrame types b.max_locals n frame) (sym f) h2

  pub grown_more : (fs gs : List Flow) (a b c : Table) → IsGrown types fs a b → IsGrown types gs b c → IsGrown types (fs ++ gs) a c
  grown_more fs gs a b c p q = record {
    table = q.table;
    max_locals = q.max_locals ∙ p.max_locals;
    max_stack = q.max_stack ∙ p.max_stack;
    kept = at_most_trans (types_at a.types) (types_at b.types) (types_at c.types) p.kept q.kept;
    taken = All-append (Takes types (types_at c.types)) fs gs
        (all_map (Takes types (types_at b.types)) (Takes types (types_at c.types)) fs
        (takes_more (types_at b.types) (types_at c.types) q.kept) p.taken)
        q.taken;
    least = λ other frames below all.
        q.least other (other_frames a b p.max_locals p.max_stack other frames)
        (p.least other frames below (all_left (Takes types other) fs gs all))
        (all_right (Takes types other) fs gs all);
    places = λ place frame e. elim (q.places place frame e) [
      | inl h ↦ elim (p.places place h.0 h.1) [ inl k ↦ inl k | inr k ↦ inr (any_left (λ flow. nat_eq place flow.to) fs gs k) ]
      | inr h ↦ inr (any_right (λ flow. nat_eq place flow.to) fs gs h)
    ];
    changes = λ place. elim (q.changes place) [
      | inl e ↦ elim (p.changes place) [ inl d ↦ inl (e ∙ d) | inr w ↦ inr (q.still place w) ]
      | inr w ↦ inr w
    ];
    still = λ place w. q.still place (p.still place w);
    begun = λ place w. elim (q.begun place w) [
      | inl v ↦ elim (p.begun place v) [
        | inl u ↦ inl u
        | inr h ↦ inr (λ e. h (grown_on (types_at a.types) (types_at b.types) (types_at c.types) p.kept q.kept place
            (types_at a.types place) (types_at b.types place) refl refl e))
      ]
      | inr h ↦ inr (λ e. h
          (e ∙ sym (grown_on (types_at a.types) (types_at b.types) (types_at c.types) p.kept q.kept place (types_at a.types place)
          (types_at b.types place) refl refl e)))
    ];
  }

  pub refused_after : (fs gs : List Flow) (a b : Table) → IsGrown types fs a b → AreRefused types gs b → AreRefused types (fs ++ gs) a
  refused_after fs gs a b p h other frames below all =
      h other (other_frames a b p.max_locals p.max_stack other frames)
      (p.least other frames below (all_left (Takes types other) fs gs all))
      (all_right (Takes types other) fs gs all)

  pub refused_first : (fs gs : List Flow) (a : Table) → AreRefused types fs a → AreRefused types (fs ++ gs) a
  refused_first fs gs a h other frames below all = h other frames below (all_left (Takes types other) fs gs all)
