-- A frame that comes to one place of a table.
use Rattle.std.proofs.Common.{◌≡◌, ℕ, ◌<◌, ◌≤◌, min, Bool, true, false, ◌||◌, List, [], ◌∷◌, length, get_or, Option, Some, ◌⊎◌, inl}
use Rattle.std.proofs.Common.{inr, sym, ap, subst, ◌∙◌, arith, eq-eqb}
use Rattle.std.specs.Prelude.{slice_set, IsTrue, All}
use Rattle.std.specs.Option.{option_map, option_and_then}
use Rattle.std.proofs.lemmas.List.{length-set, get_or-set_other, get_or-set_same}
use Rattle.std.proofs.lemmas.List.Elements.{length_all_zip}
use Rattle.std.proofs.lemmas.Option.{slice_get-get_or}
use Rattle.std.proofs.lemmas.Bool.{cases_eq}
use Rattle.jvm_values.specs.declared.typing.FrameType.{FrameType}
use Rattle.jvm_values.specs.States.{PlaceTypes, types_of}
use Rattle.jvm_values.specs.TypedHeaps.{WorldTypes, AreLawful}
use Rattle.frame_types.specs.declared.table.Table.{Table}
use Rattle.frame_types.specs.Places.{IsWithin, IsFrameWithin, IsProper, IsFrame}
use Rattle.frame_types.specs.Tables.{CodeTypes, Takes, IsAtMost, types_at}
use Rattle.frame_types.specs.Growth.{IsMerged, IsApart, IsTable, AreFrames, is_led_to, IsGrown, AreRefused, IsRoomier, waits}
use Rattle.frame_types.proofs.GrowthLaws.{frame_refl, all_one, one_of}
use Rattle.jvm_values.proofs.Lists.{get_set_other}
use Rattle.jvm_values.proofs.Options.{some_is}
use Rattle.frame_types.proofs.Lists.{get_set_same}

-- ---- what stands in a table after an entry was replaced

at_replaced : (xs : List (Option FrameType)) (i : ℕ) (x : Option FrameType) → i < length xs
    → types_at (slice_set xs i x) i ≡ option_map types_of x
at_replaced xs i x l = ap (option_and_then (option_map types_of)) (get_set_same xs i x l)

at_others : (xs : List (Option FrameType)) (i j : ℕ) (x : Option FrameType) → (j ≡ i → ⊥) → types_at (slice_set xs i x) j ≡ types_at xs j
at_others xs i j x h = ap (option_and_then (option_map types_of)) (get_set_other xs i j x h)

pub at_read : (xs : List (Option FrameType)) (i : ℕ) (x : Option FrameType) → i < length xs → x ≡ get_or xs i x
    → types_at xs i ≡ option_map types_of x
at_read xs i x l e = ap (option_and_then (option_map types_of)) (slice_get-get_or xs i x l ∙ ap Some (sym e))

module _ (types : WorldTypes) (laws : AreLawful types) where
  -- ---- one place of the new table differs

  module _ (old new : Table) (to : ℕ) (more frame : PlaceTypes) (t : IsTable types old) (depth : length more.stack ≤ old.max_stack)
      (m : IsMerged types old.max_locals (types_at old.types to) more frame) (at_to : types_at new.types to ≡ Some frame)
      (others : (place : ℕ) → (place ≡ to → ⊥) → types_at new.types place ≡ types_at old.types place) where
    merged_frame : IsFrame types old.max_locals old.max_stack frame
    merged_frame = record {
      proper = m.proper;
      depth = let e = length_all_zip (IsWithin types) more.stack frame.stack m.right.stack in omega arith;
    }

    is_frame : (g : PlaceTypes) → types_at new.types to ≡ Some g → g ≡ frame
    is_frame g e = some_is (sym e ∙ at_to)

    pub frames_after : (place : ℕ) (g : PlaceTypes) → types_at new.types place ≡ Some g → IsFrame types old.max_locals old.max_stack g
    frames_after place g e = elim (cases_eq place to) [
      | inl h ↦ subst (IsFrame types old.max_locals old.max_stack) (sym (is_frame g (ap (types_at new.types) (sym h) ∙ e))) merged_frame
      | inr h ↦ t.frames place g (sym (others place h) ∙ e)
    ]

    pub kept_after : IsAtMost types (types_at old.types) (types_at new.types)
    kept_after place g e = elim (cases_eq place to) [
      | inl h ↦ record {
        there = frame;
        is_there = ap (types_at new.types) h
            ∙ at_to;
        wide = m.left g (ap (types_at old.types) (sym h) ∙ e);
      }
      | inr h ↦ record {
        there = g;
        is_there = others place h ∙ e;
        wide = frame_refl types laws old.max_locals g
            (t.frames place g e).proper;
      }
    ]

    pub least_after : (other : CodeTypes) → AreFrames types old other → IsAtMost types (types_at old.types) other
        → All (Takes types other) (record { to = to; frame = more } ∷ []) → IsAtMost types (types_at new.types) other
    least_after other frames below all place g e = elim (cases_eq place to) [
      | inl h ↦
          let k = one_of (Takes types other) (record { to = to; frame = more }) all in
          record {
            there = k.there;
            is_there = ap other h ∙ k.is_there;
            wide = subst (λ (x : PlaceTypes). IsFrameWithin types x k.there) (sym (is_frame g (ap (types_at new.types) (sym h) ∙ e)))
                (m.least k.there (frames to k.there k.is_there).proper
                (λ f fe. let b = below to f fe in subst (IsFrameWithin types f) (some_is (sym b.is_there ∙ k.is_there)) b.wide)
                k.wide);
          }
      | inr h ↦ below place g (sym (others place h) ∙ e)
    ]

    led : (place : ℕ) → place ≡ to → IsTrue (is_led_to (record { to = to; frame = more } ∷ []) place)
    led place h = ap (λ (b : Bool). b || false) (eq-eqb place to h)

    pub places_after : (place : ℕ) (g : PlaceTypes) → types_at new.types place ≡ Some g
        → ((before : PlaceTypes) × (types_at old.types place ≡ Some before))
        ⊎ IsTrue (is_led_to (record { to = to; frame = more } ∷ []) place)
    places_after place g e = elim (cases_eq place to) [
      | inl h ↦ inr (led place h)
      | inr h ↦ inl (g, sym (others place h) ∙ e)
    ]

    pub taken_after : All (Takes types (types_at new.types)) (record { to = to; frame = more } ∷ [])
    taken_after = all_one (Takes types (types_at new.types)) (record { to = to; frame = more })
        (record { there = frame; is_there = at_to; wide = m.right })

  -- ---- nothing is as wide

  pub too_deep : (old : Table) (to : ℕ) (more : PlaceTypes) → old.max_stack < length more.stack
      → AreRefused types (record { to = to; frame = more } ∷ []) old
  too_deep old to more d other frames below all =
      let k = one_of (Takes types other) (record { to = to; frame = more }) all in
      let f = frames to k.there k.is_there in
      let e = length_all_zip (IsWithin types) more.stack k.there.stack k.wide.stack in
      absurd (omega (arith, f.depth))

  pub apart : (old : Table) (to : ℕ) (more : PlaceTypes) → IsApart types old.max_locals (types_at old.types to) more
      → AreRefused types (record { to = to; frame = more } ∷ []) old
  apart old to more h other frames below all =
      let k = one_of (Takes types other) (record { to = to; frame = more }) all in
      h k.there (frames to k.there k.is_there).proper
      (λ f fe. let b = below to f fe in subst (IsFrameWithin types f) (some_is (sym b.is_there ∙ k.is_there)) b.wide)
      k.wide

  -- ---- after a call

  module _ (old mid new : Table) (to : ℕ) (x later : Option FrameType) (more frame : PlaceTypes) (t : IsTable types old)
      (r : IsRoomier old mid) (l : to < length mid.types) (read : x ≡ get_or mid.types to x)
      (written : new.types ≡ slice_set mid.types to later) (ml : new.max_locals ≡ mid.max_locals)
      (ms : new.max_stack ≡ mid.max_stack) (depth : length more.stack ≤ old.max_stack) (count : length more.locals ≡ old.max_locals)
      (is : option_map types_of later ≡ Some frame) (m : IsMerged types (length more.locals) (option_map types_of x) more frame) where
    was : option_map types_of x ≡ types_at old.types to
    was = sym (at_read mid.types to x l read) ∙ r.same to

    merged : IsMerged types old.max_locals (types_at old.types to) more frame
    merged =
        let h : IsMerged types old.max_locals (option_map types_of x) more frame = subst
        (λ n. IsMerged types n (option_map types_of x) more frame) count m in
        subst (λ (o : Option PlaceTypes). IsMerged types old.max_locals o more frame) was h

    at_to : types_at new.types to ≡ Some frame
    at_to = ap (λ (xs : List (Option FrameType)). types_at xs to) written ∙ at_replaced mid.types to later l ∙ is

    at_other : (place : ℕ) → (place ≡ to → ⊥) → types_at new.types place ≡ types_at old.types place
    at_other place h = ap (λ (xs : List (Option FrameType)). types_at xs place) written ∙ at_others mid.types to place later h
        ∙ r.same place

    many : length new.types ≡ length mid.types
    many = ap length written ∙ length-set mid.types to later

    frames : (place : ℕ) (g : PlaceTypes) → types_at new.types place ≡ Some g → IsFrame types new.max_locals new.max_stack g
    frames place g e =
        let a : IsFrame types new.max_locals old.max_stack g = subst (λ n. IsFrame types n old.max_stack g)
        (sym (ml ∙ r.max_locals)) (frames_after old new to more frame t depth merged at_to at_other place g e) in
        subst (λ n. IsFrame types new.max_locals n g) (sym (ms ∙ r.max_stack)) a

    grown : IsTable types new
        → ((place : ℕ) → (types_at new.types place ≡ types_at old.types place) ⊎ IsTrue (waits new.waiting place))
        → ((place : ℕ) → IsTrue (waits old.waiting place) → IsTrue (waits new.waiting place))
        → ((place : ℕ) → IsTrue (waits new.waiting place) → IsTrue (waits old.waiting place)
        ⊎ (types_at new.types place ≡ types_at old.types place → ⊥)) → IsGrown types (record { to = to; frame = more } ∷ []) old new
    grown table changes still begun = record {
      table = table;
      max_locals = ml ∙ r.max_locals;
      max_stack = ms ∙ r.max_stack;
      kept = kept_after old new to more frame t depth merged at_to at_other;
      taken = taken_after old new to more frame t depth merged at_to at_other;
      least = least_after old new to more frame t depth merged at_to at_other;
      places = places_after old new to more frame t depth merged at_to at_other;
      changes = changes;
      still = still;
      begun = begun;
    }

    pub entered_same : new.waiting ≡ mid.waiting → new.low ≡ mid.low → option_map types_of later ≡ option_map types_of x
        → IsGrown types (record { to = to; frame = more } ∷ []) old new
    entered_same w low e =
        let marks : (place : ℕ) → waits new.waiting place ≡ waits old.waiting place = λ place. ap
        (λ (xs : List Bool). waits xs place) w ∙ r.marks place in
        grown
        (record {
          even = ap length w ∙ r.even ∙ sym many;
          small = omega (arith, many, r.small);
          done = λ place k. marks place ∙ t.done place (omega (arith, low, r.low));
          frames = frames;
        })
        (λ place. elim (cases_eq place to) [
          | inl h ↦ inl (ap (types_at new.types) h ∙ at_to ∙ sym is ∙ e ∙ was ∙ ap (types_at old.types) (sym h))
          | inr h ↦ inl (at_other place h)
        ])
        (λ place h. marks place ∙ h)
        (λ place h. inl (sym (marks place) ∙ h))

    pub entered_more : new.waiting ≡ slice_set mid.waiting to true → new.low ≡ min mid.low to
        → (option_map types_of later ≡ option_map types_of x → ⊥) → IsGrown types (record { to = to; frame = more } ∷ []) old new
    entered_more w low other =
        let lw : to < length mid.waiting = omega (arith, l, r.even) in
        let marked : waits new.waiting to ≡ true = ap (λ (xs : List Bool). waits xs to) w ∙ get_or-set_same mid.waiting to true false lw in
        let marks : (place : ℕ) → (place ≡ to → ⊥) → waits new.waiting place ≡ waits old.waiting place = λ place h. ap
        (λ (xs : List Bool). waits xs place) w ∙ get_or-set_other mid.waiting to place true false h ∙ r.marks place in
        grown
        (record {
          even = ap length w ∙ length-set mid.waiting to true ∙ r.even ∙ sym many;
          small = omega (arith, many, r.small);
          done = λ place k. marks place (λ e. absurd (omega (arith, low, k, e))) ∙ t.done place (omega (arith, low, r.low, k));
          frames = frames;
        })
        (λ place. elim (cases_eq place to) [
          | inl h ↦ inr (ap (waits new.waiting) h ∙ marked)
          | inr h ↦ inl (at_other place h)
        ])
        (λ place h. elim (cases_eq place to) [
          | inl e ↦ ap (waits new.waiting) e ∙ marked
          | inr e ↦ marks place e ∙ h
        ])
        (λ place h. elim (cases_eq place to) [
          | inl e ↦ inr (λ s. other (is ∙ sym at_to ∙ ap (types_at new.types) (sym e) ∙ s ∙ ap (types_at old.types) e ∙ sym was))
          | inr e ↦ inl (sym (marks place e) ∙ h)
        ])

  pub entered_apart : (old mid : Table) (to : ℕ) (x : Option FrameType) (more : PlaceTypes) → IsRoomier old mid
      → to < length mid.types → x ≡ get_or mid.types to x → length more.locals ≡ old.max_locals
      → IsApart types (length more.locals) (option_map types_of x) more → AreRefused types (record { to = to; frame = more } ∷ []) old
  entered_apart old mid to x more r l read count h =
      let was : option_map types_of x ≡ types_at old.types to = sym (at_read mid.types to x l read) ∙ r.same to in
      let a : IsApart types old.max_locals (option_map types_of x) more = subst (λ n. IsApart types n (option_map types_of x) more)
      count h in
      apart old to more (subst (λ (o : Option PlaceTypes). IsApart types old.max_locals o more) was a)

  -- what is at the place is a frame of the method
  pub was_proper : (old mid : Table) (to : ℕ) (x : Option FrameType) (count : ℕ) → IsTable types old → IsRoomier old mid
      → to < length mid.types → x ≡ get_or mid.types to x → count ≡ old.max_locals → (before : PlaceTypes)
      → option_map types_of x ≡ Some before → IsProper types count before
  was_proper old mid to x count t r l read e before is =
      subst (λ n. IsProper types n before) (sym e) (t.frames to before (sym (r.same to) ∙ at_read mid.types to x l read ∙ is)).proper
