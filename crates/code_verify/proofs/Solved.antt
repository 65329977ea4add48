-- What the table of a method keeps while it grows, and what it is when nothing waits.
use Rattle.std.proofs.Common.{◌≡◌, ℕ, zero, suc, ◌+◌, ◌-◌, ◌<◌, ◌≤◌, Bool, true, false, ◌||◌, List, [], ◌∷◌, ◌++◌, length, map}
use Rattle.std.proofs.Common.{replicate, get_or, Option, Some, None, inl, inr, refl, sym, ap, subst, ◌∙◌, arith, length-append}
use Rattle.std.specs.Prelude.{All, IsTrue, slice_set, nat_eq}
use Rattle.std.specs.List.{list_any, AllByRecursion}
use Rattle.std.specs.Option.{is_some}
use Rattle.std.proofs.lemmas.Bool.{false≢true, eqb-true, cases_lt, cases_eq}
use Rattle.std.proofs.lemmas.List.{length-set, length-map, length-replicate, get_or-set_other}
use Rattle.std.proofs.lemmas.List.Elements.{All-nil, All-cons, All-append, All-replicate, length_all_zip}
use Rattle.std.proofs.lemmas.Option.{none-some}
use Rattle.jvm_values.specs.declared.types.Slot.{Slot}
use Rattle.jvm_values.specs.declared.typing.FrameType.{FrameType}
use Rattle.jvm_values.specs.declared.typing.PlaceType.{PlaceType}
use Rattle.jvm_values.specs.declared.typing.PlaceType.TheVariants as places
use Rattle.jvm_values.specs.States.{PlaceTypes}
use Rattle.jvm_values.specs.Subtyping.{IsSlot}
use Rattle.jvm_values.specs.TypedHeaps.{WorldTypes, AreLawful}
use Rattle.jvm_values.proofs.Options.{some_is}
use Rattle.class_program.specs.class_world.WorldTypes.{types_of}
use Rattle.class_program.specs.declared.program.Method.{Method}
use Rattle.class_program.specs.Programs.{Program}
use Rattle.class_program.specs.Good.{IsGood, IsGoodMethod}
use Rattle.frame_types.specs.declared.table.Table.{Table}
use Rattle.frame_types.specs.Places.{IsWithin, IsOfWorld, IsSet, IsProper, IsFrame}
use Rattle.frame_types.specs.Tables.{CodeTypes, Flow, Takes, IsAtMost, types_at}
use Rattle.frame_types.specs.Growth.{IsTable, AreFrames, is_led_to, IsGrown, AreRefused, waits}
use Rattle.frame_types.proofs.GrowthLaws.{takes_more, all_one, one_of, all_map}
use Rattle.code_verify.specs.Operands.{place_of}
use Rattle.code_verify.specs.Flows.{flows_from, CanCatch, IsReachable}
use Rattle.code_verify.specs.Flows.IsReachable.{start, onwards}
use Rattle.code_verify.specs.Typings.{IsTyping, HasTyping, IsLeastTyping, entry_frame, entry_flow}
use Rattle.code_verify.specs.Answers.{Looks}
use Rattle.code_verify.specs.inner.Solving.{IsClosedAt, IsSolving}
use Rattle.code_verify.proofs.OperandLaws.{slot_of_world}
use Rattle.code_verify.proofs.Running.{flows_within, takes_flows, led_places, leads_there}

unmarked : (xs : List Bool) (n : ℕ) → get_or (slice_set xs n false) n false ≡ false
unmarked [] n = refl
unmarked (x ∷ xs) zero = refl
unmarked (x ∷ xs) (suc n) = unmarked xs n

nothing_at : (place : ℕ) (frame : PlaceTypes) → types_at [] place ≡ Some frame → ⊥
nothing_at place frame e = none-some frame e

frame_of_method : (types : WorldTypes) (a b c d : ℕ) (frame : PlaceTypes) → a ≡ c → b ≡ d → IsFrame types a b frame
    → IsFrame types c d frame
frame_of_method types a b c d frame e f h =
    let g : IsFrame types c b frame = subst (λ n. IsFrame types n b frame) e h in
    subst (λ n. IsFrame types c n frame) f g

slots_of_world : (types : WorldTypes) (laws : AreLawful types) (slots : List Slot) → AllByRecursion (IsSlot types.classes) slots
    → All (IsOfWorld types) (map (place_of types) slots)
slots_of_world types laws [] h = All-nil (IsOfWorld types)
slots_of_world types laws (s ∷ slots) h = All-cons (IsOfWorld types) (place_of types s) (map (place_of types) slots)
    (slot_of_world types laws s h.0) (slots_of_world types laws slots h.1)

module _ (p : Program) (m : Method) (good : IsGood p) (g : IsGoodMethod p m) (laws : AreLawful (types_of p.world)) where
  other_frames : (table : Table) → table.max_locals ≡ m.max_locals → table.max_stack ≡ m.max_stack → (other : CodeTypes)
      → IsTyping p m other → AreFrames (types_of p.world) table other
  other_frames table e f other t place frame is = frame_of_method (types_of p.world) m.max_locals m.max_stack table.max_locals
      table.max_stack frame (sym e) (sym f) (t.each place frame is).limits

  -- ---- one place is looked at

  module _ (old mid : Table) (s : IsSolving p m old) (place : ℕ)
      (is : mid ≡ record old { waiting = slice_set old.waiting place false; low = place + 1 }) (below : (k : ℕ) → k < place
      → waits old.waiting k ≡ false) where
    same_types : mid.types ≡ old.types
    same_types = ap (λ (t : Table). t.types) is

    marks : mid.waiting ≡ slice_set old.waiting place false
    marks = ap (λ (t : Table). t.waiting) is

    mid_locals : mid.max_locals ≡ m.max_locals
    mid_locals = ap (λ (t : Table). t.max_locals) is ∙ s.max_locals

    mid_stack : mid.max_stack ≡ m.max_stack
    mid_stack = ap (λ (t : Table). t.max_stack) is ∙ s.max_stack

    low_is : mid.low ≡ place + 1
    low_is = ap (λ (t : Table). t.low) is

    was_at : (k : ℕ) (frame : PlaceTypes) → types_at mid.types k ≡ Some frame → types_at old.types k ≡ Some frame
    was_at k frame e = ap (λ (xs : List (Option FrameType)). types_at xs k) (sym same_types) ∙ e

    still_at : (k : ℕ) (frame : PlaceTypes) → types_at old.types k ≡ Some frame → types_at mid.types k ≡ Some frame
    still_at k frame e = ap (λ (xs : List (Option FrameType)). types_at xs k) same_types ∙ e

    other_mark : (k : ℕ) → (k ≡ place → ⊥) → waits mid.waiting k ≡ waits old.waiting k
    other_mark k h = ap (λ (xs : List Bool). waits xs k) marks ∙ get_or-set_other old.waiting place k false false h

    pub mid_table : IsTable (types_of p.world) mid
    mid_table = record {
      even = ap length marks ∙ length-set old.waiting place false ∙ s.is_table.even ∙ sym (ap length same_types);
      small = omega (arith, s.is_table.small, ap length same_types);
      done = λ k l. elim (cases_eq k place) [
        | inl h ↦ ap (λ (xs : List Bool). waits xs k) marks ∙ ap (λ (n : ℕ). get_or (slice_set old.waiting place false) n false) h
            ∙ unmarked old.waiting place
        | inr h ↦ other_mark k h ∙ below k (omega (arith, low_is, l, h))
      ];
      frames = λ k frame e. frame_of_method (types_of p.world) old.max_locals old.max_stack mid.max_locals mid.max_stack frame
          (sym (ap (λ (t : Table). t.max_locals) is)) (sym (ap (λ (t : Table). t.max_stack) is))
          (s.is_table.frames k frame (was_at k frame e));
    }

    pub mid_proper : (frame : PlaceTypes) → types_at mid.types place ≡ Some frame → IsProper (types_of p.world) mid.max_locals frame
    mid_proper frame e = (mid_table.frames place frame e).proper

    below_mid : (other : CodeTypes) → IsTyping p m other → IsAtMost (types_of p.world) (types_at mid.types) other
    below_mid other t k frame e = s.below other t k frame (was_at k frame e)

    -- where nothing is at the place
    pub nothing_there : types_at mid.types place ≡ None → IsSolving p m mid
    nothing_there none = record {
      catches = s.catches;
      is_table = mid_table;
      max_locals = mid_locals;
      max_stack = mid_stack;
      entry = subst (λ (xs : List (Option FrameType)). Takes (types_of p.world) (types_at xs) (entry_flow (types_of p.world) m))
          (sym same_types) s.entry;
      below = below_mid;
      reached = λ k frame e. s.reached k frame (was_at k frame e);
      closed = λ k frame e. elim (cases_eq k place) [
        | inl h ↦ absurd (none-some frame (sym none ∙ ap (types_at mid.types) (sym h) ∙ e))
        | inr h ↦ elim (s.closed k frame (was_at k frame e)) [
          | inl w ↦ inl (other_mark k h ∙ w)
          | inr c ↦ inr (subst (λ (xs : List (Option FrameType)). IsClosedAt p m (types_at xs) k frame) (sym same_types) c)
        ]
      ];
    }

    module _ (frame : PlaceTypes) (there : types_at mid.types place ≡ Some frame) where
      -- each typing takes what the place leads to
      other_flows : (other : CodeTypes) → IsTyping p m other
          → (flows : List Flow) × ((flows_from p m place frame ≡ Some flows) × All (Takes (types_of p.world) other) flows)
      other_flows other t =
          let b = below_mid other t place frame there in
          let ty = t.each place b.there b.is_there in
          let w = flows_within p m good g laws place mid.max_locals frame b.there ty.flows t.catches (mid_proper frame there) b.wide
          ty.runs in
          (w.0, (w.1.0, takes_flows p m good g laws other w.0 ty.flows w.1.1 ty.taken))

      refused_by : (found : Option (List Flow)) (new : Table) → flows_from p m place frame ≡ found
          → Looks (types_of p.world) found false mid new → HasTyping p m → ⊥
      refused_by None new e h (other, t) = none-some (other_flows other t).0 (sym e ∙ (other_flows other t).1.0)
      refused_by (Some flows) new e h (other, t) =
          let f = other_flows other t in
          h other (other_frames mid mid_locals mid_stack other t) (below_mid other t)
          (subst (All (Takes (types_of p.world) other)) (some_is (sym f.1.0 ∙ e)) f.1.1)

      pub refused : (new : Table) → Looks (types_of p.world) (flows_from p m place frame) false mid new → HasTyping p m → ⊥
      refused new h = refused_by (flows_from p m place frame) new refl h

      solved_by : (found : Option (List Flow)) (new : Table) → flows_from p m place frame ≡ found
          → Looks (types_of p.world) found true mid new → IsSolving p m new
      solved_by None new e h = absurd (false≢true (sym h))
      solved_by (Some flows) new e q = record {
        catches = s.catches;
        is_table = q.table;
        max_locals = q.max_locals ∙ mid_locals;
        max_stack = q.max_stack ∙ mid_stack;
        entry = takes_more (types_of p.world) laws (types_at mid.types) (types_at new.types) q.kept (entry_flow (types_of p.world) m)
            (subst (λ (xs : List (Option FrameType)). Takes (types_of p.world) (types_at xs) (entry_flow (types_of p.world) m))
            (sym same_types) s.entry);
        below = λ other t.
            let f = other_flows other t in
            q.least other (other_frames mid mid_locals mid_stack other t) (below_mid other t)
            (subst (All (Takes (types_of p.world) other)) (some_is (sym f.1.0 ∙ e)) f.1.1);
        reached = λ k later is_later. elim (q.places k later is_later) [
          | inl b ↦ s.reached k b.0 (was_at k b.0 b.1)
          | inr led ↦ onwards place k (s.reached place frame (was_at place frame there)) (led_places p m place frame flows k e led)
        ];
        closed = λ k later is_later. elim (q.changes k) [
          | inl same ↦ elim (cases_eq k place) [
            | inl h ↦
                let l : later ≡ frame = some_is (sym is_later ∙ same ∙ ap (types_at mid.types) h ∙ there) in
                let c : IsClosedAt p m (types_at new.types) place frame = record { flows = flows; runs = e; taken = q.taken } in
                inr (subst (λ (n : ℕ). IsClosedAt p m (types_at new.types) n later) (sym h)
                (subst (IsClosedAt p m (types_at new.types) place) (sym l) c))
            | inr h ↦ elim (s.closed k later (was_at k later (sym same ∙ is_later))) [
              | inl w ↦ inl (q.still k (other_mark k h ∙ w))
              | inr c ↦ inr (record {
                flows = c.flows;
                runs = c.runs;
                taken = all_map (Takes (types_of p.world) (types_at mid.types)) (Takes (types_of p.world) (types_at new.types)) c.flows
                    (takes_more (types_of p.world) laws (types_at mid.types) (types_at new.types) q.kept)
                    (subst (λ (xs : List (Option FrameType)). All (Takes (types_of p.world) (types_at xs)) c.flows) (sym same_types)
                    c.taken);
              })
            ]
          ]
          | inr w ↦ inl w
        ];
      }

      pub solved : (new : Table) → Looks (types_of p.world) (flows_from p m place frame) true mid new → IsSolving p m new
      solved new h = solved_by (flows_from p m place frame) new refl h

  -- ---- nothing waits

  -- a typing has each place that can be reached
  pub reached_typed : (typing : CodeTypes) → IsTyping p m typing → (k : ℕ) → IsReachable m k
      → (there : PlaceTypes) × (typing k ≡ Some there)
  reached_typed typing t zero start = (t.entry.there, t.entry.is_there)
  reached_typed typing t _ (onwards from to r h) =
      let x = reached_typed typing t from r in
      let ty = t.each from x.0 x.1 in
      leads_there p m typing from x.0 ty.flows to ty.runs ty.taken h

  some_of : (o : Option PlaceTypes) → is_some o ≡ true → (x : PlaceTypes) × (o ≡ Some x)
  some_of None h = absurd (false≢true h)
  some_of (Some x) h = (x, refl)

  module _ (table : Table) (s : IsSolving p m table) (done : (k : ℕ) → waits table.waiting k ≡ false) where
    closed_at : (k : ℕ) (frame : PlaceTypes) → types_at table.types k ≡ Some frame → IsClosedAt p m (types_at table.types) k frame
    closed_at k frame e = elim (s.closed k frame e) [
      | inl w ↦ absurd (false≢true (sym (done k) ∙ w))
      | inr c ↦ c
    ]

    finished_typing : IsTyping p m (types_at table.types)
    finished_typing = record {
      catches = s.catches;
      entry = s.entry;
      each = λ k frame e.
          let c = closed_at k frame e in
          record {
            limits = frame_of_method (types_of p.world) table.max_locals table.max_stack m.max_locals m.max_stack frame s.max_locals
                s.max_stack (s.is_table.frames k frame e);
            flows = c.flows;
            runs = c.runs;
            taken = c.taken;
          };
    }

    pub finished : IsLeastTyping p m (types_at table.types)
    finished = record {
      is_typing = finished_typing;
      least = s.below;
      reached = λ k. (
        λ h. let x = some_of (types_at table.types k) h in s.reached k x.0 x.1,
        λ r. ap is_some (reached_typed (types_at table.types) finished_typing k r).1,
      );
    }

  -- ---- the beginning

  module _ (empty : Table)
      (e : empty ≡ record { max_locals = m.max_locals; max_stack = m.max_stack; types = []; waiting = []; low = 0 }) where
    no_types : (place : ℕ) (frame : PlaceTypes) → types_at empty.types place ≡ Some frame → ⊥
    no_types place frame is = nothing_at place frame (ap (λ (t : Table). types_at t.types place) (sym e) ∙ is)

    pub empty_table : IsTable (types_of p.world) empty
    empty_table = record {
      even = ap (λ (t : Table). length t.waiting) e ∙ sym (ap (λ (t : Table). length t.types) e);
      small = omega (arith, ap (λ (t : Table). length t.types) e);
      done = λ place l. ap (λ (t : Table). waits t.waiting place) e;
      frames = λ place frame is. absurd (no_types place frame is);
    }

    first_led : (place : ℕ) → is_led_to (entry_flow (types_of p.world) m ∷ []) place ≡ true → place ≡ 0
    first_led place h = go (nat_eq place 0) refl h
      where
        go : (b : Bool) → nat_eq place 0 ≡ b → (b || false) ≡ true → place ≡ 0
        go true q r = eqb-true place 0 q
        go false q r = absurd (false≢true r)

    at_start : (place : ℕ) → place ≡ 0 → IsReachable m place
    at_start place h = subst (IsReachable m) (sym h) start

    pub first_solving : (new : Table) → All (CanCatch p.world) m.table
        → IsGrown (types_of p.world) (entry_flow (types_of p.world) m ∷ []) empty new → IsSolving p m new
    first_solving new catches q = record {
      catches = catches;
      is_table = q.table;
      max_locals = q.max_locals ∙ ap (λ (t : Table). t.max_locals) e;
      max_stack = q.max_stack ∙ ap (λ (t : Table). t.max_stack) e;
      entry = one_of (Takes (types_of p.world) (types_at new.types)) (entry_flow (types_of p.world) m) q.taken;
      below = λ other t. q.least other (other_frames empty (ap (λ (t : Table). t.max_locals) e) (ap (λ (t : Table). t.max_stack) e)
          other t) (λ place frame is. absurd (no_types place frame is))
          (all_one (Takes (types_of p.world) other) (entry_flow (types_of p.world) m) t.entry);
      reached = λ place frame is. elim (q.places place frame is) [
        | inl b ↦ absurd (no_types place b.0 b.1)
        | inr led ↦ at_start place (first_led place led)
      ];
      closed = λ place frame is. elim (q.changes place) [
        | inl same ↦ absurd (no_types place frame (sym same ∙ is))
        | inr w ↦ inl w
      ];
    }

    pub first_refused : AreRefused (types_of p.world) (entry_flow (types_of p.world) m ∷ []) empty → HasTyping p m → ⊥
    first_refused h (other, t) =
        h other (other_frames empty (ap (λ (t : Table). t.max_locals) e) (ap (λ (t : Table). t.max_stack) e) other t)
        (λ place frame is. absurd (no_types place frame is))
        (all_one (Takes (types_of p.world) other) (entry_flow (types_of p.world) m) t.entry)

  entry_count : length (entry_frame (types_of p.world) m).locals ≡ length m.params + (m.max_locals - length m.params)
  entry_count =
      length-append (map (place_of (types_of p.world)) m.params) (replicate (m.max_locals - length m.params) places.Unset)
      ∙ ap (λ (n : ℕ). n + length (replicate (m.max_locals - length m.params) places.Unset))
      (length-map m.params (place_of (types_of p.world)))
      ∙ ap (λ (n : ℕ). length m.params + n) (length-replicate (m.max_locals - length m.params) places.Unset)

  pub too_many : m.max_locals < length m.params → HasTyping p m → ⊥
  too_many l (other, t) =
      let c = (t.each 0 t.entry.there t.entry.is_there).limits.proper.count in
      let w = length_all_zip (IsWithin (types_of p.world)) (entry_frame (types_of p.world) m).locals t.entry.there.locals
      t.entry.wide.locals in
      absurd (omega (arith, entry_count, c, w, l))

  pub entry_proper : length m.params ≤ m.max_locals → IsProper (types_of p.world) m.max_locals (entry_frame (types_of p.world) m)
  entry_proper l = record {
    count = omega (arith, entry_count, l);
    set = All-nil IsSet;
    locals = All-append (IsOfWorld (types_of p.world)) (map (place_of (types_of p.world)) m.params)
        (replicate (m.max_locals - length m.params) places.Unset) (slots_of_world (types_of p.world) laws m.params g.params)
        (All-replicate (IsOfWorld (types_of p.world)) (m.max_locals - length m.params) places.Unset tt);
    stack = All-nil (IsOfWorld (types_of p.world));
  }
