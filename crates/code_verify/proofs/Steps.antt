-- The steps of the search for the least typing of a method, by what its calls answer.
use Rattle.std.proofs.Common.{◌≡◌, ◌↔◌, ℕ, ◌+◌, ◌<◌, ◌≤◌, Bool, true, false, List, [], ◌∷◌, length, Option, Some, None, refl, sym}
use Rattle.std.proofs.Common.{ap, subst, ◌∙◌}
use Rattle.std.specs.Prelude.{All, IsTrue, MatchBool, slice_set}
use Rattle.std.proofs.lemmas.Bool.{false≢true}
use Rattle.jvm_values.specs.TypedHeaps.{AreLawful}
use Rattle.jvm_values.specs.declared.typing.FrameType.{FrameType}
use Rattle.jvm_values.specs.States.{PlaceTypes}
use Rattle.jvm_values.proofs.Options.{some_is}
use Rattle.class_program.specs.class_world.WorldTypes.{types_of}
use Rattle.class_program.specs.declared.program.CatchRange.{CatchRange}
use Rattle.class_program.specs.declared.program.Method.{Method}
use Rattle.class_program.specs.Programs.{Program}
use Rattle.class_program.specs.Good.{IsGood, IsGoodMethod}
use Rattle.frame_types.specs.declared.table.Table.{Table}
use Rattle.frame_types.specs.Places.{IsProper}
use Rattle.frame_types.specs.Tables.{Flow, types_at}
use Rattle.frame_types.specs.Growth.{IsGrown, AreRefused, waits}
use Rattle.frame_types.specs.Work.{work_left}
use Rattle.frame_types.proofs.WorkLaws.{taken_work, looked_work}
use Rattle.code_verify.specs.Flows.{flows_from, CanCatch}
use Rattle.code_verify.specs.Typings.{HasTyping, IsLeastTyping, entry_frame}
use Rattle.code_verify.specs.Answers.{Looks}
use Rattle.code_verify.specs.inner.Solving.{IsSolving}
use Rattle.code_verify.proofs.FlowLaws.{came}
use Rattle.code_verify.proofs.Solved.{refused, solved, finished, first_solving, first_refused, entry_proper}

-- a table that catches something else has no typing
pub not_caught : (p : Program) (m : Method) (ranges : List CatchRange) (ok : Bool) → ranges ≡ m.table → ok ≡ false
    → IsTrue ok ↔ All (CanCatch p.world) ranges → HasTyping p m → ⊥
not_caught p m ranges ok same e h (other, t) = false≢true (sym e ∙ h.1 (subst (All (CanCatch p.world)) (sym same) t.catches))

pub caught_all : (p : Program) (m : Method) (ranges : List CatchRange) (ok : Bool) → ranges ≡ m.table → ok ≡ true
    → IsTrue ok ↔ All (CanCatch p.world) ranges → All (CanCatch p.world) m.table
caught_all p m ranges ok same e h = subst (All (CanCatch p.world)) same (h.0 e)

module _ (p : Program) (m : Method) (good : IsGood p) (g : IsGoodMethod p m) (laws : AreLawful (types_of p.world)) where
  -- ---- the beginning

  module _ (empty : Table)
      (e : empty ≡ record { max_locals = m.max_locals; max_stack = m.max_stack; types = []; waiting = []; low = 0 }) where
    pub begun_proper : (frame : PlaceTypes) → frame ≡ entry_frame (types_of p.world) m → length m.params ≤ m.max_locals
        → IsProper (types_of p.world) empty.max_locals frame
    begun_proper frame f l =
        let there : IsProper (types_of p.world) empty.max_locals (entry_frame (types_of p.world) m) = subst
        (λ (n : ℕ). IsProper (types_of p.world) n (entry_frame (types_of p.world) m)) (sym (ap (λ (t : Table). t.max_locals) e))
        (entry_proper p m good g laws l) in
        subst (IsProper (types_of p.world) empty.max_locals) (sym f) there

    pub begun : (frame : PlaceTypes) (new : Table) → frame ≡ entry_frame (types_of p.world) m → All (CanCatch p.world) m.table
        → IsGrown (types_of p.world) (record { to = 0; frame = frame } ∷ []) empty new → IsSolving p m new
    begun frame new f catches q = first_solving p m good g laws empty e new catches
        (subst (λ (x : PlaceTypes). IsGrown (types_of p.world) (record { to = 0; frame = x } ∷ []) empty new) f q)

    pub not_begun : (frame : PlaceTypes) → frame ≡ entry_frame (types_of p.world) m
        → AreRefused (types_of p.world) (record { to = 0; frame = frame } ∷ []) empty → HasTyping p m → ⊥
    not_begun frame f h = first_refused p m good g laws empty e
        (subst (λ (x : PlaceTypes). AreRefused (types_of p.world) (record { to = 0; frame = x } ∷ []) empty) f h)

  -- ---- a place that is looked at

  module _ (old mid : Table) (s : IsSolving p m old) (place : ℕ)
      (is : mid ≡ record old { waiting = slice_set old.waiting place false; low = place + 1 }) (below : (k : ℕ) → k < place
      → waits old.waiting k ≡ false) where
    pub looked_is : (frame : PlaceTypes) (new : Table) (ok : Bool) → types_at mid.types place ≡ Some frame
        → Looks (types_of p.world) (flows_from p m place frame) ok mid new → MatchBool ok (IsSolving p m new) (HasTyping p m → ⊥)
    looked_is frame new true there h = solved p m good g laws old mid s place is below frame there new h
    looked_is frame new false there h = refused p m good g laws old mid s place is below frame there new h

    -- less work is left
    pub taken_less : IsTrue (waits old.waiting place) → work_left (types_of p.world) mid < work_left (types_of p.world) old
    taken_less w = subst (λ (t : Table). work_left (types_of p.world) t < work_left (types_of p.world) old) (sym is)
        (taken_work (types_of p.world) laws old place s.is_table w)

    less_by : (found : Option (List Flow)) (new : Table) (ok : Bool) → IsTrue (waits old.waiting place)
        → Looks (types_of p.world) found ok mid new → ok ≡ true → work_left (types_of p.world) new < work_left (types_of p.world) old
    less_by None new ok w h e = absurd (false≢true (sym h ∙ e))
    less_by (Some flows) new ok w h e = looked_work (types_of p.world) laws flows old mid new place s.is_table w is
        (came (types_of p.world) laws flows ok mid new e h)

    pub looked_less : IsTrue (waits old.waiting place) → (frame : PlaceTypes) (new : Table) (ok : Bool)
        → Looks (types_of p.world) (flows_from p m place frame) ok mid new → Some ok ≡ Some true
        → work_left (types_of p.world) new < work_left (types_of p.world) old
    looked_less w frame new ok h e = less_by (flows_from p m place frame) new ok w h (some_is e)

  -- ---- the end

  pub ended : (old new : Table) → IsSolving p m old → ((k : ℕ) → waits old.waiting k ≡ false) → new.types ≡ old.types
      → IsLeastTyping p m (types_at new.types)
  ended old new s done e = subst (λ (xs : List (Option FrameType)). IsLeastTyping p m (types_at xs)) (sym e)
      (finished p m good g laws old s done)
