-- A state that looks for a handler: the handler begins with the object, or its caller's frame looks for one.
use Rattle.std.proofs.Common.{◌≡◌, ℕ, Bool, true, false, if◌then◌else◌, List, [], ◌∷◌, drop, take, filter}
use Rattle.std.proofs.Common.{Option, Some, None, refl, sym, subst, arith}
use Rattle.std.specs.Prelude.{map}
use Rattle.std.specs.List.{AllByRecursion, find}
use Rattle.std.proofs.lemmas.Bool.{false≢true}
use Rattle.std.proofs.lemmas.List.Elements.{recursion_from_All}
use Rattle.std.proofs.lemmas.Option.{none-some}
use Rattle.jvm_values.specs.declared.types.Ty.{Ty}
use Rattle.jvm_values.specs.declared.typing.PlaceType.TheVariants as places
use Rattle.jvm_values.specs.States.{PlaceTypes}
use Rattle.jvm_values.specs.Subtyping.{class_type, IsReference, IsErased}
use Rattle.jvm_values.specs.TypedHeaps.{WorldTypes, AreLawful}
use Rattle.jvm_values.proofs.Options.{some_is}
use Rattle.jvm_run.proofs.Placed.{Placed, placed}
use Rattle.abs_cells.specs.declared.cells.Cell.{Cell}
use Rattle.abs_cells.specs.declared.cells.Cell.TheVariants as cells
use Rattle.abs_cells.specs.AbstractStates.{AbstractFrame, AbstractState}
use Rattle.abs_cells.specs.Cells.{HasCell}
use Rattle.abs_cells.specs.Sound.{is_object}
use Rattle.abs_reach.specs.Instances.{is_no_int}
use Rattle.abs_ints.proofs.OperatorCases.{if_either}
use Rattle.class_world.specs.BuiltIns.{HasBuiltIns, throwable}
use Rattle.class_world.specs.WorldTypes.{types_of}
use Rattle.class_program.specs.declared.program.CatchRange.{CatchRange}
use Rattle.class_program.specs.Programs.{Program}
use Rattle.frame_types.specs.Tables.{CodeTypes, Takes}
use Rattle.code_verify.specs.Flows.{covers, caught_frame}
use Rattle.code_verify.specs.Typings.{IsTyping}
use Rattle.abs_turns.specs.Needs.{Passing, passes, fails, splits, passing_id, known_partner, split_unknown, split_below}
use Rattle.abs_turns.specs.Plans.{Plan}
use Rattle.abs_turns.specs.Throwing.{takes, handled, is_open, caught_plan, if_passes, throwing_plan}
use Rattle.abs_turns.specs.Turns.{moves}
use Rattle.abs_expand.specs.BadStates.{IsPlaced, statics_under, IsCallerPlaced, AreCallersPlaced, HasRunningStack}
use Rattle.place_sorts.specs.Growing.{AreWaiting}
use Rattle.place_sorts.proofs.Keeping.{KeepsSorts, locals_kept, fields_kept, callers_kept}
use Rattle.place_sorts.proofs.Landing.{running_lands}
use Rattle.place_sorts.proofs.Turns.{IsGrowingTurn, IsGrowingPlan}

object_no_int : (c : Cell) → is_object c ≡ true → is_no_int c ≡ true
object_no_int (cells.Int interval) e = absurd (false≢true e)
object_no_int cells.Null e = absurd (false≢true e)
object_no_int (cells.Obj class ids) e = refl
object_no_int (cells.Nums kind len) e = refl
object_no_int (cells.Refs element len shape) e = refl
object_no_int (cells.Unk bound nullable shape) e = refl

-- what is found among what a test keeps
found_in : (P : CatchRange → Type 0) (test : CatchRange → Bool) (ranges : List CatchRange) (range : CatchRange)
    → AllByRecursion P ranges → find test ranges ≡ Some range → P range
found_in P test [] range a e = absurd (none-some range e)
found_in P test (r ∷ ranges) range a e = by (test r) e (found_in P test ranges range a.1)
  where
    by : (b : Bool) → (if b then Some r else find test ranges) ≡ Some range → (find test ranges ≡ Some range → P range) → P range
    by true f rest = subst P (some_is f) a.0
    by false f rest = rest f

all_of_mapped : {X Y : Type 0} (P : Y → Type 0) (f : X → Y) (xs : List X) → AllByRecursion P (map f xs) → AllByRecursion (λ x. P (f x)) xs
all_of_mapped P f [] a = tt
all_of_mapped P f (x ∷ xs) a = (a.0, all_of_mapped P f xs a.1)

module _ (p : Program) (typing : ℕ → CodeTypes) (state : AbstractState) (x : ℕ) where
  abbrev Types : WorldTypes
  Types = types_of p.world

  abbrev Plans : Plan → Type 0
  Plans = IsGrowingPlan p typing state

  split_grows : (t : Ty) → IsReference Types.classes t × IsErased Types.erase t → (partner : Option ℕ) → Plans (split_unknown x t partner)
  split_grows t w None = w
  split_grows t w (Some other) = tt

  module _ (thrown : HasCell is_object state x) (frame : AbstractFrame) (below : List AbstractFrame) (there : PlaceTypes)
      (own : IsPlaced p typing state (statics_under p below) frame there)
      (callers : AreCallersPlaced p typing state below) (waiting : AreWaiting p frame.method below) where
    thrown_sort : (after : AbstractState) → KeepsSorts state after → HasCell is_no_int after x
    thrown_sort after keeps = (keeps x).other
        (record { cell = thrown.cell; is = thrown.is; sort_is = object_no_int thrown.cell thrown.sort_is })

    handler_grows : (range : CatchRange)
        → Takes Types (typing frame.method) (record { to = range.handler; frame = caught_frame p.world there range })
        → IsGrowingTurn p typing state (moves (record frame { pc = range.handler; stack = x ∷ [] } ∷ below))
    handler_grows range takes = record {
      changed = tt;
      act = tt;
      placed = λ after y keeps made t. (
        running_lands p typing after (statics_under p below) own.method frame.method range.handler
            (caught_frame p.world there range) frame.locals (x ∷ []) own.is_method takes own.count
            (locals_kept state after keeps there.locals (take own.method.max_locals frame.locals) own.locals)
            (fields_kept state after keeps (statics_under p below) (drop own.method.max_locals frame.locals) own.fields)
            (thrown_sort after keeps, tt) t,
        callers_kept state after keeps p typing below callers,
      );
      waiting = waiting;
      framed = λ e. cc;
      thrown = λ y e. absurd (none-some y e);
    }

    unwound_grows : (caller : AbstractFrame) (lower : List AbstractFrame) → IsCallerPlaced p typing state (statics_under p lower)
        caller → AreCallersPlaced p typing state lower → AreWaiting p caller.method lower
        → IsGrowingTurn p typing state (record (moves (record caller { stack = [] } ∷ lower)) { throwing = Some x })
    unwound_grows caller lower c rest w = record {
      changed = tt;
      act = tt;
      placed = λ after y keeps made t. (
        record {
          there = c.there;
          placed = record {
            method = c.placed.method;
            is_method = c.placed.is_method;
            is_there = c.placed.is_there;
            count = c.placed.count;
            locals = locals_kept state after keeps c.there.locals (take c.placed.method.max_locals caller.locals) c.placed.locals;
            fields = fields_kept state after keeps (statics_under p lower) (drop c.placed.method.max_locals caller.locals) c.placed.fields;
          };
          stack = subst (λ (o : Option ℕ). HasRunningStack after o c.there.stack []) (sym t) refl;
        },
        callers_kept state after keeps p typing lower rest,
      );
      waiting = w;
      framed = λ e. cc;
      thrown = λ y e. record { object = subst (HasCell is_object state) (some_is e) thrown; changed = refl; act = refl };
    }

    handled_grows : (found : Option CatchRange)
        → ((range : CatchRange) → found ≡ Some range
        → Takes Types (typing frame.method) (record { to = range.handler; frame = caught_frame p.world there range }))
        → Plans (handled x frame below found)
    handled_grows (Some range) h = (handler_grows range (h range refl), tt)
    handled_grows None h = by below callers waiting
      where
        by : (lower : List AbstractFrame) → AreCallersPlaced p typing state lower → AreWaiting p frame.method lower
            → Plans (handled x frame lower None)
        by [] c w = tt
        by (caller ∷ lower) c w = (unwound_grows caller lower c.0 c.1 w.1, tt)

    pub throwing_grows : AreLawful Types → HasBuiltIns p.world → IsTyping p own.method (typing frame.method)
        → Plans (throwing_plan Types state x frame below own.method.table)
    throwing_grows laws built_ins typed = by (passing_id Types state (places.Ref (class_type throwable)) x)
      where
        throwable_good : IsReference Types.classes (class_type throwable) × IsErased Types.erase (class_type throwable)
        throwable_good = (
          (omega arith, built_ins.there throwable (omega arith)),
          laws.made_is_erased throwable
              (built_ins.there throwable (omega arith)) (built_ins.made throwable (omega arith)),
        )

        at : Placed p own.method (typing frame.method) frame.pc there
        at = placed p own.method (typing frame.method) frame.pc there (typed.each frame.pc there own.is_there)

        ranges : List CatchRange
        ranges = filter (covers frame.pc) own.method.table

        led : AllByRecursion (λ (range : CatchRange). Takes Types (typing frame.method)
            (record { to = range.handler; frame = caught_frame p.world there range })) ranges
        led = all_of_mapped (Takes Types (typing frame.method))
            (λ (range : CatchRange). record { to = range.handler; frame = caught_frame p.world there range }) ranges
            (recursion_from_All (Takes Types (typing frame.method))
            (map (λ (range : CatchRange). record { to = range.handler; frame = caught_frame p.world there range }) ranges) at.handlers)

        by : (passing : Passing) → Plans (if_passes passing (caught_plan Types state x frame below ranges))
        by fails = tt
        by splits = tt
        by passes =
            if_either Plans (is_open Types state x ranges) (split_below state x (places.Ref (class_type throwable)))
            (handled x frame below (find (takes Types state x) ranges))
            (λ _. split_grows (class_type throwable) throwable_good (known_partner state x))
            (λ _. handled_grows (find (takes Types state x) ranges)
            (λ range e. found_in (λ (r : CatchRange). Takes Types (typing frame.method)
            (record { to = r.handler; frame = caught_frame p.world there r })) (takes Types state x) ranges range led e))
