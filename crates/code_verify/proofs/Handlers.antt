-- A handler that is entered.
use Rattle.std.proofs.Common.{◌≡◌, ℕ, ◌<◌, Bool, true, false, cond, List, [], ◌∷◌, ◌++◌, length, take, get_or, map, Result, Ok, Err}
use Rattle.std.proofs.Common.{refl, sym, ap, subst, ◌∙◌, arith}
use Rattle.std.specs.Prelude.{All, IfOk, filter}
use Rattle.std.proofs.lemmas.Bool.{false≢true}
use Rattle.std.proofs.lemmas.List.Elements.{All-cons, All-nil}
use Rattle.jvm_values.specs.declared.typing.PlaceType.{PlaceType}
use Rattle.jvm_values.specs.declared.typing.PlaceType.TheVariants as places
use Rattle.jvm_values.specs.States.{PlaceTypes}
use Rattle.jvm_values.specs.TypedHeaps.{WorldTypes, AreLawful}
use Rattle.class_program.specs.class_world.World.{World}
use Rattle.class_program.specs.class_world.Types.{erase}
use Rattle.class_program.specs.class_world.WorldTypes.{types_of}
use Rattle.class_program.specs.declared.program.CatchRange.{CatchRange}
use Rattle.frame_types.specs.declared.table.Table.{Table}
use Rattle.frame_types.specs.Places.{IsOfWorld, IsSet, IsProper}
use Rattle.frame_types.specs.Tables.{Flow}
use Rattle.frame_types.specs.Growth.{IsTable, IsGrown}
use Rattle.frame_types.proofs.GrowthLaws.{grown_none}
use Rattle.code_verify.specs.Answers.{Comes}
use Rattle.code_verify.specs.Flows.{covers, caught_class, CanCatch, caught_frame, caught}
use Rattle.code_verify.proofs.TypeShapes.{erased_of_world}

one_caught : (world : World) (place : ℕ) (frame : PlaceTypes) (range : CatchRange) (b : Bool) → covers place range ≡ b
    → caught world place frame (range ∷ []) ≡ cond b (record { to = range.handler; frame = caught_frame world frame range } ∷ []) []
one_caught world place frame range b e = go b e
  where
    f : CatchRange → Flow
    f r = record { to = r.handler; frame = caught_frame world frame r }

    go : (b : Bool) → covers place range ≡ b
        → map f (cond (covers place range) (range ∷ filter (covers place) []) (filter (covers place) [])) ≡ cond b (f range ∷ []) []
    go true h = ap (λ (t : Bool). map f (cond t (range ∷ filter (covers place) []) (filter (covers place) []))) h
    go false h = ap (λ (t : Bool). map f (cond t (range ∷ filter (covers place) []) (filter (covers place) []))) h

module _ (world : World) (laws : AreLawful (types_of world)) where
  -- the range does not have the place
  pub passed : (place : ℕ) (old : PlaceTypes) (range : CatchRange) (table : Table) → covers place range ≡ false
      → IsTable (types_of world) table → IsGrown (types_of world) (caught world place old (range ∷ [])) table table
  passed place old range table e t = subst (λ (fs : List Flow). IsGrown (types_of world) fs table table)
      (sym (one_caught world place old range false e)) (grown_none (types_of world) laws table t)

  -- or it has
  pub entered : {E : Type 0} (r : Result Bool E) (place : ℕ) (old now : PlaceTypes) (range : CatchRange) (a b : Table)
      → covers place range ≡ true → now ≡ record { locals = old.locals; stack = places.Ref (erase world (caught_class range)) ∷ [] }
      → IfOk r (λ ok. Comes (types_of world) (record { to = range.handler; frame = now } ∷ []) ok a b)
      → IfOk r (λ ok. Comes (types_of world) (caught world place old (range ∷ [])) ok a b)
  entered (Err fault) place old now range a b e f h = tt
  entered (Ok ok) place old now range a b e f h =
      let same : caught world place old (range ∷ []) ≡ record { to = range.handler; frame = now } ∷ [] =
      one_caught world place old range true e ∙ ap (λ (x : PlaceTypes). record { to = range.handler; frame = x } ∷ []) (sym f) in
      subst (λ (fs : List Flow). Comes (types_of world) fs ok a b) (sym same) h

  -- what is caught is of the world, and so the frame is proper
  pub alone_proper : (count : ℕ) (range : CatchRange) (frame : PlaceTypes) → CanCatch world range → length frame.locals ≡ count
      → All (IsOfWorld (types_of world)) frame.locals → frame.stack ≡ places.Ref (erase world (caught_class range)) ∷ []
      → IsProper (types_of world) count frame
  alone_proper count range frame h c l s =
      let o : IsOfWorld (types_of world) (places.Ref (erase world (caught_class range))) = erased_of_world (types_of world) laws
      (caught_class range) (laws.of_world _ _ h).0 in
      record {
        count = c;
        set = subst (All IsSet) (sym s)
            (All-cons IsSet (places.Ref (erase world (caught_class range))) []
            (λ (e : places.Ref (erase world (caught_class range)) ≡ places.Unset). cc) (All-nil IsSet));
        locals = l;
        stack = subst (All (IsOfWorld (types_of world))) (sym s)
            (All-cons (IsOfWorld (types_of world)) (places.Ref (erase world (caught_class range))) [] o
            (All-nil (IsOfWorld (types_of world))));
      }

-- an answer for each frame with these locals
pub for_all_olds : {E : Type 0} (r : Result Bool E) (locals : List PlaceType) (C : PlaceTypes → Bool → Type 0)
    → ((old : PlaceTypes) → old.locals ≡ locals → IfOk r (C old)) → IfOk r (λ ok. (old : PlaceTypes) → old.locals ≡ locals → C old ok)
for_all_olds (Ok ok) locals C h = h
for_all_olds (Err fault) locals C h = tt
