-- Flows that come to a table one after the other.
use Rattle.std.proofs.Common.{◌≡◌, ℕ, zero, suc, ◌+◌, ◌<◌, Bool, true, false, List, [], ◌∷◌, ◌++◌, length, take, drop, map, get_or}
use Rattle.std.proofs.Common.{Option, Some, None, Result, Ok, Err, refl, sym, ap, subst, ◌∙◌, arith}
use Rattle.std.specs.Prelude.{All, IfOk, filter}
use Rattle.std.proofs.lemmas.Bool.{false≢true}
use Rattle.std.proofs.lemmas.List.{take-append-drop, map-append, take_more}
use Rattle.std.proofs.lemmas.List.Elements.{filter-append}
use Rattle.std.proofs.Math.Seq.{take-length}
use Rattle.jvm_values.specs.States.{PlaceTypes}
use Rattle.jvm_values.specs.TypedHeaps.{WorldTypes, AreLawful}
use Rattle.class_program.specs.class_world.World.{World}
use Rattle.class_program.specs.declared.program.CatchRange.{CatchRange}
use Rattle.class_program.specs.code_forms.declared.insn.Case.{Case}
use Rattle.frame_types.specs.declared.table.Table.{Table}
use Rattle.frame_types.specs.Tables.{Flow}
use Rattle.frame_types.specs.Growth.{IsTable, IsGrown, AreRefused}
use Rattle.frame_types.proofs.GrowthLaws.{grown_none, grown_more, refused_after, refused_first}
use Rattle.code_verify.specs.Answers.{Comes}
use Rattle.code_verify.specs.Flows.{covers, caught_frame, onward, caught}

-- ---- flows of lists

pub onward_adds : (after : PlaceTypes) (xs ys : List ℕ) → onward after (xs ++ ys) ≡ onward after xs ++ onward after ys
onward_adds after xs ys = map-append (λ (to : ℕ). record { to = to; frame = after }) xs ys

-- flows of two lists of places
pub onward_two : (after : PlaceTypes) (xs ys us vs : List ℕ) → us ≡ xs → vs ≡ ys
    → onward after (xs ++ ys) ≡ onward after us ++ onward after vs
onward_two after xs ys us vs p q = onward_adds after xs ys ∙ ap (λ (zs : List ℕ). onward after zs ++ onward after ys) (sym p)
    ∙ ap (λ (zs : List ℕ). onward after us ++ onward after zs) (sym q)

pub cases_add : (after : PlaceTypes) (xs ys : List Case)
    → onward after (map (λ c. c.target) (xs ++ ys)) ≡ onward after (map (λ c. c.target) xs) ++ onward after (map (λ c. c.target) ys)
cases_add after xs ys = ap (onward after) (map-append (λ (c : Case). c.target) xs ys)
    ∙ onward_adds after (map (λ c. c.target) xs) (map (λ c. c.target) ys)

pub caught_adds : (world : World) (place : ℕ) (frame : PlaceTypes) (xs ys : List CatchRange)
    → caught world place frame (xs ++ ys) ≡ caught world place frame xs ++ caught world place frame ys
caught_adds world place frame xs ys =
    let f : CatchRange → Flow = λ range. record { to = range.handler; frame = caught_frame world frame range } in
    ap (map f) (filter-append (covers place) xs ys) ∙ map-append f (filter (covers place) xs) (filter (covers place) ys)

-- ---- one after the other

module _ (types : WorldTypes) (laws : AreLawful types) where
  pub none_come : (F : List Flow) (table : Table) → F ≡ [] → IsTable types table → IsGrown types F table table
  none_come F table e h = subst (λ (fs : List Flow). IsGrown types fs table table) (sym e) (grown_none types laws table h)

  pub both_come : (fs gs all : List Flow) (ok : Bool) (a b c : Table) → IsGrown types fs a b → all ≡ fs ++ gs
      → Comes types gs ok b c → Comes types all ok a c
  both_come fs gs all true a b c h e k = subst (λ (x : List Flow). IsGrown types x a c) (sym e) (grown_more types laws fs gs a b c h k)
  both_come fs gs all false a b c h e k = subst (λ (x : List Flow). AreRefused types x a) (sym e) (refused_after types laws fs gs a b h k)

  pub both_answer : {E : Type 0} (r : Result Bool E) (fs gs all : List Flow) (a b c : Table) → IsGrown types fs a b → all ≡ fs ++ gs
      → IfOk r (λ ok. Comes types gs ok b c) → IfOk r (λ ok. Comes types all ok a c)
  both_answer (Ok ok) fs gs all a b c h e k = both_come fs gs all ok a b c h e k
  both_answer (Err fault) fs gs all a b c h e k = tt

  pub came : (fs : List Flow) (ok : Bool) (a b : Table) → ok ≡ true → Comes types fs ok a b → IsGrown types fs a b
  came fs true a b e h = h
  came fs false a b e h = absurd (false≢true e)

  pub did_not_come : (fs : List Flow) (ok : Bool) (a b : Table) → ok ≡ false → Comes types fs ok a b → AreRefused types fs a
  did_not_come fs true a b e h = absurd (false≢true (sym e))
  did_not_come fs false a b e h = h

  pub first_refuses : (fs gs all : List Flow) (a : Table) → AreRefused types fs a → all ≡ fs ++ gs → AreRefused types all a
  first_refuses fs gs all a h e = subst (λ (x : List Flow). AreRefused types x a) (sym e) (refused_first types laws fs gs a h)

  module _ {A : Type 0} (F : List A → List Flow) (adds : (xs ys : List A) → F (xs ++ ys) ≡ F xs ++ F ys) (xs : List A) where
    pub next_comes : (i : ℕ) (d : A) (a b c : Table) → i < length xs → IsGrown types (F (take i xs)) a b
        → IsGrown types (F (get_or xs i d ∷ [])) b c → IsGrown types (F (take (i + 1) xs)) a c
    next_comes i d a b c l h k =
        subst (λ (x : List Flow). IsGrown types x a c) (sym (ap F (take_more xs i d l) ∙ adds (take i xs) (get_or xs i d ∷ [])))
        (grown_more types laws (F (take i xs)) (F (get_or xs i d ∷ [])) a b c h k)

    pub next_passes : (i : ℕ) (d : A) (a b : Table) → i < length xs → IsGrown types (F (take i xs)) a b
        → F (get_or xs i d ∷ []) ≡ [] → IsGrown types (F (take (i + 1) xs)) a b
    next_passes i d a b l h e =
        let none : IsGrown types (F (get_or xs i d ∷ [])) b b = none_come (F (get_or xs i d ∷ [])) b e h.table in
        next_comes i d a b b l h none

    pub next_refuses : (i : ℕ) (d : A) (a b : Table) → i < length xs → IsGrown types (F (take i xs)) a b
        → AreRefused types (F (get_or xs i d ∷ [])) b → AreRefused types (F xs) a
    next_refuses i d a b l h k =
        let r : AreRefused types (F (take i xs) ++ F (get_or xs i d ∷ [])) a = refused_after types laws (F (take i xs))
        (F (get_or xs i d ∷ [])) a b h k in
        let s : AreRefused types (F (take (i + 1) xs)) a = subst (λ (x : List Flow). AreRefused types x a)
        (sym (ap F (take_more xs i d l) ∙ adds (take i xs) (get_or xs i d ∷ []))) r in
        first_refuses (F (take (i + 1) xs)) (F (drop (i + 1) xs)) (F xs) a s (ap F (sym (take-append-drop (i + 1) xs))
        ∙ adds (take (i + 1) xs) (drop (i + 1) xs))

    pub all_came : (i : ℕ) (a b : Table) → i ≡ length xs → IsGrown types (F (take i xs)) a b → IsGrown types (F xs) a b
    all_came i a b e h = subst (λ (x : List A). IsGrown types (F x) a b) (ap (λ (n : ℕ). take n xs) e ∙ take-length xs) h
