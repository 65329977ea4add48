-- Locals that handlers take already.
use Rattle.std.proofs.Common.{◌≡◌, ℕ, ◌+◌, ◌<◌, ◌≤◌, Bool, true, false, cond, ltb, leb, ◌&&◌, List, [], ◌∷◌, ◌++◌, length, take}
use Rattle.std.proofs.Common.{get_or, map, refl, sym, ap, subst, ◌∙◌, arith}
use Rattle.std.specs.Prelude.{All, filter, min, max}
use Rattle.std.proofs.lemmas.Bool.{ltb-true, ltb-false, lt-ltb, le-ltb, le-leb, lt-leb}
use Rattle.std.proofs.lemmas.List.{take_more}
use Rattle.std.proofs.lemmas.List.Elements.{filter-append, All-weaker}
use Rattle.std.proofs.Math.Bool.{and-false}
use Rattle.jvm_values.specs.TypedHeaps.{AreLawful}
use Rattle.jvm_values.specs.declared.typing.PlaceType.{PlaceType}
use Rattle.jvm_values.specs.declared.typing.PlaceType.TheVariants as places
use Rattle.jvm_values.specs.States.{PlaceTypes}
use Rattle.class_program.specs.class_world.World.{World}
use Rattle.class_program.specs.class_world.Types.{erase}
use Rattle.class_program.specs.class_world.WorldTypes.{types_of}
use Rattle.class_program.specs.declared.program.CatchRange.{CatchRange}
use Rattle.frame_types.specs.Tables.{CodeTypes, Flow, Takes, IsAtMost}
use Rattle.frame_types.proofs.GrowthLaws.{takes_more}
use Rattle.code_verify.specs.declared.passed.Passed.{Passed}
use Rattle.code_verify.specs.declared.passed.Stretch.{Stretch}
use Rattle.code_verify.specs.Flows.{covers, caught_class, caught}
use Rattle.code_verify.specs.inner.Solving.{IsPassed, narrowed}

-- ---- places of a range

pub before_range : (q : ℕ) (range : CatchRange) → q < range.start → covers q range ≡ false
before_range q range l = ap (λ (b : Bool). b && ltb q range.end) (lt-leb range.start q l)

pub past_range : (q : ℕ) (range : CatchRange) → range.end ≤ q → covers q range ≡ false
past_range q range l = ap (λ (b : Bool). leb range.start q && b) (le-ltb q range.end l) ∙ and-false (leb range.start q)

pub in_range : (q : ℕ) (range : CatchRange) → range.start ≤ q → q < range.end → covers q range ≡ true
in_range q range l k = ap (λ (b : Bool). b && ltb q range.end) (le-leb range.start q l) ∙ lt-ltb q range.end k

-- what narrowing keeps
pub record IsNarrowed (place : ℕ) (range : CatchRange) (around now : Stretch) : Type 0 where
  pub low : now.low ≤ place
  pub end : place < now.end
  pub within : (q : ℕ) → now.low ≤ q → q < now.end → (around.low ≤ q) × (q < around.end)
  pub same : (q : ℕ) → now.low ≤ q → q < now.end → covers q range ≡ covers place range

by_tests : (place : ℕ) (range : CatchRange) (around : Stretch) → around.low ≤ place → place < around.end → (a b : Bool)
    → ltb place range.start ≡ a → ltb place range.end ≡ b
    → IsNarrowed place range around
    (cond a (record { low = around.low; end = min around.end range.start })
    (cond b (record { low = max around.low range.start; end = min around.end range.end })
    (record { low = max around.low range.end; end = around.end })))
by_tests place range around l k true b e f =
    let s : place < range.start = ltb-true place range.start e in
    record {
      low = l;
      end = omega (arith, k, s);
      within = λ q u (v : q < min around.end range.start). (u, omega (arith, v));
      same = λ q u (v : q < min around.end range.start). before_range q range (omega (arith, v)) ∙ sym (before_range place range s);
    }
by_tests place range around l k false true e f =
    let s : range.start ≤ place = ltb-false place range.start e in
    let t : place < range.end = ltb-true place range.end f in
    record {
      low = omega (arith, l, s);
      end = omega (arith, k, t);
      within = λ q (u : max around.low range.start ≤ q) (v : q < min around.end range.end). (omega (arith, u), omega (arith, v));
      same = λ q (u : max around.low range.start ≤ q) (v : q < min around.end range.end). in_range q range (omega (arith, u))
          (omega (arith, v)) ∙ sym (in_range place range s t);
    }
by_tests place range around l k false false e f =
    let t : range.end ≤ place = ltb-false place range.end f in
    record {
      low = omega (arith, l, t);
      end = k;
      within = λ q (u : max around.low range.end ≤ q) v. (omega (arith, u), v);
      same = λ q (u : max around.low range.end ≤ q) v. past_range q range (omega (arith, u)) ∙ sym (past_range place range t);
    }

pub narrowed_right : (place : ℕ) (range : CatchRange) (around now : Stretch) → around.low ≤ place → place < around.end
    → now ≡ narrowed place range around → IsNarrowed place range around now
narrowed_right place range around now l k e = subst (IsNarrowed place range around) (sym e)
    (by_tests place range around l k (ltb place range.start) (ltb place range.end) refl refl)

one_covered : (q place : ℕ) (range : CatchRange) → covers q range ≡ covers place range
    → filter (covers q) (range ∷ []) ≡ filter (covers place) (range ∷ [])
one_covered q place range e = ap (λ (b : Bool). cond b (range ∷ []) []) e

-- one range more
pub more_covered : (q place : ℕ) (ranges : List CatchRange) (i : ℕ) (d : CatchRange) → i < length ranges
    → filter (covers q) (take i ranges) ≡ filter (covers place) (take i ranges)
    → covers q (get_or ranges i d) ≡ covers place (get_or ranges i d)
    → filter (covers q) (take (i + 1) ranges) ≡ filter (covers place) (take (i + 1) ranges)
more_covered q place ranges i d l e f =
    let t = take_more ranges i d l in
    ap (filter (covers q)) t
    ∙ filter-append (covers q) (take i ranges) (get_or ranges i d ∷ [])
    ∙ ap (λ (xs : List CatchRange). xs ++ filter (covers q) (get_or ranges i d ∷ [])) e
    ∙ ap (λ (xs : List CatchRange). filter (covers place) (take i ranges) ++ xs) (one_covered q place (get_or ranges i d) f)
    ∙ sym (filter-append (covers place) (take i ranges) (get_or ranges i d ∷ []))
    ∙ ap (filter (covers place)) (sym t)

-- nothing came yet
none_below : (a b : ℕ) → b ≡ 0 → a < b → ⊥
none_below a b e l = omega arith

pub nothing_passed : (world : World) (ranges : List CatchRange) (typing : CodeTypes) (passed : Passed)
    → passed ≡ record { places = record { low = 0; end = 0 }; locals = [] } → IsPassed world ranges typing passed
nothing_passed world ranges typing passed e place frame l m f = absurd
    (none_below place passed.places.end (ap (λ (x : Passed). x.places.end) e) m)

-- ---- what comes to handlers

-- what comes depends on the locals and the ranges alone
abbrev caught_by : World → List PlaceType → List CatchRange → List Flow
caught_by world locals ranges = map
    (λ (range : CatchRange). record
    { to = range.handler; frame = record { locals = locals; stack = places.Ref (erase world (caught_class range)) ∷ [] } }) ranges

pub same_caught : (world : World) (ranges : List CatchRange) (q place : ℕ) (a b : PlaceTypes) → a.locals ≡ b.locals
    → filter (covers q) ranges ≡ filter (covers place) ranges → caught world q a ranges ≡ caught world place b ranges
same_caught world ranges q place a b e f = ap (λ (locals : List PlaceType). caught_by world locals (filter (covers q) ranges)) e
    ∙ ap (caught_by world b.locals) f

module _ (world : World) (laws : AreLawful (types_of world)) (ranges : List CatchRange) where
  -- the types have grown since
  pub passed_on : (a b : CodeTypes) (passed : Passed) → IsAtMost (types_of world) a b → IsPassed world ranges a passed
      → IsPassed world ranges b passed
  passed_on a b passed h p place frame l m e = All-weaker (Takes (types_of world) a) (Takes (types_of world) b)
      (takes_more (types_of world) laws a b h) (caught world place frame ranges) (p place frame l m e)

  -- they took what came from a place
  pub passed_from : (typing : CodeTypes) (passed : Passed) (place : ℕ) (frame : PlaceTypes) → passed.locals ≡ frame.locals
      → ((q : ℕ) → passed.places.low ≤ q → q < passed.places.end → filter (covers q) ranges ≡ filter (covers place) ranges)
      → All (Takes (types_of world) typing) (caught world place frame ranges) → IsPassed world ranges typing passed
  passed_from typing passed place frame e same h q other l m f = subst (All (Takes (types_of world) typing))
      (sym (same_caught world ranges q place other frame (f ∙ e) (same q l m))) h
