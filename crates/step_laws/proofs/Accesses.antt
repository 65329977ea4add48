-- Accesses to arrays at an index: within the bounds or not, by what both ints are narrowed to.
use Rattle.std.proofs.Common.{◌≡◌, ◌∙◌, ◌<◌, ◌⊎◌, inl, inr, ℕ, ℤ, ◌≤◌, pos, negsuc, ◌<ℤ◌, ◌≤ℤ◌, Bool, true, false, List, [], ◌∷◌}
use Rattle.std.proofs.Common.{◌++◌, Option, Some, None, refl, sym, ap, subst, arith}
use Rattle.std.specs.Prelude.{nat_lt, int_le, int_lt}
use Rattle.std.specs.List.{All, AllByRecursion}
use Rattle.std.specs.Option.{option_map, option_map_or, option_and_then, option_to_list, IsSomeAnd}
use Rattle.std.proofs.lemmas.Bool.{false≢true, ltb-true, ltb-false}
use Rattle.std.proofs.lemmas.Int.{ints}
use Rattle.std.proofs.lemmas.List.Elements.{All-nil, All-from_recursion}
use Rattle.std.proofs.lemmas.Option.{none-some}
use Rattle.lin_core.specs.Intervals.{Bounds, IsIn}
use Rattle.jvm_values.specs.declared.ints.Cond.{Cond}
use Rattle.jvm_values.specs.declared.ints.Cond.TheVariants.{Lt, Ge}
use Rattle.jvm_values.specs.Ints.{cond_holds}
use Rattle.jvm_values.specs.States.{MachineState}
use Rattle.jvm_values.specs.TypedHeaps.{WorldTypes}
use Rattle.jvm_values.proofs.Options.{some_is}
use Rattle.abs_cells.specs.declared.cells.Cell.{Cell}
use Rattle.abs_cells.specs.declared.cells.Cell.TheVariants as cells
use Rattle.abs_cells.specs.AbstractStates.{AbstractState}
use Rattle.abs_cells.specs.Cells.{is_int as is_int_cell}
use Rattle.abs_cells.specs.Fits.{Meaning}
use Rattle.abs_ints.specs.Cases.{case_between}
use Rattle.abs_ints.specs.Comparing.{FallsBetween, GoesBetween, compared, related, standing_so, exchanged, row_of, both_of}
use Rattle.abs_ints.specs.IntIntervals.{meet_of}
use Rattle.abs_ints.specs.declared.cases.IntCase.{IntCase}
use Rattle.abs_ints.specs.declared.cases.ShortRow.{ShortRow}
use Rattle.abs_ints.specs.declared.cases.Way.{Way}
use Rattle.abs_ints.specs.declared.cases.Way.TheVariants.{Taken, Next}
use Rattle.abs_ints.specs.declared.relations.Relation.{Relation}
use Rattle.abs_ints.specs.declared.relations.Relation.TheVariants.{Below, AtLeast}
use Rattle.abs_ints.proofs.AllCases.{is_int}
use Rattle.abs_ints.proofs.Comparisons.{compared_covers}
use Rattle.abs_ints.proofs.Covering.{in_meet}
use Rattle.class_world.specs.BuiltIns.{array_index_out_of_bounds_exception}
use Rattle.class_world.specs.WorldTypes.{types_of}
use Rattle.jvm_step.specs.class_program.Programs.{Program}
use Rattle.frame_types.specs.Tables.{CodeTypes}
use Rattle.jvm_step.specs.Running.{Step, step}
use Rattle.term_graph.specs.Edges.{HoldsBetween}
use Rattle.term_graph.specs.declared.links.LinkRow.{LinkRow}
use Rattle.object_steps.specs.abs_expand.Plans.{Turn, no_rows}
use Rattle.object_steps.specs.abs_expand.Table.{natural, negative, in_bounds, out_of_bounds, access_at}
use Rattle.object_steps.specs.abs_expand.Turns.{id, interval_of_id, narrowings, rows_over, throws_after}
use Rattle.object_steps.proofs.form_steps.SomeOf.{SomeOf, some_one}
use Rattle.object_steps.proofs.form_steps.Results.{NamesNone}
use Rattle.object_steps.proofs.form_steps.RowsHold.{rows_hold_without}
use Rattle.object_steps.proofs.Casts.{some_later}
use Rattle.object_steps.proofs.form_steps.Standing.{Stands, here, raised}
use Rattle.object_steps.proofs.form_steps.TurnKinds.{Fitting, Meets, IsChange, throwing_turn}
use Rattle.object_steps.proofs.form_steps.Operands.{bounded, IntAt, operand_is, narrow_both, narrow_to}

-- ---- the case of a relation

way_is : (way : Way) (left right : Option Bounds) (rows : List ShortRow) (case : IntCase)
    → case_between way left right rows ≡ Some case → case.way ≡ way
way_is way None right rows case e = absurd (none-some case e)
way_is way (Some a) None rows case e = absurd (none-some case e)
way_is way (Some a) (Some b) rows case e = ap (λ (c : IntCase). c.way) (sym (some_is e))

rows_are : (way : Way) (left right : Option Bounds) (rows : List ShortRow) (case : IntCase)
    → case_between way left right rows ≡ Some case → case.rows ≡ rows
rows_are way None right rows case e = absurd (none-some case e)
rows_are way (Some a) None rows case e = absurd (none-some case e)
rows_are way (Some a) (Some b) rows case e = ap (λ (c : IntCase). c.rows) (sym (some_is e))

-- two ints that stand so fall in the relation's case
pub record FallsSo (condition : Cond) (relation : Relation) (a b : Bounds) (m n : ℤ) : Type 0 where
  pub case : IntCase
  pub is : related relation Taken a b ≡ Some case
  pub falls : FallsBetween condition m n case

first_falls : (condition : Cond) (relation other : Relation) (a b : Bounds) (m n : ℤ) → cond_holds condition m n ≡ true
    → (first second : Option IntCase) → related relation Taken a b ≡ first → related other Next a b ≡ second
    → SomeOf (FallsBetween condition m n) (both_of first second) → FallsSo condition relation a b m n
first_falls condition relation other a b m n holds None None e f s = absurd s
first_falls condition relation other a b m n holds (Some case) second e f (inl h) = record { case = case; is = e; falls = h }
first_falls condition relation other a b m n holds (Some case) None e f (inr h) = absurd h
first_falls condition relation other a b m n holds (Some case) (Some next) e f (inr (inl h)) = absurd (never next f h)
  where
    never : (next : IntCase) → related other Next a b ≡ Some next → FallsBetween condition m n next → ⊥
    never next f h = false≢true
        (sym (subst (λ (way : Way). GoesBetween way condition m n)
        (way_is Next (standing_so other a b) (standing_so (exchanged other) b a) (row_of other ∷ []) next f) h.way_taken) ∙ holds)
first_falls condition relation other a b m n holds (Some case) (Some next) e f (inr (inr h)) = absurd h
first_falls condition relation other a b m n holds None (Some next) e f (inl h) = absurd (never next f h)
  where
    never : (next : IntCase) → related other Next a b ≡ Some next → FallsBetween condition m n next → ⊥
    never next f h = false≢true
        (sym (subst (λ (way : Way). GoesBetween way condition m n)
        (way_is Next (standing_so other a b) (standing_so (exchanged other) b a) (row_of other ∷ []) next f) h.way_taken) ∙ holds)
first_falls condition relation other a b m n holds None (Some next) e f (inr h) = absurd h

falls_below : (a b : Bounds) (m n : ℤ) → IsIn m a → IsIn n b → cond_holds Lt m n ≡ true → FallsSo Lt Below a b m n
falls_below a b m n i j holds = first_falls Lt Below AtLeast a b m n holds (related Below Taken a b) (related AtLeast Next a b) refl
    refl (some_one (FallsBetween Lt m n) (compared Lt false a b) (compared_covers Lt false a b m n i j (λ e. absurd (false≢true e))))

falls_above : (a b : Bounds) (m n : ℤ) → IsIn m a → IsIn n b → cond_holds Ge m n ≡ true → FallsSo Ge AtLeast a b m n
falls_above a b m n i j holds = first_falls Ge AtLeast Below a b m n holds (related AtLeast Taken a b) (related Below Next a b) refl
    refl (some_one (FallsBetween Ge m n) (compared Ge false a b) (compared_covers Ge false a b m n i j (λ e. absurd (false≢true e))))

some_first : {X : Type 0} (P : X → Type 0) (xs ys : List X) → SomeOf P xs → SomeOf P (xs ++ ys)
some_first P [] ys h = absurd h
some_first P (x ∷ xs) ys (inl h) = inl h
some_first P (x ∷ xs) ys (inr h) = inr (some_first P xs ys h)

less_is : (k count : ℕ) → k < count → int_lt (pos k) (pos count) ≡ true
less_is k count l = let e : true ≡ int_lt (pos k) (pos count) = omega (arith, ints, l) in sym e

at_least_is : (k count : ℕ) → count ≤ k → int_le (pos count) (pos k) ≡ true
at_least_is k count l = let e : true ≡ int_le (pos count) (pos k) = omega (arith, ints, l) in sym e

module _ (p : Program) (typing : ℕ → CodeTypes) (state : AbstractState) (machine : MachineState) (meaning : Meaning)
    (s : Stands p typing state machine meaning) where
  abbrev types : WorldTypes
  types = types_of p.world

  abbrev Fit : Turn → Type 0
  Fit = Fitting p state machine meaning

  abbrev AreChanges : List (ℕ × Cell) → Type 0
  AreChanges list = AllByRecursion (IsChange types machine.heap state meaning) list

  -- what an index and a length are narrowed to by a relation, with the row
  pub record RelatedBy (index len : ℕ) (case : IntCase) : Type 0 where
    pub list : List (ℕ × Cell)
    pub is : narrowings (id index) case.left (id len) case.right ≡ Some list
    pub are : AreChanges list
    pub ints_ : AllByRecursion (λ (c : ℕ × Cell). is_int_cell c.1 ≡ true) list
    pub rows : (fresh : ℕ) (after : Meaning) → All (HoldsBetween meaning after) (rows_over (id index) (id len) case.rows fresh)

  narrowed_by : (condition : Cond) (relation : Relation) (a b : Bounds) (index len : ℕ) (m n : ℤ) → NamesNone (row_of relation ∷ [])
      → IntAt p typing state machine meaning s index m → IntAt p typing state machine meaning s len n
      → (f : FallsSo condition relation a b m n) → RelatedBy index len f.case
  narrowed_by condition relation a b index len m n none i j f =
      let narrow = narrow_both p typing state machine meaning s (id index) (id len) m n i j f.case.left f.case.right f.falls.left_in
      f.falls.right_in in
      let rows = rows_are Taken (standing_so relation a b) (standing_so (exchanged relation) b a) (row_of relation ∷ []) f.case f.is in
      record {
        list = narrow.list;
        is = narrow.is;
        are = narrow.are;
        ints_ = narrow.ints_;
        rows = λ fresh after. rows_hold_without meaning after (id index) (id len) fresh f.case.rows m n
            (operand_is p typing state machine meaning s (id index) m i) (operand_is p typing state machine meaning s (id len) n j)
            (All-from_recursion (λ (row : ShortRow). row.result ≡ pos 0) f.case.rows (subst NamesNone (sym rows) none)) f.falls.rows_hold;
      }

  -- within the bounds the good steps are met, and outside the machine throws
  pub access_meets : (index len : ℕ) (n : ℤ) (count : ℕ) (good : List (ℕ × Cell) → (ℕ → List LinkRow) → List Turn)
      → IntAt p typing state machine meaning s index n → IntAt p typing state machine meaning s len (pos count)
      → ((i : ℕ) → n ≡ pos i → i < count → (list : List (ℕ × Cell)) (rows : ℕ → List LinkRow) → AreChanges list
      → AllByRecursion (λ (c : ℕ × Cell). is_int_cell c.1 ≡ true) list
      → ((fresh : ℕ) (after : Meaning) → All (HoldsBetween meaning after) (rows fresh)) → SomeOf Fit (good list rows))
      → (((n <ℤ pos 0) ⊎ (pos count ≤ℤ n))
      → step p machine ≡ Step.Going (raised p typing state machine meaning s array_index_out_of_bounds_exception))
      → Meets p state machine meaning (access_at (here p typing state machine meaning s) index len good)
  access_meets index len (negsuc k) count good i j inside outside =
      some_later Fit (option_map_or (λ (x : List (ℕ × Cell) × (ℕ → List LinkRow)). good x.0 x.1)
      (in_bounds (here p typing state machine meaning s) index len) [])
      (out_of_bounds (here p typing state machine meaning s) index len)
      (by (meet_of (interval_of_id state index) negative)
      (in_meet (negsuc k) (interval_of_id state index) negative i.inside (
        (is_int (interval_of_id state index) (negsuc k) (bounded p typing state machine meaning s index) i.inside).0,
        omega
            (arith, ints),
      )))
    where
      by : (found : Option Bounds) → IsSomeAnd found (λ b. IsIn (negsuc k) b)
          → SomeOf Fit (option_to_list
          (option_map (λ both. throws_after (here p typing state machine meaning s) ((index, cells.Int both) ∷ []) no_rows
          array_index_out_of_bounds_exception) found) ++ option_to_list
          (option_and_then (λ (case : IntCase). option_map
          (λ narrowed. throws_after (here p typing state machine meaning s) narrowed (rows_over (id index) (id len) case.rows)
          array_index_out_of_bounds_exception) (narrowings (id index) case.left (id len) case.right))
          (related AtLeast Taken (interval_of_id state index) (interval_of_id state len))))
      by None h = absurd h
      by (Some both) h = inl (throwing_turn p typing state machine meaning s ((index, cells.Int both) ∷ []) no_rows
          array_index_out_of_bounds_exception (narrow_to p typing state machine meaning s index (negsuc k) both i h, tt)
          (omega arith) (λ fresh after. All-nil (HoldsBetween meaning after)) (outside (inl (omega (arith, ints)))))
  access_meets index len (pos k) count good i j inside outside = by (nat_lt k count) refl
    where
      good_by : (low : Option Bounds) → meet_of (interval_of_id state index) natural ≡ low → IsSomeAnd low (λ b. IsIn (pos k) b)
          → k < count → cond_holds Lt (pos k) (pos count) ≡ true
          → SomeOf Fit (option_map_or (λ (x : List (ℕ × Cell) × (ℕ → List LinkRow)). good x.0 x.1)
          (in_bounds (here p typing state machine meaning s) index len) [])
      good_by None e h l c = absurd h
      good_by (Some low) e h l c =
          let f = falls_below low (interval_of_id state len) (pos k) (pos count) h j.inside c in
          let r = narrowed_by Lt Below low (interval_of_id state len) index len (pos k) (pos count) (refl, tt) i j f in
          subst (λ (o : Option (List (ℕ × Cell) × (ℕ → List LinkRow))). SomeOf Fit
          (option_map_or (λ (x : List (ℕ × Cell) × (ℕ → List LinkRow)). good x.0 x.1) o []))
          (sym (ap (option_and_then
          (λ (b : Bounds). option_and_then
          (λ (case : IntCase). option_map (λ narrowed. (narrowed, rows_over (id index) (id len) case.rows))
          (narrowings (id index) case.left (id len) case.right)) (related Below Taken b (interval_of_id state len)))) e
          ∙ ap (option_and_then (λ (case : IntCase). option_map (λ narrowed. (narrowed, rows_over (id index) (id len) case.rows))
          (narrowings (id index) case.left (id len) case.right))) f.is
          ∙ ap (option_map (λ narrowed. (narrowed, rows_over (id index) (id len) f.case.rows))) r.is))
          (inside k refl l r.list (rows_over (id index) (id len) f.case.rows) r.are r.ints_ r.rows)

      bad_by : cond_holds Ge (pos k) (pos count) ≡ true → pos count ≤ℤ pos k
          → SomeOf Fit (option_to_list
          (option_and_then (λ (case : IntCase). option_map
          (λ narrowed. throws_after (here p typing state machine meaning s) narrowed (rows_over (id index) (id len) case.rows)
          array_index_out_of_bounds_exception) (narrowings (id index) case.left (id len) case.right))
          (related AtLeast Taken (interval_of_id state index) (interval_of_id state len))))
      bad_by c l =
          let f = falls_above (interval_of_id state index) (interval_of_id state len) (pos k) (pos count) i.inside j.inside c in
          let r = narrowed_by Ge AtLeast (interval_of_id state index) (interval_of_id state len) index len (pos k) (pos count)
          (refl, tt) i j f in
          subst (λ (o : Option Turn). SomeOf Fit (option_to_list o))
          (sym (ap (option_and_then
          (λ (case : IntCase). option_map
          (λ narrowed. throws_after (here p typing state machine meaning s) narrowed
          (rows_over (id index) (id len) case.rows) array_index_out_of_bounds_exception)
          (narrowings (id index) case.left (id len) case.right))) f.is
          ∙ ap (option_map (λ narrowed. throws_after (here p typing state machine meaning s) narrowed
          (rows_over (id index) (id len) f.case.rows) array_index_out_of_bounds_exception)) r.is))
          (inl (throwing_turn p typing state machine meaning s r.list (rows_over (id index) (id len) f.case.rows)
          array_index_out_of_bounds_exception r.are (omega arith) r.rows (outside (inr l))))

      by : (b : Bool) → nat_lt k count ≡ b
          → SomeOf Fit (option_map_or (λ (x : List (ℕ × Cell) × (ℕ → List LinkRow)). good x.0 x.1)
          (in_bounds (here p typing state machine meaning s) index len) [] ++ out_of_bounds
          (here p typing state machine meaning s) index len)
      by true e =
          let l : k < count = ltb-true k count e in
          some_first Fit (option_map_or (λ (x : List (ℕ × Cell) × (ℕ → List LinkRow)). good x.0 x.1)
          (in_bounds (here p typing state machine meaning s) index len) [])
          (out_of_bounds (here p typing state machine meaning s) index len)
          (good_by (meet_of (interval_of_id state index) natural) refl
          (in_meet (pos k) (interval_of_id state index) natural i.inside (
            omega (arith, ints),
            (is_int (interval_of_id state index) (pos k) (bounded p typing state machine meaning s index) i.inside).1,
          )) l
          (less_is k count l))
      by false e =
          let l : count ≤ k = ltb-false k count e in
          some_later Fit (option_map_or (λ (x : List (ℕ × Cell) × (ℕ → List LinkRow)). good x.0 x.1)
          (in_bounds (here p typing state machine meaning s) index len) [])
          (out_of_bounds (here p typing state machine meaning s) index len)
          (some_later Fit (option_to_list
          (option_map (λ both. throws_after (here p typing state machine meaning s) ((index, cells.Int both) ∷ []) no_rows
          array_index_out_of_bounds_exception) (meet_of (interval_of_id state index) negative)))
          (option_to_list (option_and_then
          (λ (case : IntCase). option_map
          (λ narrowed. throws_after (here p typing state machine meaning s) narrowed
          (rows_over (id index) (id len) case.rows) array_index_out_of_bounds_exception)
          (narrowings (id index) case.left (id len) case.right))
          (related AtLeast Taken (interval_of_id state index) (interval_of_id state len))))
          (bad_by (at_least_is k count l) (omega (arith, ints, l))))
