-- Operators, comparisons and switches over ints: the machine's step is covered by a turn of the list.
use Rattle.std.proofs.Common.{◌≡◌, ◌∙◌, ◌⊎◌, inl, inr, ℕ, ℤ, pos, Bool, true, false, if◌then◌else◌, ◌&&◌, List, [], ◌∷◌, map}
use Rattle.std.proofs.Common.{Option, Some, None, refl, sym, ap, subst, arith}
use Rattle.std.specs.List.{All, AllByRecursion, cons_option, filter_map}
use Rattle.std.specs.Option.{IfSome, option_map, option_and_then, IsSomeAnd, MatchOption}
use Rattle.std.proofs.lemmas.Bool.{false≢true, eqb-true}
use Rattle.std.proofs.lemmas.List.Elements.{All-nil, All-from_recursion}
use Rattle.std.proofs.lemmas.Option.{none-some}
use Rattle.list_views.proofs.Quantified.{all_weaker}
use Rattle.lin_core.specs.Intervals.{Bounds, IsIn}
use Rattle.jvm_values.specs.declared.heap.Value.{Value}
use Rattle.jvm_values.specs.declared.heap.Value.TheVariants as values
use Rattle.jvm_values.specs.declared.ints.Cond.{Cond}
use Rattle.jvm_values.specs.declared.ints.IntOp.{IntOp}
use Rattle.jvm_values.specs.declared.ints.IntOp.TheVariants.{Add, Sub, Mul, Div, Rem, Shl, Shr, Ushr, And, Or, Xor, Narrow}
use Rattle.jvm_values.specs.Ints.{int_result, cond_holds}
use Rattle.jvm_values.specs.States.{MachineState}
use Rattle.jvm_values.specs.TypedHeaps.{WorldTypes}
use Rattle.abs_cells.specs.declared.cells.Cell.{Cell}
use Rattle.abs_cells.specs.declared.cells.Cell.TheVariants as cells
use Rattle.abs_cells.specs.AbstractStates.{AbstractFrame, AbstractState}
use Rattle.abs_cells.specs.Cells.{HasCell}
use Rattle.abs_cells.specs.Fits.{Meaning}
use Rattle.abs_ints.specs.Cases.{AllTrueOf, case_between, inside}
use Rattle.abs_ints.specs.Comparing.{compared, FallsBetween, GoesBetween}
use Rattle.abs_ints.specs.Divisions.{divisors_of, quotients_of, quotient_rows, quotient_cases, remainders_of, remainder_rows}
use Rattle.abs_ints.specs.Divisions.{remainder_cases, zero_case}
use Rattle.abs_ints.specs.Falling.{FallsUnder, GoesOn, IsAnswered}
use Rattle.abs_ints.specs.IntIntervals.{just, is_single, meet_of}
use Rattle.abs_ints.specs.Operating.{operated, single_case, single_or}
use Rattle.abs_ints.specs.declared.cases.IntCase.{IntCase}
use Rattle.abs_ints.specs.declared.cases.ShortRow.{ShortRow}
use Rattle.abs_ints.specs.declared.cases.Way.{Way}
use Rattle.abs_ints.specs.declared.cases.Way.TheVariants as ways
use Rattle.abs_ints.proofs.AllCases.{AreInts, operated_covers, is_int}
use Rattle.abs_ints.proofs.Covering.{in_meet}
use Rattle.abs_ints.proofs.Comparisons.{compared_covers}
use Rattle.abs_ints.proofs.OperatorCases.{if_either}
use Rattle.jvm_step.specs.class_world.BuiltIns.{arithmetic_exception}
use Rattle.jvm_step.specs.class_world.WorldTypes.{types_of}
use Rattle.jvm_step.specs.class_program.Programs.{Program}
use Rattle.frame_types.specs.Tables.{CodeTypes}
use Rattle.jvm_step.specs.Running.{Step, step}
use Rattle.form_steps.specs.TermGraphEdges.{HoldsBetween, number_of}
use Rattle.form_steps.specs.TermGraphLinkRow.{LinkRow}
use Rattle.form_steps.specs.abs_expand.Plans.{Goal, Turn, Plan, no_rows, makes}
use Rattle.form_steps.specs.abs_expand.Turns.{with_stack as stack_at, narrows, turn_of_result, Operand, known, id, interval_of_id, interval_at}
use Rattle.form_steps.specs.abs_expand.Turns.{are_one, rows_over, turn_of_case, turns_of, rows_if, place_of_way, branch_of_case, branches}
use Rattle.form_steps.specs.abs_expand.Turns.{switch_turn}
use Rattle.form_steps.specs.abs_expand.Switches.{parts_of}
use Rattle.form_steps.proofs.SomeOf.{SomeOf, some_of, some_mapped}
use Rattle.form_steps.proofs.Results.{gives_result, HasResult, results, NamesNone, rows_of_two}
use Rattle.form_steps.proofs.Keys.{Leads, key_target, parts_cover}
use Rattle.form_steps.proofs.RowsHold.{rows_hold, rows_hold_without}
use Rattle.form_steps.proofs.Standing.{Stands, here, onward, held, going, raised}
use Rattle.form_steps.proofs.TurnKinds.{Fitting, Meets, IsChange, RowsHold, top_turn, throwing_turn}
use Rattle.form_steps.proofs.Operands.{IntAt, Numbered, operand_is, narrow_both, narrow_to, bounded}

-- ---- the cases of the two divisions

-- a division by 0, of which nothing more is known
pub record IsZeroCase (case : IntCase) : Type 0 where
  pub none : case.result ≡ None
  pub rows : case.rows ≡ []
  pub way : case.way ≡ ways.Zero

abbrev pub EndsOr : IntCase → Type 0
EndsOr case = HasResult case ⊎ IsZeroCase case

given_result : (a b : Bounds) (result : Option Bounds) (rows : List ShortRow) → IfSome (inside a b result rows) EndsOr
given_result a b None rows = tt
given_result a b (Some r) rows = inl (record { interval = r; is = refl })

divided_result : (found : Option Bounds) (f : Bounds → Option Bounds) (a : Bounds) (rows : Bounds → List ShortRow)
    → IfSome (option_and_then (λ d. inside a d (f d) (rows d)) found) EndsOr
divided_result None f a rows = tt
divided_result (Some d) f a rows = given_result a d (f d) (rows d)

zero_ends : (a : Bounds) (found : Option Bounds) → IfSome (case_between ways.Zero (Some a) found []) EndsOr
zero_ends a None = tt
zero_ends a (Some b) = inr (record { none = refl; rows = refl; way = refl })

more_ends : (found : Option IntCase) (cases : List IntCase) → IfSome found EndsOr → AllByRecursion EndsOr cases
    → AllByRecursion EndsOr (cons_option found cases)
more_ends None cases i h = h
more_ends (Some case) cases i h = (i, h)

single_ends : (a b : Bounds) (found : Option ℤ) → IfSome (single_case a b found) EndsOr
single_ends a b None = zero_ends a (meet_of b (just (pos 0)))
single_ends a b (Some n) = given_result a b (Some (just n)) []

division_ends : (op : IntOp) (a b : Bounds) (cases : List IntCase) → AllByRecursion EndsOr cases
    → AllByRecursion EndsOr (single_or op a b cases)
division_ends op a b cases h = if_either (AllByRecursion EndsOr) (is_single a && is_single b)
    (cons_option (single_case a b (int_result op a.lo b.lo)) []) cases
    (λ t. more_ends (single_case a b (int_result op a.lo b.lo)) [] (single_ends a b (int_result op a.lo b.lo)) tt) (λ f. h)

-- no operator of two ints but a narrowing leaves a case without a result that isn't the division by 0
abbrev pub is_operator : IntOp → Bool
is_operator (Narrow kind) = false
is_operator _ = true

both_ends : (op : IntOp) (a b : Bounds) → gives_result op ≡ true → AllByRecursion EndsOr (operated op a b)
both_ends op a b g = all_weaker HasResult EndsOr (λ case h. inl h) (operated op a b) (results op a b g)

pub ends_or : (op : IntOp) (a b : Bounds) → is_operator op ≡ true → AllByRecursion EndsOr (operated op a b)
ends_or Add a b e = both_ends Add a b refl
ends_or Sub a b e = both_ends Sub a b refl
ends_or Mul a b e = both_ends Mul a b refl
ends_or Div a b e = division_ends Div a b (quotient_cases a b)
    (more_ends (option_and_then (λ d. inside a d (quotients_of a d) (quotient_rows a b d)) (divisors_of b))
    (cons_option (zero_case a b) []) (divided_result (divisors_of b) (quotients_of a) a (quotient_rows a b))
    (more_ends (zero_case a b) [] (zero_ends a (meet_of b (just (pos 0)))) tt))
ends_or Rem a b e = division_ends Rem a b (remainder_cases a b)
    (more_ends (option_and_then (λ d. inside a d (remainders_of a d) (remainder_rows a d)) (divisors_of b))
    (cons_option (zero_case a b) []) (divided_result (divisors_of b) (remainders_of a) a (remainder_rows a))
    (more_ends (zero_case a b) [] (zero_ends a (meet_of b (just (pos 0)))) tt))
ends_or Shl a b e = both_ends Shl a b refl
ends_or Shr a b e = both_ends Shr a b refl
ends_or Ushr a b e = both_ends Ushr a b refl
ends_or And a b e = both_ends And a b refl
ends_or Or a b e = both_ends Or a b refl
ends_or Xor a b e = both_ends Xor a b refl
ends_or (Narrow kind) a b e = absurd (false≢true e)

module _ (p : Program) (typing : ℕ → CodeTypes) (state : AbstractState) (machine : MachineState) (meaning : Meaning)
    (s : Stands p typing state machine meaning) where
  abbrev types : WorldTypes
  types = types_of p.world

  abbrev Fit : Turn → Type 0
  Fit = Fitting p state machine meaning

  abbrev Covered : Plan → Type 0
  Covered = Meets p state machine meaning

  abbrev AreChanges : List (ℕ × Cell) → Type 0
  AreChanges list = AllByRecursion (IsChange types machine.heap state meaning) list

  abbrev NumberedHere : Operand → ℤ → Type 0
  NumberedHere = Numbered p typing state machine meaning s

  -- what is asked of the turns of an operator that has a result
  abbrev pub EachFits : ℤ → List AbstractFrame → Goal → Type 0
  EachFits result frames goal = (list : List (ℕ × Cell)) (interval : Bounds) (rows : ℕ → List LinkRow) → AreChanges list
      → IsIn result interval → RowsHold state meaning (values.Int result) rows
      → Fit (record { changed = list; frames = frames; throwing = None; act = makes (cells.Int interval); goal = goal; rows = rows })

  -- a case has its turn, which fits
  abbrev Turned : Operand → Operand → List AbstractFrame → Goal → IntCase → Type 0
  Turned left right frames goal case = (turn : Turn)
      × ((turn_of_case (here p typing state machine meaning s) left right frames goal case ≡ Some turn) × Fit turn)

  pub operator : (o : IntOp) (left right : Operand) (l r : ℤ) (frames : List AbstractFrame) (goal : Goal) → is_operator o ≡ true
      → NumberedHere left l → NumberedHere right r
      → AreInts (interval_at state left) → AreInts (interval_at state right) → IsIn l (interval_at state left)
      → IsIn r (interval_at state right)
      → ((result : ℤ) → int_result o l r ≡ Some result → EachFits result frames goal)
      → (int_result o l r ≡ None → step p machine ≡ Step.Going (raised p typing state machine meaning s arithmetic_exception))
      → SomeOf Fit (turns_of (here p typing state machine meaning s) o left right frames goal)
  operator o left right l r frames goal is_op nl nr bl br il ir each raises =
      some_mapped (λ (case : IntCase). FallsUnder o l r case × EndsOr case) Fit
      (turn_of_case (here p typing state machine meaning s) left right frames goal)
      (operated o (interval_at state left) (interval_at state right)) (λ case f. in_case case f.0 f.1)
      (some_of (FallsUnder o l r) EndsOr (operated o (interval_at state left) (interval_at state right))
      (operated_covers o (interval_at state left) (interval_at state right) l r bl br il ir)
      (ends_or o (interval_at state left) (interval_at state right) is_op))
    where
      with_result : (case : IntCase) → FallsUnder o l r case → HasResult case → (answer : Option ℤ) → int_result o l r ≡ answer
          → Turned left right frames goal case
      with_result case f h None e =
          let none : case.result ≡ None = subst (IsAnswered l r case) e f.answered in
          absurd (none-some h.interval (sym none ∙ h.is))
      with_result case f h (Some result) e =
          let narrow = narrow_both p typing state machine meaning s left right l r nl nr case.left case.right f.left_in f.right_in in
          let answered : IsAnswered l r case (Some result) = subst (IsAnswered l r case) e f.answered in
          let inside_ : IsIn result h.interval = subst
          (λ (found : Option Bounds). MatchOption found (result ≡ l) (λ interval. IsIn result interval)) h.is answered.0 in (
            record {
              changed = narrow.list;
              frames = frames;
              throwing = None;
              act = makes (cells.Int h.interval);
              goal = goal;
              rows
                  = rows_over left right case.rows;
            },
            (
              ap (option_map (λ (narrowed : List (ℕ × Cell)). turn_of_result (here p typing state machine meaning s) frames goal
                  narrowed (rows_over left right case.rows) case.result)) narrow.is
                  ∙ ap (λ (found : Option Bounds). Some
                  (turn_of_result (here p typing state machine meaning s) frames goal narrow.list
                  (rows_over left right case.rows) found)) h.is,
              each result e narrow.list h.interval (rows_over left right case.rows) narrow.are inside_
                  (λ fresh after v. rows_hold meaning after left right fresh case.rows l r result
                  (operand_is p typing state machine meaning s left l nl) (operand_is p typing state machine meaning s right r nr)
                  (ap number_of v) answered.1),
            ),
          )

      by_zero : (case : IntCase) → FallsUnder o l r case → IsZeroCase case → Turned left right frames goal case
      by_zero case f z =
          let narrow = narrow_both p typing state machine meaning s left right l r nl nr case.left case.right f.left_in f.right_in in
          let none : int_result o l r ≡ None = subst (λ (way : Way). GoesOn way o l r) z.way f.way_taken in (
            turn_of_result (here p typing state machine meaning s) frames goal narrow.list (rows_over left right case.rows) None,
            (
              ap (option_map (λ (narrowed : List (ℕ × Cell)). turn_of_result (here p typing state machine meaning s) frames goal
                  narrowed (rows_over left right case.rows) case.result)) narrow.is
                  ∙ ap (λ (found : Option Bounds). Some
                  (turn_of_result (here p typing state machine meaning s) frames goal narrow.list
                  (rows_over left right case.rows) found)) z.none,
              throwing_turn p typing state machine meaning s narrow.list (rows_over left right case.rows) arithmetic_exception
                  narrow.are (omega arith)
                  (λ fresh after. subst
                  (λ (rows : List ShortRow). All (HoldsBetween meaning after) (rows_over left right rows fresh)) (sym z.rows)
                  (All-nil (HoldsBetween meaning after))) (raises none),
            ),
          )

      in_case : (case : IntCase) → FallsUnder o l r case → EndsOr case → Turned left right frames goal case
      in_case case f (inl h) = with_result case f h (int_result o l r) refl
      in_case case f (inr z) = by_zero case f z

  -- ---- comparisons

  int_is : {i j : ℤ} → values.Int i ≡ values.Int j → i ≡ j
  int_is e = cc

  one_number : (left right : Operand) (l r : ℤ) → NumberedHere left l → NumberedHere right r → are_one left right ≡ true → l ≡ r
  one_number (known j) (known k) l r nl nr e = absurd (false≢true e)
  one_number (id x) (known k) l r nl nr e = absurd (false≢true e)
  one_number (known j) (id y) l r nl nr e = absurd (false≢true e)
  one_number (id x) (id y) l r nl nr e = int_is (sym nl.is ∙ ap meaning (eqb-true x y e) ∙ nr.is)

  wanted_rows : (with_rows : Bool) (left right : Operand) (rows : List ShortRow) (l r : ℤ) → NumberedHere left l
      → NumberedHere right r → NamesNone rows → AllTrueOf l r (pos 0) rows → (fresh : ℕ) (after : Meaning)
      → All (HoldsBetween meaning after) (rows_if with_rows (rows_over left right rows) fresh)
  wanted_rows false left right rows l r nl nr none h fresh after = All-nil (HoldsBetween meaning after)
  wanted_rows true left right rows l r nl nr none h fresh after = rows_hold_without meaning after left right fresh rows l r
      (operand_is p typing state machine meaning s left l nl) (operand_is p typing state machine meaning s right r nr)
      (All-from_recursion (λ (row : ShortRow). row.result ≡ pos 0) rows none) h

  -- a turn that narrows and goes on at a place
  pub narrowing_turn : (list : List (ℕ × Cell)) (place : ℕ) (ids : List ℕ) (stack : List Value) (rows : ℕ → List LinkRow)
      → AreChanges list → AllByRecursion (HasCell (λ _. true) state) ids → stack ≡ map meaning ids
      → ((fresh : ℕ) → All (HoldsBetween meaning meaning) (rows fresh))
      → step p machine ≡ Step.Going (going (record s.running { pc = place; stack = stack } ∷ s.below) machine.heap machine.statics)
      → Fit (narrows list (stack_at (here p typing state machine meaning s) place ids) rows)
  narrowing_turn list place ids stack rows are h e holds g =
      top_turn p typing state machine meaning s list
      (record { method = s.frame.method; pc = place; locals = s.frame.locals; stack = ids }) rows
      (record s.running { pc = place; stack = stack }) are
      (record { locals = (held p typing state machine meaning s).locals; stack = h })
      (record {
        top = record { method = s.fit.top.method; pc = refl; locals = s.fit.top.locals; stack = e };
        lower_fit =
            s.fit.lower_fit;
      }) holds g

  pub comparison : (condition : Cond) (left right : Operand) (l r : ℤ) (place : ℕ) (ids : List ℕ) (stack : List Value)
      (with_rows : Bool) → NumberedHere left l → NumberedHere right r → IsIn l (interval_at state left)
      → IsIn r (interval_at state right) → AllByRecursion (HasCell (λ _. true) state) ids → stack ≡ map meaning ids
      → step p machine ≡ Step.Going
      (going (record s.running {
        pc = if cond_holds condition l r then place else onward p typing state machine meaning s;
        stack
            = stack;
      } ∷ s.below) machine.heap machine.statics)
      → SomeOf Fit (branches (here p typing state machine meaning s) condition left right place ids with_rows)
  comparison condition left right l r place ids stack with_rows nl nr il ir h e goes =
      some_mapped (λ (case : IntCase). FallsBetween condition l r case × NamesNone case.rows) Fit
      (branch_of_case (here p typing state machine meaning s) left right place ids with_rows)
      (compared condition (are_one left right) (interval_at state left) (interval_at state right)) (λ case f.
      let narrow = narrow_both p typing state machine meaning s left right l r nl nr case.left case.right f.0.left_in f.0.right_in in
      let to = place_of_way (here p typing state machine meaning s) place case.way in
      let rows = rows_if with_rows (rows_over left right case.rows) in (
        narrows narrow.list (stack_at (here p typing state machine meaning s) to ids) rows,
        (
          ap (option_map (λ (narrowed : List (ℕ × Cell)). narrows narrowed (stack_at (here p typing state machine meaning s) to ids)
              rows)) narrow.is,
          narrowing_turn narrow.list to ids stack rows narrow.are h e
              (λ fresh. wanted_rows with_rows left right case.rows l r nl nr f.1 f.0.rows_hold fresh meaning)
              (goes ∙ ap (λ (n : ℕ). Step.Going
              (going (record s.running { pc = n; stack = stack } ∷ s.below) machine.heap machine.statics))
              (led case.way f.0.way_taken)),
        ),
      ))
      (some_of (FallsBetween condition l r) (λ (case : IntCase). NamesNone case.rows)
      (compared condition (are_one left right) (interval_at state left) (interval_at state right))
      (compared_covers condition (are_one left right) (interval_at state left) (interval_at state right) l r il ir
      (one_number left right l r nl nr))
      (rows_of_two condition (are_one left right) (interval_at state left) (interval_at state right)))
    where
      led : (way : Way) → GoesBetween way condition l r
          → (if cond_holds condition l r then place else onward p typing state machine meaning s) ≡ place_of_way
          (here p typing state machine meaning s) place way
      led ways.Taken g = ap (λ (b : Bool). if b then place else onward p typing state machine meaning s) g
      led ways.Next g = ap (λ (b : Bool). if b then place else onward p typing state machine meaning s) g
      led ways.Inside g = absurd g
      led ways.Over g = absurd g
      led ways.Under g = absurd g
      led ways.Zero g = absurd g

  -- ---- switches

  pub switched : (default : ℕ) (keys : List (ℤ × ℕ)) (x : ℕ) (n : ℤ) (ids : List ℕ) (stack : List Value)
      → IntAt p typing state machine meaning s x n → AllByRecursion (HasCell (λ _. true) state) ids → stack ≡ map meaning ids
      → step p machine ≡ Step.Going (going (record s.running { pc = key_target default keys n; stack = stack } ∷ s.below)
      machine.heap machine.statics)
      → SomeOf Fit (filter_map (switch_turn (here p typing state machine meaning s) x ids) (parts_of default keys))
  switched default keys x n ids stack i h e g =
      some_mapped (Leads n (key_target default keys n)) Fit (switch_turn (here p typing state machine meaning s) x ids)
      (parts_of default keys) part
      (parts_cover default keys n (is_int (interval_of_id state x) n (bounded p typing state machine meaning s x) i.inside))
    where
      part : (y : Option Bounds × ℕ) → Leads n (key_target default keys n) y → (turn : Turn)
          × ((switch_turn (here p typing state machine meaning s) x ids y ≡ Some turn) × Fit turn)
      part (None, to) l = absurd l.inside
      part (Some b, to) l = at (meet_of (interval_of_id state x) b) refl (in_meet n (interval_of_id state x) b i.inside l.inside)
        where
          at : (found : Option Bounds) → meet_of (interval_of_id state x) b ≡ found → IsSomeAnd found (λ y. IsIn n y)
              → (turn : Turn) × ((switch_turn (here p typing state machine meaning s) x ids (Some b, to) ≡ Some turn) × Fit turn)
          at None f j = absurd j
          at (Some both) f j = (
            narrows ((x, cells.Int both) ∷ []) (stack_at (here p typing state machine meaning s) to ids) no_rows,
            (
              ap (option_map (λ (y : Bounds). narrows ((x, cells.Int y) ∷ [])
                  (stack_at (here p typing state machine meaning s) to ids) no_rows)) f,
              narrowing_turn ((x, cells.Int both) ∷ []) to ids stack no_rows
                  (narrow_to p typing state machine meaning s x n both i j, tt) h e
                  (λ fresh. All-nil (HoldsBetween meaning meaning))
                  (g ∙ ap (λ (t : ℕ). Step.Going
                  (going (record s.running { pc = t; stack = stack } ∷ s.below) machine.heap machine.statics)) (sym l.leads)),
            ),
          )
