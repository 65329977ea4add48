-- The operands of forms: ints and references on the machine's stack beside the ids of an abstract one.
use Rattle.std.proofs.Common.{◌≡◌, ◌∙◌, ◌==◌, eqb, ℕ, ℤ, Bool, true, false, if◌then◌else◌, List, [], ◌∷◌, map, Option, Some, None}
use Rattle.std.proofs.Common.{inl, inr, refl, sym, ap, subst, arith}
use Rattle.std.specs.List.{AllByRecursion}
use Rattle.std.specs.Option.{option_map, IsSomeAnd}
use Rattle.std.proofs.lemmas.Bool.{eqb-true}
use Rattle.std.proofs.lemmas.Int.{ints}
use Rattle.lin_core.specs.Intervals.{Bounds, IsIn}
use Rattle.jvm_values.specs.declared.heap.Value.{Value}
use Rattle.jvm_values.specs.declared.heap.Value.TheVariants as values
use Rattle.jvm_values.specs.States.{MachineState}
use Rattle.jvm_values.specs.TypedHeaps.{WorldTypes}
use Rattle.abs_cells.specs.declared.cells.Cell.{Cell}
use Rattle.abs_cells.specs.declared.cells.Cell.TheVariants as cells
use Rattle.abs_cells.specs.AbstractStates.{AbstractState}
use Rattle.abs_cells.specs.Cells.{is_int, cell_at, HasCell}
use Rattle.abs_cells.specs.Fits.{Meaning, Describes}
use Rattle.abs_cells.specs.Sound.{IsSoundCell}
use Rattle.abs_ints.specs.IntIntervals.{meet_of}
use Rattle.abs_ints.proofs.AllCases.{AreInts}
use Rattle.abs_ints.proofs.Covering.{in_meet}
use Rattle.abs_expand.specs.ClassWorldWorldTypes.{types_of}
use Rattle.abs_expand.specs.ClassProgramPrograms.{Program}
use Rattle.frame_types.specs.Tables.{CodeTypes}
use Rattle.jvm_run.specs.jvm_step.Operands.{top_int}
use Rattle.term_graph.specs.Edges.{number_of}
use Rattle.abs_expand.specs.Plans.{Plan}
use Rattle.abs_expand.specs.Turns.{Operand, known, id, interval_in, interval_of_id, narrowings}
use Rattle.form_steps.proofs.RowsHold.{OperandIs}
use Rattle.form_steps.proofs.Standing.{Stands, held}
use Rattle.form_steps.proofs.TurnKinds.{sound_at, Meets, IsChange, int_change}

-- the interval of an id has ends of 32 bits
cell_bounded : (types : WorldTypes) (state : AbstractState) (found : Option Cell)
    → ((cell : Cell) → found ≡ Some cell → IsSoundCell types state cell) → AreInts (interval_in found)
cell_bounded types state None h = (omega (arith, ints), omega (arith, ints))
cell_bounded types state (Some (cells.Int interval)) h = let both = h (cells.Int interval) refl in (both.0.0, both.1.1)
cell_bounded types state (Some cells.Null) h = (omega (arith, ints), omega (arith, ints))
cell_bounded types state (Some (cells.Obj class ids)) h = (omega (arith, ints), omega (arith, ints))
cell_bounded types state (Some (cells.Nums kind len)) h = (omega (arith, ints), omega (arith, ints))
cell_bounded types state (Some (cells.Refs element len shape)) h = (omega (arith, ints), omega (arith, ints))
cell_bounded types state (Some (cells.Unk bound nullable shape)) h = (omega (arith, ints), omega (arith, ints))

int_is : {m n : ℤ} → values.Int m ≡ values.Int n → m ≡ n
int_is e = cc

no_null : {n : ℤ} → values.Null ≡ values.Int n → ⊥
no_null e = cc

no_ref : {n : ℤ} {r : ℕ} → values.Ref r ≡ values.Int n → ⊥
no_ref e = cc

module _ (p : Program) (typing : ℕ → CodeTypes) (state : AbstractState) (machine : MachineState) (meaning : Meaning)
    (s : Stands p typing state machine meaning) where
  abbrev types : WorldTypes
  types = types_of p.world

  abbrev Covered : Plan → Type 0
  Covered = Meets p state machine meaning

  abbrev Holds : ℕ → Type 0
  Holds = HasCell (λ _. true) state

  pub bounded : (x : ℕ) → AreInts (interval_of_id state x)
  bounded x = cell_bounded types state (cell_at state x) (λ cell e. sound_at types state s.sound.cells x cell e)

  -- ---- ints

  pub record IntAt (x : ℕ) (number : ℤ) : Type 0 where
    pub old : Bounds
    pub at : cell_at state x ≡ Some (cells.Int old)
    pub is : meaning x ≡ values.Int number
    pub inside : IsIn number (interval_of_id state x)

  -- an id whose value is an int has the cell of one
  pub int_at : (x : ℕ) (n : ℤ) → Holds x → meaning x ≡ values.Int n → IntAt x n
  int_at x n h e = at h.cell h.is (s.fits.cells x h.cell h.is)
    where
      at : (c : Cell) → cell_at state x ≡ Some c → Describes types machine.heap meaning c (meaning x) → IntAt x n
      at (cells.Int interval) f d = record {
        old = interval;
        at = f;
        is = e;
        inside = subst (λ (b : Bounds). IsIn n b) (sym (ap interval_in f))
            (subst (λ (m : ℤ). IsIn m interval) (int_is (sym d.1.0 ∙ e)) d.1.1);
      }
      at cells.Null f d = absurd (no_null (sym d ∙ e))
      at (cells.Obj class ids) f d = absurd (no_ref (sym d.names ∙ e))
      at (cells.Nums kind len) f d = absurd (no_ref (sym d.names ∙ e))
      at (cells.Refs element len shape) f d = absurd (no_ref (sym d.names ∙ e))
      at (cells.Unk bound nullable shape) f (inl d) = absurd (no_null (sym d.1 ∙ e))
      at (cells.Unk bound nullable shape) f (inr d) = absurd (no_ref (sym d.names ∙ e))

  -- an operand is a number
  abbrev pub Numbered : Operand → ℤ → Type 0
  Numbered (known k) n = k ≡ n
  Numbered (id x) n = IntAt x n

  pub operand_is : (operand : Operand) (n : ℤ) → Numbered operand n → OperandIs meaning operand n
  operand_is (known k) n e = e
  operand_is (id x) n i = ap number_of i.is

  abbrev AreChanges : List (ℕ × Cell) → Type 0
  AreChanges list = AllByRecursion (IsChange types machine.heap state meaning) list

  abbrev pub AreIntCells : List (ℕ × Cell) → Type 0
  AreIntCells list = AllByRecursion (λ (c : ℕ × Cell). is_int c.1 ≡ true) list

  pub narrow_to : (x : ℕ) (n : ℤ) (interval : Bounds) → IntAt x n → IsIn n interval
      → IsChange types machine.heap state meaning (x, cells.Int interval)
  narrow_to x n interval i inside = int_change types machine.heap state meaning x i.old interval n i.at i.is inside

  pub record Narrowed (left : Operand) (a : Bounds) (right : Operand) (b : Bounds) : Type 0 where
    pub list : List (ℕ × Cell)
    pub is : narrowings left a right b ≡ Some list
    pub are : AreChanges list
    pub ints_ : AreIntCells list

  met : (x : ℕ) (n : ℤ) (found : Option Bounds) → IntAt x n → IsSomeAnd found (λ b. IsIn n b) → (list : List (ℕ × Cell))
      × ((option_map (λ both. (x, cells.Int both) ∷ []) found ≡ Some list) × (AreChanges list × AreIntCells list))
  met x n None e i = absurd i
  met x n (Some both) e i = ((x, cells.Int both) ∷ [], (refl, ((narrow_to x n both e i, tt), (refl, tt))))

  pub narrow_both : (left right : Operand) (l r : ℤ) → Numbered left l → Numbered right r → (a b : Bounds) → IsIn l a → IsIn r b
      → Narrowed left a right b
  narrow_both (known j) (known k) l r nl nr a b il ir = record { list = []; is = refl; are = tt; ints_ = tt }
  narrow_both (id x) (known k) l r nl nr a b il ir = record
      { list = (x, cells.Int a) ∷ []; is = refl; are = (narrow_to x l a nl il, tt); ints_ = (refl, tt) }
  narrow_both (known j) (id y) l r nl nr a b il ir = record
      { list = (y, cells.Int b) ∷ []; is = refl; are = (narrow_to y r b nr ir, tt); ints_ = (refl, tt) }
  narrow_both (id x) (id y) l r nl nr a b il ir = at (x == y) refl
    where
      at : (same : Bool) → eqb x y ≡ same → Narrowed (id x) a (id y) b
      at true e =
          let both : l ≡ r = int_is (sym nl.is ∙ ap meaning (eqb-true x y e) ∙ nr.is) in
          let found = met x l (meet_of a b) nl (in_meet l a b il (subst (λ (n : ℤ). IsIn n b) (sym both) ir)) in
          record {
            list = found.0;
            is = ap (λ (t : Bool). if t then option_map (λ (both : Bounds). (x, cells.Int both) ∷ [])
                (meet_of a b) else Some ((x, cells.Int a) ∷ (y, cells.Int b) ∷ [])) e
                ∙ found.1.0;
            are = found.1.1.0;
            ints_ = found.1.1.1;
          }
      at false e = record {
        list = (x, cells.Int a) ∷ (y, cells.Int b) ∷ [];
        is = ap
            (λ (t : Bool). if t then option_map (λ (both : Bounds). (x, cells.Int both) ∷ []) (meet_of a b) else Some
            ((x, cells.Int a) ∷ (y, cells.Int b) ∷ [])) e;
        are = (narrow_to x l a nl il, (narrow_to y r b nr ir, tt));
        ints_ =
            (refl, (refl, tt));
      }

  -- ---- the stack

  pub stack_is : (ids : List ℕ) → s.frame.stack ≡ ids → s.running.stack ≡ map meaning ids
  stack_is ids e = s.fit.top.stack ∙ ap (map meaning) e

  pub stack_held : (ids : List ℕ) → s.frame.stack ≡ ids → AllByRecursion Holds ids
  stack_held ids e = subst (AllByRecursion Holds) e (held p typing state machine meaning s).stack

  -- ids whose stack has an int on its top
  pub record TopInt (a : ℕ) (rest : List ℕ) : Type 0 where
    pub number : ℤ
    pub int : IntAt a number
    pub others : AllByRecursion Holds rest
    pub stack : map meaning (a ∷ rest) ≡ values.Int number ∷ map meaning rest

  top_int_at : (a : ℕ) (rest : List ℕ) → AllByRecursion Holds (a ∷ rest) → (top_int (map meaning (a ∷ rest)) ≡ None → ⊥) → TopInt a rest
  top_int_at a rest h some = at (meaning a) refl
    where
      at : (v : Value) → meaning a ≡ v → TopInt a rest
      at (values.Int n) e = record { number = n; int = int_at a n h.0 e; others = h.1; stack = ap (λ (v : Value). v ∷ map meaning rest) e }
      at values.Null e = absurd (some (ap (λ (v : Value). top_int (v ∷ map meaning rest)) e))
      at (values.Ref r) e = absurd (some (ap (λ (v : Value). top_int (v ∷ map meaning rest)) e))

  pub by_int_at : (plan : List ℕ → Plan) → (top_int s.running.stack ≡ None → ⊥)
      → ((a : ℕ) (rest : List ℕ) → s.frame.stack ≡ a ∷ rest → s.running.stack ≡ map meaning (a ∷ rest) → TopInt a rest
      → Covered (plan (a ∷ rest))) → (ids : List ℕ) → s.frame.stack ≡ ids → Covered (plan ids)
  by_int_at plan some h [] e = absurd (some (ap top_int (stack_is [] e)))
  by_int_at plan some h (a ∷ rest) e = h a rest e (stack_is (a ∷ rest) e)
      (top_int_at a rest (stack_held (a ∷ rest) e) (λ f. some (ap top_int (stack_is (a ∷ rest) e) ∙ f)))

  pub by_int : (plan : List ℕ → Plan) → (top_int s.running.stack ≡ None → ⊥)
      → ((a : ℕ) (rest : List ℕ) → s.running.stack ≡ map meaning (a ∷ rest) → TopInt a rest → Covered (plan (a ∷ rest)))
      → (ids : List ℕ) → s.frame.stack ≡ ids → Covered (plan ids)
  by_int plan some h ids e = by_int_at plan some (λ a rest f g t. h a rest g t) ids e

  -- two ints, the right one on the top
  pub record TwoInts (b a : ℕ) (rest : List ℕ) : Type 0 where
    pub left : ℤ
    pub right : ℤ
    pub left_int : IntAt a left
    pub right_int : IntAt b right
    pub others : AllByRecursion Holds rest
    pub stack : s.running.stack ≡ values.Int right ∷ values.Int left ∷ map meaning rest

  pub by_two_ints : (plan : List ℕ → Plan) → (top_int s.running.stack ≡ None → ⊥)
      → ((n : ℤ) (below : List Value) → s.running.stack ≡ values.Int n ∷ below → top_int below ≡ None → ⊥)
      → ((b a : ℕ) (rest : List ℕ) → TwoInts b a rest → Covered (plan (b ∷ a ∷ rest))) → (ids : List ℕ) → s.frame.stack ≡ ids
      → Covered (plan ids)
  by_two_ints plan some next h [] e = absurd (some (ap top_int (stack_is [] e)))
  by_two_ints plan some next h (b ∷ []) e =
      let t = top_int_at b [] (stack_held (b ∷ []) e) (λ f. some (ap top_int (stack_is (b ∷ []) e) ∙ f)) in
      absurd (next t.number [] (stack_is (b ∷ []) e ∙ t.stack) refl)
  by_two_ints plan some next h (b ∷ a ∷ rest) e =
      let t = top_int_at b (a ∷ rest) (stack_held (b ∷ a ∷ rest) e) (λ f. some (ap top_int (stack_is (b ∷ a ∷ rest) e) ∙ f)) in
      let u = top_int_at a rest t.others (λ f. next t.number (map meaning (a ∷ rest)) (stack_is (b ∷ a ∷ rest) e ∙ t.stack) f) in
      h b a rest (record {
        left = u.number;
        right = t.number;
        left_int = u.int;
        right_int = t.int;
        others = u.others;
        stack =
            stack_is (b ∷ a ∷ rest) e ∙ t.stack ∙ ap (λ (vs : List Value). values.Int t.number ∷ vs) u.stack;
      })
