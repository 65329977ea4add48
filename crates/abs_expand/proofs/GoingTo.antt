-- An id that goes to a goal of a well-formed state.
use Rattle.std.proofs.Common.{◌≡◌, ◌∙◌, ◌==◌, eqb, ℕ, zero, suc, Bool, true, false, if◌then◌else◌, List, [], ◌∷◌, ◌++◌, map, reverse}
use Rattle.std.proofs.Common.{Option, Some, None, refl, sym, ap, subst}
use Rattle.std.specs.Prelude.{slice_set}
use Rattle.std.specs.List.{AllByRecursion, flat_map}
use Rattle.std.specs.Option.{option_map}
use Rattle.std.proofs.lemmas.Bool.{eqb-true}
use Rattle.std.proofs.lemmas.List.{reverse-reverse}
use Rattle.std.proofs.lemmas.List.Elements.{All-from_recursion}
use Rattle.std.proofs.lemmas.Option.{none-some}
use Rattle.list_views.proofs.Quantified.{all_joined, all_front, all_back, all_weaker}
use Rattle.jvm_values.proofs.Options.{some_is}
use Rattle.abs_cells.specs.declared.cells.Cell.{Cell}
use Rattle.abs_cells.specs.declared.cells.Cell.TheVariants.{Int, Null, Obj, Nums, Refs, Unk}
use Rattle.abs_cells.specs.AbstractStates.{AbstractFrame, AbstractState}
use Rattle.abs_cells.specs.Cells.{is_reference, is_known, ids_in, cell_in, HasCell, Share}
use Rattle.abs_cells.specs.PairLists.{has}
use Rattle.abs_cells.specs.Sound.{AreIdsRising, given_ids, ids_of_frame, ids_used, IsWellFormed}
use Rattle.abs_plans.specs.abs_turns.Plans.{Goal, nowhere, on_stack, in_local, in_bottom, in_field, is_thrown}
use Rattle.abs_plans.specs.abs_turns.Table.{bottom_with}
use Rattle.abs_expand.specs.Children.{gone_to, top_with, set_field, field_with}
use Rattle.abs_expand.specs.inner.Making.{frames_to, thrown_to, cells_to}
use Rattle.abs_plans.proofs.WellFormed.{flat_to, frames_there, thrown_there, cells_there}

pub gone_is : (goal : Goal) (id : ℕ) (state : AbstractState)
    → record state {
      frames = frames_to goal id state.frames;
      throwing = thrown_to goal id state.throwing;
      cells = cells_to goal id state.cells;
    } ≡ gone_to goal id state
gone_is nowhere id state = refl
gone_is on_stack id state = refl
gone_is (in_local n) id state = refl
gone_is (in_bottom n) id state = refl
gone_is (in_field k place) id state = refl
gone_is is_thrown id state = refl

-- ---- lists

set_held : (P : ℕ → Type 0) (locals : List (Option ℕ)) (n x : ℕ) → AllByRecursion P (given_ids locals) → P x
    → AllByRecursion P (given_ids (slice_set locals n (Some x)))
set_held P [] n x h p = tt
set_held P (None ∷ locals) zero x h p = (p, h)
set_held P (Some y ∷ locals) zero x h p = (p, h.1)
set_held P (None ∷ locals) (suc n) x h p = set_held P locals n x h p
set_held P (Some y ∷ locals) (suc n) x h p = (h.0, set_held P locals n x h.1 p)

set_in : (P : ℕ → Type 0) (ids : List ℕ) (n x : ℕ) → AllByRecursion P ids → P x → AllByRecursion P (slice_set ids n x)
set_in P [] n x a p = tt
set_in P (id ∷ ids) zero x a p = (p, a.1)
set_in P (id ∷ ids) (suc n) x a p = (a.0, set_in P ids n x a.1 p)

abbrev Framed : (ℕ → Type 0) → AbstractFrame → Type 0
Framed P frame = AllByRecursion P (ids_of_frame frame)

local_set : (P : ℕ → Type 0) (frame : AbstractFrame) (n x : ℕ) → Framed P frame → P x
    → Framed P (record frame { locals = slice_set frame.locals n (Some x) })
local_set P frame n x a p =
    all_joined P (given_ids (slice_set frame.locals n (Some x))) frame.stack
    (set_held P frame.locals n x (all_front P (given_ids frame.locals) frame.stack a) p)
    (all_back P (given_ids frame.locals) frame.stack a)

pushed : (P : ℕ → Type 0) (frame : AbstractFrame) (x : ℕ) → Framed P frame → P x → Framed P (record frame { stack = x ∷ frame.stack })
pushed P frame x a p = all_joined P (given_ids frame.locals) (x ∷ frame.stack) (all_front P (given_ids frame.locals) frame.stack a)
    (p, all_back P (given_ids frame.locals) frame.stack a)

on_top : (P : ℕ → Type 0) (change : AbstractFrame → AbstractFrame) (frames : List AbstractFrame)
    → ((frame : AbstractFrame) → Framed P frame → Framed P (change frame))
    → AllByRecursion (Framed P) frames → AllByRecursion (Framed P) (top_with change frames)
on_top P change [] h a = tt
on_top P change (frame ∷ below) h a = (h frame a.0, a.1)

at_bottom : (P : ℕ → Type 0) (n x : ℕ) (frames : List AbstractFrame) → P x → AllByRecursion (Framed P) frames
    → AllByRecursion (Framed P) (bottom_with n x frames)
at_bottom P n x [] p a = tt
at_bottom P n x (frame ∷ []) p a = (local_set P frame n x a.0 p, tt)
at_bottom P n x (frame ∷ next ∷ rest) p a = (a.0, at_bottom P n x (next ∷ rest) p a.1)

frames_go : (P : ℕ → Type 0) (goal : Goal) (x : ℕ) (frames : List AbstractFrame) → P x → AllByRecursion (Framed P) frames
    → AllByRecursion (Framed P) (frames_to goal x frames)
frames_go P nowhere x frames p a = a
frames_go P on_stack x frames p a = on_top P (λ frame. record frame { stack = x ∷ frame.stack }) frames (λ frame h. pushed P frame x h p) a
frames_go P (in_local n) x frames p a = on_top P (λ frame. record frame { locals = slice_set frame.locals n (Some x) }) frames
    (λ frame h. local_set P frame n x h p) a
frames_go P (in_bottom n) x frames p a = at_bottom P n x frames p a
frames_go P (in_field k place) x frames p a = a
frames_go P is_thrown x frames p a = a

thrown_goes : (P : ℕ → Type 0) (goal : Goal) (x : ℕ) (thrown : Option ℕ) → P x → AllByRecursion P (given_ids (thrown ∷ []))
    → AllByRecursion P (given_ids (thrown_to goal x thrown ∷ []))
thrown_goes P nowhere x thrown p a = a
thrown_goes P on_stack x thrown p a = a
thrown_goes P (in_local n) x thrown p a = a
thrown_goes P (in_bottom n) x thrown p a = a
thrown_goes P (in_field k place) x thrown p a = a
thrown_goes P is_thrown x thrown p a = (p, tt)

-- ---- fields

field_sort : (sort : Cell → Bool) (place x : ℕ) → ((class : ℕ) (ids others : List ℕ) → sort (Obj class ids) ≡ sort (Obj class others))
    → (c : Cell) → sort (set_field place x c) ≡ sort c
field_sort sort place x h (Int interval) = refl
field_sort sort place x h Null = refl
field_sort sort place x h (Obj class ids) = h class (slice_set ids place x) ids
field_sort sort place x h (Nums kind len) = refl
field_sort sort place x h (Refs element len shape) = refl
field_sort sort place x h (Unk bound nullable shape) = refl

set_names : (P : ℕ → Type 0) (place x : ℕ) (c : Cell) → P x → AllByRecursion P (ids_in c) → AllByRecursion P (ids_in (set_field place x c))
set_names P place x (Int interval) p a = a
set_names P place x Null p a = a
set_names P place x (Obj class ids) p a = set_in P ids place x a p
set_names P place x (Nums kind len) p a = a
set_names P place x (Refs element len shape) p a = a
set_names P place x (Unk bound nullable shape) p a = a

abbrev fielded : ℕ → ℕ → ℕ → ℕ × Cell → Cell
fielded k place x c = (field_with k place x c).1

fielded_at : (k place x : ℕ) (list : List (ℕ × Cell)) (id : ℕ) → cell_in (map (field_with k place x) list) id
    ≡ option_map (λ c. if id == k then set_field place x c else c) (cell_in list id)
fielded_at k place x [] id = refl
fielded_at k place x (c ∷ list) id = at (c.0 == id) refl (fielded_at k place x list id)
  where
    at : (b : Bool) → eqb c.0 id ≡ b → cell_in (map (field_with k place x) list) id
        ≡ option_map (λ c. if id == k then set_field place x c else c) (cell_in list id)
        → (if b then Some (fielded k place x c) else cell_in (map (field_with k place x) list) id)
        ≡ option_map (λ c. if id == k then set_field place x c else c) (if b then Some c.1 else cell_in list id)
    at true e rest = ap (λ (n : ℕ). Some (if n == k then set_field place x c.1 else c.1)) (eqb-true c.0 id e)
    at false e rest = rest

fielded_rising : (k place x low : ℕ) (list : List (ℕ × Cell)) → AreIdsRising low list → AreIdsRising low (map (field_with k place x) list)
fielded_rising k place x low [] r = tt
fielded_rising k place x low (c ∷ list) r = (r.0, (r.1.0, fielded_rising k place x (suc c.0) list r.1.1))

if_cell : (P : Cell → Type 0) (b : Bool) (c d : Cell) → P c → P d → P (if b then c else d)
if_cell P true c d x y = x
if_cell P false c d x y = y

if_sort : (sort : Cell → Bool) (place x : ℕ) → ((class : ℕ) (ids others : List ℕ) → sort (Obj class ids) ≡ sort (Obj class others))
    → (b : Bool) (c : Cell)
    → sort (if b then set_field place x c else c) ≡ sort c
if_sort sort place x h true c = field_sort sort place x h c
if_sort sort place x h false c = refl

-- ---- the state

-- the sorts that don't look at the ids of an instance
abbrev Blind : (Cell → Bool) → Type 0
Blind sort = (class : ℕ) (ids others : List ℕ) → sort (Obj class ids) ≡ sort (Obj class others)

plain_same : (state : AbstractState) (frames : List AbstractFrame) (throwing : Option ℕ) (sort : Cell → Bool) (n : ℕ)
    → HasCell sort state n
    → HasCell sort (record state { frames = frames; throwing = throwing }) n
plain_same state frames throwing sort n h = record { cell = h.cell; is = h.is; sort_is = h.sort_is }

module _ (state : AbstractState) (frames : List AbstractFrame) (throwing : Option ℕ) (k place x : ℕ) where
  abbrev Fielded : AbstractState
  Fielded = record state { frames = frames; throwing = throwing; cells = map (field_with k place x) state.cells }

  fields_to : (sort : Cell → Bool) → Blind sort → (n : ℕ) → HasCell sort state n → HasCell sort Fielded n
  fields_to sort blind n h = record {
    cell = if n == k then set_field place x h.cell else h.cell;
    is = fielded_at k place x state.cells n ∙ ap (option_map (λ c. if n == k then set_field place x c else c)) h.is;
    sort_is = if_sort sort place x blind (n == k) h.cell ∙ h.sort_is;
  }

  fields_from : (sort : Cell → Bool) → Blind sort → (n : ℕ) → HasCell sort Fielded n → HasCell sort state n
  fields_from sort blind n h = at (cell_in state.cells n) refl (sym (fielded_at k place x state.cells n) ∙ h.is)
    where
      at : (found : Option Cell) → cell_in state.cells n ≡ found → option_map (λ c. if n == k then set_field place x c else c) found
          ≡ Some h.cell → HasCell sort state n
      at None e f = absurd (none-some h.cell f)
      at (Some c) e f = record {
        cell = c;
        is = e;
        sort_is = sym (if_sort sort place x blind (n == k) c) ∙ ap sort (some_is f)
            ∙ h.sort_is;
      }

-- a state of the same cells, or of ones with another field, is well-formed where its ids are there
formed : (state gone : AbstractState) → IsWellFormed state → gone.eq ≡ state.eq → gone.share ≡ state.share → AreIdsRising 0 gone.cells
    → ((sort : Cell → Bool) → Blind sort → (n : ℕ) → HasCell sort state n → HasCell sort gone n)
    → ((sort : Cell → Bool) → Blind sort → (n : ℕ) → HasCell sort gone n → HasCell sort state n)
    → AllByRecursion (Framed (HasCell (λ _. true) state)) gone.frames
    → AllByRecursion (HasCell (λ _. true) state) (given_ids (gone.throwing ∷ []))
    → AllByRecursion (λ (c : ℕ × Cell). AllByRecursion (HasCell (λ _. true) state) (ids_in c.1)) gone.cells → IsWellFormed gone
formed state gone good eq share rising to from placed thrown named =
    let P = HasCell (λ _. true) gone in
    let all : (ids : List ℕ) → AllByRecursion (HasCell (λ _. true) state) ids → AllByRecursion P ids =
    λ ids. all_weaker (HasCell (λ _. true) state) P (to (λ _. true) (λ class ids others. refl)) ids in
    let shares : (a b : ℕ) → Share gone a b → Share state a b = λ a b s. subst (λ (ps : List (ℕ × ℕ)). has a b ps ≡ true) share s in
    record {
      rising = rising;
      used = All-from_recursion P (ids_used gone) (all_joined P (flat_map ids_of_frame gone.frames) (given_ids (gone.throwing ∷ [])
          ++ flat_map (λ (c : ℕ × Cell). ids_in c.1) gone.cells)
          (flat_to P ids_of_frame gone.frames (all_weaker (Framed (HasCell (λ _. true) state)) (Framed P)
          (λ frame. all (ids_of_frame frame)) gone.frames placed))
          (all_joined P (given_ids (gone.throwing ∷ [])) (flat_map (λ (c : ℕ × Cell). ids_in c.1) gone.cells)
          (all (given_ids (gone.throwing ∷ [])) thrown)
          (flat_to P (λ (c : ℕ × Cell). ids_in c.1) gone.cells
          (all_weaker (λ (c : ℕ × Cell). AllByRecursion (HasCell (λ _. true) state) (ids_in c.1))
          (λ (c : ℕ × Cell). AllByRecursion P (ids_in c.1)) (λ c. all (ids_in c.1)) gone.cells named))));
      shared = λ a b e. subst (λ (ps : List (ℕ × ℕ)). has a b ps ≡ true) (sym share)
          (good.shared a b (subst (λ (ps : List (ℕ × ℕ)). has a b ps ≡ true) eq e));
      left = λ a b l s. to is_reference (λ class ids others. refl) a (good.left a b l (shares a b s));
      right = λ a b l s. to is_reference (λ class ids others. refl) b (good.right a b l (shares a b s));
      not_both_known = λ a b l s u v. good.not_both_known a b l (shares a b s) (from is_known (λ class ids others. refl) a u)
          (from is_known (λ class ids others. refl) b v);
    }

module _ (state : AbstractState) (good : IsWellFormed state) (id : ℕ) (there : HasCell (λ _. true) state id) where
  moved : (goal : Goal) → IsWellFormed (record state {
    frames = frames_to goal id state.frames;
    throwing = thrown_to goal id state.throwing;
  })
  moved goal =
      let frames = frames_to goal id state.frames in
      let throwing = thrown_to goal id state.throwing in
      formed state (record state { frames = frames; throwing = throwing }) good refl refl good.rising
      (λ sort blind n h. plain_same state frames throwing sort n h)
      (λ sort blind n h. record { cell = h.cell; is = h.is; sort_is = h.sort_is })
      (frames_go (HasCell (λ _. true) state) goal id state.frames there (frames_there state good))
      (thrown_goes (HasCell (λ _. true) state) goal id state.throwing there (thrown_there state good))
      (cells_there state good)

  named_fields : (k place : ℕ) (list : List (ℕ × Cell))
      → AllByRecursion (λ (c : ℕ × Cell). AllByRecursion (HasCell (λ _. true) state) (ids_in c.1)) list
      → AllByRecursion (λ (c : ℕ × Cell). AllByRecursion (HasCell (λ _. true) state) (ids_in c.1)) (map (field_with k place id) list)
  named_fields k place [] a = tt
  named_fields k place (c ∷ list) a =
      let set = set_names (HasCell (λ _. true) state) place id c.1 there a.0 in
      let first = if_cell (λ (d : Cell). AllByRecursion (HasCell (λ _. true) state) (ids_in d)) (c.0 == k) (set_field place id c.1)
      c.1 set a.0 in
      (first, named_fields k place list a.1)

  pub gone_good : (goal : Goal) → IsWellFormed (gone_to goal id state)
  gone_good nowhere = good
  gone_good on_stack = moved on_stack
  gone_good (in_local n) = moved (in_local n)
  gone_good (in_bottom n) = moved (in_bottom n)
  gone_good (in_field k place) =
      formed state (record state { cells = map (field_with k place id) state.cells }) good refl refl
      (fielded_rising k place id 0 state.cells good.rising)
      (λ sort blind n h. let f = fields_to state state.frames state.throwing k place id sort blind n h in
      record { cell = f.cell; is = f.is; sort_is = f.sort_is })
      (λ sort blind n h. fields_from state state.frames state.throwing k place id sort blind n
      (record { cell = h.cell; is = h.is; sort_is = h.sort_is }))
      (frames_there state good) (thrown_there state good) (named_fields k place state.cells (cells_there state good))
  gone_good is_thrown = moved is_thrown

-- as the code has it
pub gone_as : (goal : Goal) (id : ℕ) (state made : AbstractState) (frames same list : List AbstractFrame) (throwing given : Option ℕ)
    (listed old : List (ℕ × Cell))
    → (eq old_eq share old_share : List (ℕ × ℕ)) → made ≡ record {
      frames = reverse frames;
      throwing = throwing;
      cells = listed;
      eq = eq;
      share = share;
    }
    → reverse frames ≡ frames_to goal id (reverse same) → same ≡ list
    → list ≡ reverse state.frames → throwing ≡ thrown_to goal id given → given ≡ state.throwing → listed ≡ cells_to goal id old
    → old ≡ state.cells → eq ≡ old_eq → old_eq ≡ state.eq
    → share ≡ old_share → old_share ≡ state.share → made ≡ gone_to goal id state
gone_as goal id state made frames same list throwing given listed old eq old_eq share old_share m f s l t v c o e oe h oh =
    m
    ∙ ap (λ (x : List AbstractFrame). record { frames = x; throwing = throwing; cells = listed; eq = eq; share = share })
    (f ∙ ap (λ (x : List AbstractFrame). frames_to goal id (reverse x)) (s ∙ l) ∙ ap (frames_to goal id) (reverse-reverse state.frames))
    ∙ ap (λ (x : Option ℕ). record { frames = frames_to goal id state.frames; throwing = x; cells = listed; eq = eq; share = share })
    (t ∙ ap (thrown_to goal id) v)
    ∙ ap (λ (x : List (ℕ × Cell)). record {
      frames = frames_to goal id state.frames;
      throwing = thrown_to goal id state.throwing;
      cells = x;
      eq = eq;
      share = share;
    }) (c ∙ ap (cells_to goal id) o)
    ∙ ap (λ (x : List (ℕ × ℕ)). record {
      frames = frames_to goal id state.frames;
      throwing = thrown_to goal id state.throwing;
      cells = cells_to goal id state.cells;
      eq = x;
      share = share;
    }) (e ∙ oe)
    ∙ ap (λ (x : List (ℕ × ℕ)). record {
      frames = frames_to goal id state.frames;
      throwing = thrown_to goal id state.throwing;
      cells = cells_to goal id state.cells;
      eq = state.eq;
      share = x;
    })
    (h ∙ oh)
    ∙ gone_is goal id state
