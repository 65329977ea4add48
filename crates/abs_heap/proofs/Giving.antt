-- Children given by their cells and by the pairs that are wanted.
use Rattle.std.proofs.Common.{◌≡◌, ℕ, true, List, [], ◌∷◌, ◌++◌, map, reverse, Result, Ok, Err, IfOk, OnOk, Option, Some, None, inl}
use Rattle.std.proofs.Common.{inr, refl, sym, ap, subst, ◌∙◌}
use Rattle.std.specs.Prelude.{◌↔◌}
use Rattle.std.specs.Option.{option_map}
use Rattle.std.proofs.lemmas.Bool.{false≢true}
use Rattle.std.proofs.lemmas.List.{reverse-append, reverse-reverse, map-append}
use Rattle.abs_cells.specs.declared.cells.Cell.{Cell}
use Rattle.abs_cells.specs.declared.cells.Cell.TheVariants as cells
use Rattle.abs_cells.specs.AbstractStates.{AbstractFrame, AbstractState}
use Rattle.abs_cells.specs.Cells.{cell_in, cell_at, AreEqual, Share}
use Rattle.abs_cells.specs.PairLists.{has}
use Rattle.abs_cells.specs.Sound.{AreIdsRising}
use Rattle.abs_heap.specs.Given.{IsPair, IsGiven, first_cell, with_cells}
use Rattle.abs_heap.specs.Names.{name_in, frame_named, cell_named, IsImage}
use Rattle.abs_heap.specs.inner.Building.{Gains, IsOver, named_entry}
use Rattle.abs_heap.proofs.PairGains.{pair_as, gains_on}

-- ---- no names

ids_unnamed : (ids : List ℕ) → map (name_in []) ids ≡ ids
ids_unnamed [] = refl
ids_unnamed (id ∷ ids) = ap (λ (xs : List ℕ). id ∷ xs) (ids_unnamed ids)

pub given_unnamed : (given : Option ℕ) → option_map (name_in []) given ≡ given
given_unnamed None = refl
given_unnamed (Some id) = refl

locals_unnamed : (locals : List (Option ℕ)) → map (option_map (name_in [])) locals ≡ locals
locals_unnamed [] = refl
locals_unnamed (None ∷ locals) = ap (λ (xs : List (Option ℕ)). None ∷ xs) (locals_unnamed locals)
locals_unnamed (Some id ∷ locals) = ap (λ (xs : List (Option ℕ)). Some id ∷ xs) (locals_unnamed locals)

frame_unnamed : (frame : AbstractFrame) → frame_named (name_in []) frame ≡ frame
frame_unnamed frame =
    ap (λ (xs : List (Option ℕ)). record frame { locals = xs; stack = map (name_in []) frame.stack }) (locals_unnamed frame.locals)
    ∙ ap (λ (xs : List ℕ). record frame { stack = xs }) (ids_unnamed frame.stack)

pub frames_unnamed : (frames : List AbstractFrame) → map (frame_named (name_in [])) frames ≡ frames
frames_unnamed [] = refl
frames_unnamed (frame ∷ frames) = ap (λ (f : AbstractFrame). f ∷ map (frame_named (name_in [])) frames) (frame_unnamed frame)
    ∙ ap (λ (fs : List AbstractFrame). frame ∷ fs) (frames_unnamed frames)

cell_unnamed : (cell : Cell) → cell_named (name_in []) cell ≡ cell
cell_unnamed (cells.Int interval) = refl
cell_unnamed cells.Null = refl
cell_unnamed (cells.Obj class ids) = ap (cells.Obj class) (ids_unnamed ids)
cell_unnamed (cells.Nums kind len) = refl
cell_unnamed (cells.Refs element len shape) = refl
cell_unnamed (cells.Unk bound nullable shape) = refl

pub cells_unnamed : (list : List (ℕ × Cell)) → map (named_entry []) list ≡ list
cells_unnamed [] = refl
cells_unnamed ((id, cell) ∷ list) = ap (λ (c : Cell). (id, c) ∷ map (named_entry []) list) (cell_unnamed cell)
    ∙ ap (λ (cs : List (ℕ × Cell)). (id, cell) ∷ cs) (cells_unnamed list)

pub over_unnamed : (cells more all : List (ℕ × Cell)) → IsOver cells (map (named_entry []) more) all → IsOver cells more all
over_unnamed cells more all h = subst (λ (xs : List (ℕ × Cell)). IsOver cells xs all) (cells_unnamed more) h

pub image_unnamed : (pairs : ℕ → ℕ → Type 0) (a b : ℕ) → IsImage (name_in []) pairs a b → pairs a b
image_unnamed pairs a b i = subst (λ (y : ℕ). pairs a y) i.right (subst (λ (x : ℕ). pairs x i.y) i.left i.were)

-- ---- pairs

pub pairs_given : (cells : List (ℕ × Cell)) (wanted : ℕ → ℕ → Type 0) (new : List (ℕ × ℕ)) → Gains cells wanted [] new → (a b : ℕ)
    → (has a b new ≡ true) ↔ IsPair wanted cells a b
pairs_given cells wanted new g a b = (
  λ h. elim ((g a b).0 h) [ inl k ↦ absurd (false≢true k) | inr p ↦ p ],
  λ p. (g a b).1 (inr p),
)

own_pairs : (cells : List (ℕ × Cell)) (old new : List (ℕ × ℕ))
    → Gains cells (IsImage (name_in []) (λ x y. has x y old ≡ true)) [] new → (a b : ℕ)
    → (has a b new ≡ true) ↔ IsPair (λ x y. has x y old ≡ true) cells a b
own_pairs cells old new g a b =
    let p = pairs_given cells (IsImage (name_in []) (λ x y. has x y old ≡ true)) new g a b in (
      λ h. pair_as cells (IsImage (name_in []) (λ x y. has x y old ≡ true)) (λ x y. has x y old ≡ true)
          (λ x y j i. inl (image_unnamed (λ v w. has v w old ≡ true) x y i)) a b (p.0 h),
      λ h. p.1 (pair_as cells (λ x y. has x y old ≡ true) (IsImage (name_in []) (λ x y. has x y old ≡ true))
          (λ x y j w. inl (record { x = x; y = y; were = w; left = refl; right = refl })) a b h),
    )

pub same_pairs : (cells : List (ℕ × Cell)) (wanted : ℕ → ℕ → Type 0) (old new : List (ℕ × ℕ))
    → Gains cells (IsImage (name_in []) (λ x y. has x y old ≡ true)) [] new → (wish : List (ℕ × ℕ)) → old ≡ wish → (a b : ℕ)
    → (has a b new ≡ true) ↔ IsPair (λ x y. has x y wish ≡ true) cells a b
same_pairs cells wanted old new g wish e a b = subst
    (λ (ps : List (ℕ × ℕ)). (has a b new ≡ true) ↔ IsPair (λ x y. has x y ps ≡ true) cells a b) e (own_pairs cells old new g a b)

-- ---- whole children

pub child_given : (state child : AbstractState) (cells : List (ℕ × Cell)) (old_eq old_share eq share : List (ℕ × ℕ)) → AreIdsRising 0 cells
    → old_eq ≡ state.eq → old_share ≡ state.share
    → Gains cells (IsImage (name_in []) (λ x y. has x y old_eq ≡ true)) [] eq
    → Gains cells (IsImage (name_in []) (λ x y. has x y old_share ≡ true)) [] share
    → child ≡ record {
      frames = map (frame_named (name_in [])) state.frames;
      throwing = option_map (name_in []) state.throwing;
      cells = cells;
      eq = eq;
      share = share;
    }
    → IsGiven state.frames state.throwing (cell_in cells) (AreEqual state) (Share state) child
child_given state child cells old_eq old_share eq share r e s ge gs is = subst
    (λ (c : AbstractState). IsGiven state.frames state.throwing (cell_in cells) (AreEqual state) (Share state) c) (sym is) (record {
      frames_are = frames_unnamed state.frames;
      throwing_is = given_unnamed state.throwing;
      rising = r;
      cells = λ id. refl;
      eq = λ a b. same_pairs cells (AreEqual state) old_eq eq ge state.eq e a b;
      share = λ a b. same_pairs cells (Share state) old_share share gs state.share s a b;
    })

-- the same where the pairs were made beside a list that is the cells
pub child_listed : (state child : AbstractState) (list cells : List (ℕ × Cell)) (old_eq old_share eq share : List (ℕ × ℕ))
    → list ≡ cells → AreIdsRising 0 cells
    → old_eq ≡ state.eq → old_share ≡ state.share
    → Gains list (IsImage (name_in []) (λ x y. has x y old_eq ≡ true)) [] eq
    → Gains list (IsImage (name_in []) (λ x y. has x y old_share ≡ true)) [] share
    → child ≡ record {
      frames = map (frame_named (name_in [])) state.frames;
      throwing = option_map (name_in []) state.throwing;
      cells = cells;
      eq = eq;
      share = share;
    }
    → IsGiven state.frames state.throwing (cell_in cells) (AreEqual state) (Share state) child
child_listed state child list cells old_eq old_share eq share l r e s ge gs is =
    child_given state child cells old_eq old_share eq share r e s
    (gains_on list cells (λ _. IsImage (name_in []) (λ x y. has x y old_eq ≡ true)) [] eq l ge)
    (gains_on list cells (λ _. IsImage (name_in []) (λ x y. has x y old_share ≡ true)) [] share l gs) is

pub given_as : (frames : List AbstractFrame) (throwing : Option ℕ) (cell other : ℕ → Option Cell) (equal sharing : ℕ → ℕ → Type 0)
    (child : AbstractState) → ((id : ℕ) → cell id ≡ other id) → IsGiven frames throwing cell equal sharing child
    → IsGiven frames throwing other equal sharing child
given_as frames throwing cell other equal sharing child same g = record {
  frames_are = g.frames_are;
  throwing_is = g.throwing_is;
  rising = g.rising;
  cells = λ id. g.cells id ∙ same id;
  eq = g.eq;
  share = g.share;
}

-- the cells of a list, and then a state's
pub over_state : (state : AbstractState) (start news some all made : List (ℕ × Cell)) → start ≡ [] → IsOver start news some
    → IsOver some state.cells all → made ≡ all → (id : ℕ) → cell_in made id ≡ with_cells news state id
over_state state start news some all made e h k m id =
    ap (λ (xs : List (ℕ × Cell)). cell_in xs id) m
    ∙ k.is id
    ∙ ap (λ (o : Option Cell). first_cell o (cell_at state id)) (h.is id)
    ∙ ap (λ (xs : List (ℕ × Cell)). first_cell (first_cell (cell_in xs id) (cell_in news id)) (cell_at state id)) e

-- ---- as code reads it

reversed_twice : (f : AbstractFrame → AbstractFrame) (xs : List AbstractFrame) → reverse (map f (reverse xs)) ≡ map f xs
reversed_twice f xs = ap reverse (map_reversed f xs) ∙ reverse-reverse (map f xs)
  where
    map_reversed : (f : AbstractFrame → AbstractFrame) (xs : List AbstractFrame) → map f (reverse xs) ≡ reverse (map f xs)
    map_reversed f [] = refl
    map_reversed f (x ∷ xs) = ap (map f) (reverse-append (x ∷ []) xs) ∙ map-append f (reverse xs) (x ∷ [])
        ∙ ap (λ (ys : List AbstractFrame). ys ++ f x ∷ []) (map_reversed f xs) ∙ sym (reverse-append (f x ∷ []) (map f xs))

abbrev pub state_of : List AbstractFrame → Option ℕ → List (ℕ × Cell) → List (ℕ × ℕ) → List (ℕ × ℕ) → AbstractState
state_of frames throwing list eq share = record { frames = frames; throwing = throwing; cells = list; eq = eq; share = share }

pub whole_is : (f : ℕ → ℕ) (state : AbstractState) (some list : List AbstractFrame) (thrown given : Option ℕ)
    (made held : List (ℕ × Cell)) (eq share : List (ℕ × ℕ)) → some ≡ map (frame_named f) list → list ≡ reverse state.frames
    → thrown ≡ option_map f given → given ≡ state.throwing → made ≡ held
    → state_of (reverse some) thrown made eq share ≡ state_of (map (frame_named f) state.frames) (option_map f state.throwing) held
    eq share
whole_is f state some list thrown given made held eq share a b c d e =
    let frames : reverse some ≡ map (frame_named f) state.frames = ap reverse a
    ∙ ap (λ (xs : List AbstractFrame). reverse (map (frame_named f) xs)) b ∙ reversed_twice (frame_named f) state.frames in
    let throwing : thrown ≡ option_map f state.throwing = c ∙ ap (option_map f) d in
    ap (λ (xs : List AbstractFrame). state_of xs thrown made eq share) frames
    ∙ ap (λ (t : Option ℕ). state_of (map (frame_named f) state.frames) t made eq share) throwing
    ∙ ap (λ (cs : List (ℕ × Cell)). state_of (map (frame_named f) state.frames) (option_map f state.throwing) cs eq share) e

abbrev pub frame_of : ℕ → ℕ → List (Option ℕ) → List ℕ → AbstractFrame
frame_of method pc locals stack = record { method = method; pc = pc; locals = locals; stack = stack }

reversed_ids : (f : ℕ → ℕ) (xs : List ℕ) → reverse (map f (reverse xs)) ≡ map f xs
reversed_ids f xs = ap reverse (map_ids f xs) ∙ reverse-reverse (map f xs)
  where
    map_ids : (f : ℕ → ℕ) (xs : List ℕ) → map f (reverse xs) ≡ reverse (map f xs)
    map_ids f [] = refl
    map_ids f (x ∷ xs) = ap (map f) (reverse-append (x ∷ []) xs) ∙ map-append f (reverse xs) (x ∷ [])
        ∙ ap (λ (ys : List ℕ). ys ++ f x ∷ []) (map_ids f xs) ∙ sym (reverse-append (f x ∷ []) (map f xs))

pub frame_is : (f : ℕ → ℕ) (frame : AbstractFrame) (method pc : ℕ) (locals read : List (Option ℕ)) (stack list : List ℕ)
    → method ≡ frame.method → pc ≡ frame.pc → locals ≡ map (option_map f) read → read ≡ frame.locals → stack ≡ map f list
    → list ≡ reverse frame.stack
    → frame_of method pc locals (reverse stack) ≡ frame_named f frame
frame_is f frame method pc locals read stack list a b c d e g =
    let places : locals ≡ map (option_map f) frame.locals = c ∙ ap (map (option_map f)) d in
    let tops : reverse stack ≡ map f frame.stack = ap reverse e ∙ ap (λ (xs : List ℕ). reverse (map f xs)) g
    ∙ reversed_ids f frame.stack in
    ap (λ (m : ℕ). frame_of m pc locals (reverse stack)) a
    ∙ ap (λ (p : ℕ). frame_of frame.method p locals (reverse stack)) b
    ∙ ap (λ (xs : List (Option ℕ)). frame_of frame.method frame.pc xs (reverse stack)) places
    ∙ ap (λ (xs : List ℕ). frame_of frame.method frame.pc (map (option_map f) frame.locals) xs) tops
