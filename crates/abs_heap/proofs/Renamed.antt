-- Ids by new numbers, and what fits under them.
use Rattle.std.proofs.Common.{◌≡◌, ℕ, zero, suc, ◌<◌, true, false, eqb, if◌then◌else◌, ◌==◌, List, [], ◌∷◌, ◌++◌, length, map}
use Rattle.std.proofs.Common.{Option, Some, None, ◌⊎◌, inl, inr, refl, sym, ap, subst, ◌∙◌, arith, All, eq-eqb, ne_eqb}
use Rattle.std.specs.Prelude.{slice_get, slice_set, slice_index_or, Contains}
use Rattle.std.specs.List.{AllZip, flat_map}
use Rattle.std.specs.Option.{option_map}
use Rattle.std.proofs.lemmas.Bool.{false≢true, cases_Bool, eqb-true, or_cases, or_left, or_right, cond-true, cond-false, cases_eq}
use Rattle.std.proofs.lemmas.List.Elements.{All-head, All-tail}
use Rattle.std.proofs.lemmas.Option.{none-some}
use Rattle.list_views.proofs.Quantified.{all_at, every_back, every_front}
use Rattle.jvm_values.specs.declared.heap.Value.{Value}
use Rattle.jvm_values.specs.declared.heap.Heap.{Heap}
use Rattle.jvm_values.specs.declared.state.Mode.{Mode}
use Rattle.jvm_values.specs.declared.state.Mode.TheVariants.{Normal, Throwing}
use Rattle.jvm_values.specs.States.{MachineFrame}
use Rattle.jvm_values.specs.Heaps.{heap_steps, IsTree, IsDag}
use Rattle.jvm_values.proofs.PathLaws.{joined}
use Rattle.jvm_values.proofs.Options.{some_is}
use Rattle.abs_cells.specs.AbstractStates.{AbstractFrame, AbstractState}
use Rattle.abs_cells.specs.Cells.{cell_at, HasCell}
use Rattle.abs_cells.specs.Sound.{ids_of_frame, given_ids}
use Rattle.abs_cells.specs.Fits.{Meaning, FitsFrame, FitsMode}
use Rattle.abs_heap.specs.Given.{AreRising}
use Rattle.abs_heap.specs.Names.{name_in, frame_named}
use Rattle.abs_heap.specs.Writing.{is_renamed}

-- ---- names

pub named_here : (e : ℕ × ℕ) (es : List (ℕ × ℕ)) (id : ℕ) → e.0 ≡ id → name_in (e ∷ es) id ≡ e.1
named_here e es id s = cond-true (eqb e.0 id) _ _ (eq-eqb e.0 id s)

pub named_later : (e : ℕ × ℕ) (es : List (ℕ × ℕ)) (id : ℕ) → (e.0 ≡ id → ⊥) → name_in (e ∷ es) id ≡ name_in es id
named_later e es id n = cond-false (eqb e.0 id) _ _ (ne_eqb e.0 id n)

-- an id that has no new number stays
pub unnamed_stays : (names : List (ℕ × ℕ)) (id : ℕ) → is_renamed names id ≡ false → name_in names id ≡ id
unnamed_stays [] id e = refl
unnamed_stays (n ∷ names) id e = elim (cases_eq n.0 id) [
  | inl s ↦ absurd (false≢true (sym e ∙ or_left (eqb n.0 id) (is_renamed names id) (eq-eqb n.0 id s)))
  | inr s ↦ named_later n names id s
      ∙ unnamed_stays names id
      (elim (cases_Bool (is_renamed names id)) [
        | inl t ↦ absurd (false≢true (sym e ∙ or_right (eqb n.0 id) (is_renamed names id) t))
        | inr f ↦ f
      ])
]

-- the old number of a new one
abbrev pub old_in : List (ℕ × ℕ) → ℕ → ℕ
old_in [] n = n
old_in (e ∷ es) n = if e.1 == n then e.0 else old_in es n

pub old_here : (e : ℕ × ℕ) (es : List (ℕ × ℕ)) (n : ℕ) → e.1 ≡ n → old_in (e ∷ es) n ≡ e.0
old_here e es n s = cond-true (eqb e.1 n) _ _ (eq-eqb e.1 n s)

pub old_later : (e : ℕ × ℕ) (es : List (ℕ × ℕ)) (n : ℕ) → (e.1 ≡ n → ⊥) → old_in (e ∷ es) n ≡ old_in es n
old_later e es n s = cond-false (eqb e.1 n) _ _ (ne_eqb e.1 n s)

-- no later new number is an earlier one
pub above_all : (x : ℕ) (names : List (ℕ × ℕ)) → AreRising (x ∷ map (λ e. e.1) names) → (id : ℕ) → is_renamed names id ≡ true
    → x < name_in names id
above_all x [] r id e = absurd (false≢true e)
above_all x (n ∷ names) r id e = elim (cases_eq n.0 id) [
  | inl s ↦ subst (λ (k : ℕ). x < k) (sym (named_here n names id s)) r.0
  | inr s ↦
      let later : is_renamed names id ≡ true = elim (or_cases (eqb n.0 id) (is_renamed names id) e)
      [ inl t ↦ absurd (s (eqb-true n.0 id t)) | inr t ↦ t ] in
      let h = above_all n.1 names r.1 id later in
      subst (λ (k : ℕ). x < k) (sym (named_later n names id s)) (omega (arith, h, r.0))
]

-- the old number of the new number of an id that has a cell is the id
pub back_again : (state : AbstractState) (names : List (ℕ × ℕ)) → AreRising (map (λ e. e.1) names)
    → All (λ id. cell_at state id ≡ None) (map (λ e. e.1) names) → (id : ℕ) → HasCell (λ _. true) state id
    → old_in names (name_in names id) ≡ id
back_again state [] r free id h = refl
back_again state (n ∷ names) r free id h = elim (cases_eq n.0 id) [
  | inl s ↦ ap (old_in (n ∷ names)) (named_here n names id s) ∙ old_here n names n.1 refl ∙ s
  | inr s ↦
      ap (old_in (n ∷ names)) (named_later n names id s)
      ∙ old_later n names (name_in names id) (λ t. apart s t)
      ∙ back_again state names (rest_rises names r) (All-tail (λ i. cell_at state i ≡ None) n.1 (map (λ e. e.1) names) free) id h
]
  where
    rest_rises : (names : List (ℕ × ℕ)) → AreRising (n.1 ∷ map (λ e. e.1) names) → AreRising (map (λ e. e.1) names)
    rest_rises names q = q.1

    apart : (n.0 ≡ id → ⊥) → n.1 ≡ name_in names id → ⊥
    apart s t = elim (cases_Bool (is_renamed names id)) [
      | inl e ↦ let l = above_all n.1 names r id e in omega (arith, l, t)
      | inr e ↦ none-some h.cell (sym (All-head (λ i. cell_at state i ≡ None) n.1 (map (λ e. e.1) names) free)
          ∙ ap (cell_at state) (t ∙ unnamed_stays names id e) ∙ h.is)
    ]

pub renamed_is : (names : List (ℕ × ℕ)) (id : ℕ) → is_renamed names id ≡ true → Contains (map (λ e. e.0) names) id
renamed_is [] id f = absurd (false≢true f)
renamed_is (n ∷ ns) id f = elim (or_cases (eqb n.0 id) (is_renamed ns id) f) [
  | inl s ↦ (0, omega arith, eqb-true n.0 id s)
  | inr s ↦ let k = renamed_is ns id s in let l = k.1 in (suc k.0, omega (arith, l), k.2)
]

pub renamed_at : (names : List (ℕ × ℕ)) (id i : ℕ) → i < length (map (λ e. e.0) names)
    → slice_index_or (map (λ e. e.0) names) i id ≡ id → is_renamed names id ≡ true
renamed_at [] id i l e = absurd (omega (arith, l))
renamed_at (n ∷ ns) id zero l e = or_left (eqb n.0 id) (is_renamed ns id) (eq-eqb n.0 id e)
renamed_at (n ∷ ns) id (suc i) l e = or_right (eqb n.0 id) (is_renamed ns id) (renamed_at ns id i (omega (arith, l)) e)

pub is_renamed_of : (names : List (ℕ × ℕ)) (id : ℕ) → Contains (map (λ e. e.0) names) id → is_renamed names id ≡ true
is_renamed_of names id k = renamed_at names id k.0 k.1 k.2

-- ---- what names a value

pub maps_move : (m n : Meaning) (f : ℕ → ℕ) (ids : List ℕ) → ((i id : ℕ) → slice_get ids i ≡ Some id → n (f id) ≡ m id)
    → map n (map f ids) ≡ map m ids
maps_move m n f [] h = refl
maps_move m n f (id ∷ ids) h = ap (λ (v : Value). v ∷ map n (map f ids)) (h 0 id refl)
    ∙ ap (λ (vs : List Value). m id ∷ vs) (maps_move m n f ids (λ i x e. h (suc i) x e))

pub local_moves : (P : ℕ → Type 0) (f : ℕ → ℕ) (locals : List (Option ℕ)) → All P (given_ids locals) → (k id : ℕ)
    → slice_get (map (option_map f) locals) k ≡ Some (Some id)
    → (old : ℕ) × ((slice_get locals k ≡ Some (Some old)) × ((f old ≡ id) × P old))
local_moves P f [] a k id e = absurd (none-some (Some id) e)
local_moves P f (None ∷ locals) a zero id e = absurd (none-some id (some_is e))
local_moves P f (None ∷ locals) a (suc k) id e = local_moves P f locals a k id e
local_moves P f (Some x ∷ locals) a zero id e = (x, (refl, (some_is (some_is e), All-head P x (given_ids locals) a)))
local_moves P f (Some x ∷ locals) a (suc k) id e = local_moves P f locals (All-tail P x (given_ids locals) a) k id e

pub frame_moves : (m n : Meaning) (f : ℕ → ℕ) (frame : AbstractFrame) (mf : MachineFrame)
    → All (λ id. n (f id) ≡ m id) (ids_of_frame frame) → FitsFrame m frame mf → FitsFrame n (frame_named f frame) mf
frame_moves m n f frame mf a h =
    let P : ℕ → Type 0 = λ id. n (f id) ≡ m id in
    record {
      method = h.method;
      pc = h.pc;
      locals = λ k id e.
          let o = local_moves P f frame.locals (every_front P (given_ids frame.locals) frame.stack a) k id e in
          h.locals k o.0 o.1.0 ∙ ap (λ (v : Value). Some (Some v)) (sym o.1.1.1 ∙ ap n o.1.1.0);
      stack = h.stack ∙ sym
          (maps_move m n f frame.stack (λ i id e. all_at P frame.stack i id (every_back P (given_ids frame.locals) frame.stack a) e));
    }

pub frames_move : (m n : Meaning) (f : ℕ → ℕ) (frames : List AbstractFrame) (mfs : List MachineFrame)
    → All (λ id. n (f id) ≡ m id) (flat_map ids_of_frame frames) → AllZip (FitsFrame m) frames mfs
    → AllZip (FitsFrame n) (map (frame_named f) frames) mfs
frames_move m n f [] [] a z = z
frames_move m n f [] (mf ∷ mfs) a z = z
frames_move m n f (frame ∷ frames) [] a z = z
frames_move m n f (frame ∷ frames) (mf ∷ mfs) a z =
    let P : ℕ → Type 0 = λ id. n (f id) ≡ m id in (
      frame_moves m n f frame mf (every_front P (ids_of_frame frame) (flat_map ids_of_frame frames) a) z.0,
      frames_move m n f frames
          mfs (every_back P (ids_of_frame frame) (flat_map ids_of_frame frames) a) z.1,
    )

pub thrown_moves : (m n : Meaning) (f : ℕ → ℕ) (throwing : Option ℕ) (mode : Mode)
    → All (λ id. n (f id) ≡ m id) (given_ids (throwing ∷ [])) → FitsMode m throwing mode → FitsMode n (option_map f throwing) mode
thrown_moves m n f None Normal a h = h
thrown_moves m n f None (Throwing r) a h = h
thrown_moves m n f (Some id) Normal a h = h
thrown_moves m n f (Some id) (Throwing r) a h = All-head (λ i. n (f i) ≡ m i) id [] a ∙ h

-- ---- lists

pub mapped_set : (m : Meaning) (ids : List ℕ) (k w : ℕ) → map m (slice_set ids k w) ≡ slice_set (map m ids) k (m w)
mapped_set m [] k w = refl
mapped_set m (id ∷ ids) zero w = refl
mapped_set m (id ∷ ids) (suc k) w = ap (λ (vs : List Value). m id ∷ vs) (mapped_set m ids k w)

pub set_member : (ids : List ℕ) (k w i id : ℕ) → slice_get (slice_set ids k w) i ≡ Some id → (slice_get ids i ≡ Some id) ⊎ (id ≡ w)
set_member [] k w i id e = inl e
set_member (x ∷ ids) zero w zero id e = inr (sym (some_is e))
set_member (x ∷ ids) zero w (suc i) id e = inl e
set_member (x ∷ ids) (suc k) w zero id e = inl e
set_member (x ∷ ids) (suc k) w (suc i) id e = set_member ids k w i id e

abbrev pub tail_of : List ℕ → List ℕ
tail_of [] = []
tail_of (x ∷ xs) = xs

pub empty_end : (p q : List ℕ) → p ≡ p ++ q → q ≡ []
empty_end [] q e = sym e
empty_end (x ∷ p) q e = empty_end p q (ap tail_of e)

pub tree_is_dag : (heap : Heap) (v : Value) → IsTree heap v → IsDag heap v
tree_is_dag heap v h a t p b e q f = empty_end p q (h a t p (p ++ q) b e (joined (heap_steps heap) p q a b b e f))
