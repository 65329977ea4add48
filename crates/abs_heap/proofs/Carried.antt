-- What a state describes it describes still where the ids have the same values, in the same heap or one that has grown.
use Rattle.std.proofs.Common.{◌≡◌, ℕ, zero, suc, true, List, [], ◌∷◌, ◌++◌, map, get_or, Option, Some, None, inl, inr, refl, sym}
use Rattle.std.proofs.Common.{ap, subst, ◌∙◌, All}
use Rattle.std.specs.Prelude.{slice_get}
use Rattle.std.specs.List.{AllZip, flat_map}
use Rattle.std.proofs.lemmas.List.Elements.{All-head, All-tail}
use Rattle.std.proofs.lemmas.Option.{none-some}
use Rattle.list_views.proofs.Quantified.{all_at, every_back, every_front}
use Rattle.jvm_values.specs.declared.heap.Value.{Value}
use Rattle.jvm_values.specs.declared.heap.Object.{Object}
use Rattle.jvm_values.specs.declared.heap.Object.TheVariants as objects
use Rattle.jvm_values.specs.declared.heap.Heap.{Heap}
use Rattle.jvm_values.specs.declared.state.Mode.{Mode}
use Rattle.jvm_values.specs.declared.state.Mode.TheVariants.{Normal, Throwing}
use Rattle.jvm_values.specs.States.{MachineFrame}
use Rattle.jvm_values.specs.TypedHeaps.{WorldTypes}
use Rattle.jvm_values.proofs.Options.{some_is}
use Rattle.abs_cells.specs.declared.cells.Cell.{Cell}
use Rattle.abs_cells.specs.declared.cells.Cell.TheVariants as cells
use Rattle.abs_cells.specs.AbstractStates.{AbstractFrame, AbstractState}
use Rattle.abs_cells.specs.Cells.{ids_in, cell_at, HasCell}
use Rattle.abs_cells.specs.Sound.{IsWellFormed, ids_used, ids_of_frame, given_ids}
use Rattle.abs_cells.specs.Fits.{Meaning, FitsFrame, FitsMode, Describes}
use Rattle.abs_reach.proofs.Walks.{named_has_cell}

-- two maps agree on a state's ids
abbrev pub Agrees : AbstractState → Meaning → Meaning → Type 0
Agrees state m n = (id : ℕ) → HasCell (λ _. true) state id → n id ≡ m id

pub maps_agree : (m n : Meaning) (ids : List ℕ) → ((i id : ℕ) → slice_get ids i ≡ Some id → n id ≡ m id) → map m ids ≡ map n ids
maps_agree m n [] h = refl
maps_agree m n (id ∷ ids) h = ap (λ (v : Value). v ∷ map m ids) (sym (h 0 id refl))
    ∙ ap (λ (vs : List Value). n id ∷ vs) (maps_agree m n ids (λ i x e. h (suc i) x e))

given_there : (locals : List (Option ℕ)) (P : ℕ → Type 0) → All P (given_ids locals) → (k id : ℕ)
    → slice_get locals k ≡ Some (Some id) → P id
given_there [] P a k id e = absurd (none-some (Some id) e)
given_there (None ∷ locals) P a zero id e = absurd (none-some id (some_is e))
given_there (None ∷ locals) P a (suc k) id e = given_there locals P a k id e
given_there (Some x ∷ locals) P a zero id e = subst P (some_is (some_is e)) (All-head P x (given_ids locals) a)
given_there (Some x ∷ locals) P a (suc k) id e = given_there locals P (All-tail P x (given_ids locals) a) k id e

frame_there : (m n : Meaning) (frame : AbstractFrame) (mf : MachineFrame) → All (λ id. n id ≡ m id) (ids_of_frame frame)
    → FitsFrame m frame mf → FitsFrame n frame mf
frame_there m n frame mf a f =
    let P : ℕ → Type 0 = λ id. n id ≡ m id in
    record {
      method = f.method;
      pc = f.pc;
      locals = λ k id e. f.locals k id e
          ∙ ap (λ (v : Value). Some (Some v))
          (sym (given_there frame.locals P (every_front P (given_ids frame.locals) frame.stack a) k id e));
      stack = f.stack ∙ maps_agree m n frame.stack
          (λ i id e. all_at P frame.stack i id (every_back P (given_ids frame.locals) frame.stack a) e);
    }

frames_there : (m n : Meaning) (frames : List AbstractFrame) (mfs : List MachineFrame)
    → All (λ id. n id ≡ m id) (flat_map ids_of_frame frames) → AllZip (FitsFrame m) frames mfs → AllZip (FitsFrame n) frames mfs
frames_there m n [] [] a z = z
frames_there m n [] (mf ∷ mfs) a z = z
frames_there m n (frame ∷ frames) [] a z = z
frames_there m n (frame ∷ frames) (mf ∷ mfs) a z =
    let P : ℕ → Type 0 = λ id. n id ≡ m id in (
      frame_there m n frame mf (every_front P (ids_of_frame frame) (flat_map ids_of_frame frames) a) z.0,
      frames_there m n frames mfs
          (every_back P (ids_of_frame frame) (flat_map ids_of_frame frames) a) z.1,
    )

all_agree : (state : AbstractState) (m n : Meaning) → IsWellFormed state → Agrees state m n → All (λ id. n id ≡ m id) (ids_used state)
all_agree state m n good h k d l = h (get_or (ids_used state) k d) (good.used k d l)

pub positions_carried : (state : AbstractState) (m n : Meaning) (mfs : List MachineFrame) → IsWellFormed state → Agrees state m n
    → AllZip (FitsFrame m) state.frames mfs → AllZip (FitsFrame n) state.frames mfs
positions_carried state m n mfs good h z =
    frames_there m n state.frames mfs
    (every_front (λ id. n id ≡ m id) (flat_map ids_of_frame state.frames)
    (given_ids (state.throwing ∷ []) ++ flat_map (λ c. ids_in c.1) state.cells) (all_agree state m n good h)) z

thrown_there : (m n : Meaning) (throwing : Option ℕ) (mode : Mode) → All (λ id. n id ≡ m id) (given_ids (throwing ∷ []))
    → FitsMode m throwing mode → FitsMode n throwing mode
thrown_there m n None Normal a f = f
thrown_there m n None (Throwing r) a f = f
thrown_there m n (Some id) Normal a f = f
thrown_there m n (Some id) (Throwing r) a f = All-head (λ i. n i ≡ m i) id [] a ∙ f

pub mode_carried : (state : AbstractState) (m n : Meaning) (mode : Mode) → IsWellFormed state → Agrees state m n
    → FitsMode m state.throwing mode → FitsMode n state.throwing mode
mode_carried state m n mode good h f =
    let P : ℕ → Type 0 = λ id. n id ≡ m id in
    let rest = every_back P (flat_map ids_of_frame state.frames)
    (given_ids (state.throwing ∷ []) ++ flat_map (λ c. ids_in c.1) state.cells) (all_agree state m n good h) in
    thrown_there m n state.throwing mode (every_front P (given_ids (state.throwing ∷ [])) (flat_map (λ c. ids_in c.1) state.cells) rest) f

-- objects stay at their places
abbrev pub Keeps : Heap → Heap → Type 0
Keeps heap after = (r : ℕ) (object : Object) → slice_get heap.objects r ≡ Some object → slice_get after.objects r ≡ Some object

pub describes_carried : (types : WorldTypes) (heap after : Heap) (m n : Meaning) (c : Cell) (v w : Value) → Keeps heap after → w ≡ v
    → ((i id : ℕ) → slice_get (ids_in c) i ≡ Some id → n id ≡ m id) → Describes types heap m c v → Describes types after n c w
describes_carried types heap after m n (cells.Int interval) v w k e a d = (d.0, (e ∙ d.1.0, d.1.1))
describes_carried types heap after m n cells.Null v w k e a d = e ∙ d
describes_carried types heap after m n (cells.Obj class ids) v w k e a d = record {
  place = d.place;
  object = d.object;
  names = e
      ∙ d.names;
  stands = k d.place d.object d.stands;
  holds = d.holds ∙ ap (objects.Instance class) (maps_agree m n ids a);
}
describes_carried types heap after m n (cells.Nums kind len) v w k e a d = record {
  place = d.place;
  object = d.object;
  names = e
      ∙ d.names;
  stands = k d.place d.object d.stands;
  holds = record
      { items = d.holds.items; is = d.holds.is; length_is = a 0 len refl ∙ d.holds.length_is };
}
describes_carried types heap after m n (cells.Refs element len shape) v w k e a d = record {
  place = d.place;
  object = d.object;
  names = e ∙ d.names;
  stands = k d.place d.object d.stands;
  holds = record {
    item = d.holds.item;
    items = d.holds.items;
    is = d.holds.is;
    below = d.holds.below;
    length_is = a 0 len refl
        ∙ d.holds.length_is;
  };
}
describes_carried types heap after m n (cells.Unk bound nullable shape) v w k e a (inl d) = inl (d.0, e ∙ d.1)
describes_carried types heap after m n (cells.Unk bound nullable shape) v w k e a (inr d) = inr
    (record { place = d.place; object = d.object; names = e ∙ d.names; stands = k d.place d.object d.stands; holds = d.holds })

pub cell_carried : (types : WorldTypes) (state : AbstractState) (heap after : Heap) (m n : Meaning) → IsWellFormed state
    → Agrees state m n → Keeps heap after → (id : ℕ) (c : Cell) → cell_at state id ≡ Some c → Describes types heap m c (m id)
    → Describes types after n c (n id)
cell_carried types state heap after m n good h k id c e d =
    describes_carried types heap after m n c (m id) (n id) k (h id (record { cell = c; is = e; sort_is = refl }))
    (λ i x f. h x (named_has_cell state good id i x c e f)) d
