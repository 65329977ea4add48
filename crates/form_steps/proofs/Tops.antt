-- Frames of the machine beside abstract ones: the running one, with what follows its locals, and those below it.
use Rattle.std.proofs.Common.{◌≡◌, ◌∙◌, ◌<◌, ◌+◌, ℕ, zero, suc, List, [], ◌∷◌, ◌++◌, length, map, Option, Some, slice_get, refl}
use Rattle.std.proofs.Common.{sym, ap, arith}
use Rattle.std.specs.Prelude.{slice_set}
use Rattle.std.specs.List.{AllZip}
use Rattle.std.proofs.lemmas.Option.{none-some}
use Rattle.jvm_values.specs.declared.heap.Value.{Value}
use Rattle.jvm_values.specs.States.{MachineFrame}
use Rattle.jvm_values.proofs.Options.{some_is}
use Rattle.abs_cells.specs.AbstractStates.{AbstractFrame}
use Rattle.abs_cells.specs.Fits.{Meaning, FitsFrame, with_statics}
use Rattle.abs_expand.specs.Table.{bottom_with}

-- what follows the running frame's locals: the values of the static fields where no frame is below it
abbrev pub behind : List Value → List MachineFrame → List (Option Value)
behind statics [] = map Some statics
behind statics (frame ∷ below) = []

pub record FitsTop (meaning : Meaning) (frame : AbstractFrame) (running : MachineFrame) (more : List (Option Value)) : Type 0 where
  pub method : running.method ≡ frame.method
  pub pc : running.pc ≡ frame.pc
  pub locals : (n id : ℕ) → slice_get frame.locals n ≡ Some (Some id) → slice_get (running.locals ++ more) n ≡ Some (Some (meaning id))
  pub stack : running.stack ≡ map meaning frame.stack

pub record FitFrames (meaning : Meaning) (frame : AbstractFrame) (lower : List AbstractFrame) (statics : List Value)
    (running : MachineFrame) (below : List MachineFrame) : Type 0 where
  pub top : FitsTop meaning frame running (behind statics below)
  pub lower_fit : AllZip (FitsFrame meaning) lower (with_statics statics below)

pub nothing_behind : {A : Type 0} (xs : List A) → xs ++ [] ≡ xs
nothing_behind [] = refl
nothing_behind (x ∷ xs) = ap (λ ys. x ∷ ys) (nothing_behind xs)

pub tops : (meaning : Meaning) (frame : AbstractFrame) (lower : List AbstractFrame) (statics : List Value) (running : MachineFrame)
    (below : List MachineFrame) → AllZip (FitsFrame meaning) (frame ∷ lower) (with_statics statics (running ∷ below))
    → FitFrames meaning frame lower statics running below
tops meaning frame lower statics running [] h = record
    { top = record { method = h.0.method; pc = h.0.pc; locals = h.0.locals; stack = h.0.stack }; lower_fit = h.1 }
tops meaning frame lower statics running (next ∷ rest) h = record {
  top = record {
    method = h.0.method;
    pc = h.0.pc;
    locals = λ n id e. ap (λ (xs : List (Option Value)). slice_get xs n)
        (nothing_behind running.locals) ∙ h.0.locals n id e;
    stack = h.0.stack;
  };
  lower_fit = h.1;
}

pub from_tops : (meaning : Meaning) (frame : AbstractFrame) (lower : List AbstractFrame) (statics : List Value)
    (running : MachineFrame) (below : List MachineFrame) → FitFrames meaning frame lower statics running below
    → AllZip (FitsFrame meaning) (frame ∷ lower) (with_statics statics (running ∷ below))
from_tops meaning frame lower statics running [] h =
    (record { method = h.top.method; pc = h.top.pc; locals = h.top.locals; stack = h.top.stack }, h.lower_fit)
from_tops meaning frame lower statics running (next ∷ rest) h = (
  record {
    method = h.top.method;
    pc = h.top.pc;
    locals = λ n id e. ap (λ (xs : List (Option Value)). slice_get xs n)
        (sym (nothing_behind running.locals)) ∙ h.top.locals n id e;
    stack = h.top.stack;
  },
  h.lower_fit,
)

-- ---- the running frame changes

-- it stands at a place with another stack
pub stacked : (meaning : Meaning) (frame : AbstractFrame) (lower : List AbstractFrame) (statics : List Value)
    (running : MachineFrame) (below : List MachineFrame) (place : ℕ) (ids : List ℕ) (stack : List Value) → stack ≡ map meaning ids
    → FitFrames meaning frame lower statics running below
    → FitFrames meaning (record { method = frame.method; pc = place; locals = frame.locals; stack = ids }) lower statics
    (record { method = running.method; pc = place; locals = running.locals; stack = stack }) below
stacked meaning frame lower statics running below place ids stack e h = record
    { top = record { method = h.top.method; pc = refl; locals = h.top.locals; stack = e }; lower_fit = h.lower_fit }

-- an id is pushed
pub pushed_id : (meaning : Meaning) (frame : AbstractFrame) (lower : List AbstractFrame) (statics : List Value)
    (running : MachineFrame) (below : List MachineFrame) (id : ℕ) (value : Value) → meaning id ≡ value
    → FitFrames meaning frame lower statics running below → FitFrames meaning (record frame { stack = id ∷ frame.stack }) lower
    statics (record running { stack = value ∷ running.stack }) below
pushed_id meaning frame lower statics running below id value e h = record {
  top = record {
    method = h.top.method;
    pc = h.top.pc;
    locals = h.top.locals;
    stack = ap (λ (vs : List Value). value ∷ vs)
        h.top.stack ∙ ap (λ (v : Value). v ∷ map meaning frame.stack) (sym e);
  };
  lower_fit = h.lower_fit;
}

set_local : (locals : List (Option ℕ)) (mine others : List (Option Value)) (n id : ℕ) (value : Value) (m : Meaning)
    → n < length mine → m id ≡ value
    → ((k x : ℕ) → slice_get locals k ≡ Some (Some x) → slice_get (mine ++ others) k ≡ Some (Some (m x))) → (k x : ℕ)
    → slice_get (slice_set locals n (Some id)) k ≡ Some (Some x) → slice_get (slice_set mine n (Some value) ++ others) k ≡ Some
    (Some (m x))
set_local [] mine others n id value m l is h k x e = absurd (none-some (Some x) e)
set_local (a ∷ locals) [] others n id value m l is h k x e = absurd (omega (arith, l))
set_local (a ∷ locals) (b ∷ mine) others zero id value m l is h zero x e = ap (λ (v : Value). Some (Some v))
    (sym is ∙ ap m (some_is (some_is e)))
set_local (a ∷ locals) (b ∷ mine) others zero id value m l is h (suc k) x e = h (suc k) x e
set_local (a ∷ locals) (b ∷ mine) others (suc n) id value m l is h zero x e = h zero x e
set_local (a ∷ locals) (b ∷ mine) others (suc n) id value m l is h (suc k) x e = set_local locals mine others n id value m
    (omega (arith, l)) is (λ j y. h (suc j) y) k x e

-- an id goes into a local
pub local_set : (meaning : Meaning) (frame : AbstractFrame) (lower : List AbstractFrame) (statics : List Value)
    (running : MachineFrame) (below : List MachineFrame) (n id : ℕ) (value : Value) → n < length running.locals → meaning id ≡ value
    → FitFrames meaning frame lower statics running below
    → FitFrames meaning (record frame { locals = slice_set frame.locals n (Some id) }) lower statics
    (record running { locals = slice_set running.locals n (Some value) }) below
local_set meaning frame lower statics running below n id value l e h = record {
  top = record {
    method = h.top.method;
    pc = h.top.pc;
    locals = set_local frame.locals running.locals (behind statics below) n id
        value meaning l e h.top.locals;
    stack = h.top.stack;
  };
  lower_fit = h.lower_fit;
}

-- ---- a static field changes

set_behind : (locals : List (Option ℕ)) (statics : List Value) (place id : ℕ) (value : Value) (m : Meaning) → place < length statics
    → m id ≡ value → ((k x : ℕ) → slice_get locals k ≡ Some (Some x) → slice_get (map Some statics) k ≡ Some (Some (m x)))
    → (k x : ℕ) → slice_get (slice_set locals place (Some id)) k ≡ Some (Some x)
    → slice_get (map Some (slice_set statics place value)) k ≡ Some (Some (m x))
set_behind [] statics place id value m l is h k x e = absurd (none-some (Some x) e)
set_behind (a ∷ locals) [] place id value m l is h k x e = absurd (omega (arith, l))
set_behind (a ∷ locals) (v ∷ statics) zero id value m l is h zero x e = ap (λ (w : Value). Some (Some w))
    (sym is ∙ ap m (some_is (some_is e)))
set_behind (a ∷ locals) (v ∷ statics) zero id value m l is h (suc k) x e = h (suc k) x e
set_behind (a ∷ locals) (v ∷ statics) (suc place) id value m l is h zero x e = h zero x e
set_behind (a ∷ locals) (v ∷ statics) (suc place) id value m l is h (suc k) x e = set_behind locals statics place id value m
    (omega (arith, l)) is (λ j y. h (suc j) y) k x e

set_static : (locals : List (Option ℕ)) (mine : List (Option Value)) (statics : List Value) (n place id : ℕ) (value : Value)
    (m : Meaning) → n ≡ length mine + place → place < length statics → m id ≡ value
    → ((k x : ℕ) → slice_get locals k ≡ Some (Some x) → slice_get (mine ++ map Some statics) k ≡ Some (Some (m x)))
    → (k x : ℕ) → slice_get (slice_set locals n (Some id)) k ≡ Some (Some x)
    → slice_get (mine ++ map Some (slice_set statics place value)) k ≡ Some (Some (m x))
set_static locals [] statics n place id value m at l is h k x e =
    let same : n ≡ place = omega (arith, at) in
    set_behind locals statics place id value m l is h k x (ap (λ (i : ℕ). slice_get (slice_set locals i (Some id)) k) (sym same) ∙ e)
set_static [] (b ∷ mine) statics n place id value m at l is h k x e = absurd (none-some (Some x) e)
set_static (a ∷ locals) (b ∷ mine) statics zero place id value m at l is h k x e = absurd (omega (arith, at))
set_static (a ∷ locals) (b ∷ mine) statics (suc n) place id value m at l is h zero x e = h zero x e
set_static (a ∷ locals) (b ∷ mine) statics (suc n) place id value m at l is h (suc k) x e = set_static locals mine statics n place
    id value m (omega (arith, at)) l is (λ j y. h (suc j) y) k x e

-- the bottom frame of the machine has so many locals
abbrev pub BottomHas : ℕ → List MachineFrame → Type 0
BottomHas count [] = Unit {0}
BottomHas count (frame ∷ []) = length frame.locals ≡ count
BottomHas count (frame ∷ next ∷ rest) = BottomHas count (next ∷ rest)

pub bottom_set : (meaning : Meaning) (statics : List Value) (count place id : ℕ) (value : Value) → place < length statics
    → meaning id ≡ value → (frames : List AbstractFrame) (below : List MachineFrame) → BottomHas count below
    → AllZip (FitsFrame meaning) frames (with_statics statics below)
    → AllZip (FitsFrame meaning) (bottom_with (count + place) id frames) (with_statics (slice_set statics place value) below)
bottom_set meaning statics count place id value l e [] [] b h = h
bottom_set meaning statics count place id value l e (frame ∷ []) [] b h = absurd h
bottom_set meaning statics count place id value l e (frame ∷ caller ∷ lower) [] b h = absurd h
bottom_set meaning statics count place id value l e [] (running ∷ []) b h = absurd h
bottom_set meaning statics count place id value l e [] (running ∷ next ∷ rest) b h = absurd h
bottom_set meaning statics count place id value l e (frame ∷ []) (running ∷ []) b h = (
  record {
    method = h.0.method;
    pc = h.0.pc;
    locals = set_static frame.locals running.locals statics (count + place) place id value meaning
        (ap (λ (c : ℕ). c + place) (sym b)) l e h.0.locals;
    stack = h.0.stack;
  },
  h.1,
)
bottom_set meaning statics count place id value l e (frame ∷ []) (running ∷ next ∷ []) b h = absurd h.1
bottom_set meaning statics count place id value l e (frame ∷ []) (running ∷ next ∷ more ∷ rest) b h = absurd h.1
bottom_set meaning statics count place id value l e (frame ∷ caller ∷ lower) (running ∷ []) b h = absurd h.1
bottom_set meaning statics count place id value l e (frame ∷ caller ∷ lower) (running ∷ next ∷ rest) b h =
    (h.0, bottom_set meaning statics count place id value l e (caller ∷ lower) (next ∷ rest) b h.1)
