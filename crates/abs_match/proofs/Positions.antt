-- Positions of two states that agree: from places, numbered from the bottom, to frames and stacks from the top down.
use Rattle.std.proofs.Common.{◌≡◌, ℕ, zero, suc, ◌+◌, ◌-◌, ◌<◌, ◌≤◌, List, [], ◌∷◌, length, map, reverse, get_or, Option, Some}
use Rattle.std.proofs.Common.{None, slice_get, refl, sym, ap, subst, ◌∙◌, arith}
use Rattle.std.proofs.lemmas.List.{get_or-reverse, length-reverse, reverse-reverse, length-map}
use Rattle.std.proofs.lemmas.Option.{slice_get-get_or, get_or_from_slice_get, slice_get_within, slice_get-map}
use Rattle.std.specs.Option.{option_and_then, option_map}
use Rattle.std.specs.List.{AllZip}
use Rattle.list_views.proofs.Options.{then_some}
use Rattle.jvm_values.proofs.Options.{some_is}
use Rattle.abs_cells.specs.AbstractStates.{AbstractFrame, AbstractState}
use Rattle.abs_reach.specs.Instances.{image_in, Place, local, entry, frame_at, id_at, FrameHead, head_of}

-- an item from the top is one from the bottom, and the other way round
pub from_bottom : {X : Type 0} (xs : List X) (n : ℕ) (x : X) → slice_get xs n ≡ Some x
    → slice_get (reverse xs) (length xs - 1 - n) ≡ Some x
from_bottom xs n x e =
    let low : n < length xs = slice_get_within xs n x e in
    let k : ℕ = length xs - 1 - n in
    let there : slice_get (reverse xs) k ≡ Some (get_or (reverse xs) k x) = slice_get-get_or (reverse xs) k x
    (rw (length-reverse xs) (omega (arith, low))) in
    let same : get_or (reverse xs) k x ≡ get_or xs (length xs - 1 - k) x = get_or-reverse xs k x (omega (arith, low)) in
    let back : length xs - 1 - k ≡ n = omega (arith, low) in
    there ∙ ap Some (same ∙ ap (λ (i : ℕ). get_or xs i x) back ∙ get_or_from_slice_get xs n x x e)

pub from_top : {X : Type 0} (xs : List X) (n : ℕ) (x : X) → slice_get (reverse xs) n ≡ Some x → slice_get xs (length xs - 1 - n) ≡ Some x
from_top {X = X} xs n x e = subst (λ (ys : List X). slice_get ys (length xs - 1 - n) ≡ Some x) (reverse-reverse xs)
    (subst (λ (k : ℕ). slice_get (reverse (reverse xs)) (k - 1 - n) ≡ Some x) (length-reverse xs) (from_bottom (reverse xs) n x e))

-- what a frame of the target asks of the state's frame: each local with an id has its image, and so has each stack entry
pub record IsFrameUnder (entries : List (ℕ × ℕ)) (frame target : AbstractFrame) : Type 0 where
  pub head : head_of frame ≡ head_of target
  pub locals : (n id : ℕ) → slice_get target.locals n ≡ Some (Some id)
      → (image : ℕ) × ((image_in entries id ≡ Some image) × (slice_get frame.locals n ≡ Some (Some image)))
  pub stack : (n id : ℕ) → slice_get target.stack n ≡ Some id
      → (image : ℕ) × ((image_in entries id ≡ Some image) × (slice_get frame.stack n ≡ Some image))

-- two lists of one length, related place by place
pub zipped : {A B : Type 0} (R : A → B → Type 0) (xs : List A) (ys : List B) → length xs ≡ length ys
    → ((n : ℕ) (x : A) (y : B) → slice_get xs n ≡ Some x → slice_get ys n ≡ Some y → R x y) → AllZip R xs ys
zipped R [] [] l h = tt
zipped R [] (y ∷ ys) l h = absurd (omega (arith, l))
zipped R (x ∷ xs) [] l h = absurd (omega (arith, l))
zipped R (x ∷ xs) (y ∷ ys) l h = (h 0 x y refl refl, zipped R xs ys (omega (arith, l)) (λ n a b e f. h (suc n) a b e f))

-- the items of two lists have the same values
pub same_maps : {X : Type 0} (f g : ℕ → X) (xs ys : List ℕ) → length ys ≡ length xs
    → ((n x : ℕ) → slice_get xs n ≡ Some x → (y : ℕ) × ((f x ≡ g y) × (slice_get ys n ≡ Some y))) → map f xs ≡ map g ys
same_maps f g [] [] l h = refl
same_maps f g [] (y ∷ ys) l h = absurd (omega (arith, l))
same_maps f g (x ∷ xs) [] l h = absurd (omega (arith, l))
same_maps f g (x ∷ xs) (y ∷ ys) l h =
    let first = h 0 x refl in
    let one : f x ≡ g y = first.1.0 ∙ ap g (sym (some_is first.1.1)) in
    ap (λ z. z ∷ map f xs) one ∙ ap (λ zs. g y ∷ zs) (same_maps f g xs ys (omega (arith, l)) (λ n a e. h (suc n) a e))

module _ (state target : AbstractState) (entries : List (ℕ × ℕ)) (heads : map head_of state.frames ≡ map head_of target.frames)
    (meets : (id : ℕ) (place : Place) → id_at target place ≡ Some id
    → (image : ℕ) × ((image_in entries id ≡ Some image) × (id_at state place ≡ Some image))) where
  pub as_many : length state.frames ≡ length target.frames
  as_many = sym (length-map state.frames head_of) ∙ ap (λ (hs : List FrameHead). length hs) heads ∙ length-map target.frames head_of

  pub frame_under : (n : ℕ) (frame under : AbstractFrame) → slice_get state.frames n ≡ Some frame
      → slice_get target.frames n ≡ Some under → IsFrameUnder entries frame under
  frame_under n frame under e f = record { head = head; locals = locals; stack = stack }
    where
      k : ℕ
      k = length target.frames - 1 - n

      in_target : frame_at target k ≡ Some under
      in_target = from_bottom target.frames n under f

      in_state : frame_at state k ≡ Some frame
      in_state = subst (λ (l : ℕ). slice_get (reverse state.frames) (l - 1 - n) ≡ Some frame) as_many (from_bottom state.frames n frame e)

      head : head_of frame ≡ head_of under
      head = some_is (sym (ap (option_map head_of) e) ∙ sym (slice_get-map head_of state.frames n)
          ∙ ap (λ (hs : List FrameHead). slice_get hs n) heads ∙ slice_get-map head_of target.frames n ∙ ap (option_map head_of) f)

      local_of : Option AbstractFrame → ℕ → Option ℕ
      local_of found m = option_and_then (λ (g : AbstractFrame). option_and_then (λ (id : Option ℕ). id) (slice_get g.locals m)) found

      locals : (m id : ℕ) → slice_get under.locals m ≡ Some (Some id)
          → (image : ℕ) × ((image_in entries id ≡ Some image) × (slice_get frame.locals m ≡ Some (Some image)))
      locals m id h =
          let stands : id_at target (local k m) ≡ Some id = ap (λ (found : Option AbstractFrame). local_of found m) in_target
          ∙ ap (option_and_then (λ (x : Option ℕ). x)) h in
          let got = meets id (local k m) stands in
          let there : option_and_then (λ (x : Option ℕ). x) (slice_get frame.locals m) ≡ Some got.0 = sym
          (ap (λ (found : Option AbstractFrame). local_of found m) in_state) ∙ got.1.1 in
          let one = then_some (λ (x : Option ℕ). x) (slice_get frame.locals m) got.0 there in
          (got.0, (got.1.0, one.1.0 ∙ ap Some one.1.1))

      entry_of : Option AbstractFrame → ℕ → Option ℕ
      entry_of found m = option_and_then (λ (g : AbstractFrame). slice_get (reverse g.stack) m) found

      depth : length frame.stack ≡ length under.stack
      depth = ap (λ (h : FrameHead). h.depth) head

      stack : (m id : ℕ) → slice_get under.stack m ≡ Some id
          → (image : ℕ) × ((image_in entries id ≡ Some image) × (slice_get frame.stack m ≡ Some image))
      stack m id h =
          let low : m < length under.stack = slice_get_within under.stack m id h in
          let j : ℕ = length under.stack - 1 - m in
          let stands : id_at target (entry k j) ≡ Some id = ap (λ (found : Option AbstractFrame). entry_of found j) in_target
          ∙ from_bottom under.stack m id h in
          let got = meets id (entry k j) stands in
          let there : slice_get (reverse frame.stack) j ≡ Some got.0 = sym
          (ap (λ (found : Option AbstractFrame). entry_of found j) in_state) ∙ got.1.1 in
          let place : length frame.stack - 1 - j ≡ m = ap (λ (l : ℕ). l - 1 - j) depth ∙ omega (arith, low) in
          (got.0, (got.1.0, subst (λ (i : ℕ). slice_get frame.stack i ≡ Some got.0) place (from_top frame.stack j got.0 there)))
