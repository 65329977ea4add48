-- The ids at the positions of a widening stand for the pairs at those of the two states.
use Rattle.std.proofs.Common.{◌≡◌, ℕ, zero, suc, Bool, true, false, List, [], ◌∷◌, map, zip, reverse, length, Option, Some, None}
use Rattle.std.proofs.Common.{refl, sym, ap, subst, ◌∙◌, arith}
use Rattle.std.specs.Prelude.{slice_get, if◌then◌else◌}
use Rattle.std.specs.List.{AllZip, flat_map}
use Rattle.std.specs.Option.{option_and_then, option_map}
use Rattle.std.proofs.lemmas.List.{length-map}
use Rattle.std.proofs.lemmas.Option.{slice_get-map, none-some}
use Rattle.std.proofs.lemmas.List.Elements.{length_all_zip}
use Rattle.list_views.proofs.Zipped.{zip_at}
use Rattle.list_views.proofs.Items.{map_reversed}
use Rattle.list_views.proofs.Options.{map_some, then_some}
use Rattle.jvm_values.proofs.Options.{some_is}
use Rattle.abs_cells.specs.AbstractStates.{AbstractFrame, AbstractState}
use Rattle.abs_reach.specs.Instances.{Place, local, entry, frame_at, id_at, FrameHead, head_of, is_thrown}
use Rattle.abs_widen.specs.Visits.{is_among, are_alike, local_pair, some_in, local_pairs, frame_pairs, frames_pairs, thrown_pair, ArePairs}
use Rattle.abs_widen.specs.inner.Visiting.{AreAsLong}
use Rattle.abs_widen.specs.Widening.{number_of, merged_locals, merged_frame, merged_frames, AreFramesAlike}
use Rattle.abs_widen.proofs.Closed.{among_front, among_back, among_first, positions_among, among_at}
use Rattle.abs_widen.proofs.Zips.{zip_reversed, all_reversed}

-- ---- items of lists

mapped_at : {A B : Type 0} (f : A → B) (xs : List A) (n : ℕ) (y : B) → slice_get (map f xs) n ≡ Some y
    → (x : A) × ((slice_get xs n ≡ Some x) × (f x ≡ y))
mapped_at f xs n y e = map_some f (slice_get xs n) y (sym (slice_get-map f xs n) ∙ e)

zipped_at : {A B : Type 0} (xs : List A) (ys : List B) (n : ℕ) (z : A × B) → slice_get (zip xs ys) n ≡ Some z
    → (slice_get xs n ≡ Some z.0) × (slice_get ys n ≡ Some z.1)
zipped_at [] ys n z e = absurd (none-some z e)
zipped_at (x ∷ xs) [] n z e = absurd (none-some z e)
zipped_at {A} {B} (x ∷ xs) (y ∷ ys) zero z e = (ap (λ (p : A × B). Some p.0) (some_is e), ap (λ (p : A × B). Some p.1) (some_is e))
zipped_at (x ∷ xs) (y ∷ ys) (suc n) z e = zipped_at xs ys n z e

among_flat : {X : Type 0} (f : X → List (ℕ × ℕ)) (xs : List X) (n : ℕ) (x : X) (p : ℕ × ℕ) → slice_get xs n ≡ Some x
    → is_among p (f x) ≡ true → is_among p (flat_map f xs) ≡ true
among_flat f [] n x p e h = absurd (none-some x e)
among_flat f (y ∷ xs) zero x p e h = among_front p (f y) (flat_map f xs) (ap (λ (z : _). is_among p (f z)) (some_is e) ∙ h)
among_flat f (y ∷ xs) (suc n) x p e h = among_back p (f y) (flat_map f xs) (among_flat f xs n x p e h)

-- ---- heads of frames

module _ (a b : AbstractState) (pairs : List (ℕ × ℕ)) where
  zip_long : {A B : Type 0} (xs : List A) (ys : List B) → length xs ≡ length ys → length (zip xs ys) ≡ length xs
  zip_long [] ys e = refl
  zip_long (x ∷ xs) [] e = absurd (omega (arith, e))
  zip_long (x ∷ xs) (y ∷ ys) e = ap suc (zip_long xs ys (omega (arith, e)))

  head_is : (f o : AbstractFrame) → AreFramesAlike a b f o → head_of f ≡ head_of (merged_frame a b pairs f o)
  head_is f o h =
      let long = length_all_zip (λ x y. are_alike a b x y ≡ true) f.stack o.stack h.stacks in
      ap (λ (d : ℕ). record { method = f.method; pc = f.pc; depth = d })
      (sym (length-map (zip f.stack o.stack) (number_of pairs) ∙ zip_long f.stack o.stack long))

  pub first_heads : (frames others : List AbstractFrame) → AllZip (AreFramesAlike a b) frames others
      → map head_of frames ≡ map head_of (merged_frames a b pairs frames others)
  first_heads [] [] h = refl
  first_heads [] (o ∷ others) h = absurd h
  first_heads (f ∷ frames) [] h = absurd h
  first_heads (f ∷ frames) (o ∷ others) h =
      ap (λ (x : FrameHead). x ∷ map head_of frames) (head_is f o h.0)
      ∙ ap (λ (rest : List FrameHead). head_of (merged_frame a b pairs f o) ∷ rest) (first_heads frames others h.1)

  pub same_heads : (frames others : List AbstractFrame) → AllZip (AreFramesAlike a b) frames others
      → map head_of others ≡ map head_of frames
  same_heads [] [] h = refl
  same_heads [] (o ∷ others) h = absurd h
  same_heads (f ∷ frames) [] h = absurd h
  same_heads (f ∷ frames) (o ∷ others) h =
      ap (λ (x : FrameHead). x ∷ map head_of others) (sym h.0.heads) ∙ ap (λ (rest : List FrameHead). head_of f ∷ rest)
      (same_heads frames others h.1)

-- ---- the thrown ids

pub thrown_same : (pairs : List (ℕ × ℕ)) (x y : Option ℕ) → is_thrown x ≡ is_thrown y
    → is_thrown x ≡ is_thrown (option_map (number_of pairs) (thrown_pair x y))
thrown_same pairs None y e = refl
thrown_same pairs (Some x) None e = e
thrown_same pairs (Some x) (Some y) e = refl

thrown_is : (x y : Option ℕ) (p : ℕ × ℕ) → thrown_pair x y ≡ Some p → (x ≡ Some p.0) × (y ≡ Some p.1)
thrown_is None y p e = absurd (none-some p e)
thrown_is (Some x) None p e = absurd (none-some p e)
thrown_is (Some x) (Some y) p e = (ap (λ (q : ℕ × ℕ). Some q.0) (some_is e), ap (λ (q : ℕ × ℕ). Some q.1) (some_is e))

local_is : (a b : AbstractState) (x y : Option ℕ) (p : ℕ × ℕ) → local_pair a b x y ≡ Some p → (x ≡ Some p.0) × (y ≡ Some p.1)
local_is a b None y p e = absurd (none-some p e)
local_is a b (Some x) None p e = absurd (none-some p e)
local_is a b (Some x) (Some y) p e = go (are_alike a b x y) e
  where
    go : (t : Bool) → (if t then Some (x, y) else None) ≡ Some p → (Some x ≡ Some p.0) × (Some y ≡ Some p.1)
    go true f = (ap (λ (q : ℕ × ℕ). Some q.0) (some_is f), ap (λ (q : ℕ × ℕ). Some q.1) (some_is f))
    go false f = absurd (none-some p f)

-- ---- places

-- an id stands for a pair that stands there
pub record StandsFor (pairs : List (ℕ × ℕ)) (first second : Option ℕ) (id : ℕ) : Type 0 where
  pub pair : ℕ × ℕ
  pub number : number_of pairs pair ≡ id
  pub among : is_among pair pairs ≡ true
  pub first_is : first ≡ Some pair.0
  pub second_is : second ≡ Some pair.1

module _ (a b result : AbstractState) (pairs : List (ℕ × ℕ)) (are : ArePairs a b pairs) (long : AllZip AreAsLong a.frames b.frames) where
  module _ (frames_are : result.frames ≡ merged_frames a b pairs a.frames b.frames) where
    abbrev both_frames : List (AbstractFrame × AbstractFrame)
    both_frames = zip (reverse a.frames) (reverse b.frames)

    frames_turned : reverse result.frames ≡ map (λ both. merged_frame a b pairs both.0 both.1) both_frames
    frames_turned =
        ap reverse frames_are ∙ sym (map_reversed (λ both. merged_frame a b pairs both.0 both.1) (zip a.frames b.frames))
        ∙ ap (map (λ both. merged_frame a b pairs both.0 both.1))
        (sym (zip_reversed a.frames b.frames (length_all_zip AreAsLong a.frames b.frames long)))

    -- a frame of the widening is made of two
    frame_from : (f : ℕ) (frame : AbstractFrame) → frame_at result f ≡ Some frame → (both : AbstractFrame × AbstractFrame)
        × ((slice_get both_frames f ≡ Some both) × (merged_frame a b pairs both.0 both.1 ≡ frame))
    frame_from f frame e = mapped_at (λ both. merged_frame a b pairs both.0 both.1) both_frames f frame
        (ap (λ (fs : List AbstractFrame). slice_get fs f) (sym frames_turned) ∙ e)

    frame_among : (f : ℕ) (both : AbstractFrame × AbstractFrame) (p : ℕ × ℕ) → slice_get both_frames f ≡ Some both
        → is_among p (frame_pairs a b both.0 both.1) ≡ true → is_among p pairs ≡ true
    frame_among f both p e h =
        positions_among a b pairs are p
        (among_front p (frames_pairs a b (reverse a.frames) (reverse b.frames)) (some_in (thrown_pair a.throwing b.throwing))
        (among_flat (λ x. frame_pairs a b x.0 x.1) both_frames f both p e h))

    abbrev local_in : ℕ → Option AbstractFrame → Option ℕ
    local_in n o = option_and_then (λ frame. option_and_then (λ id. id) (slice_get frame.locals n)) o

    abbrev entry_in : ℕ → Option AbstractFrame → Option ℕ
    entry_in n o = option_and_then (λ frame. slice_get (reverse frame.stack) n) o

    local_stands : (f n id : ℕ) → id_at result (local f n) ≡ Some id → StandsFor pairs (id_at a (local f n)) (id_at b (local f n)) id
    local_stands f n id e =
        let frame = then_some (λ (g : AbstractFrame). option_and_then (λ (x : Option ℕ). x) (slice_get g.locals n))
        (frame_at result f) id e in
        let found = then_some (λ (x : Option ℕ). x) (slice_get frame.0.locals n) id frame.1.1 in
        let from = frame_from f frame.0 frame.1.0 in
        let there : slice_get (merged_locals a b pairs from.0.0.locals from.0.1.locals) n ≡ Some (Some id) =
        ap (λ (g : AbstractFrame). slice_get g.locals n) from.1.1 ∙ found.1.0 ∙ ap Some found.1.1 in
        let local = mapped_at (λ both. option_map (number_of pairs) (local_pair a b both.0 both.1))
        (zip from.0.0.locals from.0.1.locals) n (Some id) there in
        let pair = map_some (number_of pairs) (local_pair a b local.0.0 local.0.1) id local.1.1 in
        let ids = local_is a b local.0.0 local.0.1 pair.0 pair.1.0 in
        let sides = zipped_at from.0.0.locals from.0.1.locals n local.0 local.1.0 in
        let frames = zipped_at (reverse a.frames) (reverse b.frames) f from.0 from.1.0 in
        record {
          pair = pair.0;
          number = pair.1.1;
          among = frame_among f from.0 pair.0 from.1.0
              (among_front pair.0 (local_pairs a b from.0.0.locals from.0.1.locals) (zip (reverse from.0.0.stack) (reverse from.0.1.stack))
              (among_flat (λ both. some_in (local_pair a b both.0 both.1)) (zip from.0.0.locals from.0.1.locals) n local.0 pair.0 local.1.0
              (ap (λ (o : Option (ℕ × ℕ)). is_among pair.0 (some_in o)) pair.1.0 ∙ among_first pair.0 pair.0 [] refl)));
          first_is = ap (local_in n) frames.0 ∙ ap (option_and_then (λ (x : Option ℕ). x)) sides.0 ∙ ids.0;
          second_is = ap (local_in n) frames.1 ∙ ap (option_and_then (λ (x : Option ℕ). x)) sides.1 ∙ ids.1;
        }

    entry_stands : (f n id : ℕ) → id_at result (entry f n) ≡ Some id → StandsFor pairs (id_at a (entry f n)) (id_at b (entry f n)) id
    entry_stands f n id e =
        let frame = then_some (λ (g : AbstractFrame). slice_get (reverse g.stack) n) (frame_at result f) id e in
        let from = frame_from f frame.0 frame.1.0 in
        let frames = zipped_at (reverse a.frames) (reverse b.frames) f from.0 from.1.0 in
        let as_long = zip_at AreAsLong (reverse a.frames) (reverse b.frames) f from.0.0 from.0.1
        (all_reversed AreAsLong a.frames b.frames long) frames.0 frames.1 in
        let turned : reverse (map (number_of pairs) (zip from.0.0.stack from.0.1.stack)) ≡ map (number_of pairs)
        (zip (reverse from.0.0.stack) (reverse from.0.1.stack)) =
        sym (map_reversed (number_of pairs) (zip from.0.0.stack from.0.1.stack))
        ∙ ap (map (number_of pairs)) (sym (zip_reversed from.0.0.stack from.0.1.stack as_long.stacks)) in
        let there : slice_get (map (number_of pairs) (zip (reverse from.0.0.stack) (reverse from.0.1.stack))) n ≡ Some id =
        ap (λ (l : List ℕ). slice_get l n) (sym turned) ∙ ap (λ (g : AbstractFrame). slice_get (reverse g.stack) n) from.1.1 ∙ frame.1.1 in
        let pair = mapped_at (number_of pairs) (zip (reverse from.0.0.stack) (reverse from.0.1.stack)) n id there in
        let sides = zipped_at (reverse from.0.0.stack) (reverse from.0.1.stack) n pair.0 pair.1.0 in
        record {
          pair = pair.0;
          number = pair.1.1;
          among = frame_among f from.0 pair.0 from.1.0
              (among_back pair.0 (local_pairs a b from.0.0.locals from.0.1.locals) (zip (reverse from.0.0.stack) (reverse from.0.1.stack))
              (among_at (zip (reverse from.0.0.stack) (reverse from.0.1.stack)) n pair.0 pair.1.0));
          first_is = ap (entry_in n) frames.0 ∙ sides.0;
          second_is = ap (entry_in n) frames.1 ∙ sides.1;
        }

    pub stands_for : (place : Place) (id : ℕ) → id_at result place ≡ Some id → StandsFor pairs (id_at a place) (id_at b place) id
    stands_for (local f n) id e = local_stands f n id e
    stands_for (entry f n) id e = entry_stands f n id e

  pub thrown_stands : result.throwing ≡ option_map (number_of pairs) (thrown_pair a.throwing b.throwing) → (id : ℕ)
      → result.throwing ≡ Some id → StandsFor pairs a.throwing b.throwing id
  thrown_stands is id e =
      let pair = map_some (number_of pairs) (thrown_pair a.throwing b.throwing) id (sym is ∙ e) in
      let ids = thrown_is a.throwing b.throwing pair.0 pair.1.0 in
      record {
        pair = pair.0;
        number = pair.1.1;
        among =
            positions_among a b pairs are pair.0
            (among_back pair.0 (frames_pairs a b (reverse a.frames) (reverse b.frames)) (some_in (thrown_pair a.throwing b.throwing))
            (ap (λ (o : Option (ℕ × ℕ)). is_among pair.0 (some_in o)) pair.1.0 ∙ among_first pair.0 pair.0 [] refl));
        first_is = ids.0;
        second_is = ids.1;
      }
