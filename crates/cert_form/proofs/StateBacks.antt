-- States are read again.
use Rattle.std.proofs.Common.{◌≡◌, ℕ, suc, ◌<◌, ◌≤◌, Bool, true, List, [], ◌∷◌, ◌++◌, map, reverse, Result, Ok, Option, Some, None}
use Rattle.std.proofs.Common.{All, refl, sym, ap, ◌∙◌, subst, arith}
use Rattle.std.specs.Option.{option_map_or}
use mathlib.Core.List.{reverse-cons}
use Rattle.std.proofs.lemmas.List.{reverse-reverse}
use Rattle.std.proofs.lemmas.List.Elements.{All-nil, All-head, All-tail, All-push}
use Rattle.std.proofs.lemmas.Bool.{cond-true, and_from}
use Rattle.list_views.proofs.Orders.{nat_lt_from, int_le_from}
use Rattle.json_view.specs.Place.{item_pointer}
use Rattle.json_view.specs.Names.{least_unlisted, first_missing}
use Rattle.json_view.specs.Reading.{items_of as count_of, item_of, text_of, flag_of, only_of, field_of}
use Rattle.abs_cells.specs.AbstractStates.{AbstractFrame, AbstractState}
use Rattle.abs_cells.specs.PairLists.{is_before, IsFirst, IsRising}
use Rattle.abs_cells.specs.Sound.{AreIdsRising}
use Rattle.abs_cells.specs.declared.cells.Cell.{Cell}
use Rattle.abs_cells.specs.declared.cells.Cell.TheVariants as cells
use Rattle.jvm_values.specs.declared.types.Kind.{Kind}
use Rattle.jvm_values.specs.declared.types.Ty.{Ty}
use Rattle.jvm_values.specs.declared.shape.Shape.{Shape}
use Rattle.lin_core.specs.declared.intervals.Interval.{Interval as Bounds}
use Rattle.cert_form.specs.declared.fault.CertFault.{CertFault}
use Rattle.cert_form.specs.Fields.{◌>>=◌, of_length, longer_than, nth, a_word, only, field, key_in, next_key, an_id, maybe_id}
use Rattle.cert_form.specs.Cells.{bounds_or, up_to, int_cell, ids_of, obj_cell, nums_cell, refs_cell, unk_cell, keyed_cell, cell_in}
use Rattle.cert_form.specs.States.{is_next_pair, two_ids, ordered_pair, pair_in, locals_of, frame_parts, frame_of, cells_of}
use Rattle.cert_form.specs.States.{frames_of, pairs_of, state_of}
use Rattle.cert_form.specs.cert_write.Data.{natural, integer, naturals, maybe, pair, pairs, list, cell, frame, state}
use Rattle.cert_form.specs.cert_write.Readable.{IsId, IsMaybe, RisesBy, IsCell, IsFrame, IsState}
use Rattle.cert_form.proofs.Backs.{Back, EachBack, then_back, order_back, within_most, a_number_back, a_place_back, id_back}
use Rattle.cert_form.proofs.Backs.{maybe_id_back, an_int_back, most_back, list_back, all_back, rise_back, last_pushed}
use Rattle.cert_form.proofs.WordBacks.{AreNames, type_back, shape_back, kind_back}

-- ---- ids and pairs

pub ids_back : (ids : List ℕ) → All IsId ids → Back ids_of (naturals ids) ids
unfolding ids_of
ids_back ids all place = all_back IsId an_id natural ids id_back all place

pub two_back : (p : ℕ × ℕ) → IsId p.0 → IsId p.1 → Back two_ids (pair p) p
unfolding two_ids nth item_of
two_back p a b place = then_back _ _ p.0 _ (id_back p.0 a _) (then_back _ _ p.1 _ (id_back p.1 b _) refl)

pair_back : (front : List (ℕ × ℕ)) (p : ℕ × ℕ) → is_next_pair front p ≡ true → (p.0 < p.1) × (p.1 < 2048) → Back (pair_in front) (pair p) p
unfolding pair_in of_length count_of ordered_pair
pair_back front p next l place =
    let rises : p.0 < p.1 = l.0 in
    let few : p.1 < 2048 = l.1 in
    let first : IsId p.0 = omega arith in
    then_back _ _ p _ (two_back p first l.1 place)
    (then_back _ _ tt _ (order_back _ (record { value = pair p; place = place }) (and_from _ _ (nat_lt_from p.0 p.1 l.0) next)) refl)

-- the first of these pairs may come behind those
abbrev StandsBehind : List (ℕ × ℕ) → List (ℕ × ℕ) → Type 0
StandsBehind front [] = Unit {0}
StandsBehind front (p ∷ ps) = is_next_pair front p ≡ true

next_stands : (front : List (ℕ × ℕ)) (p : ℕ × ℕ) (ps : List (ℕ × ℕ)) → IsFirst p ps → StandsBehind (front ++ p ∷ []) ps
next_stands front p [] f = tt
next_stands front p (q ∷ ps) f = ap (λ (last : Option (ℕ × ℕ)). option_map_or (λ p. is_before p q) last true) (last_pushed front p) ∙ f

each_pair : (front ps : List (ℕ × ℕ)) → StandsBehind front ps → IsRising ps → EachBack pair_in pair front ps
each_pair front [] b r = tt
each_pair front (p ∷ ps) b r = (pair_back front p b r.0, each_pair (front ++ p ∷ []) ps (next_stands front p ps r.1.0) r.1.1)

first_stands : (ps : List (ℕ × ℕ)) → StandsBehind [] ps
first_stands [] = tt
first_stands (p ∷ ps) = refl

pub pairs_back : (ps : List (ℕ × ℕ)) → IsRising ps → Back pairs_of (pairs ps) ps
unfolding pairs_of
pairs_back ps r place = list_back pair_in pair ps (each_pair [] ps (first_stands ps) r) place

-- ---- cells

int_cell_back : (names : List (List ℕ)) (id : ℕ) (bounds : Bounds) → IsCell names (cells.Int bounds)
    → Back int_cell (cell names (id, cells.Int bounds)) (cells.Int bounds)
unfolding int_cell up_to nth item_of
int_cell_back names id bounds is place =
    then_back _ _ bounds.lo _ (an_int_back bounds.lo is.1.0.0 is.1.0.1 _)
    (then_back _ _ bounds.hi _ (an_int_back bounds.hi is.1.1.0 is.1.1.1 _)
    (ap (λ (o : Option Bounds). bounds_or (record { value = integer bounds.hi; place = item_pointer place 3 }) o)
    (cond-true _ (Some bounds) None (int_le_from bounds.lo bounds.hi is.0))))

abbrev with_id : ℕ → Cell → Result (ℕ × Cell) CertFault
with_id id c = Ok (id, c)

-- an id above those in front, and then the rest of a cell
keyed_back : (names : List (List ℕ)) (front : List (ℕ × Cell)) (id : ℕ) (c : Cell) (place : List ℕ) (rest : Result Cell CertFault)
    → next_key front ≤ id → id < 2048 → rest ≡ Ok c
    → (an_id (record { value = natural id; place = item_pointer place 0 }) >>= λ n. key_in front n
    (record { value = cell names (id, c); place = place }) >>= λ order. rest >>= λ cell. with_id n cell) ≡ with_id id c
keyed_back names front id c place rest next l e =
    then_back _ _ id _ (id_back id l (item_pointer place 0))
    (then_back _ _ tt _ (order_back _ (record { value = cell names (id, c); place = place })
    (within_most (next_key front) id next)) (then_back _ _ c _ e refl))

obj_cell_back : (names : List (List ℕ)) (id class : ℕ) (ids : List ℕ) → IsCell names (cells.Obj class ids)
    → Back obj_cell (cell names (id, cells.Obj class ids)) (cells.Obj class ids)
unfolding obj_cell nth item_of
obj_cell_back names id class ids is place = then_back _ _ class _ (a_number_back class is.0 _)
    (then_back _ _ ids _ (ids_back ids is.1 _) refl)

nums_cell_back : (names : List (List ℕ)) (id : ℕ) (kind : Kind) (len : ℕ) → IsId len
    → Back nums_cell (cell names (id, cells.Nums kind len)) (cells.Nums kind len)
unfolding nums_cell nth item_of
nums_cell_back names id kind len is place = then_back _ _ kind _ (kind_back kind _) (then_back _ _ len _ (id_back len is _) refl)

refs_cell_back : (names : List (List ℕ)) (id : ℕ) (element : Ty) (len : ℕ) (shape : Shape) → AreNames names
    → IsCell names (cells.Refs element len shape) → Back (refs_cell names) (cell names (id, cells.Refs element len shape))
    (cells.Refs element len shape)
unfolding refs_cell nth item_of
refs_cell_back names id element len shape all is place = then_back _ _ element _ (type_back names element all is.0 _)
    (then_back _ _ len _ (id_back len is.1 _) (then_back _ _ shape _ (shape_back shape _) refl))

unk_cell_back : (names : List (List ℕ)) (id : ℕ) (bound : Ty) (nullable : Bool) (shape : Shape) → AreNames names
    → IsCell names (cells.Unk bound nullable shape) → Back (unk_cell names) (cell names (id, cells.Unk bound nullable shape))
    (cells.Unk bound nullable shape)
unfolding unk_cell nth item_of flag_of
unk_cell_back names id bound nullable shape all is place = then_back _ _ bound _ (type_back names bound all is _)
    (then_back _ _ shape _ (shape_back shape _) refl)

cell_by : (names : List (List ℕ)) (front : List (ℕ × Cell)) (id : ℕ) (c : Cell) → AreNames names → next_key front ≤ id → id < 2048
    → IsCell names c → Back (cell_in names front) (cell names (id, c)) (id, c)
unfolding cell_in longer_than count_of nth item_of a_word text_of of_length keyed_cell
cell_by names front id (cells.Int bounds) all next l is place = keyed_back names front id (cells.Int bounds) place _ next l
    (int_cell_back names id bounds is place)
cell_by names front id cells.Null all next l is place = keyed_back names front id cells.Null place (Ok cells.Null) next l refl
cell_by names front id (cells.Obj class ids) all next l is place = keyed_back names front id (cells.Obj class ids) place _ next l
    (obj_cell_back names id class ids is place)
cell_by names front id (cells.Nums kind len) all next l is place = keyed_back names front id (cells.Nums kind len) place _ next l
    (nums_cell_back names id kind len is place)
cell_by names front id (cells.Refs element len shape) all next l is place = keyed_back names front id (cells.Refs element len shape)
    place _ next l (refs_cell_back names id element len shape all is place)
cell_by names front id (cells.Unk bound nullable shape) all next l is place = keyed_back names front id
    (cells.Unk bound nullable shape) place _ next l (unk_cell_back names id bound nullable shape all is place)

cell_back : (names : List (List ℕ)) (front : List (ℕ × Cell)) (c : ℕ × Cell) → AreNames names → next_key front ≤ c.0 → c.0 < 2048
    → IsCell names c.1 → Back (cell_in names front) (cell names c) c
cell_back names front c all next l is = cell_by names front c.0 c.1 all next l is

ids_rise : (low : ℕ) (cs : List (ℕ × Cell)) → AreIdsRising low cs → RisesBy (λ c. c.0) low 2048 cs
ids_rise low [] rise = tt
ids_rise low (c ∷ cs) rise = (rise.0, (rise.1.0, ids_rise (suc c.0) cs rise.1.1))

cells_back : (names : List (List ℕ)) (s : AbstractState) → AreNames names → IsState names s
    → Back (cells_of names) (list (map (cell names) s.cells)) s.cells
unfolding cells_of
cells_back names s all is place =
    most_back 512 _ (cell names) s.cells s.cells is.few
    (rise_back (λ (c : ℕ × Cell). c.0) (λ (c : ℕ × Cell). IsCell names c.1) (cell_in names) (cell names) 2048 s.cells
    (λ front c next l is. cell_back names front c all next l is) (ids_rise 0 s.cells is.rise) is.cells) place

-- ---- frames

all_reversed : {A : Type 0} (P : A → Type 0) (xs : List A) → All P xs → All P (reverse xs)
all_reversed P [] all = All-nil P
all_reversed P (x ∷ xs) all = subst (λ (ys : List _). All P ys) (sym (reverse-cons x xs))
    (All-push P (reverse xs) x (all_reversed P xs (All-tail P x xs all)) (All-head P x xs all))

frame_back : (f : AbstractFrame) → IsFrame f → Back frame_of (frame f) f
unfolding frame_of of_length count_of frame_parts nth item_of locals_of
frame_back f is place =
    then_back _ _ f.method _ (a_number_back f.method is.method _)
    (then_back _ _ f.pc _ (a_place_back f.pc is.pc _)
    (then_back _ _ f.locals _ (all_back (IsMaybe IsId) maybe_id maybe f.locals maybe_id_back is.locals _)
    (then_back _ _ (reverse f.stack) _ (ids_back (reverse f.stack) (all_reversed IsId f.stack is.stack) _)
    (ap (λ (stack : List ℕ). Ok (record { method = f.method; pc = f.pc; locals = f.locals; stack = stack })) (reverse-reverse f.stack)))))

frames_back : (fs : List AbstractFrame) → All IsFrame fs → Back frames_of (list (map frame (reverse fs))) (reverse fs)
unfolding frames_of
frames_back fs all place = all_back IsFrame frame_of frame (reverse fs) frame_back (all_reversed IsFrame fs all) place

-- ---- states

pub state_back : (names : List (List ℕ)) (s : AbstractState) → AreNames names → IsState names s → Back (state_of names) (state names s) s
unfolding state_of only only_of least_unlisted first_missing field field_of
state_back names s all is place =
    then_back _ _ s.cells _ (cells_back names s all is _)
    (then_back _ _ s.eq _ (pairs_back s.eq is.eq _)
    (then_back _ _ (reverse s.frames) _ (frames_back s.frames is.frames _)
    (then_back _ _ s.share _ (pairs_back s.share is.share _)
    (then_back _ _ s.throwing _ (maybe_id_back s.throwing is.throwing _)
    (ap (λ (frames : List AbstractFrame). Ok
    (record { frames = frames; throwing = s.throwing; cells = s.cells; eq = s.eq; share = s.share }))
    (reverse-reverse s.frames))))))
