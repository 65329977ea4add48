-- Superclass chains and the fields of objects.
use Rattle.std.proofs.Common.{◌≡◌, ◌++◌, ◌-◌, ℕ, suc, ◌+◌, ◌<◌, ◌≤◌, List, [], ◌∷◌, length, get_or, Option, Some, None, sym, refl}
use Rattle.std.proofs.Common.{ap, ◌∙◌, arith, append_assoc, append-nil}
use Rattle.std.specs.Prelude.{map, reverse}
use Rattle.std.specs.List.{filter_map, flat_map}
use Rattle.std.proofs.lemmas.List.{reverse-append}
use Rattle.std.proofs.lemmas.List.Concat.{flat_map-cons}
use Rattle.std.proofs.lemmas.Option.{slice_get_past}
use Rattle.std.specs.Option.{option_map_or}
use Rattle.class_read.specs.Content.{ClassContent}
use Rattle.class_read.specs.declared.view.FieldView.{FieldView}
use Rattle.class_read.specs.View.{field_content}
use Rattle.jvm_values.specs.declared.types.Slot.{Slot}
use Rattle.class_world.specs.World.{World, line_from}
use Rattle.class_world.specs.Fields.{field_slot, own_slots}
use Rattle.class_world.specs.inner.Tables.{values_to}
use Rattle.class_world.proofs.Tables.{class_at, length-values, get_or-values}
use Rattle.class_world.proofs.Maps.{filter_map_map}

pub own_from : (world : World) (class : ℕ) (c : ClassContent) (inside fields : List FieldView) → class < length world
    → c ≡ get_or world class c → map field_content inside ≡ c.fields → fields ≡ inside
    → filter_map (λ f. field_slot world (field_content f)) fields ≡ own_slots world class
unfolding own_slots
own_from world class c inside fields l e p q =
    ap (filter_map (λ f. field_slot world (field_content f))) q
    ∙ sym (filter_map_map (field_slot world) field_content inside)
    ∙ ap (filter_map (field_slot world)) p
    ∙ ap (λ o. option_map_or (λ x. filter_map (field_slot world) x.fields) o []) (sym (class_at world class c l e))

abbrev pub rest_of_line : (ℕ → Option ℕ) → ℕ → Option ℕ → List ℕ
rest_of_line super k next = option_map_or (line_from super k) next []

-- one more class of a chain
pub line_more : (super : ℕ → Option ℕ) (line more all : List ℕ) (n i here : ℕ) (next next' : Option ℕ) → i < n
    → line ++ rest_of_line super (n - i) next ≡ all → next ≡ Some here → more ≡ line ++ here ∷ [] → next' ≡ super here
    → more ++ rest_of_line super (n - (i + 1)) next' ≡ all
line_more super line more all n i here next next' l e s m q =
    let k : n - i ≡ suc (n - (i + 1)) = omega arith in
    let a : rest_of_line super (n - i) next ≡ here ∷ rest_of_line super (n - (i + 1)) (super here) = ap
    (λ x. rest_of_line super x next) k ∙ ap (rest_of_line super (suc (n - (i + 1)))) s in
    ap (λ xs. xs ++ rest_of_line super (n - (i + 1)) next') m
    ∙ ap (λ o. (line ++ here ∷ []) ++ rest_of_line super (n - (i + 1)) o) q
    ∙ append_assoc line (here ∷ []) (rest_of_line super (n - (i + 1)) (super here))
    ∙ ap (λ xs. line ++ xs) (sym a) ∙ e

pub line_over : (super : ℕ → Option ℕ) (line all : List ℕ) (k j : ℕ) (next : Option ℕ) → line ++ rest_of_line super k next ≡ all
    → next ≡ None → line ++ rest_of_line super j next ≡ all
line_over super line all k j next e s =
    ap (λ o. line ++ rest_of_line super j o) s ∙ ap (λ o. line ++ rest_of_line super k o) (sym s) ∙ e

pub line_end : (super : ℕ → Option ℕ) (line all : List ℕ) (n i : ℕ) (next : Option ℕ) → n ≤ i
    → line ++ rest_of_line super (n - i) next ≡ all → line ≡ all
line_end super line all n i next l e =
    let k : n - i ≡ 0 = omega arith in
    sym (append-nil line) ∙ ap (λ xs. line ++ xs) (sym (ap (λ x. rest_of_line super x next) k ∙ none next)) ∙ e
  where
    none : (o : Option ℕ) → rest_of_line super 0 o ≡ []
    none None = refl
    none (Some x) = refl

pub line_start : (super : ℕ → Option ℕ) (line : List ℕ) (n class : ℕ) → line ≡ []
    → line ++ rest_of_line super (n - 0) (Some class) ≡ line_from super n class
line_start super line n class e =
    let k : n - 0 ≡ n = omega arith in
    ap (λ xs. xs ++ rest_of_line super (n - 0) (Some class)) e ∙ ap (λ x. line_from super x class) k

pub own_row : (world : World) (own : List (List Slot)) (class : ℕ) (row : List Slot)
    → own ≡ values_to (own_slots world) (length world) → class < length own → row ≡ get_or own class row → row ≡ own_slots world class
own_row world own class row e l s =
    let m : length own ≡ length world = ap length e ∙ length-values (own_slots world) (length world) in
    s ∙ ap (λ t. get_or t class row) e ∙ get_or-values (own_slots world) (length world) class row (omega (arith, l, m))

pub own_none : (world : World) (own : List (List Slot)) (class : ℕ) → own ≡ values_to (own_slots world) (length world)
    → length own ≤ class → [] ≡ own_slots world class
unfolding own_slots
own_none world own class e l =
    let m : length own ≡ length world = ap length e ∙ length-values (own_slots world) (length world) in
    sym (ap (λ o. option_map_or (λ c. filter_map (field_slot world) c.fields) o []) (slice_get_past world class (omega (arith, m, l))))

-- a class from the end of a line
pub slots_more : (own : ℕ → List Slot) (slots more : List Slot) (line rest : List ℕ) (here : ℕ) (added all : List Slot)
    → slots ++ flat_map own (reverse line) ≡ all → line ≡ rest ++ here ∷ [] → added ≡ own here → more ≡ slots ++ added
    → more ++ flat_map own (reverse rest) ≡ all
slots_more own slots more line rest here added all e l a m =
    let r : flat_map own (reverse line) ≡ own here ++ flat_map own (reverse rest) =
    ap (λ xs. flat_map own (reverse xs)) l ∙ ap (flat_map own) (reverse-append rest (here ∷ [])) ∙ flat_map-cons own here (reverse rest) in
    ap (λ xs. xs ++ flat_map own (reverse rest)) m
    ∙ append_assoc slots added (flat_map own (reverse rest))
    ∙ ap (λ xs. slots ++ (xs ++ flat_map own (reverse rest))) a
    ∙ ap (λ xs. slots ++ xs) (sym r) ∙ e

pub slots_start : (own : ℕ → List Slot) (slots : List Slot) (line start : List ℕ) → slots ≡ [] → line ≡ start
    → slots ++ flat_map own (reverse line) ≡ flat_map own (reverse start)
slots_start own slots line start e l = ap (λ xs. xs ++ flat_map own (reverse line)) e ∙ ap (λ xs. flat_map own (reverse xs)) l
