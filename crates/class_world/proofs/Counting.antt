-- The places of fields in objects, from the tables.
use Rattle.std.proofs.Common.{◌≡◌, ℕ, zero, suc, ◌+◌, ◌-◌, ◌<◌, ◌≤◌, ◌^◌, Bool, true, false, cond, List, [], ◌∷◌, ◌++◌, length}
use Rattle.std.proofs.Common.{get_or, take, drop, Option, Some, None, sym, refl, ap, ap₂, ◌∙◌, subst, inl, inr, arith}
use Rattle.std.proofs.Common.{length-append, append-nil, add-one, zero-add}
use Rattle.std.specs.Prelude.{reverse, slice_get, IfSome}
use Rattle.std.specs.List.{filter, filter_map, flat_map, cons_option, list_all, range_with_len}
use Rattle.std.specs.Option.{option_map_or}
use Rattle.std.proofs.lemmas.Bool.{and_parts, ltb-true, cases_lt}
use Rattle.std.proofs.lemmas.List.{reverse-append, take_all}
use Rattle.std.proofs.lemmas.List.Concat.{flat_map-append}
use Rattle.std.proofs.lemmas.Option.{slice_get-get_or}
use Rattle.std.proofs.lemmas.List.Elements.{filter-append}
use Rattle.jvm_values.specs.declared.types.Slot.{Slot}
use Rattle.class_read.specs.Content.{ClassContent}
use Rattle.class_world.specs.World.{World, super_of, line_from, line_of, built_in}
use Rattle.class_world.specs.Fields.{field_slot, own_slots, fields_of}
use Rattle.class_world.specs.Resolve.{slots_above, own_slots_before}
use Rattle.class_world.specs.inner.Tables.{values_to}
use Rattle.class_world.specs.lemmas.Walks.{IsIn}
use Rattle.class_world.specs.inner.Index.{has_places, kept_before, kept_counts, kept_row}
use Rattle.class_world.proofs.Tables.{length-values, get_or-values}

-- ---- the fields of objects, the class's own last

pub length-flat_reverse : {A : Type 0} (f : ℕ → List A) (xs : List ℕ) → length (flat_map f (reverse xs)) ≡ length (flat_map f xs)
length-flat_reverse f [] = refl
length-flat_reverse f (x ∷ xs) =
    let a : flat_map f (reverse (x ∷ xs)) ≡ flat_map f (reverse xs) ++ flat_map f (x ∷ []) = ap (flat_map f)
    (reverse-append (x ∷ []) xs) ∙ flat_map-append f (reverse xs) (x ∷ []) in
    let b : length (flat_map f (x ∷ [])) ≡ length (f x) = length-append (f x) [] ∙ omega arith in
    ap length a ∙ length-append (flat_map f (reverse xs)) (flat_map f (x ∷ []))
    ∙ omega (arith, b, length-flat_reverse f xs, length-append (f x) (flat_map f xs))

pub itself_first : (super : ℕ → Option ℕ) (n class : ℕ) → 0 < n → line_from super n class ≡ class ∷ drop 1 (line_from super n class)
itself_first super zero class l = absurd (omega (arith, l))
itself_first super (suc n) class l = refl

whole : (world : World) (class : ℕ) → 0 < length world
    → length (fields_of world class) ≡ length (own_slots world class) + length (slots_above world class)
unfolding fields_of line_of slots_above
whole world class l =
    let line = line_from (super_of world) (length world) class in
    length-flat_reverse (own_slots world) line
    ∙ ap (λ xs. length (flat_map (own_slots world) xs)) (itself_first (super_of world) (length world) class l)
    ∙ length-append (own_slots world class) (flat_map (own_slots world) (drop 1 line))

-- ---- counts

fewer_of : {A B : Type 0} (f : A → Option B) (i : ℕ) (xs : List A) → length (filter_map f (take i xs)) ≤ length (filter_map f xs)
fewer_of f zero xs = omega arith
fewer_of f (suc i) [] = omega arith
fewer_of {A} {B} f (suc i) (x ∷ xs) = go (f x) (fewer_of f i xs)
  where
    go : (o : Option B) → length (filter_map f (take i xs)) ≤ length (filter_map f xs)
        → length (cons_option o (filter_map f (take i xs))) ≤ length (cons_option o (filter_map f xs))
    go None l = l
    go (Some y) l = omega (arith, l)

row_here : (world : World) (class : ℕ) (c : ClassContent) → slice_get world class ≡ Some c
    → kept_row world class ≡ kept_counts world c.fields
unfolding kept_row
row_here world class c s = ap (λ o. option_map_or (λ x. kept_counts world x.fields) o []) s

pub own_here : (world : World) (class : ℕ) (c : ClassContent) → slice_get world class ≡ Some c
    → own_slots world class ≡ filter_map (field_slot world) c.fields
unfolding own_slots
own_here world class c s = ap (λ o. option_map_or (λ x. filter_map (field_slot world) x.fields) o []) s

pub before_here : (world : World) (class index : ℕ) (c : ClassContent) → slice_get world class ≡ Some c
    → own_slots_before world class index ≡ filter_map (field_slot world) (take index c.fields)
unfolding own_slots_before
before_here world class index c s = ap (λ o. option_map_or (λ x. filter_map (field_slot world) (take index x.fields)) o []) s

place_within : (slots : List (List Slot)) (class : ℕ) (d : List Slot) → list_all has_places slots ≡ true → class < length slots
    → length (get_or slots class d) < 2 ^ 32
place_within [] class d e l = absurd (omega (arith, l))
place_within (row ∷ rows) zero d e l = ltb-true (length row) (2 ^ 32) (and_parts (has_places row) (list_all has_places rows) e).0
place_within (row ∷ rows) (suc class) d e l = place_within rows class d (and_parts (has_places row) (list_all has_places rows) e).1
    (omega (arith, l))

-- what the tables say of a field that is there
pub record Counts (world : World) (class index last all own before : ℕ) : Type 0 where
  pub some : 1 ≤ last
  pub own_is : own ≡ length (own_slots world class)
  pub before_is : before ≡ length (own_slots_before world class index)
  pub all_is : all ≡ own + length (slots_above world class)
  pub less : before ≤ own
  pub fits : all < 2 ^ 32

module _ (world : World) (class index : ℕ) (table : List (List ℕ)) (slots : List (List Slot)) where
  pub record Tables : Type 0 where
    pub kept : table ≡ values_to (kept_row world) (length world)
    pub laid_out : slots ≡ values_to (fields_of world) (length world)
    pub placed : list_all has_places slots ≡ true
    pub within : class < length world
    pub there : IfSome (slice_get world class) (λ c. index < length c.fields)

  pub kept_long : Tables → class < length table
  kept_long t = omega (arith, t.within, ap length t.kept ∙ length-values (kept_row world) (length world))

  pub slots_long : Tables → class < length slots
  slots_long t = omega (arith, t.within, ap length t.laid_out ∙ length-values (fields_of world) (length world))

  here : Tables → (c : ClassContent) × (slice_get world class ≡ Some c) × (index < length c.fields)
  here t =
      let s = slice_get-get_or world class (built_in [] []) t.within in
      (get_or world class (built_in [] []), s, subst (λ (o : Option ClassContent). IfSome o (λ c. index < length c.fields)) s t.there)

  row_of : Tables → (c : ClassContent) → slice_get world class ≡ Some c → (row : List ℕ) → row ≡ get_or table class row
      → row ≡ values_to (kept_before world c.fields) (length c.fields + 1)
  row_of t c s row r = r ∙ ap (λ x. get_or x class row) t.kept ∙ get_or-values (kept_row world) (length world) class row t.within
      ∙ row_here world class c s

  pub row_long : Tables → (row : List ℕ) → row ≡ get_or table class row → (index < length row) × (1 ≤ length row)
  row_long t row r =
      let h = here t in
      let n : length row ≡ length h.0.fields + 1 = ap length (row_of t h.0 h.1 row r)
      ∙ length-values (kept_before world h.0.fields) (length h.0.fields + 1) in
      (omega (arith, n, h.2), omega (arith, n))

  pub counts : Tables → (row : List ℕ) (held : List Slot) (last all own before : ℕ) → row ≡ get_or table class row
      → held ≡ get_or slots class held → last ≡ length row → all ≡ length held → own ≡ get_or row (last - 1) own
      → before ≡ get_or row index before → Counts world class index last all own before
  unfolding kept_before
  counts t row held last all own before r h l a o b =
      let i = here t in
      let fields = i.0.fields in
      let f = kept_before world fields in
      let is = row_of t i.0 i.1 row r in
      let n : length row ≡ length fields + 1 = ap length is ∙ length-values f (length fields + 1) in
      let at_end : last - 1 ≡ length fields = omega (arith, l, n) in
      let everything : own ≡ f (length fields) =
      o ∙ ap₂ (λ xs k. get_or xs k own) is at_end ∙ get_or-values f (length fields + 1) (length fields) own (omega arith) in
      let own_is : own ≡ length (own_slots world class) = everything ∙ ap (λ xs. length (filter_map (field_slot world) xs))
      (take_all (length fields) fields (omega arith)) ∙ sym (ap length (own_here world class i.0 i.1)) in
      let before_is : before ≡ length (own_slots_before world class index) =
      b ∙ ap (λ xs. get_or xs index before) is ∙ get_or-values f (length fields + 1) index before (omega (arith, i.2))
      ∙ sym (ap length (before_here world class index i.0 i.1)) in
      let held_is : held ≡ fields_of world class = h ∙ ap (λ x. get_or x class held) t.laid_out
      ∙ get_or-values (fields_of world) (length world) class held t.within in
      let less : length (own_slots_before world class index) ≤ length (own_slots world class) =
      subst (λ (xs : List Slot). length xs ≤ length (own_slots world class)) (sym (before_here world class index i.0 i.1))
      (subst (λ (xs : List Slot). length (filter_map (field_slot world) (take index fields)) ≤ length xs)
      (sym (own_here world class i.0 i.1)) (fewer_of (field_slot world) index fields)) in
      let fit : length held < 2 ^ 32 = subst (λ (xs : List Slot). length xs < 2 ^ 32) (sym h)
      (place_within slots class held t.placed (slots_long t)) in
      let size = whole world class (omega (arith, t.within)) in
      let total : all ≡ length (own_slots world class) + length (slots_above world class) = a ∙ ap length held_is ∙ size in
      record {
        some = omega (arith, l, n);
        own_is = own_is;
        before_is = before_is;
        all_is = omega (arith, total, own_is);
        less = omega (arith, less, own_is, before_is);
        fits = omega (arith, fit, a);
      }

-- ---- receivers

pub range_more : (a n : ℕ) → range_with_len a (n + 1) ≡ range_with_len a n ++ (a + n) ∷ []
range_more a n = ap (range_with_len a) (add-one n) ∙ go a n
  where
    go : (a n : ℕ) → range_with_len a (suc n) ≡ range_with_len a n ++ (a + n) ∷ []
    go a zero = let z : a ≡ a + 0 = omega arith in ap (λ x. x ∷ []) z
    go a (suc n) =
        let z : a + 1 + n ≡ a + suc n = omega arith in
        ap (λ xs. a ∷ xs) (go (a + 1) n ∙ ap (λ x. range_with_len (a + 1) n ++ x ∷ []) z)

-- the numbers of a range
pub in_range : (a n x : ℕ) → a ≤ x → x < a + n → IsIn x (range_with_len a n)
in_range a zero x l m = absurd (omega (arith, l, m))
in_range a (suc n) x l m = elim (cases_lt a x) [
  | inl k ↦ inr (in_range (a + 1) n x (omega (arith, k)) (omega (arith, m)))
  | inr k ↦ inl (omega (arith, k, l))
]

pub filter_more : (p : ℕ → Bool) (found more : List ℕ) (i : ℕ) (b : Bool) → found ≡ filter p (range_with_len 0 i) → b ≡ p i
    → more ≡ cond b (found ++ i ∷ []) found → more ≡ filter p (range_with_len 0 (i + 1))
filter_more p found more i b e f m =
    m ∙ go b f ∙ ap (λ xs. xs ++ filter p (i ∷ [])) e ∙ sym (filter-append p (range_with_len 0 i) (i ∷ []))
    ∙ ap (λ x. filter p (range_with_len 0 i ++ x ∷ [])) (sym (zero-add i)) ∙ ap (filter p) (sym (range_more 0 i))
  where
    go : (v : Bool) → v ≡ p i → cond v (found ++ i ∷ []) found ≡ found ++ cond (p i) (i ∷ []) []
    go true q = ap (λ w. found ++ cond w (i ∷ []) []) q
    go false q = sym (append-nil found) ∙ ap (λ w. found ++ cond w (i ∷ []) []) q
