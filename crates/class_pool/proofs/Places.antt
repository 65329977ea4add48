-- The places of the entries that were read, as a loop collects them.
use Rattle.std.proofs.Common.{◌≡◌, ℕ, zero, suc, ◌+◌, ◌-◌, ◌<◌, ◌≤◌, Bool, true, false, cond, eqb, List, [], ◌∷◌, ◌++◌, length}
use Rattle.std.proofs.Common.{Option, Some, None, Ok, Err, refl, sym, ap, subst, ◌∙◌, append_assoc, arith, inl, inr}
use Rattle.std.specs.List.{flat_map, filter_map}
use Rattle.std.specs.Option.{option_map}
use Rattle.std.specs.Result.{result_ok}
use Rattle.std.proofs.lemmas.List.{append-nil, length-append, map-append, drop_all}
use Rattle.std.proofs.lemmas.List.Concat.{flat_map-append}
use Rattle.std.proofs.lemmas.List.Elements.{filter_map-append}
use Rattle.std.proofs.lemmas.Bool.{cases_Bool, cases_lt, false≢true, eq-eqb, ne_eqb, false_from_ne_true}
use Rattle.class_pool.specs.declared.entry.PoolEntry.{PoolEntry}
use Rattle.class_pool.specs.declared.fault.PoolFault.{PoolFault}
use Rattle.class_pool.specs.Entry.{is_wide}
use Rattle.class_pool.specs.Text.{slots_of, places_of}
use Rattle.list_views.specs.Results.{IsDue}
use Rattle.list_views.proofs.Steps.{is_due}
use Rattle.class_pool.specs.Reading.{◌>>=◌, Read, Unread, unread, is_memory, entry_text_at, entry_at_place, entries_at}
use Rattle.class_pool.specs.inner.Places.{slot_in, slots_in, entries_in, Agrees}
use Rattle.class_pool.proofs.Fields.{IsBytes, IsBytes-drop}
use Rattle.class_pool.proofs.EntryLaws.{place_text, place_takes}
use Rattle.class_pool.proofs.PoolLaws.{is_zero, with_front, narrow_step, wide_step}

-- ---- slots

-- at the input's end no entry begins
pub slot_past : (bytes : List ℕ) → slot_in bytes (length bytes) ≡ None
unfolding entry_text_at
slot_past bytes = rw (drop_all (length bytes) bytes (omega arith)) refl

pub slot_at : (bytes : List ℕ) (place : ℕ) (last : Bool) (e : PoolEntry) (v : Unread)
    → entry_at_place last (unread bytes place) ≡ Ok (e, v) → slot_in bytes place ≡ Some e
slot_at bytes place last e v h = ap (λ (r : Read PoolEntry). option_map (λ e. e.0) (result_ok r))
    (place_text last (unread bytes place) (e, v) h).1.0

-- the slots and the entries of more places
slots_more : (bytes ps qs : List ℕ) → slots_in bytes (ps ++ qs) ≡ slots_in bytes ps ++ slots_in bytes qs
slots_more bytes ps qs = map-append (slot_in bytes) ps qs

entries_more : (bytes ps qs : List ℕ) → entries_in bytes (ps ++ qs) ≡ entries_in bytes ps ++ entries_in bytes qs
entries_more bytes ps qs =
    ap (filter_map (λ slot. slot)) (slots_more bytes ps qs) ∙ filter_map-append (λ (slot : Option PoolEntry). slot)
    (slots_in bytes ps) (slots_in bytes qs)

pub places_more : (es : List PoolEntry) (e : PoolEntry) → places_of (es ++ e ∷ []) ≡ places_of es ++ slots_of e
places_more es e =
    ap (λ (slots : List (Option PoolEntry)). None ∷ slots) (flat_map-append slots_of es (e ∷ [])
    ∙ ap (λ (more : List (Option PoolEntry)). flat_map slots_of es ++ more) (append-nil (slots_of e)))

-- the places of an entry that begins at p
abbrev pub own_places : List ℕ → ℕ → Bool → List ℕ
own_places bytes p wide = cond wide (p ∷ length bytes ∷ []) (p ∷ [])

own_slots : (bytes : List ℕ) (p : ℕ) (e : PoolEntry) → slot_in bytes p ≡ Some e
    → slots_in bytes (own_places bytes p (is_wide e)) ≡ slots_of e
own_slots bytes p e here =
    elim (cases_Bool (is_wide e)) [
      | inl wide ↦
          ap (λ (w : Bool). slots_in bytes (own_places bytes p w)) wide
          ∙ ap (λ (slot : Option PoolEntry). slot ∷ slot_in bytes (length bytes) ∷ []) here
          ∙ ap (λ (slot : Option PoolEntry). Some e ∷ slot ∷ []) (slot_past bytes)
          ∙ ap (λ (w : Bool). Some e ∷ cond w (None ∷ []) []) (sym wide)
      | inr narrow ↦
          ap (λ (w : Bool). slots_in bytes (own_places bytes p w)) narrow
          ∙ ap (λ (slot : Option PoolEntry). slot ∷ []) here
          ∙ ap (λ (w : Bool). Some e ∷ cond w (None ∷ []) []) (sym narrow)
    ]

slots_present : (e : PoolEntry) → filter_map (λ slot. slot) (slots_of e) ≡ e ∷ []
slots_present e =
    elim (cases_Bool (is_wide e)) [
      | inl wide ↦ ap (λ (w : Bool). filter_map (λ slot. slot) (Some e ∷ cond w (None ∷ []) [])) wide
      | inr narrow ↦ ap (λ (w : Bool). filter_map (λ slot. slot) (Some e ∷ cond w (None ∷ []) [])) narrow
    ]

pub entries_push : (bytes ps : List ℕ) (p : ℕ) (e : PoolEntry) → slot_in bytes p ≡ Some e
    → entries_in bytes (ps ++ own_places bytes p (is_wide e)) ≡ entries_in bytes ps ++ e ∷ []
entries_push bytes ps p e here =
    entries_more bytes ps (own_places bytes p (is_wide e))
    ∙ ap (λ (more : List PoolEntry). entries_in bytes ps ++ more) (ap (filter_map (λ slot. slot)) (own_slots bytes p e here)
    ∙ slots_present e)

pub agrees_push : (bytes ps : List ℕ) (p : ℕ) (e : PoolEntry) → slot_in bytes p ≡ Some e → Agrees bytes ps
    → Agrees bytes (ps ++ own_places bytes p (is_wide e))
agrees_push bytes ps p e here so_far =
    ap places_of (entries_push bytes ps p e here)
    ∙ places_more (entries_in bytes ps) e
    ∙ ap (λ (slots : List (Option PoolEntry)). slots ++ slots_of e) so_far
    ∙ ap (λ (slots : List (Option PoolEntry)). slots_in bytes ps ++ slots) (sym (own_slots bytes p e here))
    ∙ sym (slots_more bytes ps (own_places bytes p (is_wide e)))

-- ---- the loop

from_more : (count len : ℕ) → is_zero (count - (len + 1)) ≡ false → count - (len + 1) ≡ suc (count - (len + 2))
from_more count len h =
    elim (cases_lt (len + 1) count) [
      | inl more ↦ omega arith
      | inr end ↦
          let none : count - (len + 1) ≡ 0 = omega arith in
          absurd (false≢true (sym h ∙ ap is_zero none))
    ]

-- At the head of the loop: what the places so far say, with what is still read, is the whole.
pub record Progress (bytes : List ℕ) (at count : ℕ) (places : List ℕ) (next : ℕ) : Type 0 where
  pub agrees : Agrees bytes places
  pub low : 1 ≤ length places
  pub high : length places ≤ count - 1 + 1
  pub so_far : with_front (entries_in bytes places) (entries_at (count - length places) (unread bytes next)) ≡ entries_at
      (count - 1) (unread bytes at)

nothing_read : (read : Read (List PoolEntry)) → with_front [] read ≡ read
nothing_read (Ok x) = refl
nothing_read (Err f) = refl

first_slots : (bytes : List ℕ) → slots_in bytes (length bytes ∷ []) ≡ None ∷ []
first_slots bytes = ap (λ (slot : Option PoolEntry). slot ∷ []) (slot_past bytes)

pub begins : (bytes : List ℕ) (at count : ℕ) → Progress bytes at count (length bytes ∷ []) at
begins bytes at count =
    let none : entries_in bytes (length bytes ∷ []) ≡ [] = ap (filter_map (λ slot. slot)) (first_slots bytes) in
    record {
      agrees = ap places_of none ∙ sym (first_slots bytes);
      low = omega arith;
      high = omega arith;
      so_far = ap (λ (es : List PoolEntry). with_front es (entries_at (count - 1) (unread bytes at))) none
          ∙ nothing_read (entries_at (count - 1) (unread bytes at));
    }

regroup : (front : List PoolEntry) (e : PoolEntry) (read : Read (List PoolEntry))
    → with_front front (with_front (e ∷ []) read) ≡ with_front (front ++ e ∷ []) read
regroup front e (Ok x) = ap (λ (es : List PoolEntry). Ok (es, x.1)) (sym (append_assoc front (e ∷ []) x.0))
regroup front e (Err f) = refl

is_last : (count len : ℕ) → len < count → eqb (len + 1) count ≡ is_zero (count - (len + 1))
is_last count len lt =
    elim (cases_lt (len + 1) count) [
      | inl more ↦
          let m : count - (len + 1) ≡ suc (count - (len + 2)) = omega arith in
          ne_eqb (len + 1) count (omega arith) ∙ ap is_zero (sym m)
      | inr end ↦
          let m : count - (len + 1) ≡ 0 = omega arith in
          let same : len + 1 ≡ count = omega arith in
          eq-eqb (len + 1) count same ∙ ap is_zero (sym m)
    ]

pub goes_on : (bytes : List ℕ) (at count : ℕ) (places : List ℕ) (next : ℕ) (last : Bool) (e : PoolEntry) (after : ℕ) → IsBytes bytes
    → Progress bytes at count places next
    → length places < count → last ≡ eqb (length places + 1) count → entry_at_place last (unread bytes next) ≡ Ok (e, unread bytes after)
    → Progress bytes at count (places ++ own_places bytes next (is_wide e)) after
goes_on bytes at count places next last e after fits p lt at_end read =
    let len = length places in
    let u = unread bytes next in
    let v = unread bytes after in
    let here = slot_at bytes next last e v read in
    let front = entries_in bytes places in
    let zero_test = at_end ∙ is_last count len lt in
    let taken = place_takes last u (e, v) (IsBytes-drop next bytes fits) read in
    let lengths = length-append places (own_places bytes next (is_wide e)) in
    let one : count - len ≡ suc (count - (len + 1)) = omega arith in
    let named = entries_push bytes places next e here in
    elim (cases_Bool (is_wide e)) [
      | inl wide ↦
          let not_last : last ≡ false = false_from_ne_true last (λ is. false≢true (sym (taken.narrow is) ∙ wide)) in
          let more : is_zero (count - (len + 1)) ≡ false = sym zero_test ∙ not_last in
          let two : count - (len + 1) ≡ suc (count - (len + 2)) = from_more count len more in
          let own : length (own_places bytes next (is_wide e)) ≡ 2 = ap (λ (w : Bool). length (own_places bytes next w)) wide in
          let rest : count - length (places ++ own_places bytes next (is_wide e)) ≡ count - (len + 2) = omega (arith, lengths, own) in
          let step : entries_at (count - len) u ≡ with_front (e ∷ []) (entries_at (count - (len + 2)) v) =
          ap (λ (n : ℕ). entries_at n u) (one ∙ ap suc two)
          ∙ wide_step (count - (len + 2)) u e v (subst (λ (b : Bool). entry_at_place b u ≡ Ok (e, v)) not_last read) wide in
          record {
            agrees = agrees_push bytes places next e here p.agrees;
            low = omega (arith, p.low, lengths);
            high = omega (arith, lengths, own, two);
            so_far =
                ap (λ (es : List PoolEntry). with_front es
                (entries_at (count - length (places ++ own_places bytes next (is_wide e))) v)) named
                ∙ ap (λ (n : ℕ). with_front (front ++ e ∷ []) (entries_at n v)) rest
                ∙ sym (regroup front e (entries_at (count - (len + 2)) v))
                ∙ ap (with_front front) (sym step)
                ∙ p.so_far;
          }
      | inr narrow ↦
          let own : length (own_places bytes next (is_wide e)) ≡ 1 = ap (λ (w : Bool). length (own_places bytes next w)) narrow in
          let rest : count - length (places ++ own_places bytes next (is_wide e)) ≡ count - (len + 1) = omega (arith, lengths, own) in
          let step : entries_at (count - len) u ≡ with_front (e ∷ []) (entries_at (count - (len + 1)) v) =
          ap (λ (n : ℕ). entries_at n u) one ∙ narrow_step (count - (len + 1)) last u e v zero_test read narrow in
          record {
            agrees = agrees_push bytes places next e here p.agrees;
            low = omega (arith, p.low, lengths);
            high = omega (arith, lengths, own);
            so_far =
                ap (λ (es : List PoolEntry). with_front es
                (entries_at (count - length (places ++ own_places bytes next (is_wide e))) v)) named
                ∙ ap (λ (n : ℕ). with_front (front ++ e ∷ []) (entries_at n v)) rest
                ∙ sym (regroup front e (entries_at (count - (len + 1)) v))
                ∙ ap (with_front front) (sym step)
                ∙ p.so_far;
          }
    ]

fault_step : (m : ℕ) (last : Bool) (u : Unread) (f : PoolFault) → last ≡ is_zero m → entry_at_place last u ≡ Err f
    → entries_at (suc m) u ≡ Err f
unfolding entries_at
fault_step zero last u f at_end read =
    let r : entry_at_place true u ≡ Err f = subst (λ (b : Bool). entry_at_place b u ≡ Err f) at_end read in
    ap (λ (r : Read PoolEntry). r >>= λ e. Ok (e.0 ∷ [], e.1)) r
fault_step (suc m) last u f at_end read =
    let r : entry_at_place false u ≡ Err f = subst (λ (b : Bool). entry_at_place b u ≡ Err f) at_end read in
    ap (λ (r : Read PoolEntry). r >>= λ e. cond (is_wide e.0) (entries_at m e.1) (entries_at (suc m) e.1) >>= λ es. Ok
    (e.0 ∷ es.0, es.1)) r

pub stops : (bytes : List ℕ) (at count : ℕ) (places : List ℕ) (next : ℕ) (last : Bool) (f : PoolFault)
    → Progress bytes at count places next
    → length places < count → last ≡ eqb (length places + 1) count → entry_at_place last (unread bytes next) ≡ Err f
    → IsDue is_memory f (entries_at (count - 1) (unread bytes at))
stops bytes at count places next last f p lt at_end read =
    let len = length places in
    let one : count - len ≡ suc (count - (len + 1)) = omega arith in
    let step = ap (λ (n : ℕ). entries_at n (unread bytes next)) one ∙ fault_step (count - (len + 1)) last (unread bytes next) f
    (at_end ∙ is_last count len lt) read in
    is_due is_memory f (entries_at (count - 1) (unread bytes at)) (sym p.so_far ∙ ap (with_front (entries_in bytes places)) step)

pub is_done : (bytes : List ℕ) (at count : ℕ) (places : List ℕ) (next : ℕ) → Progress bytes at count places next → count ≤ length places
    → entries_at (count - 1) (unread bytes at) ≡ Ok (entries_in bytes places, unread bytes next)
unfolding entries_at
is_done bytes at count places next p le =
    let none : count - length places ≡ 0 = omega arith in
    sym p.so_far
    ∙ ap (λ (n : ℕ). with_front (entries_in bytes places) (entries_at n (unread bytes next))) none
    ∙ ap (λ (es : List PoolEntry). Ok (es, unread bytes next)) (append-nil (entries_in bytes places))
