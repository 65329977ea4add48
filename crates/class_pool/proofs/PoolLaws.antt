-- What is read as a pool is spelled so, and what is spelled so is read.
use Rattle.std.proofs.Common.{◌≡◌, ℕ, zero, suc, ◌+◌, ◌-◌, Bool, true, false, cond, ◌&&◌, List, [], ◌∷◌, ◌++◌, length, Option, Some}
use Rattle.std.proofs.Common.{None, Ok, Err, refl, sym, ap, subst, ◌∙◌, append_assoc, arith, inl, inr}
use Rattle.std.specs.List.{flat_map, AllByRecursion}
use Rattle.std.specs.Option.{option_map_or}
use Rattle.std.proofs.lemmas.List.{length-append}
use Rattle.std.proofs.lemmas.Bool.{cases_Bool}
use Rattle.list_views.proofs.Truths.{and_false}
use Rattle.byteorder.specs.Endian.{big_bytes}
use Rattle.class_pool.specs.declared.entry.PoolEntry.{PoolEntry}
use Rattle.class_pool.specs.declared.fault.PoolFault.TheVariants.{BadIndex}
use Rattle.class_pool.specs.Entry.{is_wide, entry_bytes, HasText, Fits}
use Rattle.class_pool.specs.Text.{slots_of, places_of, first_bad_index, IsPool, pool_bytes, Spells, HasTexts}
use Rattle.class_pool.specs.Reading.{◌>>=◌, Read, Unread, number_at, entry_at_place, entries_at, pool_at}
use Rattle.class_pool.proofs.Fields.{IsBytes, bind_ok, done, ok_is, Takes, Takes-then, back_2, number_takes, number_again}
use Rattle.class_pool.proofs.EntryLaws.{IsTaken, entry_again, place_text, place_takes, place_again}

-- what was read before, and what is still read
abbrev pub with_front : List PoolEntry → Read (List PoolEntry) → Read (List PoolEntry)
with_front front read = read >>= λ x. Ok (front ++ x.0, x.1)

abbrev pub is_zero : ℕ → Bool
is_zero zero = true
is_zero (suc m) = false

-- one entry, and then the others
pub narrow_step : (m : ℕ) (last : Bool) (u : Unread) (e : PoolEntry) (v : Unread) → last ≡ is_zero m
    → entry_at_place last u ≡ Ok (e, v) → is_wide e ≡ false
    → entries_at (suc m) u ≡ with_front (e ∷ []) (entries_at m v)
unfolding entries_at
narrow_step zero last u e v at_end read narrow =
    let r : entry_at_place true u ≡ Ok (e, v) = subst (λ (b : Bool). entry_at_place b u ≡ Ok (e, v)) at_end read in
    ap (λ (r : Read PoolEntry). r >>= λ e. Ok (e.0 ∷ [], e.1)) r
narrow_step (suc m) last u e v at_end read narrow =
    let r : entry_at_place false u ≡ Ok (e, v) = subst (λ (b : Bool). entry_at_place b u ≡ Ok (e, v)) at_end read in
    ap (λ (r : Read PoolEntry). r >>= λ e. cond (is_wide e.0) (entries_at m e.1) (entries_at (suc m) e.1) >>= λ es. Ok
    (e.0 ∷ es.0, es.1)) r
    ∙ ap (λ (b : Bool). cond b (entries_at m v) (entries_at (suc m) v) >>= λ es. Ok (e ∷ es.0, es.1)) narrow

pub wide_step : (m : ℕ) (u : Unread) (e : PoolEntry) (v : Unread) → entry_at_place false u ≡ Ok (e, v) → is_wide e ≡ true
    → entries_at (suc (suc m)) u ≡ with_front (e ∷ []) (entries_at m v)
unfolding entries_at
wide_step m u e v read wide =
    ap (λ (r : Read PoolEntry). r >>= λ e. cond (is_wide e.0) (entries_at m e.1) (entries_at (suc m) e.1) >>= λ es. Ok
    (e.0 ∷ es.0, es.1)) read
    ∙ ap (λ (b : Bool). cond b (entries_at m v) (entries_at (suc m) v) >>= λ es. Ok (e ∷ es.0, es.1)) wide

-- the places that entries take after place 0
abbrev pub taken : List PoolEntry → ℕ
taken es = length (flat_map slots_of es)

abbrev AreTaken : ℕ → Unread → List PoolEntry × Unread → Type 0
AreTaken n u x = Takes u (flat_map entry_bytes x.0) x.1 × (taken x.0 ≡ n) × AllByRecursion Fits x.0

-- an entry in front of those that were read
cons_taken : (n m : ℕ) (last : Bool) (u : Unread) (e : PoolEntry × Unread) (es : List PoolEntry × Unread) → IsTaken last u e
    → AreTaken m e.1 es
    → length (slots_of e.0) + m ≡ n → AreTaken n u (e.0 ∷ es.0, es.1)
cons_taken n m last u e es t ts count = (
  Takes-then u (entry_bytes e.0) e.1 (flat_map entry_bytes es.0) es.1 t.takes ts.0,
  omega (arith, count, ts.1, length-append (slots_of e.0) (flat_map slots_of es.0)),
  (t.fits, ts.2),
)

pub slots_narrow : (e : PoolEntry) → is_wide e ≡ false → length (slots_of e) ≡ 1
slots_narrow e h = ap (λ (b : Bool). length (Some e ∷ cond b (None ∷ []) [])) h

pub slots_wide : (e : PoolEntry) → is_wide e ≡ true → length (slots_of e) ≡ 2
slots_wide e h = ap (λ (b : Bool). length (Some e ∷ cond b (None ∷ []) [])) h

pub entries_take : (n : ℕ) (u : Unread) (x : List PoolEntry × Unread) → IsBytes u.bytes → entries_at n u ≡ Ok x → AreTaken n u x
unfolding entries_at
entries_take zero u x fits e = subst (AreTaken 0 u) (ok_is ([], u) x e)
    (record { parts = refl; place = omega arith; fits = fits }, refl, tt)
entries_take (suc zero) u x fits e =
    let b = bind_ok (entry_at_place true u) (λ y. Ok (y.0 ∷ [], y.1)) x e in
    let t = place_takes true u b.0 fits b.1 in
    let none : AreTaken 0 b.0.1 ([], b.0.1) = (record { parts = refl; place = omega arith; fits = t.takes.fits }, refl, tt) in
    subst (AreTaken 1 u) (ok_is (b.0.0 ∷ [], b.0.1) x b.2)
    (cons_taken 1 0 true u b.0 ([], b.0.1) t none (omega (arith, slots_narrow b.0.0 (t.narrow refl))))
entries_take (suc (suc n)) u x fits e =
    let b = bind_ok (entry_at_place false u) (λ y. cond (is_wide y.0) (entries_at n y.1) (entries_at (suc n) y.1) >>= λ es. Ok
    (y.0 ∷ es.0, es.1)) x e in
    let t = place_takes false u b.0 fits b.1 in
    let c = bind_ok (cond (is_wide b.0.0) (entries_at n b.0.1) (entries_at (suc n) b.0.1)) (λ es. Ok (b.0.0 ∷ es.0, es.1)) x b.2 in
    subst (AreTaken (suc (suc n)) u) (ok_is (b.0.0 ∷ c.0.0, c.0.1) x c.2)
    (elim (cases_Bool (is_wide b.0.0)) [
      | inl wide ↦
          let read : entries_at n b.0.1 ≡ Ok c.0 = sym
          (ap (λ (w : Bool). cond w (entries_at n b.0.1) (entries_at (suc n) b.0.1)) wide) ∙ c.1 in
          cons_taken (suc (suc n)) n false u b.0 c.0 t (entries_take n b.0.1 c.0 t.takes.fits read) (omega (arith, slots_wide b.0.0 wide))
      | inr narrow ↦
          let read : entries_at (suc n) b.0.1 ≡ Ok c.0 = sym
          (ap (λ (w : Bool). cond w (entries_at n b.0.1) (entries_at (suc n) b.0.1)) narrow) ∙ c.1 in
          cons_taken (suc (suc n)) (suc n) false u b.0 c.0 t (entries_take (suc n) b.0.1 c.0 t.takes.fits read)
          (omega (arith, slots_narrow b.0.0 narrow))
    ])

-- what was read, after an entry
fronted : (e : PoolEntry) (es : List PoolEntry) (at_e at_end after : ℕ) (rest : List ℕ) → at_end ≡ after
    → with_front (e ∷ []) (Ok (es, record { at = at_end; bytes = rest })) ≡ Ok (e ∷ es, record { at = after; bytes = rest })
fronted e es at_e at_end after rest same = ap (λ (k : ℕ). Ok (e ∷ es, record { at = k; bytes = rest })) same

pub entries_again : (es : List PoolEntry) (at : ℕ) (rest : List ℕ) → AllByRecursion Fits es
    → entries_at (taken es) (record { at = at; bytes = flat_map entry_bytes es ++ rest }) ≡ Ok
    (es, record { at = at + length (flat_map entry_bytes es); bytes = rest })
unfolding entries_at
entries_again [] at rest fits = ap (λ (k : ℕ). Ok ([], record { at = k; bytes = rest })) (omega arith)
entries_again (e ∷ es) at rest fits =
    let tail : List ℕ = flat_map entry_bytes es ++ rest in
    let v : Unread = record { at = at + length (entry_bytes e); bytes = tail } in
    let u : Unread = record { at = at; bytes = entry_bytes e ++ tail } in
    let regroup : (entry_bytes e ++ flat_map entry_bytes es) ++ rest ≡ entry_bytes e ++ tail = append_assoc (entry_bytes e)
    (flat_map entry_bytes es) rest in
    let others = entries_again es (at + length (entry_bytes e)) rest fits.1 in
    let end : at + length (entry_bytes e) + length (flat_map entry_bytes es) ≡ at + length
    (entry_bytes e ++ flat_map entry_bytes es) = omega (arith, length-append (entry_bytes e) (flat_map entry_bytes es)) in
    let finish = ap (with_front (e ∷ [])) others ∙ fronted e es at _ _ rest end in
    let count = length-append (slots_of e) (flat_map slots_of es) in
    ap (λ (b : List ℕ). entries_at (taken (e ∷ es)) (record { at = at; bytes = b })) regroup
    ∙ elim (cases_Bool (is_wide e)) [
      | inl wide ↦
          let n : taken (e ∷ es) ≡ suc (suc (taken es)) = omega (arith, count, slots_wide e wide) in
          ap (λ (k : ℕ). entries_at k u) n ∙ wide_step (taken es) u e v (place_again false at e tail fits.0 refl) wide ∙ finish
      | inr narrow ↦
          let n : taken (e ∷ es) ≡ suc (taken es) = omega (arith, count, slots_narrow e narrow) in
          let last : Bool = is_zero (taken es) in
          ap (λ (k : ℕ). entries_at k u) n
          ∙ narrow_step (taken es) last u e v refl
          (place_again last at e tail fits.0 (ap (λ (b : Bool). last && b) narrow ∙ and_false last)) narrow ∙ finish
    ]

-- ---- the pool

named : (o : Option ℕ) (y x : List PoolEntry × Unread) → option_map_or (λ i. Err (BadIndex i)) o (Ok y) ≡ Ok x → (o ≡ None) × (y ≡ x)
named None y x e = (refl, ok_is y x e)
named (Some i) y x e = absurd cc

pub pool_found : (u : Unread) (es : List PoolEntry) (v : Unread) → IsBytes u.bytes → pool_at u ≡ Ok (es, v) → Spells u es v
unfolding pool_at
pool_found u es v fits e =
    let x : List PoolEntry × Unread = (es, v) in
    let a = bind_ok (number_at 2 u) (λ count. entries_at (count.0 - 1) count.1 >>= λ es. option_map_or (λ i. Err (BadIndex i))
    (first_bad_index es.0) (Ok es)) x e in
    let b = bind_ok (entries_at (a.0.0 - 1) a.0.1) (λ es. option_map_or (λ i. Err (BadIndex i)) (first_bad_index es.0) (Ok es)) x a.2 in
    let g = named (first_bad_index b.0.0) b.0 x b.2 in
    let s = number_takes 2 back_2 u a.0 fits a.1 in
    let ts = entries_take (a.0.0 - 1) a.0.1 b.0 s.0.fits b.1 in
    let P : List PoolEntry × Unread → Type 0 = λ y. AreTaken (a.0.0 - 1) a.0.1 y × (first_bad_index y.0 ≡ None) in
    let h = subst P g.1 (ts, g.0) in
    let whole = Takes-then u (big_bytes 2 a.0.0) a.0.1 (flat_map entry_bytes es) v s.0 h.0.0 in
    record {
      pool = record { fit = h.0.2; count = omega (arith, h.0.1, s.1); names = h.1 };
      count = a.0.0;
      count_fits = s.1;
      places = omega (arith, h.0.1);
      text = whole.parts;
      place = whole.place;
    }

pub pool_again : (u : Unread) (es : List PoolEntry) (v : Unread) → Spells u es v → pool_at u ≡ Ok (es, v)
unfolding pool_at
pool_again u es v s =
    let tail : List ℕ = flat_map entry_bytes es ++ v.bytes in
    let n : s.count - 1 ≡ taken es = omega (arith, s.places) in
    let ends : u.at + 2 + length (flat_map entry_bytes es) ≡ v.at = omega
    (arith, s.place, length-append (big_bytes 2 s.count) (flat_map entry_bytes es)) in
    let rest : Read ℕ → Read (List PoolEntry) = λ r. r >>= λ count. entries_at (count.0 - 1) count.1 >>= λ es. option_map_or
    (λ i. Err (BadIndex i)) (first_bad_index es.0) (Ok es) in
    let check : Read (List PoolEntry) → Read (List PoolEntry) = λ r. r >>= λ es. option_map_or (λ i. Err (BadIndex i))
    (first_bad_index es.0) (Ok es) in
    ap (λ (b : List ℕ). pool_at (record { at = u.at; bytes = b })) s.text
    ∙ ap rest (number_again 2 u.at s.count tail s.count_fits)
    ∙ ap (λ (k : ℕ). check (entries_at k (record { at = u.at + 2; bytes = tail }))) n
    ∙ ap check (entries_again es (u.at + 2) v.bytes s.pool.fit)
    ∙ ap (λ (k : ℕ). check (Ok (es, record { at = k; bytes = v.bytes }))) ends
    ∙ ap (λ (o : Option ℕ). option_map_or (λ i. Err (BadIndex i)) o (Ok (es, v))) s.pool.names

same_parts : (x y : List PoolEntry × Unread) → x ≡ y → (x.0 ≡ y.0) × (x.1 ≡ y.1)
same_parts x y e = (ap (λ (p : List PoolEntry × Unread). p.0) e, ap (λ (p : List PoolEntry × Unread). p.1) e)

-- no bytes spell two pools
pub pool_one : (u : Unread) (es es' : List PoolEntry) (v v' : Unread) → Spells u es v → Spells u es' v' → (es ≡ es') × (v ≡ v')
pool_one u es es' v v' s t = same_parts (es, v) (es', v') (ok_is _ _ (sym (pool_again u es v s) ∙ pool_again u es' v' t))

-- what is written is spelled
pub pool_written : (at : ℕ) (es : List PoolEntry) (rest : List ℕ) → IsPool es
    → Spells (record { at = at; bytes = pool_bytes es ++ rest }) es (record { at = at + length (pool_bytes es); bytes = rest })
pool_written at es rest pool = record {
  pool = pool;
  count = length (places_of es);
  count_fits = pool.count;
  places = omega arith;
  text = refl;
  place = refl;
}

-- ---- entries that have a text, whether or not they make a pool

pub texts_from_pool : (es : List PoolEntry) → AllByRecursion Fits es → AllByRecursion HasText es
texts_from_pool [] fit = tt
texts_from_pool (e ∷ es) fit = (fit.0.0, texts_from_pool es fit.1)

-- the first of some entries
first_ok : (m : ℕ) (u : Unread) (x : List PoolEntry × Unread) → entries_at (suc m) u ≡ Ok x
    → (e : PoolEntry × Unread) × (entry_at_place (is_zero m) u ≡ Ok e)
unfolding entries_at
first_ok zero u x h =
    let b = bind_ok (entry_at_place true u) (λ y. Ok (y.0 ∷ [], y.1)) x h in
    (b.0, b.1)
first_ok (suc n) u x h =
    let b = bind_ok (entry_at_place false u) (λ y. cond (is_wide y.0) (entries_at n y.1) (entries_at (suc n) y.1) >>= λ es. Ok
    (y.0 ∷ es.0, es.1)) x h in
    (b.0, b.1)

-- the entry that is read from an entry's text is that entry
first_same : (last : Bool) (at : ℕ) (e : PoolEntry) (rest : List ℕ) (y : PoolEntry × Unread) → HasText e
    → entry_at_place last (record { at = at; bytes = entry_bytes e ++ rest }) ≡ Ok y
    → entry_at_place last (record { at = at; bytes = entry_bytes e ++ rest }) ≡ Ok
    (e, record { at = at + length (entry_bytes e); bytes = rest })
first_same last at e rest y text h =
    let u : Unread = record { at = at; bytes = entry_bytes e ++ rest } in
    let v : Unread = record { at = at + length (entry_bytes e); bytes = rest } in
    let read = (place_text last u y h).1.0 in
    let same : y ≡ (e, v) = ok_is y (e, v) (sym read ∙ entry_again at e rest text) in
    h ∙ ap (λ (x : PoolEntry × Unread). done x) same

others_of : (e : PoolEntry) (read : Read (List PoolEntry)) (x : List PoolEntry × Unread) → with_front (e ∷ []) read ≡ Ok x
    → (y : List PoolEntry × Unread) × (read ≡ Ok y) × (e ∷ y.0 ≡ x.0)
others_of e read x h =
    let b = bind_ok read (λ y. Ok (e ∷ y.0, y.1)) x h in
    (b.0, b.1, ap (λ (p : List PoolEntry × Unread). p.0) (ok_is (e ∷ b.0.0, b.0.1) x b.2))

-- entries that are read from the text of entries are these entries
same_entries : (es : List PoolEntry) (at : ℕ) (rest : List ℕ) (x : List PoolEntry × Unread) → AllByRecursion HasText es
    → entries_at (taken es) (record { at = at; bytes = flat_map entry_bytes es ++ rest }) ≡ Ok x → x.0 ≡ es
unfolding entries_at
same_entries [] at rest x texts h = sym (ap (λ (p : List PoolEntry × Unread). p.0) (ok_is ([], record { at = at; bytes = rest }) x h))
same_entries (e ∷ es) at rest x texts h =
    let tail : List ℕ = flat_map entry_bytes es ++ rest in
    let u : Unread = record { at = at; bytes = entry_bytes e ++ tail } in
    let v : Unread = record { at = at + length (entry_bytes e); bytes = tail } in
    let regroup : (entry_bytes e ++ flat_map entry_bytes es) ++ rest ≡ entry_bytes e ++ tail = append_assoc (entry_bytes e)
    (flat_map entry_bytes es) rest in
    let read : entries_at (taken (e ∷ es)) u ≡ Ok x = sym
    (ap (λ (b : List ℕ). entries_at (taken (e ∷ es)) (record { at = at; bytes = b })) regroup) ∙ h in
    let count = length-append (slots_of e) (flat_map slots_of es) in
    elim (cases_Bool (is_wide e)) [
      | inl wide ↦
          let n : taken (e ∷ es) ≡ suc (suc (taken es)) = omega (arith, count, slots_wide e wide) in
          let here : entries_at (suc (suc (taken es))) u ≡ Ok x = sym (ap (λ (k : ℕ). entries_at k u) n) ∙ read in
          let f = first_ok (suc (taken es)) u x here in
          let o = others_of e (entries_at (taken es) v) x
          (sym (wide_step (taken es) u e v (first_same false at e tail f.0 texts.0 f.1) wide) ∙ here) in
          sym o.2 ∙ ap (λ (l : List PoolEntry). e ∷ l) (same_entries es (at + length (entry_bytes e)) rest o.0 texts.1 o.1)
      | inr narrow ↦
          let n : taken (e ∷ es) ≡ suc (taken es) = omega (arith, count, slots_narrow e narrow) in
          let here : entries_at (suc (taken es)) u ≡ Ok x = sym (ap (λ (k : ℕ). entries_at k u) n) ∙ read in
          let f = first_ok (taken es) u x here in
          let o = others_of e (entries_at (taken es) v) x
          (sym (narrow_step (taken es) (is_zero (taken es)) u e v refl
          (first_same (is_zero (taken es)) at e tail f.0 texts.0 f.1) narrow) ∙ here) in
          sym o.2 ∙ ap (λ (l : List PoolEntry). e ∷ l) (same_entries es (at + length (entry_bytes e)) rest o.0 texts.1 o.1)
    ]

-- the pool that the text of entries spells has these entries
pub same_pool : (at : ℕ) (es es' : List PoolEntry) (rest : List ℕ) (v : Unread) → HasTexts es
    → Spells (record { at = at; bytes = pool_bytes es ++ rest }) es' v → es' ≡ es
unfolding pool_at
same_pool at es es' rest v texts s =
    let u : Unread = record { at = at; bytes = pool_bytes es ++ rest } in
    let tail : List ℕ = flat_map entry_bytes es ++ rest in
    let after : Read ℕ → Read (List PoolEntry) = λ r. r >>= λ count. entries_at (count.0 - 1) count.1 >>= λ es. option_map_or
    (λ i. Err (BadIndex i)) (first_bad_index es.0) (Ok es) in
    let count = number_again 2 at (length (places_of es)) tail texts.count in
    let whole : after (Ok (length (places_of es), record { at = at + 2; bytes = tail })) ≡ Ok (es', v) = sym (ap after count)
    ∙ pool_again u es' v s in
    let b = bind_ok (entries_at (length (places_of es) - 1) (record { at = at + 2; bytes = tail }))
    (λ es. option_map_or (λ i. Err (BadIndex i)) (first_bad_index es.0) (Ok es)) (es', v) whole in
    let g = named (first_bad_index b.0.0) b.0 (es', v) b.2 in
    let n : length (places_of es) - 1 ≡ taken es = omega arith in
    let read : entries_at (taken es) (record { at = at + 2; bytes = tail }) ≡ Ok b.0 = sym
    (ap (λ (k : ℕ). entries_at k (record { at = at + 2; bytes = tail })) n) ∙ b.1 in
    sym (ap (λ (p : List PoolEntry × Unread). p.0) g.1) ∙ same_entries es (at + 2) rest b.0 texts.each read
