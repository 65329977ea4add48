-- An entry that is read is spelled so, and what is spelled so is read.
use Rattle.std.proofs.Common.{◌≡◌, ℕ, ℤ, ◌+◌, ◌-◌, ◌≤◌, Bool, true, false, cond, eqb, leb, ◌&&◌, List, [], ◌∷◌, ◌++◌, length}
use Rattle.std.proofs.Common.{Option, Some, None, Result, Ok, Err, refl, sym, ap, subst, ◌∙◌, arith, inl, inr, ◌⊎◌, leb-true}
use Rattle.std.specs.Prelude.{position}
use Rattle.std.specs.Option.{option_map_or}
use Rattle.std.proofs.lemmas.Bool.{eqb-true, ne_eqb, cases_lt, and_parts}
use Rattle.list_views.proofs.Options.{cond_either}
use Rattle.class_pool.specs.declared.entry.PoolEntry.{PoolEntry}
use Rattle.class_pool.specs.declared.entry.PoolEntry.TheVariants.{Utf8, Integer, Float, Long, Double, Class, Str, Member}
use Rattle.class_pool.specs.declared.entry.PoolEntry.TheVariants.{NameAndType, MethodHandle, MethodType, InvokeDynamic}
use Rattle.class_pool.specs.declared.fault.PoolFault.{PoolFault}
use Rattle.class_pool.specs.declared.fault.PoolFault.TheVariants.{BadTag, BadUtf8}
use Rattle.class_pool.specs.Entry.{tag_of, content_of, is_wide, entry_bytes, is_barred, HasText, IsAllowed, Fits}
use Rattle.class_pool.specs.Reading.{◌>>=◌, Read, Unread, number_at, signed_at, counted_at, indexes_at, handle_at, content_at}
use Rattle.class_pool.specs.Reading.{entry_text_at, text_rule, is_wide_tag, starts_wide, entry_at_place}
use Rattle.class_pool.proofs.Fields.{IsBytes, bind_ok, guard_ok, ok_is, Takes, Takes-then, back_2, back_4, back_8, number_takes}
use Rattle.class_pool.proofs.Fields.{number_again, byte_takes, byte_again, signed_takes, signed_again, counted_takes, counted_again}
use Rattle.class_pool.proofs.Fields.{indexes_takes, indexes_again, handle_takes, handle_again}

-- a field that was read and made into an entry
mapped : {A : Type 0} (r : Read A) (make : A → PoolEntry) (x : PoolEntry × Unread) → (r >>= λ k. Ok (make k.0, k.1)) ≡ Ok x
    → (k : A × Unread) × (r ≡ Ok k) × ((make k.0, k.1) ≡ x)
mapped r make x e =
    let b = bind_ok r (λ k. Ok (make k.0, k.1)) x e in
    (b.0, b.1, ok_is (make b.0.0, b.0.1) x b.2)

abbrev IsContent : ℕ → Unread → PoolEntry × Unread → Type 0
IsContent tag u x = Takes u (content_of x.0) x.1 × (tag_of x.0 ≡ tag) × HasText x.0

content_takes : (at tag : ℕ) (u : Unread) (x : PoolEntry × Unread) → IsBytes u.bytes → content_at at tag u ≡ Ok x → IsContent tag u x
unfolding content_at
content_takes at tag u x fits e =
    let P : PoolEntry × Unread → Type 0 = λ y. IsContent tag u y in
    elim (cond_either (eqb tag 1) _ _ _ e) [
      | inl (is, e1) ↦
          let m = mapped (counted_at u) Utf8 x e1 in
          let t = counted_takes u m.0 fits m.1 in
          subst P m.2 (t.0, sym (eqb-true _ _ is), t.1)
      | inr (_, e2) ↦ elim (cond_either (eqb tag 3) _ _ _ e2) [
        | inl (is, e1) ↦
            let m = mapped (signed_at u) Integer x e1 in
            let t = signed_takes u m.0 fits m.1 in
            subst P m.2 (t.0, sym (eqb-true _ _ is), t.1)
        | inr (_, e3) ↦ elim (cond_either (eqb tag 4) _ _ _ e3) [
          | inl (is, e1) ↦
              let m = mapped (number_at 4 u) Float x e1 in
              let t = number_takes 4 back_4 u m.0 fits m.1 in
              subst P m.2 (t.0, sym (eqb-true _ _ is), t.1)
          | inr (_, e4) ↦ elim (cond_either (eqb tag 5) _ _ _ e4) [
            | inl (is, e1) ↦
                let m = mapped (number_at 8 u) Long x e1 in
                let t = number_takes 8 back_8 u m.0 fits m.1 in
                subst P m.2 (t.0, sym (eqb-true _ _ is), t.1)
            | inr (_, e5) ↦ elim (cond_either (eqb tag 6) _ _ _ e5) [
              | inl (is, e1) ↦
                  let m = mapped (number_at 8 u) Double x e1 in
                  let t = number_takes 8 back_8 u m.0 fits m.1 in
                  subst P m.2 (t.0, sym (eqb-true _ _ is), t.1)
              | inr (_, e6) ↦ elim (cond_either (eqb tag 7) _ _ _ e6) [
                | inl (is, e1) ↦
                    let m = mapped (number_at 2 u) Class x e1 in
                    let t = number_takes 2 back_2 u m.0 fits m.1 in
                    subst P m.2 (t.0, sym (eqb-true _ _ is), t.1)
                | inr (_, e7) ↦ elim (cond_either (eqb tag 8) _ _ _ e7) [
                  | inl (is, e1) ↦
                      let m = mapped (number_at 2 u) Str x e1 in
                      let t = number_takes 2 back_2 u m.0 fits m.1 in
                      subst P m.2 (t.0, sym (eqb-true _ _ is), t.1)
                  | inr (_, e8) ↦ elim (cond_either (leb 9 tag && leb tag 11) _ _ _ e8) [
                    | inl (is, e1) ↦
                        let m = mapped (indexes_at u) (λ p. Member tag p.0 p.1) x e1 in
                        let t = indexes_takes u m.0 fits m.1 in
                        let b = and_parts (leb 9 tag) (leb tag 11) is in
                        subst P m.2 (t.0, refl, (leb-true _ _ b.0, leb-true _ _ b.1, t.1, t.2))
                    | inr (_, e9) ↦ elim (cond_either (eqb tag 12) _ _ _ e9) [
                      | inl (is, e1) ↦
                          let m = mapped (indexes_at u) (λ p. NameAndType p.0 p.1) x e1 in
                          let t = indexes_takes u m.0 fits m.1 in
                          subst P m.2 (t.0, sym (eqb-true _ _ is), (t.1, t.2))
                      | inr (_, e10) ↦ elim (cond_either (eqb tag 15) _ _ _ e10) [
                        | inl (is, e1) ↦
                            let m = mapped (handle_at u) (λ p. MethodHandle p.0 p.1) x e1 in
                            let t = handle_takes u m.0 fits m.1 in
                            subst P m.2 (t.0, sym (eqb-true _ _ is), (t.1, t.2))
                        | inr (_, e11) ↦ elim (cond_either (eqb tag 16) _ _ _ e11) [
                          | inl (is, e1) ↦
                              let m = mapped (number_at 2 u) MethodType x e1 in
                              let t = number_takes 2 back_2 u m.0 fits m.1 in
                              subst P m.2 (t.0, sym (eqb-true _ _ is), t.1)
                          | inr (_, e12) ↦ elim (cond_either (eqb tag 18) _ _ _ e12) [
                            | inl (is, e1) ↦
                                let m = mapped (indexes_at u) (λ p. InvokeDynamic p.0 p.1) x e1 in
                                let t = indexes_takes u m.0 fits m.1 in
                                subst P m.2 (t.0, sym (eqb-true _ _ is), (t.1, t.2))
                            | inr (_, e13) ↦ absurd cc
                          ]
                        ]
                      ]
                    ]
                  ]
                ]
              ]
            ]
          ]
        ]
      ]
    ]

-- ---- what is spelled is read

moved : (r : Read PoolEntry) (e : PoolEntry) (a b : ℕ) (rest : List ℕ) → r ≡ Ok (e, record { at = a; bytes = rest }) → a ≡ b
    → r ≡ Ok (e, record { at = b; bytes = rest })
moved r e a b rest h same = h ∙ ap (λ (k : ℕ). Ok (e, record { at = k; bytes = rest })) same

three : (tag : ℕ) → 9 ≤ tag → tag ≤ 11 → (tag ≡ 9) ⊎ ((tag ≡ 10) ⊎ (tag ≡ 11))
three tag low high =
    elim (cases_lt tag 10) [
      | inl below ↦ inl (omega arith)
      | inr above ↦ elim (cases_lt tag 11) [ inl below ↦ inr (inl (omega arith)) | inr here ↦ inr (inr (omega arith)) ]
    ]

abbrev Again : ℕ → ℕ → PoolEntry → List ℕ → Type 0
Again start at e rest = content_at start (tag_of e) (record { at = at; bytes = content_of e ++ rest }) ≡ Ok
    (e, record { at = at + length (content_of e); bytes = rest })

content_again : (start at : ℕ) (e : PoolEntry) (rest : List ℕ) → HasText e → Again start at e rest
unfolding content_at
content_again start at (Utf8 text) rest h =
    moved _ (Utf8 text) (at + 2 + length text) _ rest
    (ap (λ (r : Read (List ℕ)). r >>= λ t. Ok (Utf8 t.0, t.1)) (counted_again at text rest h)) (omega arith)
content_again start at (Integer value) rest h = ap (λ (r : Read ℤ). r >>= λ n. Ok (Integer n.0, n.1)) (signed_again at value rest h)
content_again start at (Float bits) rest h = ap (λ (r : Read ℕ). r >>= λ n. Ok (Float n.0, n.1)) (number_again 4 at bits rest h)
content_again start at (Long bits) rest h = ap (λ (r : Read ℕ). r >>= λ n. Ok (Long n.0, n.1)) (number_again 8 at bits rest h)
content_again start at (Double bits) rest h = ap (λ (r : Read ℕ). r >>= λ n. Ok (Double n.0, n.1)) (number_again 8 at bits rest h)
content_again start at (Class name) rest h = ap (λ (r : Read ℕ). r >>= λ n. Ok (Class n.0, n.1)) (number_again 2 at name rest h)
content_again start at (Str text) rest h = ap (λ (r : Read ℕ). r >>= λ n. Ok (Str n.0, n.1)) (number_again 2 at text rest h)
content_again start at (Member tag class name_and_type) rest h =
    let P : ℕ → Type 0 = λ t. Again start at (Member t class name_and_type) rest in
    let read = indexes_again at class name_and_type rest h.2 h.3 in
    elim (three tag h.0 h.1) [
      | inl is ↦ subst P (sym is)
          (moved _ (Member 9 class name_and_type) (at + 2 + 2) _ rest
          (ap (λ (r : Read (ℕ × ℕ)). r >>= λ p. Ok (Member 9 p.0.0 p.0.1, p.1)) read) (omega arith))
      | inr (inl is) ↦ subst P (sym is)
          (moved _ (Member 10 class name_and_type) (at + 2 + 2) _ rest
          (ap (λ (r : Read (ℕ × ℕ)). r >>= λ p. Ok (Member 10 p.0.0 p.0.1, p.1)) read) (omega arith))
      | inr (inr is) ↦ subst P (sym is)
          (moved _ (Member 11 class name_and_type) (at + 2 + 2) _ rest
          (ap (λ (r : Read (ℕ × ℕ)). r >>= λ p. Ok (Member 11 p.0.0 p.0.1, p.1)) read) (omega arith))
    ]
content_again start at (NameAndType name descriptor) rest h =
    moved _ (NameAndType name descriptor) (at + 2 + 2) _ rest
    (ap (λ (r : Read (ℕ × ℕ)). r >>= λ p. Ok (NameAndType p.0.0 p.0.1, p.1)) (indexes_again at name descriptor rest h.0 h.1))
    (omega arith)
content_again start at (MethodHandle kind entry) rest h =
    moved _ (MethodHandle kind entry) (at + 1 + 2) _ rest
    (ap (λ (r : Read (ℕ × ℕ)). r >>= λ p. Ok (MethodHandle p.0.0 p.0.1, p.1)) (handle_again at kind entry rest h.1)) (omega arith)
content_again start at (MethodType descriptor) rest h = ap (λ (r : Read ℕ). r >>= λ n. Ok (MethodType n.0, n.1))
    (number_again 2 at descriptor rest h)
content_again start at (InvokeDynamic first name_and_type) rest h =
    moved _ (InvokeDynamic first name_and_type) (at + 2 + 2) _ rest
    (ap (λ (r : Read (ℕ × ℕ)). r >>= λ p. Ok (InvokeDynamic p.0.0 p.0.1, p.1))
    (indexes_again at first name_and_type rest h.0 h.1)) (omega arith)

pub entry_takes : (u : Unread) (x : PoolEntry × Unread) → IsBytes u.bytes → entry_text_at u ≡ Ok x → Takes u (entry_bytes x.0) x.1
    × HasText x.0
unfolding entry_text_at
entry_takes u x fits e =
    let b = bind_ok (number_at 1 u) (λ tag. content_at u.at tag.0 tag.1) x e in
    let t = byte_takes u b.0 fits b.1 in
    let c = content_takes u.at b.0.0 b.0.1 x t.fits b.2 in
    let both = Takes-then u (b.0.0 ∷ []) b.0.1 (content_of x.0) x.1 t c.0 in
    (subst (λ (tag : ℕ). Takes u (tag ∷ content_of x.0) x.1) (sym c.1) both, c.2)

pub entry_again : (at : ℕ) (e : PoolEntry) (rest : List ℕ) → HasText e
    → entry_text_at (record { at = at; bytes = entry_bytes e ++ rest }) ≡ Ok (e, record { at = at + length (entry_bytes e); bytes = rest })
unfolding entry_text_at
entry_again at e rest h =
    moved _ e (at + 1 + length (content_of e)) _ rest
    (ap (λ (r : Read ℕ). r >>= λ tag. content_at at tag.0 tag.1) (byte_again at (tag_of e) (content_of e ++ rest))
    ∙ content_again at (at + 1) e rest h)
    (omega arith)

-- ---- an entry under its rules

none_from : (o : Option ℕ) (f : ℕ → PoolFault) (y : Unit {0}) → option_map_or (λ k. Err (f k)) o (Ok tt) ≡ Ok y → o ≡ None
none_from None f y e = refl
none_from (Some k) f y e = absurd cc

allowed : (e : PoolEntry) (next : ℕ) (y : Unit {0}) → text_rule e next ≡ Ok y → IsAllowed e
allowed (Utf8 text) next y h = none_from (position is_barred text) (λ k. BadUtf8 (next - length text + k)) y h
allowed _ next y h = tt

allowed_again : (e : PoolEntry) (next : ℕ) → IsAllowed e → text_rule e next ≡ Ok tt
allowed_again (Utf8 text) next h = ap (λ (o : Option ℕ). option_map_or (λ k. Err (BadUtf8 (next - length text + k))) o (Ok tt)) h
allowed_again _ next h = refl

pub record IsTaken (last : Bool) (u : Unread) (x : PoolEntry × Unread) : Type 0 where
  pub takes : Takes u (entry_bytes x.0) x.1
  pub fits : Fits x.0
  pub narrow : last ≡ true → is_wide x.0 ≡ false
  pub text : entry_text_at u ≡ Ok x

pub place_text : (last : Bool) (u : Unread) (x : PoolEntry × Unread) → entry_at_place last u ≡ Ok x
    → ((last && starts_wide u.bytes) ≡ false) × ((entry_text_at u ≡ Ok x) × IsAllowed x.0)
unfolding entry_at_place
place_text last u x e =
    let g = guard_ok (last && starts_wide u.bytes) (BadTag u.at) (entry_text_at u >>= λ y. text_rule y.0 y.1.at >>= λ _. Ok y) x e in
    let b = bind_ok (entry_text_at u) (λ y. text_rule y.0 y.1.at >>= λ _. Ok y) x g.1 in
    let c = bind_ok (text_rule b.0.0 b.0.1.at) (λ _. Ok b.0) x b.2 in (
      g.0,
      subst (λ (y : PoolEntry × Unread). (entry_text_at u ≡ Ok y) × IsAllowed y.0) (ok_is b.0 x c.2)
          (b.1, allowed b.0.0 b.0.1.at c.0 c.1),
    )

narrow_member : (tag : ℕ) → 9 ≤ tag → is_wide_tag tag ≡ false
narrow_member tag low = rw (ne_eqb tag 5 (omega arith), ne_eqb tag 6 (omega arith)) refl

-- the tags of the entries that take two places
pub wide_tag : (e : PoolEntry) → HasText e → is_wide_tag (tag_of e) ≡ is_wide e
wide_tag (Member tag class name_and_type) h = narrow_member tag h.0
wide_tag _ h = refl

pub place_takes : (last : Bool) (u : Unread) (x : PoolEntry × Unread) → IsBytes u.bytes → entry_at_place last u ≡ Ok x → IsTaken last u x
place_takes last u x fits e =
    let p = place_text last u x e in
    let t = entry_takes u x fits p.1.0 in
    let same : starts_wide u.bytes ≡ is_wide x.0 = ap starts_wide t.0.parts ∙ wide_tag x.0 t.1 in
    record {
      takes = t.0;
      fits = (t.1, p.1.1);
      narrow = λ is. sym (ap (λ (b : Bool). b && is_wide x.0) is) ∙ ap (λ (b : Bool). last && b) (sym same) ∙ p.0;
      text = p.1.0;
    }

pub place_again : (last : Bool) (at : ℕ) (e : PoolEntry) (rest : List ℕ) → Fits e → (last && is_wide e) ≡ false
    → entry_at_place last (record { at = at; bytes = entry_bytes e ++ rest }) ≡ Ok
    (e, record { at = at + length (entry_bytes e); bytes = rest })
unfolding entry_at_place
place_again last at e rest fits narrow =
    let u : Unread = record { at = at; bytes = entry_bytes e ++ rest } in
    let v : Unread = record { at = at + length (entry_bytes e); bytes = rest } in
    ap (λ (b : Bool). cond b (Err (BadTag at)) (entry_text_at u >>= λ y. text_rule y.0 y.1.at >>= λ _. Ok y))
    (ap (λ (b : Bool). last && b) (wide_tag e fits.0) ∙ narrow)
    ∙ ap (λ (r : Read PoolEntry). r >>= λ y. text_rule y.0 y.1.at >>= λ _. Ok y) (entry_again at e rest fits.0)
    ∙ ap (λ (r : Result (Unit {0}) PoolFault). r >>= λ _. Ok (e, v)) (allowed_again e v.at fits.1)
