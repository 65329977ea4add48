-- A field that is read is the field that was written, and what was written is read again.
use Rattle.std.proofs.Common.{◌≡◌, ℕ, ℤ, ◌+◌, ◌^◌, ◌<◌, ◌≤◌, Bool, true, false, cond, ltb, List, [], ◌∷◌, ◌++◌, length, take, drop}
use Rattle.std.proofs.Common.{Result, Ok, Err, refl, sym, ap, subst, ◌∙◌, append_assoc, arith}
use Rattle.std.specs.Prelude.{FitsSigned, pos, negsuc}
use borrow.Author.Gap.{read_sfits}
use Rattle.std.specs.Int.{w32, cast_signed, cast_unsigned}
use Rattle.std.proofs.lemmas.Bool.{ltb-false, le-ltb}
use Rattle.std.proofs.lemmas.List.{append-nil, take_at, drop_at, take-append-drop, length-append, length-take}
use Rattle.std.proofs.lemmas.Nat.{be_bytes_2, be_bytes_4, be_bytes_8}
use Rattle.std.proofs.lemmas.Int.{to_z-of_z, of_z-to_z}
use Rattle.byteorder.specs.Endian.{big_bytes, big_number}
use Rattle.byteorder.specs.Numbers.{big_number-reads_back, big_from-lt, length-bytes_high_first}
pub use Rattle.list_views.specs.ByteLists.{IsBytes}
pub use Rattle.list_views.proofs.ByteLists.{IsBytes-drop, IsBytes-take}
pub use Rattle.list_views.proofs.Steps.{bind_ok, ok_is}
use Rattle.class_pool.specs.declared.fault.PoolFault.{PoolFault}
use Rattle.class_pool.specs.declared.fault.PoolFault.TheVariants.{Truncated}
use Rattle.class_pool.specs.Reading.{◌>>=◌, Read, Unread, field_at, number_at, signed_at, counted_at, indexes_at, handle_at}

abbrev pub done : {A : Type 0} → A → Result A PoolFault
done x = Ok x

-- a test that found no fault
pub guard_ok : {A : Type 0} (b : Bool) (d : PoolFault) (x : Result A PoolFault) (y : A) → cond b (Err d) x ≡ Ok y
    → (b ≡ false) × (x ≡ Ok y)
guard_ok true d x y e = absurd cc
guard_ok false d x y e = (refl, e)

-- what a reader took from the front
pub record Takes (from : Unread) (text : List ℕ) (rest : Unread) : Type 0 where
  pub parts : from.bytes ≡ text ++ rest.bytes
  pub place : rest.at ≡ from.at + length text
  pub fits : IsBytes rest.bytes

pub Takes-then : (a : Unread) (x : List ℕ) (b : Unread) (y : List ℕ) (c : Unread) → Takes a x b → Takes b y c → Takes a (x ++ y) c
Takes-then a x b y c p q = record {
  parts = p.parts ∙ ap (λ (t : List ℕ). x ++ t) q.parts ∙ sym (append_assoc x y c.bytes);
  place = omega (arith, p.place, q.place, length-append x y);
  fits = q.fits;
}

-- the place and the bytes behind a text
abbrev pub behind : Unread → List ℕ → List ℕ → Unread
behind u text rest = record { at = u.at + length text; bytes = rest }

-- ---- a field

pub field_takes : (n : ℕ) (u : Unread) (x : List ℕ × Unread) → IsBytes u.bytes → field_at n u ≡ Ok x
    → Takes u x.0 x.1 × (length x.0 ≡ n) × IsBytes x.0
field_takes n u x fits e =
    let g = guard_ok (ltb (length u.bytes) n) (Truncated u.at)
    (Ok (take n u.bytes, record { at = u.at + n; bytes = drop n u.bytes })) x e in
    let long : n ≤ length u.bytes = ltb-false _ _ g.0 in
    let len : length (take n u.bytes) ≡ n = omega (arith, length-take n u.bytes) in
    let made : List ℕ × Unread = (take n u.bytes, record { at = u.at + n; bytes = drop n u.bytes }) in
    subst (λ (y : List ℕ × Unread). Takes u y.0 y.1 × (length y.0 ≡ n) × IsBytes y.0) (ok_is made x g.1) (
      record { parts = sym (take-append-drop n u.bytes); place = omega (arith, len); fits = IsBytes-drop n u.bytes fits },
      len,
      IsBytes-take n u.bytes fits,
    )

pub field_again : (n at : ℕ) (text rest : List ℕ) → length text ≡ n
    → field_at n (record { at = at; bytes = text ++ rest }) ≡ Ok (text, record { at = at + n; bytes = rest })
field_again n at text rest len =
    let long : ltb (length (text ++ rest)) n ≡ false = le-ltb _ _ (omega (arith, len, length-append text rest)) in
    rw (long, take_at text rest n len, drop_at text rest n len) refl

-- ---- numbers

-- the bytes of the number in n bytes are these bytes
abbrev pub GivesBack : ℕ → Type 0
GivesBack n = (bytes : List ℕ) → length bytes ≡ n → IsBytes bytes → big_bytes n (big_number n bytes) ≡ bytes

pub back_1 : GivesBack 1
back_1 [] len fits = absurd (omega arith)
back_1 (b ∷ []) len fits = let h = fits 0 in ap (λ (x : ℕ). x ∷ []) (omega arith)
back_1 (b ∷ c ∷ bs) len fits = absurd (omega arith)

pub back_2 : GivesBack 2
back_2 bytes len fits = be_bytes_2 bytes (big_number 2 bytes) len fits (omega arith)

pub back_4 : GivesBack 4
back_4 bytes len fits = be_bytes_4 bytes (big_number 4 bytes) len fits (omega arith)

pub back_8 : GivesBack 8
back_8 bytes len fits = be_bytes_8 bytes (big_number 8 bytes) len fits (omega arith)

pub number_takes : (n : ℕ) → GivesBack n → (u : Unread) (x : ℕ × Unread) → IsBytes u.bytes → number_at n u ≡ Ok x
    → Takes u (big_bytes n x.0) x.1 × (x.0 < 256 ^ n)
number_takes n back u x fits e =
    let b = bind_ok (field_at n u) (λ f. Ok (big_number n f.0, f.1)) x e in
    let t = field_takes n u b.0 fits b.1 in
    let made : ℕ × Unread = (big_number n b.0.0, b.0.1) in
    subst (λ (y : ℕ × Unread). Takes u (big_bytes n y.0) y.1 × (y.0 < 256 ^ n)) (ok_is made x b.2)
    (subst (λ (text : List ℕ). Takes u text b.0.1) (sym (back b.0.0 t.1 t.2)) t.0, big_from-lt 0 n b.0.0 t.2)

pub number_again : (n at x : ℕ) (rest : List ℕ) → x < 256 ^ n
    → number_at n (record { at = at; bytes = big_bytes n x ++ rest }) ≡ Ok (x, record { at = at + n; bytes = rest })
number_again n at x rest lt =
    let read : big_number n (big_bytes n x) ≡ x = ap (big_number n) (sym (append-nil (big_bytes n x))) ∙ big_number-reads_back n x [] lt in
    rw (field_again n at (big_bytes n x) rest (length-bytes_high_first n x), read) refl

-- one byte
pub byte_again : (at b : ℕ) (rest : List ℕ)
    → number_at 1 (record { at = at; bytes = b ∷ rest }) ≡ Ok (b, record { at = at + 1; bytes = rest })
byte_again at b rest =
    let read : big_number 1 (b ∷ []) ≡ b = omega arith in
    rw (field_again 1 at (b ∷ []) rest refl, read) refl

pub byte_takes : (u : Unread) (x : ℕ × Unread) → IsBytes u.bytes → number_at 1 u ≡ Ok x → Takes u (x.0 ∷ []) x.1
byte_takes u x fits e =
    let t = number_takes 1 back_1 u x fits e in
    let same : big_bytes 1 x.0 ≡ x.0 ∷ [] = ap (λ (b : ℕ). b ∷ []) (omega (arith, t.1)) in
    subst (λ (text : List ℕ). Takes u text x.1) same t.0

-- ---- signed numbers

pub signed_takes : (u : Unread) (x : ℤ × Unread) → IsBytes u.bytes → signed_at u ≡ Ok x
    → Takes u (big_bytes 4 (cast_unsigned w32 x.0)) x.1 × FitsSigned w32 x.0
signed_takes u x fits e =
    let b = bind_ok (field_at 4 u) (λ f. Ok (cast_signed w32 (big_number 4 f.0), f.1)) x e in
    let t = field_takes 4 u b.0 fits b.1 in
    let below : big_number 4 b.0.0 < 2 ^ 32 = big_from-lt 0 4 b.0.0 t.2 in
    let made : ℤ × Unread = (cast_signed w32 (big_number 4 b.0.0), b.0.1) in
    let text : b.0.0 ≡ big_bytes 4 (cast_unsigned w32 made.0) = sym (ap (big_bytes 4) (of_z-to_z w32 (big_number 4 b.0.0) below)
    ∙ back_4 b.0.0 t.1 t.2) in
    subst (λ (y : ℤ × Unread). Takes u (big_bytes 4 (cast_unsigned w32 y.0)) y.1 × FitsSigned w32 y.0) (ok_is made x b.2)
    (subst (λ (w : List ℕ). Takes u w b.0.1) text t.0, read_sfits w32 (big_number 4 b.0.0))

signed_below : (z : ℤ) → FitsSigned w32 z → cast_unsigned w32 z < 2 ^ 32
signed_below (pos n) h = omega (arith, h.sfits)
signed_below (negsuc n) h = omega arith

pub signed_again : (at : ℕ) (z : ℤ) (rest : List ℕ) → FitsSigned w32 z
    → signed_at (record { at = at; bytes = big_bytes 4 (cast_unsigned w32 z) ++ rest }) ≡ Ok (z, record { at = at + 4; bytes = rest })
signed_again at z rest h =
    let m = cast_unsigned w32 z in
    let back : cast_signed w32 (big_number 4 (big_bytes 4 m)) ≡ z = ap (cast_signed w32)
    (big_number-reads_back 4 m [] (signed_below z h)) ∙ to_z-of_z w32 z h in
    ap (λ (r : Read (List ℕ)). r >>= λ f. Ok (cast_signed w32 (big_number 4 f.0), f.1)) (field_again 4 at (big_bytes 4 m) rest refl)
    ∙ ap (λ (k : ℤ). Ok (k, record { at = at + 4; bytes = rest })) back

-- ---- a text behind its length

pub counted_takes : (u : Unread) (x : List ℕ × Unread) → IsBytes u.bytes → counted_at u ≡ Ok x
    → Takes u (big_bytes 2 (length x.0) ++ x.0) x.1 × (length x.0 < 2 ^ 16)
unfolding counted_at
counted_takes u x fits e =
    let b = bind_ok (number_at 2 u) (λ n. field_at n.0 n.1) x e in
    let t = number_takes 2 back_2 u b.0 fits b.1 in
    let f = field_takes b.0.0 b.0.1 x t.0.fits b.2 in
    let both = Takes-then u (big_bytes 2 b.0.0) b.0.1 x.0 x.1 t.0 f.0 in
    (subst (λ (k : ℕ). Takes u (big_bytes 2 k ++ x.0) x.1) (sym f.1) both, omega (arith, t.1, f.1))

pub counted_again : (at : ℕ) (text rest : List ℕ) → length text < 2 ^ 16
    → counted_at (record { at = at; bytes = (big_bytes 2 (length text) ++ text) ++ rest }) ≡ Ok
    (text, record { at = at + 2 + length text; bytes = rest })
unfolding counted_at
counted_again at text rest lt =
    ap (λ (r : Read ℕ). r >>= λ n. field_at n.0 n.1) (number_again 2 at (length text) (text ++ rest) lt)
    ∙ field_again (length text) (at + 2) text rest refl

-- ---- two indexes

pub indexes_takes : (u : Unread) (x : (ℕ × ℕ) × Unread) → IsBytes u.bytes → indexes_at u ≡ Ok x
    → Takes u (big_bytes 2 x.0.0 ++ big_bytes 2 x.0.1) x.1 × (x.0.0 < 2 ^ 16) × (x.0.1 < 2 ^ 16)
unfolding indexes_at
indexes_takes u x fits e =
    let a = bind_ok (number_at 2 u) (λ first. number_at 2 first.1 >>= λ second. Ok ((first.0, second.0), second.1)) x e in
    let b = bind_ok (number_at 2 a.0.1) (λ second. Ok ((a.0.0, second.0), second.1)) x a.2 in
    let s = number_takes 2 back_2 u a.0 fits a.1 in
    let t = number_takes 2 back_2 a.0.1 b.0 s.0.fits b.1 in
    let made : (ℕ × ℕ) × Unread = ((a.0.0, b.0.0), b.0.1) in
    subst (λ (y : (ℕ × ℕ) × Unread). Takes u (big_bytes 2 y.0.0 ++ big_bytes 2 y.0.1) y.1 × (y.0.0 < 2 ^ 16) × (y.0.1 < 2 ^ 16))
    (ok_is made x b.2)
    (Takes-then u (big_bytes 2 a.0.0) a.0.1 (big_bytes 2 b.0.0) b.0.1 s.0 t.0, s.1, t.1)

pub indexes_again : (at a b : ℕ) (rest : List ℕ) → a < 2 ^ 16 → b < 2 ^ 16
    → indexes_at (record { at = at; bytes = (big_bytes 2 a ++ big_bytes 2 b) ++ rest }) ≡ Ok
    ((a, b), record { at = at + 2 + 2; bytes = rest })
unfolding indexes_at
indexes_again at a b rest la lb =
    ap (λ (r : Read ℕ). r >>= λ first. number_at 2 first.1 >>= λ second. Ok ((first.0, second.0), second.1))
    (number_again 2 at a (big_bytes 2 b ++ rest) la)
    ∙ ap (λ (r : Read ℕ). r >>= λ second. Ok ((a, second.0), second.1)) (number_again 2 (at + 2) b rest lb)

-- ---- a byte and an index

pub handle_takes : (u : Unread) (x : (ℕ × ℕ) × Unread) → IsBytes u.bytes → handle_at u ≡ Ok x
    → Takes u (x.0.0 ∷ big_bytes 2 x.0.1) x.1 × (x.0.0 < 2 ^ 8) × (x.0.1 < 2 ^ 16)
unfolding handle_at
handle_takes u x fits e =
    let a = bind_ok (number_at 1 u) (λ kind. number_at 2 kind.1 >>= λ entry. Ok ((kind.0, entry.0), entry.1)) x e in
    let b = bind_ok (number_at 2 a.0.1) (λ entry. Ok ((a.0.0, entry.0), entry.1)) x a.2 in
    let s = byte_takes u a.0 fits a.1 in
    let below = number_takes 1 back_1 u a.0 fits a.1 in
    let t = number_takes 2 back_2 a.0.1 b.0 s.fits b.1 in
    let made : (ℕ × ℕ) × Unread = ((a.0.0, b.0.0), b.0.1) in
    subst (λ (y : (ℕ × ℕ) × Unread). Takes u (y.0.0 ∷ big_bytes 2 y.0.1) y.1 × (y.0.0 < 2 ^ 8) × (y.0.1 < 2 ^ 16)) (ok_is made x b.2)
    (Takes-then u (a.0.0 ∷ []) a.0.1 (big_bytes 2 b.0.0) b.0.1 s t.0, below.1, t.1)

pub handle_again : (at kind entry : ℕ) (rest : List ℕ) → entry < 2 ^ 16
    → handle_at (record { at = at; bytes = (kind ∷ big_bytes 2 entry) ++ rest }) ≡ Ok
    ((kind, entry), record { at = at + 1 + 2; bytes = rest })
unfolding handle_at
handle_again at kind entry rest lt =
    ap (λ (r : Read ℕ). r >>= λ kind. number_at 2 kind.1 >>= λ entry. Ok ((kind.0, entry.0), entry.1))
    (byte_again at kind (big_bytes 2 entry ++ rest))
    ∙ ap (λ (r : Read ℕ). r >>= λ entry. Ok ((kind, entry.0), entry.1)) (number_again 2 (at + 1) entry rest lt)
