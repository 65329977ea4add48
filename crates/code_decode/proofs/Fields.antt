-- A field that is read is the field that was written, and what was written is read again.
use Rattle.std.proofs.Common.{◌≡◌, ℕ, ◌^◌, ◌<◌, ◌≤◌, false, ltb, List, [], ◌∷◌, ◌++◌, length, take, drop, Ok, refl, sym, ap, subst}
use Rattle.std.proofs.Common.{◌∙◌, append_assoc, arith, inl, inr, ℤ, pos, negsuc, ◌+ℤ◌, ◌-ℤ◌}
use Rattle.std.specs.Int.{Width, w16, w32, byte_len, from_be_bytes, to_be_bytes, cast_signed, cast_unsigned}
use Rattle.std.specs.Int.RustNames.{FitsSigned}
use Rattle.std.proofs.lemmas.Bool.{cases_lt, ltb-false, le-ltb}
use Rattle.std.proofs.lemmas.Int.{ints, to_z-of_z, of_z-to_z}
use Rattle.std.proofs.lemmas.List.{take_at, drop_at, take-append-drop, length-append, length-take}
use Rattle.std.proofs.lemmas.Nat.{be_bytes_2, be_bytes_4, from_be_bytes-to_be_bytes_2, from_be_bytes-to_be_bytes_4}
pub use Rattle.code_forms.specs.list_views.ByteLists.{IsBytes}
pub use Rattle.code_forms.proofs.list_views.ByteLists.{IsBytes-drop, IsBytes-take, IsBytes-rest}
pub use Rattle.code_forms.proofs.list_views.Steps.{bind_ok, ok_is, guard_ok, guarded}
use Rattle.code_forms.specs.declared.fault.CodeFault.TheVariants.{Truncated}
use Rattle.code_decode.specs.Texts.{signed, distance, Reaches}
use Rattle.code_decode.specs.Reading.{byte_at, number_at, signed_at, target_at, place_of, place_of_sum}

-- what a reader took from the front
pub record Takes (bytes text rest : List ℕ) : Type 0 where
  pub parts : bytes ≡ text ++ rest
  pub rest_fits : IsBytes rest

pub Takes-then : (a x b y c : List ℕ) → Takes a x b → Takes b y c → Takes a (x ++ y) c
Takes-then a x b y c p q = record {
  parts = p.parts ∙ ap (λ (t : List ℕ). x ++ t) q.parts
      ∙ sym (append_assoc x y c);
  rest_fits = q.rest_fits;
}

-- ---- unsigned numbers

pub byte_takes : (pc : ℕ) (bytes : List ℕ) (x : ℕ × List ℕ) → IsBytes bytes → byte_at pc bytes ≡ Ok x
    → Takes bytes (x.0 ∷ []) x.1 × (x.0 < 2 ^ 8)
byte_takes pc [] x fits e = absurd cc
byte_takes pc (b ∷ rest) x fits e =
    subst (λ (y : ℕ × List ℕ). Takes (b ∷ rest) (y.0 ∷ []) y.1 × (y.0 < 2 ^ 8)) (ok_is (b, rest) x e)
    (record { parts = refl; rest_fits = IsBytes-rest b rest fits }, omega (arith, fits 0))

pub record IsWide (w : Width) (limit : ℕ) : Type 0 where
  pub len : (n : ℕ) → length (to_be_bytes w n) ≡ byte_len w
  pub back : (bytes : List ℕ) → length bytes ≡ byte_len w → IsBytes bytes → to_be_bytes w (from_be_bytes w bytes) ≡ bytes
  pub again : (n : ℕ) → n < limit → from_be_bytes w (to_be_bytes w n) ≡ n
  pub below : (bytes : List ℕ) → IsBytes bytes → from_be_bytes w bytes < limit
  pub unsigned : (n : ℕ) → n < limit → cast_unsigned w (cast_signed w n) ≡ n
  pub fits : (n : ℕ) → n < limit → FitsSigned w (cast_signed w n)
  pub signed : (v : ℤ) → FitsSigned w v → cast_signed w (cast_unsigned w v) ≡ v
  pub small : (v : ℤ) → FitsSigned w v → cast_unsigned w v < limit

pub wide16 : IsWide w16 (2 ^ 16)
wide16 = record {
  len = λ n. refl;
  back = λ bytes len fits. be_bytes_2 bytes _ len fits refl;
  again = λ n lt. from_be_bytes-to_be_bytes_2 n lt;
  below = λ bytes fits. omega (arith, fits 0, fits 1);
  unsigned = λ n lt. of_z-to_z w16 n lt;
  fits = λ n lt. search (arith, ints);
  signed = λ v f. to_z-of_z w16 v f;
  small = λ v f. omega (arith, ints);
}

pub wide32 : IsWide w32 (2 ^ 32)
wide32 = record {
  len = λ n. refl;
  back = λ bytes len fits. be_bytes_4 bytes _ len fits refl;
  again = λ n lt. from_be_bytes-to_be_bytes_4 n lt;
  below = λ bytes fits. omega (arith, fits 0, fits 1, fits 2, fits 3);
  unsigned = λ n lt. of_z-to_z w32 n lt;
  fits = λ n lt. search (arith, ints);
  signed = λ v f. to_z-of_z w32 v f;
  small = λ v f. omega (arith, ints);
}

pub number_takes : (w : Width) (limit : ℕ) (wide : IsWide w limit) (pc : ℕ) (bytes : List ℕ) (x : ℕ × List ℕ) → IsBytes bytes
    → number_at w pc bytes ≡ Ok x → Takes bytes (to_be_bytes w x.0) x.1 × (x.0 < limit)
number_takes w limit wide pc bytes x fits e =
    let g = guard_ok (ltb (length bytes) (byte_len w)) (Truncated pc)
    (from_be_bytes w (take (byte_len w) bytes), drop (byte_len w) bytes) x e in
    let long : byte_len w ≤ length bytes = ltb-false _ _ g.0 in
    let front : to_be_bytes w (from_be_bytes w (take (byte_len w) bytes)) ≡ take (byte_len w) bytes = wide.back
    (take (byte_len w) bytes) (omega (arith, length-take (byte_len w) bytes)) (IsBytes-take (byte_len w) bytes fits) in
    subst (λ (y : ℕ × List ℕ). Takes bytes (to_be_bytes w y.0) y.1 × (y.0 < limit)) g.1 (
      record { parts = rw front (sym (take-append-drop (byte_len w) bytes)); rest_fits = IsBytes-drop (byte_len w) bytes fits },
      wide.below (take (byte_len w) bytes) (IsBytes-take (byte_len w) bytes fits),
    )

pub number_again : (w : Width) (limit : ℕ) (wide : IsWide w limit) (pc n : ℕ) (rest : List ℕ) → n < limit
    → number_at w pc (to_be_bytes w n ++ rest) ≡ Ok (n, rest)
number_again w limit wide pc n rest lt =
    let len = wide.len n in
    let long : ltb (length (to_be_bytes w n ++ rest)) (byte_len w) ≡ false = le-ltb _ _
    (omega (arith, length-append (to_be_bytes w n) rest)) in
    rw (long, take_at (to_be_bytes w n) rest (byte_len w) len, drop_at (to_be_bytes w n) rest (byte_len w) len, wide.again n lt) refl

-- ---- signed numbers

pub signed_takes : (w : Width) (limit : ℕ) (wide : IsWide w limit) (pc : ℕ) (bytes : List ℕ) (x : ℤ × List ℕ) → IsBytes bytes
    → signed_at w pc bytes ≡ Ok x → Takes bytes (signed w x.0) x.1 × FitsSigned w x.0
unfolding signed_at
signed_takes w limit wide pc bytes x fits e =
    let b = bind_ok (number_at w pc bytes) (λ n. Ok (cast_signed w n.0, n.1)) x e in
    let t = number_takes w limit wide pc bytes b.0 fits b.1 in
    let back : cast_unsigned w (cast_signed w b.0.0) ≡ b.0.0 = wide.unsigned b.0.0 t.1 in
    subst (λ (y : ℤ × List ℕ). Takes bytes (signed w y.0) y.1 × FitsSigned w y.0) (ok_is (cast_signed w b.0.0, b.0.1) x b.2)
    (subst (λ (k : ℕ). Takes bytes (to_be_bytes w k) b.0.1) (sym back) t.0, wide.fits b.0.0 t.1)

pub signed_again : (w : Width) (limit : ℕ) (wide : IsWide w limit) (pc : ℕ) (v : ℤ) (rest : List ℕ) → FitsSigned w v
    → signed_at w pc (signed w v ++ rest) ≡ Ok (v, rest)
unfolding signed_at
signed_again w limit wide pc v rest f =
    rw (number_again w limit wide pc (cast_unsigned w v) rest (wide.small v f), wide.signed v f) refl

-- ---- targets

place_of_sum_small : (s : ℤ) → place_of_sum s < 65535 → s ≡ pos (place_of_sum s)
place_of_sum_small (pos n) h =
    elim (cases_lt n 65535) [
      | inl lt ↦ grind arith
      | inr le ↦ grind arith
    ]
place_of_sum_small (negsuc n) h = absurd (omega arith)

-- the distance to a place that is reached
pub distance_is : (pc : ℕ) (d : ℤ) → place_of pc d < 65535 → distance pc (place_of pc d) ≡ d
distance_is pc d h =
    let e = place_of_sum_small (pos pc +ℤ d) h in
    omega (arith, ints, e)

pub place_small : (s : ℤ) → place_of_sum s < 2 ^ 16
place_small (pos n) = elim (cases_lt n 65535) [ inl lt ↦ grind arith | inr le ↦ grind arith ]
place_small (negsuc n) = omega arith

place_again : (n : ℕ) → n < 2 ^ 16 → place_of_sum (pos n) ≡ n
place_again n h = elim (cases_lt n 65535) [ inl lt ↦ grind arith | inr le ↦ grind arith ]

-- the place at a distance
pub place_is : (pc target : ℕ) → target < 2 ^ 16 → place_of pc (distance pc target) ≡ target
place_is pc target h =
    let e : pos pc +ℤ (pos target -ℤ pos pc) ≡ pos target = omega (arith, ints) in
    ap place_of_sum e ∙ place_again target h

-- A target that is read has some bytes; where an instruction can stand there, they are those of its distance.
pub record TakesTarget (w : Width) (pc : ℕ) (bytes : List ℕ) (target : ℕ) (rest : List ℕ) : Type 0 where
  pub text : List ℕ
  pub taken : Takes bytes text rest
  pub same : target < 65535 → (text ≡ signed w (distance pc target)) × Reaches w pc target

pub target_takes : (w : Width) (limit : ℕ) (wide : IsWide w limit) (pc : ℕ) (bytes : List ℕ) (x : ℕ × List ℕ) → IsBytes bytes
    → target_at w pc bytes ≡ Ok x → TakesTarget w pc bytes x.0 x.1
unfolding target_at
target_takes w limit wide pc bytes x fits e =
    let b = bind_ok (signed_at w pc bytes) (λ d. Ok (place_of pc d.0, d.1)) x e in
    let t = signed_takes w limit wide pc bytes b.0 fits b.1 in
    subst (λ (y : ℕ × List ℕ). TakesTarget w pc bytes y.0 y.1) (ok_is (place_of pc b.0.0, b.0.1) x b.2)
    (record {
      text = signed w b.0.0;
      taken = t.0;
      same = λ h. let d = distance_is pc b.0.0 h in
          (ap (signed w) (sym d), record { place = place_small (pos pc +ℤ b.0.0); fits = subst (λ (v : ℤ). FitsSigned w v) (sym d) t.1 });
    })

pub target_again : (w : Width) (limit : ℕ) (wide : IsWide w limit) (pc target : ℕ) (rest : List ℕ) → Reaches w pc target
    → target_at w pc (signed w (distance pc target) ++ rest) ≡ Ok (target, rest)
unfolding target_at
target_again w limit wide pc target rest r =
    rw (signed_again w limit wide pc (distance pc target) rest r.fits, place_is pc target r.place) refl
