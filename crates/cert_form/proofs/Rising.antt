-- Lists whose keys rise, with one more entry.
use Rattle.std.proofs.Common.{◌≡◌, ◌<◌, ◌≤◌, ◌+◌, ◌-◌, ℕ, suc, ℤ, List, [], ◌∷◌, ◌++◌, length, Option, slice_get, sym, ap, ◌∙◌, subst, arith}
use Rattle.std.specs.Option.{option_map_or}
use Rattle.lin_core.specs.Rows.{RiseFrom}
use Rattle.cert_form.specs.Fields.{last_of}
use Rattle.cert_form.specs.cert_write.Readable.{RisesBy}

last_pair : {A : Type 0} (x y : A) (rest : List A) → last_of (x ∷ y ∷ rest) ≡ last_of (y ∷ rest)
last_pair x y rest =
    let a : length (x ∷ y ∷ rest) - 1 ≡ suc (length rest) = omega arith in
    let b : length (y ∷ rest) - 1 ≡ length rest = omega arith in
    ap (λ (i : ℕ). slice_get (x ∷ y ∷ rest) i) a ∙ sym (ap (λ (i : ℕ). slice_get (y ∷ rest) i) b)

module _ {A : Type 0} (key : A → ℕ) where
  -- the least key that may come next
  abbrev pub next : List A → ℕ
  next front = option_map_or (λ (x : A). key x + 1) (last_of front) 0

  rises_more : (low end : ℕ) (y : A) (rest : List A) (x : A) → RisesBy key low end (y ∷ rest) → next (y ∷ rest) ≤ key x → key x < end
      → RisesBy key low end (y ∷ (rest ++ x ∷ []))
  rises_more low end y [] x r n l = let above : suc (key y) ≤ key x = omega (arith, n) in (r.0, (r.1.0, (above, (l, tt))))
  rises_more low end y (z ∷ rest) x r n l =
      let later : next (z ∷ rest) ≤ key x = subst (λ (last : Option A). option_map_or (λ (x : A). key x + 1) last 0 ≤ key x)
      (last_pair y z rest) n in
      (r.0, (r.1.0, rises_more (suc (key y)) end z rest x r.1.1 later l))

  pub rises_push : (end : ℕ) (front : List A) (x : A) → RisesBy key 0 end front → next front ≤ key x → key x < end
      → RisesBy key 0 end (front ++ x ∷ [])
  rises_push end [] x r n l = (omega arith, (l, tt))
  rises_push end (y ∷ rest) x r n l = rises_more 0 end y rest x r n l

pub rise_from : (low end : ℕ) (xs : List (ℕ × ℤ)) → RisesBy (λ (x : ℕ × ℤ). x.0) low end xs → RiseFrom low end xs
rise_from low end [] r = tt
rise_from low end (x ∷ xs) r = (r.0, r.1.0, rise_from (suc x.0) end xs r.1.1)
