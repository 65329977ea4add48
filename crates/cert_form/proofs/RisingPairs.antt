-- Lists of pairs that were read rise, and their pairs can be added to a set one after another.
use Rattle.std.proofs.Common.{◌≡◌, ℕ, zero, suc, ◌+◌, ◌-◌, ◌<◌, ◌≤◌, ◌==◌, ◌&&◌, ◌||◌, nat_lt, Bool, true, false, cond, List, []}
use Rattle.std.proofs.Common.{◌∷◌, ◌++◌, length, take, Result, Ok, Err, Option, Some, None, slice_get, get_or, min, max, refl, sym}
use Rattle.std.proofs.Common.{ap, ◌∙◌, subst, arith}
use Rattle.std.proofs.lemmas.Bool.Decides.{nat_tests}
use Rattle.std.proofs.lemmas.Bool.{and_parts}
use Rattle.std.proofs.lemmas.List.{take_more}
use Rattle.std.specs.Prelude.{IfOk}
use Rattle.std.specs.Option.{option_map_or}
use Rattle.abs_cells.proofs.Checking.{low_pair}
use Rattle.list_views.proofs.Orders.{nat_lt_true}
use Rattle.json_view.specs.Located.{Located}
use Rattle.abs_cells.specs.PairLists.{is_before, is_same, IsFirst, IsRising, with_pair, added}
use Rattle.abs_cells.proofs.PairLaws.{before_is, is_before_from, never_both, never_itself, not_same}
use Rattle.abs_cells.proofs.PairLaws as laws
use Rattle.list_views.proofs.Steps.{bind_ok}
use Rattle.cert_form.specs.declared.fault.CertFault.{CertFault}
use Rattle.cert_form.specs.Answers.{Says}
use Rattle.cert_form.specs.Fields.{◌>>=◌, entries_of, last_of, nth, in_order, an_id}
use Rattle.cert_form.specs.States.{is_next_pair, two_ids, ordered_pair, pair_in, pairs_of}
use Rattle.cert_form.proofs.Binds.{nth_ok, id_ok, order_ok, of_length_ok}
use Rattle.cert_form.proofs.Keeping.{entries_keep}

abbrev Bounded : ℕ × ℕ → Type 0
Bounded p = (p.0 < p.1) × (p.1 < 2048)

-- ---- what is read rises

last_tail : (p r : ℕ × ℕ) (rest : List (ℕ × ℕ)) → last_of (p ∷ r ∷ rest) ≡ last_of (r ∷ rest)
last_tail p r rest =
    let a : length (p ∷ r ∷ rest) - 1 ≡ suc (length rest) = omega arith in
    let b : length (r ∷ rest) - 1 ≡ length rest = omega arith in
    ap (λ (i : ℕ). slice_get (p ∷ r ∷ rest) i) a ∙ sym (ap (λ (i : ℕ). slice_get (r ∷ rest) i) b)

rising_push : (front : List (ℕ × ℕ)) (q : ℕ × ℕ) → IsRising front → Bounded q → is_next_pair front q ≡ true → IsRising (front ++ q ∷ [])
rising_push [] q r b e = (b, (tt, tt))
rising_push (p ∷ []) q r b e = (r.0, (e, (b, (tt, tt))))
rising_push (p ∷ s ∷ rest) q r b e = (
  r.0,
  (
    r.1.0,
    rising_push (s ∷ rest) q r.1.1 b
        (ap (λ (l : Option (ℕ × ℕ)). option_map_or (λ p. is_before p q) l true) (sym (last_tail p s rest)) ∙ e),
  ),
)

two_below : (here : Located) (q : ℕ × ℕ) → two_ids here ≡ Ok q → q.1 < 2048
unfolding two_ids
two_below here q e =
    let a = bind_ok (nth 0 an_id here) (λ a. nth 1 an_id here >>= λ b. Ok (a, b)) q e in
    let b = bind_ok (nth 1 an_id here) (λ b. Ok (a.0, b)) q a.2 in
    let there = nth_ok 1 an_id here b.0 b.1 in
    let same : (a.0, b.0) ≡ q = let s = b.2 in cc in
    subst (λ (p : ℕ × ℕ). p.1 < 2048) same (id_ok there.0 b.0 there.1.1)

ordered_ok : (front : List (ℕ × ℕ)) (here : Located) (q : ℕ × ℕ) → ordered_pair front here ≡ Ok q → Bounded q
    × (is_next_pair front q ≡ true)
unfolding ordered_pair
ordered_ok front here q e =
    let p = bind_ok (two_ids here) (λ pair. in_order (nat_lt pair.0 pair.1 && is_next_pair front pair) here >>= λ order. Ok pair) q e in
    let o = bind_ok (in_order (nat_lt p.0.0 p.0.1 && is_next_pair front p.0) here) (λ order. Ok p.0) q p.2 in
    let same : p.0 ≡ q = let s = o.2 in cc in
    let both = and_parts (nat_lt p.0.0 p.0.1) (is_next_pair front p.0) (order_ok _ here o.0 o.1) in
    subst (λ (x : ℕ × ℕ). Bounded x × (is_next_pair front x ≡ true)) same
    (((nat_lt_true p.0.0 p.0.1 both.0), two_below here p.0 p.1), both.1)

pair_step : (front : List (ℕ × ℕ)) (there : Located) (q : ℕ × ℕ) → IsRising front → pair_in front there ≡ Ok q → IsRising (front ++ q ∷ [])
unfolding pair_in
pair_step front there q r e =
    let o = ordered_ok front there q (of_length_ok 2 (ordered_pair front) there q e) in
    rising_push front q r o.0 o.1

-- pairs that were read rise
pub pairs_rise : (here : Located) (pairs : List (ℕ × ℕ)) → pairs_of here ≡ Ok pairs → IsRising pairs
unfolding pairs_of
pairs_rise here pairs e = entries_keep (λ (ps : List (ℕ × ℕ)). IsRising ps) pair_in here pairs tt
    (λ f there x k r. pair_step f there x k r) e

-- ---- adding pairs to a set

onward : (p q r : ℕ × ℕ) → is_before p q ≡ true → is_before q r ≡ true → is_before p r ≡ true
onward p q r e f = is_before_from p r (laws.onward p q r (before_is p q e) (before_is q r f))

not_same_before : (p q : ℕ × ℕ) → is_before p q ≡ true → is_same q p ≡ false
not_same_before p q e = not_same q p (λ same. never_itself p q (sym same) (before_is p q e))

not_back : (p q : ℕ × ℕ) → is_before p q ≡ true → is_before q p ≡ false
not_back p q e = go (is_before q p) refl
  where
    go : (b : Bool) → is_before q p ≡ b → b ≡ false
    go true t = absurd (never_both p q (before_is p q e) (before_is q p t))
    go false t = refl

first_before : (q : ℕ × ℕ) (rest : List (ℕ × ℕ)) (p : ℕ × ℕ) → IsFirst q (rest ++ p ∷ []) → IsRising (rest ++ p ∷ [])
    → is_before q p ≡ true
first_before q [] p f r = f
first_before q (s ∷ rest) p f r = onward q s p f (first_before s rest p r.1.0 r.1.1)

put_last : (ps : List (ℕ × ℕ)) (p : ℕ × ℕ) → IsRising (ps ++ p ∷ []) → with_pair p ps ≡ ps ++ p ∷ []
put_last [] p r = refl
put_last (q ∷ rest) p r =
    let before = first_before q rest p r.1.0 r.1.1 in
    rw (not_same_before q p before, not_back q p before) (ap (λ (xs : List (ℕ × ℕ)). q ∷ xs) (put_last rest p r.1.1))

rising_take : (ps : List (ℕ × ℕ)) (n : ℕ) → IsRising ps → IsRising (take n ps)
rising_take [] zero r = tt
rising_take [] (suc n) r = tt
rising_take (p ∷ ps) zero r = tt
rising_take (p ∷ []) (suc zero) r = r
rising_take (p ∷ []) (suc (suc n)) r = r
rising_take (p ∷ q ∷ ps) (suc zero) r = (r.0, (tt, tt))
rising_take (p ∷ q ∷ ps) (suc (suc n)) r = (r.0, (r.1.0, rising_take (q ∷ ps) (suc n) r.1.1))

-- a pair of a rising list
pub rising_at : (ps : List (ℕ × ℕ)) (i : ℕ) (d : ℕ × ℕ) → IsRising ps → i < length ps → Bounded (get_or ps i d)
rising_at [] i d r l = absurd (omega arith)
rising_at (p ∷ ps) zero d r l = r.0
rising_at (p ∷ ps) (suc i) d r l = rising_at ps i d r.1.1 (omega arith)

-- the next pair of a rising list, added to the pairs in front of it
pub add_next : (ps set : List (ℕ × ℕ)) (i : ℕ) (d : ℕ × ℕ) → IsRising ps → i < length ps → set ≡ take i ps
    → added (get_or ps i d).0 (get_or ps i d).1 set ≡ take (i + 1) ps
add_next ps set i d r l e =
    let more = take_more ps i d l in
    let rises : IsRising (take i ps ++ get_or ps i d ∷ []) = subst (λ (qs : List (ℕ × ℕ)). IsRising qs) more (rising_take ps (i + 1) r) in
    ap (λ (qs : List (ℕ × ℕ)). added (get_or ps i d).0 (get_or ps i d).1 qs) e
    ∙ ap (λ (p : ℕ × ℕ). with_pair p (take i ps)) (low_pair (get_or ps i d) (rising_at ps i d r l).0)
    ∙ put_last (take i ps) (get_or ps i d) rises
    ∙ sym more

pub differ : (a b : ℕ) → a < b → a ≡ b → ⊥
differ a b l e = omega arith

pub low_first : (a b : ℕ) → a < b → b < 2048 → a < 2048
low_first a b l m = omega arith

-- a list of pairs that was read rises
pub listed_rises : (read : Result (List (ℕ × ℕ)) CertFault) (here : Located) → Says read (entries_of pair_in here) → IfOk read IsRising
unfolding pairs_of
listed_rises (Ok pairs) here s = pairs_rise here pairs s
listed_rises (Err fault) here s = tt
