-- Calls on pairs one after another: what one more call does.
use Rattle.std.proofs.Common.{◌≡◌, ℕ, zero, suc, ◌+◌, ◌<◌, ◌≤◌, Bool, List, [], ◌∷◌, ◌++◌, length, get_or, take, drop, Option, Some}
use Rattle.std.proofs.Common.{None, refl, sym, ap, subst, ◌∙◌, arith, drop-cons, add-one, append_assoc, append-nil}
use Rattle.std.proofs.lemmas.List.{drop_all}
use Rattle.abs_cells.specs.declared.replays.PairCall.{PairCall}
use Rattle.abs_cells.specs.Replays.{pairs_after_one, pairs_after, answer_of, answers_of, with_answer, IsStopped}

-- how far the calls have come: what they still do, what they did, and the answers
pub record IsReplaying (calls : List PairCall) (first now : List (ℕ × ℕ)) (i : ℕ) (answers : List Bool) : Type 0 where
  pub still : pairs_after (drop i calls) now ≡ pairs_after calls first
  pub done : now ≡ pairs_after (take i calls) first
  pub answered : answers ++ answers_of (drop i calls) now ≡ answers_of calls first

pub none_made : (calls : List PairCall) (first : List (ℕ × ℕ)) → IsReplaying calls first first 0 []
unfolding pairs_after answers_of
none_made calls first = record { still = refl; done = refl; answered = refl }

taken_more : (calls : List PairCall) (first : List (ℕ × ℕ)) (i : ℕ) (d : PairCall) → i < length calls
    → pairs_after (take (suc i) calls) first ≡ pairs_after_one (get_or calls i d) (pairs_after (take i calls) first)
unfolding pairs_after
taken_more [] first i d l = absurd (omega (arith, l))
taken_more (call ∷ calls) first zero d l = refl
taken_more (call ∷ calls) first (suc i) d l = taken_more calls (pairs_after_one call first) i d (omega (arith, l))

module _ (calls : List PairCall) (first now after : List (ℕ × ℕ)) (i : ℕ) (answers : List Bool) (d : PairCall)
    (l : i < length calls) (h : IsReplaying calls first now i answers) (made : after ≡ pairs_after_one (get_or calls i d) now) where
  still_more : pairs_after (drop (suc i) calls) after ≡ pairs_after calls first
  unfolding pairs_after
  still_more =
      let step : pairs_after (drop i calls) now ≡ pairs_after (drop (suc i) calls) (pairs_after_one (get_or calls i d) now) = rw
      (drop-cons calls i d) refl in
      ap (pairs_after (drop (suc i) calls)) made ∙ sym step ∙ h.still

  pub done_more : after ≡ pairs_after (take (suc i) calls) first
  done_more = made ∙ ap (pairs_after_one (get_or calls i d)) h.done ∙ sym (taken_more calls first i d l)

  answers_step : answers_of (drop i calls) now ≡ with_answer (answer_of (get_or calls i d) now) (answers_of (drop (suc i) calls) after)
  unfolding answers_of
  answers_step = rw (drop-cons calls i d)
      (ap (λ (ps : List (ℕ × ℕ)). with_answer (answer_of (get_or calls i d) now) (answers_of (drop (suc i) calls) ps)) (sym made))

  pub silent : None ≡ answer_of (get_or calls i d) now → IsReplaying calls first after (i + 1) answers
  silent e =
      let rest : answers ++ answers_of (drop (suc i) calls) after ≡ answers_of calls first = ap
      (λ (a : Option Bool). answers ++ with_answer a (answers_of (drop (suc i) calls) after)) e
      ∙ ap (λ (bs : List Bool). answers ++ bs) (sym answers_step) ∙ h.answered in
      subst (λ (k : ℕ). IsReplaying calls first after k answers) (sym (add-one i))
      (record { still = still_more; done = done_more; answered = rest })

  pub spoken : (answer : Bool) (more : List Bool) → Some answer ≡ answer_of (get_or calls i d) now → more ≡ answers ++ answer ∷ []
      → IsReplaying calls first after (i + 1) more
  spoken answer more e f =
      let rest : more ++ answers_of (drop (suc i) calls) after ≡ answers_of calls first =
      ap (λ (bs : List Bool). bs ++ answers_of (drop (suc i) calls) after) f
      ∙ append_assoc answers (answer ∷ []) (answers_of (drop (suc i) calls) after)
      ∙ ap (λ (a : Option Bool). answers ++ with_answer a (answers_of (drop (suc i) calls) after)) e
      ∙ ap (λ (bs : List Bool). answers ++ bs) (sym answers_step) ∙ h.answered in
      subst (λ (k : ℕ). IsReplaying calls first after k more) (sym (add-one i))
      (record { still = still_more; done = done_more; answered = rest })

pub all_made : (calls : List PairCall) (first now : List (ℕ × ℕ)) (i : ℕ) (answers : List Bool) → length calls ≤ i
    → IsReplaying calls first now i answers → now ≡ pairs_after calls first
unfolding pairs_after
all_made calls first now i answers l h = rw (drop_all i calls l) at h.still

pub all_answered : (calls : List PairCall) (first now : List (ℕ × ℕ)) (i : ℕ) (answers : List Bool) → length calls ≤ i
    → IsReplaying calls first now i answers → answers ≡ answers_of calls first
unfolding answers_of
all_answered calls first now i answers l h = sym (append-nil answers) ∙ (rw (drop_all i calls l) at h.answered)

pub stopped : (calls : List PairCall) (first now after : List (ℕ × ℕ)) (i : ℕ) (answers : List Bool)
    → IsReplaying calls first now i answers → after ≡ now → IsStopped calls first after
stopped calls first now after i answers h e = record { count = i; is = e ∙ h.done }
