-- Words that are read stand for one of the listed meanings.
use Rattle.std.proofs.Common.{◌≡◌, ℕ, nat_lt, Bool, true, false, cond, List, Option, Some, None, Ok, subst}
use Rattle.list_views.proofs.Steps.{bind_ok}
use Rattle.json_view.specs.Located.{Located}
use Rattle.json_view.specs.Reading.{items_of, text_of}
use Rattle.cert_form.specs.Answers.{Reader, json, wrong_kind}
use Rattle.cert_form.specs.Fields.{longer_than, word_or, a_word}
use Rattle.cert_form.proofs.Binds.{test_ok, never}

pub longer_ok : {A : Type 0} (least : ℕ) (reader : Reader A) (here : Located) (x : A) → longer_than least reader here ≡ Ok x
    → reader here ≡ Ok x
unfolding longer_than
longer_ok least reader here x e =
    let b = bind_ok (json (items_of here)) (λ count. cond (nat_lt least count) (reader here) (wrong_kind here)) x e in
    (test_ok (nat_lt least b.0) (reader here) (wrong_kind here) x (λ f. never _ f) b.2).1

meant : {W : Type 0} (here : Located) (found : Option W) (w : W) → word_or here found ≡ Ok w → found ≡ Some w
meant here (Some x) w e = let same : x ≡ w = cc in λ i. Some (same i)
meant here None w e = absurd (never _ w e)

pub word_ok : {W : Type 0} (means : List ℕ → Option W) (here : Located) (w : W) → a_word means here ≡ Ok w
    → (text : List ℕ) × (means text ≡ Some w)
unfolding a_word
word_ok means here w e =
    let b = bind_ok (json (text_of here)) (λ word. word_or here (means word)) w e in (b.0, meant here (means b.0) w b.2)

pub of_two : {W : Type 0} {a b : W} (first second : Bool) (w : W) (P : W → Type 0)
    → cond first (Some a) (cond second (Some b) None) ≡ Some w → P a → P b → P w
of_two {a = a} true second w P e pa pb = let same : a ≡ w = cc in subst P same pa
of_two {b = b} false true w P e pa pb = let same : b ≡ w = cc in subst P same pb
of_two false false w P e pa pb = absurd cc

pub of_four : {W : Type 0} {a b c d : W} (first second third fourth : Bool) (w : W) (P : W → Type 0)
    → cond first (Some a) (cond second (Some b) (cond third (Some c) (cond fourth (Some d) None))) ≡ Some w
    → P a → P b → P c → P d → P w
of_four {a = a} true second third fourth w P e pa pb pc pd = let same : a ≡ w = cc in subst P same pa
of_four {b = b} false true third fourth w P e pa pb pc pd = let same : b ≡ w = cc in subst P same pb
of_four {c = c} false false true fourth w P e pa pb pc pd = let same : c ≡ w = cc in subst P same pc
of_four {d = d} false false false true w P e pa pb pc pd = let same : d ≡ w = cc in subst P same pd
of_four false false false false w P e pa pb pc pd = absurd cc
