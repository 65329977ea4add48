-- One file more is read.
use Rattle.std.proofs.Common.{◌≡◌, ℕ, suc, zero, ◌<◌, ◌≤◌, List, [], ◌∷◌, ◌++◌, length, map, take, get_or, slice_get, Some, refl}
use Rattle.std.proofs.Common.{sym, ap, ◌∙◌, subst, arith, IsErrOf, Err}
use Rattle.std.proofs.lemmas.List.{map-append, length-map, length-take-le}
use Rattle.io_ports.specs.Count.{Rose}
use Rattle.io_ports.specs.Told.{Told, IsContent, IsPastLimit, IsNotHeld}
use Rattle.io_ports.specs.declared.files.FileFault.{FileFault}
use Rattle.io_ports.specs.declared.files.FileFault.TheVariants.{Failed, TooLong, Missing, Memory}
use Rattle.class_calls.specs.declared.command_rows.table.Request.{Request}
use Rattle.jterm.specs.Outside.{AreContents, AreRead, behind}
use Rattle.jterm.specs.inner.Failure.{HasCause, failure_at}

-- one item more, as contents
pub map_more : {A : Type 0} (f : A → List ℕ) (xs all : List A) (x : A) → all ≡ xs ++ x ∷ [] → map f all ≡ map f xs ++ f x ∷ []
map_more f xs all x e = ap (map f) e ∙ map-append f xs (x ∷ [])

pub read_more : {F : Type 0} (leaves : F → List ℕ → F → Type 0) (names : List (List ℕ)) (name : List ℕ) (a b c : F)
    → AreRead leaves names a b → leaves b name c → AreRead leaves (names ++ name ∷ []) a c
read_more leaves [] name a b c same left = (c, subst (λ x. leaves x name c) (sym same) left, refl)
read_more leaves (first ∷ names) name a b c read left = (read.0, read.1, read_more leaves names name read.0 b c read.2 left)

-- the names read so far, and one more
pub first_read_more : {F : Type 0} (leaves : F → List ℕ → F → Type 0) (names : List (List ℕ)) (k : ℕ) (name : List ℕ) (a b c : F)
    → take (suc k) names ≡ take k names ++ name ∷ [] → AreRead leaves (take k names) a b → leaves b name c
    → AreRead leaves (take (suc k) names) a c
first_read_more leaves names k name a b c more read left =
    subst (λ l. AreRead leaves l a c) (sym more) (read_more leaves (take k names) name a b c read left)

pub contents_more : (limits : ℕ → ℕ) (held : List ℕ → Told) (names contents : List (List ℕ)) (name content : List ℕ)
    → AreContents limits held names contents → IsContent (held name) content → length content ≤ limits (length contents)
    → AreContents limits held (names ++ name ∷ []) (contents ++ content ∷ [])
contents_more limits held [] [] name content are is within = (is, within, tt)
contents_more limits held (n ∷ names) (c ∷ contents) name content are is within =
    (are.0, are.1, contents_more (behind limits) held names contents name content are.2 is within)
contents_more limits held [] (c ∷ contents) name content are is within = absurd are
contents_more limits held (n ∷ names) [] name content are is within = absurd are

-- as many contents as names
pub contents_length : (limits : ℕ → ℕ) (held : List ℕ → Told) (names contents : List (List ℕ))
    → AreContents limits held names contents → length contents ≡ length names
contents_length limits held [] [] are = refl
contents_length limits held (n ∷ names) (c ∷ contents) are = let rest = contents_length (behind limits) held names contents are.2 in
    omega (arith, rest)
contents_length limits held [] (c ∷ contents) are = absurd are
contents_length limits held (n ∷ names) [] are = absurd are

-- the limit of the next file, by its place and by what was read in front of it
pub next_limit : {A B : Type 0} (f : A → List ℕ) (g : B → List ℕ) (inputs : List A) (words : List B) (limits : ℕ → ℕ)
    (held : List ℕ → Told) (k count place limit : ℕ)
    → k < length words → AreContents limits held (take k (map g words)) (map f inputs) → count ≡ k → place ≡ count
    → limit ≡ limits place → (limit ≡ limits k) × (limit ≡ limits (length (map f inputs)))
next_limit f g inputs words limits held k count place limit less are counted at is =
    let named : length (map g words) ≡ length words = length-map words g in
    let first : length (take k (map g words)) ≡ k = length-take-le k (map g words) (omega (arith, named, less)) in
    let same : length (map f inputs) ≡ k = contents_length limits held (take k (map g words)) (map f inputs) are ∙ first in
    let here : limit ≡ limits k = is ∙ ap limits (at ∙ counted) in
    (here, here ∙ ap limits (sym same))

-- the contents read so far, and one more
pub first_contents_more : (limits : ℕ → ℕ) (held between : List ℕ → Told) (names contents all : List (List ℕ)) (k : ℕ)
    (name content : List ℕ)
    → take (suc k) names ≡ take k names ++ name ∷ [] → all ≡ contents ++ content ∷ []
    → AreContents limits held (take k names) contents → between ≡ held → IsContent (between name) content
    → length content ≤ limits (length contents)
    → AreContents limits held (take (suc k) names) all
first_contents_more limits held between names contents all k name content more grown are same is within =
    let is' = subst (λ h. IsContent (h name) content) same is in
    let both = contents_more limits held (take k names) contents name content are is' within in
    subst (λ n. AreContents limits held n all) (sym more) (subst (AreContents limits held (take k names ++ name ∷ [])) (sym grown) both)

-- why the file at this place was not read
pub has_cause : {T F : Type 0} (held : F → List ℕ → Told) (faults : F → ℕ) (leaves : F → List ℕ → F → Type 0) (limits : ℕ → ℕ)
    (request : Request) (names : List (List ℕ)) (old between new : F) (place : ℕ) (name : List ℕ) (contents : List (List ℕ))
    (fault : FileFault)
    → held between ≡ held old → faults between ≡ faults old
    → slice_get names place ≡ Some name → AreContents limits (held old) (take place names) contents
    → AreRead leaves (take place names) old between → leaves between name new
    → (IsErrOf {T = T} (Err fault) Failed → Rose (faults between) (faults new))
    → (IsErrOf {T = T} (Err fault) TooLong → IsPastLimit (held between name) (limits place))
    → (IsErrOf {T = T} (Err fault) Missing → IsNotHeld (held between name))
    → (IsErrOf {T = T} (Err fault) TooLong → faults new ≡ faults between)
    → (IsErrOf {T = T} (Err fault) Missing → faults new ≡ faults between)
    → HasCause held faults leaves limits request names old new (failure_at name fault)
has_cause held faults leaves limits request names old between new place name contents Failed same stood named earlier led last
    failed too_long missing long_still missing_still =
    record {
      place = place;
      is_named = named;
      contents = contents;
      earlier = earlier;
      between = between;
      led = led;
      still = stood;
      last = last;
      cause = failed refl;
    }
has_cause held faults leaves limits request names old between new place name contents TooLong same stood named earlier led last
    failed too_long missing long_still missing_still =
    record {
      place = place;
      is_named = named;
      contents = contents;
      earlier = earlier;
      between = between;
      led = led;
      still = stood;
      last = last;
      cause = (subst (λ h. IsPastLimit (h name) (limits place)) same (too_long refl), long_still refl);
    }
has_cause held faults leaves limits request names old between new place name contents Missing same stood named earlier led last
    failed too_long missing long_still missing_still =
    record {
      place = place;
      is_named = named;
      contents = contents;
      earlier = earlier;
      between = between;
      led = led;
      still = stood;
      last = last;
      cause = (subst (λ h. IsNotHeld (h name)) same (missing refl), missing_still refl);
    }
has_cause held faults leaves limits request names old between new place name contents Memory same stood named earlier led last
    failed too_long missing long_still missing_still = tt
