-- How a survey ends.
use Rattle.std.proofs.Common.{◌≡◌, ◌≢◌, ◌∙◌, ℕ, List, [], Option, length, map, sym}
use Rattle.std.proofs.lemmas.List.{length-map}
use Rattle.io_ports.specs.Told.{Told}
use Rattle.survey.specs.Claims.{Surveyed, AreAllProved}
use Rattle.survey.specs.Outside.{AreSome, Tells, BeginsToTell, HasSurveyed}
use Rattle.survey.proofs.Telling.{nothing_begun, told_begun}

-- nothing is surveyed
abbrev pub nothing : Surveyed
nothing = record { files = []; descs = [] }

module _ {S : Type 0} (held : List ℕ → Told) (taken : S → Option (List ℕ)) (names descs : List (List ℕ)) where
  -- it ends before its end, and nothing is surveyed
  pub ends_early : (old new : S) (status : ℕ) → status ≢ 0 → BeginsToTell taken nothing old new
      → HasSurveyed held taken names descs old new status
  ends_early old new status broken begun = record {
    s = nothing;
    are = tt;
    described = tt;
    told = begun;
    all = λ done. absurd (broken done);
  }

  pub never_begun : (x : S) (status : ℕ) → status ≢ 0 → HasSurveyed held taken names descs x x status
  never_begun x status broken = ends_early x x status broken (nothing_begun taken nothing x)

  -- it ends before its end
  pub breaks : (s : Surveyed) (old new : S) (status : ℕ) → AreSome held names s.files → AreSome held descs s.descs
      → status ≢ 0 → BeginsToTell taken s old new → HasSurveyed held taken names descs old new status
  breaks s old new status are described broken begun = record {
    s = s;
    are = are;
    described = described;
    told = begun;
    all = λ done. absurd (broken done);
  }

  -- it ends
  pub ends : (s : Surveyed) (old new : S) (status : ℕ) → AreSome held names s.files → AreSome held descs s.descs
      → Tells taken s old new → (status ≡ 0 → AreAllProved s) → (status ≡ 0 → length s.files ≡ length names)
      → HasSurveyed held taken names descs old new status
  ends s old new status are described told proved whole = record {
    s = s;
    are = are;
    described = described;
    told = told_begun taken s old new told;
    all = λ done. (whole done, (told, proved done));
  }

-- as many contents as words
pub same_count : {A B : Type 0} (f : A → List ℕ) (g : B → List ℕ) (files : List A) (names : List B) → length files ≡ length names
    → length (map f files) ≡ length (map g names)
same_count f g files names e = length-map files f ∙ (e ∙ sym (length-map names g))
