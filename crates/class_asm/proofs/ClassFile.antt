-- What is assembled is the file of a class that keeps every rule.
use Rattle.std.proofs.Common.{◌≡◌, ℕ, List, Option, Some, None, Ok, Err, refl, sym, ap, subst, ◌∙◌}
use Rattle.class_read.specs.declared.text.ClassText.{ClassText}
use Rattle.class_read.specs.Rules.{WellFormed, content_of}
use Rattle.class_read.specs.Text.{class_bytes}
use Rattle.asm_lines.specs.declared.fault.AsmFault.{AsmFault}
use Rattle.asm_lines.specs.declared.listing.Listing.{Listing}
use Rattle.asm_lines.specs.declared.statement.ClassLine.{ClassLine}
use Rattle.class_asm.specs.ClassFiles.{IsClassFile}
use Rattle.class_asm.specs.asm_pool.Pools.{pool_in}
use Rattle.class_asm.specs.Classes.{all_faults, class_text, unless_faulty, class_of, assembled}
use Rattle.asm_lines.specs.Firsts.{with_faults}
use Rattle.asm_lines.specs.Listings.{listing_of}
use Rattle.class_asm.specs.asm_pool.Needs.{listing_needs}
use Rattle.list_views.specs.Results.{◌>>=◌}
use Rattle.asm_lines.specs.Statements.{Said}
use Rattle.asm_lines.proofs.Faultless.{stays, no_faults}
use Rattle.asm_lines.proofs.GoodListings.{GoodLines, listing_good}
use Rattle.list_views.proofs.Steps.{bind_ok}
use Rattle.class_asm.specs.Said.{SaysClass}
use Rattle.class_asm.proofs.KeptRules.{well_formed}
use Rattle.class_asm.proofs.SaidClass.{class_said}
use Rattle.asm_lines.proofs.PlainWords.{Holds}

held : {A : Type 0} (P : A → Type 0) (r : Said A) (x : A) → r ≡ Ok x → Holds P r → P x
held P r x e h = subst (Holds P) e h

none_first : (o : Option AsmFault) (faults : List AsmFault) → with_faults o faults ≡ None → o ≡ None
none_first None faults h = refl
none_first (Some fault) faults h = absurd (stays faults fault h)

unfaulty : (o : Option AsmFault) (class answer : ClassText) → unless_faulty o class ≡ Ok answer → (o ≡ None) × (class ≡ answer)
unfaulty None class answer h = (refl, cc)
unfaulty (Some fault) class answer h = absurd cc

class_kept : (line : ℕ) (class : ClassLine) (listing : Listing) (answer : ClassText) → GoodLines (line, class, listing)
    → class_of line class listing ≡ Ok answer
    → WellFormed answer × SaysClass class listing (content_of answer) × (listing.first.fault ≡ None) × (answer.minor ≡ 0)
unfolding class_of
class_kept line class listing answer good h =
    let faults = all_faults line class listing in
    let u = unfaulty (with_faults listing.first.fault faults)
    (class_text (pool_in (listing_needs line class listing)) class listing) answer h in
    let none = no_faults listing.first.fault faults u.0 in
    let whole = none_first listing.first.fault faults u.0 in (
      subst WellFormed u.1 (well_formed line class listing good.0 (good.1 whole) none),
      subst (λ (c : ClassText). SaysClass class listing (content_of c)) u.1 (class_said line class listing none),
      whole,
      sym (ap (λ (c : ClassText). c.minor) u.1),
    )

pub class_file : (text bytes : List ℕ) → assembled text ≡ Ok bytes → IsClassFile text bytes
unfolding assembled
class_file text bytes h =
    let a = bind_ok (listing_of text) (λ lines. class_of lines.0 lines.1 lines.2 >>= λ class. Ok (class_bytes class)) bytes h in
    let lines = a.0 in
    let b = bind_ok (class_of lines.0 lines.1 lines.2) (λ class. Ok (class_bytes class)) bytes a.2 in
    let kept = class_kept lines.0 lines.1 lines.2 b.0 (held GoodLines (listing_of text) lines a.1 (listing_good text)) b.1 in
    let bytes_are : class_bytes b.0 ≡ bytes = cc in
    record {
      line = lines.0;
      class = lines.1;
      listing = lines.2;
      lines = a.1;
      whole = kept.2;
      file = b.0;
      minor = kept.3;
      bytes_are = bytes_are;
      says = kept.1;
      rules = kept.0;
      spelled = λ major. record { text = b.0; rules = kept.0; major = major; bytes_are = bytes_are; content = refl };
    }
