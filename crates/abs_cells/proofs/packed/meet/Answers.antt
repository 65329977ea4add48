use Rattle.std.proofs.Common.{◌≡◌, Bool, true, false, not, refl, sym, ap, ◌∙◌, bit_and, eq-eqb}
use Rattle.std.proofs.lemmas.Bool.{false≢true, eqb-true, not-false}
use Rattle.std.proofs.lemmas.Nat.{and_le_l}
use Rattle.abs_cells.proofs.PackedLooks.{both_from, not_both_from}
use Rattle.abs_cells.proofs.packed.meet.Goals as goal

pub returns : goal.returns
returns c = record {
  yes = λ h. both_from c.args.a c.args.b c.ranges.a.fits
      (λ e. false≢true (sym (ap not (eq-eqb (bit_and c.args.a c.args.b) 0 e)) ∙ h)) (and_le_l c.args.a c.args.b);
  no = λ h k. not_both_from c.args.a c.args.b (eqb-true (bit_and c.args.a c.args.b) 0 (not-false _ h)) k;
}
