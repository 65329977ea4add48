-- States that lost ids.
use Rattle.std.proofs.Common.{ℕ, true, Option, refl, sym, subst, ◌∙◌}
use Rattle.std.specs.List.{AllZip}
use Rattle.abs_cells.specs.declared.cells.Cell.{Cell}
use Rattle.abs_cells.specs.AbstractStates.{AbstractFrame, AbstractState}
use Rattle.abs_cells.specs.Cells.{HasCell}
use Rattle.abs_cells.specs.Fits.{Meaning, FitsFrame, FitsMode, with_statics, Fits}
use Rattle.jvm_values.specs.States.{MachineState}
use Rattle.jvm_values.specs.TypedHeaps.{WorldTypes}
use Rattle.abs_reach.specs.Reached.{IsRestricted, IsDropped}
use Rattle.abs_reach.specs.Laws.{RestrictedStatesFit}
use Rattle.std.specs.Prelude.{List, Bool}
use Rattle.abs_reach.proofs.Walks.{some_cell}

pub restricted : RestrictedStatesFit
restricted types whole part machine meaning r h = record {
  positions = subst (λ (frames : List AbstractFrame). AllZip (FitsFrame meaning) frames
      (with_statics machine.statics machine.frames)) (sym r.frames) h.positions;
  mode = subst (λ (id : Option ℕ). FitsMode meaning id machine.mode) (sym r.throwing) h.mode;
  cells = λ id cell e. h.cells id cell (sym (r.cells id (record { cell = cell; is = e; sort_is = refl })) ∙ e);
  aliases = λ a b o ca cb d ta tb. r.eq a b ca cb (h.aliases a b o (lifted a ca) (lifted b cb) d ta tb);
  meeting = λ a b o ca cb d ra rb. r.share a b (some_cell part a ca) (some_cell part b cb)
      (h.meeting a b o (lifted a ca) (lifted b cb) d ra rb);
  inside = λ k b o ck cb t rb. r.share k b (some_cell part k ck) (some_cell part b cb) (h.inside k b o (lifted k ck) (lifted b cb) t rb);
  shapes = λ id cell shape e f. h.shapes id cell shape (sym (r.cells id (record { cell = cell; is = e; sort_is = refl })) ∙ e) f;
}
  where
    lifted : {sort : Cell → Bool} (id : ℕ) → HasCell sort part id → HasCell sort whole id
    lifted id c = record { cell = c.cell; is = sym (r.cells id (some_cell part id c)) ∙ c.is; sort_is = c.sort_is }

-- dropping ids loses them with their cells and pairs, so what fitted fits still
pub dropped_restricted : (whole part : AbstractState) → IsDropped whole part → IsRestricted whole part
dropped_restricted whole part d = record {
  frames = d.frames;
  throwing = d.throwing;
  cells = λ id h. d.kept id (d.gone id h);
  eq = λ a b ha hb e. (d.eq a b).1 (e, (d.gone a ha, d.gone b hb));
  share = λ a b ha hb s. (d.share a b).1 (s, (d.gone a ha, d.gone b hb));
}

pub dropped_fits : (types : WorldTypes) (whole part : AbstractState) (machine : MachineState) (meaning : Meaning)
    → IsDropped whole part → Fits types whole machine meaning → Fits types part machine meaning
dropped_fits types whole part machine meaning d f = restricted types whole part machine meaning (dropped_restricted whole part d) f
