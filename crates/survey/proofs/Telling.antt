-- What an output took, part by part.
use Rattle.std.proofs.Common.{ℕ, List, [], ◌++◌, Option, sym, subst, take, drop, append_assoc, append-nil, take-append-drop}
use Rattle.std.specs.Io.KnownBytes.{Appends}
use Rattle.std.proofs.KnownBytes.{Appends-nil, Appends-trans}
use Rattle.std.specs.List.{AllByRecursion}
use Rattle.io_ports.specs.Taken.{AppendsPrefix}
use Rattle.input_steps.specs.Classes.{AllSpell}
use Rattle.class_read.specs.Content.{ClassContent}
use Rattle.survey.specs.Claims.{Surveyed, AreTrue, IsProvedClass, AreAllProved}
use Rattle.survey.specs.Outside.{Tells, BeginsToTell}
use Rattle.survey.proofs.Truths.{nothing_true, both_true}

module _ {S : Type 0} (taken : S → Option (List ℕ)) where
  pub nothing_told : (s : Surveyed) (x : S) → Tells taken s x x
  nothing_told s x = ([], (Appends-nil (taken x), nothing_true s))

  pub nothing_begun : (s : Surveyed) (x : S) → BeginsToTell taken s x x
  nothing_begun s x = ([], [], (Appends-nil (taken x), nothing_true s))

  pub told : (s : Surveyed) (old new : S) (text : List ℕ) → Appends (taken old) (taken new) text → AreTrue s text → Tells taken s old new
  told s old new text appends true' = (text, (appends, true'))

  pub begun : (s : Surveyed) (old new : S) (text : List ℕ) → AppendsPrefix (taken old) (taken new) text → AreTrue s text
      → BeginsToTell taken s old new
  begun s old new text prefix true' = (
    take prefix.0 text,
    drop prefix.0 text,
    (
      prefix.2,
      subst (AreTrue s)
          (sym (take-append-drop prefix.0 text)) true',
    ),
  )

  pub told_on : (s : Surveyed) (a b c : S) → Tells taken s a b → Tells taken s b c → Tells taken s a c
  told_on s a b c x y = (x.0 ++ y.0, (Appends-trans (taken a) (taken b) (taken c) x.0 y.0 x.1.0 y.1.0, both_true s x.0 y.0 x.1.1 y.1.1))

  pub begun_on : (s : Surveyed) (a b c : S) → Tells taken s a b → BeginsToTell taken s b c → BeginsToTell taken s a c
  begun_on s a b c x y = (
    x.0 ++ y.0,
    y.1,
    (
      Appends-trans (taken a) (taken b) (taken c) x.0 y.0 x.1.0 y.2.0,
      subst (AreTrue s)
          (sym (append_assoc x.0 y.0 y.1)) (both_true s x.0 (y.0 ++ y.1) x.1.1 y.2.1),
    ),
  )

  pub told_begun : (s : Surveyed) (a b : S) → Tells taken s a b → BeginsToTell taken s a b
  told_begun s a b x = (x.0, [], (x.1.0, subst (AreTrue s) (sym (append-nil x.0)) x.1.1))

  -- a text that is true of whatever is surveyed
  pub told_other : (old new : S) (text : List ℕ) → ((s : Surveyed) → AreTrue s text)
      → ((s : Surveyed) → AreTrue s text → Tells taken s old new) → (s : Surveyed) → Tells taken s old new
  told_other old new text true' put s = put s (true' s)

  pub begun_other : (old new : S) (text : List ℕ) → ((s : Surveyed) → AreTrue s text)
      → ((s : Surveyed) → AreTrue s text → BeginsToTell taken s old new) → (s : Surveyed) → BeginsToTell taken s old new
  begun_other old new text true' put s = put s (true' s)

  -- parts that are true of whatever is surveyed
  pub told_all : (a b c : S) → ((s : Surveyed) → Tells taken s a b) → ((s : Surveyed) → Tells taken s b c) → (s : Surveyed) → Tells taken s a c
  told_all a b c x y s = told_on s a b c (x s) (y s)

  pub begun_all : (a b c : S) → ((s : Surveyed) → Tells taken s a b) → ((s : Surveyed) → BeginsToTell taken s b c) → (s : Surveyed)
      → BeginsToTell taken s a c
  begun_all a b c x y s = begun_on s a b c (x s) (y s)

  pub told_begun_all : (a b : S) → ((s : Surveyed) → Tells taken s a b) → (s : Surveyed) → BeginsToTell taken s a b
  told_begun_all a b x s = told_begun s a b (x s)

  -- three parts
  pub told_thrice : (s : Surveyed) (a b c d : S) → ((t : Surveyed) → Tells taken t a b) → Tells taken s b c
      → ((t : Surveyed) → Tells taken t c d) → Tells taken s a d
  told_thrice s a b c d x y z = told_on s a c d (told_on s a b c (x s) y) (z s)

  pub begun_third : (s : Surveyed) (a b c d : S) → ((t : Surveyed) → Tells taken t a b) → Tells taken s b c
      → ((t : Surveyed) → BeginsToTell taken t c d) → BeginsToTell taken s a d
  begun_third s a b c d x y z = begun_on s a c d (told_on s a b c (x s) y) (z s)

pub all_proved : (s : Surveyed) (classes : List ClassContent) → AllSpell s.files classes → AllByRecursion (IsProvedClass s) classes
    → AreAllProved s
all_proved s classes spelled each = record { classes = classes; spelled = spelled; each = each }
