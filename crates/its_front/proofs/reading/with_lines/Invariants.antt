use Rattle.std.proofs.Common.{◌≡◌, ◌+◌, length, drop}
use Rattle.its_front.specs.Reading.{unread, with_lines}
use Rattle.its_front.proofs.Sound.{IsRead}
use Rattle.its_front.proofs.reading.with_lines.Given as goal

abbrev pub invariant-loop-text : goal.invariant-loop-text
invariant-loop-text l =
    (with_lines (length l.texts) l.line l.reading (drop l.text-index l.texts) ≡ with_lines (length l.texts) 1 unread l.texts)
    × (l.line ≡ l.text-index + 1)
    × IsRead l.reading
