use Rattle.std.proofs.Common.{◌≡◌, ◌+◌, ◌*◌, drop}
use Rattle.image.specs.Checks.{has_words}
use Rattle.image.proofs.checks.has_words.Given as goal

abbrev pub invariant-loop-i : goal.invariant-loop-i
invariant-loop-i l = has_words l.text (l.start + 4 * l.i) (drop l.i l.words) ≡ has_words l.text l.start l.words
