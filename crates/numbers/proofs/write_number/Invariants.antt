use Rattle.std.proofs.Common.{◌-◌, take}
use Rattle.numbers.proofs.Write.{Left}
use Rattle.numbers.proofs.write_number.Given as goal

abbrev pub invariant-loop-group : goal.invariant-loop-group
invariant-loop-group l = Left (take (l.length - 1) l.fn.out) l.n l.group-items l.group-index l.rest
