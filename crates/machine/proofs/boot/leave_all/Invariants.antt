use Rattle.std.proofs.Common.{take}
use Rattle.exclusion.specs.Meaning.{ToldAll}
use Rattle.model.specs.Calls.{all_left}
use Rattle.machine.proofs.boot.leave_all.Given as goal

abbrev pub invariant-loop-cpu : goal.invariant-loop-cpu
invariant-loop-cpu g l = ToldAll g.E.Exclusion.told l.initial.exclusion (take l.cpu all_left) l.exclusion
