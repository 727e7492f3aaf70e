use Rattle.std.proofs.Common.{None}
use Rattle.model.specs.Calls.{Runs}
use Rattle.machine.proofs.works.Works.perform_many.Given as goal

-- So many instructions have run, none of which settled.
abbrev pub invariant-loop-done : goal.invariant-loop-done
invariant-loop-done g l =
    Runs g.E.Exclusion.told g.E.Exclusion.answers l.cpu l.t l.done None (l.initial.self.core, l.initial.self.exclusion) (l.self.core, l.self.exclusion)
