use Rattle.std.proofs.Common.{take}
use Rattle.exclusion.specs.Meaning.{ToldAll}
use Rattle.exclusion_laws.proofs.tell_all.Given as goal

abbrev pub invariant-loop-notice : goal.invariant-loop-notice
invariant-loop-notice g l = ToldAll g.E.Exclusion.told l.initial.exclusion (take l.notice-index l.notices) l.exclusion
