use Rattle.std.proofs.Common.{◌-◌}
use Rattle.machine.proofs.Walks.{OnTheWay}
use Rattle.machine.proofs.asking.reached.Given as goal

abbrev pub invariant-loop : goal.invariant-loop
invariant-loop g l = OnTheWay (λ x b. g.Ends.Fn.post l.ends (x, tt) b) (λ x y. g.Onward.Fn.post l.onward (x, tt) y) l.place (l.steps - l.counter) l.first l.steps
