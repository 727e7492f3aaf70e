use Rattle.machine.proofs.Faith.{stays_seen}
use Rattle.machine.proofs.machine.Machine.advance.Goals as goal

pub returns-clause-faithful : goal.returns-clause-faithful
returns-clause-faithful g c = stays_seen g.met.E.Exclusion.shaped g.met.E.Exclusion.obeys g.met.E.Exclusion.says c.self.view_is c.advance.ensures.does
