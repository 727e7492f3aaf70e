use Rattle.machine.proofs.Faith.{hand_told_so}
use Rattle.machine.proofs.machine.Machine.hand.Goals as goal

pub returns-clause-as_the_ledger_holds : goal.returns-clause-as_the_ledger_holds
returns-clause-as_the_ledger_holds g c = hand_told_so g.met.E.Exclusion.shaped g.met.E.Exclusion.obeys g.met.E.Exclusion.says c.self.view_is c.hand.ensures
