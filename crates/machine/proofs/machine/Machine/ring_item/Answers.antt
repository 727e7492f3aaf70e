use Rattle.machine.proofs.Faith.{ring_item_told_so}
use Rattle.machine.proofs.machine.Machine.ring_item.Goals as goal

pub returns-clause-as_the_ledger_holds : goal.returns-clause-as_the_ledger_holds
returns-clause-as_the_ledger_holds g c = ring_item_told_so g.met.E.Exclusion.shaped g.met.E.Exclusion.obeys g.met.E.Exclusion.says c.self.view_is c.args.position c.ring_item.ensures
