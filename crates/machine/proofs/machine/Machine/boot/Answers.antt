use Rattle.machine.proofs.Faith.{begins}
use Rattle.machine.proofs.machine.Machine.boot.Goals as goal

pub returns-clause-faithful : goal.returns-clause-faithful
returns-clause-faithful g c =
    begins g.met.E.Exclusion.shaped g.met.E.Exclusion.obeys g.met.E.Exclusion.says c.args.image.now.signature c.args.image.now.table.now c.args.image.now.text.now (c.in_ok-core.ensures.booted, c.in_ok-core.ensures.told_only_if_booted)
