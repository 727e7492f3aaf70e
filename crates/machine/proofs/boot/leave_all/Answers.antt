use Rattle.machine.proofs.Booting.{left_more}
use Rattle.machine.proofs.boot.leave_all.Goals as goal

pub loop-cpu-preserved : goal.loop-cpu-preserved
loop-cpu-preserved g c =
    left_more g.E.Exclusion.told c.args.exclusion.now c.loop-cpu.cpu c.loop-cpu.exclusion c.left.new.self c.loop-cpu-test.true c.loop-cpu.invariant c.left.ensures.told_so
