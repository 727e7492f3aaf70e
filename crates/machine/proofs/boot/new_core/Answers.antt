use Rattle.machine.proofs.Booting.{of_new_parts}
use Rattle.machine.proofs.boot.new_core.Goals as goal

pub returns : goal.returns
returns c =
    of_new_parts c.args.sizes c.args.image c.first_node.result c.new_cpu.result c.new_cpu-cpus.result c.new_thread.result c.linked.result c.first_node.ensures
    c.new_cpu.ensures c.new_cpu-cpus.ensures c.new_thread.ensures c.linked.ensures
