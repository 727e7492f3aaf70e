use Rattle.std.proofs.Common.{rules, ◌+◌, ◌&&◌, cond, leb, ltb}
use Rattle.std.proofs.Common.{tests}
use Rattle.machine.proofs.Booting.{tabulated_from}
use Rattle.machine.proofs.boot.linked.Goals as goal

pub returns : goal.returns
returns c = tabulated_from _ (λ node. cond (leb 1 node && ltb node c.args.nodes) (node + 1) 0) _ c.from_fn.result 256 (λ j y q called. search (rules, tests)) c.from_fn.ensures.items
