use Rattle.std.proofs.Common.{rules, ◌∙◌}
use Rattle.std.proofs.Common.{tests}
use Rattle.std.proofs.lemmas.Iterator.{YieldsList-from_slice}
use Rattle.std.proofs.lemmas.Iterator.Search.{position_from_yields_List}
use Rattle.std.proofs.lemmas.Iterator.Adapters.{position_from-zero}
use Rattle.model.specs.declared.state.Cpu.{Cpu}
use Rattle.model.specs.Claims.{is_thread}
use Rattle.machine.proofs.Walks.{first_with}
use Rattle.machine.proofs.asking.cpu_of.Goals as goal

pub returns : goal.returns
returns c =
    position_from_yields_List (λ (cpu : Cpu). is_thread c.args.t cpu.current) _ _ c.position.result c.position.ensures.ran (YieldsList-from_slice c.args.cpus.now cc) (λ x b q k. search (rules, tests))
    ∙ position_from-zero (λ (cpu : Cpu). is_thread c.args.t cpu.current) c.args.cpus.now
    ∙ first_with c.args.t 0 c.args.cpus.now
