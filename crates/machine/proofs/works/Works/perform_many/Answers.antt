use Rattle.std.proofs.Common.{◌+◌, Option, sym, subst, ◌∙◌}
use Rattle.model.specs.declared.state.Settling.{Settling}
use Rattle.model.specs.Calls.{Runs, none}
use Rattle.machine.proofs.Steps.{one_more}
use Rattle.lives.proofs.Living.{none_if_not_some}
use Rattle.machine.proofs.works.Works.perform_many.Goals as goal

pub loop-done-init : goal.loop-done-init
loop-done-init g c = none

pub returns-then-is_some-clause-runs : goal.returns-then-is_some-clause-runs
returns-then-is_some-clause-runs g c = one_more c.loop-done.invariant c.perform_one-settling.ensures.performs

pub loop-done-preserved : goal.loop-done-preserved
loop-done-preserved g c =
    subst (λ (s : Option Settling). Runs g.E.Exclusion.told g.E.Exclusion.answers c.args.cpu c.args.t (c.loop-done.done + 1) s (c.args.self.now.core, c.args.self.now.exclusion) (c.perform_one-settling.new.self.core, c.perform_one-settling.new.self.exclusion))
    (none_if_not_some c.perform_one-settling.result (sym c.is_some.ensures ∙ c.if-is_some.false))
    (one_more c.loop-done.invariant c.perform_one-settling.ensures.performs)
