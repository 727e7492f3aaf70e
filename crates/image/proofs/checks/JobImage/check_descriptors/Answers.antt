use Rattle.std.proofs.Common.{Err, sym, ap, ◌∙◌}
use Rattle.std.proofs.lemmas.Result.{err_from_is_err_and}
use Rattle.image.proofs.Checking.{failed_descriptor}
use Rattle.image.proofs.checks.JobImage.check_descriptors.Goals as goal

pub returns-in_err-check_descriptor : goal.returns-in_err-check_descriptor
returns-in_err-check_descriptor c =
    let p = err_from_is_err_and c.from_residual.result c.from_residual.ensures.1 in
    record { defined = p.1 ∙ ap Err p.2 ∙ sym (failed_descriptor c.args.self.now.table.now c.args.self.now.text.now c.args.self.now.signature c.args.kinds.now c.loop-kind.kind-index c.loop-kind-test.true _ c.in_err-check_descriptor.ensures.defined) ∙ c.loop-kind.invariant }
