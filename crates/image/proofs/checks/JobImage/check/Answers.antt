use Rattle.std.proofs.Common.{List, Err, Ok, Result, ap, ◌∙◌}
use Rattle.std.proofs.lemmas.Result.{err_from_is_err_and}
use Rattle.faults.specs.declared.Fault.{Fault}
use Rattle.image.specs.declared.layout.Section.{Section}
use Rattle.image.proofs.Accepting.{accepted_exactly, fails_first}
use Rattle.image.proofs.Checking.{accepted_image, refused_image}
use Rattle.image.proofs.Laying.{laid_out_if_accepted}
use Rattle.image.proofs.checks.JobImage.check.Goals as goal

pub returns-in_err-check_descriptors : goal.returns-in_err-check_descriptors
returns-in_err-check_descriptors c =
    let image = c.args.self.now in
    let residual = c.from_residual-in_err-check_descriptors in
    let p = err_from_is_err_and residual.result residual.ensures.1 in
    let defined = p.1 ∙ ap Err p.2
    ∙ refused_image image.sizes image.table.now image.text.now image.signature _ _ _ _ c.in_ok-check_sizes.ensures.defined c.if-self-ne-TABLE_LENGTH.false
    c.in_ok-accept_text_length.ensures.defined c.all.ensures.listed c.in_err-check_descriptors.ensures.defined in
    let exactly = accepted_exactly image.sizes image.table.now image.text.now image.signature residual.result defined in
    record {
      defined = defined;
      accepted_exactly_if_every_rule_holds = exactly;
      else_refused_by_the_first_that_fails = fails_first image.sizes image.table.now image.text.now image.signature residual.result defined;
      accepted_sections_lie_apart = laid_out_if_accepted image.sizes image.table.now image.text.now image.signature residual.result exactly;
    }

pub returns : goal.returns
returns c =
    let image = c.args.self.now in
    let result : Result (List Section) Fault = Ok c.sections.result in
    let defined = accepted_image image.sizes image.table.now image.text.now image.signature _ _ _ _ _ c.in_ok-check_sizes.ensures.defined c.if-self-ne-TABLE_LENGTH.false
    c.in_ok-accept_text_length.ensures.defined c.all.ensures.listed c.in_ok-check_descriptors.ensures.defined c.sections.ensures.defined in
    let exactly = accepted_exactly image.sizes image.table.now image.text.now image.signature result defined in
    record {
      defined = defined;
      accepted_exactly_if_every_rule_holds = exactly;
      else_refused_by_the_first_that_fails = fails_first image.sizes image.table.now image.text.now image.signature result defined;
      accepted_sections_lie_apart = laid_out_if_accepted image.sizes image.table.now image.text.now image.signature result exactly;
    }
