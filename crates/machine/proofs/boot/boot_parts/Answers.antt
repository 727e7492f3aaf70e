use Rattle.std.proofs.Common.{Err, ap, ◌∙◌}
use Rattle.std.proofs.lemmas.Result.{err_from_is_err_and}
use Rattle.machine.proofs.Booting.{refused_by_image, refused_by_sections, booted, booted_sound}
use Rattle.machine.proofs.boot.boot_parts.Goals as goal

pub returns-in_err-sections-clause-booted : goal.returns-in_err-sections-clause-booted
returns-in_err-sections-clause-booted g c =
    let image = c.args.image.now in
    let p = err_from_is_err_and c.from_residual.result c.from_residual.ensures.1 in
    p.1 ∙ ap Err p.2
    ∙ refused_by_image image.sizes image.table.now image.text.now image.signature (g.E.Exclusion.meaning c.args.exclusion.now).section c.in_err-sections.field-0.0 c.in_err-sections.ensures.defined

pub returns-in_err-compare_sections-clause-booted : goal.returns-in_err-compare_sections-clause-booted
returns-in_err-compare_sections-clause-booted g c =
    let image = c.args.image.now in
    let residual = c.from_residual-in_err-compare_sections in
    let p = err_from_is_err_and residual.result residual.ensures.1 in
    p.1 ∙ ap Err p.2
    ∙ refused_by_sections image.sizes image.table.now image.text.now image.signature (g.E.Exclusion.meaning c.args.exclusion.now).section c.in_err-compare_sections.field-0.0 c.in_ok-sections.sections
    c.in_ok-sections.ensures.defined c.in_err-compare_sections.ensures

pub returns-clause-booted : goal.returns-clause-booted
returns-clause-booted g c =
    let image = c.args.image.now in
    booted image.sizes image.table.now image.text.now image.signature c.in_ok-sections.sections c.image_of.result c.new_core.result c.in_ok-sections.ensures.defined c.image_of.ensures
    c.new_core.ensures (g.E.Exclusion.meaning c.args.exclusion.now).section c.in_ok-compare_sections.ensures

pub returns-clause-sound_if_booted : goal.returns-clause-sound_if_booted
returns-clause-sound_if_booted g c =
    let image = c.args.image.now in
    booted_sound image.sizes image.table.now image.text.now image.signature c.in_ok-sections.sections c.image_of.result c.new_core.result c.in_ok-sections.ensures.defined c.image_of.ensures
    c.new_core.ensures c.in_ok-sections.ensures.accepted_exactly_if_every_rule_holds.0
