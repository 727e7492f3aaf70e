use Rattle.std.proofs.Common.{◌≡◌, drop}
use Rattle.image.specs.Checks.{all_pass}
use Rattle.model.specs.Calls.{section_checks}
use Rattle.machine.proofs.boot.compare_kinds.Given as goal

abbrev pub invariant-loop-kind : goal.invariant-loop-kind
invariant-loop-kind g l =
    let section = (g.E.Exclusion.meaning l.exclusion).section in
    all_pass (section_checks section l.table (drop l.kind-index l.these)) ≡ all_pass (section_checks section l.table l.these)
