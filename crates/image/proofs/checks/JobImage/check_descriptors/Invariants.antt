use Rattle.std.proofs.Common.{◌≡◌, drop}
use Rattle.image.specs.Checks.{all_pass, all_descriptor_checks}
use Rattle.image.proofs.checks.JobImage.check_descriptors.Given as goal

abbrev pub invariant-loop-kind : goal.invariant-loop-kind
invariant-loop-kind l =
    all_pass (all_descriptor_checks l.self.table.now l.self.text.now l.self.signature (drop l.kind-index l.kinds))
    ≡ all_pass (all_descriptor_checks l.self.table.now l.self.text.now l.self.signature l.kinds)
