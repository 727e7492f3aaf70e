use Rattle.model.proofs.Booting.{new_agrees}
use Rattle.model.proofs.boot_law.Goals as goal

pub returns : goal.returns
returns c = record { a_new_machine_agrees_with_a_new_ledger = new_agrees }
