use Rattle.machine.proofs.Booting.{copied}
use Rattle.machine.proofs.boot.image_of.Goals as goal

pub returns : goal.returns
returns c = copied c.args.sections c.args.text.now c.copy_from_slice.new.self c.copy_from_slice.ensures.after
