use Rattle.std.proofs.Common.{sym, ap, subst}
use Rattle.model.specs.Words.{Performed}
use Rattle.machine.specs.Sound.{Sound}
use Rattle.machine.proofs.Sounds.{performed_sound}
use Rattle.machine.proofs.works.Works.perform_one.Goals as goal

pub invariant_of-self : goal.invariant_of-self
invariant_of-self g c = record { sound = subst Sound (sym (ap (λ (p : Performed). p.core) c.step-ran.ensures)) (performed_sound c.args.self.now.core c.args.cpu c.args.t c.args.self.now.sound c.requires.0) }
