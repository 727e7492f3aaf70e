use Rattle.lives.proofs.Faithful.{every_life_is_wholly_faithful}
use Rattle.lives.proofs.life_law.Goals as goal

pub returns-clause-every_life_is_wholly_faithful : goal.returns-clause-every_life_is_wholly_faithful
returns-clause-every_life_is_wholly_faithful g c =
    every_life_is_wholly_faithful g.E.Exclusion.meaning g.E.Exclusion.told g.E.Exclusion.answers (record { shaped = g.met.E.Exclusion.shaped; obeys = g.met.E.Exclusion.obeys; says = g.met.E.Exclusion.says })
