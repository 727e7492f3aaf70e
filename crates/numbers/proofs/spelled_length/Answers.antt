use Rattle.numbers.proofs.Write.{bits_long}
use Rattle.numbers.proofs.spelled_length.Goals as goal

pub returns-clause-defined : goal.returns-clause-defined
returns-clause-defined c = bits_long _ _ _ c.max.ensures c.ilog2.ensures.power_le c.ilog2.ensures.next_power_gt c.ilog2.ensures.bound
