use Rattle.model.proofs.Calling.{refused_stays, one_outcome}
use Rattle.model.proofs.Outcomes.{some_outcome}
use Rattle.model.proofs.call_laws.Goals as goal

pub returns-clause-a_refused_call_changes_nothing : goal.returns-clause-a_refused_call_changes_nothing
returns-clause-a_refused_call_changes_nothing g c = refused_stays g.E.Exclusion.told g.E.Exclusion.answers

pub returns-clause-a_call_has_an_outcome_over_an_exclusion_that_reacts : goal.returns-clause-a_call_has_an_outcome_over_an_exclusion_that_reacts
returns-clause-a_call_has_an_outcome_over_an_exclusion_that_reacts g c = λ reacts. some_outcome g.E.Exclusion.told g.E.Exclusion.answers reacts

pub returns-clause-a_call_has_one_outcome_over_a_determined_exclusion : goal.returns-clause-a_call_has_one_outcome_over_a_determined_exclusion
returns-clause-a_call_has_one_outcome_over_a_determined_exclusion g c = λ one. one_outcome g.E.Exclusion.told g.E.Exclusion.answers one
