use Rattle.model.proofs.Asking.{agreeing_tell}
use Rattle.model.proofs.question_law.Goals as goal

pub returns : goal.returns
returns c = record { the_questions_tell_what_the_ledger_holds = agreeing_tell }
