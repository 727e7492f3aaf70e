-- Instructions one after another.
use Rattle.std.proofs.Common.{ℕ, ◌+◌, None, Option, subst, arith}
use Rattle.exclusion.specs.declared.meaning.Notice.{Notice}
use Rattle.exclusion.specs.declared.meaning.Verdict.{Verdict}
use Rattle.model.specs.declared.state.Core.{Core}
use Rattle.model.specs.declared.state.Settling.{Settling}
use Rattle.model.specs.Calls.{Performs, Runs, more}

-- One instruction more.
pub one_more : {E : Type 0} {told : E → Notice → E → Type 0} {answers : E → ℕ → ℕ → ℕ → Verdict → Type 0} {cpu t n : ℕ} {settling : Option Settling} {m p k : Core × E} → Runs told answers cpu t n None m p
    → Performs told answers p cpu t settling k → Runs told answers cpu t (n + 1) settling m k
one_more {told = told} {answers} {cpu} {t} {settling = settling} {m} {k = k} runs performs = subst (λ i. Runs told answers cpu t i settling m k) (omega arith) (more runs performs)
