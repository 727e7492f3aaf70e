-- Lives: all calls on a machine since a boot that was accepted, refused ones too, each with its answer.
use Rattle.std.specs.Prelude.{ℕ, suc, List, [], ◌∷◌, length, Ok}
use Rattle.image.specs.declared.fields.Sizes.{Sizes}
use Rattle.calls.specs.declared.Call.{Call}
use Rattle.exclusion.specs.declared.meaning.Notice.{Notice}
use Rattle.exclusion.specs.declared.meaning.Verdict.{Verdict}
use Rattle.exclusion.specs.Meaning.{Meaning}
use Rattle.model.specs.declared.state.Core.{Core}
use Rattle.model.specs.Calls.{Answered, Step, Boots}
use Rattle.model.specs.Ledger.{Ledger, Fed, new_ledger, fate_of, takes_in}

-- A call with its answer.
pub record Event : Type 0 where
  pub call : Call
  pub answer : Answered

-- A past is a list of events, the newest first; calls are numbered from 1. The ledger of a past, and what the last event
-- brought to it.
abbrev pub fed : Sizes → List Event → Ledger → Event → Fed
fed sizes before l event = takes_in sizes l (suc (length before)) event.call (fate_of event.answer)

abbrev pub ledger : Sizes → List Event → Ledger
ledger sizes [] = new_ledger sizes
ledger sizes (event ∷ before) = (fed sizes before (ledger sizes before) event).ledger

-- A machine with a past, over an exclusion with any way of being told and of answering.
module _ {E : Type 0} (meaning : E → Meaning) (told : E → Notice → E → Type 0) (answers : E → ℕ → ℕ → ℕ → Verdict → Type 0) where
  pub data Life (sizes : Sizes) : List Event → Core × E → Type 0 where
    booted : (signature : ℕ) (table text : List ℕ) (e : E) {m : Core × E} → Boots told answers meaning sizes signature table text e (Ok m) → Life sizes [] m
    lived : {before : List Event} {m k : Core × E} (event : Event) → Life sizes before m → Step told answers m event.call event.answer k → Life sizes (event ∷ before) k
