-- Laws that show the definitions sane.
use Rattle.std.specs.Prelude.{◌≡◌, ℕ, ◌<◌, ◌≤◌, ◌≢◌}
use Rattle.faults.specs.declared.Fault.{Fault}
use Rattle.calls.specs.declared.Call.{Call}
use Rattle.exclusion.specs.declared.meaning.Notice.{Notice}
use Rattle.exclusion.specs.declared.meaning.Verdict.{Verdict}
use Rattle.image.specs.declared.fields.Sizes.{Sizes}
use Rattle.model.specs.declared.state.Image.{Image}
use Rattle.model.specs.declared.state.Core.{Core}
use Rattle.model.specs.State.{thread_at, cpu_at, new_core}
use Rattle.model.specs.Words.{performed}
use Rattle.model.specs.Calls.{Answered, refused, Step}
use Rattle.model.specs.Ledger.{Ledger, new_ledger}
use Rattle.model.specs.Claims.{StructuresAgree}
use Rattle.model.specs.Questions.{QuestionsTell}

-- A refused call changes nothing: neither the machine nor its exclusion.
abbrev pub RefusedChangesNothing : {E : Type 0} → (E → Notice → E → Type 0) → (E → ℕ → ℕ → ℕ → Verdict → Type 0) → Type 0
RefusedChangesNothing {E} told answers = (m : Core × E) (c : Call) (fault : Fault) (k : Core × E) → Step told answers m c (refused fault) k → k ≡ m

-- An instruction changes no CPU's structures but those of CPU q, and no thread but its own.
abbrev pub OnlyTheStructuresOfQ : Type 0
OnlyTheStructuresOfQ = (core : Core) (cpu t c : ℕ) → (c ≢ (thread_at core t).q) → cpu_at (performed core cpu t).core c ≡ cpu_at core c

abbrev pub OnlyItsOwnThread : Type 0
OnlyItsOwnThread = (core : Core) (cpu t s : ℕ) → (s ≢ t) → thread_at (performed core cpu t).core s ≡ thread_at core s

-- An exclusion whose reactions are determined: told one thing it becomes one thing, and it has one answer.
pub record Determined {E : Type 0} (told : E → Notice → E → Type 0) (answers : E → ℕ → ℕ → ℕ → Verdict → Type 0) : Type 0 where
  pub becomes_one : (e : E) (n : Notice) (f g : E) → told e n f → told e n g → f ≡ g
  pub answers_one : (e : E) (cpu armed place : ℕ) (v w : Verdict) → answers e cpu armed place v → answers e cpu armed place w → v ≡ w

-- Over such an exclusion a call has one answer and one outcome.
abbrev pub OneOutcome : {E : Type 0} → (E → Notice → E → Type 0) → (E → ℕ → ℕ → ℕ → Verdict → Type 0) → Type 0
OneOutcome {E} told answers =
    Determined told answers → (m : Core × E) (c : Call) (r s : Answered) (k l : Core × E) → Step told answers m c r k → Step told answers m c s l → (r ≡ s) × (k ≡ l)

-- A newly booted machine agrees with the newly begun ledger.
abbrev pub NewAgrees : Type 0
NewAgrees = (sizes : Sizes) (image : Image) → sizes.nodes ≤ 255 → StructuresAgree sizes (new_ledger sizes) (new_core sizes image)

-- An exclusion that reacts: told anything it becomes something, and it has an answer to every question.
pub record Reacts {E : Type 0} (told : E → Notice → E → Type 0) (answers : E → ℕ → ℕ → ℕ → Verdict → Type 0) : Type 0 where
  pub becomes_some : (e : E) (n : Notice) → (f : E) × told e n f
  pub answers_some : (e : E) (cpu armed place : ℕ) → (v : Verdict) × answers e cpu armed place v

-- Over such an exclusion every call has an answer and an outcome, whatever the machine.
abbrev pub SomeOutcome : {E : Type 0} → (E → Notice → E → Type 0) → (E → ℕ → ℕ → ℕ → Verdict → Type 0) → Type 0
SomeOutcome {E} told answers = Reacts told answers → (m : Core × E) (c : Call) → (r : Answered) × (k : Core × E) × Step told answers m c r k

-- Each CPU's ring begins at one of its slots.
abbrev pub HeadsAreSlots : Core → Type 0
HeadsAreSlots core = (cpu : ℕ) → cpu < core.sizes.cpus → (cpu_at core cpu).head ≤ core.sizes.packets

-- Where the structures and the hands are the ledger's and each ring begins at a slot, the questions tell what the ledger holds.
abbrev pub AgreeingQuestionsTell : Type 0
AgreeingQuestionsTell = (l : Ledger) (core : Core) → StructuresAgree core.sizes l core → HeadsAreSlots core → QuestionsTell core.sizes l core
