-- What the coded calls promise: their answers as answers of the definitions, the checks, the parts that calls are made of, and
-- what holds of every past.
use Rattle.std.specs.Prelude.{◌≡◌, ℕ, ◌<◌, ◌≤◌, Bool, nat_lt, List, [], ◌∷◌, Some, None, Ok, Err, Option, Result}
use Rattle.faults.specs.declared.Fault.{Fault}
use Rattle.faults.specs.declared.Refusal.{Refusal}
use Rattle.faults.specs.Numbering.{fault_at}
use Rattle.image.specs.Checks.{Check, all_pass}
use Rattle.image.specs.declared.fields.Sizes.{Sizes}
use Rattle.calls.specs.declared.RawOperation.{RawOperation}
use Rattle.calls.specs.declared.Call.{Call}
use Rattle.exclusion.specs.declared.meaning.Notice.{Notice}
use Rattle.exclusion.specs.declared.meaning.Verdict.{Verdict}
use Rattle.exclusion.specs.Meaning.{Meaning}
use Rattle.model.specs.declared.state.Operation.{Operation}
use Rattle.model.specs.declared.state.Core.{Core}
use Rattle.model.specs.declared.state.Settling.{Settling}
use Rattle.model.specs.State.{cpu_at, thread_at}
use Rattle.model.specs.Calls.{Granted, Answered, refused, accepted, ran, advanced, operation_of, check, has_cpu, has_thread, is_operation, not_current, has_current, has_work, Disturbs, DisturbsCurrent}
use Rattle.model.specs.Life.{Event, ledger, Life}
use Rattle.lives.specs.Whole.{WhollyFaithful}
use Rattle.lives.specs.Apart.{given_thread, with_frame}
use Rattle.model.specs.Questions.{item_at, reached}

-- The answers of the coded calls as answers of the definitions.
abbrev pub accept_answer : Result (Unit {0}) Fault → Answered
accept_answer (Ok u) = accepted
accept_answer (Err fault) = refused fault

abbrev pub advance_answer : Result (ℕ × Option Settling) Fault → Answered
advance_answer (Ok p) = advanced p.0 p.1
advance_answer (Err fault) = refused fault

abbrev pub run_answer : Result (Option Settling) Fault → Answered
run_answer (Ok settling) = ran settling
run_answer (Err fault) = refused fault

-- The checks of a call that runs instructions, and the thread that it runs.
abbrev pub working_checks : Core → ℕ → List Check
working_checks core cpu = has_cpu core cpu ∷ has_current core cpu ∷ has_work core cpu ∷ []

abbrev pub Working : Core → ℕ → Result ℕ Fault → Type 0
Working core cpu (Ok t) = (all_pass (working_checks core cpu) ≡ Ok tt) × ((cpu_at core cpu).current ≡ Some t) × (cpu < core.sizes.cpus)
Working core cpu (Err fault) = all_pass (working_checks core cpu) ≡ Err fault

-- The checks of a call that begins an operation, by how many frames a stack may not have and how a stack with as many is refused;
-- those of the other calls; and what is known where they all pass.
abbrev pub begin_checks : Core → ℕ → RawOperation → ℕ → Refusal → List Check
begin_checks core t raw room full = has_thread core t ∷ is_operation core raw ∷ check (nat_lt (thread_at core t).depth room) full ∷ []

abbrev pub CanBegin : List Check → Core → ℕ → RawOperation → Result Operation Fault → Type 0
CanBegin checks core t raw (Ok operation) = (all_pass checks ≡ Ok tt) × (operation_of core.sizes raw ≡ Some operation) × (t < core.sizes.threads) × ((thread_at core t).depth < 8)
CanBegin checks core t raw (Err fault) = all_pass checks ≡ Err fault

-- A number as an index below a limit, or its refusal.
abbrev pub IndexBelow : ℕ → ℕ → Refusal → Result ℕ Fault → Type 0
IndexBelow n limit refusal (Ok i) = (i ≡ n) × (n < limit)
IndexBelow n limit refusal (Err fault) = (limit ≤ n) × (fault ≡ fault_at refusal 0)

abbrev pub switch_checks : Core → ℕ → ℕ → List Check
switch_checks core cpu t = has_cpu core cpu ∷ has_thread core t ∷ not_current core t ∷ []

abbrev pub idle_checks : Core → ℕ → List Check
idle_checks core cpu = has_cpu core cpu ∷ has_current core cpu ∷ []

abbrev pub CanChange : List Check → Core → ℕ → Result (Unit {0}) Fault → Type 0
CanChange checks core cpu (Ok u) = (all_pass checks ≡ Ok tt) × (cpu < core.sizes.cpus)
CanChange checks core cpu (Err fault) = all_pass checks ≡ Err fault

module _ {E : Type 0} (meaning : E → Meaning) (told : E → Notice → E → Type 0) (answers : E → ℕ → ℕ → ℕ → Verdict → Type 0) where
  -- For every past that leads to the machine before the call, all claims hold of that past with this call, of the machine after.
  abbrev pub StaysFaithful : Core × E → Call → Answered → Core × E → Type 0
  StaysFaithful m x r k = (sizes : Sizes) (past : List Event) → Life meaning told answers sizes past m → WhollyFaithful meaning told answers sizes (record { call = x; answer = r } ∷ past) k

  -- A booted machine begins a life, and all claims hold of it.
  abbrev pub BeginsFaithful : Sizes → Core × E → Type 0
  BeginsFaithful sizes m = Life meaning told answers sizes [] m × WhollyFaithful meaning told answers sizes [] m

  -- For every past that leads to a machine, what a question tells of it is what the ledger of that past holds.
  abbrev pub CounterOfTheLedger : Core × E → ℕ → ℕ → Result ℕ Fault → Type 0
  CounterOfTheLedger m cpu counter r =
      (sizes : Sizes) (past : List Event) → Life meaning told answers sizes past m → cpu < sizes.cpus → counter < sizes.counters → r ≡ Ok ((ledger sizes past).counters cpu counter)

  abbrev pub HandOfTheLedger : Core × E → ℕ → Result (Option ℕ) Fault → Type 0
  HandOfTheLedger m thread r = (sizes : Sizes) (past : List Event) → Life meaning told answers sizes past m → thread < sizes.threads → r ≡ Ok ((ledger sizes past).hands thread)

  abbrev pub ListItemOfTheLedger : Core × E → ℕ → ℕ → Result (Option ℕ) Fault → Type 0
  ListItemOfTheLedger m cpu position r =
      (sizes : Sizes) (past : List Event) → Life meaning told answers sizes past m → cpu < sizes.cpus → r ≡ Ok (item_at ((ledger sizes past).lists cpu) position)

  abbrev pub RingItemOfTheLedger : Core × E → ℕ → ℕ → Result (Option ℕ) Fault → Type 0
  RingItemOfTheLedger m cpu position r =
      (sizes : Sizes) (past : List Event) → Life meaning told answers sizes past m → cpu < sizes.cpus → r ≡ Ok (item_at ((ledger sizes past).rings cpu) position)

-- What a disturbing leaves: the machine, or none where the call is held.
abbrev pub outcome : Result (Unit {0}) Fault → Core → Option Core
outcome (Ok u) core = Some core
outcome (Err fault) core = None

module _ {E : Type 0} (told : E → Notice → E → Type 0) (answers : E → ℕ → ℕ → ℕ → Verdict → Type 0) where
  -- A CPU's thread is disturbed, and the CPU is given another, or none.
  abbrev pub Changes : Core × E → ℕ → Option ℕ → Answered → Core × E → Type 0
  Changes m cpu to r k = (o : Option Core) × DisturbsCurrent told answers m cpu (cpu_at m.0 cpu).current o × Granted told answers m cpu o (given_thread cpu to) r k

  -- A thread that a CPU has is disturbed, and gets an operation on top.
  abbrev pub Interrupts : Core × E → ℕ → ℕ → Operation → Answered → Core × E → Type 0
  Interrupts m cpu t operation r k = (o : Option Core) × Disturbs told answers m cpu t o × Granted told answers m cpu o (with_frame t operation) r k

-- Where one is after so many steps, by a test of the end that answers so and a step that leads there: whatever functions of a
-- place the test and the step are, the place is the one that is reached by them.
abbrev pub Walks : (ℕ → Bool → Type 0) → (ℕ → ℕ → Type 0) → ℕ → ℕ → Option ℕ → Type 0
Walks answers leads first steps r =
    (ends : ℕ → Bool) (onward : ℕ → ℕ) → ((place : ℕ) (b : Bool) → answers place b → b ≡ ends place) → ((place next : ℕ) → leads place next → next ≡ onward place)
    → r ≡ reached ends onward first steps
