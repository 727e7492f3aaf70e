-- The claims: what holds of a machine with any past, over any exclusion that has the meaning.
use Rattle.std.specs.Prelude.{◌≡◌, ℕ, zero, suc, ◌+◌, ◌%◌, ◌<◌, ◌≤◌, Bool, true, false, cond, ◌⊎◌, List, [], ◌∷◌, ◌++◌, map, reverse, length, take, replicate, is_some, Some, None, Option, ◌==◌, ◌≢◌, slice_index, slice_index_or}
use Rattle.std.specs.List.{AllByRecursion}
use Rattle.faults.specs.declared.Refusal.TheVariants.{Held}
use Rattle.faults.specs.Numbering.{fault_at, number_of}
use Rattle.image.specs.declared.fields.Sizes.{Sizes}
use Rattle.calls.specs.declared.Call.{Call}
use Rattle.calls.specs.declared.Call.TheVariants as call
use Rattle.exclusion.specs.declared.meaning.Notice.{Notice}
use Rattle.exclusion.specs.declared.meaning.Verdict.{Verdict}
use Rattle.exclusion.specs.Meaning.{Meaning, Shaped, Obeys, Says, Asked}
use Rattle.model.specs.declared.state.Operation.{Operation}
use Rattle.model.specs.declared.state.Frame.{Frame}
use Rattle.model.specs.declared.state.Thread.{Thread}
use Rattle.model.specs.declared.state.Cpu.{Cpu}
use Rattle.model.specs.declared.state.Core.{Core}
use Rattle.model.specs.declared.state.Settling.{Settling}
use Rattle.model.specs.State.{thread_at, cpu_at, top_frame}
use Rattle.model.specs.Calls.{Answered, refused, accepted, ran, advanced, operation_of, Step}
use Rattle.model.specs.Ledger.{Ledger, Waiting, Fate, was_refused, was_accepted, has_settled, fate_of}
use Rattle.model.specs.Life.{Event, fed, ledger, Life}

-- An exclusion has the meaning: what it is told and what it answers is as the meaning says.
pub record HasMeaning {E : Type 0} (meaning : E → Meaning) (told : E → Notice → E → Type 0) (answers : E → ℕ → ℕ → ℕ → Verdict → Type 0) : Type 0 where
  pub shaped : (e : E) → Shaped (meaning e)
  pub obeys : (e : E) (n : Notice) (f : E) → told e n f → Obeys (meaning e) n (meaning f)
  pub says : (e : E) (cpu armed place : ℕ) (v : Verdict) → answers e cpu armed place v → Says (meaning e) cpu armed place v

-- Agreement.

-- The nodes of a list, from its head through the next words to the end, which is 0.
abbrev pub Listed : List ℕ → ℕ → List ℕ → Type 0
Listed next head [] = head ≡ 0
Listed next head (node ∷ nodes) = (0 < node) × (head ≡ node) × Listed next (slice_index next node) nodes

-- The packets of a ring of R + 1 slots, from its head to its tail.
pub record InRing (packets : ℕ) (cpu : Cpu) (ring : List ℕ) : Type 0 where
  pub at_most : length ring ≤ packets
  pub slot : (i : ℕ) → i < length ring → slice_index cpu.slots ((cpu.head + i) % (packets + 1)) ≡ slice_index ring i
  pub up_to_the_tail : cpu.tail ≡ (cpu.head + length ring) % (packets + 1)

-- The structures and the hands are the ledger's.
pub record StructuresAgree (sizes : Sizes) (l : Ledger) (core : Core) : Type 0 where
  pub counters : (cpu counter : ℕ) → cpu < sizes.cpus → counter < sizes.counters → slice_index (cpu_at core cpu).counters counter ≡ l.counters cpu counter
  pub lists : (cpu : ℕ) → cpu < sizes.cpus → Listed core.next (cpu_at core cpu).list (l.lists cpu)
  pub rings : (cpu : ℕ) → cpu < sizes.cpus → InRing sizes.packets (cpu_at core cpu) (l.rings cpu)
  pub hands : (thread : ℕ) → thread < sizes.threads → (thread_at core thread).hand ≡ l.hands thread

-- Each settling of the past is the one that the ledger gives.
abbrev pub settling_of : Answered → Option Settling
settling_of (refused fault) = None
settling_of accepted = None
settling_of (ran settling) = settling
settling_of (advanced count settling) = settling

abbrev pub SettlingsAgree : Sizes → List Event → Type 0
SettlingsAgree sizes [] = Unit {0}
SettlingsAgree sizes (event ∷ before) = (settling_of event.answer ≡ (fed sizes before (ledger sizes before) event).settling) × SettlingsAgree sizes before

-- Conservation.

-- The operations that were brought by calls that were accepted, and those that have settled.
abbrev pub with_number : ℕ → Option Operation → List Waiting
with_number number None = []
with_number number (Some operation) = record { call = number; operation = operation } ∷ []

abbrev pub brought_by : Sizes → ℕ → Call → Fate → List Waiting
brought_by sizes number c was_refused = []
brought_by sizes number c has_settled = []
brought_by sizes number (call.Enlist thread raw) was_accepted = with_number number (operation_of sizes raw)
brought_by sizes number (call.Signal thread raw) was_accepted = with_number number (operation_of sizes raw)
brought_by sizes number (call.Run cpu) was_accepted = []
brought_by sizes number (call.Advance cpu n) was_accepted = []
brought_by sizes number (call.Switch cpu thread) was_accepted = []
brought_by sizes number (call.Idle cpu) was_accepted = []

abbrev pub brought : Sizes → List Event → List Waiting
brought sizes [] = []
brought sizes (event ∷ before) = brought_by sizes (suc (length before)) event.call (fate_of event.answer) ++ brought sizes before

abbrev pub settled : Sizes → List Event → List Waiting
settled sizes [] = []
settled sizes (event ∷ before) = (fed sizes before (ledger sizes before) event).done ++ settled sizes before

-- How often the operation of a call is among some.
abbrev pub occurs : ℕ → List Waiting → ℕ
occurs number [] = 0
occurs number (w ∷ ws) = cond (w.call == number) 1 0 + occurs number ws

-- It has settled once and waits nowhere, or it has not settled and waits once, in one thread.
pub record HasSettledOnce (sizes : Sizes) (past : List Event) (number : ℕ) : Type 0 where
  pub once : occurs number (settled sizes past) ≡ 1
  pub waits_nowhere : (thread : ℕ) → occurs number ((ledger sizes past).waiting thread) ≡ 0

pub record WaitsOnce (sizes : Sizes) (past : List Event) (number : ℕ) : Type 0 where
  pub not_settled : occurs number (settled sizes past) ≡ 0
  pub thread : ℕ
  pub once : occurs number ((ledger sizes past).waiting thread) ≡ 1
  pub nowhere_else : (other : ℕ) → (other ≢ thread) → occurs number ((ledger sizes past).waiting other) ≡ 0

-- How often a node is on a list or in a hand.
abbrev pub among : ℕ → List ℕ → ℕ
among node [] = 0
among node (n ∷ ns) = cond (n == node) 1 0 + among node ns

abbrev pub in_hand : ℕ → Option ℕ → ℕ
in_hand node None = 0
in_hand node (Some n) = cond (n == node) 1 0

abbrev pub sum_below : ℕ → (ℕ → ℕ) → ℕ
sum_below zero f = 0
sum_below (suc k) f = f k + sum_below k f

abbrev pub found : Sizes → Ledger → ℕ → ℕ
found sizes l node = sum_below sizes.cpus (λ cpu. among node (l.lists cpu)) + sum_below sizes.threads (λ thread. in_hand node (l.hands thread))

-- The operations of a thread's frames, the top one first.
abbrev pub operations_of : Thread → List Operation
operations_of thread = reverse (map (λ (frame : Frame). frame.operation) (take thread.depth thread.frames))

pub record Conserved (sizes : Sizes) (past : List Event) (core : Core) : Type 0 where
  pub operations : (number : ℕ) → 0 < occurs number (brought sizes past) → HasSettledOnce sizes past number ⊎ WaitsOnce sizes past number
  pub frames : (thread : ℕ) → thread < sizes.threads → operations_of (thread_at core thread) ≡ map (λ (w : Waiting). w.operation) ((ledger sizes past).waiting thread)
  pub nodes : (node : ℕ) → 1 ≤ node → node ≤ sizes.nodes → found sizes (ledger sizes past) node ≡ 1

-- Progress.

-- What happens on a CPU: an instruction, which settles or not; a switch, idle or signal that is granted there; one that is
-- held there.
pub data Mark : Type 0 where
  instruction : Bool → Mark
  granted : Mark
  held : Call → Mark

-- Whether a call is about a CPU; a signal is about the CPU on which its thread is current, as the ledger knows.
abbrev pub is_thread : ℕ → Option ℕ → Bool
is_thread thread None = false
is_thread thread (Some current) = current == thread

abbrev pub about : Ledger → ℕ → Call → Bool
about l cpu (call.Enlist thread raw) = false
about l cpu (call.Run c) = c == cpu
about l cpu (call.Advance c n) = c == cpu
about l cpu (call.Switch c thread) = c == cpu
about l cpu (call.Idle c) = c == cpu
about l cpu (call.Signal thread raw) = is_thread thread (l.current cpu)

-- The marks of an event, the newest first. Of an advance only the last instruction may settle.
abbrev pub instructions_of : ℕ → Option Settling → List Mark
instructions_of zero settling = []
instructions_of (suc count) settling = instruction (is_some settling) ∷ replicate count (instruction false)

abbrev pub marks_of : Call → Answered → List Mark
marks_of c (refused fault) = cond (number_of fault.refusal == 18) (held c ∷ []) []
marks_of c accepted = granted ∷ []
marks_of c (ran settling) = instruction (is_some settling) ∷ []
marks_of c (advanced count settling) = instructions_of count settling

-- What has happened on a CPU, the newest first.
abbrev pub trace : Sizes → List Event → ℕ → List Mark
trace sizes [] cpu = []
trace sizes (event ∷ before) cpu = cond (about (ledger sizes before) cpu event.call) (marks_of event.call event.answer) [] ++ trace sizes before cpu

abbrev pub one_instruction : Mark → ℕ
one_instruction (instruction settles) = 1
one_instruction granted = 0
one_instruction (held c) = 0

abbrev pub instructions : List Mark → ℕ
instructions [] = 0
instructions (mark ∷ marks) = one_instruction mark + instructions marks

abbrev pub NotGranted : Mark → Type 0
NotGranted (instruction settles) = Unit {0}
NotGranted granted = ⊥
NotGranted (held c) = Unit {0}

abbrev pub NothingGranted : List Mark → Type 0
NothingGranted marks = AllByRecursion NotGranted marks

abbrev pub is_settling : Mark → Bool
is_settling (instruction settles) = settles
is_settling granted = false
is_settling (held c) = false

abbrev pub Settles : List Mark → Type 0
Settles marks = (i : ℕ) × (i < length marks) × (is_settling (slice_index_or marks i granted) ≡ true)

-- Of any eight successive instructions of a CPU, with nothing granted there between, one settles. Of the next five after a
-- call that was held there, with nothing granted there between, one settles; and right after the first that does, the same
-- call is not held.
module _ {E : Type 0} (told : E → Notice → E → Type 0) (answers : E → ℕ → ℕ → ℕ → Verdict → Type 0) where
  pub record Progresses (sizes : Sizes) (past : List Event) (m : Core × E) : Type 0 where
    pub in_eight : (cpu : ℕ) (after window before : List Mark) → trace sizes past cpu ≡ after ++ (window ++ before) → NothingGranted window → instructions window ≡ 8 → Settles window
    pub in_five_after_held : (cpu : ℕ) (c : Call) (after window before : List Mark) → trace sizes past cpu ≡ after ++ (window ++ (held c ∷ before)) → NothingGranted window → instructions window ≡ 5 → Settles window
    pub then_not_held : (cpu : ℕ) (c : Call) (window before : List Mark) → trace sizes past cpu ≡ instruction true ∷ (window ++ (held c ∷ before)) → NothingGranted window → (Settles window → ⊥)
        → (k : Core × E) → Step told answers m c (refused (fault_at Held 0)) k → ⊥

-- The machine puts only questions that the meaning answers: whenever a CPU's thread has an operation, its place is a possible
-- text address in no section or in the armed section alone.
abbrev pub ByThread : Option ℕ → (ℕ → Type 0) → Type 0
ByThread None P = Unit {0}
ByThread (Some thread) P = P thread

abbrev pub OnlyAnswered : Meaning → Sizes → Core → Type 0
OnlyAnswered meaning sizes core =
    (cpu : ℕ) → cpu < sizes.cpus
    → ByThread (cpu_at core cpu).current (λ t. 0 < (thread_at core t).depth → Asked meaning (top_frame (thread_at core t)).armed (top_frame (thread_at core t)).place)

-- All of it, of a machine with a past.
module _ {E : Type 0} (meaning : E → Meaning) (told : E → Notice → E → Type 0) (answers : E → ℕ → ℕ → ℕ → Verdict → Type 0) where
  pub record Faithful (sizes : Sizes) (past : List Event) (m : Core × E) : Type 0 where
    pub structures_agree : StructuresAgree sizes (ledger sizes past) m.0
    pub settlings_agree : SettlingsAgree sizes past
    pub conserved : Conserved sizes past m.0
    pub progresses : Progresses told answers sizes past m
    pub only_answered : OnlyAnswered (meaning m.1) sizes m.0

  abbrev pub EveryLifeIsFaithful : Type 0
  EveryLifeIsFaithful = HasMeaning meaning told answers → (sizes : Sizes) (past : List Event) (m : Core × E) → Life meaning told answers sizes past m → Faithful sizes past m
