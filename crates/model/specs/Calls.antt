-- What every call does, for every operand: a relation over the machine and its exclusion before the call, the call, its
-- answer, and both after it.
use Rattle.std.specs.Prelude.{◌≡◌, ℕ, suc, ◌-◌, ◌≤◌, Bool, false, cond, not, ◌&&◌, List, [], ◌∷◌, ◌++◌, length, replicate, is_some, Some, None, Ok, Err, MatchBool, Option, Result, ◌==◌, nat_lt}
use Rattle.faults.specs.declared.Fault.{Fault}
use Rattle.faults.specs.declared.Refusal.{Refusal}
use Rattle.faults.specs.declared.Refusal.TheVariants.{OtherSections, NoCpu, NoThread, NoOperation, Busy, StackFull, Current, Idle, NoWork, Held}
use Rattle.faults.specs.Numbering.{fault_at}
use Rattle.image.specs.declared.fields.Sizes.{Sizes}
use Rattle.image.specs.declared.layout.Section.{Section}
use Rattle.image.specs.Layout.{section_of, sections_of}
use Rattle.image.specs.Checks.{Check, first_failing, all_pass, image_checks}
use Rattle.words.specs.declared.Kind.{Kind}
use Rattle.words.specs.declared.Kind.TheVariants as kind
use Rattle.words.specs.Words.{kinds, kind_number, kind_of}
use Rattle.calls.specs.declared.RawOperation.{RawOperation}
use Rattle.calls.specs.declared.Call.{Call}
use Rattle.calls.specs.declared.Call.TheVariants as call
use Rattle.exclusion.specs.declared.meaning.Notice.{Notice}
use Rattle.exclusion.specs.declared.meaning.Notice.TheVariants.{Left}
use Rattle.exclusion.specs.declared.meaning.Verdict.{Verdict}
use Rattle.exclusion.specs.declared.meaning.Verdict.TheVariants as verdict
use Rattle.exclusion.specs.Meaning.{Meaning, ToldAll}
use Rattle.exclusion.specs.Parts.{section_at}
use Rattle.model.specs.declared.state.Operation.{Operation}
use Rattle.model.specs.declared.state.Operation.TheVariants.{Add, Push, Pop, Put, Take}
use Rattle.model.specs.declared.state.Thread.{Thread}
use Rattle.model.specs.declared.state.Cpu.{Cpu}
use Rattle.model.specs.declared.state.Image.{Image}
use Rattle.model.specs.declared.state.Core.{Core}
use Rattle.model.specs.declared.state.Settling.{Settling}
use Rattle.model.specs.State.{cpu_current, thread_at, cpu_at, put_thread, put_cpu, top_frame, with_top, pushed, begun, new_core}
use Rattle.model.specs.Words.{performed}

-- The answer of a call: refused with a fault; accepted, of a call that answers nothing else; the settling of a run, or none;
-- of an advance the number of instructions run and the settling, or none.
pub data Answered : Type 0 where
  refused : Fault → Answered
  accepted : Answered
  ran : Option Settling → Answered
  advanced : ℕ → Option Settling → Answered

-- Boot: the checks of the image, then the exclusion's sections against the table's, the first that differs.
abbrev pub same_section : Section → Section → Bool
same_section one other = one.start == other.start && (one.length == other.length && one.abort == other.abort)

abbrev pub section_checks : (ℕ → Section) → List ℕ → List Kind → List Check
section_checks section table [] = []
section_checks section table (kind ∷ rest) =
    record { passes = same_section (section (kind_number kind)) (section_of table kind); fault = fault_at OtherSections (kind_number kind) } ∷ section_checks section table rest

abbrev pub image_of : List ℕ → List ℕ → Image
image_of table text = record { sections = sections_of table; text = record { words = text ++ replicate (256 - length text) 0; count = length text } }

abbrev pub booted_core : Sizes → List ℕ → List ℕ → ℕ → (ℕ → Section) → Result Core Fault
booted_core sizes table text signature section =
    first_failing (new_core sizes (image_of table text)) (image_checks sizes table text signature ++ section_checks section table kinds)

-- What is told at boot: left, for CPUs 0 to 7.
abbrev pub all_left : List Notice
all_left = Left 0 ∷ Left 1 ∷ Left 2 ∷ Left 3 ∷ Left 4 ∷ Left 5 ∷ Left 6 ∷ Left 7 ∷ []

-- The refusals of calls, each as a check.
abbrev pub check : Bool → Refusal → Check
check passes refusal = record { passes = passes; fault = fault_at refusal 0 }

module _ (sizes : Sizes) where
  -- An operation by its three numbers: what an operation lacks must be 0, and a counter is below K.
  abbrev pub by_kind : Option Kind → ℕ → ℕ → Option Operation
  by_kind None counter amount = None
  by_kind (Some kind.Add) counter amount = cond (nat_lt counter sizes.counters) (Some (Add counter amount)) None
  by_kind (Some kind.Push) counter amount = cond (counter == 0 && amount == 0) (Some Push) None
  by_kind (Some kind.Pop) counter amount = cond (counter == 0 && amount == 0) (Some Pop) None
  by_kind (Some kind.Put) counter amount = cond (counter == 0) (Some (Put amount)) None
  by_kind (Some kind.Take) counter amount = cond (counter == 0 && amount == 0) (Some Take) None

  abbrev pub operation_of : RawOperation → Option Operation
  operation_of raw = by_kind (kind_of raw.kind) raw.counter raw.amount

module _ (core : Core) where
  abbrev pub has_cpu : ℕ → Check
  has_cpu cpu = check (nat_lt cpu core.sizes.cpus) NoCpu

  abbrev pub has_thread : ℕ → Check
  has_thread t = check (nat_lt t core.sizes.threads) NoThread

  abbrev pub is_operation : RawOperation → Check
  is_operation raw = check (is_some (operation_of core.sizes raw)) NoOperation

  abbrev pub has_no_frame : ℕ → Check
  has_no_frame t = check ((thread_at core t).depth == 0) Busy

  abbrev pub has_room : ℕ → Check
  has_room t = check (nat_lt (thread_at core t).depth 8) StackFull

  -- The CPU on which a thread is current, if it is on one.
  abbrev is_current : ℕ → Option ℕ → Bool
  is_current t None = false
  is_current t (Some s) = s == t

  abbrev pub cpu_among : List Cpu → ℕ → ℕ → Option ℕ
  cpu_among [] c t = None
  cpu_among (cpu ∷ cpus) c t = cond (is_current t cpu.current) (Some c) (cpu_among cpus (suc c) t)

  abbrev pub cpu_of : ℕ → Option ℕ
  cpu_of t = cpu_among core.cpus 0 t

  abbrev pub not_current : ℕ → Check
  not_current t = check (not (is_some (cpu_of t))) Current

  abbrev pub has_current : ℕ → Check
  has_current cpu = check (is_some (cpu_at core cpu).current) Idle

  abbrev pub current_works : Option ℕ → Bool
  current_works None = false
  current_works (Some t) = nat_lt 0 (thread_at core t).depth

  abbrev pub has_work : ℕ → Check
  has_work cpu = check (current_works (cpu_at core cpu).current) NoWork

  -- A thread that an exclusion sends back: the place is set; nothing is armed any more, unless it goes back to the start of
  -- the armed section. Outside of all sections nothing is armed any more. Where the call is held, the thread stays.
  abbrev pub sent_back : Thread → ℕ → Thread
  sent_back thread place =
      with_top thread (record {
        operation = (top_frame thread).operation;
        place = place;
        armed = cond (place == (section_at core.image.sections (top_frame thread).armed).start) (top_frame thread).armed 0;
      })

  abbrev pub disarmed : Thread → Thread
  disarmed thread = with_top thread (record { operation = (top_frame thread).operation; place = (top_frame thread).place; armed = 0 })

  abbrev pub after_verdict : Thread → Verdict → Option Thread
  after_verdict thread verdict.Outside = Some (disarmed thread)
  after_verdict thread verdict.Held = None
  after_verdict thread (verdict.Back place) = Some (sent_back thread place)

  abbrev pub with_thread : ℕ → Option Thread → Option Core
  with_thread t None = None
  with_thread t (Some thread) = Some (put_thread core t thread)

module _ {E : Type 0} (told : E → Notice → E → Type 0) (answers : E → ℕ → ℕ → ℕ → Verdict → Type 0) where
  -- To disturb a thread is to take it off its CPU, or to interrupt it by a signal; before that the exclusion is asked what
  -- becomes of its top frame. With an empty stack nothing is asked. The outcome is the machine with that frame as it then is,
  -- or none where the call is held.
  abbrev pub Disturbs : Core × E → ℕ → ℕ → Option Core → Type 0
  Disturbs m cpu t outcome =
      let thread = thread_at m.0 t in
      MatchBool (thread.depth == 0) (outcome ≡ Some m.0)
      ((v : Verdict) × answers m.1 cpu (top_frame thread).armed (top_frame thread).place v × (outcome ≡ with_thread m.0 t (after_verdict m.0 thread v)))

  -- Disturbing whatever thread a CPU has.
  abbrev pub DisturbsCurrent : Core × E → ℕ → Option ℕ → Option Core → Type 0
  DisturbsCurrent m cpu None outcome = outcome ≡ Some m.0
  DisturbsCurrent m cpu (Some t) outcome = Disturbs m cpu t outcome

  -- A switch, an idle, and a signal of a current thread are granted on their CPU if they are accepted: left is told, and the
  -- rest done. Where the exclusion answered Held, the call is held, which is to say refused.
  abbrev pub Granted : Core × E → ℕ → Option Core → (Core → Core) → Answered → Core × E → Type 0
  Granted m cpu None rest r k = (r ≡ refused (fault_at Held 0)) × (k ≡ m)
  Granted m cpu (Some core) rest r k = (r ≡ accepted) × (k.0 ≡ rest core) × told m.1 (Left cpu) k.1

  -- A call whose checks are tried in order: refused, which leaves all as it was, or done.
  abbrev pub ByChecks : Core × E → Result (Unit {0}) Fault → Answered → Core × E → Type 0 → Type 0
  ByChecks m (Ok u) r k done = done
  ByChecks m (Err fault) r k done = (r ≡ refused fault) × (k ≡ m)

  abbrev pub UnlessRefused : Core × E → List Check → Answered → Core × E → Type 0 → Type 0
  UnlessRefused m checks r k done = ByChecks m (all_pass checks) r k done

  -- One instruction of a thread.
  abbrev pub ToldIf : E → Option Notice → E → Type 0
  ToldIf e None f = f ≡ e
  ToldIf e (Some notice) f = told e notice f

  abbrev pub Performs : Core × E → ℕ → ℕ → Option Settling → Core × E → Type 0
  Performs m cpu t settling k =
      (k.0 ≡ (performed m.0 cpu t).core) × (settling ≡ (performed m.0 cpu t).settling) × ToldIf m.1 (performed m.0 cpu t).notice k.1

  -- So many instructions of a thread, one after another, of which only the last may settle.
  pub data Runs (cpu t : ℕ) : ℕ → Option Settling → Core × E → Core × E → Type 0 where
    none : {m : Core × E} → Runs cpu t 0 None m m
    more : {n : ℕ} {settling : Option Settling} {m p k : Core × E} → Runs cpu t n None m p → Performs p cpu t settling k → Runs cpu t (suc n) settling m k

  -- An advance runs until n instructions are done or one has settled.
  abbrev pub Stopped : ℕ → ℕ → Option Settling → Type 0
  Stopped n count None = count ≡ n
  Stopped n count (Some settling) = count ≤ n

  abbrev pub ByCurrent : Option ℕ → (ℕ → Type 0) → Type 0
  ByCurrent None P = ⊥
  ByCurrent (Some t) P = P t

  abbrev pub ByOperation : Option Operation → (Operation → Type 0) → Type 0
  ByOperation None P = ⊥
  ByOperation (Some operation) P = P operation

  abbrev pub WithOperation : Core → RawOperation → (Operation → Type 0) → Type 0
  WithOperation core raw P = ByOperation (operation_of core.sizes raw) P

  abbrev pub with_frame : ℕ → Operation → Core → Core
  with_frame t operation core = put_thread core t (pushed (thread_at core t) (begun core operation))

  abbrev pub with_current : ℕ → Option ℕ → Core → Core
  with_current cpu t core = put_cpu core cpu (cpu_current (cpu_at core cpu) t)

  -- A signal of a thread that is current on a CPU is granted or held there; of another it is only accepted.
  abbrev pub Signals : Core × E → ℕ → Operation → Option ℕ → Answered → Core × E → Type 0
  Signals m t operation None r k = (r ≡ accepted) × (k.0 ≡ with_frame t operation m.0) × (k.1 ≡ m.1)
  Signals m t operation (Some cpu) r k = (outcome : Option Core) × Disturbs m cpu t outcome × Granted m cpu outcome (with_frame t operation) r k

  -- What a call does.
  abbrev pub Step : Core × E → Call → Answered → Core × E → Type 0
  Step m (call.Enlist t raw) r k =
      UnlessRefused m (has_thread m.0 t ∷ is_operation m.0 raw ∷ has_no_frame m.0 t ∷ []) r k
      (WithOperation m.0 raw (λ operation. (r ≡ accepted) × (k.0 ≡ with_frame t operation m.0) × (k.1 ≡ m.1)))
  Step m (call.Run cpu) r k =
      UnlessRefused m (has_cpu m.0 cpu ∷ has_current m.0 cpu ∷ has_work m.0 cpu ∷ []) r k
      (ByCurrent (cpu_at m.0 cpu).current (λ t. (settling : Option Settling) × (r ≡ ran settling) × Performs m cpu t settling k))
  Step m (call.Advance cpu n) r k =
      UnlessRefused m (has_cpu m.0 cpu ∷ has_current m.0 cpu ∷ has_work m.0 cpu ∷ []) r k
      (ByCurrent (cpu_at m.0 cpu).current (λ t.
      (count : ℕ) × (settling : Option Settling) × (r ≡ advanced count settling) × Stopped n count settling × Runs cpu t count settling m k))
  Step m (call.Switch cpu t) r k =
      UnlessRefused m (has_cpu m.0 cpu ∷ has_thread m.0 t ∷ not_current m.0 t ∷ []) r k
      ((outcome : Option Core) × DisturbsCurrent m cpu (cpu_at m.0 cpu).current outcome × Granted m cpu outcome (with_current cpu (Some t)) r k)
  Step m (call.Idle cpu) r k =
      UnlessRefused m (has_cpu m.0 cpu ∷ has_current m.0 cpu ∷ []) r k
      ((outcome : Option Core) × DisturbsCurrent m cpu (cpu_at m.0 cpu).current outcome × Granted m cpu outcome (with_current cpu None) r k)
  Step m (call.Signal t raw) r k =
      UnlessRefused m (has_thread m.0 t ∷ is_operation m.0 raw ∷ has_room m.0 t ∷ []) r k
      (WithOperation m.0 raw (λ operation. Signals m t operation (cpu_of m.0 t) r k))

  -- What boot does, with an exclusion of a meaning: no machine, and then the exclusion is told nothing; or a new one, whose
  -- exclusion was told left for every CPU.
  abbrev pub Boots : (E → Meaning) → Sizes → ℕ → List ℕ → List ℕ → E → Result (Core × E) Fault → Type 0
  Boots meaning sizes signature table text e (Ok m) = (Ok m.0 ≡ booted_core sizes table text signature (meaning e).section) × ToldAll told e all_left m.1
  Boots meaning sizes signature table text e (Err fault) = Err fault ≡ booted_core sizes table text signature (meaning e).section
