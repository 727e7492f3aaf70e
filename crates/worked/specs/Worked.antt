-- The worked examples, which hold the definitions to something outside them.
use Rattle.std.specs.Prelude.{◌≡◌, ℕ, zero, suc, List, [], ◌∷◌, Some, None, Err, slice_index_or}
use Rattle.faults.specs.declared.Refusal.{Refusal}
use Rattle.faults.specs.declared.Refusal.TheVariants.{WrongSpelling}
use Rattle.faults.specs.Numbering.{fault_at}
use Rattle.numbers.specs.Spelling.{spelling}
use Rattle.numbers.specs.Reading.{number_at}
use Rattle.image.specs.declared.fields.Sizes.{Sizes}
use Rattle.image.specs.declared.layout.Section.{Section}
use Rattle.image.specs.Layout.{sections_of}
use Rattle.calls.specs.declared.RawOperation.{RawOperation}
use Rattle.calls.specs.declared.Call.{Call}
use Rattle.calls.specs.declared.Call.TheVariants as call
use Rattle.exclusion.specs.declared.meaning.Notice.{Notice}
use Rattle.exclusion.specs.declared.meaning.Verdict.{Verdict}
use Rattle.exclusion.specs.declared.meaning.Verdict.TheVariants.{Outside, Back}
use Rattle.exclusion.specs.Meaning.{Meaning}
use Rattle.exclusion.specs.Parts.{patience_at, counted, layered, held_while}
use Rattle.exclusion.specs.Ours.{impatient, abort_restarts, rolls_back, masking_choice, grace_choice}
use Rattle.model.specs.declared.state.Core.{Core}
use Rattle.model.specs.declared.state.Operation.{Operation}
use Rattle.model.specs.declared.state.Operation.TheVariants.{Add, Put, Take}
use Rattle.model.specs.declared.state.Answer.{Answer}
use Rattle.model.specs.declared.state.Answer.TheVariants.{Done, Got, Empty, Full}
use Rattle.model.specs.State.{no_frame, thread_at, top_frame}
use Rattle.model.specs.Calls.{Answered, refused, accepted, ran}
use Rattle.model.specs.Life.{Event, Life}

-- The sample text: the five routines in order, each as entry, section, signature and abort; and its table.
abbrev pub sample_text : List ℕ
sample_text = 1 ∷ 2 ∷ 3 ∷ 4 ∷ 5 ∷ 1392848979 ∷ 22 ∷ 1 ∷ 2 ∷ 6 ∷ 8 ∷ 9 ∷ 10 ∷ 1392848979 ∷ 22 ∷ 1 ∷ 2 ∷ 7 ∷ 8 ∷ 11 ∷ 12 ∷ 13 ∷ 1392848979 ∷ 22 ∷ 1 ∷ 2 ∷ 14 ∷ 15 ∷ 16 ∷ 17 ∷ 18 ∷ 1392848979 ∷ 22 ∷ 1 ∷ 2 ∷ 15 ∷ 14 ∷ 19 ∷ 20 ∷ 21 ∷ 1392848979 ∷ 22 ∷ []

abbrev pub sample_table : List ℕ
sample_table = 0 ∷ 0 ∷ 0 ∷ 0 ∷ 0 ∷ 0 ∷ 0 ∷ 0 ∷ 4 ∷ 16 ∷ 0 ∷ 0 ∷ 0 ∷ 0 ∷ 0 ∷ 0 ∷ 16 ∷ 0 ∷ 0 ∷ 0 ∷ 0 ∷ 0 ∷ 0 ∷ 0 ∷ 24 ∷ 16 ∷ 0 ∷ 0 ∷ 0 ∷ 0 ∷ 0 ∷ 0 ∷ 0 ∷ 0 ∷ 0 ∷ 0 ∷ 0 ∷ 0 ∷ 0 ∷ 0 ∷ 32 ∷ 16 ∷ 0 ∷ 0 ∷ 0 ∷ 0 ∷ 0 ∷ 0 ∷ 20 ∷ 0 ∷ 0 ∷ 0 ∷ 0 ∷ 0 ∷ 0 ∷ 0 ∷ 56 ∷ 16 ∷ 0 ∷ 0 ∷ 0 ∷ 0 ∷ 0 ∷ 0 ∷ 0 ∷ 0 ∷ 0 ∷ 0 ∷ 0 ∷ 0 ∷ 0 ∷ 0 ∷ 64 ∷ 16 ∷ 0 ∷ 0 ∷ 0 ∷ 0 ∷ 0 ∷ 0 ∷ 24 ∷ 0 ∷ 0 ∷ 0 ∷ 0 ∷ 0 ∷ 0 ∷ 0 ∷ 92 ∷ 16 ∷ 0 ∷ 0 ∷ 0 ∷ 0 ∷ 0 ∷ 0 ∷ 0 ∷ 0 ∷ 0 ∷ 0 ∷ 0 ∷ 0 ∷ 0 ∷ 0 ∷ 100 ∷ 16 ∷ 0 ∷ 0 ∷ 0 ∷ 0 ∷ 0 ∷ 0 ∷ 24 ∷ 0 ∷ 0 ∷ 0 ∷ 0 ∷ 0 ∷ 0 ∷ 0 ∷ 128 ∷ 16 ∷ 0 ∷ 0 ∷ 0 ∷ 0 ∷ 0 ∷ 0 ∷ 0 ∷ 0 ∷ 0 ∷ 0 ∷ 0 ∷ 0 ∷ 0 ∷ 0 ∷ 136 ∷ 16 ∷ 0 ∷ 0 ∷ 0 ∷ 0 ∷ 0 ∷ 0 ∷ 24 ∷ 0 ∷ 0 ∷ 0 ∷ 0 ∷ 0 ∷ 0 ∷ 0 ∷ 164 ∷ 16 ∷ 0 ∷ 0 ∷ 0 ∷ 0 ∷ 0 ∷ 0 ∷ []

abbrev pub sample_signature : ℕ
sample_signature = 1392848979

abbrev pub sample_sizes : Sizes
sample_sizes = record { cpus = 1; threads = 2; nodes = 2; packets = 1; counters = 1 }

abbrev pub sample_sections : List Section
sample_sections = sections_of sample_table

-- 0, 127, 128 and 300 are spelled 00, 7F, 80 01 and AC 02; 80 00 is refused.
pub record Numbers : Type 0 where
  pub zero_is : spelling 0 ≡ 0 ∷ []
  pub largest_of_one_byte_is : spelling 127 ≡ 127 ∷ []
  pub least_of_two_bytes_is : spelling 128 ≡ 128 ∷ 1 ∷ []
  pub three_hundred_is : spelling 300 ≡ 172 ∷ 2 ∷ []
  pub longer_is_refused : number_at (128 ∷ 0 ∷ []) 0 ≡ Err (fault_at WrongSpelling 0)

-- The section of add starts at 4100, is 16 bytes long and aborts to 4120.
pub record Verdicts : Type 0 where
  pub before_the_start : abort_restarts sample_sections 1 4096 ≡ Outside
  pub at_the_start : abort_restarts sample_sections 1 4100 ≡ Back 4120
  pub at_the_last : abort_restarts sample_sections 1 4112 ≡ Back 4120
  pub behind_the_end : abort_restarts sample_sections 1 4116 ≡ Outside
  pub rollback_at_the_start : rolls_back sample_sections 4100 ≡ Back 4100
  pub rollback_at_the_last : rolls_back sample_sections 4112 ≡ Back 4100

-- The exclusions over the sample's sections, each by what it keeps: the classic two keep nothing, masking and grace 1 over
-- abort restart keep a count for each CPU.
abbrev pub told_nothing : List ℕ → Notice → List ℕ → Type 0
told_nothing e n f = f ≡ e

abbrev pub told_masking : List ℕ → Notice → List ℕ → Type 0
told_masking e n f = f ≡ counted (masking_choice sample_sections) e n

abbrev pub told_grace : List ℕ → Notice → List ℕ → Type 0
told_grace e n f = f ≡ counted (grace_choice 1) e n

abbrev pub answers_abort : List ℕ → ℕ → ℕ → ℕ → Verdict → Type 0
answers_abort e cpu armed place v = v ≡ abort_restarts sample_sections armed place

abbrev pub answers_rollback : List ℕ → ℕ → ℕ → ℕ → Verdict → Type 0
answers_rollback e cpu armed place v = v ≡ rolls_back sample_sections place

abbrev pub answers_masking : List ℕ → ℕ → ℕ → ℕ → Verdict → Type 0
answers_masking e cpu armed place v = v ≡ held_while (patience_at e cpu) (rolls_back sample_sections place)

abbrev pub answers_grace : List ℕ → ℕ → ℕ → ℕ → Verdict → Type 0
answers_grace e cpu armed place v = v ≡ held_while (patience_at e cpu) (abort_restarts sample_sections armed place)

-- A machine with a past of the sample job.
abbrev pub Lived : (List ℕ → Meaning) → (List ℕ → Notice → List ℕ → Type 0) → (List ℕ → ℕ → ℕ → ℕ → Verdict → Type 0) → List Event → (Core → Type 0) → Type 0
Lived meaning told answers past P = (m : Core × List ℕ) × Life meaning told answers sample_sizes past m × P m.0

abbrev classic : List ℕ → Meaning
classic e = impatient sample_sections

abbrev waiting : List ℕ → Meaning
waiting e = layered (impatient sample_sections) e

abbrev pub Abort : List Event → (Core → Type 0) → Type 0
Abort = Lived classic told_nothing answers_abort

abbrev pub Rollback : List Event → (Core → Type 0) → Type 0
Rollback = Lived classic told_nothing answers_rollback

abbrev pub Masking : List Event → (Core → Type 0) → Type 0
Masking = Lived waiting told_masking answers_masking

abbrev pub GraceOne : List Event → (Core → Type 0) → Type 0
GraceOne = Lived waiting told_grace answers_grace

-- Pasts, the newest event first.
abbrev pub event : Call → Answered → Event
event c r = record { call = c; answer = r }

abbrev pub add_five : RawOperation
add_five = record { kind = 1; counter = 0; amount = 5 }

abbrev pub put : ℕ → RawOperation
put amount = record { kind = 4; counter = 0; amount = amount }

abbrev pub take_one : RawOperation
take_one = record { kind = 5; counter = 0; amount = 0 }

abbrev pub runs : ℕ → List Event → List Event
runs zero past = past
runs (suc k) past = event (call.Run 0) (ran None) ∷ runs k past

abbrev pub settled : Operation → Answer → List Event → List Event
settled operation answer past = event (call.Run 0) (ran (Some (record { thread = 0; operation = operation; cpu = 0; answer = answer }))) ∷ past

-- Enlisted and switched in; a switch to thread 1, and back.
abbrev pub add_switched_in : List Event
add_switched_in = event (call.Switch 0 0) accepted ∷ event (call.Enlist 0 add_five) accepted ∷ []

abbrev pub switched_away : List Event → List Event
switched_away past = event (call.Switch 0 1) accepted ∷ past

abbrev pub switch_held : List Event → List Event
switch_held past = event (call.Switch 0 1) (refused (fault_at Refusal.Held 0)) ∷ past

abbrev pub switched_back : List Event → List Event
switched_back past = event (call.Switch 0 0) accepted ∷ past

-- Thread 0's frame stands at a place with a descriptor armed.
abbrev pub Stands : ℕ → ℕ → Core → Type 0
Stands place armed core = ((top_frame (thread_at core 0)).place ≡ place) × ((top_frame (thread_at core 0)).armed ≡ armed)

abbrev pub Anyhow : Core → Type 0
Anyhow core = Unit {0}

pub record WorkedExamples : Type 0 where
  pub numbers : Numbers
  pub verdicts : Verdicts
  pub add_settles_on_its_fifth_run : Abort (settled (Add 0 5) Done (runs 4 add_switched_in)) Anyhow
  pub a_switch_after_three_runs_sends_to_the_abort : Abort (switched_away (runs 3 add_switched_in)) (Stands 4120 0)
  pub then_six_runs_remain : Abort (settled (Add 0 5) Done (runs 5 (switched_back (switched_away (runs 3 add_switched_in))))) Anyhow
  pub by_rollback_it_sends_to_the_start : Rollback (switched_away (runs 3 add_switched_in)) (Stands 4100 1)
  pub by_rollback_four_runs_remain : Rollback (settled (Add 0 5) Done (runs 3 (switched_back (switched_away (runs 3 add_switched_in))))) Anyhow
  pub by_masking_it_is_held_and_two_runs_later_it_passes : Masking (switched_away (settled (Add 0 5) Done (runs 1 (switch_held (runs 3 add_switched_in))))) Anyhow
  pub by_grace_one_it_is_held_after_two_runs : GraceOne (switch_held (runs 2 add_switched_in)) Anyhow
  pub by_grace_one_it_passes_after_three : GraceOne (switched_away (runs 3 add_switched_in)) (Stands 4120 0)
  pub two_puts_and_two_takes :
      Abort
      (settled Take Empty (runs 4 (event (call.Enlist 0 take_one) accepted ∷ settled Take (Got 9) (runs 6 (event (call.Enlist 0 take_one) accepted
      ∷ settled (Put 8) Full (runs 4 (event (call.Enlist 0 (put 8)) accepted ∷ settled (Put 9) Done (runs 6 (event (call.Switch 0 0) accepted ∷ event (call.Enlist 0 (put 9)) accepted ∷ []))))))))) Anyhow

-- Thread 0 has two frames: the lower one stands at a place with nothing armed, the top one at another with nothing armed.
abbrev pub Interrupted : ℕ → ℕ → Core → Type 0
Interrupted lower upper core =
    let frames = (thread_at core 0).frames in
    ((thread_at core 0).depth ≡ 2) × ((slice_index_or frames 0 no_frame).place ≡ lower) × ((slice_index_or frames 0 no_frame).armed ≡ 0) × ((slice_index_or frames 1 no_frame).place ≡ upper) × ((slice_index_or frames 1 no_frame).armed ≡ 0)

-- A signal disturbs the thread before its own frame goes on top.
abbrev pub SignalSendsToTheAbortFirst : Type 0
SignalSendsToTheAbortFirst = Abort (event (call.Signal 0 take_one) accepted ∷ runs 3 add_switched_in) (Interrupted 4120 4228)
