-- What a reader answers of any bytes, part by part.
use Rattle.std.specs.Prelude.{ℕ, zero, suc, ◌+◌, cond, List, [], ◌∷◌, length, take, drop, Some, None, Ok, Err, Option, Result, ◌==◌, nat_lt, slice_index}
use Rattle.faults.specs.declared.Fault.{Fault}
use Rattle.faults.specs.declared.Refusal.TheVariants.{EndsInside, UnknownLetter}
use Rattle.faults.specs.Numbering.{fault_at, boot_fault}
use Rattle.numbers.specs.Reading.{number_at}
use Rattle.image.specs.declared.fields.Field.{Field}
use Rattle.image.specs.declared.fields.Field.TheVariants.{Exclusion, Grace, Cpus, Threads, Nodes, Packets, Counters, Signature, TextWord}
use Rattle.image.specs.declared.fields.Sizes.{Sizes}
use Rattle.image.specs.Checks.{first_failing, field_check, text_check, checked_image}
use Rattle.calls.specs.declared.RawOperation.{RawOperation}
use Rattle.calls.specs.declared.Call.{Call}
use Rattle.calls.specs.declared.Call.TheVariants.{Enlist, Run, Advance, Switch, Idle, Signal}
use Rattle.schedule.specs.declared.body.CallAt.{CallAt}
use Rattle.schedule.specs.declared.job.ExclusionName.{ExclusionName}
use Rattle.schedule.specs.declared.job.ExclusionName.TheVariants.{Abort, Rollback, Masking}
use Rattle.schedule.specs.declared.job.Job.{Job}
use Rattle.image.specs.declared.text.Text.{Text}
use Rattle.schedule.specs.Format.{padded, words_of}

-- What was read, with the offset behind it, or the fault that ends the reading.
abbrev pub Read : Type 0 → Type 0
Read X = Result (X × ℕ) Fault

-- One part after another: the first fault ends it.
abbrev pub and_then : {X Y : Type 0} → Read X → (X → ℕ → Read Y) → Read Y
and_then (Ok p) next = next p.0 p.1
and_then (Err fault) next = Err fault

-- A refusal of boot that a schedule's part at an offset brings.
abbrev pub refused_by_boot : {X : Type 0} → ℕ → Result X Fault → Result X Fault
refused_by_boot at (Ok x) = Ok x
refused_by_boot at (Err fault) = Err (boot_fault at fault)

-- A number of the job: read whole, then held against its limits.
abbrev pub field_at : List ℕ → ℕ → Field → Read ℕ
field_at bytes at field = and_then (number_at bytes at) (λ n next. refused_by_boot at (first_failing (n, next) (field_check field n ∷ [])))

abbrev pub sizes_at : List ℕ → ℕ → Read Sizes
sizes_at bytes first =
    and_then (field_at bytes first Cpus) (λ cpus at. and_then (field_at bytes at Threads) (λ threads at. and_then (field_at bytes at Nodes) (λ nodes at.
    and_then (field_at bytes at Packets) (λ packets at. and_then (field_at bytes at Counters) (λ counters at.
    Ok (record { cpus = cpus; threads = threads; nodes = nodes; packets = packets; counters = counters }, at))))))

-- The 160 bytes of the table.
abbrev pub table_at : List ℕ → ℕ → Read (List ℕ)
table_at bytes at = cond (nat_lt (length bytes) (at + 160)) (Err (fault_at EndsInside (length bytes))) (Ok (take 160 (drop at bytes), at + 160))

-- The number of words, and so many words.
abbrev pub word_count_at : List ℕ → ℕ → Read ℕ
word_count_at bytes at = and_then (number_at bytes at) (λ n next. refused_by_boot at (first_failing (n, next) (text_check n ∷ [])))

unfoldable pub words_at : ℕ → List ℕ → ℕ → Read (List ℕ)
words_at zero bytes at = Ok ([], at)
words_at (suc k) bytes first = and_then (field_at bytes first TextWord) (λ word at. and_then (words_at k bytes at) (λ words at. Ok (word ∷ words, at)))

-- The words in 256 places, those behind them 0.
unfoldable pub padded_words_at : ℕ → List ℕ → ℕ → Read (List ℕ)
padded_words_at count bytes first = and_then (words_at count bytes first) (λ words at. Ok (padded words, at))

abbrev pub text_at : List ℕ → ℕ → Read Text
text_at bytes first = and_then (word_count_at bytes first) (λ count at. and_then (padded_words_at count bytes at) (λ words at. Ok (record { words = words; count = count }, at)))

abbrev pub exclusion_of : ℕ → ExclusionName
exclusion_of n = cond (n == 0) Abort (cond (n == 1) Rollback Masking)

-- The parts of a job behind its letter.
abbrev pub parts_at : List ℕ → ℕ → Read Job
parts_at bytes first =
    and_then (field_at bytes first Exclusion) (λ exclusion at. and_then (field_at bytes at Grace) (λ grace at. and_then (sizes_at bytes at) (λ sizes at.
    and_then (field_at bytes at Signature) (λ signature at. and_then (table_at bytes at) (λ table at. and_then (text_at bytes at) (λ text at.
    Ok (record { exclusion = exclusion_of exclusion; grace = grace; sizes = sizes; signature = signature; table = table; text = text }, at)))))))

-- A header: a schedule is not too long, begins with the letter J, and has a job's parts.
abbrev pub header_at : List ℕ → Read Job
header_at bytes =
    cond (nat_lt 32768 (length bytes)) (Err (fault_at EndsInside 32768))
    (cond (nat_lt 0 (length bytes)) (cond (slice_index bytes 0 == 74) (parts_at bytes 1) (Err (fault_at UnknownLetter 0))) (Err (fault_at EndsInside 0)))

-- A job whose image is accepted; else boot's refusal, right behind the words.
abbrev pub accepted_job : Job → ℕ → Read Job
accepted_job job at = elim (checked_image job.sizes job.table (words_of job.text) job.signature) [ Ok sections ↦ Ok (job, at) | Err fault ↦ Err (boot_fault at fault) ]

abbrev pub job_at : List ℕ → Read Job
job_at bytes = and_then (header_at bytes) accepted_job

-- A call by its letter, with its operands.
abbrev pub operation_at : List ℕ → ℕ → Read RawOperation
operation_at bytes first =
    and_then (number_at bytes first) (λ kind at. and_then (number_at bytes at) (λ counter at. and_then (number_at bytes at) (λ amount at.
    Ok (record { kind = kind; counter = counter; amount = amount }, at))))

abbrev pub call_by : ℕ → List ℕ → ℕ → ℕ → Read Call
call_by letter bytes first at =
    cond (letter == 101) (and_then (number_at bytes at) (λ thread at. and_then (operation_at bytes at) (λ operation at. Ok (Enlist thread operation, at))))
    (cond (letter == 114) (and_then (number_at bytes at) (λ cpu at. Ok (Run cpu, at)))
    (cond (letter == 97) (and_then (number_at bytes at) (λ cpu at. and_then (number_at bytes at) (λ instructions at. Ok (Advance cpu instructions, at))))
    (cond (letter == 115) (and_then (number_at bytes at) (λ cpu at. and_then (number_at bytes at) (λ thread at. Ok (Switch cpu thread, at))))
    (cond (letter == 105) (and_then (number_at bytes at) (λ cpu at. Ok (Idle cpu, at)))
    (cond (letter == 103) (and_then (number_at bytes at) (λ thread at. and_then (operation_at bytes at) (λ operation at. Ok (Signal thread operation, at))))
    (Err (fault_at UnknownLetter first)))))))

abbrev pub call_at : List ℕ → ℕ → Read Call
call_at bytes first = cond (nat_lt first (length bytes)) (call_by (slice_index bytes first) bytes first (first + 1)) (Err (fault_at EndsInside first))

-- All calls from an offset to the end: those that are read, each with its offset, and the fault that ended the reading, if
-- one did. `k` is the most calls that there may be.
pub record CallsAsRead : Type 0 where
  pub calls : List CallAt
  pub fault : Option Fault

abbrev pub with_call : ℕ → Call → CallsAsRead → CallsAsRead
with_call at call rest = record { calls = record { at = at; call = call } ∷ rest.calls; fault = rest.fault }

abbrev pub calls_after : ℕ → (ℕ → CallsAsRead) → Read Call → CallsAsRead
calls_after at rest (Ok p) = with_call at p.0 (rest p.1)
calls_after at rest (Err fault) = record { calls = []; fault = Some fault }

unfoldable pub calls_from : ℕ → List ℕ → ℕ → CallsAsRead
calls_from zero bytes at = record { calls = []; fault = None }
calls_from (suc k) bytes at = cond (nat_lt at (length bytes)) (calls_after at (λ next. calls_from k bytes next) (call_at bytes at)) (record { calls = []; fault = None })

-- A whole schedule: its job, its calls as far as they can be read, and the fault that ended the reading, if one did.
pub record ScheduleAsRead : Type 0 where
  pub job : Option Job
  pub calls : List CallAt
  pub fault : Option Fault

abbrev pub with_job : Job → CallsAsRead → ScheduleAsRead
with_job job read = record { job = Some job; calls = read.calls; fault = read.fault }

abbrev pub behind_job : List ℕ → Read Job → ScheduleAsRead
behind_job bytes (Ok p) = with_job p.0 (calls_from (length bytes) bytes p.1)
behind_job bytes (Err fault) = record { job = None; calls = []; fault = Some fault }

abbrev pub schedule_read : List ℕ → ScheduleAsRead
schedule_read bytes = behind_job bytes (job_at bytes)
