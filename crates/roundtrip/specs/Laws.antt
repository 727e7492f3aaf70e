-- The laws of schedules: what is written reads back, and what is read was so written.
use Rattle.std.specs.Prelude.{◌≡◌, ℕ, ◌+◌, ◌≤◌, List, [], ◌∷◌, ◌++◌, length, drop, None, Ok}
use Rattle.std.specs.List.{AllByRecursion}
use Rattle.numbers.specs.Spelling.{Bytes}
use Rattle.calls.specs.declared.Call.{Call}
use Rattle.schedule.specs.declared.body.CallAt.{CallAt}
use Rattle.schedule.specs.declared.job.Job.{Job}
use Rattle.schedule.specs.Format.{written_job, written_call, written_schedule, TellableJob, Tellable}
use Rattle.schedule.specs.Reading.{header_at, call_at, calls_from}

-- Calls with their offsets, the first at an offset.
abbrev pub placed : ℕ → List Call → List CallAt
placed at [] = []
placed at (call ∷ calls) = record { at = at; call = call } ∷ placed (at + length (written_call call)) calls

-- A schedule that is written from a job and calls, and is not too long, reads back as them, to its end.
abbrev pub ScheduleReadsBack : Type 0
ScheduleReadsBack =
    (job : Job) (calls : List Call) → TellableJob job → AllByRecursion Tellable calls → length (written_schedule job calls) ≤ 32768
    → (header_at (written_schedule job calls) ≡ Ok (job, length (written_job job)))
    × (calls_from (length (written_schedule job calls)) (written_schedule job calls) (length (written_job job)) ≡ record { calls = placed (length (written_job job)) calls; fault = None })

-- A header that is accepted is the one that is written of its job.
abbrev pub HeaderWasWritten : Type 0
HeaderWasWritten =
    (bytes : List ℕ) (job : Job) (next : ℕ) → Bytes bytes → header_at bytes ≡ Ok (job, next)
    → TellableJob job × (length bytes ≤ 32768) × (bytes ≡ written_job job ++ drop next bytes) × (next ≡ length (written_job job))

-- A call that is accepted is the one that is written of it.
abbrev pub CallWasWritten : Type 0
CallWasWritten =
    (bytes : List ℕ) (first : ℕ) (call : Call) (next : ℕ) → Bytes bytes → call_at bytes first ≡ Ok (call, next)
    → Tellable call × (drop first bytes ≡ written_call call ++ drop next bytes) × (next ≡ first + length (written_call call))
