-- What bytes a job and its calls are written as.
use Rattle.std.specs.Prelude.{◌≡◌, ℕ, ◌-◌, ◌^◌, ◌<◌, ◌≤◌, List, [], ◌∷◌, ◌++◌, length, take, replicate}
use Rattle.std.specs.List.{AllByRecursion}
use Rattle.numbers.specs.Spelling.{spelling}
use Rattle.image.specs.declared.fields.Field.{Field}
use Rattle.image.specs.declared.fields.Field.TheVariants.{Cpus, Threads, Nodes, Packets, Counters}
use Rattle.image.specs.Checks.{least, largest}
use Rattle.calls.specs.declared.RawOperation.{RawOperation}
use Rattle.calls.specs.declared.Call.{Call}
use Rattle.calls.specs.declared.Call.TheVariants.{Enlist, Run, Advance, Switch, Idle, Signal}
use Rattle.schedule.specs.declared.job.ExclusionName.{ExclusionName}
use Rattle.schedule.specs.declared.job.ExclusionName.TheVariants.{Abort, Rollback, Masking}
use Rattle.schedule.specs.declared.job.Job.{Job}
use Rattle.image.specs.declared.text.Text.{Text}

-- Numbers one after the other, each in its spelling.
abbrev pub written_numbers : List ℕ → List ℕ
written_numbers [] = []
written_numbers (n ∷ ns) = spelling n ++ written_numbers ns

abbrev pub exclusion_number : ExclusionName → ℕ
exclusion_number Abort = 0
exclusion_number Rollback = 1
exclusion_number Masking = 2

-- The words of a text, and words in 256 places, those behind them 0.
abbrev pub words_of : Text → List ℕ
words_of text = take text.count text.words

abbrev pub padded : List ℕ → List ℕ
padded words = words ++ replicate (256 - length words) 0

-- A job: the letter J, the exclusion, the grace, the five sizes, the signature, the 160 bytes of the table as they are, the
-- number of words, the words.
abbrev pub written_job : Job → List ℕ
written_job job =
    74 ∷ (spelling (exclusion_number job.exclusion) ++ (spelling job.grace ++ (spelling job.sizes.cpus ++ (spelling job.sizes.threads
    ++ (spelling job.sizes.nodes ++ (spelling job.sizes.packets ++ (spelling job.sizes.counters ++ (spelling job.signature
    ++ (job.table ++ (spelling job.text.count ++ written_numbers (words_of job.text)))))))))))

-- An operation: kind, counter, amount.
abbrev pub written_operation : RawOperation → List ℕ
written_operation operation = spelling operation.kind ++ (spelling operation.counter ++ spelling operation.amount)

-- A call: its letter (e enlist, r run, a advance, s switch, i idle, g signal), then its operands.
abbrev pub written_call : Call → List ℕ
written_call (Enlist thread operation) = 101 ∷ (spelling thread ++ written_operation operation)
written_call (Run cpu) = 114 ∷ spelling cpu
written_call (Advance cpu instructions) = 97 ∷ (spelling cpu ++ spelling instructions)
written_call (Switch cpu thread) = 115 ∷ (spelling cpu ++ spelling thread)
written_call (Idle cpu) = 105 ∷ spelling cpu
written_call (Signal thread operation) = 103 ∷ (spelling thread ++ written_operation operation)

abbrev pub written_calls : List Call → List ℕ
written_calls [] = []
written_calls (call ∷ calls) = written_call call ++ written_calls calls

-- A schedule: a job, then calls to the end.
abbrev pub written_schedule : Job → List Call → List ℕ
written_schedule job calls = written_job job ++ written_calls calls

-- What a schedule can tell: a job whose numbers are within their limits, and calls whose operands are below 2^64.
abbrev pub Within : Field → ℕ → Type 0
Within field n = (least field ≤ n) × (n ≤ largest field)

pub record TellableJob (job : Job) : Type 0 where
  pub grace_within : job.grace < 256
  pub cpus_within : Within Cpus job.sizes.cpus
  pub threads_within : Within Threads job.sizes.threads
  pub nodes_within : Within Nodes job.sizes.nodes
  pub packets_within : Within Packets job.sizes.packets
  pub counters_within : Within Counters job.sizes.counters
  pub signature_within : job.signature < 2 ^ 32
  pub table_long : length job.table ≡ 160
  pub places : length job.text.words ≡ 256
  pub some_words : 1 ≤ job.text.count
  pub words_fit : job.text.count ≤ 256
  pub text_padded : job.text.words ≡ padded (words_of job.text)
  pub words_within : AllByRecursion (λ word. word < 2 ^ 32) (words_of job.text)

abbrev pub TellableOperation : RawOperation → Type 0
TellableOperation operation = (operation.kind < 2 ^ 64) × (operation.counter < 2 ^ 64) × (operation.amount < 2 ^ 64)

abbrev pub Tellable : Call → Type 0
Tellable (Enlist thread operation) = (thread < 2 ^ 64) × TellableOperation operation
Tellable (Run cpu) = cpu < 2 ^ 64
Tellable (Advance cpu instructions) = (cpu < 2 ^ 64) × (instructions < 2 ^ 64)
Tellable (Switch cpu thread) = (cpu < 2 ^ 64) × (thread < 2 ^ 64)
Tellable (Idle cpu) = cpu < 2 ^ 64
Tellable (Signal thread operation) = (thread < 2 ^ 64) × TellableOperation operation
