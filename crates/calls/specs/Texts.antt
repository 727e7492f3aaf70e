-- What is written of an operation as it is asked for, and of a call.
use Rattle.std.specs.Prelude.{ℕ, List, Option, Some, None, codes, decimal, ◌++◌}
use Rattle.calls.specs.declared.Call.{Call}
use Rattle.calls.specs.declared.Call.TheVariants.{Enlist, Run, Advance, Switch, Idle, Signal}
use Rattle.calls.specs.declared.RawOperation.{RawOperation}
use Rattle.words.specs.Words.{kind_of, kind_name}
use Rattle.words.specs.declared.Kind.{Kind}

-- A kind by its name, and by its number where no operation has that.
abbrev pub kind_text : ℕ → Option Kind → List ℕ
kind_text number None = codes "kind " ++ decimal number
kind_text number (Some kind) = kind_name kind

-- The operation: its kind, its counter and its amount.
abbrev pub operation_text : RawOperation → List ℕ
operation_text raw = kind_text raw.kind (kind_of raw.kind) ++ (codes " counter " ++ (decimal raw.counter ++ (codes " amount " ++ decimal raw.amount)))

-- The call, its operands in words.
abbrev pub call_text : Call → List ℕ
call_text (Enlist thread operation) = codes "enlist thread " ++ (decimal thread ++ (codes " operation " ++ operation_text operation))
call_text (Run cpu) = codes "run cpu " ++ decimal cpu
call_text (Advance cpu instructions) = codes "advance cpu " ++ (decimal cpu ++ (codes " instructions " ++ decimal instructions))
call_text (Switch cpu thread) = codes "switch cpu " ++ (decimal cpu ++ (codes " thread " ++ decimal thread))
call_text (Idle cpu) = codes "idle cpu " ++ decimal cpu
call_text (Signal thread operation) = codes "signal thread " ++ (decimal thread ++ (codes " operation " ++ operation_text operation))
