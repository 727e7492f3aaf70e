-- What a reader answers at an offset of any bytes, and what a writer leaves in any buffer.
use Rattle.std.specs.Prelude.{◌≡◌, ℕ, zero, suc, ◌+◌, ◌-◌, ◌*◌, ◌<◌, ◌≤◌, cond, ◌⊎◌, List, [], ◌∷◌, ◌++◌, length, drop, Ok, Err, Result, IfOk, IfErr, nat_lt}
use Rattle.faults.specs.declared.Fault.{Fault}
use Rattle.faults.specs.declared.Refusal.TheVariants.{NoRoom, EndsInside, WrongSpelling}
use Rattle.faults.specs.Numbering.{fault_at}
use Rattle.numbers.specs.declared.reader.Reader.{Reader}
use Rattle.numbers.specs.Spelling.{Spells, spelling}

-- Bytes that begin with the spelling of a number.
abbrev pub BeginWithNumber : List ℕ → Type 0
BeginWithNumber bytes = (n : ℕ) × (s : List ℕ) × (rest : List ℕ) × Spells s n × (bytes ≡ s ++ rest)

-- Bytes that break off inside a number: more bytes would make them a spelling.
abbrev pub BreakOff : List ℕ → Type 0
BreakOff bytes = (n : ℕ) × (rest : List ℕ) × (0 < length rest) × Spells (bytes ++ rest) n

-- What is read at an offset: a number that is spelled there, with the offset behind its spelling; where the bytes break off
-- inside a number, that they end; and else that the spelling is wrong. Both faults stand at the number's first byte.
abbrev pub Reads : List ℕ → ℕ → Result (ℕ × ℕ) Fault → Type 0
Reads bytes first (Ok p) = (s : List ℕ) × (rest : List ℕ) × Spells s p.0 × (drop first bytes ≡ s ++ rest) × (p.1 ≡ first + length s)
Reads bytes first (Err f) =
    ((f ≡ fault_at EndsInside first) × BreakOff (drop first bytes))
    ⊎ ((f ≡ fault_at WrongSpelling first) × (BreakOff (drop first bytes) → ⊥) × (BeginWithNumber (drop first bytes) → ⊥))

-- The same by computing. What bytes say: a number and in how many bytes, that they break off, or that no number is spelled so.
pub data Heard : Type 0 where
  number : ℕ → ℕ → Heard
  breaks : Heard
  wrong : Heard

-- A group before others: the last of several groups is not 0.
abbrev pub more : ℕ → Heard → Heard
more b breaks = breaks
more b wrong = wrong
more b (number n k) = cond (nat_lt 0 n) (number (b - 128 + 128 * n) (suc k)) wrong

-- `k` groups may follow the first one; where none may, one bit is left for it.
unfoldable pub hear : ℕ → List ℕ → Heard
hear k [] = breaks
hear zero (b ∷ bs) = cond (nat_lt b 2) (number b 1) wrong
hear (suc k) (b ∷ bs) = cond (nat_lt b 128) (number b 1) (more b (hear k bs))

abbrev pub told : ℕ → Heard → Result (ℕ × ℕ) Fault
told first (number n k) = Ok (n, first + k)
told first breaks = Err (fault_at EndsInside first)
told first wrong = Err (fault_at WrongSpelling first)

unfoldable pub number_at : List ℕ → ℕ → Result (ℕ × ℕ) Fault
number_at bytes first = told first (hear 9 (drop first bytes))

-- What was read, with the offset at which the reader then stands; a fault stays alone.
abbrev pub with_end : {X : Type 0} → Result X Fault → ℕ → Result (X × ℕ) Fault
with_end (Ok x) at = Ok (x, at)
with_end (Err fault) at = Err fault

-- A part of the bytes that begins where a reader stood was read: the answer is the part's, its bytes are the same, and where
-- the part was read the reader stands behind it. Where it stands after a fault is left open here.
abbrev pub ReadsAs : {X : Type 0} → (List ℕ → ℕ → Result (X × ℕ) Fault) → Reader → Result X Fault → Reader → Type 0
ReadsAs part reader result reader' = (with_end result reader'.at ≡ part reader.bytes.now reader.at) × (reader'.bytes.now ≡ reader.bytes.now)

-- What a number written alone leaves: its spelling at the front of the buffer and the rest as it was, or, where the spelling
-- does not fit, the whole buffer as it was.
abbrev pub Written : List ℕ → ℕ → List ℕ → Result ℕ Fault → Type 0
Written out n out' (Ok k) = (k ≡ length (spelling n)) × (k ≤ length out) × (out' ≡ spelling n ++ drop k out)
Written out n out' (Err f) = (length out < length (spelling n)) × (out' ≡ out) × (f ≡ fault_at NoRoom 0)

-- Where a part was read the reader has gone on, and stands within its bytes or at their end.
abbrev pub GoesOn : {X : Type 0} → Reader → Result X Fault → Reader → Type 0
GoesOn reader result reader' = IfOk result (λ _. (reader.at < reader'.at) × (reader'.at ≤ length reader.bytes.now))

-- Where it was refused the reader stays.
abbrev pub StaysOnAFault : {X : Type 0} → Reader → Result X Fault → Reader → Type 0
StaysOnAFault reader result reader' = IfErr result (λ _. reader'.at ≡ reader.at)
