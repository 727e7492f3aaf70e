-- The laws of seven-bit numbers.
use Rattle.std.specs.Prelude.{◌≡◌, ℕ, ◌+◌, ◌^◌, ◌<◌, List, ◌++◌, length, Ok}
use Rattle.numbers.specs.Spelling.{Bytes, Spells, spelling}
use Rattle.numbers.specs.Reading.{Reads, number_at}

-- For any bytes and any offset, what the reader answers is what is spelled there: a number, the front of one, or neither.
abbrev pub ReaderAnswersWhatIsSpelled : Type 0
ReaderAnswersWhatIsSpelled = (bytes : List ℕ) (first : ℕ) → Bytes bytes → Reads bytes first (number_at bytes first)

-- What is written of a number below 2^64 spells it.
abbrev pub WrittenSpells : Type 0
WrittenSpells = (n : ℕ) → n < 2 ^ 64 → Spells (spelling n) n

-- Wherever a number was written, it is read back, and the reader stops right behind it, whatever stands before and follows.
abbrev pub ReadsBack : Type 0
ReadsBack =
    (before : List ℕ) (n : ℕ) (rest : List ℕ) → n < 2 ^ 64
    → number_at (before ++ (spelling n ++ rest)) (length before) ≡ Ok (n, length before + length (spelling n))

-- Every accepted spelling is the written one.
abbrev pub WrittenAlone : Type 0
WrittenAlone = (bytes : List ℕ) (n : ℕ) → Spells bytes n → bytes ≡ spelling n

-- Two spellings of one number are the same bytes.
abbrev pub OneSpelling : Type 0
OneSpelling = (these those : List ℕ) (n : ℕ) → Spells these n → Spells those n → these ≡ those

-- One spelling stands for one number.
abbrev pub OneNumber : Type 0
OneNumber = (bytes : List ℕ) (m n : ℕ) → Spells bytes m → Spells bytes n → m ≡ n
