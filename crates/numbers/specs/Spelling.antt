-- Seven-bit numbers: what bytes spell a number.
use Rattle.std.specs.Prelude.{◌≡◌, ℕ, zero, suc, ◌+◌, ◌*◌, ◌/◌, ◌%◌, ◌^◌, ◌<◌, ◌≤◌, cond, List, [], ◌∷◌, length, nat_lt}

-- Bytes are numbers below 256.
abbrev pub Bytes : List ℕ → Type 0
Bytes [] = Unit {0}
Bytes (b ∷ bs) = (b < 256) × Bytes bs

-- Groups: the top bit is set on all bytes but the last.
abbrev pub Grouped : List ℕ → Type 0
Grouped [] = ⊥
Grouped (b ∷ []) = b < 128
Grouped (b ∷ c ∷ bs) = (128 ≤ b) × (b < 256) × Grouped (c ∷ bs)

-- The number that groups of seven bits stand for, the lowest group first.
abbrev pub value_of : List ℕ → ℕ
value_of [] = 0
value_of (b ∷ bs) = b % 128 + 128 * value_of bs

-- The bytes spell the number: it is what their groups stand for, it is below 2^64, and no groups that are fewer stand for it.
pub record Spells (bytes : List ℕ) (n : ℕ) : Type 0 where
  pub grouped : Grouped bytes
  pub stands : value_of bytes ≡ n
  pub bounded : n < 2 ^ 64
  pub shortest : (others : List ℕ) → Grouped others → value_of others ≡ n → length bytes ≤ length others

-- The spelling as it is written, in at most `k` bytes.
unfoldable pub spell : ℕ → ℕ → List ℕ
spell zero n = []
spell (suc k) n = cond (nat_lt n 128) (n ∷ []) ((128 + n % 128) ∷ spell k (n / 128))

-- The spelling of a number below 2^64, which has at most ten bytes.
abbrev pub spelling : ℕ → List ℕ
spelling n = spell 10 n
