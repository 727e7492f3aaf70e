-- Laws of our exclusions.
use Rattle.std.specs.Prelude.{ℕ, List, [], ◌∷◌, replicate}
use Rattle.image.specs.declared.layout.Section.{Section}
use Rattle.exclusion.specs.declared.meaning.Notice.{Notice}
use Rattle.exclusion.specs.declared.meaning.Verdict.{Verdict}
use Rattle.exclusion.specs.Meaning.{Asked, SameKind}
use Rattle.exclusion.specs.Parts.{patience_at, counted, held_while}
use Rattle.exclusion.specs.Ours.{impatient, masking_choice, rolls_back}

-- Two answers over the same sections agree on when a thread is sent back: at every question that is not free both are
-- Outside or both Back.
abbrev pub AgreeOnWhen : List Section → ℕ → ℕ → Verdict → Verdict → Type 0
AgreeOnWhen sections armed place v w = Asked (impatient sections) armed place → SameKind v w

-- The counts after being told one thing after another.
abbrev pub counted_all : (ℕ → ℕ) → List ℕ → List Notice → List ℕ
counted_all choice own [] = own
counted_all choice own (n ∷ ns) = counted_all choice (counted choice own n) ns

-- What masking answers after that, from no patience on.
abbrev pub masking_after : List Section → List Notice → ℕ → ℕ → Verdict
masking_after sections notices cpu place = held_while (patience_at (counted_all (masking_choice sections) (replicate 8 0) notices) cpu) (rolls_back sections place)
