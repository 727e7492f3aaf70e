-- What an exclusion means: it decides what becomes of a thread that is disturbed inside a restartable section. The thread is
-- sent back, or the disturber has to wait.
use Rattle.std.specs.Prelude.{◌≡◌, ℕ, ◌-◌, ◌<◌, ◌≤◌, ◌⊎◌, List, [], ◌∷◌, ◌≢◌}
use Rattle.image.specs.declared.layout.Section.{Section}
use Rattle.image.specs.Layout.{Inside, address_of}
use Rattle.exclusion.specs.declared.meaning.Notice.{Notice}
use Rattle.exclusion.specs.declared.meaning.Notice.TheVariants.{Entered, Stepped, Left}
use Rattle.exclusion.specs.declared.meaning.Verdict.{Verdict}
use Rattle.exclusion.specs.declared.meaning.Verdict.TheVariants.{Outside, Held, Back}

-- The meaning: the sections by their numbers, and each CPU's patience, which is how many more instructions of the section
-- that was entered there a disturber has to wait for.
pub record Meaning : Type 0 where
  pub section : ℕ → Section
  pub patience : ℕ → ℕ

-- No section at all.
abbrev pub no_section : Section
no_section = record { start = 0; length = 0; abort = 0 }

-- There are sections 1 to 5 and CPUs 0 to 7: other sections are zeros, and other CPUs have no patience. A patience is at
-- most 255.
pub record Shaped (m : Meaning) : Type 0 where
  pub five_sections : (d : ℕ) → (d ≡ 0) ⊎ (5 < d) → m.section d ≡ no_section
  pub eight_cpus : (cpu : ℕ) → 7 < cpu → m.patience cpu ≡ 0
  pub at_most_255 : (cpu : ℕ) → m.patience cpu ≤ 255

-- One CPU's patience becomes a number, and nothing else of the meaning changes.
pub record PatienceBecomes (m : Meaning) (cpu x : ℕ) (n : Meaning) : Type 0 where
  pub sections_stay : (d : ℕ) → n.section d ≡ m.section d
  pub there : cpu < 8 → n.patience cpu ≡ x
  pub elsewhere : (other : ℕ) → (other ≢ cpu) → n.patience other ≡ m.patience other

-- Entered sets the patience to a number of the exclusion's own choice, 0 to 255; stepped lowers it by one, not below 0; left
-- sets it to 0.
abbrev pub Obeys : Meaning → Notice → Meaning → Type 0
Obeys m (Entered cpu d) n = (x : ℕ) × (x ≤ 255) × PatienceBecomes m cpu x n
Obeys m (Stepped cpu) n = PatienceBecomes m cpu (m.patience cpu - 1) n
Obeys m (Left cpu) n = PatienceBecomes m cpu 0 n

-- A possible address of a text, whatever its length.
abbrev pub Possible : ℕ → Type 0
Possible place = (i : ℕ) × (i < 256) × (place ≡ address_of i)

-- A place in no section, and one in the armed section alone.
abbrev pub InNoSection : Meaning → ℕ → Type 0
InNoSection m place = (d : ℕ) → Inside (m.section d) place → ⊥

pub record InArmedAlone (m : Meaning) (armed place : ℕ) : Type 0 where
  pub inside : Inside (m.section armed) place
  pub alone : (d : ℕ) → Inside (m.section d) place → d ≡ armed

-- What the answer to "this thread is disturbed" says: Outside in no section; in the armed section alone Held while there is
-- patience, and else Back to the section's abort or to its start. Other questions are free.
pub record Says (m : Meaning) (cpu armed place : ℕ) (v : Verdict) : Type 0 where
  pub outside : Possible place → InNoSection m place → v ≡ Outside
  pub held : Possible place → InArmedAlone m armed place → 0 < m.patience cpu → v ≡ Held
  pub back : Possible place → InArmedAlone m armed place → m.patience cpu ≡ 0 → (v ≡ Back (m.section armed).abort) ⊎ (v ≡ Back (m.section armed).start)

-- A question that is not free.
abbrev pub Asked : Meaning → ℕ → ℕ → Type 0
Asked m armed place = Possible place × (InNoSection m place ⊎ InArmedAlone m armed place)

-- What is shut out: Outside in the armed section, and Held without patience.
abbrev pub NotOutsideWhenArmed : Meaning → ℕ → ℕ → Verdict → Type 0
NotOutsideWhenArmed m armed place v = Possible place → InArmedAlone m armed place → v ≢ Outside

abbrev pub NotHeldWithoutPatience : Meaning → ℕ → ℕ → ℕ → Verdict → Type 0
NotHeldWithoutPatience m cpu armed place v = Asked m armed place → m.patience cpu ≡ 0 → v ≢ Held

-- Told one thing after another.
abbrev pub ToldAll : {S : Type 0} → (S → Notice → S → Type 0) → S → List Notice → S → Type 0
ToldAll told e [] f = f ≡ e
ToldAll {S} told e (n ∷ ns) f = (m : S) × told e n m × ToldAll told m ns f

-- Two answers of one kind: both Outside, both Held, or both Back, wherever to.
abbrev pub SameKind : Verdict → Verdict → Type 0
SameKind Outside Outside = Unit {0}
SameKind Outside Held = ⊥
SameKind Outside (Back q) = ⊥
SameKind Held Outside = ⊥
SameKind Held Held = Unit {0}
SameKind Held (Back q) = ⊥
SameKind (Back p) Outside = ⊥
SameKind (Back p) Held = ⊥
SameKind (Back p) (Back q) = Unit {0}
