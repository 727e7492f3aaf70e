-- What our exclusions choose and answer.
use Rattle.std.specs.Prelude.{ℕ, ◌-◌, ◌/◌, min, cond, List, Some, None, Option}
use Rattle.image.specs.declared.layout.Section.{Section}
use Rattle.image.specs.Layout.{inside}
use Rattle.exclusion.specs.declared.meaning.Verdict.{Verdict}
use Rattle.exclusion.specs.declared.meaning.Verdict.TheVariants.{Outside, Back}
use Rattle.exclusion.specs.Meaning.{Meaning}
use Rattle.exclusion.specs.Parts.{section_at, holding}

-- Sections with no patience on any CPU.
abbrev pub impatient : List Section → Meaning
impatient sections = record { section = section_at sections; patience = λ cpu. 0 }

-- Abort restart looks only at the armed section and goes back to its abort.
abbrev pub abort_restarts : List Section → ℕ → ℕ → Verdict
abort_restarts sections armed place = cond (inside (section_at sections armed) place) (Back (section_at sections armed).abort) Outside

-- Address rollback looks at all sections and goes back to the start of the one that the place is inside, the first
-- if it is inside several.
abbrev pub back_to_start : Option Section → Verdict
back_to_start None = Outside
back_to_start (Some section) = Back section.start

abbrev pub rolls_back : List Section → ℕ → Verdict
rolls_back sections place = back_to_start (holding sections place)

-- Masking chooses what is left of the section: its length in instructions, less the one that was run, held to 0 to 255.
abbrev pub masking_choice : List Section → ℕ → ℕ
masking_choice sections d = min ((section_at sections d).length / 4 - 1) 255

-- Grace chooses its number, held to 0 to 255.
abbrev pub grace_choice : ℕ → ℕ → ℕ
grace_choice grace d = min grace 255
