-- What the exclusions share: sections by number, the walk over them, and eight patiences.
use Rattle.std.specs.Prelude.{ℕ, zero, suc, ◌+◌, ◌-◌, min, max, cond, ◌&&◌, List, Some, None, Option, nat_le, nat_lt, slice_index, slice_index_or, slice_set}
use Rattle.image.specs.declared.layout.Section.{Section}
use Rattle.image.specs.Layout.{inside}
use Rattle.exclusion.specs.declared.meaning.Notice.{Notice}
use Rattle.exclusion.specs.declared.meaning.Notice.TheVariants.{Entered, Stepped, Left}
use Rattle.exclusion.specs.declared.meaning.Verdict.{Verdict}
use Rattle.exclusion.specs.declared.meaning.Verdict.TheVariants.{Outside, Held, Back}
use Rattle.exclusion.specs.Meaning.{Meaning, no_section}

-- Section d of five, numbered from 1.
abbrev pub section_at : List Section → ℕ → Section
section_at sections d = cond (nat_le 1 d && nat_le d 5) (slice_index_or sections (d - 1) no_section) no_section

-- The first of `k` sections from number d on that a place is inside.
unfoldable pub first_inside : (ℕ → Section) → ℕ → ℕ → ℕ → Option Section
first_inside section place zero d = None
first_inside section place (suc k) d = cond (inside (section d) place) (Some (section d)) (first_inside section place k (d + 1))

-- The first of the five.
abbrev pub holding : List Section → ℕ → Option Section
holding sections place = first_inside (section_at sections) place 5 1

-- The patience of one of eight CPUs, a number of eight bits.
abbrev pub patience_at : List ℕ → ℕ → ℕ
patience_at patiences cpu = cond (nat_lt cpu 8) (min (slice_index patiences cpu) 255) 0

-- One instruction less.
abbrev pub stepped_down : List ℕ → ℕ → List ℕ
stepped_down patiences cpu = slice_set patiences cpu (patience_at patiences cpu - 1)

-- A count of one's own beside another meaning: each CPU's patience is the larger of the two.
abbrev pub layered : Meaning → List ℕ → Meaning
layered m own = record { section = m.section; patience = λ cpu. max (patience_at own cpu) (m.patience cpu) }

-- What becomes of that count: entered sets it to a choice, which may go by the section, stepped lowers it, left sets it to 0.
abbrev pub counted : (ℕ → ℕ) → List ℕ → Notice → List ℕ
counted choice own (Entered cpu d) = slice_set own cpu (choice d)
counted choice own (Stepped cpu) = stepped_down own cpu
counted choice own (Left cpu) = slice_set own cpu 0

-- While there is patience, the disturber waits in place of sending the thread back.
abbrev pub held_while : ℕ → Verdict → Verdict
held_while n Outside = Outside
held_while n Held = Held
held_while n (Back place) = cond (nat_lt 0 n) Held (Back place)
