-- The checks of a job's image, in the order in which they are tried, each with the fault that it gives.
use Rattle.std.specs.Prelude.{ℕ, ◌+◌, ◌-◌, ◌*◌, ◌^◌, Bool, true, false, cond, not, ◌&&◌, List, [], ◌∷◌, ◌++◌, length, Some, None, Ok, Err, Option, Result, ◌==◌, nat_le, nat_lt}
use Rattle.faults.specs.declared.Fault.{Fault}
use Rattle.faults.specs.declared.Refusal.TheVariants.{OutOfRange, ImageLength, Version, Flags, Unaddressable, AbortInside, Unsigned, WrongWords}
use Rattle.faults.specs.Numbering.{fault_at}
use Rattle.image.specs.declared.fields.Field.{Field}
use Rattle.image.specs.declared.fields.Field.TheVariants.{Exclusion, Grace, Cpus, Threads, Nodes, Packets, Counters, Signature, TextWord}
use Rattle.image.specs.declared.fields.Sizes.{Sizes}
use Rattle.image.specs.declared.layout.Descriptor.{Descriptor}
use Rattle.image.specs.declared.layout.Section.{Section}
use Rattle.words.specs.declared.Kind.{Kind}
use Rattle.words.specs.declared.Word.{Word}
use Rattle.words.specs.declared.Word.TheVariants.{Enter, Restart}
use Rattle.words.specs.Words.{code, kinds, section_words}
use Rattle.image.specs.Layout.{word_at, inside, record_offset, descriptor_of, sections_of}

-- One check: whether it passes, and the fault where it does not.
pub record Check : Type 0 where
  pub passes : Bool
  pub fault : Fault

-- The answer of checks that are tried in order: what was asked for, or the fault of the first that fails.
abbrev pub first_failing : {X : Type 0} → X → List Check → Result X Fault
first_failing x [] = Ok x
first_failing x (c ∷ cs) = cond c.passes (first_failing x cs) (Err c.fault)

-- The same where nothing but passing is asked for.
abbrev pub all_pass : List Check → Result (Unit {0}) Fault
all_pass checks = first_failing {X = Unit {0}} tt checks

-- The least and the largest that a number of the job may be, and the place by which a refusal names it.
abbrev pub least : Field → ℕ
least Exclusion = 0
least Grace = 0
least Cpus = 1
least Threads = 1
least Nodes = 0
least Packets = 1
least Counters = 1
least Signature = 0
least TextWord = 0

abbrev pub largest : Field → ℕ
largest Exclusion = 2
largest Grace = 255
largest Cpus = 8
largest Threads = 16
largest Nodes = 255
largest Packets = 15
largest Counters = 8
largest Signature = 4294967295
largest TextWord = 4294967295

abbrev pub field_place : Field → ℕ
field_place Exclusion = 1
field_place Grace = 2
field_place Cpus = 3
field_place Threads = 4
field_place Nodes = 5
field_place Packets = 6
field_place Counters = 7
field_place Signature = 8
field_place TextWord = 9

abbrev pub between : ℕ → ℕ → ℕ → Bool
between low high n = nat_le low n && nat_le n high

-- A number of the job is within its limits.
abbrev pub field_check : Field → ℕ → Check
field_check field n = record { passes = between (least field) (largest field) n; fault = fault_at OutOfRange (field_place field) }

abbrev pub size_checks : Sizes → List Check
size_checks sizes =
    field_check Cpus sizes.cpus ∷ field_check Threads sizes.threads ∷ field_check Nodes sizes.nodes
    ∷ field_check Packets sizes.packets ∷ field_check Counters sizes.counters ∷ []

-- The table has 160 bytes, and the text 1 to 256 words.
abbrev pub table_check : ℕ → Check
table_check bytes = record { passes = (bytes == 160); fault = fault_at ImageLength 0 }

abbrev pub text_check : ℕ → Check
text_check words = record { passes = between 1 256 words; fault = fault_at ImageLength 1 }

-- A word stands at an address of the text; words stand one after the other from an address on.
abbrev pub is_word : Option ℕ → ℕ → Bool
is_word None n = false
is_word (Some word) n = word == n

unfoldable pub has_words : List ℕ → ℕ → List Word → Bool
has_words text address [] = true
has_words text address (w ∷ ws) = is_word (word_at text address) (code w) && has_words text (address + 4) ws

-- The routine of an operation stands in the text: the section has the length of its words, the entry, right before the
-- start, is word 1, the section's words stand from the start on, and the abort is word 22.
unfoldable pub has_routine : List ℕ → Kind → Section → Bool
has_routine text kind section =
    (section.length == 4 * length (section_words kind))
    && (is_word (word_at text (section.start - 4)) (code Enter)
    && (has_words text section.start (section_words kind) && is_word (word_at text section.abort) (code Restart)))

-- The checks of one descriptor.
abbrev pub descriptor_checks : List ℕ → ℕ → Kind → Descriptor → List Check
descriptor_checks text signature kind d =
    record { passes = (d.version == 0); fault = fault_at Version (record_offset kind) }
    ∷ record { passes = (d.flags == 0); fault = fault_at Flags (record_offset kind + 4) }
    ∷ record { passes = nat_lt d.section.start (2 ^ 32); fault = fault_at Unaddressable (record_offset kind + 8) }
    ∷ record { passes = nat_lt (d.section.start + d.section.length) (2 ^ 32); fault = fault_at Unaddressable (record_offset kind + 16) }
    ∷ record { passes = nat_lt d.section.abort (2 ^ 32); fault = fault_at Unaddressable (record_offset kind + 24) }
    ∷ record { passes = not (inside d.section d.section.abort); fault = fault_at AbortInside (record_offset kind + 24) }
    ∷ record { passes = is_word (word_at text (d.section.abort - 4)) signature; fault = fault_at Unsigned (record_offset kind + 24) }
    ∷ record { passes = has_routine text kind d.section; fault = fault_at WrongWords (record_offset kind + 16) }
    ∷ []

-- All checks of all descriptors, descriptor 1 first.
unfoldable pub all_descriptor_checks : List ℕ → List ℕ → ℕ → List Kind → List Check
all_descriptor_checks table text signature [] = []
all_descriptor_checks table text signature (kind ∷ rest) =
    descriptor_checks text signature kind (descriptor_of table kind) ++ all_descriptor_checks table text signature rest

-- All checks of an image.
abbrev pub image_checks : Sizes → List ℕ → List ℕ → ℕ → List Check
image_checks sizes table text signature =
    size_checks sizes ++ (table_check (length table) ∷ text_check (length text) ∷ all_descriptor_checks table text signature kinds)

-- What the checks of an image answer: the five sections, or the first fault.
abbrev pub checked_image : Sizes → List ℕ → List ℕ → ℕ → Result (List Section) Fault
checked_image sizes table text signature = first_failing (sections_of table) (image_checks sizes table text signature)
