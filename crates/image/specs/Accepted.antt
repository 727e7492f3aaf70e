-- The rules of an image in words, what it is to be refused by the first rule that fails, and what holds of an accepted image.
use Rattle.std.specs.Prelude.{◌≡◌, ℕ, ◌+◌, ◌-◌, ◌*◌, ◌^◌, ◌<◌, ◌≤◌, true, false, List, ◌∷◌, ◌++◌, length, Ok, Err, Result, slice_index_or}
use Rattle.std.specs.List.{AllByRecursion}
use Rattle.faults.specs.declared.Fault.{Fault}
use Rattle.image.specs.declared.fields.Sizes.{Sizes}
use Rattle.image.specs.declared.layout.Descriptor.{Descriptor}
use Rattle.image.specs.declared.layout.Section.{Section}
use Rattle.words.specs.declared.Kind.{Kind}
use Rattle.words.specs.declared.Word.TheVariants.{Enter, Restart}
use Rattle.words.specs.Words.{code, section_words}
use Rattle.image.specs.Layout.{LiesAt, Inside, section_of, descriptor_of, sections_of}
use Rattle.image.specs.Checks.{Check}

-- The routine of an operation stands in the text: the section is as long as its words, and each word lies where it should,
-- word 1 at the entry, right before the section, and word 22 at the abort.
pub record Routine (text : List ℕ) (kind : Kind) (section : Section) : Type 0 where
  pub long_as_its_words : section.length ≡ 4 * length (section_words kind)
  pub entry : LiesAt text (section.start - 4) (code Enter)
  pub words : (i : ℕ) → i < length (section_words kind) → LiesAt text (section.start + 4 * i) (code (slice_index_or (section_words kind) i Enter))
  pub abort : LiesAt text section.abort (code Restart)

-- The rules of one descriptor.
pub record WellDescribed (text : List ℕ) (signature : ℕ) (kind : Kind) (d : Descriptor) : Type 0 where
  pub version_is_zero : d.version ≡ 0
  pub flags_are_zero : d.flags ≡ 0
  pub start_is_addressable : d.section.start < 2 ^ 32
  pub end_is_addressable : d.section.start + d.section.length < 2 ^ 32
  pub abort_is_addressable : d.section.abort < 2 ^ 32
  pub abort_is_outside : Inside d.section d.section.abort → ⊥
  pub abort_is_signed : LiesAt text (d.section.abort - 4) signature
  pub routine_stands : Routine text kind d.section

-- All rules of an image.
pub record Acceptable (sizes : Sizes) (table text : List ℕ) (signature : ℕ) : Type 0 where
  pub one_to_eight_cpus : (1 ≤ sizes.cpus) × (sizes.cpus ≤ 8)
  pub one_to_sixteen_threads : (1 ≤ sizes.threads) × (sizes.threads ≤ 16)
  pub at_most_255_nodes : sizes.nodes ≤ 255
  pub one_to_fifteen_packets : (1 ≤ sizes.packets) × (sizes.packets ≤ 15)
  pub one_to_eight_counters : (1 ≤ sizes.counters) × (sizes.counters ≤ 8)
  pub table_of_160_bytes : length table ≡ 160
  pub one_to_256_words : (1 ≤ length text) × (length text ≤ 256)
  pub well_described : (kind : Kind) → WellDescribed text signature kind (descriptor_of table kind)

-- An image is accepted, with the table's sections, exactly if every rule holds.
abbrev pub AcceptedExactly : Sizes → List ℕ → List ℕ → ℕ → Result (List Section) Fault → Type 0
AcceptedExactly sizes table text signature (Ok sections) = Acceptable sizes table text signature × (sections ≡ sections_of table)
AcceptedExactly sizes table text signature (Err fault) = Acceptable sizes table text signature → ⊥

-- A fault is that of the first check that fails: all before it pass.
pub record FirstOf (checks : List Check) (fault : Fault) : Type 0 where
  pub before : List Check
  pub failing : Check
  pub after : List Check
  pub in_order : checks ≡ before ++ (failing ∷ after)
  pub all_before_pass : AllByRecursion (λ check. check.passes ≡ true) before
  pub it_fails : failing.passes ≡ false
  pub is_its_fault : fault ≡ failing.fault

abbrev pub FirstThatFails : {X : Type 0} → List Check → Result X Fault → Type 0
FirstThatFails checks (Ok x) = AllByRecursion (λ check. check.passes ≡ true) checks
FirstThatFails checks (Err fault) = FirstOf checks fault

-- What holds of an accepted image: no address lies in two sections, entries and aborts lie in none, and every routine stands.
pub record LaidOut (table text : List ℕ) : Type 0 where
  pub no_address_in_two_sections : (one other : Kind) (address : ℕ) → Inside (section_of table one) address → Inside (section_of table other) address → one ≡ other
  pub entries_in_no_section : (one other : Kind) → Inside (section_of table other) ((section_of table one).start - 4) → ⊥
  pub aborts_in_no_section : (one other : Kind) → Inside (section_of table other) (section_of table one).abort → ⊥
  pub routines_stand : (kind : Kind) → Routine text kind (section_of table kind)

abbrev pub LaidOutIfAccepted : {X : Type 0} → List ℕ → List ℕ → Result X Fault → Type 0
LaidOutIfAccepted table text (Ok x) = LaidOut table text
LaidOutIfAccepted table text (Err fault) = Unit {0}
