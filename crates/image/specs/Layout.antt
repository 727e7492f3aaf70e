-- Where words and records lie: the text's addresses, the descriptor table's records, and what a section holds.
use Rattle.std.specs.Prelude.{◌≡◌, ℕ, ◌+◌, ◌-◌, ◌*◌, ◌/◌, ◌%◌, ◌<◌, ◌≤◌, Bool, cond, ◌&&◌, List, map, length, Some, None, Option, ◌==◌, nat_le, nat_lt, slice_index}
use Rattle.image.specs.declared.layout.Descriptor.{Descriptor}
use Rattle.image.specs.declared.layout.Section.{Section}
use Rattle.words.specs.declared.Kind.{Kind}
use Rattle.words.specs.Words.{kind_number, kinds}

-- Word i of a text lies at address 4096 + 4i.
abbrev pub address_of : ℕ → ℕ
address_of i = 4096 + 4 * i

-- The word at an address.
abbrev pub LiesAt : List ℕ → ℕ → ℕ → Type 0
LiesAt text address word = (i : ℕ) × (i < length text) × (address ≡ address_of i) × (word ≡ slice_index text i)

-- The same by computing: none where the address is no address of the text.
abbrev pub word_at : List ℕ → ℕ → Option ℕ
word_at text address =
    cond (nat_le 4096 address)
    (cond (address % 4 == 0) (cond (nat_lt ((address - 4096) / 4) (length text)) (Some (slice_index text ((address - 4096) / 4))) None) None)
    None

-- An address is inside a section from its start on for its length, on whole numbers.
abbrev pub Inside : Section → ℕ → Type 0
Inside section address = (section.start ≤ address) × (address < section.start + section.length)

abbrev pub inside : Section → ℕ → Bool
inside section address = nat_le section.start address && nat_lt address (section.start + section.length)

-- A table's bytes as numbers, the least significant first. A byte that the table lacks is 0.
abbrev pub four_bytes : List ℕ → ℕ → ℕ
four_bytes table at = slice_index table at + slice_index table (at + 1) * 256 + slice_index table (at + 2) * 65536 + slice_index table (at + 3) * 16777216

abbrev pub eight_bytes : List ℕ → ℕ → ℕ
eight_bytes table at = four_bytes table at + four_bytes table (at + 4) * 4294967296

-- Records have 32 bytes, and descriptor 1 comes first: version at 0, flags at 4, start at 8, length at 16, abort at 24.
abbrev pub record_offset : Kind → ℕ
record_offset kind = 32 * (kind_number kind - 1)

abbrev pub section_fields : List ℕ → ℕ → Section
section_fields table at = record { start = eight_bytes table (at + 8); length = eight_bytes table (at + 16); abort = eight_bytes table (at + 24) }

unfoldable pub section_of : List ℕ → Kind → Section
section_of table kind = section_fields table (record_offset kind)

-- The sections that a table tells, that of descriptor 1 first.
abbrev pub sections_of : List ℕ → List Section
sections_of table = map (section_of table) kinds

abbrev pub descriptor_fields : List ℕ → ℕ → Section → Descriptor
descriptor_fields table at section = record { version = four_bytes table at; flags = four_bytes table (at + 4); section = section }

unfoldable pub descriptor_of : List ℕ → Kind → Descriptor
descriptor_of table kind = descriptor_fields table (record_offset kind) (section_of table kind)
