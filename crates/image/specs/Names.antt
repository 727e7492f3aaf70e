-- The names of a job's numbers.
use Rattle.std.specs.Prelude.{ℕ, List, codes}
use Rattle.image.specs.declared.fields.Field.{Field}
use Rattle.image.specs.declared.fields.Field.TheVariants.{Exclusion, Grace, Cpus, Threads, Nodes, Packets, Counters, Signature, TextWord}

abbrev pub field_name : Field → List ℕ
field_name Exclusion = codes "exclusion"
field_name Grace = codes "grace"
field_name Cpus = codes "cpus"
field_name Threads = codes "threads"
field_name Nodes = codes "nodes"
field_name Packets = codes "packets"
field_name Counters = codes "counters"
field_name Signature = codes "signature"
field_name TextWord = codes "word"
