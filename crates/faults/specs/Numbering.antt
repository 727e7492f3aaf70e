-- The refusals of the stepping machine by number, and the layer that each belongs to.
use Rattle.std.specs.Prelude.{◌≡◌, ℕ, cond, List, Some, None, nat_le, codes, decimal, ◌++◌}
use Rattle.faults.specs.declared.Refusal.{Refusal}
use Rattle.faults.specs.declared.Refusal.TheVariants.{OutOfRange, ImageLength, Version, Flags, Unaddressable, AbortInside, Unsigned, WrongWords, OtherSections, NoCpu, NoThread, NoOperation, Busy, StackFull, Current, Idle, NoWork, Held, NoRoom, EndsInside, WrongSpelling, UnknownLetter, BootRefused}
use Rattle.faults.specs.declared.Layer.{Layer}
use Rattle.faults.specs.declared.Layer.TheVariants.{Descriptor, Schedule, Machine}
use Rattle.faults.specs.declared.Fault.{Fault}
use Rattle.faults.specs.declared.Cause.{Cause}

-- The number under which a refusal is known.
abbrev pub number_of : Refusal → ℕ
number_of OutOfRange = 1
number_of ImageLength = 2
number_of Version = 3
number_of Flags = 4
number_of Unaddressable = 5
number_of AbortInside = 6
number_of Unsigned = 7
number_of WrongWords = 8
number_of OtherSections = 9
number_of NoCpu = 10
number_of NoThread = 11
number_of NoOperation = 12
number_of Busy = 13
number_of StackFull = 14
number_of Current = 15
number_of Idle = 16
number_of NoWork = 17
number_of Held = 18
number_of NoRoom = 19
number_of EndsInside = 20
number_of WrongSpelling = 21
number_of UnknownLetter = 22
number_of BootRefused = 23

-- 3 to 8 are refusals of a descriptor, 19 to 23 of a schedule, and all others of the machine.
abbrev pub layer_of_number : ℕ → Layer
layer_of_number n = cond (nat_le 3 n) (cond (nat_le n 8) Descriptor (cond (nat_le 19 n) (cond (nat_le n 23) Schedule Machine) Machine)) Machine

abbrev pub layer_of : Refusal → Layer
layer_of refusal = layer_of_number (number_of refusal)

-- A number tells its refusal: no two refusals share one.
abbrev pub Apart : Refusal → Type 0
Apart refusal = (other : Refusal) → number_of other ≡ number_of refusal → other ≡ refusal

-- A refusal at a place, with nothing inside.
abbrev pub fault_at : Refusal → ℕ → Fault
fault_at refusal place = record { refusal = refusal; place = place; inner = None }

-- A schedule's refusal at a place because boot refused its job: boot's refusal and its place stand inside.
abbrev pub boot_fault : ℕ → Fault → Fault
boot_fault place boot = record { refusal = BootRefused; place = place; inner = Some (record { refusal = boot.refusal; place = boot.place }) }

-- What a layer is called.
abbrev pub layer_name : Layer → List ℕ
layer_name Descriptor = codes "descriptor"
layer_name Schedule = codes "schedule"
layer_name Machine = codes "machine"

-- What a refusal means, in words.
abbrev pub meaning : Refusal → List ℕ
meaning OutOfRange = codes "a number of the job lies outside its limits"
meaning ImageLength = codes "the descriptor table or the text has a length that it may not have"
meaning Version = codes "a descriptor's version is not 0"
meaning Flags = codes "a descriptor's flags are not 0"
meaning Unaddressable = codes "a descriptor's start, end or abort is 2^32 or more"
meaning AbortInside = codes "a descriptor's abort lies inside its own section"
meaning Unsigned = codes "the word before a descriptor's abort is not the signature"
meaning WrongWords = codes "the text does not have the words of a descriptor's routine"
meaning OtherSections = codes "the exclusion's sections are not those of the table"
meaning NoCpu = codes "there is no such CPU"
meaning NoThread = codes "there is no such thread"
meaning NoOperation = codes "there is no such operation"
meaning Busy = codes "the thread has an operation already"
meaning StackFull = codes "the thread's stack is full"
meaning Current = codes "the thread is current on a CPU"
meaning Idle = codes "the CPU has no thread"
meaning NoWork = codes "the CPU's thread has no operation"
meaning Held = codes "the exclusion holds the disturber"
meaning NoRoom = codes "a buffer has too little room"
meaning EndsInside = codes "the schedule ends inside a part of it, or is too long"
meaning WrongSpelling = codes "a number is not in its one spelling"
meaning UnknownLetter = codes "no job and no call begins with this letter"
meaning BootRefused = codes "the job is refused"

-- What is written of a fault: the number of its refusal, and its place.
abbrev pub fault_text : Fault → List ℕ
fault_text fault = decimal (number_of fault.refusal) ++ (codes " " ++ decimal fault.place)

-- What is written of a fault inside another: its number, its layer, its place and what it means.
abbrev pub cause_text : Cause → List ℕ
cause_text cause =
    codes "refusal " ++ (decimal (number_of cause.refusal) ++ (codes " of the " ++ (layer_name (layer_of cause.refusal) ++ (codes " at " ++ (decimal cause.place ++ (codes ": " ++ meaning cause.refusal))))))
