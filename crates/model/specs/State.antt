-- The parts of a machine: what stands where nothing is, records with one field changed, and how to get at a part.
use Rattle.std.specs.Prelude.{ℕ, zero, suc, ◌+◌, ◌-◌, cond, ◌&&◌, List, [], ◌∷◌, replicate, None, Option, nat_le, nat_lt, slice_index_or, slice_set}
use Rattle.image.specs.declared.fields.Sizes.{Sizes}
use Rattle.image.specs.declared.layout.Section.{Section}
use Rattle.words.specs.declared.Kind.{Kind}
use Rattle.words.specs.declared.Kind.TheVariants as kind
use Rattle.words.specs.Words.{kind_number}
use Rattle.exclusion.specs.Parts.{section_at}
use Rattle.model.specs.declared.state.Operation.{Operation}
use Rattle.model.specs.declared.state.Operation.TheVariants.{Add, Push, Pop, Put, Take}
use Rattle.model.specs.declared.state.Frame.{Frame}
use Rattle.model.specs.declared.state.Thread.{Thread}
use Rattle.model.specs.declared.state.Cpu.{Cpu}
use Rattle.model.specs.declared.state.Image.{Image}
use Rattle.model.specs.declared.state.Core.{Core}
use Rattle.model.specs.declared.state.Answer.{Answer}
use Rattle.model.specs.declared.state.Answer.TheVariants.{Done, Got, Empty, Full, NoNode, HandFull}

-- What stands past the end of an array.
abbrev pub no_frame : Frame
no_frame = record { operation = Add 0 0; place = 0; armed = 0 }

abbrev pub no_thread : Thread
no_thread = record { q = 0; a = 0; b = 0; w = 0; frames = []; depth = 0; hand = None }

abbrev pub no_cpu : Cpu
no_cpu = record { current = None; counters = []; list = 0; head = 0; tail = 0; slots = [] }

-- A thread, a CPU and a machine with one field changed.
module _ (x : Thread) where
  abbrev pub thread_q : ℕ → Thread
  thread_q y = record { q = y; a = x.a; b = x.b; w = x.w; frames = x.frames; depth = x.depth; hand = x.hand }

  abbrev pub thread_a : ℕ → Thread
  thread_a y = record { q = x.q; a = y; b = x.b; w = x.w; frames = x.frames; depth = x.depth; hand = x.hand }

  abbrev pub thread_b : ℕ → Thread
  thread_b y = record { q = x.q; a = x.a; b = y; w = x.w; frames = x.frames; depth = x.depth; hand = x.hand }

  abbrev pub thread_w : ℕ → Thread
  thread_w y = record { q = x.q; a = x.a; b = x.b; w = y; frames = x.frames; depth = x.depth; hand = x.hand }

  abbrev pub thread_frames : List Frame → Thread
  thread_frames y = record { q = x.q; a = x.a; b = x.b; w = x.w; frames = y; depth = x.depth; hand = x.hand }

  abbrev pub thread_depth : ℕ → Thread
  thread_depth y = record { q = x.q; a = x.a; b = x.b; w = x.w; frames = x.frames; depth = y; hand = x.hand }

  abbrev pub thread_hand : Option ℕ → Thread
  thread_hand y = record { q = x.q; a = x.a; b = x.b; w = x.w; frames = x.frames; depth = x.depth; hand = y }

module _ (x : Cpu) where
  abbrev pub cpu_current : Option ℕ → Cpu
  cpu_current y = record { current = y; counters = x.counters; list = x.list; head = x.head; tail = x.tail; slots = x.slots }

  abbrev pub cpu_counters : List ℕ → Cpu
  cpu_counters y = record { current = x.current; counters = y; list = x.list; head = x.head; tail = x.tail; slots = x.slots }

  abbrev pub cpu_list : ℕ → Cpu
  cpu_list y = record { current = x.current; counters = x.counters; list = y; head = x.head; tail = x.tail; slots = x.slots }

  abbrev pub cpu_head : ℕ → Cpu
  cpu_head y = record { current = x.current; counters = x.counters; list = x.list; head = y; tail = x.tail; slots = x.slots }

  abbrev pub cpu_tail : ℕ → Cpu
  cpu_tail y = record { current = x.current; counters = x.counters; list = x.list; head = x.head; tail = y; slots = x.slots }

  abbrev pub cpu_slots : List ℕ → Cpu
  cpu_slots y = record { current = x.current; counters = x.counters; list = x.list; head = x.head; tail = x.tail; slots = y }

module _ (x : Core) where
  abbrev pub core_sizes : Sizes → Core
  core_sizes y = record { sizes = y; image = x.image; cpus = x.cpus; threads = x.threads; next = x.next }

  abbrev pub core_image : Image → Core
  core_image y = record { sizes = x.sizes; image = y; cpus = x.cpus; threads = x.threads; next = x.next }

  abbrev pub core_cpus : List Cpu → Core
  core_cpus y = record { sizes = x.sizes; image = x.image; cpus = y; threads = x.threads; next = x.next }

  abbrev pub core_threads : List Thread → Core
  core_threads y = record { sizes = x.sizes; image = x.image; cpus = x.cpus; threads = y; next = x.next }

  abbrev pub core_next : List ℕ → Core
  core_next y = record { sizes = x.sizes; image = x.image; cpus = x.cpus; threads = x.threads; next = y }

-- A thread and a CPU of a machine.
abbrev pub thread_at : Core → ℕ → Thread
thread_at core t = slice_index_or core.threads t no_thread

abbrev pub cpu_at : Core → ℕ → Cpu
cpu_at core c = slice_index_or core.cpus c no_cpu

abbrev pub put_thread : Core → ℕ → Thread → Core
put_thread core t thread = core_threads core (slice_set core.threads t thread)

abbrev pub put_cpu : Core → ℕ → Cpu → Core
put_cpu core c cpu = core_cpus core (slice_set core.cpus c cpu)

-- The top frame of a thread; a thread with another top frame; with one more frame; with one less.
abbrev pub top_frame : Thread → Frame
top_frame thread = slice_index_or thread.frames (thread.depth - 1) no_frame

abbrev pub with_top : Thread → Frame → Thread
with_top thread frame = thread_frames thread (slice_set thread.frames (thread.depth - 1) frame)

abbrev pub pushed : Thread → Frame → Thread
pushed thread frame = thread_depth (thread_frames thread (slice_set thread.frames thread.depth frame)) (thread.depth + 1)

abbrev pub dropped : Thread → Thread
dropped thread = thread_depth thread (thread.depth - 1)

-- The kind of an operation, which is the number of its descriptor.
abbrev pub kind_of_operation : Operation → Kind
kind_of_operation (Add counter amount) = kind.Add
kind_of_operation Push = kind.Push
kind_of_operation Pop = kind.Pop
kind_of_operation (Put amount) = kind.Put
kind_of_operation Take = kind.Take

abbrev pub descriptor_of_operation : Operation → ℕ
descriptor_of_operation operation = kind_number (kind_of_operation operation)

-- The section of an operation's routine, and its entry, right before the section.
abbrev pub section_of_operation : Core → Operation → Section
section_of_operation core operation = section_at core.image.sections (descriptor_of_operation operation)

abbrev pub entry_of : Core → Operation → ℕ
entry_of core operation = (section_of_operation core operation).start - 4

-- A frame that begins an operation: at its entry, with nothing armed.
abbrev pub begun : Core → Operation → Frame
begun core operation = record { operation = operation; place = entry_of core operation; armed = 0 }

-- A list by a function of the index.
abbrev pub tabulated : {A : Type 0} → ℕ → (ℕ → A) → List A
tabulated zero f = []
tabulated (suc k) f = f 0 ∷ tabulated k (λ i. f (suc i))

-- A newly booted machine: all registers, counters and ring words 0, nodes 1 to N on CPU 0's list in ascending order, no CPU
-- with a thread, stacks and hands empty.
abbrev pub new_thread : Thread
new_thread = record { q = 0; a = 0; b = 0; w = 0; frames = replicate 8 no_frame; depth = 0; hand = None }

abbrev pub new_cpu : ℕ → Cpu
new_cpu first = record { current = None; counters = replicate 8 0; list = first; head = 0; tail = 0; slots = replicate 16 0 }

abbrev pub new_core : Sizes → Image → Core
new_core sizes image = record {
  sizes = sizes;
  image = image;
  cpus = new_cpu (cond (nat_lt 0 sizes.nodes) 1 0) ∷ replicate 7 (new_cpu 0);
  threads = replicate 16 new_thread;
  next = tabulated 256 (λ node. cond (nat_le 1 node && nat_lt node sizes.nodes) (node + 1) 0);
}

-- The number of an answer, and the value that comes with it, which is 0 unless something was got.
abbrev pub answer_number : Answer → ℕ
answer_number Done = 0
answer_number (Got value) = 1
answer_number Empty = 2
answer_number Full = 3
answer_number NoNode = 4
answer_number HandFull = 5

abbrev pub answer_value : Answer → ℕ
answer_value Done = 0
answer_value (Got value) = value
answer_value Empty = 0
answer_value Full = 0
answer_value NoNode = 0
answer_value HandFull = 0
