-- The definitions of the calls taken apart for proofs: what a word does, by the packets of a ring, the image and the operation, and
-- the changes that need no exclusion. That they are the model's is the law at the end. No other claim and no public promise is about
-- these: the proof of the claims and the private parts of the machine go through them.
use Rattle.std.specs.Prelude.{length, ◌<◌, ◌≡◌, ℕ, suc, ◌+◌, ◌-◌, ◌%◌, ◌^◌, ◌≤◌, cond, List, [], ◌∷◌, reverse, take, Some, None, Option, ◌==◌, slice_index, slice_set}
use Rattle.image.specs.Layout.{word_at}
use Rattle.image.specs.declared.layout.Section.{Section}
use Rattle.words.specs.declared.Word.{Word}
use Rattle.words.specs.declared.Word.TheVariants.{Enter, ReadCpu, LoadCounter, AddAmount, StoreCounter, NeedNode, NeedEmptyHand, LoadListHead, LinkNode, PushNode, NeedListed, LoadNext, PopNode, LoadTail, LoadRingHead, NeedRoom, StorePacket, AdvanceTail, NeedPacket, LoadPacket, AdvanceRingHead, Restart}
use Rattle.exclusion.specs.declared.meaning.Notice.{Notice}
use Rattle.exclusion.specs.declared.meaning.Verdict.{Verdict}
use Rattle.exclusion.specs.Parts.{section_at}
use Rattle.model.specs.declared.state.Operation.{Operation}
use Rattle.model.specs.declared.state.Frame.{Frame}
use Rattle.model.specs.declared.state.Thread.{Thread}
use Rattle.model.specs.declared.state.Cpu.{Cpu}
use Rattle.model.specs.declared.state.Image.{Image}
use Rattle.model.specs.declared.state.Core.{Core}
use Rattle.model.specs.declared.state.Answer.TheVariants.{Done, Got, Empty, Full, NoNode, HandFull}
use Rattle.model.specs.State.{top_frame, thread_at, cpu_at, put_thread, put_cpu, cpu_current, core_next, with_top, pushed, descriptor_of_operation, thread_q, thread_a, thread_b, thread_w, thread_hand, cpu_counters, cpu_list, cpu_head, cpu_tail, cpu_slots}
use Rattle.model.specs.Words.{Effect, Performed, goes, settles, jumped, by_add, by_put, by_hand, decoded, notice_here, settled_as, performed}
use Rattle.model.specs.Calls as calls
use Rattle.model.specs.Claims.{is_thread}

-- The frames of a thread's stack, the top one first.
abbrev pub frames_of : Thread → List Frame
frames_of thread = reverse (take thread.depth thread.frames)

-- The section of an operation's routine, and its entry, right before the section.
abbrev pub section_of_operation : Image → Operation → Section
section_of_operation image operation = section_at image.sections (descriptor_of_operation operation)

abbrev pub entry_of : Image → Operation → ℕ
entry_of image operation = (section_of_operation image operation).start - 4

-- A frame that begins an operation: at its entry, with nothing armed.
abbrev pub begun : Image → Operation → Frame
begun image operation = record { operation = operation; place = entry_of image operation; armed = 0 }

-- The word at an address of an image's text.
abbrev pub word_here : Image → ℕ → Option Word
word_here image place = decoded (word_at (take image.text.count image.text.words) place)

-- What a word does for an operation of the thread on the CPU with the number `here`, with rings of so many packets. `cpu` are the structures of CPU q,
-- `next` the nodes' next words. A word whose operand the operation lacks, or that wants a node from an empty hand, only goes on;
-- any other does the same for every operation. No life meets a word of another operation.
module _ (packets : ℕ) (image : Image) (here : ℕ) (thread : Thread) (cpu : Cpu) (next : List ℕ) (operation : Operation) where
  -- the slot behind a slot of the ring
  abbrev behind : ℕ → ℕ
  behind slot = (slot + 1) % (packets + 1)

  abbrev pub does : Word → Effect
  does Enter = record {
    thread = with_top thread (record { operation = operation; place = (section_of_operation image operation).start; armed = descriptor_of_operation operation });
    cpu = cpu;
    next = next;
    answer = None;
  }
  does ReadCpu = goes (thread_q thread here) cpu next
  does LoadCounter = by_add operation (λ counter amount. goes (thread_a thread (slice_index cpu.counters counter)) cpu next) (goes thread cpu next)
  does AddAmount = by_add operation (λ counter amount. goes (thread_a thread ((thread.a + amount) % 2 ^ 64)) cpu next) (goes thread cpu next)
  does StoreCounter = by_add operation (λ counter amount. settles thread (cpu_counters cpu (slice_set cpu.counters counter thread.a)) next Done) (goes thread cpu next)
  does NeedNode = by_hand thread.hand (λ node. goes thread cpu next) (settles thread cpu next NoNode)
  does NeedEmptyHand = by_hand thread.hand (λ node. settles thread cpu next HandFull) (goes thread cpu next)
  does LoadListHead = goes (thread_a thread cpu.list) cpu next
  does LinkNode = by_hand thread.hand (λ node. goes thread cpu (slice_set next node thread.a)) (goes thread cpu next)
  does PushNode = by_hand thread.hand (λ node. settles (thread_hand thread None) (cpu_list cpu node) next Done) (goes thread cpu next)
  does NeedListed = cond (thread.a == 0) (settles thread cpu next Empty) (goes thread cpu next)
  does LoadNext = goes (thread_b thread (slice_index next thread.a)) cpu next
  does PopNode = settles (thread_hand thread (Some thread.a)) (cpu_list cpu thread.b) next (Got thread.a)
  does LoadTail = goes (thread_a thread cpu.tail) cpu next
  does LoadRingHead = goes (thread_b thread cpu.head) cpu next
  does NeedRoom = cond (behind thread.a == thread.b) (settles thread cpu next Full) (goes thread cpu next)
  does StorePacket = by_put operation (λ amount. goes thread (cpu_slots cpu (slice_set cpu.slots thread.a amount)) next) (goes thread cpu next)
  does AdvanceTail = settles thread (cpu_tail cpu (behind thread.a)) next Done
  does NeedPacket = cond (thread.a == thread.b) (settles thread cpu next Empty) (goes thread cpu next)
  does LoadPacket = goes (thread_w thread (slice_index cpu.slots thread.b)) cpu next
  does AdvanceRingHead = settles thread (cpu_head cpu (behind thread.b)) next (Got thread.w)
  does Restart = record { thread = jumped thread (entry_of image operation); cpu = cpu; next = next; answer = None }

  abbrev pub does_here : Option Word → Effect
  does_here None = goes thread cpu next
  does_here (Some word) = does word

-- By the word at its place and by its operation together. Word 2 sets q, and structures are those of CPU q; every other word
-- leaves q.
module _ (core : Core) (cpu t : ℕ) where
  abbrev running : Thread
  running = thread_at core t

  abbrev effect : Option Word → Operation → Effect
  effect word operation = does_here core.sizes.packets core.image cpu running (cpu_at core running.q) core.next operation word

  abbrev pub performed_as : Option Word → Operation → Performed
  performed_as word operation = record {
    core = core_next (put_cpu (put_thread core t (effect word operation).thread) running.q (effect word operation).cpu) (effect word operation).next;
    notice = notice_here cpu (descriptor_of_operation operation) (effect word operation).answer word;
    settling = settled_as t operation cpu (effect word operation).answer;
  }

-- The first of some CPUs, counted from c on, that has the thread t.
abbrev pub cpu_among : List Cpu → ℕ → ℕ → Option ℕ
cpu_among [] c t = None
cpu_among (cpu ∷ cpus) c t = cond (is_thread t cpu.current) (Some c) (cpu_among cpus (suc c) t)

-- A thread with a frame more, which begins an operation; a CPU that is given a thread, or none.
abbrev pub with_frame : ℕ → Operation → Core → Core
with_frame t operation core = put_thread core t (pushed (thread_at core t) (begun core.image operation))

abbrev pub given_thread : ℕ → Option ℕ → Core → Core
given_thread cpu t core = put_cpu core cpu (cpu_current (cpu_at core cpu) t)

-- The packets of a ring of R + 1 slots, from its head, which is one of the slots, to its tail.
pub record RingFromASlot (packets : ℕ) (cpu : Cpu) (ring : List ℕ) : Type 0 where
  pub at_most : length ring ≤ packets
  pub head_is_a_slot : cpu.head ≤ packets
  pub slot : (i : ℕ) → i < length ring → slice_index cpu.slots ((cpu.head + i) % (packets + 1)) ≡ slice_index ring i
  pub up_to_the_tail : cpu.tail ≡ (cpu.head + length ring) % (packets + 1)

-- Taken apart, the calls are the model's: an instruction does what its word does for its operation, a thread gets its frame, a CPU its
-- thread, and the CPU of a thread is the first that has it.
pub record TakenApart {E : Type 0} (told : E → Notice → E → Type 0) (answers : E → ℕ → ℕ → ℕ → Verdict → Type 0) : Type 0 where
  pub an_instruction : (core : Core) (cpu t : ℕ) → performed core cpu t ≡ performed_as core cpu t (word_here core.image (top_frame (thread_at core t)).place) (top_frame (thread_at core t)).operation
  pub a_frame : (t : ℕ) (operation : Operation) (core : Core) → calls.with_frame told answers t operation core ≡ with_frame t operation core
  pub a_thread : (cpu : ℕ) (t : Option ℕ) (core : Core) → calls.with_current told answers cpu t core ≡ given_thread cpu t core
  pub the_cpu : (core : Core) (t : ℕ) → calls.cpu_of core t ≡ cpu_among core.cpus 0 t
