-- What one instruction does. Each word is one clause.
use Rattle.std.specs.Prelude.{ℕ, ◌+◌, ◌%◌, ◌^◌, cond, List, take, Some, None, Option, ◌==◌, slice_index, slice_set}
use Rattle.image.specs.Layout.{word_at}
use Rattle.words.specs.declared.Word.{Word}
use Rattle.words.specs.Words.{word_of}
use Rattle.words.specs.declared.Word.TheVariants.{Enter, ReadCpu, LoadCounter, AddAmount, StoreCounter, NeedNode, NeedEmptyHand, LoadListHead, LinkNode, PushNode, NeedListed, LoadNext, PopNode, LoadTail, LoadRingHead, NeedRoom, StorePacket, AdvanceTail, NeedPacket, LoadPacket, AdvanceRingHead, Restart}
use Rattle.exclusion.specs.declared.meaning.Notice.{Notice}
use Rattle.exclusion.specs.declared.meaning.Notice.TheVariants.{Entered, Stepped, Left}
use Rattle.model.specs.declared.state.Operation.{Operation}
use Rattle.model.specs.declared.state.Operation.TheVariants.{Add, Push, Pop, Put, Take}
use Rattle.model.specs.declared.state.Thread.{Thread}
use Rattle.model.specs.declared.state.Cpu.{Cpu}
use Rattle.model.specs.declared.state.Core.{Core}
use Rattle.model.specs.declared.state.Answer.{Answer}
use Rattle.model.specs.declared.state.Answer.TheVariants.{Done, Got, Empty, Full, NoNode, HandFull}
use Rattle.model.specs.declared.state.Settling.{Settling}
use Rattle.model.specs.State.{thread_q, thread_a, thread_b, thread_w, thread_hand, cpu_counters, cpu_list, cpu_head, cpu_tail, cpu_slots, core_next, thread_at, cpu_at, put_thread, put_cpu, top_frame, with_top, dropped, descriptor_of_operation, section_of_operation, entry_of}

-- The word that a number of the text stands for, if there is a number and it stands for one.
abbrev pub decoded : Option ℕ → Option Word
decoded None = None
decoded (Some n) = word_of n

-- The word at an address of a machine's text.
abbrev pub word_here : Core → ℕ → Option Word
word_here core place = decoded (word_at (take core.image.text.count core.image.text.words) place)

-- What an instruction leaves: the thread, the structures of CPU q, the nodes' next words, and an answer if it settled.
pub record Effect : Type 0 where
  pub thread : Thread
  pub cpu : Cpu
  pub next : List ℕ
  pub answer : Option Answer

-- The place becomes an address; it grows by 4.
abbrev pub jumped : Thread → ℕ → Thread
jumped thread place = with_top thread (record { operation = (top_frame thread).operation; place = place; armed = (top_frame thread).armed })

abbrev pub onward : Thread → Thread
onward thread = jumped thread (((top_frame thread).place + 4) % 2 ^ 64)

-- It goes on; it settles, which drops the top frame.
abbrev pub goes : Thread → Cpu → List ℕ → Effect
goes thread cpu next = record { thread = onward thread; cpu = cpu; next = next; answer = None }

abbrev pub settles : Thread → Cpu → List ℕ → Answer → Effect
settles thread cpu next answer = record { thread = dropped thread; cpu = cpu; next = next; answer = Some answer }

-- By the operands that only some operations have.
abbrev pub by_add : Operation → (ℕ → ℕ → Effect) → Effect → Effect
by_add (Add counter amount) f otherwise = f counter amount
by_add Push f otherwise = otherwise
by_add Pop f otherwise = otherwise
by_add (Put amount) f otherwise = otherwise
by_add Take f otherwise = otherwise

abbrev pub by_put : Operation → (ℕ → Effect) → Effect → Effect
by_put (Add counter amount) f otherwise = otherwise
by_put Push f otherwise = otherwise
by_put Pop f otherwise = otherwise
by_put (Put amount) f otherwise = f amount
by_put Take f otherwise = otherwise

abbrev pub by_hand : Option ℕ → (ℕ → Effect) → Effect → Effect
by_hand None f otherwise = otherwise
by_hand (Some node) f otherwise = f node

-- What a word does for the thread's top operation on the CPU with the number `here`. `cpu` are the structures of CPU q,
-- `next` the nodes' next words. A word whose operand the operation lacks, or that wants a node from an empty hand, only goes on;
-- any other does the same for every operation. No life meets a word of another operation.
module _ (core : Core) (here : ℕ) (thread : Thread) (cpu : Cpu) (next : List ℕ) where
  abbrev operation : Operation
  operation = (top_frame thread).operation

  -- the slot behind a slot of the ring
  abbrev behind : ℕ → ℕ
  behind slot = (slot + 1) % (core.sizes.packets + 1)

  abbrev pub does : Word → Effect
  does Enter = record {
    thread = with_top thread (record { operation = operation; place = (section_of_operation core operation).start; armed = descriptor_of_operation operation });
    cpu = cpu;
    next = next;
    answer = None;
  }
  does ReadCpu = goes (thread_q thread here) cpu next
  does LoadCounter = by_add operation (λ counter amount. goes (thread_a thread (slice_index cpu.counters counter)) cpu next) (goes thread cpu next)
  does AddAmount = by_add operation (λ counter amount. goes (thread_a thread ((thread.a + amount) % 2 ^ 64)) cpu next) (goes thread cpu next)
  does StoreCounter = by_add operation (λ counter amount. settles thread (cpu_counters cpu (slice_set cpu.counters counter thread.a)) next Done) (goes thread cpu next)
  does NeedNode = by_hand thread.hand (λ node. goes thread cpu next) (settles thread cpu next NoNode)
  does NeedEmptyHand = by_hand thread.hand (λ node. settles thread cpu next HandFull) (goes thread cpu next)
  does LoadListHead = goes (thread_a thread cpu.list) cpu next
  does LinkNode = by_hand thread.hand (λ node. goes thread cpu (slice_set next node thread.a)) (goes thread cpu next)
  does PushNode = by_hand thread.hand (λ node. settles (thread_hand thread None) (cpu_list cpu node) next Done) (goes thread cpu next)
  does NeedListed = cond (thread.a == 0) (settles thread cpu next Empty) (goes thread cpu next)
  does LoadNext = goes (thread_b thread (slice_index next thread.a)) cpu next
  does PopNode = settles (thread_hand thread (Some thread.a)) (cpu_list cpu thread.b) next (Got thread.a)
  does LoadTail = goes (thread_a thread cpu.tail) cpu next
  does LoadRingHead = goes (thread_b thread cpu.head) cpu next
  does NeedRoom = cond (behind thread.a == thread.b) (settles thread cpu next Full) (goes thread cpu next)
  does StorePacket = by_put operation (λ amount. goes thread (cpu_slots cpu (slice_set cpu.slots thread.a amount)) next) (goes thread cpu next)
  does AdvanceTail = settles thread (cpu_tail cpu (behind thread.a)) next Done
  does NeedPacket = cond (thread.a == thread.b) (settles thread cpu next Empty) (goes thread cpu next)
  does LoadPacket = goes (thread_w thread (slice_index cpu.slots thread.b)) cpu next
  does AdvanceRingHead = settles thread (cpu_head cpu (behind thread.b)) next (Got thread.w)
  does Restart = record { thread = jumped thread (entry_of core operation); cpu = cpu; next = next; answer = None }

  abbrev pub does_here : Option Word → Effect
  does_here None = goes thread cpu next
  does_here (Some word) = does word

-- What the exclusion is told after a word: entered after word 2, stepped after any other section word that does not settle,
-- left at a settling, and nothing after words 1 and 22.
abbrev pub progress : ℕ → Option Answer → Option Notice
progress cpu None = Some (Stepped cpu)
progress cpu (Some answer) = Some (Left cpu)

abbrev pub notice_of : ℕ → ℕ → Option Answer → Word → Option Notice
notice_of cpu d answer Enter = None
notice_of cpu d answer ReadCpu = Some (Entered cpu d)
notice_of cpu d answer LoadCounter = progress cpu answer
notice_of cpu d answer AddAmount = progress cpu answer
notice_of cpu d answer StoreCounter = progress cpu answer
notice_of cpu d answer NeedNode = progress cpu answer
notice_of cpu d answer NeedEmptyHand = progress cpu answer
notice_of cpu d answer LoadListHead = progress cpu answer
notice_of cpu d answer LinkNode = progress cpu answer
notice_of cpu d answer PushNode = progress cpu answer
notice_of cpu d answer NeedListed = progress cpu answer
notice_of cpu d answer LoadNext = progress cpu answer
notice_of cpu d answer PopNode = progress cpu answer
notice_of cpu d answer LoadTail = progress cpu answer
notice_of cpu d answer LoadRingHead = progress cpu answer
notice_of cpu d answer NeedRoom = progress cpu answer
notice_of cpu d answer StorePacket = progress cpu answer
notice_of cpu d answer AdvanceTail = progress cpu answer
notice_of cpu d answer NeedPacket = progress cpu answer
notice_of cpu d answer LoadPacket = progress cpu answer
notice_of cpu d answer AdvanceRingHead = progress cpu answer
notice_of cpu d answer Restart = None

abbrev pub notice_here : ℕ → ℕ → Option Answer → Option Word → Option Notice
notice_here cpu d answer None = None
notice_here cpu d answer (Some word) = notice_of cpu d answer word

-- One instruction of a thread on a CPU: the machine after it, what the exclusion is told, and the settling if it settled.
pub record Performed : Type 0 where
  pub core : Core
  pub notice : Option Notice
  pub settling : Option Settling

abbrev pub settled_as : ℕ → Operation → ℕ → Option Answer → Option Settling
settled_as thread operation cpu None = None
settled_as thread operation cpu (Some answer) = Some (record { thread = thread; operation = operation; cpu = cpu; answer = answer })

module _ (core : Core) (cpu t : ℕ) where
  abbrev running : Thread
  running = thread_at core t

  abbrev word_met : Option Word
  word_met = word_here core (top_frame running).place

  -- Word 2 sets q, and structures are those of CPU q; every other word leaves q.
  abbrev effect : Effect
  effect = does_here core cpu running (cpu_at core running.q) core.next word_met

  abbrev pub performed : Performed
  performed = record {
    core = core_next (put_cpu (put_thread core t effect.thread) running.q effect.cpu) effect.next;
    notice = notice_here cpu (descriptor_of_operation (top_frame running).operation) effect.answer word_met;
    settling = settled_as t (top_frame running).operation cpu effect.answer;
  }
