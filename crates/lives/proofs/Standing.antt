-- What holds of every machine with a past, in the words of restartable sequences.
use Rattle.std.proofs.Common.{◌≡◌, ℕ, ◌+◌, ◌*◌, ◌<◌, ◌≤◌, cond, ◌&&◌, leb, List, [], map, length, get_or, set, Some, None, sym, ap, ◌∙◌, subst, arith, get_or-set_same}
use Rattle.std.proofs.lemmas.Option.{none-some, same_Some}
use Rattle.std.specs.List.{AllByRecursion}
use Rattle.image.specs.declared.fields.Sizes.{Sizes}
use Rattle.image.specs.Layout.{Inside}
use Rattle.words.specs.declared.Word.TheVariants.{Enter, Restart}
use Rattle.exclusion.specs.Meaning.{Meaning, Possible}
use Rattle.exclusion.specs.Parts.{section_at}
use Rattle.model.specs.declared.state.Operation.{Operation}
use Rattle.model.specs.declared.state.Frame.{Frame}
use Rattle.model.specs.declared.state.Thread.{Thread}
use Rattle.model.specs.declared.state.Cpu.{Cpu}
use Rattle.model.specs.declared.state.Image.{Image}
use Rattle.model.specs.declared.state.Core.{Core}
use Rattle.model.specs.State.{no_cpu, no_thread, thread_at, cpu_at, top_frame, dropped, descriptor_of_operation}
use Rattle.model.specs.Ledger.{Ledger, Waiting}
use Rattle.model.specs.Claims.{found}
use Rattle.lives.proofs.Stacks.{Whole}
use Rattle.lives.proofs.Midway.{words_of, word_number, Known, Holds, Valid}
use Rattle.lives.specs.Apart.{frames_of, section_of_operation, entry_of, word_here}

-- The image of a machine: no address lies in two sections, entries and aborts lie in none, every routine stands in the text,
-- and all its addresses are possible ones.
pub record TextStands (image : Image) : Type 0 where
  pub apart : (d e address : ℕ) → Inside (section_at image.sections d) address → Inside (section_at image.sections e) address → d ≡ e
  pub entry_outside : (operation : Operation) (d : ℕ) → Inside (section_at image.sections d) (entry_of image operation) → ⊥
  pub abort_outside : (operation : Operation) (d : ℕ) → Inside (section_at image.sections d) (section_of_operation image operation).abort → ⊥
  pub long_as_its_words : (operation : Operation) → (section_of_operation image operation).length ≡ 4 * length (words_of operation)
  pub entry_word : (operation : Operation) → word_here image (entry_of image operation) ≡ Some Enter
  pub section_word : (operation : Operation) (i : ℕ) → i < length (words_of operation) → word_here image ((section_of_operation image operation).start + 4 * i) ≡ Some (word_number operation i)
  pub abort_word : (operation : Operation) → word_here image (section_of_operation image operation).abort ≡ Some Restart
  pub entry_possible : (operation : Operation) → Possible (entry_of image operation)
  pub section_possible : (operation : Operation) (i : ℕ) → i < length (words_of operation) → Possible ((section_of_operation image operation).start + 4 * i)
  pub abort_possible : (operation : Operation) → Possible (section_of_operation image operation).abort
  pub entry_before : (operation : Operation) → entry_of image operation + 4 ≡ (section_of_operation image operation).start

-- A frame stands where its operation can start over: at its entry or abort with nothing armed, or at its start with its own
-- descriptor armed.
pub data RestartPoint (image : Image) (frame : Frame) : Type 0 where
  at_entry : frame.place ≡ entry_of image frame.operation → frame.armed ≡ 0 → RestartPoint image frame
  at_abort : frame.place ≡ (section_of_operation image frame.operation).abort → frame.armed ≡ 0 → RestartPoint image frame
  at_start : frame.place ≡ (section_of_operation image frame.operation).start → frame.armed ≡ descriptor_of_operation frame.operation → RestartPoint image frame

-- A thread stands in its section, some words done, on the CPU that it read, and knows what those words read there.
pub record Midway (packets : ℕ) (image : Image) (c : ℕ) (cpu : Cpu) (next : List ℕ) (thread : Thread) : Type 0 where
  pub words_done : ℕ
  pub place : (top_frame thread).place ≡ (section_of_operation image (top_frame thread).operation).start + 4 * words_done
  pub armed : (top_frame thread).armed ≡ descriptor_of_operation (top_frame thread).operation
  pub on_cpu : thread.q ≡ c
  pub known : Known packets cpu next thread (top_frame thread).operation words_done

-- How a CPU stands: without a thread, with a thread that has nothing to do, with one at a restart point, or with one midway.
-- Only midway there may be patience.
pub data Standing (core : Core) (patience c : ℕ) : Type 0 where
  idle : (cpu_at core c).current ≡ None → patience ≡ 0 → Standing core patience c
  resting : (t : ℕ) → (cpu_at core c).current ≡ Some t → (thread_at core t).depth ≡ 0 → patience ≡ 0 → Standing core patience c
  restarting : (t : ℕ) → (cpu_at core c).current ≡ Some t → 0 < (thread_at core t).depth → RestartPoint core.image (top_frame (thread_at core t)) → patience ≡ 0 → Standing core patience c
  midway : (t : ℕ) → (cpu_at core c).current ≡ Some t → 0 < (thread_at core t).depth → Midway core.sizes.packets core.image c (cpu_at core c) core.next (thread_at core t) → Standing core patience c

-- A thread's frames are the operations that wait in it, and all but the top one stand at restart points.
pub record ThreadStands (sizes : Sizes) (image : Image) (waiting : List Waiting) (thread : Thread) : Type 0 where
  pub whole : Whole thread
  pub waits : map (λ (frame : Frame). frame.operation) (frames_of thread) ≡ map (λ (w : Waiting). w.operation) waiting
  pub valid : AllByRecursion (λ (frame : Frame). Valid sizes frame.operation) (frames_of thread)
  pub below : AllByRecursion (RestartPoint image) (frames_of (dropped thread))

pub record WithinLimits (sizes : Sizes) : Type 0 where
  pub some_cpus : 1 ≤ sizes.cpus
  pub cpus : sizes.cpus ≤ 8
  pub threads : sizes.threads ≤ 16
  pub nodes : sizes.nodes ≤ 255
  pub packets : sizes.packets ≤ 15
  pub counters : sizes.counters ≤ 8

pub record Invariant (l : Ledger) (m : Meaning) (core : Core) : Type 0 where
  pub limits : WithinLimits core.sizes
  pub text : TextStands core.image
  pub sections : (d : ℕ) → m.section d ≡ section_at core.image.sections d
  pub eight_cpus : length core.cpus ≡ 8
  pub sixteen_threads : length core.threads ≡ 16
  pub next_words : length core.next ≡ 256
  pub holds : (c : ℕ) → c < core.sizes.cpus → Holds core.sizes (l.counters c) (l.lists c) (l.rings c) (cpu_at core c) core.next
  pub hands : (t : ℕ) → t < core.sizes.threads → (thread_at core t).hand ≡ l.hands t
  pub current : (c : ℕ) → (cpu_at core c).current ≡ l.current c
  pub current_exists : (c t : ℕ) → l.current c ≡ Some t → (c < core.sizes.cpus) × (t < core.sizes.threads)
  pub on_one_cpu : (c other t : ℕ) → l.current c ≡ Some t → l.current other ≡ Some t → c ≡ other
  pub threads : (t : ℕ) → t < core.sizes.threads → ThreadStands core.sizes core.image (l.waiting t) (thread_at core t)
  pub nowhere_else : (t : ℕ) → core.sizes.threads ≤ t → l.waiting t ≡ []
  pub nodes : (node : ℕ) → found core.sizes l node ≡ cond (leb 1 node && leb node core.sizes.nodes) 1 0
  pub standing : (c : ℕ) → c < core.sizes.cpus → Standing core (m.patience c) c
  pub off_cpu : (t : ℕ) → t < core.sizes.threads → ((c : ℕ) → l.current c ≡ Some t → ⊥) → AllByRecursion (RestartPoint core.image) (frames_of (thread_at core t))

-- A thread and a CPU that the machine has are there when they are written.
pub thread_written : {l : Ledger} {m : Meaning} {core : Core} {t : ℕ} → Invariant l m core → t < core.sizes.threads → (thread : Thread) → get_or (set core.threads t thread) t no_thread ≡ thread
thread_written {core = core} {t} inv exists thread = get_or-set_same core.threads t thread no_thread (omega (arith, exists, inv.limits.threads, inv.sixteen_threads))

pub cpu_written : {l : Ledger} {m : Meaning} {core : Core} {c : ℕ} → Invariant l m core → c < core.sizes.cpus → (cpu : Cpu) → get_or (set core.cpus c cpu) c no_cpu ≡ cpu
cpu_written {core = core} {c} inv exists cpu = get_or-set_same core.cpus c cpu no_cpu (omega (arith, exists, inv.limits.cpus, inv.eight_cpus))

-- How a CPU stands whose thread has an operation.
pub data StandsThere (m : Meaning) (core : Core) (c t : ℕ) : Type 0 where
  restarts_there : RestartPoint core.image (top_frame (thread_at core t)) → m.patience c ≡ 0 → StandsThere m core c t
  midway_there : Midway core.sizes.packets core.image c (cpu_at core c) core.next (thread_at core t) → StandsThere m core c t

pub stands_there : (l : Ledger) (m : Meaning) (core : Core) (c t : ℕ) → Invariant l m core → l.current c ≡ Some t → 0 < (thread_at core t).depth → StandsThere m core c t
stands_there l m core c t inv on some = go (inv.standing c (inv.current_exists c t on).0)
  where
    same_thread : (s : ℕ) → (cpu_at core c).current ≡ Some s → s ≡ t
    same_thread s there = same_Some _ _ (sym there ∙ inv.current c ∙ on)

    go : Standing core (m.patience c) c → StandsThere m core c t
    go (idle none calm) = absurd (none-some t (sym none ∙ inv.current c ∙ on))
    go (resting s there rests calm) = let e = ap (λ x. (thread_at core x).depth) (same_thread s there) in absurd (omega (arith, some))
    go (restarting s there more point calm) = restarts_there (subst (λ x. RestartPoint core.image (top_frame (thread_at core x))) (same_thread s there) point) calm
    go (midway s there more at) = midway_there (subst (λ x. Midway core.sizes.packets core.image c (cpu_at core c) core.next (thread_at core x)) (same_thread s there) at)
