-- One instruction keeps what holds of every machine with a past, and brings the operation nearer to its end.
use Rattle.std.proofs.Common.{◌≡◌, ℕ, zero, suc, ◌+◌, ◌-◌, ◌*◌, ◌%◌, ◌^◌, ◌<◌, ◌≤◌, cond, ◌&&◌, eqb, leb, ◌⊎◌, List, [], ◌∷◌, map, length, get_or, set, Some, None, Option, sym, refl, ap, ◌∙◌, subst, inl, inr, ⊎_elim, mod-eq_of_lt, arith, length-set, get_or-set_other}
use lib.Seq.{set-get_or}
use Rattle.std.proofs.lemmas.Bool.{cond-false, eq-eqb, ne_eqb, cases_lt, and_parts, leb-true, true_from_ne_false}
use Rattle.std.specs.List.{AllByRecursion}
use Rattle.words.specs.declared.Word.{Word}
use Rattle.words.specs.declared.Word.TheVariants.{Enter, ReadCpu, Restart}
use Rattle.exclusion.specs.declared.meaning.Notice.{Notice}
use Rattle.exclusion.specs.Meaning.{Meaning, PatienceBecomes, Obeys}
use Rattle.image.specs.Layout.{Inside}
use Rattle.model.specs.declared.state.Operation.{Operation}
use Rattle.model.specs.declared.state.Operation.TheVariants.{Add, Push, Pop, Put, Take}
use Rattle.model.specs.declared.state.Answer.{Answer}
use Rattle.model.specs.declared.state.Frame.{Frame}
use Rattle.model.specs.declared.state.Thread.{Thread}
use Rattle.model.specs.declared.state.Cpu.{Cpu}
use Rattle.model.specs.declared.state.Image.{Image}
use Rattle.model.specs.declared.state.Core.{Core}
use Rattle.model.specs.declared.state.Settling.{Settling}
use Rattle.model.specs.State.{no_cpu, core_next, put_cpu, put_thread, thread_at, cpu_at, top_frame, dropped, descriptor_of_operation}
use Rattle.model.specs.Words.{Effect, Performed, progress, notice_of, settled_as, performed}
use Rattle.model.specs.Ledger.{Ledger, Waiting, Fed, updated, with_waiting, does_whole, settle_top, settle_on}
use Rattle.model.specs.Claims.{among, found}
use Rattle.lives.proofs.Nodes.{updated_here, settled_nodes, hand_found, hand_not_listed}
use Rattle.lives.proofs.Stacks.{frames_top}
use Rattle.lives.proofs.Midway.{words_of, word_number, Known, Holds, Valid, ByAnswer, OnlyTheHandsNode, GoesOn, SettlesAs, step_of, does_right}
use Rattle.lives.proofs.Standing.{TextStands, RestartPoint, at_entry, at_abort, at_start, Midway, Standing, resting, restarting, midway, ThreadStands, Invariant, StandsThere, restarts_there, midway_there, stands_there, cpu_written, thread_written}
use Rattle.lives.proofs.Keeping.{once_at_most, Change, after_change, kept}
use Rattle.lives.proofs.Threads.{TopBecomes, top_is, topped, all_top, top_waits, dropped_stands, dropped_restarts}
use Rattle.lives.proofs.Wholes.{same_ledger, whole_elsewhere, settled_elsewhere}
use Rattle.lives.specs.Apart.{frames_of, section_of_operation, entry_of, does, word_here, performed_as}

-- What becomes of an exclusion's meaning that is told something or nothing.
abbrev pub Becomes : Meaning → Option Notice → Meaning → Type 0
Becomes m None n = n ≡ m
Becomes m (Some notice) n = Obeys m notice n

-- How many bytes of text are still to run until the operation's end, if it is not sent back.
abbrev pub to_go : Image → Frame → ℕ
to_go image frame =
    cond (eqb frame.place (section_of_operation image frame.operation).abort) (4 * length (words_of frame.operation) + 8)
    ((section_of_operation image frame.operation).start + 4 * length (words_of frame.operation) - frame.place)

-- What holds of the words of every operation.
pub first_word : (operation : Operation) → word_number operation 0 ≡ ReadCpu
first_word (Add counter amount) = refl
first_word Push = refl
first_word Pop = refl
first_word (Put amount) = refl
first_word Take = refl

pub few_words : (operation : Operation) → (2 ≤ length (words_of operation)) × (length (words_of operation) ≤ 6)
few_words (Add counter amount) = (omega arith, omega arith)
few_words Push = (omega arith, omega arith)
few_words Pop = (omega arith, omega arith)
few_words (Put amount) = (omega arith, omega arith)
few_words Take = (omega arith, omega arith)

known_first : (packets : ℕ) (cpu : Cpu) (next : List ℕ) (thread : Thread) (operation : Operation) → Known packets cpu next thread operation 1
known_first packets cpu next thread (Add counter amount) = tt
known_first packets cpu next thread Push = tt
known_first packets cpu next thread Pop = tt
known_first packets cpu next thread (Put amount) = tt
known_first packets cpu next thread Take = tt

-- Midway is behind the first word and before the end, and words there tell that a section goes on or is left.
abbrev Within : Operation → ℕ → Type 0
Within operation i = (1 ≤ i) × (i < length (words_of operation)) × ((c d : ℕ) (a : Option Answer) → notice_of c d a (word_number operation i) ≡ progress c a)

module _ (packets : ℕ) (cpu : Cpu) (next : List ℕ) (thread : Thread) where
  pub known_within : (operation : Operation) (i : ℕ) → Known packets cpu next thread operation i → Within operation i
  known_within (Add counter amount) zero known = absurd known
  known_within (Add counter amount) (suc zero) known = (omega arith, omega arith, λ c d a. refl)
  known_within (Add counter amount) (suc (suc zero)) known = (omega arith, omega arith, λ c d a. refl)
  known_within (Add counter amount) (suc (suc (suc zero))) known = (omega arith, omega arith, λ c d a. refl)
  known_within (Add counter amount) (suc (suc (suc (suc i)))) known = absurd known
  known_within Push zero known = absurd known
  known_within Push (suc zero) known = (omega arith, omega arith, λ c d a. refl)
  known_within Push (suc (suc zero)) known = (omega arith, omega arith, λ c d a. refl)
  known_within Push (suc (suc (suc zero))) known = (omega arith, omega arith, λ c d a. refl)
  known_within Push (suc (suc (suc (suc zero)))) known = (omega arith, omega arith, λ c d a. refl)
  known_within Push (suc (suc (suc (suc (suc i))))) known = absurd known
  known_within Pop zero known = absurd known
  known_within Pop (suc zero) known = (omega arith, omega arith, λ c d a. refl)
  known_within Pop (suc (suc zero)) known = (omega arith, omega arith, λ c d a. refl)
  known_within Pop (suc (suc (suc zero))) known = (omega arith, omega arith, λ c d a. refl)
  known_within Pop (suc (suc (suc (suc zero)))) known = (omega arith, omega arith, λ c d a. refl)
  known_within Pop (suc (suc (suc (suc (suc zero))))) known = (omega arith, omega arith, λ c d a. refl)
  known_within Pop (suc (suc (suc (suc (suc (suc i)))))) known = absurd known
  known_within (Put amount) zero known = absurd known
  known_within (Put amount) (suc zero) known = (omega arith, omega arith, λ c d a. refl)
  known_within (Put amount) (suc (suc zero)) known = (omega arith, omega arith, λ c d a. refl)
  known_within (Put amount) (suc (suc (suc zero))) known = (omega arith, omega arith, λ c d a. refl)
  known_within (Put amount) (suc (suc (suc (suc zero)))) known = (omega arith, omega arith, λ c d a. refl)
  known_within (Put amount) (suc (suc (suc (suc (suc zero))))) known = (omega arith, omega arith, λ c d a. refl)
  known_within (Put amount) (suc (suc (suc (suc (suc (suc i)))))) known = absurd known
  known_within Take zero known = absurd known
  known_within Take (suc zero) known = (omega arith, omega arith, λ c d a. refl)
  known_within Take (suc (suc zero)) known = (omega arith, omega arith, λ c d a. refl)
  known_within Take (suc (suc (suc zero))) known = (omega arith, omega arith, λ c d a. refl)
  known_within Take (suc (suc (suc (suc zero)))) known = (omega arith, omega arith, λ c d a. refl)
  known_within Take (suc (suc (suc (suc (suc zero))))) known = (omega arith, omega arith, λ c d a. refl)
  known_within Take (suc (suc (suc (suc (suc (suc i)))))) known = absurd known

-- Where the parts of a routine lie, and how far they are from the end.
module _ (image : Image) (text : TextStands image) (operation : Operation) where
  abbrev start : ℕ
  start = (section_of_operation image operation).start

  abbrev long : ℕ
  long = length (words_of operation)

  pub inside_section : (i : ℕ) → i < long → Inside (section_of_operation image operation) (start + 4 * i)
  inside_section i below = (omega arith, omega (arith, text.long_as_its_words operation))

  section_not_abort : (i : ℕ) → i < long → start + 4 * i ≡ (section_of_operation image operation).abort → ⊥
  section_not_abort i below same = text.abort_outside operation (descriptor_of_operation operation) (subst (Inside (section_of_operation image operation)) same (inside_section i below))

  entry_not_abort : entry_of image operation ≡ (section_of_operation image operation).abort → ⊥
  entry_not_abort same =
      let clash : Some Enter ≡ Some Restart = sym (text.entry_word operation) ∙ ap (word_here image) same ∙ text.abort_word operation in
      cc

  abbrev pub from : ℕ → ℕ
  from place = cond (eqb place (section_of_operation image operation).abort) (4 * long + 8) (start + 4 * long - place)

  pub from_abort : from (section_of_operation image operation).abort ≡ 4 * long + 8
  from_abort = ap (λ b. cond b (4 * long + 8) (start + 4 * long - (section_of_operation image operation).abort)) (eq-eqb _ _ refl)

  pub from_entry : from (entry_of image operation) ≡ 4 * long + 4
  from_entry = ap (λ b. cond b (4 * long + 8) (start + 4 * long - entry_of image operation)) (ne_eqb _ _ entry_not_abort) ∙ omega (arith, text.entry_before operation)

  pub from_section : (i : ℕ) → i < long → from (start + 4 * i) ≡ 4 * (long - i)
  from_section i below = ap (λ b. cond b (4 * long + 8) (start + 4 * long - (start + 4 * i))) (ne_eqb _ _ (section_not_abort i below)) ∙ omega arith

  pub onward_in_section : (i : ℕ) → i < long → (start + 4 * i + 4) % 2 ^ 64 ≡ start + 4 * suc i
  onward_in_section i below = let p = text.section_possible operation i below in mod-eq_of_lt (omega (arith, p.1, p.2)) ∙ omega arith

abbrev pub BySettled : Option Settling → Type 0 → (Settling → Type 0) → Type 0
BySettled None quiet settled = quiet
BySettled (Some settling) quiet settled = settled settling

module _ (l : Ledger) (m : Meaning) (core : Core) (c t : ℕ) (inv : Invariant l m core) (on : l.current c ≡ Some t) (some : 0 < (thread_at core t).depth) where
  abbrev thread : Thread
  thread = thread_at core t

  abbrev operation : Operation
  operation = (top_frame thread).operation

  abbrev descriptor : ℕ
  descriptor = descriptor_of_operation operation

  c_exists : c < core.sizes.cpus
  c_exists = (inv.current_exists c t on).0

  t_exists : t < core.sizes.threads
  t_exists = (inv.current_exists c t on).1

  stands : ThreadStands core.sizes core.image (l.waiting t) thread
  stands = inv.threads t t_exists

  -- An instruction that settles nothing: all is kept, and the operation is one word nearer to its end.
  pub record Quiet (n : Meaning) (later : Core) : Type 0 where
    pub invariant : Invariant l n later
    pub still : 0 < (thread_at later t).depth
    pub patience_else : (other : ℕ) → (other ≡ c → ⊥) → n.patience other ≡ m.patience other
    pub nearer : to_go core.image (top_frame (thread_at later t)) + 4 ≡ to_go core.image (top_frame thread)

  -- One that settles: the ledger does the operation whole and gives the same settling, and no patience is left.
  pub record Settled (n : Meaning) (later : Core) (s : Settling) : Type 0 where
    pub invariant : Invariant (settle_on core.sizes.packets l c (l.current c)).ledger n later
    pub settling : (settle_on core.sizes.packets l c (l.current c)).settling ≡ Some s
    pub calm : n.patience c ≡ 0
    pub patience_else : (other : ℕ) → (other ≡ c → ⊥) → n.patience other ≡ m.patience other

  abbrev pub Right : Meaning → Performed → Type 0
  Right n p = Becomes m p.notice n → BySettled p.settling (Quiet n p.core) (Settled n p.core)

  -- The thread's top frame becomes another, and the CPU's structures change as they may.
  pub top_changed : (n : Meaning) (th : Thread) (cpus : List Cpu) (next : List ℕ) (frame : Frame) → length cpus ≡ 8 → ((other : ℕ) → (other ≡ c → ⊥) → get_or cpus other no_cpu ≡ cpu_at core other)
      → (get_or cpus c no_cpu).current ≡ (cpu_at core c).current → Holds core.sizes (l.counters c) (l.lists c) (l.rings c) (get_or cpus c no_cpu) next → length next ≡ length core.next
      → OnlyTheHandsNode (l.hands t) core.next next → TopBecomes thread frame th → frame.operation ≡ operation → th.hand ≡ thread.hand → ((d : ℕ) → n.section d ≡ m.section d)
      → ((other : ℕ) → (other ≡ c → ⊥) → n.patience other ≡ m.patience other)
      → (RestartPoint core.image frame × (n.patience c ≡ 0)) ⊎ Midway core.sizes.packets core.image c (get_or cpus c no_cpu) next th → Invariant l n (after_change l l m n core c t th cpus next)
  top_changed n th cpus next frame eight else_cpus same_current holds nexts next_else becomes same_operation hand sections patience_else where_to = kept l l m n core c t th cpus next change
    where
      here : thread_at (after_change l l m n core c t th cpus next) t ≡ th
      here = thread_written inv t_exists th

      top : top_frame th ≡ frame
      top = top_is thread th frame stands.whole some becomes

      still : 0 < (thread_at (after_change l l m n core c t th cpus next) t).depth
      still = subst (λ (x : Thread). 0 < x.depth) (sym here) (omega (arith, becomes.depth))

      current : (cpu_at (after_change l l m n core c t th cpus next) c).current ≡ Some t
      current = same_current ∙ inv.current c ∙ on

      standing : Standing (after_change l l m n core c t th cpus next) (n.patience c) c
      standing =
          ⊎_elim
          (λ (p : RestartPoint core.image frame × (n.patience c ≡ 0)).
          restarting t current still (subst (λ (x : Thread). RestartPoint core.image (top_frame x)) (sym here) (subst (RestartPoint core.image) (sym top) p.0)) p.1)
          (λ (p : Midway core.sizes.packets core.image c (get_or cpus c no_cpu) next th). midway t current still (subst (Midway core.sizes.packets core.image c (get_or cpus c no_cpu) next) (sym here) p)) where_to

      change : Change l l m n core c t th cpus next
      change = record {
        invariant = inv;
        on = on;
        eight_cpus = eight;
        cpus_else = else_cpus;
        same_current = same_current;
        ledger_else = same_ledger core.sizes.packets l t c;
        holds = holds;
        hand = hand ∙ inv.hands t t_exists;
        nexts = nexts;
        next_else = next_else;
        thread = topped thread th frame stands.whole some becomes core.sizes core.image (l.waiting t) same_operation stands;
        nodes = λ node. refl;
        sections = sections;
        patience_else = patience_else;
        standing = standing;
      }

  -- A word that settles nothing.
  went : (n : Meaning) (th : Thread) (cpus : List Cpu) (next : List ℕ) (frame : Frame) → TopBecomes thread frame th → Invariant l n (after_change l l m n core c t th cpus next)
      → ((other : ℕ) → (other ≡ c → ⊥) → n.patience other ≡ m.patience other) → to_go core.image frame + 4 ≡ to_go core.image (top_frame thread) → Quiet n (after_change l l m n core c t th cpus next)
  went n th cpus next frame becomes invariant patience_else nearer = record {
    invariant = invariant;
    still = subst (λ (x : Thread). 0 < x.depth) (sym (thread_written inv t_exists th)) (omega (arith, becomes.depth));
    patience_else = patience_else;
    nearer = ap (λ x. to_go core.image (top_frame x) + 4) (thread_written inv t_exists th) ∙ ap (λ f. to_go core.image f + 4) (top_is thread th frame stands.whole some becomes) ∙ nearer;
  }

  -- One that changes only the thread: the structures of CPU q are put back as they were.
  moved : (n : Meaning) (th : Thread) (q : ℕ) (frame : Frame) → TopBecomes thread frame th → frame.operation ≡ operation → th.hand ≡ thread.hand → ((d : ℕ) → n.section d ≡ m.section d)
      → ((other : ℕ) → (other ≡ c → ⊥) → n.patience other ≡ m.patience other)
      → (RestartPoint core.image frame × (n.patience c ≡ 0)) ⊎ Midway core.sizes.packets core.image c (cpu_at core c) core.next th → to_go core.image frame + 4 ≡ to_go core.image (top_frame thread)
      → Quiet n (after_change l l m n core c t th (set core.cpus q (cpu_at core q)) core.next)
  moved n th q frame becomes same_operation hand sections patience_else where_to nearer =
      subst (λ cpus. Quiet n (after_change l l m n core c t th cpus core.next)) (sym (set-get_or core.cpus q no_cpu))
      (went n th core.cpus core.next frame becomes
      (top_changed n th core.cpus core.next frame inv.eight_cpus (λ other differs. refl) refl (inv.holds c c_exists) refl (λ node ne. refl) becomes same_operation hand sections patience_else where_to) patience_else nearer)

  -- The instruction with the word at hand, on the structures of CPU q.
  abbrev effect_on : ℕ → Word → Effect
  effect_on q w = does core.sizes.packets core.image c thread (cpu_at core q) core.next operation w

  abbrev performed_on : ℕ → Word → Performed
  performed_on q w = record {
    core = core_next (put_cpu (put_thread core t (effect_on q w).thread) q (effect_on q w).cpu) (effect_on q w).next;
    notice = notice_of c descriptor (effect_on q w).answer w;
    settling = settled_as t operation c (effect_on q w).answer;
  }

  by_word : (n : Meaning) (w : Word) → word_here core.image (top_frame thread).place ≡ Some w → Right n (performed_on thread.q w) → Right n (performed core c t)
  by_word n w is right = subst (λ o. Right n (performed_as core c t o operation)) (sym is) right

  -- At the entry, at the abort, and at the start.
  abbrev frame_at : ℕ → ℕ → Frame
  frame_at place armed = record { operation = operation; place = place; armed = armed }

  enters : (n : Meaning) → (top_frame thread).place ≡ entry_of core.image operation → m.patience c ≡ 0 → Right n (performed core c t)
  enters n at calm =
      by_word n Enter (ap (word_here core.image) at ∙ inv.text.entry_word operation)
      (λ same.
      moved n _ thread.q (frame_at (section_of_operation core.image operation).start descriptor) (record { frames = refl; depth = refl }) refl refl (λ d. ap (λ (x : Meaning). x.section d) same)
      (λ other differs. ap (λ (x : Meaning). x.patience other) same) (inl (at_start refl refl, ap (λ (x : Meaning). x.patience c) same ∙ calm))
      (let z : (section_of_operation core.image operation).start + 4 * 0 ≡ (section_of_operation core.image operation).start = omega arith in
      ap (λ p. from core.image inv.text operation p + 4) (sym z) ∙ ap (λ b. b + 4) (from_section core.image inv.text operation 0 (omega (arith, (few_words operation).0))) ∙ omega arith
      ∙ sym (from_entry core.image inv.text operation) ∙ ap (from core.image inv.text operation) (sym at)))

  restarts : (n : Meaning) → (top_frame thread).place ≡ (section_of_operation core.image operation).abort → (top_frame thread).armed ≡ 0 → m.patience c ≡ 0 → Right n (performed core c t)
  restarts n at unarmed calm =
      by_word n Restart (ap (word_here core.image) at ∙ inv.text.abort_word operation)
      (λ same.
      moved n _ thread.q (frame_at (entry_of core.image operation) (top_frame thread).armed) (record { frames = refl; depth = refl }) refl refl (λ d. ap (λ (x : Meaning). x.section d) same)
      (λ other differs. ap (λ (x : Meaning). x.patience other) same) (inl (at_entry refl unarmed, ap (λ (x : Meaning). x.patience c) same ∙ calm))
      (ap (λ b. b + 4) (from_entry core.image inv.text operation) ∙ omega arith ∙ sym (from_abort core.image inv.text operation) ∙ ap (from core.image inv.text operation) (sym at)))

  reads_cpu : (n : Meaning) → (top_frame thread).place ≡ (section_of_operation core.image operation).start → (top_frame thread).armed ≡ descriptor → Right n (performed core c t)
  reads_cpu n at armed =
      let some_words : 0 < length (words_of operation) = omega (arith, (few_words operation).0) in
      let first : (section_of_operation core.image operation).start + 4 * 0 ≡ (section_of_operation core.image operation).start = omega arith in
      let moves : ((top_frame thread).place + 4) % 2 ^ 64 ≡ (section_of_operation core.image operation).start + 4 * 1 =
      ap (λ p. (p + 4) % 2 ^ 64) (at ∙ sym first) ∙ onward_in_section core.image inv.text operation 0 some_words in
      by_word n ReadCpu (ap (word_here core.image) (at ∙ sym first) ∙ inv.text.section_word operation 0 some_words ∙ ap Some (first_word operation))
      (λ told.
      let becomes : TopBecomes thread (frame_at (((top_frame thread).place + 4) % 2 ^ 64) (top_frame thread).armed) (effect_on thread.q ReadCpu).thread = record { frames = refl; depth = refl } in
      let top = top_is thread (effect_on thread.q ReadCpu).thread (frame_at (((top_frame thread).place + 4) % 2 ^ 64) (top_frame thread).armed) stands.whole some becomes in
      moved n _ thread.q (frame_at (((top_frame thread).place + 4) % 2 ^ 64) (top_frame thread).armed) becomes refl refl told.2.sections_stay told.2.elsewhere
      (inr (record {
        words_done = 1;
        place = ap (λ (f : Frame). f.place) top ∙ moves ∙ ap (λ (f : Frame). (section_of_operation core.image f.operation).start + 4 * 1) (sym top);
        armed = ap (λ (f : Frame). f.armed) top ∙ armed ∙ ap (λ (f : Frame). descriptor_of_operation f.operation) (sym top);
        on_cpu = refl;
        known = known_first core.sizes.packets (cpu_at core c) core.next (effect_on thread.q ReadCpu).thread _;
      }))
      (ap (λ p. from core.image inv.text operation p + 4) moves ∙ ap (λ b. b + 4) (from_section core.image inv.text operation 1 (omega (arith, (few_words operation).0)))
      ∙ omega (arith, (few_words operation).0) ∙ sym (from_section core.image inv.text operation 0 some_words) ∙ ap (from core.image inv.text operation) (first ∙ sym at)))

  -- Midway, by the word that follows: the effect on the CPU's own structures.
  abbrev step_at : ℕ → Effect
  step_at i = step_of core l c t thread (cpu_at core c) core.next operation i

  abbrev cpus_at : ℕ → List Cpu
  cpus_at i = set core.cpus c (step_at i).cpu

  cpu_there : (i : ℕ) → get_or (cpus_at i) c no_cpu ≡ (step_at i).cpu
  cpu_there i = cpu_written inv c_exists (step_at i).cpu

  goes_right : (n : Meaning) (i : ℕ) (at : Midway core.sizes.packets core.image c (cpu_at core c) core.next thread) → at.words_done ≡ i
      → GoesOn core l c t thread (cpu_at core c) core.next operation i (step_at i) → PatienceBecomes m c (m.patience c - 1) n
      → Quiet n (after_change l l m n core c t (step_at i).thread (cpus_at i) (step_at i).next)
  goes_right n i at done g told =
      went n (step_at i).thread (cpus_at i) (step_at i).next frame becomes
      (top_changed n (step_at i).thread (cpus_at i) (step_at i).next frame (length-set core.cpus c (step_at i).cpu ∙ inv.eight_cpus) (λ other differs. get_or-set_other core.cpus c other (step_at i).cpu no_cpu differs)
      (ap (λ (x : Cpu). x.current) (cpu_there i) ∙ g.current) (subst (λ x. Holds core.sizes (l.counters c) (l.lists c) (l.rings c) x (step_at i).next) (sym (cpu_there i)) g.holds) g.nexts
      (subst (λ h. OnlyTheHandsNode h core.next (step_at i).next) (inv.hands t t_exists) g.next_else) becomes refl g.hand told.sections_stay told.elsewhere
      (inr (record {
        words_done = suc i;
        place = ap (λ (f : Frame). f.place) top ∙ moves ∙ ap (λ (f : Frame). (section_of_operation core.image f.operation).start + 4 * suc i) (sym top);
        armed = ap (λ (f : Frame). f.armed) top ∙ at.armed ∙ ap (λ (f : Frame). descriptor_of_operation f.operation) (sym top);
        on_cpu = g.q ∙ at.on_cpu;
        known =
            subst (λ x. Known core.sizes.packets x (step_at i).next (step_at i).thread (top_frame (step_at i).thread).operation (suc i)) (sym (cpu_there i))
            (subst (λ (f : Frame). Known core.sizes.packets (step_at i).cpu (step_at i).next (step_at i).thread f.operation (suc i)) (sym top) g.known);
      }))) told.elsewhere nearer
    where
      frame : Frame
      frame = frame_at (((top_frame thread).place + 4) % 2 ^ 64) (top_frame thread).armed

      becomes : TopBecomes thread (frame_at (((top_frame thread).place + 4) % 2 ^ 64) (top_frame thread).armed) (step_at i).thread
      becomes = record { frames = g.frames; depth = g.depth }

      top : top_frame (step_at i).thread ≡ frame_at (((top_frame thread).place + 4) % 2 ^ 64) (top_frame thread).armed
      top = top_is thread (step_at i).thread (frame_at (((top_frame thread).place + 4) % 2 ^ 64) (top_frame thread).armed) stands.whole some becomes

      below : suc i < length (words_of operation)
      below = (known_within core.sizes.packets (step_at i).cpu (step_at i).next (step_at i).thread operation (suc i) g.known).1

      here : (top_frame thread).place ≡ (section_of_operation core.image operation).start + 4 * i
      here = at.place ∙ ap (λ j. (section_of_operation core.image operation).start + 4 * j) done

      moves : ((top_frame thread).place + 4) % 2 ^ 64 ≡ (section_of_operation core.image operation).start + 4 * suc i
      moves = ap (λ p. (p + 4) % 2 ^ 64) here ∙ onward_in_section core.image inv.text operation i (omega (arith, below))

      nearer : to_go core.image (frame_at (((top_frame thread).place + 4) % 2 ^ 64) (top_frame thread).armed) + 4 ≡ to_go core.image (top_frame thread)
      nearer =
          ap (λ p. from core.image inv.text operation p + 4) moves ∙ ap (λ b. b + 4) (from_section core.image inv.text operation (suc i) below) ∙ omega (arith, below)
          ∙ sym (from_section core.image inv.text operation i (omega (arith, below))) ∙ ap (from core.image inv.text operation) (sym here)

  -- The word settles: the operation is the top one that waits, and the ledger does it whole.
  abbrev ledger_after : List Waiting → Operation → Ledger
  ledger_after rest o = with_waiting (does_whole core.sizes.packets l t c o).ledger (updated (does_whole core.sizes.packets l t c o).ledger.waiting t rest)

  abbrev settling_as : Operation → Answer → Settling
  settling_as o answer = record { thread = t; operation = o; cpu = c; answer = answer }

  nothing_waits : {P : Type 0} → l.waiting t ≡ [] → P
  nothing_waits none =
      let clash : operation ∷ map (λ (f : Frame). f.operation) (frames_of (dropped thread)) ≡ [] =
      sym (ap (map (λ (f : Frame). f.operation)) (frames_top thread stands.whole some)) ∙ stands.waits ∙ ap (map (λ (w : Waiting). w.operation)) none in
      cc

  settles_right : (n : Meaning) (i : ℕ) (answer : Answer) → SettlesAs core l c t thread (cpu_at core c) core.next (does_whole core.sizes.packets l t c operation) (step_at i) answer → PatienceBecomes m c 0 n
      → (ws : List Waiting) → l.waiting t ≡ ws → (k : Ledger) → Settled n (after_change l k m n core c t (step_at i).thread (cpus_at i) (step_at i).next) (settling_as operation answer)
  settles_right n i answer s told [] waits k = nothing_waits waits
  settles_right n i answer s told (top ∷ rest) waits k = record {
    invariant = subst (λ x. Invariant x n later) (sym (ap (λ (f : Fed). f.ledger) fed ∙ ap (ledger_after rest) (sym same))) (kept l (ledger_after rest operation) m n core c t (step_at i).thread (cpus_at i) (step_at i).next change);
    settling = ap (λ (f : Fed). f.settling) fed ∙ ap (λ o. Some (settling_as o (does_whole core.sizes.packets l t c o).answer)) (sym same) ∙ ap (λ a. Some (settling_as operation a)) (sym s.same_answer);
    calm = calm;
    patience_else = told.elsewhere;
  }
    where
      stands_so : ThreadStands core.sizes core.image (top ∷ rest) thread
      stands_so = subst (λ ws. ThreadStands core.sizes core.image ws thread) waits stands

      same : operation ≡ top.operation
      same = top_waits core.sizes core.image top rest thread (step_at i).thread stands_so some s.frames s.depth

      fed : settle_on core.sizes.packets l c (l.current c) ≡ settle_top core.sizes.packets l t c (top ∷ rest)
      fed = ap (settle_on core.sizes.packets l c) on ∙ ap (settle_top core.sizes.packets l t c) waits

      calm : n.patience c ≡ 0
      calm = told.there (omega (arith, c_exists, inv.limits.cpus))

      later : Core
      later = after_change l (ledger_after rest operation) m n core c t (step_at i).thread (cpus_at i) (step_at i).next

      thread_later : ThreadStands core.sizes core.image rest (step_at i).thread
      thread_later = dropped_stands core.sizes core.image top rest thread (step_at i).thread stands_so some s.frames s.depth

      restart : AllByRecursion (RestartPoint core.image) (frames_of (step_at i).thread)
      restart = dropped_restarts core.sizes core.image top rest thread (step_at i).thread stands_so some s.frames s.depth

      here : thread_at (after_change l (ledger_after rest operation) m n core c t (step_at i).thread (cpus_at i) (step_at i).next) t ≡ (step_at i).thread
      here = thread_written inv t_exists (step_at i).thread

      same_current : (get_or (cpus_at i) c no_cpu).current ≡ (cpu_at core c).current
      same_current = ap (λ (x : Cpu). x.current) (cpu_there i) ∙ s.current

      standing : Standing (after_change l (ledger_after rest operation) m n core c t (step_at i).thread (cpus_at i) (step_at i).next) (n.patience c) c
      standing =
          ⊎_elim (λ (none : (step_at i).thread.depth < 1). resting t (same_current ∙ inv.current c ∙ on) (ap (λ (x : Thread). x.depth) here ∙ omega arith) calm)
          (λ (more : 1 ≤ (step_at i).thread.depth).
          restarting t (same_current ∙ inv.current c ∙ on) (subst (λ (x : Thread). 0 < x.depth) (sym here) more)
          (subst (λ (x : Thread). RestartPoint core.image (top_frame x)) (sym here) (all_top (RestartPoint core.image) (step_at i).thread thread_later.whole more restart)) calm)
          (cases_lt (step_at i).thread.depth 1)

      change : Change l (ledger_after rest operation) m n core c t (step_at i).thread (cpus_at i) (step_at i).next
      change = record {
        invariant = inv;
        on = on;
        eight_cpus = length-set core.cpus c (step_at i).cpu ∙ inv.eight_cpus;
        cpus_else = λ other differs. get_or-set_other core.cpus c other (step_at i).cpu no_cpu differs;
        same_current = same_current;
        ledger_else = settled_elsewhere core.sizes.packets l t c (does_whole core.sizes.packets l t c operation).ledger rest (whole_elsewhere core.sizes.packets l t c operation);
        holds = subst (λ x. Holds core.sizes ((ledger_after rest operation).counters c) ((ledger_after rest operation).lists c) ((ledger_after rest operation).rings c) x (step_at i).next) (sym (cpu_there i)) s.holds;
        hand = s.hand;
        nexts = s.nexts;
        next_else = subst (λ h. OnlyTheHandsNode h core.next (step_at i).next) (inv.hands t t_exists) s.next_else;
        thread = subst (λ ws. ThreadStands core.sizes core.image ws (step_at i).thread) (sym (updated_here (does_whole core.sizes.packets l t c operation).ledger.waiting t rest)) thread_later;
        nodes = λ node. settled_nodes core.sizes l t c operation node c_exists t_exists;
        sections = told.sections_stay;
        patience_else = told.elsewhere;
        standing = standing;
      }

  -- The node in hand is one of the machine's, and on no list.
  hands_node : (node : ℕ) → l.hands t ≡ Some node → (0 < node) × (node < length core.next) × (among node (l.lists c) ≡ 0)
  hands_node node held =
      let there = hand_found core.sizes l t node t_exists held in
      let known = true_from_ne_false (leb 1 node && leb node core.sizes.nodes) (λ e. let none : found core.sizes l node ≡ 0 = inv.nodes node ∙ cond-false (leb 1 node && leb node core.sizes.nodes) 1 0 e in omega arith) in
      let both = and_parts (leb 1 node) (leb node core.sizes.nodes) known in
      let least = leb-true 1 node both.0 in
      let most = leb-true node core.sizes.nodes both.1 in
      (least, omega (arith, inv.limits.nodes, inv.next_words), hand_not_listed core.sizes l t c node t_exists c_exists (once_at_most l m core inv node) held)

  -- The thread's top operation is one that the machine can have.
  valid_operation : Valid core.sizes operation
  valid_operation = all_top (λ (f : Frame). Valid core.sizes f.operation) thread stands.whole some stands.valid

  by_its_answer : (n : Meaning) (i : ℕ) (at : Midway core.sizes.packets core.image c (cpu_at core c) core.next thread) → at.words_done ≡ i
      → ((d : ℕ) (a : Option Answer) → notice_of c d a (word_number operation i) ≡ progress c a) → (a : Option Answer)
      → ByAnswer a (GoesOn core l c t thread (cpu_at core c) core.next operation i (step_at i)) (SettlesAs core l c t thread (cpu_at core c) core.next (does_whole core.sizes.packets l t c operation) (step_at i))
      → Becomes m (notice_of c descriptor a (word_number operation i)) n
      → BySettled (settled_as t operation c a) (Quiet n (after_change l l m n core c t (step_at i).thread (cpus_at i) (step_at i).next)) (Settled n (after_change l l m n core c t (step_at i).thread (cpus_at i) (step_at i).next))
  by_its_answer n i at done tells None right told = goes_right n i at done right (subst (λ o. Becomes m o n) (tells descriptor None) told)
  by_its_answer n i at done tells (Some answer) right told = settles_right n i answer right (subst (λ o. Becomes m o n) (tells descriptor (Some answer)) told) (l.waiting t) refl l

  midway_right : (n : Meaning) → Midway core.sizes.packets core.image c (cpu_at core c) core.next thread → Right n (performed core c t)
  midway_right n at =
      let within = known_within core.sizes.packets (cpu_at core c) core.next thread operation at.words_done at.known in
      by_word n (word_number operation at.words_done) (ap (word_here core.image) at.place ∙ inv.text.section_word operation at.words_done within.1)
      (subst (λ q. Right n (performed_on q (word_number operation at.words_done))) (sym at.on_cpu)
      (λ told.
      by_its_answer n at.words_done at refl (λ d a. within.2 c d a) (step_at at.words_done).answer
      (does_right core l c t thread (cpu_at core c) core.next (inv.holds c c_exists) (inv.hands t t_exists) inv.limits.counters inv.limits.packets hands_node operation at.words_done valid_operation at.known) told))

  -- Wherever the thread stands.
  pub instructed : (n : Meaning) → Right n (performed core c t)
  instructed n = go (stands_there l m core c t inv on some)
    where
      at_point : RestartPoint core.image (top_frame thread) → m.patience c ≡ 0 → Right n (performed core c t)
      at_point (at_entry at unarmed) calm = enters n at calm
      at_point (at_abort at unarmed) calm = restarts n at unarmed calm
      at_point (at_start at armed) calm = reads_cpu n at armed

      go : StandsThere m core c t → Right n (performed core c t)
      go (restarts_there point calm) = at_point point calm
      go (midway_there at) = midway_right n at
