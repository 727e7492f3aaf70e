-- Disturbing the thread of a CPU: where it is not held it ends at a restart point, and all is kept.
use Rattle.std.proofs.Common.{◌≡◌, ℕ, ◌+◌, ◌*◌, ◌<◌, ◌≤◌, cond, length, Some, None, Option, sym, refl, ap, ◌∙◌, subst, inl, inr, ⊎_elim, arith}
use Rattle.std.proofs.lemmas.Bool.{cases_lt, eq-eqb, ne_eqb}
use Rattle.std.specs.List.{AllByRecursion}
use Rattle.image.specs.declared.layout.Section.{Section}
use Rattle.image.specs.Layout.{Inside}
use Rattle.exclusion.specs.declared.meaning.Verdict.{Verdict}
use Rattle.exclusion.specs.declared.meaning.Verdict.TheVariants.{Back}
use Rattle.exclusion.specs.Meaning.{Meaning, PatienceBecomes, Possible, InNoSection, InArmedAlone, Says, Asked}
use Rattle.exclusion.specs.Parts.{section_at}
use Rattle.model.specs.declared.state.Operation.{Operation}
use Rattle.model.specs.declared.state.Frame.{Frame}
use Rattle.model.specs.declared.state.Thread.{Thread}
use Rattle.model.specs.declared.state.Core.{Core}
use Rattle.model.specs.State.{put_thread, thread_at, cpu_at, top_frame, descriptor_of_operation}
use Rattle.model.specs.Calls.{after_verdict}
use Rattle.model.specs.Ledger.{Ledger}
use Rattle.lives.proofs.Nodes.{here_or_else}
use Rattle.lives.proofs.Midway.{words_of}
use Rattle.lives.proofs.Standing.{RestartPoint, at_entry, at_abort, at_start, Midway, Standing, ThreadStands, Invariant, StandsThere, restarts_there, midway_there, stands_there, thread_written}
use Rattle.lives.proofs.Threads.{TopBecomes, top_is, topped, all_from_top}
use Rattle.lives.proofs.Instructing.{top_changed, few_words, known_within, inside_section}
use Rattle.lives.specs.Apart.{frames_of, section_of_operation}

-- Only the meaning changes, on one CPU.
pub meaning_changed : (l : Ledger) (m n : Meaning) (core : Core) (c : ℕ) → Invariant l m core → ((d : ℕ) → n.section d ≡ m.section d) → ((other : ℕ) → (other ≡ c → ⊥) → n.patience other ≡ m.patience other)
    → Standing core (n.patience c) c → Invariant l n core
meaning_changed l m n core c inv sections patience_else standing = record {
  limits = inv.limits;
  text = inv.text;
  sections = λ d. sections d ∙ inv.sections d;
  eight_cpus = inv.eight_cpus;
  sixteen_threads = inv.sixteen_threads;
  next_words = inv.next_words;
  holds = inv.holds;
  hands = inv.hands;
  current = inv.current;
  current_exists = inv.current_exists;
  on_one_cpu = inv.on_one_cpu;
  threads = inv.threads;
  nowhere_else = inv.nowhere_else;
  nodes = inv.nodes;
  standing = here_or_else (λ x. x < core.sizes.cpus → Standing core (n.patience x) x) c (λ exists. standing)
      (λ x differs exists. subst (λ p. Standing core p x) (sym (patience_else x differs)) (inv.standing x exists));
  off_cpu = inv.off_cpu;
}

-- A question that is not free: in no section, or in the armed section alone, with how the thread stands.
pub data Asks (m : Meaning) (patience armed place : ℕ) : Type 0 where
  outside : Possible place → InNoSection m place → patience ≡ 0 → Asks m patience armed place
  armed_inside : Possible place → InArmedAlone m armed place → Asks m patience armed place

module _ (l : Ledger) (m : Meaning) (core : Core) (c t : ℕ) (inv : Invariant l m core) (on : l.current c ≡ Some t) (some : 0 < (thread_at core t).depth) where
  abbrev thread : Thread
  thread = thread_at core t

  abbrev operation : Operation
  operation = (top_frame thread).operation

  abbrev section : Section
  section = section_of_operation core.image operation

  c_exists : c < core.sizes.cpus
  c_exists = (inv.current_exists c t on).0

  t_exists : t < core.sizes.threads
  t_exists = (inv.current_exists c t on).1

  stands : ThreadStands core.sizes core.image (l.waiting t) thread
  stands = inv.threads t t_exists

  -- The operation's own section is the armed one, and an address of it lies in no other.
  alone : (i : ℕ) → i < length (words_of operation) → (top_frame thread).place ≡ section.start + 4 * i → (top_frame thread).armed ≡ descriptor_of_operation operation
      → InArmedAlone m (top_frame thread).armed (top_frame thread).place
  alone i below place armed =
      let own : m.section (top_frame thread).armed ≡ section = inv.sections (top_frame thread).armed ∙ ap (section_at core.image.sections) armed in
      let there : Inside section (top_frame thread).place = subst (Inside section) (sym place) (inside_section core.image inv.text operation i below) in
      record {
        inside = subst (λ s. Inside s (top_frame thread).place) (sym own) there;
        alone = λ d inside. inv.text.apart d (descriptor_of_operation operation) (top_frame thread).place (subst (λ s. Inside s (top_frame thread).place) (inv.sections d) inside) there ∙ sym armed;
      }

  no_section : (place : ℕ) → ((d : ℕ) → Inside (section_at core.image.sections d) place → ⊥) → InNoSection m place
  no_section place none d inside = none d (subst (λ s. Inside s place) (inv.sections d) inside)

  abbrev AskedHere : Type 0
  AskedHere = Asks m (m.patience c) (top_frame thread).armed (top_frame thread).place

  asked_at : RestartPoint core.image (top_frame thread) → m.patience c ≡ 0 → AskedHere
  asked_at (at_entry place unarmed) calm =
      outside (subst Possible (sym place) (inv.text.entry_possible operation)) (no_section _ (λ d inside. inv.text.entry_outside operation d (subst (Inside (section_at core.image.sections d)) place inside))) calm
  asked_at (at_abort place unarmed) calm =
      outside (subst Possible (sym place) (inv.text.abort_possible operation)) (no_section _ (λ d inside. inv.text.abort_outside operation d (subst (Inside (section_at core.image.sections d)) place inside))) calm
  asked_at (at_start place armed) calm =
      let first : section.start + 4 * 0 ≡ section.start = omega arith in
      let below : 0 < length (words_of operation) = omega (arith, (few_words operation).0) in
      armed_inside (subst Possible (first ∙ sym place) (inv.text.section_possible operation 0 below)) (alone 0 below (place ∙ sym first) armed)

  asked_midway : Midway core.sizes.packets core.image c (cpu_at core c) core.next thread → AskedHere
  asked_midway at =
      let within = known_within core.sizes.packets (cpu_at core c) core.next thread operation at.words_done at.known in
      armed_inside (subst Possible (sym at.place) (inv.text.section_possible operation at.words_done within.1)) (alone at.words_done within.1 at.place at.armed)

  pub asks : AskedHere
  asks = go (stands_there l m core c t inv on some)
    where
      go : StandsThere m core c t → AskedHere
      go (restarts_there point calm) = asked_at point calm
      go (midway_there at) = asked_midway at

  pub asked : Asked m (top_frame thread).armed (top_frame thread).place
  asked = go asks
    where
      go : AskedHere → Asked m (top_frame thread).armed (top_frame thread).place
      go (outside possible none calm) = (possible, inl none)
      go (armed_inside possible alone) = (possible, inr alone)

  -- The armed number inside a section is the operation's own, and its section is the operation's.
  armed_own : InArmedAlone m (top_frame thread).armed (top_frame thread).place → (top_frame thread).armed ≡ descriptor_of_operation operation
  armed_own inside = go (stands_there l m core c t inv on some)
    where
      not_there : ((d : ℕ) → Inside (section_at core.image.sections d) (top_frame thread).place → ⊥) → ⊥
      not_there none = no_section (top_frame thread).place none (top_frame thread).armed inside.inside

      at_point : RestartPoint core.image (top_frame thread) → (top_frame thread).armed ≡ descriptor_of_operation operation
      at_point (at_entry place unarmed) = absurd (not_there (λ d i. inv.text.entry_outside operation d (subst (Inside (section_at core.image.sections d)) place i)))
      at_point (at_abort place unarmed) = absurd (not_there (λ d i. inv.text.abort_outside operation d (subst (Inside (section_at core.image.sections d)) place i)))
      at_point (at_start place armed) = armed

      go : StandsThere m core c t → (top_frame thread).armed ≡ descriptor_of_operation operation
      go (restarts_there point calm) = at_point point
      go (midway_there at) = at.armed

  -- The thread with its top frame at a restart point, and left told.
  pub record Calmed (n : Meaning) (later : Core) : Type 0 where
    pub invariant : Invariant l n later
    pub restart : AllByRecursion (RestartPoint core.image) (frames_of (thread_at later t))

  calmed : (n : Meaning) (th : Thread) (frame : Frame) → PatienceBecomes m c 0 n → TopBecomes thread frame th → frame.operation ≡ operation → th.hand ≡ thread.hand → RestartPoint core.image frame
      → Calmed n (put_thread core t th)
  calmed n th frame told becomes same_operation hand point = record {
    invariant = top_changed l m core c t inv on some n th core.cpus core.next frame inv.eight_cpus (λ other differs. refl) refl (inv.holds c c_exists) refl (λ node ne. refl) becomes same_operation hand told.sections_stay
        told.elsewhere (inl (point, told.there (omega (arith, c_exists, inv.limits.cpus))));
    restart = subst (λ x. AllByRecursion (RestartPoint core.image) (frames_of x)) (sym (thread_written inv t_exists th)) (all_from_top (RestartPoint core.image) th thread_later.whole more top_restarts thread_later.below);
  }
    where
      thread_later : ThreadStands core.sizes core.image (l.waiting t) th
      thread_later = topped thread th frame stands.whole some becomes core.sizes core.image (l.waiting t) same_operation stands

      more : 0 < th.depth
      more = omega (arith, becomes.depth)

      top_restarts : RestartPoint core.image (top_frame th)
      top_restarts = subst (RestartPoint core.image) (sym (top_is thread th frame stands.whole some becomes)) point

  -- What becomes of a thread by the exclusion's answer: it is held, and then there is patience, or it is calmed.
  abbrev pub ByOutcome : Option Thread → Type 0 → (Thread → Type 0) → Type 0
  ByOutcome None held done = held
  ByOutcome (Some th) held done = done th

  pub by_verdict : (n : Meaning) → PatienceBecomes m c 0 n → (v : Verdict) → Says m c (top_frame thread).armed (top_frame thread).place v
      → ByOutcome (after_verdict core thread v) (0 < m.patience c) (λ th. Calmed n (put_thread core t th))
  by_verdict n told v says = go v says asks
    where
      Result : Verdict → Type 0
      Result v = ByOutcome (after_verdict core thread v) (0 < m.patience c) (λ th. Calmed n (put_thread core t th))

      -- in no section: it stays where it is, with nothing armed
      unarmed_point : InNoSection m (top_frame thread).place → RestartPoint core.image (record { operation = operation; place = (top_frame thread).place; armed = 0 })
      unarmed_point none = by_standing (stands_there l m core c t inv on some)
        where
          by_point : RestartPoint core.image (top_frame thread) → RestartPoint core.image (record { operation = operation; place = (top_frame thread).place; armed = 0 })
          by_point (at_entry place unarmed) = at_entry place refl
          by_point (at_abort place unarmed) = at_abort place refl
          by_point (at_start place armed) =
              let first : section.start + 4 * 0 ≡ section.start = omega arith in
              absurd (none (top_frame thread).armed (alone 0 (omega (arith, (few_words operation).0)) (place ∙ sym first) armed).inside)

          by_standing : StandsThere m core c t → RestartPoint core.image (record { operation = operation; place = (top_frame thread).place; armed = 0 })
          by_standing (restarts_there point calm) = by_point point
          by_standing (midway_there at) =
              let within = known_within core.sizes.packets (cpu_at core c) core.next thread operation at.words_done at.known in
              absurd (none (top_frame thread).armed (alone at.words_done within.1 at.place at.armed).inside)

      -- sent back to the abort, or to the start
      own_section : InArmedAlone m (top_frame thread).armed (top_frame thread).place → m.section (top_frame thread).armed ≡ section
      own_section inside = inv.sections (top_frame thread).armed ∙ ap (section_at core.image.sections) (armed_own inside)

      to_abort : InArmedAlone m (top_frame thread).armed (top_frame thread).place → Result (Back section.abort)
      to_abort inside =
          let first : section.start + 4 * 0 ≡ section.start = omega arith in
          let armed_start : (section_at core.image.sections (top_frame thread).armed).start ≡ section.start = ap (λ d. (section_at core.image.sections d).start) (armed_own inside) in
          let differs : section.abort ≡ (section_at core.image.sections (top_frame thread).armed).start → ⊥ =
          λ same. inv.text.abort_outside operation (descriptor_of_operation operation)
          (subst (Inside section) (first ∙ sym (same ∙ armed_start)) (inside_section core.image inv.text operation 0 (omega (arith, (few_words operation).0)))) in
          calmed n _ _ told (record { frames = refl; depth = refl }) refl refl (at_abort refl (ap (λ b. cond b (top_frame thread).armed 0) (ne_eqb _ _ differs)))

      to_start : InArmedAlone m (top_frame thread).armed (top_frame thread).place → Result (Back section.start)
      to_start inside =
          let armed_start : (section_at core.image.sections (top_frame thread).armed).start ≡ section.start = ap (λ d. (section_at core.image.sections d).start) (armed_own inside) in
          calmed n _ _ told (record { frames = refl; depth = refl }) refl refl (at_start refl (ap (λ b. cond b (top_frame thread).armed 0) (eq-eqb _ _ (sym armed_start)) ∙ armed_own inside))

      go : (v : Verdict) → Says m c (top_frame thread).armed (top_frame thread).place v → AskedHere → Result v
      go v says (outside possible none calm) = subst Result (sym (says.outside possible none)) (calmed n _ _ told (record { frames = refl; depth = refl }) refl refl (unarmed_point none))
      go v says (armed_inside possible inside) =
          ⊎_elim
          (λ (calm : m.patience c < 1).
          ⊎_elim (λ (back : v ≡ Back (m.section (top_frame thread).armed).abort). subst Result (sym (back ∙ ap (λ (s : Section). Back s.abort) (own_section inside))) (to_abort inside))
          (λ (back : v ≡ Back (m.section (top_frame thread).armed).start). subst Result (sym (back ∙ ap (λ (s : Section). Back s.start) (own_section inside))) (to_start inside))
          (says.back possible inside (omega arith)))
          (λ (patient : 1 ≤ m.patience c). subst Result (sym (says.held possible inside patient)) patient) (cases_lt (m.patience c) 1)
