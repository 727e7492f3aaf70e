-- A CPU gets another thread or none, and a thread gets another operation.
use Rattle.std.proofs.Common.{◌≡◌, ℕ, ◌<◌, ◌≤◌, ◌⊎◌, ◌∷◌, Some, None, Option, sym, refl, ap, ◌∙◌, subst, inl, inr, ⊎_elim, arith, length-set, get_or-set_other}
use Rattle.std.proofs.lemmas.Bool.{cases_eq, cases_lt}
use Rattle.std.proofs.lemmas.Option.{none-some, same_Some}
use Rattle.std.specs.List.{AllByRecursion}
use Rattle.exclusion.specs.Meaning.{Meaning}
use Rattle.model.specs.declared.state.Operation.{Operation}
use Rattle.model.specs.declared.state.Thread.{Thread}
use Rattle.model.specs.declared.state.Cpu.{Cpu}
use Rattle.model.specs.declared.state.Core.{Core}
use Rattle.model.specs.State.{no_cpu, no_thread, cpu_current, put_thread, put_cpu, thread_at, cpu_at, top_frame, pushed}
use Rattle.model.specs.Ledger.{Ledger, Waiting, updated, with_waiting}
use Rattle.model.specs.Ledger.{with_current as ledger-current}
use Rattle.lives.proofs.Nodes.{here_or_else, updated_here, updated_else}
use Rattle.lives.proofs.Stacks.{Whole}
use Rattle.lives.proofs.Midway.{Holds, Valid}
use Rattle.lives.proofs.Standing.{RestartPoint, at_entry, Midway, Standing, idle, resting, restarting, midway, ThreadStands, Invariant, cpu_written, thread_written}
use Rattle.lives.proofs.Threads.{all_top, pushed_stands, pushed_frames}
use Rattle.lives.specs.Apart.{begun, frames_of}

-- A thread all of whose frames stand at restart points, on a CPU without patience.
pub calm_standing : (core : Core) (patience c t : ℕ) → (cpu_at core c).current ≡ Some t → patience ≡ 0 → Whole (thread_at core t) → AllByRecursion (RestartPoint core.image) (frames_of (thread_at core t)) → Standing core patience c
calm_standing core patience c t on calm whole all =
    ⊎_elim (λ (none : (thread_at core t).depth < 1). resting t on (omega arith) calm)
    (λ (some : 1 ≤ (thread_at core t).depth). restarting t on some (all_top (RestartPoint core.image) (thread_at core t) whole some all) calm) (cases_lt (thread_at core t).depth 1)

-- A CPU gets another thread, which no CPU has, or none.
module _ (l : Ledger) (m : Meaning) (core : Core) (c : ℕ) (o : Option ℕ) (inv : Invariant l m core) (exists : c < core.sizes.cpus) (calm : m.patience c ≡ 0)
    (restart : (s : ℕ) → l.current c ≡ Some s → AllByRecursion (RestartPoint core.image) (frames_of (thread_at core s)))
    (free : (t : ℕ) → o ≡ Some t → (t < core.sizes.threads) × ((other : ℕ) → l.current other ≡ Some t → ⊥)) where
  abbrev k : Ledger
  k = ledger-current l (updated l.current c o)

  abbrev cpu : Cpu
  cpu = cpu_current (cpu_at core c) o

  abbrev later : Core
  later = put_cpu core c cpu

  cpu_here : cpu_at later c ≡ cpu
  cpu_here = cpu_written inv exists cpu

  cpu_else : (other : ℕ) → (other ≡ c → ⊥) → cpu_at later other ≡ cpu_at core other
  cpu_else other differs = get_or-set_other core.cpus c other cpu no_cpu differs

  holds_here : Holds core.sizes (l.counters c) (l.lists c) (l.rings c) cpu core.next
  holds_here =
      let h = inv.holds c exists in
      record {
        eight_counters = h.eight_counters;
        sixteen_slots = h.sixteen_slots;
        counts = h.counts;
        listed = h.listed;
        ringed = record { at_most = h.ringed.at_most; head_is_a_slot = h.ringed.head_is_a_slot; slot = h.ringed.slot; up_to_the_tail = h.ringed.up_to_the_tail };
      }

  -- Whose thread it is now.
  now_here : k.current c ≡ o
  now_here = updated_here l.current c o

  now_else : (other : ℕ) → (other ≡ c → ⊥) → k.current other ≡ l.current other
  now_else other differs = updated_else l.current c o other differs

  standing_here : (x : Option ℕ) → o ≡ x → Standing later (m.patience c) c
  standing_here None is = idle (ap (λ (y : Cpu). y.current) cpu_here ∙ is) calm
  standing_here (Some t) is =
      let f = free t is in
      calm_standing later (m.patience c) c t (ap (λ (y : Cpu). y.current) cpu_here ∙ is) calm (inv.threads t f.0).whole (inv.off_cpu t f.0 f.1)

  standing_else : (other : ℕ) → (other ≡ c → ⊥) → Standing core (m.patience other) other → Standing later (m.patience other) other
  standing_else other differs (idle none calm) = idle (ap (λ (y : Cpu). y.current) (cpu_else other differs) ∙ none) calm
  standing_else other differs (resting s on rests calm) = resting s (ap (λ (y : Cpu). y.current) (cpu_else other differs) ∙ on) rests calm
  standing_else other differs (restarting s on some point calm) = restarting s (ap (λ (y : Cpu). y.current) (cpu_else other differs) ∙ on) some point calm
  standing_else other differs (midway s on some at) =
      midway s (ap (λ (y : Cpu). y.current) (cpu_else other differs) ∙ on) some (subst (λ y. Midway core.sizes.packets core.image other y core.next (thread_at core s)) (sym (cpu_else other differs)) at)

  off_cpu : (s : ℕ) → s < core.sizes.threads → ((other : ℕ) → k.current other ≡ Some s → ⊥) → (before : Option ℕ) → l.current c ≡ before → AllByRecursion (RestartPoint core.image) (frames_of (thread_at core s))
  off_cpu s below off None is =
      inv.off_cpu s below
      (here_or_else (λ x. l.current x ≡ Some s → ⊥) c (λ on. none-some s (sym is ∙ on)) (λ x differs on. off x (now_else x differs ∙ on)))
  off_cpu s below off (Some r) is =
      ⊎_elim (λ (same : r ≡ s). restart s (is ∙ ap Some same))
      (λ (differs : r ≡ s → ⊥).
      inv.off_cpu s below
      (here_or_else (λ x. l.current x ≡ Some s → ⊥) c (λ on. differs (same_Some _ _ (sym is ∙ on))) (λ x apart on. off x (now_else x apart ∙ on))))
      (cases_eq r s)

  -- Where a thread is now, it was before, or it is the new one.
  placed : (other t : ℕ) → k.current other ≡ Some t → ((other ≡ c) × (o ≡ Some t)) ⊎ ((other ≡ c → ⊥) × (l.current other ≡ Some t))
  placed other t on =
      ⊎_elim (λ (same : other ≡ c). inl (same, sym now_here ∙ ap k.current (sym same) ∙ on)) (λ (differs : other ≡ c → ⊥). inr (differs, sym (now_else other differs) ∙ on)) (cases_eq other c)

  abbrev Placed : ℕ → ℕ → Type 0
  Placed other t = ((other ≡ c) × (o ≡ Some t)) ⊎ ((other ≡ c → ⊥) × (l.current other ≡ Some t))

  one_place : (one other t : ℕ) → Placed one t → Placed other t → one ≡ other
  one_place one other t (inl p) (inl q) = p.0 ∙ sym q.0
  one_place one other t (inl p) (inr q) = absurd ((free t p.1).1 other q.1)
  one_place one other t (inr p) (inl q) = absurd ((free t q.1).1 one p.1)
  one_place one other t (inr p) (inr q) = inv.on_one_cpu one other t p.1 q.1

  pub assigned : Invariant k m later
  assigned = record {
    limits = inv.limits;
    text = inv.text;
    sections = inv.sections;
    eight_cpus = length-set core.cpus c cpu ∙ inv.eight_cpus;
    sixteen_threads = inv.sixteen_threads;
    next_words = inv.next_words;
    holds = here_or_else (λ x. x < core.sizes.cpus → Holds core.sizes (l.counters x) (l.lists x) (l.rings x) (cpu_at later x) core.next) c
        (λ below. subst (λ y. Holds core.sizes (l.counters c) (l.lists c) (l.rings c) y core.next) (sym cpu_here) holds_here)
        (λ x differs below. subst (λ y. Holds core.sizes (l.counters x) (l.lists x) (l.rings x) y core.next) (sym (cpu_else x differs)) (inv.holds x below));
    hands = inv.hands;
    current = here_or_else (λ x. (cpu_at later x).current ≡ k.current x) c (ap (λ (y : Cpu). y.current) cpu_here ∙ sym now_here)
        (λ x differs. ap (λ (y : Cpu). y.current) (cpu_else x differs) ∙ inv.current x ∙ sym (now_else x differs));
    current_exists = λ other t on.
        ⊎_elim (λ (p : (other ≡ c) × (o ≡ Some t)). (subst (λ x. x < core.sizes.cpus) (sym p.0) exists, (free t p.1).0)) (λ (p : (other ≡ c → ⊥) × (l.current other ≡ Some t)). inv.current_exists other t p.1) (placed other t on);
    on_one_cpu = λ one other t on also. one_place one other t (placed one t on) (placed other t also);
    threads = inv.threads;
    nowhere_else = inv.nowhere_else;
    nodes = inv.nodes;
    standing = here_or_else (λ x. x < core.sizes.cpus → Standing later (m.patience x) x) c (λ below. standing_here o refl) (λ x differs below. standing_else x differs (inv.standing x below));
    off_cpu = λ s below off. off_cpu s below off (l.current c) refl;
  }

-- A thread whose frames all stand at restart points gets another operation on top.
module _ (l : Ledger) (m : Meaning) (core : Core) (t number : ℕ) (operation : Operation) (inv : Invariant l m core) (exists : t < core.sizes.threads) (room : (thread_at core t).depth < 8)
    (restart : AllByRecursion (RestartPoint core.image) (frames_of (thread_at core t))) (valid : Valid core.sizes operation) (calm : (c : ℕ) → l.current c ≡ Some t → m.patience c ≡ 0) where
  abbrev top : Waiting
  top = record { call = number; operation = operation }

  abbrev more : Ledger
  more = with_waiting l (updated l.waiting t (top ∷ l.waiting t))

  abbrev thread : Thread
  thread = pushed (thread_at core t) (begun core.image operation)

  abbrev after : Core
  after = put_thread core t thread

  thread_here : thread_at after t ≡ thread
  thread_here = thread_written inv exists thread

  thread_else : (s : ℕ) → (s ≡ t → ⊥) → thread_at after s ≡ thread_at core s
  thread_else s differs = get_or-set_other core.threads t s thread no_thread differs

  stands : ThreadStands core.sizes core.image (top ∷ l.waiting t) thread
  stands = pushed_stands core.sizes core.image (l.waiting t) (thread_at core t) (begun core.image operation) (inv.threads t exists) room restart top refl valid

  all_restart : AllByRecursion (RestartPoint core.image) (frames_of thread)
  all_restart =
      subst (AllByRecursion (RestartPoint core.image)) (sym (pushed_frames core.sizes core.image (l.waiting t) (thread_at core t) (begun core.image operation) (inv.threads t exists) room restart)) (at_entry refl refl, restart)

  abbrev Stands : ℕ → Type 0
  Stands c = Standing after (m.patience c) c

  -- The CPU that has the thread, if one has.
  on_this : (c s : ℕ) → (cpu_at core c).current ≡ Some s → s ≡ t → Stands c
  on_this c s on same =
      let there : (cpu_at core c).current ≡ Some t = on ∙ ap Some same in
      calm_standing after (m.patience c) c t there (calm c (sym (inv.current c) ∙ there)) (subst Whole (sym thread_here) stands.whole) (subst (λ x. AllByRecursion (RestartPoint core.image) (frames_of x)) (sym thread_here) all_restart)

  standing_now : (c : ℕ) → Standing core (m.patience c) c → Stands c
  standing_now c (idle none calm) = idle none calm
  standing_now c (resting s on rests calm) =
      ⊎_elim (λ (same : s ≡ t). on_this c s on same) (λ (differs : s ≡ t → ⊥). resting s on (ap (λ (x : Thread). x.depth) (thread_else s differs) ∙ rests) calm) (cases_eq s t)
  standing_now c (restarting s on some point calm) =
      ⊎_elim (λ (same : s ≡ t). on_this c s on same)
      (λ (differs : s ≡ t → ⊥).
      restarting s on (subst (λ (x : Thread). 0 < x.depth) (sym (thread_else s differs)) some) (subst (λ (x : Thread). RestartPoint core.image (top_frame x)) (sym (thread_else s differs)) point) calm) (cases_eq s t)
  standing_now c (midway s on some at) =
      ⊎_elim (λ (same : s ≡ t). on_this c s on same)
      (λ (differs : s ≡ t → ⊥).
      midway s on (subst (λ (x : Thread). 0 < x.depth) (sym (thread_else s differs)) some)
      (subst (Midway core.sizes.packets core.image c (cpu_at core c) core.next) (sym (thread_else s differs)) at)) (cases_eq s t)

  pub enlisted : Invariant more m after
  enlisted = record {
    limits = inv.limits;
    text = inv.text;
    sections = inv.sections;
    eight_cpus = inv.eight_cpus;
    sixteen_threads = length-set core.threads t thread ∙ inv.sixteen_threads;
    next_words = inv.next_words;
    holds = inv.holds;
    hands = here_or_else (λ s. s < core.sizes.threads → (thread_at after s).hand ≡ l.hands s) t (λ below. ap (λ (x : Thread). x.hand) thread_here ∙ inv.hands t exists)
        (λ s differs below. ap (λ (x : Thread). x.hand) (thread_else s differs) ∙ inv.hands s below);
    current = inv.current;
    current_exists = inv.current_exists;
    on_one_cpu = inv.on_one_cpu;
    threads = here_or_else (λ s. s < core.sizes.threads → ThreadStands core.sizes core.image (more.waiting s) (thread_at after s)) t
        (λ below.
        subst (λ ws. ThreadStands core.sizes core.image ws (thread_at after t)) (sym (updated_here l.waiting t (top ∷ l.waiting t)))
        (subst (ThreadStands core.sizes core.image (top ∷ l.waiting t)) (sym thread_here) stands))
        (λ s differs below.
        subst (λ ws. ThreadStands core.sizes core.image ws (thread_at after s)) (sym (updated_else l.waiting t (top ∷ l.waiting t) s differs))
        (subst (ThreadStands core.sizes core.image (l.waiting s)) (sym (thread_else s differs)) (inv.threads s below)));
    nowhere_else = λ s beyond. updated_else l.waiting t (top ∷ l.waiting t) s (λ same. omega (arith, exists)) ∙ inv.nowhere_else s beyond;
    nodes = inv.nodes;
    standing = λ c below. standing_now c (inv.standing c below);
    off_cpu = here_or_else (λ s. s < core.sizes.threads → ((c : ℕ) → l.current c ≡ Some s → ⊥) → AllByRecursion (RestartPoint core.image) (frames_of (thread_at after s))) t
        (λ below off. subst (λ x. AllByRecursion (RestartPoint core.image) (frames_of x)) (sym thread_here) all_restart)
        (λ s differs below off. subst (λ x. AllByRecursion (RestartPoint core.image) (frames_of x)) (sym (thread_else s differs)) (inv.off_cpu s below off));
  }
