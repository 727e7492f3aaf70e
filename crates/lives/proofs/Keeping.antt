-- What holds of every machine with a past is kept by a change of one CPU's thread and structures.
use Rattle.std.proofs.Common.{◌≡◌, ℕ, zero, suc, ◌<◌, ◌≤◌, cond, ◌&&◌, eqb, leb, List, [], ◌∷◌, length, get_or, set, Some, sym, ap, ◌∙◌, subst, arith, length-set, get_or-set_other}
use Rattle.std.proofs.lemmas.Bool.{cond_both, eq-eqb}
use Rattle.std.specs.List.{AllByRecursion}
use Rattle.exclusion.specs.Meaning.{Meaning}
use Rattle.model.specs.declared.state.Operation.{Operation}
use Rattle.model.specs.declared.state.Operation.TheVariants.{Add, Push, Pop, Put, Take}
use Rattle.model.specs.declared.state.Thread.{Thread}
use Rattle.model.specs.declared.state.Cpu.{Cpu}
use Rattle.model.specs.declared.state.Core.{Core}
use Rattle.model.specs.State.{no_cpu, no_thread, thread_at, cpu_at, top_frame}
use Rattle.model.specs.Ledger.{Ledger}
use Rattle.model.specs.Claims.{Listed, among, found}
use Rattle.lives.proofs.Nodes.{here_or_else, hand_not_listed, hands_apart, listed_same}
use Rattle.lives.proofs.Midway.{Known, Holds, OnlyTheHandsNode}
use Rattle.lives.proofs.Standing.{RestartPoint, Midway, Standing, idle, resting, restarting, midway, ThreadStands, Invariant, thread_written}
use Rattle.lives.specs.Apart.{frames_of, RingFromASlot}

-- What is known in a section is not changed by next words that it does not read: those of the node in hand and of the list's
-- first node.
module _ (packets : ℕ) (cpu : Cpu) (next later : List ℕ) (thread : Thread)
    (in_hand : (node : ℕ) → thread.hand ≡ Some node → get_or later node 0 ≡ get_or next node 0)
    (in_front : 0 < cpu.list → get_or later cpu.list 0 ≡ get_or next cpu.list 0) where
  known_later : (operation : Operation) (i : ℕ) → Known packets cpu next thread operation i → Known packets cpu later thread operation i
  known_later (Add counter amount) i known = known
  known_later Push zero known = known
  known_later Push (suc zero) known = known
  known_later Push (suc (suc zero)) known = known
  known_later Push (suc (suc (suc zero))) known = known
  known_later Push (suc (suc (suc (suc zero)))) (node, some, linked) = (node, some, in_hand node some ∙ linked)
  known_later Push (suc (suc (suc (suc (suc i))))) known = known
  known_later Pop zero known = known
  known_later Pop (suc zero) known = known
  known_later Pop (suc (suc zero)) known = known
  known_later Pop (suc (suc (suc zero))) known = known
  known_later Pop (suc (suc (suc (suc zero)))) known = known
  known_later Pop (suc (suc (suc (suc (suc zero))))) (none, a, some, b) =
      (none, a, some, b ∙ ap (λ n. get_or next n 0) a ∙ sym (in_front (omega arith)) ∙ ap (λ n. get_or later n 0) (sym a))
  known_later Pop (suc (suc (suc (suc (suc (suc i)))))) known = known
  known_later (Put amount) i known = known
  known_later Take i known = known

-- A list's first node is among its nodes.
front_among : (next : List ℕ) (head : ℕ) (nodes : List ℕ) → Listed next head nodes → 0 < head → 0 < among head nodes
front_among next head [] l some = absurd (omega arith)
front_among next head (node ∷ nodes) (some, is, rest) h = let e : ◌≡◌ {A = ℕ} (cond (eqb node head) 1 0) 1 = ap (λ b. cond b 1 0) (eq-eqb node head (sym is)) in omega arith

pub once_at_most : (l : Ledger) (m : Meaning) (core : Core) → Invariant l m core → (node : ℕ) → found core.sizes l node ≤ 1
once_at_most l m core inv node = let h = cond_both (leb 1 node && leb node core.sizes.nodes) 1 0 (λ k. k ≤ 1) (λ e. omega arith) (λ e. omega arith) in omega (arith, inv.nodes node)

-- Two ledgers differ on one CPU and in one thread only, and have the same threads on the CPUs.
pub record SameElsewhere (c t : ℕ) (l k : Ledger) : Type 0 where
  pub counters : (other : ℕ) → (other ≡ c → ⊥) → k.counters other ≡ l.counters other
  pub lists : (other : ℕ) → (other ≡ c → ⊥) → k.lists other ≡ l.lists other
  pub rings : (other : ℕ) → (other ≡ c → ⊥) → k.rings other ≡ l.rings other
  pub hands : (other : ℕ) → (other ≡ t → ⊥) → k.hands other ≡ l.hands other
  pub waiting : (other : ℕ) → (other ≡ t → ⊥) → k.waiting other ≡ l.waiting other
  pub current : (other : ℕ) → k.current other ≡ l.current other

module _ (l k : Ledger) (m n : Meaning) (core : Core) (c t : ℕ) (th : Thread) (cpus : List Cpu) (next : List ℕ) where
  abbrev pub after_change : Core
  after_change = record { sizes = core.sizes; image = core.image; cpus = cpus; threads = set core.threads t th; next = next }

  -- A change of the thread t that CPU c has, and of that CPU's structures.
  pub record Change : Type 0 where
    pub invariant : Invariant l m core
    pub on : l.current c ≡ Some t
    pub eight_cpus : length cpus ≡ 8
    pub cpus_else : (other : ℕ) → (other ≡ c → ⊥) → get_or cpus other no_cpu ≡ cpu_at core other
    pub same_current : (get_or cpus c no_cpu).current ≡ (cpu_at core c).current
    pub ledger_else : SameElsewhere c t l k
    pub holds : Holds core.sizes (k.counters c) (k.lists c) (k.rings c) (get_or cpus c no_cpu) next
    pub hand : th.hand ≡ k.hands t
    pub nexts : length next ≡ length core.next
    pub next_else : OnlyTheHandsNode (l.hands t) core.next next
    pub thread : ThreadStands core.sizes core.image (k.waiting t) th
    pub nodes : (node : ℕ) → found core.sizes k node ≡ found core.sizes l node
    pub sections : (d : ℕ) → n.section d ≡ m.section d
    pub patience_else : (other : ℕ) → (other ≡ c → ⊥) → n.patience other ≡ m.patience other
    pub standing : Standing after_change (n.patience c) c

  module _ (change : Change) where
    abbrev inv : Invariant l m core
    inv = change.invariant

    t_exists : t < core.sizes.threads
    t_exists = (inv.current_exists c t change.on).1

    thread_here : thread_at after_change t ≡ th
    thread_here = thread_written inv t_exists th

    thread_else : (s : ℕ) → (s ≡ t → ⊥) → thread_at after_change s ≡ thread_at core s
    thread_else s differs = get_or-set_other core.threads t s th no_thread differs

    -- The next words of another CPU's list stay.
    list_stays : (other node : ℕ) → other < core.sizes.cpus → 0 < among node (l.lists other) → get_or next node 0 ≡ get_or core.next node 0
    list_stays other node exists among_them =
        change.next_else node
        (λ in_hand. let none = hand_not_listed core.sizes l t other node t_exists exists (once_at_most l m core inv node) in_hand in omega arith)

    holds_else : (other : ℕ) → (other ≡ c → ⊥) → other < core.sizes.cpus → Holds core.sizes (k.counters other) (k.lists other) (k.rings other) (get_or cpus other no_cpu) next
    holds_else other differs exists =
        let h = inv.holds other exists in
        subst (λ cpu. Holds core.sizes (k.counters other) (k.lists other) (k.rings other) cpu next) (sym (change.cpus_else other differs))
        (record {
          eight_counters = h.eight_counters;
          sixteen_slots = h.sixteen_slots;
          counts = λ counter below. h.counts counter below ∙ ap (λ f. f counter) (sym (change.ledger_else.counters other differs));
          listed =
              subst (Listed next (cpu_at core other).list) (sym (change.ledger_else.lists other differs))
              (listed_same core.next next (cpu_at core other).list (l.lists other) (λ node among_them. list_stays other node exists among_them) h.listed);
          ringed = subst (λ ring. RingFromASlot core.sizes.packets (cpu_at core other) ring) (sym (change.ledger_else.rings other differs)) h.ringed;
        })

    -- Another CPU's thread is another thread.
    other_thread : (other s : ℕ) → (other ≡ c → ⊥) → l.current other ≡ Some s → s ≡ t → ⊥
    other_thread other s differs on same = differs (inv.on_one_cpu other c t (on ∙ ap Some same) change.on)

    current_else : (other : ℕ) → (other ≡ c → ⊥) → (cpu_at after_change other).current ≡ (cpu_at core other).current
    current_else other differs = ap (λ (cpu : Cpu). cpu.current) (change.cpus_else other differs)

    standing_else : (other : ℕ) → (other ≡ c → ⊥) → other < core.sizes.cpus → Standing core (m.patience other) other → Standing after_change (n.patience other) other
    standing_else other differs exists (idle none calm) = idle (current_else other differs ∙ none) (change.patience_else other differs ∙ calm)
    standing_else other differs exists (resting s on rests calm) =
        let apart = other_thread other s differs (sym (inv.current other) ∙ on) in
        resting s (current_else other differs ∙ on) (ap (λ (x : Thread). x.depth) (thread_else s apart) ∙ rests) (change.patience_else other differs ∙ calm)
    standing_else other differs exists (restarting s on some point calm) =
        let apart = other_thread other s differs (sym (inv.current other) ∙ on) in
        restarting s (current_else other differs ∙ on) (subst (λ (x : Thread). 0 < x.depth) (sym (thread_else s apart)) some)
        (subst (λ (x : Thread). RestartPoint core.image (top_frame x)) (sym (thread_else s apart)) point) (change.patience_else other differs ∙ calm)
    standing_else other differs exists (midway s on some at) =
        let there = sym (inv.current other) ∙ on in
        let apart = other_thread other s differs there in
        let s_exists = (inv.current_exists other s there).1 in
        midway s (current_else other differs ∙ on) (subst (λ (x : Thread). 0 < x.depth) (sym (thread_else s apart)) some)
        (subst (λ x. Midway core.sizes.packets core.image other (cpu_at after_change other) next x) (sym (thread_else s apart))
        (subst (λ x. Midway core.sizes.packets core.image other x next (thread_at core s)) (sym (change.cpus_else other differs))
        (record {
          words_done = at.words_done;
          place = at.place;
          armed = at.armed;
          on_cpu = at.on_cpu;
          known =
              known_later core.sizes.packets (cpu_at core other) core.next next (thread_at core s)
              (λ node in_hand.
              change.next_else node
              (λ mine. hands_apart core.sizes l s t node s_exists t_exists apart (once_at_most l m core inv node) (sym (inv.hands s s_exists) ∙ in_hand) mine))
              (λ first. list_stays other (cpu_at core other).list exists (front_among core.next (cpu_at core other).list (l.lists other) (inv.holds other exists).listed first))
              (top_frame (thread_at core s)).operation at.words_done at.known;
        })))

    pub kept : Invariant k n after_change
    kept = record {
      limits = inv.limits;
      text = inv.text;
      sections = λ d. change.sections d ∙ inv.sections d;
      eight_cpus = change.eight_cpus;
      sixteen_threads = length-set core.threads t th ∙ inv.sixteen_threads;
      next_words = change.nexts ∙ inv.next_words;
      holds = here_or_else (λ x. x < core.sizes.cpus → Holds core.sizes (k.counters x) (k.lists x) (k.rings x) (get_or cpus x no_cpu) next) c (λ exists. change.holds) holds_else;
      hands = here_or_else (λ s. s < core.sizes.threads → (thread_at after_change s).hand ≡ k.hands s) t (λ exists. ap (λ (x : Thread). x.hand) thread_here ∙ change.hand)
          (λ s differs exists. ap (λ (x : Thread). x.hand) (thread_else s differs) ∙ inv.hands s exists ∙ sym (change.ledger_else.hands s differs));
      current = λ other.
          here_or_else (λ x. (get_or cpus x no_cpu).current ≡ l.current x) c (change.same_current ∙ inv.current c) (λ x differs. current_else x differs ∙ inv.current x) other
          ∙ sym (change.ledger_else.current other);
      current_exists = λ other s on. inv.current_exists other s (sym (change.ledger_else.current other) ∙ on);
      on_one_cpu = λ one other s on also. inv.on_one_cpu one other s (sym (change.ledger_else.current one) ∙ on) (sym (change.ledger_else.current other) ∙ also);
      threads = here_or_else (λ s. s < core.sizes.threads → ThreadStands core.sizes core.image (k.waiting s) (thread_at after_change s)) t
          (λ exists. subst (ThreadStands core.sizes core.image (k.waiting t)) (sym thread_here) change.thread)
          (λ s differs exists.
          subst (λ x. ThreadStands core.sizes core.image x (thread_at after_change s)) (sym (change.ledger_else.waiting s differs))
          (subst (ThreadStands core.sizes core.image (l.waiting s)) (sym (thread_else s differs)) (inv.threads s exists)));
      nowhere_else = λ s beyond. change.ledger_else.waiting s (λ same. omega (arith, t_exists)) ∙ inv.nowhere_else s beyond;
      nodes = λ node. change.nodes node ∙ inv.nodes node;
      standing = here_or_else (λ x. x < core.sizes.cpus → Standing after_change (n.patience x) x) c (λ exists. change.standing) (λ x differs exists. standing_else x differs exists (inv.standing x exists));
      off_cpu = λ s exists off.
          let differs : s ≡ t → ⊥ = λ same. off c (change.ledger_else.current c ∙ change.on ∙ ap Some (sym same)) in
          subst (λ x. AllByRecursion (RestartPoint core.image) (frames_of x)) (sym (thread_else s differs)) (inv.off_cpu s exists (λ other on. off other (change.ledger_else.current other ∙ on)));
    }
