-- What is known of a thread midway in its section, and what one more word makes of it, seen from the CPU's own structures.
use Rattle.std.proofs.Common.{◌≡◌, ℕ, zero, suc, ◌+◌, ◌-◌, ◌%◌, ◌^◌, ◌<◌, ◌≤◌, cond, eqb, List, [], ◌∷◌, ◌++◌, length, get_or, set, Some, None, Option, sym, refl, ap, ◌∙◌, subst, ⊎_elim, mod-lt, mod-eq_of_lt, arith, length-set, get_or-set_other, get_or-set_same}
use native.Mathlib.Nat.{mod-add-mod, add-mod_right}
use Rattle.std.proofs.lemmas.List.{length_push, get_or_push, get_or_append_left, nil_from_length}
use Rattle.std.proofs.lemmas.Bool.{cases_lt, eqb-true, eqb-false, le-leb, lt-leb, cond_both}
use Rattle.image.specs.declared.fields.Sizes.{Sizes}
use Rattle.words.specs.declared.Word.{Word}
use Rattle.words.specs.declared.Word.TheVariants.{Enter}
use Rattle.words.specs.Words.{section_words}
use Rattle.model.specs.declared.state.Operation.{Operation}
use Rattle.model.specs.declared.state.Operation.TheVariants.{Add, Push, Pop, Put, Take}
use Rattle.model.specs.declared.state.Answer.{Answer}
use Rattle.model.specs.declared.state.Answer.TheVariants.{Done, Got, Empty, Full, HandFull}
use Rattle.model.specs.declared.state.Thread.{Thread}
use Rattle.model.specs.declared.state.Cpu.{Cpu}
use Rattle.model.specs.declared.state.Core.{Core}
use Rattle.model.specs.State.{thread_hand, kind_of_operation, cpu_list, cpu_head, cpu_tail}
use Rattle.model.specs.Words.{Effect, onward, goes, settles, by_hand}
use Rattle.model.specs.Ledger.{Ledger, Outcome, with_rings, updated, stays, pushes, pops, takes, does_whole}
use Rattle.model.specs.Claims.{Listed, among}
use Rattle.model.proofs.Rings.{further}
use Rattle.lives.proofs.Nodes.{here_or_else, updated_here, updated_else, listed_same}
use Rattle.lives.specs.Apart.{does, RingFromASlot}

-- The words of an operation's section.
abbrev pub words_of : Operation → List Word
words_of operation = section_words (kind_of_operation operation)

abbrev pub word_number : Operation → ℕ → Word
word_number operation i = get_or (words_of operation) i Enter

-- What is known after so many words of the section, by a table; nothing is known before the first, and no thread is behind
-- the last.
abbrev pub fact_at : List (Type 0) → ℕ → Type 0
fact_at [] i = ⊥
fact_at (fact ∷ facts) zero = fact
fact_at (fact ∷ facts) (suc i) = fact_at facts i

module _ (packets : ℕ) (cpu : Cpu) (next : List ℕ) (thread : Thread) where
  -- The ring has room.
  abbrev pub Room : Type 0
  Room = (cpu.tail + 1) % (packets + 1) ≡ cpu.head → ⊥

  abbrev pub facts : Operation → List (Type 0)
  facts (Add counter amount) = ⊥ ∷ Unit {0} ∷ (thread.a ≡ get_or cpu.counters counter 0) ∷ (thread.a ≡ (get_or cpu.counters counter 0 + amount) % 2 ^ 64) ∷ []
  facts Push =
      ⊥ ∷ Unit {0} ∷ ((node : ℕ) × (thread.hand ≡ Some node)) ∷ ((node : ℕ) × (thread.hand ≡ Some node) × (thread.a ≡ cpu.list))
      ∷ ((node : ℕ) × (thread.hand ≡ Some node) × (get_or next node 0 ≡ cpu.list)) ∷ []
  facts Pop =
      ⊥ ∷ Unit {0} ∷ (thread.hand ≡ None) ∷ ((thread.hand ≡ None) × (thread.a ≡ cpu.list)) ∷ ((thread.hand ≡ None) × (thread.a ≡ cpu.list) × (0 < thread.a))
      ∷ ((thread.hand ≡ None) × (thread.a ≡ cpu.list) × (0 < thread.a) × (thread.b ≡ get_or next thread.a 0)) ∷ []
  facts (Put amount) =
      ⊥ ∷ Unit {0} ∷ (thread.a ≡ cpu.tail) ∷ ((thread.a ≡ cpu.tail) × (thread.b ≡ cpu.head)) ∷ ((thread.a ≡ cpu.tail) × Room)
      ∷ ((thread.a ≡ cpu.tail) × Room × (get_or cpu.slots cpu.tail 0 ≡ amount)) ∷ []
  facts Take =
      ⊥ ∷ Unit {0} ∷ (thread.b ≡ cpu.head) ∷ ((thread.b ≡ cpu.head) × (thread.a ≡ cpu.tail)) ∷ ((thread.b ≡ cpu.head) × (cpu.tail ≡ cpu.head → ⊥))
      ∷ ((thread.b ≡ cpu.head) × (cpu.tail ≡ cpu.head → ⊥) × (thread.w ≡ get_or cpu.slots cpu.head 0)) ∷ []

  abbrev pub Known : Operation → ℕ → Type 0
  Known operation i = fact_at (facts operation) i

-- A list that begins with no node is empty, and one that begins with a node has it in front.
abbrev Front : List ℕ → ℕ → List ℕ → Type 0
Front next head nodes = (rest : List ℕ) × (nodes ≡ head ∷ rest) × Listed next (get_or next head 0) rest

listed_none : (next : List ℕ) (head : ℕ) (nodes : List ℕ) → Listed next head nodes → head ≡ 0 → nodes ≡ []
listed_none next head [] l e = refl
listed_none next head (node ∷ nodes) (some, is, rest) e = absurd (omega arith)

listed_some : (next : List ℕ) (head : ℕ) (nodes : List ℕ) → Listed next head nodes → 0 < head → Front next head nodes
listed_some next head [] l h = absurd (omega arith)
listed_some next head (node ∷ nodes) (some, is, rest) h = (nodes, ap (λ n. n ∷ nodes) (sym is), subst (λ n. Listed next (get_or next n 0) nodes) (sym is) rest)

-- A ring is full exactly if the tail would meet the head, and empty exactly if it does.
module _ (packets : ℕ) (cpu : Cpu) (ring : List ℕ) (r : RingFromASlot packets cpu ring) where
  head_itself : cpu.head % (packets + 1) ≡ cpu.head
  head_itself = mod-eq_of_lt (omega (arith, r.head_is_a_slot))

  behind_tail : (cpu.tail + 1) % (packets + 1) ≡ (cpu.head + (length ring + 1)) % (packets + 1)
  behind_tail = ap (λ n. (n + 1) % (packets + 1)) r.up_to_the_tail ∙ mod-add-mod (cpu.head + length ring) (packets + 1) 1 ∙ ap (λ n. n % (packets + 1)) (omega arith)

  full_ring : (cpu.tail + 1) % (packets + 1) ≡ cpu.head → packets ≤ length ring
  full_ring meets =
      ⊎_elim (λ less. absurd (further (packets + 1) cpu.head (length ring + 1) (omega arith) (omega arith) (sym behind_tail ∙ meets ∙ sym head_itself))) (λ le. le) (cases_lt (length ring) packets)

  room_in_ring : ((cpu.tail + 1) % (packets + 1) ≡ cpu.head → ⊥) → length ring < packets
  room_in_ring room =
      ⊎_elim (λ less. less)
      (λ le. absurd (room (behind_tail ∙ ap (λ n. (cpu.head + n) % (packets + 1)) (let h = r.at_most in omega arith) ∙ add-mod_right cpu.head (packets + 1) ∙ head_itself))) (cases_lt (length ring) packets)

  empty_ring : cpu.tail ≡ cpu.head → length ring ≡ 0
  empty_ring meets =
      ⊎_elim (λ none. omega arith)
      (λ some. absurd (further (packets + 1) cpu.head (length ring) (omega arith) (omega (arith, r.at_most)) (sym r.up_to_the_tail ∙ meets ∙ sym head_itself))) (cases_lt (length ring) 1)

  filled_ring : (cpu.tail ≡ cpu.head → ⊥) → 0 < length ring
  filled_ring apart =
      ⊎_elim (λ none. absurd (apart (r.up_to_the_tail ∙ ap (λ n. n % (packets + 1)) (omega arith) ∙ head_itself))) (λ some. some) (cases_lt (length ring) 1)

  -- The tail's slot is none of the packets' slots.
  not_at_tail : (i : ℕ) → i < length ring → (cpu.head + i) % (packets + 1) ≡ cpu.tail → ⊥
  not_at_tail i below same =
      further (packets + 1) (cpu.head + i) (length ring - i) (omega arith) (omega (arith, r.at_most))
      (ap (λ n. n % (packets + 1)) (omega arith) ∙ sym r.up_to_the_tail ∙ sym same)

  tail_is_a_slot : cpu.tail ≤ packets
  tail_is_a_slot = let h = mod-lt (cpu.head + length ring) {m = packets + 1} (omega arith) in omega (arith, r.up_to_the_tail)

-- One CPU's structures hold given counters, nodes and packets.
pub record Holds (sizes : Sizes) (counters : ℕ → ℕ) (nodes ring : List ℕ) (cpu : Cpu) (next : List ℕ) : Type 0 where
  pub eight_counters : length cpu.counters ≡ 8
  pub sixteen_slots : length cpu.slots ≡ 16
  pub counts : (counter : ℕ) → counter < sizes.counters → get_or cpu.counters counter 0 ≡ counters counter
  pub listed : Listed next cpu.list nodes
  pub ringed : RingFromASlot sizes.packets cpu ring

-- An operation that the machine can have: the counter is one.
abbrev pub Valid : Sizes → Operation → Type 0
Valid sizes (Add counter amount) = counter < sizes.counters
Valid sizes Push = Unit {0}
Valid sizes Pop = Unit {0}
Valid sizes (Put amount) = Unit {0}
Valid sizes Take = Unit {0}

-- The next words are the same but for the node in hand.
abbrev pub OnlyTheHandsNode : Option ℕ → List ℕ → List ℕ → Type 0
OnlyTheHandsNode hand next later = (node : ℕ) → (hand ≡ Some node → ⊥) → get_or later node 0 ≡ get_or next node 0

abbrev pub ByAnswer : Option Answer → Type 0 → (Answer → Type 0) → Type 0
ByAnswer None going settled = going
ByAnswer (Some answer) going settled = settled answer

pub by_hand_cases : (P : Effect → Type 0) (f : ℕ → Effect) (otherwise : Effect) (o : Option ℕ) → (o ≡ None → P otherwise) → ((node : ℕ) → o ≡ Some node → P (f node)) → P (by_hand o f otherwise)
by_hand_cases P f otherwise None none some = none refl
by_hand_cases P f otherwise (Some node) none some = some node refl

module _ (core : Core) (l : Ledger) (here t : ℕ) (thread : Thread) (cpu : Cpu) (next : List ℕ) where
  -- It goes on: the ledger still describes the structures, and one word more is known.
  pub record GoesOn (operation : Operation) (i : ℕ) (e : Effect) : Type 0 where
    pub frames : e.thread.frames ≡ (onward thread).frames
    pub depth : e.thread.depth ≡ thread.depth
    pub q : e.thread.q ≡ thread.q
    pub hand : e.thread.hand ≡ thread.hand
    pub current : e.cpu.current ≡ cpu.current
    pub known : Known core.sizes.packets e.cpu e.next e.thread operation (suc i)
    pub holds : Holds core.sizes (l.counters here) (l.lists here) (l.rings here) e.cpu e.next
    pub nexts : length e.next ≡ length next
    pub next_else : OnlyTheHandsNode thread.hand next e.next

  -- It settles: the operation, done whole by the ledger, gives the same answer and the same structures.
  pub record SettlesAs (o : Outcome) (e : Effect) (answer : Answer) : Type 0 where
    pub frames : e.thread.frames ≡ thread.frames
    pub depth : e.thread.depth ≡ thread.depth - 1
    pub hand : e.thread.hand ≡ o.ledger.hands t
    pub current : e.cpu.current ≡ cpu.current
    pub same_answer : answer ≡ o.answer
    pub holds : Holds core.sizes (o.ledger.counters here) (o.ledger.lists here) (o.ledger.rings here) e.cpu e.next
    pub nexts : length e.next ≡ length next
    pub next_else : OnlyTheHandsNode thread.hand next e.next

  abbrev pub whole : Operation → Outcome
  whole operation = does_whole core.sizes.packets l t here operation

  abbrev pub DoesRight : Operation → ℕ → Effect → Type 0
  DoesRight operation i e = ByAnswer e.answer (GoesOn operation i e) (SettlesAs (whole operation) e)

  abbrev pub step_of : Operation → ℕ → Effect
  step_of operation i = does core.sizes.packets core.image here thread cpu next operation (word_number operation i)

  abbrev KnownNow : Operation → ℕ → Type 0
  KnownNow operation i = Known core.sizes.packets cpu next thread operation i

  -- What stands, for the structures of the CPU and the thread's hand.
  module _
      (holds : Holds core.sizes (l.counters here) (l.lists here) (l.rings here) cpu next)
      (hand : thread.hand ≡ l.hands t)
      (few_counters : core.sizes.counters ≤ 8)
      (few_packets : core.sizes.packets ≤ 15)
      (hands_node : (node : ℕ) → l.hands t ≡ Some node → (0 < node) × (node < length next) × (among node (l.lists here) ≡ 0)) where
    -- Only registers change.
    gone : (operation : Operation) (i : ℕ) (th : Thread) → th.frames ≡ (onward thread).frames → th.depth ≡ thread.depth → th.q ≡ thread.q → th.hand ≡ thread.hand
        → Known core.sizes.packets cpu next th operation (suc i) → GoesOn operation i (record { thread = th; cpu = cpu; next = next; answer = None })
    gone operation i th f d q h known = record { frames = f; depth = d; q = q; hand = h; current = refl; known = known; holds = holds; nexts = refl; next_else = λ node ne. refl }

    -- The operation ends with nothing done.
    ended : (o : Outcome) (answer : Answer) → o ≡ stays core.sizes.packets l t here answer → SettlesAs o (settles thread cpu next answer) answer
    ended o answer is =
        subst (λ x. SettlesAs x (settles thread cpu next answer) answer) (sym is)
        (record { frames = refl; depth = refl; hand = hand; current = refl; same_answer = refl; holds = holds; nexts = refl; next_else = λ node ne. refl })

    -- ADD.
    adds : (counter amount : ℕ) → counter < core.sizes.counters → (i : ℕ) → KnownNow (Add counter amount) i → DoesRight (Add counter amount) i (step_of (Add counter amount) i)
    adds counter amount valid zero known = absurd known
    adds counter amount valid (suc zero) known = gone (Add counter amount) 1 _ refl refl refl refl refl
    adds counter amount valid (suc (suc zero)) known = gone (Add counter amount) 2 _ refl refl refl refl (ap (λ a. (a + amount) % 2 ^ 64) known)
    adds counter amount valid (suc (suc (suc zero))) known = record {
      frames = refl;
      depth = refl;
      hand = hand;
      current = refl;
      same_answer = refl;
      holds = record {
        eight_counters = length-set cpu.counters counter thread.a ∙ holds.eight_counters;
        sixteen_slots = holds.sixteen_slots;
        counts = counted;
        listed = holds.listed;
        ringed = record { at_most = holds.ringed.at_most; head_is_a_slot = holds.ringed.head_is_a_slot; slot = holds.ringed.slot; up_to_the_tail = holds.ringed.up_to_the_tail };
      };
      nexts = refl;
      next_else = λ node ne. refl;
    }
      where
        counted : (other : ℕ) → other < core.sizes.counters → get_or (set cpu.counters counter thread.a) other 0 ≡ (whole (Add counter amount)).ledger.counters here other
        counted =
            here_or_else (λ other. other < core.sizes.counters → get_or (set cpu.counters counter thread.a) other 0 ≡ (whole (Add counter amount)).ledger.counters here other) counter
            (λ below.
            get_or-set_same cpu.counters counter thread.a 0 (omega (arith, holds.eight_counters)) ∙ known ∙ ap (λ v. (v + amount) % 2 ^ 64) (holds.counts counter valid)
            ∙ sym (updated_here (l.counters here) counter _) ∙ ap (λ f. f counter) (sym (updated_here l.counters here _)))
            (λ other differs below.
            get_or-set_other cpu.counters counter other thread.a 0 differs ∙ holds.counts other below ∙ sym (updated_else (l.counters here) counter _ other differs)
            ∙ ap (λ f. f other) (sym (updated_here l.counters here _)))
    adds counter amount valid (suc (suc (suc (suc i)))) known = absurd known

    -- The structures with another list.
    with_list : (nodes : List ℕ) (head : ℕ) → Listed next head nodes → Holds core.sizes (l.counters here) (updated l.lists here nodes here) (l.rings here) (cpu_list cpu head) next
    with_list nodes head listed = record {
      eight_counters = holds.eight_counters;
      sixteen_slots = holds.sixteen_slots;
      counts = holds.counts;
      listed = subst (Listed next head) (sym (updated_here l.lists here nodes)) listed;
      ringed = record { at_most = holds.ringed.at_most; head_is_a_slot = holds.ringed.head_is_a_slot; slot = holds.ringed.slot; up_to_the_tail = holds.ringed.up_to_the_tail };
    }

    -- PUSH.
    pushes_right : (i : ℕ) → KnownNow Push i → DoesRight Push i (step_of Push i)
    pushes_right zero known = absurd known
    pushes_right (suc zero) known =
        by_hand_cases (DoesRight Push 1) _ _ thread.hand (λ none. ended (whole Push) _ (ap (pushes core.sizes.packets l t here) (sym hand ∙ none)))
        (λ node some. gone Push 1 _ refl refl refl refl (node, some))
    pushes_right (suc (suc zero)) (node, some) = gone Push 2 _ refl refl refl refl (node, some, refl)
    pushes_right (suc (suc (suc zero))) (node, some, a) =
        let safe = hands_node node (sym hand ∙ some) in
        subst (λ h. DoesRight Push 3 (by_hand h (λ n. goes thread cpu (set next n thread.a)) (goes thread cpu next))) (sym some)
        (record {
          frames = refl;
          depth = refl;
          q = refl;
          hand = refl;
          current = refl;
          known = (node, some, get_or-set_same next node thread.a 0 safe.1 ∙ a);
          holds = record {
            eight_counters = holds.eight_counters;
            sixteen_slots = holds.sixteen_slots;
            counts = holds.counts;
            listed =
                listed_same next (set next node thread.a) cpu.list (l.lists here)
                (λ other among_them. get_or-set_other next node other thread.a 0 (λ same. let e = ap (λ n. among n (l.lists here)) same in omega (arith, safe.2))) holds.listed;
            ringed = holds.ringed;
          };
          nexts = length-set next node thread.a;
          next_else = λ other ne. get_or-set_other next node other thread.a 0 (λ same. ne (some ∙ ap Some (sym same)));
        })
    pushes_right (suc (suc (suc (suc zero)))) (node, some, linked) =
        let safe = hands_node node (sym hand ∙ some) in
        subst (λ h. DoesRight Push 4 (by_hand h (λ n. settles (thread_hand thread None) (cpu_list cpu n) next Done) (goes thread cpu next))) (sym some)
        (subst (λ o. SettlesAs o (settles (thread_hand thread None) (cpu_list cpu node) next Done) Done) (ap (pushes core.sizes.packets l t here) (sym (sym hand ∙ some)))
        (record {
          frames = refl;
          depth = refl;
          hand = sym (updated_here l.hands t None);
          current = refl;
          same_answer = refl;
          holds = with_list (node ∷ l.lists here) node (safe.0, refl, subst (λ h. Listed next h (l.lists here)) (sym linked) holds.listed);
          nexts = refl;
          next_else = λ other ne. refl;
        }))
    pushes_right (suc (suc (suc (suc (suc i))))) known = absurd known

    -- POP.
    pops_right : (i : ℕ) → KnownNow Pop i → DoesRight Pop i (step_of Pop i)
    pops_right zero known = absurd known
    pops_right (suc zero) known =
        by_hand_cases (DoesRight Pop 1) _ _ thread.hand (λ none. gone Pop 1 _ refl refl refl refl none)
        (λ node some. ended (whole Pop) HandFull (ap (λ h. pops core.sizes.packets l t here h (l.lists here)) (sym hand ∙ some)))
    pops_right (suc (suc zero)) none = gone Pop 2 _ refl refl refl refl (none, refl)
    pops_right (suc (suc (suc zero))) (none, a) =
        cond_both (eqb thread.a 0) _ _ (DoesRight Pop 3)
        (λ is_zero.
        let empty : l.lists here ≡ [] = listed_none next cpu.list (l.lists here) holds.listed (sym a ∙ eqb-true thread.a 0 is_zero) in
        ended (whole Pop) Empty (ap (λ h. pops core.sizes.packets l t here h (l.lists here)) (sym hand ∙ none) ∙ ap (pops core.sizes.packets l t here None) empty))
        (λ not_zero. gone Pop 3 _ refl refl refl refl (none, a, (let ne = eqb-false thread.a 0 not_zero in ⊎_elim (λ z. absurd (ne (omega arith))) (λ p. p) (cases_lt thread.a 1))))
    pops_right (suc (suc (suc (suc zero)))) (none, a, some) = gone Pop 4 _ refl refl refl refl (none, a, some, refl)
    pops_right (suc (suc (suc (suc (suc zero))))) (none, a, some, b) =
        let front = listed_some next cpu.list (l.lists here) holds.listed (omega arith) in
        let is : whole Pop ≡ pops core.sizes.packets l t here None (cpu.list ∷ front.0) =
        ap (λ h. pops core.sizes.packets l t here h (l.lists here)) (sym hand ∙ none) ∙ ap (pops core.sizes.packets l t here None) front.1 in
        subst (λ o. SettlesAs o (settles (thread_hand thread (Some thread.a)) (cpu_list cpu thread.b) next (Got thread.a)) (Got thread.a)) (sym is)
        (record {
          frames = refl;
          depth = refl;
          hand = ap Some a ∙ sym (updated_here l.hands t (Some cpu.list));
          current = refl;
          same_answer = ap Got a;
          holds = with_list front.0 thread.b (subst (λ h. Listed next h front.0) (sym (b ∙ ap (λ n. get_or next n 0) a)) front.2);
          nexts = refl;
          next_else = λ other ne. refl;
        })
    pops_right (suc (suc (suc (suc (suc (suc i)))))) known = absurd known

    -- The structures with another ring.
    abbrev packets : ℕ
    packets = core.sizes.packets

    abbrev ring : List ℕ
    ring = l.rings here

    with_ring : (packets_there : List ℕ) (later : Cpu) → later.counters ≡ cpu.counters → later.list ≡ cpu.list → length later.slots ≡ length cpu.slots → RingFromASlot packets later packets_there
        → Holds core.sizes (l.counters here) (l.lists here) (updated l.rings here packets_there here) later next
    with_ring packets_there later counters list slots ringed = record {
      eight_counters = ap length counters ∙ holds.eight_counters;
      sixteen_slots = slots ∙ holds.sixteen_slots;
      counts = λ counter below. ap (λ cs. get_or cs counter 0) counters ∙ holds.counts counter below;
      listed = subst (λ h. Listed next h (l.lists here)) (sym list) holds.listed;
      ringed = subst (RingFromASlot packets later) (sym (updated_here l.rings here packets_there)) ringed;
    }

    abbrev with_packet : ℕ → Outcome
    with_packet amount = record { ledger = with_rings l (updated l.rings here (ring ++ (amount ∷ []))); answer = Done }

    -- PUT.
    puts_right : (amount i : ℕ) → KnownNow (Put amount) i → DoesRight (Put amount) i (step_of (Put amount) i)
    puts_right amount zero known = absurd known
    puts_right amount (suc zero) known = gone (Put amount) 1 _ refl refl refl refl refl
    puts_right amount (suc (suc zero)) a = gone (Put amount) 2 _ refl refl refl refl (a, refl)
    puts_right amount (suc (suc (suc zero))) (a, b) =
        cond_both (eqb ((thread.a + 1) % (packets + 1)) thread.b) _ _ (DoesRight (Put amount) 3)
        (λ meets.
        let full : packets ≤ length ring = full_ring packets cpu ring holds.ringed (ap (λ n. (n + 1) % (packets + 1)) (sym a) ∙ eqb-true _ thread.b meets ∙ b) in
        ended (whole (Put amount)) Full (ap (λ c. cond c (stays packets l t here Full) (with_packet amount)) (le-leb packets (length ring) full)))
        (λ differs. gone (Put amount) 3 _ refl refl refl refl (a, λ meets. eqb-false _ thread.b differs (ap (λ n. (n + 1) % (packets + 1)) a ∙ meets ∙ sym b)))
    puts_right amount (suc (suc (suc (suc zero)))) (a, room) = record {
      frames = refl;
      depth = refl;
      q = refl;
      hand = refl;
      current = refl;
      known = (a, room, ap (λ n. get_or (set cpu.slots n amount) cpu.tail 0) a ∙ get_or-set_same cpu.slots cpu.tail amount 0 (omega (arith, holds.sixteen_slots, tail_is_a_slot packets cpu ring holds.ringed)));
      holds = record {
        eight_counters = holds.eight_counters;
        sixteen_slots = length-set cpu.slots thread.a amount ∙ holds.sixteen_slots;
        counts = holds.counts;
        listed = holds.listed;
        ringed = record {
          at_most = holds.ringed.at_most;
          head_is_a_slot = holds.ringed.head_is_a_slot;
          slot = λ i below. get_or-set_other cpu.slots thread.a _ amount 0 (λ same. not_at_tail packets cpu ring holds.ringed i below (same ∙ a)) ∙ holds.ringed.slot i below;
          up_to_the_tail = holds.ringed.up_to_the_tail;
        };
      };
      nexts = refl;
      next_else = λ node ne. refl;
    }
    puts_right amount (suc (suc (suc (suc (suc zero))))) (a, room, stored) =
        let less : length ring < packets = room_in_ring packets cpu ring holds.ringed room in
        let longer : length (ring ++ (amount ∷ [])) ≡ length ring + 1 = length_push ring amount in
        subst (λ o. SettlesAs o (settles thread (cpu_tail cpu ((thread.a + 1) % (packets + 1))) next Done) Done) (sym (ap (λ c. cond c (stays packets l t here Full) (with_packet amount)) (lt-leb packets (length ring) less)))
        (record {
          frames = refl;
          depth = refl;
          hand = hand;
          current = refl;
          same_answer = refl;
          holds = with_ring (ring ++ (amount ∷ [])) (cpu_tail cpu ((thread.a + 1) % (packets + 1))) refl refl refl
              (record {
                at_most = omega arith;
                head_is_a_slot = holds.ringed.head_is_a_slot;
                slot = λ i below.
                    ⊎_elim (λ before. holds.ringed.slot i before ∙ sym (get_or_append_left ring (amount ∷ []) 0 i before))
                    (λ last.
                    let at : i ≡ length ring = omega arith in
                    ap (λ n. get_or cpu.slots ((cpu.head + n) % (packets + 1)) 0) at ∙ ap (λ n. get_or cpu.slots n 0) (sym holds.ringed.up_to_the_tail) ∙ stored ∙ sym (get_or_push ring amount 0 i (sym at)))
                    (cases_lt i (length ring));
                up_to_the_tail = ap (λ n. (n + 1) % (packets + 1)) a ∙ behind_tail packets cpu ring holds.ringed ∙ ap (λ n. (cpu.head + n) % (packets + 1)) (sym longer);
              });
          nexts = refl;
          next_else = λ node ne. refl;
        })
    puts_right amount (suc (suc (suc (suc (suc (suc i)))))) known = absurd known

    -- TAKE.
    takes_right : (i : ℕ) → KnownNow Take i → DoesRight Take i (step_of Take i)
    takes_right zero known = absurd known
    takes_right (suc zero) known = gone Take 1 _ refl refl refl refl refl
    takes_right (suc (suc zero)) b = gone Take 2 _ refl refl refl refl (b, refl)
    takes_right (suc (suc (suc zero))) (b, a) =
        cond_both (eqb thread.a thread.b) _ _ (DoesRight Take 3)
        (λ meets.
        ended (whole Take) Empty (ap (takes packets l t here) (nil_from_length ring (empty_ring packets cpu ring holds.ringed (sym a ∙ eqb-true thread.a thread.b meets ∙ b)))))
        (λ differs. gone Take 3 _ refl refl refl refl (b, λ meets. eqb-false thread.a thread.b differs (a ∙ meets ∙ sym b)))
    takes_right (suc (suc (suc (suc zero)))) (b, apart) = gone Take 4 _ refl refl refl refl (b, apart, ap (λ n. get_or cpu.slots n 0) b)
    takes_right (suc (suc (suc (suc (suc zero))))) (b, apart, w) = taken (l.rings here) refl holds.ringed (filled_ring packets cpu ring holds.ringed apart)
      where
        taken : (there : List ℕ) → ring ≡ there → RingFromASlot packets cpu there → 0 < length there
            → SettlesAs (whole Take) (settles thread (cpu_head cpu ((thread.b + 1) % (packets + 1))) next (Got thread.w)) (Got thread.w)
        taken [] is r some = absurd (omega arith)
        taken (packet ∷ rest) is r some =
            subst (λ o. SettlesAs o (settles thread (cpu_head cpu ((thread.b + 1) % (packets + 1))) next (Got thread.w)) (Got thread.w)) (ap (takes packets l t here) (sym is))
            (record {
              frames = refl;
              depth = refl;
              hand = hand;
              current = refl;
              same_answer = ap Got (w ∙ ap (λ n. get_or cpu.slots n 0) (sym (ap (λ n. n % (packets + 1)) (omega arith) ∙ head_itself packets cpu (packet ∷ rest) r)) ∙ r.slot 0 some);
              holds = with_ring rest (cpu_head cpu ((thread.b + 1) % (packets + 1))) refl refl refl
                  (record {
                    at_most = omega (arith, r.at_most);
                    head_is_a_slot = let h = mod-lt (thread.b + 1) {m = packets + 1} (omega arith) in omega arith;
                    slot = λ i below. ap (λ n. get_or cpu.slots n 0) (further_on i) ∙ r.slot (suc i) (omega arith);
                    up_to_the_tail = r.up_to_the_tail ∙ sym (further_on (length rest));
                  });
              nexts = refl;
              next_else = λ node ne. refl;
            })
          where
            further_on : (i : ℕ) → ((thread.b + 1) % (packets + 1) + i) % (packets + 1) ≡ (cpu.head + suc i) % (packets + 1)
            further_on i = mod-add-mod (thread.b + 1) (packets + 1) i ∙ ap (λ n. (n + 1 + i) % (packets + 1)) b ∙ ap (λ n. n % (packets + 1)) (omega arith)
    takes_right (suc (suc (suc (suc (suc (suc i)))))) known = absurd known

    -- Every word but the first of a section, of every operation.
    pub does_right : (operation : Operation) (i : ℕ) → Valid core.sizes operation → KnownNow operation i → DoesRight operation i (step_of operation i)
    does_right (Add counter amount) i valid known = adds counter amount valid i known
    does_right Push i valid known = pushes_right i known
    does_right Pop i valid known = pops_right i known
    does_right (Put amount) i valid known = puts_right amount i known
    does_right Take i valid known = takes_right i known
