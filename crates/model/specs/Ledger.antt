-- The ledger: a second description of the structures, which does each operation whole and alone. It knows nothing of words,
-- places, registers, frames or sections; it is fed each call with its operands and what became of it, and never looks at the
-- machine.
use Rattle.std.specs.Prelude.{ℕ, suc, ◌+◌, ◌%◌, ◌^◌, cond, List, [], ◌∷◌, ◌++◌, length, Some, None, Option, ◌==◌, nat_le}
use Rattle.image.specs.declared.fields.Sizes.{Sizes}
use Rattle.calls.specs.declared.Call.{Call}
use Rattle.calls.specs.declared.Call.TheVariants as call
use Rattle.model.specs.declared.state.Operation.{Operation}
use Rattle.model.specs.declared.state.Operation.TheVariants.{Add, Push, Pop, Put, Take}
use Rattle.model.specs.declared.state.Answer.{Answer}
use Rattle.model.specs.declared.state.Answer.TheVariants.{Done, Got, Empty, Full, NoNode, HandFull}
use Rattle.model.specs.declared.state.Settling.{Settling}
use Rattle.model.specs.State.{tabulated}
use Rattle.model.specs.Calls.{Answered, refused, accepted, ran, advanced, operation_of}

-- An operation that waits in a thread, known by the number of the call that brought it.
pub record Waiting : Type 0 where
  pub call : ℕ
  pub operation : Operation

-- Counters, lists and rings by CPU, hands and waiting operations by thread, the latest first, and each CPU's thread.
pub record Ledger : Type 0 where
  pub counters : ℕ → ℕ → ℕ
  pub lists : ℕ → List ℕ
  pub rings : ℕ → List ℕ
  pub hands : ℕ → Option ℕ
  pub current : ℕ → Option ℕ
  pub waiting : ℕ → List Waiting

-- A function with another value at one argument.
abbrev pub updated : {A : Type 0} → (ℕ → A) → ℕ → A → ℕ → A
updated f i x j = cond (j == i) x (f j)

-- Boot's structures: nodes 1 to N on CPU 0's list, all else empty.
abbrev pub new_ledger : Sizes → Ledger
new_ledger sizes = record {
  counters = λ cpu counter. 0;
  lists = updated (λ cpu. []) 0 (tabulated sizes.nodes suc);
  rings = λ cpu. [];
  hands = λ thread. None;
  current = λ cpu. None;
  waiting = λ thread. [];
}

-- A whole operation: the ledger after it and its answer.
pub record Outcome : Type 0 where
  pub ledger : Ledger
  pub answer : Answer

module _ (l : Ledger) where
  abbrev pub with_counters : (ℕ → ℕ → ℕ) → Ledger
  with_counters x = record { counters = x; lists = l.lists; rings = l.rings; hands = l.hands; current = l.current; waiting = l.waiting }

  abbrev pub with_lists_and_hands : (ℕ → List ℕ) → (ℕ → Option ℕ) → Ledger
  with_lists_and_hands x y = record { counters = l.counters; lists = x; rings = l.rings; hands = y; current = l.current; waiting = l.waiting }

  abbrev pub with_rings : (ℕ → List ℕ) → Ledger
  with_rings x = record { counters = l.counters; lists = l.lists; rings = x; hands = l.hands; current = l.current; waiting = l.waiting }

  abbrev pub with_current : (ℕ → Option ℕ) → Ledger
  with_current x = record { counters = l.counters; lists = l.lists; rings = l.rings; hands = l.hands; current = x; waiting = l.waiting }

  abbrev pub with_waiting : (ℕ → List Waiting) → Ledger
  with_waiting x = record { counters = l.counters; lists = l.lists; rings = l.rings; hands = l.hands; current = l.current; waiting = x }

module _ (packets : ℕ) (l : Ledger) (thread cpu : ℕ) where
  abbrev pub stays : Answer → Outcome
  stays answer = record { ledger = l; answer = answer }

  -- No node with an empty hand; else the node in hand goes to the front of the list.
  abbrev pub pushes : Option ℕ → Outcome
  pushes None = stays NoNode
  pushes (Some node) = record { ledger = with_lists_and_hands l (updated l.lists cpu (node ∷ l.lists cpu)) (updated l.hands thread None); answer = Done }

  -- Hand full with a node in hand, else none on an empty list, else the front node goes into the hand.
  abbrev pub pops : Option ℕ → List ℕ → Outcome
  pops (Some node) nodes = stays HandFull
  pops None [] = stays Empty
  pops None (node ∷ nodes) = record { ledger = with_lists_and_hands l (updated l.lists cpu nodes) (updated l.hands thread (Some node)); answer = Got node }

  -- None on no packet, else the front one leaves.
  abbrev pub takes : List ℕ → Outcome
  takes [] = stays Empty
  takes (packet ∷ rest) = record { ledger = with_rings l (updated l.rings cpu rest); answer = Got packet }

  abbrev pub does_whole : Operation → Outcome
  does_whole (Add counter amount) = record {
    ledger = with_counters l (updated l.counters cpu (updated (l.counters cpu) counter ((l.counters cpu counter + amount) % 2 ^ 64)));
    answer = Done;
  }
  does_whole Push = pushes (l.hands thread)
  does_whole Pop = pops (l.hands thread) (l.lists cpu)
  does_whole (Put amount) = cond (nat_le packets (length (l.rings cpu))) (stays Full) (record { ledger = with_rings l (updated l.rings cpu (l.rings cpu ++ (amount ∷ []))); answer = Done })
  does_whole Take = takes (l.rings cpu)

-- What became of a call.
pub data Fate : Type 0 where
  was_refused : Fate
  was_accepted : Fate
  has_settled : Fate

abbrev pub by_settling : Option Settling → Fate
by_settling None = was_accepted
by_settling (Some settling) = has_settled

abbrev pub fate_of : Answered → Fate
fate_of (refused fault) = was_refused
fate_of accepted = was_accepted
fate_of (ran settling) = by_settling settling
fate_of (advanced count settling) = by_settling settling

-- What a call brings to the ledger: the ledger after it, the settling that it gives, if any, and the operation that settled.
pub record Fed : Type 0 where
  pub ledger : Ledger
  pub settling : Option Settling
  pub done : List Waiting

abbrev pub quiet : Ledger → Fed
quiet l = record { ledger = l; settling = None; done = [] }

-- An operation goes on top of those waiting in a thread.
abbrev pub brings : Ledger → ℕ → ℕ → Option Operation → Ledger
brings l number thread None = l
brings l number thread (Some operation) = with_waiting l (updated l.waiting thread (record { call = number; operation = operation } ∷ l.waiting thread))

-- The top operation of a thread is done whole on a CPU.
abbrev pub settle_top : ℕ → Ledger → ℕ → ℕ → List Waiting → Fed
settle_top packets l thread cpu [] = quiet l
settle_top packets l thread cpu (top ∷ rest) =
    let o = does_whole packets l thread cpu top.operation in
    record {
      ledger = with_waiting o.ledger (updated o.ledger.waiting thread rest);
      settling = Some (record { thread = thread; operation = top.operation; cpu = cpu; answer = o.answer });
      done = top ∷ [];
    }

abbrev pub settle_on : ℕ → Ledger → ℕ → Option ℕ → Fed
settle_on packets l cpu None = quiet l
settle_on packets l cpu (Some thread) = settle_top packets l thread cpu (l.waiting thread)

abbrev pub takes_in : Sizes → Ledger → ℕ → Call → Fate → Fed
takes_in sizes l number c was_refused = quiet l
takes_in sizes l number (call.Enlist thread raw) was_accepted = quiet (brings l number thread (operation_of sizes raw))
takes_in sizes l number (call.Signal thread raw) was_accepted = quiet (brings l number thread (operation_of sizes raw))
takes_in sizes l number (call.Switch cpu thread) was_accepted = quiet (with_current l (updated l.current cpu (Some thread)))
takes_in sizes l number (call.Idle cpu) was_accepted = quiet (with_current l (updated l.current cpu None))
takes_in sizes l number (call.Run cpu) was_accepted = quiet l
takes_in sizes l number (call.Advance cpu n) was_accepted = quiet l
takes_in sizes l number (call.Enlist thread raw) has_settled = quiet l
takes_in sizes l number (call.Signal thread raw) has_settled = quiet l
takes_in sizes l number (call.Switch cpu thread) has_settled = quiet l
takes_in sizes l number (call.Idle cpu) has_settled = quiet l
takes_in sizes l number (call.Run cpu) has_settled = settle_on sizes.packets l cpu (l.current cpu)
takes_in sizes l number (call.Advance cpu n) has_settled = settle_on sizes.packets l cpu (l.current cpu)
