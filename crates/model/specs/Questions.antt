-- What the questions tell: a counter of a CPU, a thread's hand, and the item at a position of a CPU's list or ring, or none.
-- Positions count from 0. A question leaves machine and exclusion as they are.
use Rattle.std.specs.Prelude.{◌≡◌, ℕ, zero, suc, ◌+◌, ◌%◌, ◌<◌, Bool, cond, List, [], ◌∷◌, Some, None, Ok, Option, Result, nat_eq, nat_lt, slice_index}
use Rattle.faults.specs.declared.Fault.{Fault}
use Rattle.faults.specs.declared.Refusal.TheVariants.{NoOperation}
use Rattle.image.specs.declared.fields.Sizes.{Sizes}
use Rattle.image.specs.Checks.{Check, first_failing}
use Rattle.model.specs.declared.state.Cpu.{Cpu}
use Rattle.model.specs.declared.state.Core.{Core}
use Rattle.model.specs.State.{thread_at, cpu_at}
use Rattle.model.specs.Calls.{check, has_cpu, has_thread}
use Rattle.model.specs.Ledger.{Ledger}

-- Where one is after so many steps from a place on, or none where the end is met on the way.
unfoldable pub reached : (ℕ → Bool) → (ℕ → ℕ) → ℕ → ℕ → Option ℕ
reached ends onward place zero = cond (ends place) None (Some place)
reached ends onward place (suc steps) = cond (ends place) None (reached ends onward (onward place) steps)

-- What lies at a place that was reached.
abbrev pub item_there : (ℕ → ℕ) → Option ℕ → Option ℕ
item_there item None = None
item_there item (Some place) = Some (item place)

module _ (core : Core) where
  -- A list goes from its head through the next words and ends at 0.
  abbrev pub list_item : Cpu → ℕ → Option ℕ
  list_item cpu position = reached (λ node. nat_eq node 0) (λ node. slice_index core.next node) cpu.list position

  -- A ring goes from its head from slot to slot, the first behind the last, and ends at its tail.
  abbrev pub ring_item : Cpu → ℕ → Option ℕ
  ring_item cpu position =
      item_there (λ slot. slice_index cpu.slots slot) (reached (λ slot. nat_eq slot cpu.tail) (λ slot. (slot + 1) % (core.sizes.packets + 1)) cpu.head position)

  abbrev pub has_counter : ℕ → Check
  has_counter counter = check (nat_lt counter core.sizes.counters) NoOperation

  abbrev pub counter_told : ℕ → ℕ → Result ℕ Fault
  counter_told cpu counter = first_failing (slice_index (cpu_at core cpu).counters counter) (has_cpu core cpu ∷ has_counter counter ∷ [])

  abbrev pub hand_told : ℕ → Result (Option ℕ) Fault
  hand_told thread = first_failing (thread_at core thread).hand (has_thread core thread ∷ [])

  abbrev pub list_item_told : ℕ → ℕ → Result (Option ℕ) Fault
  list_item_told cpu position = first_failing (list_item (cpu_at core cpu) position) (has_cpu core cpu ∷ [])

  abbrev pub ring_item_told : ℕ → ℕ → Result (Option ℕ) Fault
  ring_item_told cpu position = first_failing (ring_item (cpu_at core cpu) position) (has_cpu core cpu ∷ [])

-- The item at a position of a plain list, counted from 0, or none.
abbrev pub item_at : List ℕ → ℕ → Option ℕ
item_at [] position = None
item_at (item ∷ items) zero = Some item
item_at (item ∷ items) (suc position) = item_at items position

-- The questions tell what the ledger holds.
pub record QuestionsTell (sizes : Sizes) (l : Ledger) (core : Core) : Type 0 where
  pub counters : (cpu counter : ℕ) → cpu < sizes.cpus → counter < sizes.counters → counter_told core cpu counter ≡ Ok (l.counters cpu counter)
  pub list_items : (cpu position : ℕ) → cpu < sizes.cpus → list_item_told core cpu position ≡ Ok (item_at (l.lists cpu) position)
  pub ring_items : (cpu position : ℕ) → cpu < sizes.cpus → ring_item_told core cpu position ≡ Ok (item_at (l.rings cpu) position)
  pub hands : (thread : ℕ) → thread < sizes.threads → hand_told core thread ≡ Ok (l.hands thread)
