-- What the questions tell where the structures and hands are the ledger's.
use Rattle.std.proofs.Common.{◌≡◌, ℕ, zero, suc, ◌+◌, ◌%◌, ◌<◌, ◌≤◌, Bool, true, false, cond, eqb, ltb, List, [], ◌∷◌, length, get_or, Some, None, Ok, sym, ap, ◌∙◌, mod-eq_of_lt, arith}
use Rattle.std.proofs.lemmas.Bool.{lt-ltb, eq-eqb, ne_eqb, cond-true}
use Rattle.model.specs.declared.state.Cpu.{Cpu}
use Rattle.model.specs.State.{cpu_at}
use Rattle.model.specs.Questions.{reached, item_there, item_at}
use Rattle.model.specs.Claims.{Listed, InRing}
use Rattle.model.specs.Laws.{AgreeingQuestionsTell}
use native.Mathlib.Nat.{mod-add-mod}
use Rattle.model.proofs.Rings.{further}

module _ (ends : ℕ → Bool) (onward : ℕ → ℕ) where
  pub reached_ends : (place steps : ℕ) → ends place ≡ true → reached ends onward place steps ≡ None
  unfolding reached
  reached_ends place zero e = ap (λ b. cond b None (Some place)) e
  reached_ends place (suc steps) e = ap (λ b. cond b None (reached ends onward (onward place) steps)) e

  pub reached_here : (place : ℕ) → ends place ≡ false → reached ends onward place 0 ≡ Some place
  unfolding reached
  reached_here place e = ap (λ b. cond b None (Some place)) e

  pub reached_on : (place steps : ℕ) → ends place ≡ false → reached ends onward place (suc steps) ≡ reached ends onward (onward place) steps
  unfolding reached
  reached_on place steps e = ap (λ b. cond b None (reached ends onward (onward place) steps)) e

-- A list.
listed_item : (next : List ℕ) (head : ℕ) (nodes : List ℕ) (position : ℕ) → Listed next head nodes → reached (λ node. eqb node 0) (λ node. get_or next node 0) head position ≡ item_at nodes position
listed_item next head [] position l = reached_ends (λ node. eqb node 0) (λ node. get_or next node 0) head position (eq-eqb head 0 l)
listed_item next head (node ∷ nodes) zero (some, is, rest) = reached_here (λ n. eqb n 0) (λ n. get_or next n 0) head (ne_eqb head 0 (λ e. omega arith)) ∙ ap Some is
listed_item next head (node ∷ nodes) (suc position) (some, is, rest) =
    reached_on (λ n. eqb n 0) (λ n. get_or next n 0) head position (ne_eqb head 0 (λ e. omega arith)) ∙ ap (λ n. reached (λ n. eqb n 0) (λ n. get_or next n 0) (get_or next n 0) position) is
    ∙ listed_item next (get_or next node 0) nodes position rest

-- A ring, from one of its slots on.
module _ (slots : List ℕ) (packets start tail : ℕ) where
  more : (packet : ℕ) (ring : List ℕ) (i : ℕ) → i + length (packet ∷ ring) ≤ packets → tail ≡ (start + (i + length (packet ∷ ring))) % (packets + 1) → eqb ((start + i) % (packets + 1)) tail ≡ false
  more packet ring i few ends =
      ne_eqb _ tail
      (λ same. further (packets + 1) (start + i) (length (packet ∷ ring)) (omega arith) (omega arith) (ap (λ k. k % (packets + 1)) (omega arith) ∙ sym ends ∙ sym same))

  ringed : (ring : List ℕ) (i position : ℕ) → i + length ring ≤ packets → tail ≡ (start + (i + length ring)) % (packets + 1)
      → ((j : ℕ) → j < length ring → get_or slots ((start + (i + j)) % (packets + 1)) 0 ≡ get_or ring j 0)
      → item_there (λ slot. get_or slots slot 0) (reached (λ slot. eqb slot tail) (λ slot. (slot + 1) % (packets + 1)) ((start + i) % (packets + 1)) position) ≡ item_at ring position
  ringed [] i position few ends holds =
      ap (item_there (λ slot. get_or slots slot 0))
      (reached_ends (λ slot. eqb slot tail) (λ slot. (slot + 1) % (packets + 1)) ((start + i) % (packets + 1)) position (eq-eqb _ tail (ap (λ k. (start + k) % (packets + 1)) (omega arith) ∙ sym ends)))
  ringed (packet ∷ ring) i zero few ends holds =
      ap (item_there (λ slot. get_or slots slot 0)) (reached_here (λ slot. eqb slot tail) (λ slot. (slot + 1) % (packets + 1)) ((start + i) % (packets + 1)) (more packet ring i few ends))
      ∙ ap Some (ap (λ k. get_or slots (k % (packets + 1)) 0) (omega arith) ∙ holds 0 (omega arith))
  ringed (packet ∷ ring) i (suc position) few ends holds =
      ap (item_there (λ slot. get_or slots slot 0)) (reached_on (λ slot. eqb slot tail) (λ slot. (slot + 1) % (packets + 1)) ((start + i) % (packets + 1)) position (more packet ring i few ends))
      ∙ ap (λ k. item_there (λ slot. get_or slots slot 0) (reached (λ slot. eqb slot tail) (λ slot. (slot + 1) % (packets + 1)) k position)) (mod-add-mod (start + i) (packets + 1) 1 ∙ ap (λ k. k % (packets + 1)) (omega arith))
      ∙ ringed ring (i + 1) position (omega arith) (ends ∙ ap (λ k. (start + k) % (packets + 1)) (omega arith)) (λ j h. ap (λ k. get_or slots (k % (packets + 1)) 0) (omega arith) ∙ holds (suc j) (omega arith))

ring_told : (packets : ℕ) (cpu : Cpu) (ring : List ℕ) (position : ℕ) → cpu.head ≤ packets → InRing packets cpu ring
    → item_there (λ slot. get_or cpu.slots slot 0) (reached (λ slot. eqb slot cpu.tail) (λ slot. (slot + 1) % (packets + 1)) cpu.head position) ≡ item_at ring position
ring_told packets cpu ring position head r =
    ap (λ k. item_there (λ slot. get_or cpu.slots slot 0) (reached (λ slot. eqb slot cpu.tail) (λ slot. (slot + 1) % (packets + 1)) k position))
    (sym (ap (λ k. k % (packets + 1)) (omega arith) ∙ mod-eq_of_lt (omega arith)))
    ∙ ringed cpu.slots packets cpu.head cpu.tail ring 0 position (let h = r.at_most in omega arith) (r.up_to_the_tail ∙ ap (λ k. (cpu.head + k) % (packets + 1)) (omega arith))
    (λ j h. ap (λ k. get_or cpu.slots ((cpu.head + k) % (packets + 1)) 0) (omega arith) ∙ r.slot j h)

-- The checks pass.
pub agreeing_tell : AgreeingQuestionsTell
agreeing_tell l core agree heads = record {
  counters = λ cpu counter c k. cond-true (ltb cpu core.sizes.cpus) _ _ (lt-ltb cpu core.sizes.cpus c) ∙ cond-true (ltb counter core.sizes.counters) _ _ (lt-ltb counter core.sizes.counters k) ∙ ap Ok (agree.counters cpu counter c k);
  list_items = λ cpu position c. cond-true (ltb cpu core.sizes.cpus) _ _ (lt-ltb cpu core.sizes.cpus c) ∙ ap Ok (listed_item core.next (cpu_at core cpu).list (l.lists cpu) position (agree.lists cpu c));
  ring_items = λ cpu position c. cond-true (ltb cpu core.sizes.cpus) _ _ (lt-ltb cpu core.sizes.cpus c) ∙ ap Ok (ring_told core.sizes.packets (cpu_at core cpu) (l.rings cpu) position (heads cpu c) (agree.rings cpu c));
  hands = λ thread t. cond-true (ltb thread core.sizes.threads) _ _ (lt-ltb thread core.sizes.threads t) ∙ ap Ok (agree.hands thread t);
}
