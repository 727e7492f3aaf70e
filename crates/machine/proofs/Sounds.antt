-- What the calls do keeps a machine sound.
use Rattle.std.proofs.Common.{◌≡◌, ℕ, zero, suc, ◌<◌, eqb, List, [], ◌∷◌, get_or, set, Some, None, Option, unwrap_or, sym, refl, subst}
use Rattle.std.proofs.lemmas.Bool.{cond_both}
use Rattle.words.specs.declared.Word.{Word}
use Rattle.words.specs.declared.Word.TheVariants.{Enter, ReadCpu, LoadCounter, AddAmount, StoreCounter, NeedNode, NeedEmptyHand, LoadListHead, LinkNode, PushNode, NeedListed, LoadNext, PopNode, LoadTail, LoadRingHead, NeedRoom, StorePacket, AdvanceTail, NeedPacket, LoadPacket, AdvanceRingHead, Restart}
use Rattle.model.specs.declared.state.Operation.{Operation}
use Rattle.model.specs.declared.state.Operation.TheVariants.{Add, Push, Pop, Put, Take}
use Rattle.model.specs.declared.state.Thread.{Thread}
use Rattle.model.specs.declared.state.Cpu.{Cpu}
use Rattle.model.specs.declared.state.Image.{Image}
use Rattle.model.specs.declared.state.Core.{Core}
use Rattle.model.specs.State.{no_cpu, no_thread, thread_at, cpu_at, top_frame}
use Rattle.model.specs.Words.{Effect, by_add, by_put, performed}
use Rattle.lives.proofs.Midway.{by_hand_cases}
use Rattle.machine.specs.Sound.{Sound}
use Rattle.lives.specs.Apart.{does, does_here, word_here}

-- What holds of each element, and of the new one, holds of each after a write.
pub all_set : {A : Type 0} (P : A → Type 0) (xs : List A) (i : ℕ) (x d : A) → P x → ((k : ℕ) → P (get_or xs k d)) → (k : ℕ) → P (get_or (set xs i x) k d)
all_set P [] i x d p h k = h k
all_set P (y ∷ ys) zero x d p h zero = p
all_set P (y ∷ ys) zero x d p h (suc k) = h (suc k)
all_set P (y ∷ ys) (suc i) x d p h zero = h zero
all_set P (y ∷ ys) (suc i) x d p h (suc k) = all_set P ys i x d p (λ j. h (suc j)) k

-- A CPU keeps its thread through every word, and register q stays a CPU's number.
module _ (packets : ℕ) (image : Image) (here : ℕ) (thread : Thread) (cpu : Cpu) (next : List ℕ) (below : here < 8) (q : thread.q < 8) where
  abbrev Kept : Effect → Type 0
  Kept e = (e.cpu.current ≡ cpu.current) × (e.thread.q < 8)

  kept_add : (operation : Operation) (f : ℕ → ℕ → Effect) (otherwise : Effect) → ((k x : ℕ) → Kept (f k x)) → Kept otherwise → Kept (by_add operation f otherwise)
  kept_add (Add counter amount) f otherwise p r = p counter amount
  kept_add Push f otherwise p r = r
  kept_add Pop f otherwise p r = r
  kept_add (Put amount) f otherwise p r = r
  kept_add Take f otherwise p r = r

  kept_put : (operation : Operation) (f : ℕ → Effect) (otherwise : Effect) → ((x : ℕ) → Kept (f x)) → Kept otherwise → Kept (by_put operation f otherwise)
  kept_put (Add counter amount) f otherwise p r = r
  kept_put Push f otherwise p r = r
  kept_put Pop f otherwise p r = r
  kept_put (Put amount) f otherwise p r = p amount
  kept_put Take f otherwise p r = r

  kept_word : (operation : Operation) (w : Word) → Kept (does packets image here thread cpu next operation w)
  kept_word operation Enter = (refl, q)
  kept_word operation ReadCpu = (refl, below)
  kept_word operation LoadCounter = kept_add operation _ _ (λ k x. (refl, q)) (refl, q)
  kept_word operation AddAmount = kept_add operation _ _ (λ k x. (refl, q)) (refl, q)
  kept_word operation StoreCounter = kept_add operation _ _ (λ k x. (refl, q)) (refl, q)
  kept_word operation NeedNode = by_hand_cases Kept _ _ thread.hand (λ none. (refl, q)) (λ node some. (refl, q))
  kept_word operation NeedEmptyHand = by_hand_cases Kept _ _ thread.hand (λ none. (refl, q)) (λ node some. (refl, q))
  kept_word operation LoadListHead = (refl, q)
  kept_word operation LinkNode = by_hand_cases Kept _ _ thread.hand (λ none. (refl, q)) (λ node some. (refl, q))
  kept_word operation PushNode = by_hand_cases Kept _ _ thread.hand (λ none. (refl, q)) (λ node some. (refl, q))
  kept_word operation NeedListed = cond_both (eqb thread.a 0) _ _ Kept (λ e. (refl, q)) (λ e. (refl, q))
  kept_word operation LoadNext = (refl, q)
  kept_word operation PopNode = (refl, q)
  kept_word operation LoadTail = (refl, q)
  kept_word operation LoadRingHead = (refl, q)
  kept_word operation NeedRoom = cond_both (eqb _ thread.b) _ _ Kept (λ e. (refl, q)) (λ e. (refl, q))
  kept_word operation StorePacket = kept_put operation _ _ (λ x. (refl, q)) (refl, q)
  kept_word operation AdvanceTail = (refl, q)
  kept_word operation NeedPacket = cond_both (eqb thread.a thread.b) _ _ Kept (λ e. (refl, q)) (λ e. (refl, q))
  kept_word operation LoadPacket = (refl, q)
  kept_word operation AdvanceRingHead = (refl, q)
  kept_word operation Restart = (refl, q)

  kept_here : (operation : Operation) (o : Option Word) → Kept (does_here packets image here thread cpu next operation o)
  kept_here operation None = (refl, q)
  kept_here operation (Some w) = kept_word operation w

abbrev HasThread : Cpu → Type 0
HasThread cpu = unwrap_or cpu.current 0 < 16

pub performed_sound : (core : Core) (c t : ℕ) → Sound core → c < 8 → Sound (performed core c t).core
performed_sound core c t s below =
    let kept = kept_here core.sizes.packets core.image c (thread_at core t) (cpu_at core (thread_at core t).q) core.next below (s.4 t) (top_frame (thread_at core t)).operation (word_here core.image (top_frame (thread_at core t)).place) in (
      s.0,
      s.1,
      s.2,
      all_set HasThread core.cpus (thread_at core t).q _ no_cpu (subst (λ o. unwrap_or o 0 < 16) (sym kept.0) (s.3 (thread_at core t).q)) s.3,
      all_set (λ (x : Thread). x.q < 8) core.threads t _ no_thread kept.1 s.4,
    )
