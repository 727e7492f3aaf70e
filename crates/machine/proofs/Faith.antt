-- What the calls do keeps every life faithful, and the questions tell what the ledger holds.
use Rattle.std.proofs.Common.{◌≡◌, ℕ, List, [], ◌∷◌, Ok, Option, Result, ap, ◌∙◌, subst}
use Rattle.faults.specs.declared.Fault.{Fault}
use Rattle.image.specs.declared.fields.Sizes.{Sizes}
use Rattle.calls.specs.declared.Call.{Call}
use Rattle.exclusion.specs.declared.meaning.Notice.{Notice}
use Rattle.exclusion.specs.declared.meaning.Verdict.{Verdict}
use Rattle.exclusion.specs.Meaning.{Meaning, Shaped, Obeys, Says}
use Rattle.model.specs.declared.state.Core.{Core}
use Rattle.model.specs.Calls.{Answered, Step, Boots}
use Rattle.model.specs.Questions.{counter_told, hand_told, list_item_told, ring_item_told}
use Rattle.model.specs.Life.{Event, Life, booted, lived}
use Rattle.lives.specs.Whole.{WhollyFaithful}
use Rattle.lives.proofs.Faithful.{every_life_is_wholly_faithful}
use Rattle.machine.specs.Promises.{BeginsFaithful, StaysFaithful, CounterOfTheLedger, HandOfTheLedger, ListItemOfTheLedger, RingItemOfTheLedger}

-- For an exclusion that has the meaning that its laws say.
module _ {E : Type 0} {meaning : E → Meaning} {told : E → Notice → E → Type 0} {answers : E → ℕ → ℕ → ℕ → Verdict → Type 0} (shaped : (e : E) → Shaped (meaning e))
    (obeys : (e : E) (n : Notice) (f : E) → told e n f → Obeys (meaning e) n (meaning f)) (says : (e : E) (cpu armed place : ℕ) (v : Verdict) → answers e cpu armed place v → Says (meaning e) cpu armed place v) where
  holds : (sizes : Sizes) (past : List Event) (m : Core × E) → Life meaning told answers sizes past m → WhollyFaithful meaning told answers sizes past m
  holds = every_life_is_wholly_faithful meaning told answers (record { shaped = shaped; obeys = obeys; says = says })

  stays : (m : Core × E) (x : Call) (r : Answered) (k : Core × E) → Step told answers m x r k → StaysFaithful meaning told answers m x r k
  stays m x r k step sizes past life = holds sizes (record { call = x; answer = r } ∷ past) k (lived (record { call = x; answer = r }) life step)

  -- The same of a machine as it is seen.
  pub stays_seen : {i m : Core × E} {x : Call} {r : Answered} {k : Core × E} → i ≡ m → Step told answers i x r k → StaysFaithful meaning told answers m x r k
  stays_seen {m = m} {x} {r} {k} seen step = stays m x r k (subst (λ (n : Core × E). Step told answers n x r k) seen step)

  pub begins : {sizes : Sizes} (signature : ℕ) (table text : List ℕ) {e : E} {m : Core × E} → Boots told answers meaning sizes signature table text e (Ok m) → BeginsFaithful meaning told answers sizes m
  begins {sizes} signature table text {e} {m} boots = let life = booted signature table text e boots in (life, holds sizes [] m life)

  -- What a question tells of the state is what the ledger holds.
  module _ {i m : Core × E} (seen : i ≡ m) where
    pub counter_told_so : {cpu counter : ℕ} {r : Result ℕ Fault} → r ≡ counter_told i.0 cpu counter → CounterOfTheLedger meaning told answers m cpu counter r
    counter_told_so {cpu} {counter} {r} is =
        λ sizes past life c k. is ∙ ap (λ (n : Core × E). counter_told n.0 cpu counter) seen ∙ (holds sizes past m life).questions_tell.counters cpu counter c k

    pub hand_told_so : {thread : ℕ} {r : Result (Option ℕ) Fault} → r ≡ hand_told i.0 thread → HandOfTheLedger meaning told answers m thread r
    hand_told_so {thread} {r} is =
        λ sizes past life t. is ∙ ap (λ (n : Core × E). hand_told n.0 thread) seen ∙ (holds sizes past m life).questions_tell.hands thread t

    pub list_item_told_so : {cpu : ℕ} (position : ℕ) {r : Result (Option ℕ) Fault} → r ≡ list_item_told i.0 cpu position → ListItemOfTheLedger meaning told answers m cpu position r
    list_item_told_so {cpu} position {r} is =
        λ sizes past life c. is ∙ ap (λ (n : Core × E). list_item_told n.0 cpu position) seen ∙ (holds sizes past m life).questions_tell.list_items cpu position c

    pub ring_item_told_so : {cpu : ℕ} (position : ℕ) {r : Result (Option ℕ) Fault} → r ≡ ring_item_told i.0 cpu position → RingItemOfTheLedger meaning told answers m cpu position r
    ring_item_told_so {cpu} position {r} is =
        λ sizes past life c. is ∙ ap (λ (n : Core × E). ring_item_told n.0 cpu position) seen ∙ (holds sizes past m life).questions_tell.ring_items cpu position c
