-- All that holds of a machine with any past, over any exclusion that has the meaning: the claims of the model, and besides them what
-- the questions tell, that nothing waits or lies where it should not, and that no call is held before an instruction.
use Rattle.std.specs.Prelude.{◌≡◌, ℕ, suc, ◌<◌, ◌≤◌, true, false, ◌⊎◌, List, [], ◌∷◌}
use Rattle.faults.specs.declared.Refusal.TheVariants.{Held}
use Rattle.faults.specs.Numbering.{fault_at}
use Rattle.image.specs.declared.fields.Sizes.{Sizes}
use Rattle.calls.specs.declared.Call.{Call}
use Rattle.exclusion.specs.declared.meaning.Notice.{Notice}
use Rattle.exclusion.specs.declared.meaning.Verdict.{Verdict}
use Rattle.exclusion.specs.Meaning.{Meaning}
use Rattle.model.specs.declared.state.Core.{Core}
use Rattle.model.specs.State.{cpu_at}
use Rattle.model.specs.Calls.{refused, Step}
use Rattle.model.specs.Questions.{QuestionsTell}
use Rattle.model.specs.Life.{Event, ledger, Life}
use Rattle.model.specs.Claims.{Mark, instruction, granted, held, about, trace, occurs, brought, settled, found, HasMeaning, Faithful}

-- The instructions since the last one that settled, or since the last grant.
abbrev pub since : List Mark → ℕ
since [] = 0
since (instruction true ∷ marks) = 0
since (instruction false ∷ marks) = suc (since marks)
since (granted ∷ marks) = 0
since (held c ∷ marks) = since marks

-- What holds of a machine with a past. Each CPU's thread is the ledger's, and its ring begins at a slot. No operation has settled or
-- waits that no accepted call brought, and none waits in a thread that the machine has not; no node but 1 to N is found anywhere. No
-- call is held on a CPU that has run nothing since boot, a settling or a grant.
module _ {E : Type 0} (meaning : E → Meaning) (told : E → Notice → E → Type 0) (answers : E → ℕ → ℕ → ℕ → Verdict → Type 0) where
  pub record WhollyFaithful (sizes : Sizes) (past : List Event) (m : Core × E) : Type 0 where
    pub faithful : Faithful meaning told answers sizes past m
    pub threads_agree : (cpu : ℕ) → cpu < sizes.cpus → (cpu_at m.0 cpu).current ≡ (ledger sizes past).current cpu
    pub heads_are_slots : (cpu : ℕ) → cpu < sizes.cpus → (cpu_at m.0 cpu).head ≤ sizes.packets
    pub questions_tell : QuestionsTell sizes (ledger sizes past) m.0
    pub nothing_invented : (number : ℕ) → occurs number (brought sizes past) ≡ 0 → (occurs number (settled sizes past) ≡ 0) × ((thread : ℕ) → occurs number ((ledger sizes past).waiting thread) ≡ 0)
    pub nowhere_else : (thread : ℕ) → sizes.threads ≤ thread → (ledger sizes past).waiting thread ≡ []
    pub no_other_node : (node : ℕ) → (node ≡ 0) ⊎ (sizes.nodes < node) → found sizes (ledger sizes past) node ≡ 0
    pub not_held_before_an_instruction : (cpu : ℕ) (c : Call) → about (ledger sizes past) cpu c ≡ true → since (trace sizes past cpu) ≡ 0 → (k : Core × E) → Step told answers m c (refused (fault_at Held 0)) k → ⊥

  abbrev pub LivesAreWhollyFaithful : Type 0
  LivesAreWhollyFaithful = (sizes : Sizes) (past : List Event) (m : Core × E) → Life meaning told answers sizes past m → WhollyFaithful sizes past m

  abbrev pub EveryLifeIsWhollyFaithful : Type 0
  EveryLifeIsWhollyFaithful = HasMeaning meaning told answers → LivesAreWhollyFaithful
