-- Calls that are granted on a CPU, held there, or only accepted: every CPU keeps its pace.
use Rattle.std.proofs.Common.{◌≡◌, ℕ, ◌<◌, true, false, List, [], ◌∷◌, Some, None, Option, sym, refl, ap, ◌∙◌, ⊎_elim}
use Rattle.std.proofs.lemmas.Bool.{cases_eq, eq-eqb, ne_eqb}
use Rattle.std.proofs.lemmas.Option.{same_Some}
use Rattle.calls.specs.declared.Call.{Call}
use Rattle.exclusion.specs.Meaning.{Meaning}
use Rattle.model.specs.declared.state.Core.{Core}
use Rattle.model.specs.State.{thread_at}
use Rattle.model.specs.Ledger.{Ledger}
use Rattle.model.specs.Claims.{is_thread, Mark, granted, held, about}
use Rattle.lives.proofs.Standing.{Invariant}
use Rattle.lives.proofs.Pacing.{Paced, untouched, paced_anew, paced_held, paced_enlisted}
use Rattle.lives.proofs.Running.{Well, noted, noted_each}

module _ {E : Type 0} (meaning : E → Meaning) (l : Ledger) (marks : ℕ → List Mark) (m : Core × E) (well : Well meaning l marks m) where
  -- Granted on a CPU: only its thread and its patience change.
  pub granted_well : (k : Ledger) (later : Core × E) (c : ℕ) → later.0.image ≡ m.0.image → Invariant k (meaning later.1) later.0 → (meaning later.1).patience c ≡ 0
      → ((x : ℕ) → (x ≡ c → ⊥) → (meaning later.1).patience x ≡ (meaning m.1).patience x) → ((x : ℕ) → (x ≡ c → ⊥) → k.current x ≡ l.current x)
      → ((x s : ℕ) → (x ≡ c → ⊥) → l.current x ≡ Some s → thread_at later.0 s ≡ thread_at m.0 s) → Well meaning k (noted c (granted ∷ []) marks) later
  granted_well k later c image inv calm patience current threads = record {
    invariant = inv;
    paced = noted_each (Paced k (meaning later.1) later.0) c (granted ∷ []) marks
        (paced_anew l k (meaning later.1) later.0 c granted (marks c) (well.paced c).in_eight (well.paced c).in_five refl refl tt inv calm)
        (λ x differs. untouched l k (meaning m.1) (meaning later.1) m.0 later.0 x (marks x) image (current x differs) (λ s there. threads x s differs there) (patience x differs) (well.paced x));
  }

  -- Held on a CPU.
  pub held_well : (call : Call) (c t : ℕ) → l.current c ≡ Some t → 0 < (thread_at m.0 t).depth → 0 < (meaning m.1).patience c → about l c call ≡ true → Well meaning l (noted c (held call ∷ []) marks) m
  held_well call c t on some patient concerns = record {
    invariant = well.invariant;
    paced = noted_each (Paced l (meaning m.1) m.0) c (held call ∷ []) marks
        (paced_held l (meaning m.1) m.0 c t call (marks c) well.invariant on some patient concerns (well.paced c)) (λ x differs. well.paced x);
  }

  -- A thread gets an operation, and nothing is granted anywhere: it is on no CPU, or had none.
  pub enlisted_well : (k : Ledger) (core : Core) (t : ℕ) → core.image ≡ m.0.image → Invariant k (meaning m.1) core → ((x : ℕ) → k.current x ≡ l.current x)
      → ((s : ℕ) → (s ≡ t → ⊥) → thread_at core s ≡ thread_at m.0 s) → 0 < (thread_at core t).depth → ((x : ℕ) → l.current x ≡ Some t → (thread_at m.0 t).depth ≡ 0) → Well meaning k marks (core, m.1)
  enlisted_well k core t image inv current threads some rests = record { invariant = inv; paced = λ x. by_thread x (l.current x) refl }
    where
      on_none : (x : ℕ) → ((s : ℕ) → l.current x ≡ Some s → s ≡ t → ⊥) → Paced k (meaning m.1) core x (marks x)
      on_none x other = untouched l k (meaning m.1) (meaning m.1) m.0 core x (marks x) image (current x) (λ s there. threads s (other s there)) refl (well.paced x)

      by_thread : (x : ℕ) (o : Option ℕ) → l.current x ≡ o → Paced k (meaning m.1) core x (marks x)
      by_thread x None is = on_none x (λ s there same. let clash : None ≡ Some s = sym is ∙ there in cc)
      by_thread x (Some r) is =
          ⊎_elim
          (λ (same : r ≡ t).
          let there : l.current x ≡ Some t = is ∙ ap Some same in
          paced_enlisted l k (meaning m.1) m.0 core x t (marks x) (current x) there (rests x there) some inv (well.paced x))
          (λ (differs : r ≡ t → ⊥). on_none x (λ s there same. differs (same_Some _ _ (sym is ∙ there) ∙ same))) (cases_eq r t)

-- A call about a CPU's thread: about the CPU that has it, and no other.
module _ (l : Ledger) (thread : ℕ) where
  pub thread_there : (o : Option ℕ) → o ≡ Some thread → is_thread thread o ≡ true
  thread_there o is = ap (is_thread thread) is ∙ eq-eqb thread thread refl

  pub not_thread : (o : Option ℕ) → (o ≡ Some thread → ⊥) → is_thread thread o ≡ false
  not_thread None ne = refl
  not_thread (Some s) ne = ne_eqb s thread (λ same. ne (ap Some same))
