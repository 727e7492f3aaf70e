-- Runs of a CPU, one instruction after another: all is kept, settlings are the ledger's, and the trace keeps its pace.
use Rattle.std.proofs.Common.{◌≡◌, ℕ, zero, suc, ◌<◌, Bool, true, false, cond, eqb, List, [], ◌∷◌, ◌++◌, replicate, Some, None, Option, sym, refl, ap, ◌∙◌, subst}
use Rattle.std.proofs.lemmas.Bool.{cond_both, eq-eqb, ne_eqb}
use Rattle.exclusion.specs.declared.meaning.Notice.{Notice}
use Rattle.exclusion.specs.declared.meaning.Verdict.{Verdict}
use Rattle.exclusion.specs.Meaning.{Meaning}
use Rattle.model.specs.declared.state.Core.{Core}
use Rattle.model.specs.declared.state.Settling.{Settling}
use Rattle.model.specs.State.{thread_at}
use Rattle.model.specs.Words.{performed}
use Rattle.model.specs.Calls.{ToldIf, Performs, Runs, none, more}
use Rattle.model.specs.Ledger.{Ledger, Waiting, settle_top, settle_on}
use Rattle.model.specs.Claims.{HasMeaning, Mark, instruction, instructions_of}
use Rattle.model.proofs.Calling.{only_own}
use Rattle.lives.proofs.Nodes.{here_or_else}
use Rattle.lives.proofs.Standing.{Invariant}
use Rattle.lives.proofs.Wholes.{whole_elsewhere}
use Rattle.lives.proofs.Instructing.{Becomes, BySettled, Quiet, Settled, instructed}
use Rattle.lives.proofs.Traces.{pending}
use Rattle.lives.proofs.Pacing.{Paced, concerned_same, untouched, paced_on, paced_anew}

-- The ledger's CPUs keep their threads when an operation settles.
settled_currents : (packets : ℕ) (l : Ledger) (t c : ℕ) (ws : List Waiting) (x : ℕ) → (settle_top packets l t c ws).ledger.current x ≡ l.current x
settled_currents packets l t c [] x = refl
settled_currents packets l t c (top ∷ rest) x = (whole_elsewhere packets l t c top.operation).current x

pub settle_currents : (packets : ℕ) (l : Ledger) (c : ℕ) (o : Option ℕ) (x : ℕ) → (settle_on packets l c o).ledger.current x ≡ l.current x
settle_currents packets l c None x = refl
settle_currents packets l c (Some t) x = settled_currents packets l t c (l.waiting t) x

-- New marks on one CPU's trace.
abbrev pub noted : ℕ → List Mark → (ℕ → List Mark) → ℕ → List Mark
noted c new marks x = cond (eqb c x) new [] ++ marks x

-- What holds of that CPU and its longer trace, and of every other CPU and its trace, holds of each CPU.
pub noted_each : (P : ℕ → List Mark → Type 0) (c : ℕ) (new : List Mark) (marks : ℕ → List Mark) → P c (new ++ marks c) → ((x : ℕ) → (x ≡ c → ⊥) → P x (marks x)) → (x : ℕ) → P x (noted c new marks x)
noted_each P c new marks here elsewhere =
    here_or_else (λ x. P x (noted c new marks x)) c (subst (λ b. P c (cond b new [] ++ marks c)) (sym (eq-eqb c c refl)) here)
    (λ x differs. subst (λ b. P x (cond b new [] ++ marks x)) (sym (ne_eqb c x (λ same. differs (sym same)))) (elsewhere x differs))

noted_more : (c : ℕ) (mark : Mark) (new : List Mark) (marks : ℕ → List Mark) (x : ℕ) → noted c (mark ∷ []) (noted c new marks) x ≡ noted c (mark ∷ new) marks x
noted_more c mark new marks x = go (eqb c x)
  where
    go : (b : Bool) → cond b (mark ∷ []) [] ++ (cond b new [] ++ marks x) ≡ cond b (mark ∷ new) [] ++ marks x
    go true = refl
    go false = refl

noted_none : (c : ℕ) (marks : ℕ → List Mark) (x : ℕ) → marks x ≡ noted c [] marks x
noted_none c marks x = cond_both (eqb c x) [] [] (λ new. marks x ≡ new ++ marks x) (λ e. refl) (λ e. refl)

-- A machine that is as the ledger has it, with every CPU at its pace.
pub record Well {E : Type 0} (meaning : E → Meaning) (l : Ledger) (marks : ℕ → List Mark) (m : Core × E) : Type 0 where
  pub invariant : Invariant l (meaning m.1) m.0
  pub paced : (c : ℕ) → Paced l (meaning m.1) m.0 c (marks c)

pub well_marks : {E : Type 0} (meaning : E → Meaning) (l : Ledger) (marks other : ℕ → List Mark) (m : Core × E) → ((x : ℕ) → marks x ≡ other x) → Well meaning l marks m → Well meaning l other m
well_marks meaning l marks other m same well = record { invariant = well.invariant; paced = λ c. subst (Paced l (meaning m.1) m.0 c) (same c) (well.paced c) }

module _ {E : Type 0} (meaning : E → Meaning) (told : E → Notice → E → Type 0) (answers : E → ℕ → ℕ → ℕ → Verdict → Type 0) (has : HasMeaning meaning told answers) where
  becomes : (e f : E) (o : Option Notice) → ToldIf told answers e o f → Becomes (meaning e) o (meaning f)
  becomes e f None is = ap meaning is
  becomes e f (Some notice) is = has.obeys e notice f is

  module _ (l : Ledger) (marks : ℕ → List Mark) (m : Core × E) (c t : ℕ) (well : Well meaning l marks m) (on : l.current c ≡ Some t) (some : 0 < (thread_at m.0 t).depth) where
    abbrev inv : Invariant l (meaning m.1) m.0
    inv = well.invariant

    -- Another CPU's thread is not the one that ran.
    apart : (x s : ℕ) → (x ≡ c → ⊥) → l.current x ≡ Some s → s ≡ t → ⊥
    apart x s differs there same = differs (inv.on_one_cpu x c t (there ∙ ap Some same) on)

    module _ (k : Core × E) (core_is : k.0 ≡ (performed m.0 c t).core) where
      thread_else : (s : ℕ) → (s ≡ t → ⊥) → thread_at k.0 s ≡ thread_at m.0 s
      thread_else s differs = ap (λ x. thread_at x s) core_is ∙ only_own m.0 c t s differs

      image_same : k.0.image ≡ m.0.image
      image_same = ap (λ (x : Core). x.image) core_is

      -- Nothing settled: one instruction more, and the thread still works.
      pub record Went : Type 0 where
        pub later : Well meaning l (noted c (instruction false ∷ []) marks) k
        pub still : 0 < (thread_at k.0 t).depth

      went_well : Quiet l (meaning m.1) m.0 c t inv on some (meaning k.1) k.0 → Went
      went_well q = record {
        later = record {
          invariant = q.invariant;
          paced = noted_each (Paced l (meaning k.1) k.0) c (instruction false ∷ []) marks
              (paced_on l (meaning m.1) (meaning k.1) m.0 k.0 c t (marks c) image_same q.invariant on some q.still q.nearer (well.paced c))
              (λ x differs. untouched l l (meaning m.1) (meaning k.1) m.0 k.0 x (marks x) image_same refl (λ s there. thread_else s (apart x s differs there)) (q.patience_else x differs) (well.paced x));
        };
        still = q.still;
      }

      -- It settled.
      abbrev settled_ledger : Ledger
      settled_ledger = (settle_on m.0.sizes.packets l c (l.current c)).ledger

      pub record SettledWell (s : Settling) : Type 0 where
        pub later : Well meaning settled_ledger (noted c (instruction true ∷ []) marks) k
        pub settling : (settle_on m.0.sizes.packets l c (l.current c)).settling ≡ Some s

      settled_well : (s : Settling) → Settled l (meaning m.1) m.0 c t inv on some (meaning k.1) k.0 s → SettledWell s
      settled_well s q = record {
        later = record {
          invariant = q.invariant;
          paced = noted_each (Paced settled_ledger (meaning k.1) k.0) c (instruction true ∷ []) marks
              (paced_anew l settled_ledger (meaning k.1) k.0 c (instruction true) (marks c) (well.paced c).in_eight (well.paced c).in_five refl refl
              (concerned_same l settled_ledger c (pending (marks c)) (settle_currents m.0.sizes.packets l c (l.current c) c) (well.paced c).concerned) q.invariant q.calm)
              (λ x differs.
              untouched l settled_ledger (meaning m.1) (meaning k.1) m.0 k.0 x (marks x) image_same (settle_currents m.0.sizes.packets l c (l.current c) x)
              (λ s there. thread_else s (apart x s differs there)) (q.patience_else x differs) (well.paced x));
        };
        settling = q.settling;
      }

    -- One instruction.
    pub ran_well : (settling : Option Settling) (k : Core × E) (p : Performs told answers m c t settling k) → BySettled settling (Went k p.0) (SettledWell k p.0)
    ran_well settling k p =
        go settling
        (subst (λ o. BySettled o (Quiet l (meaning m.1) m.0 c t inv on some (meaning k.1) k.0) (Settled l (meaning m.1) m.0 c t inv on some (meaning k.1) k.0)) (sym p.1)
        (subst (λ x. BySettled (performed m.0 c t).settling (Quiet l (meaning m.1) m.0 c t inv on some (meaning k.1) x) (Settled l (meaning m.1) m.0 c t inv on some (meaning k.1) x)) (sym p.0)
        (instructed l (meaning m.1) m.0 c t inv on some (meaning k.1) (becomes m.1 k.1 (performed m.0 c t).notice p.2))))
      where
        go : (o : Option Settling) → BySettled o (Quiet l (meaning m.1) m.0 c t inv on some (meaning k.1) k.0) (Settled l (meaning m.1) m.0 c t inv on some (meaning k.1) k.0)
            → BySettled o (Went k p.0) (SettledWell k p.0)
        go None q = went_well k p.0 q
        go (Some s) q = settled_well k p.0 s q

  -- Many instructions, one after another, none of which settles.
  module _ (l : Ledger) (marks : ℕ → List Mark) (c t : ℕ) (on : l.current c ≡ Some t) where
    pub record Still (m : Core × E) (n : ℕ) (k : Core × E) : Type 0 where
      pub later : Well meaning l (noted c (replicate n (instruction false)) marks) k
      pub still : 0 < (thread_at k.0 t).depth
      pub sizes : k.0.sizes ≡ m.0.sizes

    pub runs_well : (n : ℕ) (m k : Core × E) → Runs told answers c t n None m k → Well meaning l marks m → 0 < (thread_at m.0 t).depth → Still m n k
    runs_well zero m k none well some = record { later = well_marks meaning l marks (noted c [] marks) m (noted_none c marks) well; still = some; sizes = refl }
    runs_well (suc n) m k (more {p = p} r x) well some =
        let before = runs_well n m p r well some in
        let one = ran_well l (noted c (replicate n (instruction false)) marks) p c t before.later on before.still None k x in
        record {
          later = well_marks meaning l _ (noted c (replicate (suc n) (instruction false)) marks) k (noted_more c (instruction false) (replicate n (instruction false)) marks) one.later;
          still = one.still;
          sizes = ap (λ (y : Core). y.sizes) x.0 ∙ before.sizes;
        }

    -- The last one settles.
    pub record Stops (m : Core × E) (n : ℕ) (s : Settling) (k : Core × E) : Type 0 where
      pub later : Well meaning (settle_on m.0.sizes.packets l c (l.current c)).ledger (noted c (instructions_of n (Some s)) marks) k
      pub settling : (settle_on m.0.sizes.packets l c (l.current c)).settling ≡ Some s
      pub sizes : k.0.sizes ≡ m.0.sizes

    pub runs_settle : (n : ℕ) (s : Settling) (m k : Core × E) → Runs told answers c t n (Some s) m k → Well meaning l marks m → 0 < (thread_at m.0 t).depth → Stops m n s k
    runs_settle zero s m k r well some = elim r [ ]
    runs_settle (suc n) s m k (more {p = p} r x) well some =
        let before = runs_well n m p r well some in
        let one = ran_well l (noted c (replicate n (instruction false)) marks) p c t before.later on before.still (Some s) k x in
        record {
          later =
              subst (λ z. Well meaning (settle_on z.packets l c (l.current c)).ledger (noted c (instructions_of (suc n) (Some s)) marks) k) before.sizes
              (well_marks meaning _ _ (noted c (instructions_of (suc n) (Some s)) marks) k (noted_more c (instruction true) (replicate n (instruction false)) marks) one.later);
          settling = subst (λ z. (settle_on z.packets l c (l.current c)).settling ≡ Some s) before.sizes one.settling;
          sizes = ap (λ (y : Core). y.sizes) x.0 ∙ before.sizes;
        }
