-- Every call has an outcome.
use Rattle.std.proofs.Common.{◌≡◌, ℕ, zero, suc, Bool, true, false, eqb, List, [], ◌∷◌, is_some, Some, None, Ok, Err, MatchBool, Option, Result, refl, subst, arith}
use Rattle.std.specs.List.{AllByRecursion}
use Rattle.faults.specs.declared.Fault.{Fault}
use Rattle.faults.specs.declared.Refusal.TheVariants.{Held}
use Rattle.faults.specs.Numbering.{fault_at}
use Rattle.image.specs.Checks.{Check, all_pass}
use Rattle.image.proofs.Accepting.{all_passed}
use Rattle.calls.specs.declared.Call.{Call}
use Rattle.calls.specs.declared.Call.TheVariants as call
use Rattle.exclusion.specs.declared.meaning.Notice.{Notice}
use Rattle.exclusion.specs.declared.meaning.Notice.TheVariants.{Left}
use Rattle.exclusion.specs.declared.meaning.Verdict.{Verdict}
use Rattle.model.specs.declared.state.Operation.{Operation}
use Rattle.model.specs.declared.state.Settling.{Settling}
use Rattle.model.specs.declared.state.Core.{Core}
use Rattle.model.specs.State.{thread_at, cpu_at, top_frame}
use Rattle.model.specs.Words.{performed}
use Rattle.model.specs.Calls.{Answered, refused, accepted, ran, advanced, operation_of, has_cpu, has_thread, is_operation, has_no_frame, has_room, not_current, has_current, has_work, cpu_of, after_verdict, with_thread, ByChecks, ByCurrent, ByOperation, Stopped, with_frame, with_current as put-current, Disturbs, DisturbsCurrent, Granted, ToldIf, Performs, Runs, none, more, Signals, Step}
use Rattle.model.specs.Laws.{Reacts}

module _ {E : Type 0} (told : E → Notice → E → Type 0) (answers : E → ℕ → ℕ → ℕ → Verdict → Type 0) (reacts : Reacts told answers) where
  -- An answer and a machine of which something holds.
  abbrev Outcome : (Answered → Core × E → Type 0) → Type 0
  Outcome done = (r : Answered) × (k : Core × E) × done r k

  with_checks : (m : Core × E) (checks : List Check) (done : Answered → Core × E → Type 0) → (AllByRecursion (λ (check : Check). check.passes ≡ true) checks → Outcome done) → (x : Result (Unit {0}) Fault) → all_pass checks ≡ x
      → Outcome (λ r k. ByChecks told answers m x r k (done r k))
  with_checks m checks done then (Ok u) is = then (all_passed tt u checks is)
  with_checks m checks done then (Err fault) is = (refused fault, m, (refl, refl))

  with_operation : (o : Option Operation) (P : Operation → Answered → Core × E → Type 0) → is_some o ≡ true → ((operation : Operation) → Outcome (P operation)) → Outcome (λ r k. ByOperation told answers o (λ operation. P operation r k))
  with_operation None P is then = cc
  with_operation (Some operation) P is then = then operation

  with_current : (o : Option ℕ) (P : ℕ → Answered → Core × E → Type 0) → is_some o ≡ true → ((t : ℕ) → Outcome (P t)) → Outcome (λ r k. ByCurrent told answers o (λ t. P t r k))
  with_current None P is then = cc
  with_current (Some t) P is then = then t

  -- One instruction, and as many as an advance wants.
  some_told : (e : E) (o : Option Notice) → (f : E) × ToldIf told answers e o f
  some_told e None = (e, refl)
  some_told e (Some notice) = reacts.becomes_some e notice

  pub record PerformedSo (m : Core × E) (c t : ℕ) : Type 0 where
    pub settling : Option Settling
    pub later : Core × E
    pub performs : Performs told answers m c t settling later

  one_more : (m : Core × E) (c t : ℕ) → PerformedSo m c t
  one_more m c t =
      let f = some_told m.1 (performed m.0 c t).notice in
      record { settling = (performed m.0 c t).settling; later = ((performed m.0 c t).core, f.0); performs = (refl, refl, f.1) }

  pub record AdvancedSo (m : Core × E) (c t n : ℕ) : Type 0 where
    pub count : ℕ
    pub settling : Option Settling
    pub later : Core × E
    pub stopped : Stopped told answers n count settling
    pub runs : Runs told answers c t count settling m later

  many : (m : Core × E) (c t n : ℕ) → AdvancedSo m c t n
  many m c t zero = record { count = 0; settling = None; later = m; stopped = refl; runs = none }
  many m c t (suc n) = go (many m c t n)
    where
      last : (p : Core × E) → Runs told answers c t n None m p → (settling : Option Settling) (k : Core × E) → Performs told answers p c t settling k → AdvancedSo m c t (suc n)
      last p r None k x = record { count = suc n; settling = None; later = k; stopped = refl; runs = more r x }
      last p r (Some s) k x = record { count = suc n; settling = Some s; later = k; stopped = omega arith; runs = more r x }

      by_settling : (count : ℕ) (settling : Option Settling) (p : Core × E) → Stopped told answers n count settling → Runs told answers c t count settling m p → AdvancedSo m c t (suc n)
      by_settling count None p stopped r =
          let one = one_more p c t in last p (subst (λ i. Runs told answers c t i None m p) stopped r) one.settling one.later one.performs
      by_settling count (Some s) p stopped r = record { count = count; settling = Some s; later = p; stopped = omega (arith, stopped); runs = r }

      go : AdvancedSo m c t n → AdvancedSo m c t (suc n)
      go a = by_settling a.count a.settling a.later a.stopped a.runs

  -- Disturbing a thread.
  some_disturbed : (m : Core × E) (c t : ℕ) → (o : Option Core) × Disturbs told answers m c t o
  some_disturbed m c t = go (eqb (thread_at m.0 t).depth 0)
    where
      go : (b : Bool)
          → (o : Option Core)
          × MatchBool b (o ≡ Some m.0)
          ((v : Verdict) × answers m.1 c (top_frame (thread_at m.0 t)).armed (top_frame (thread_at m.0 t)).place v × (o ≡ with_thread m.0 t (after_verdict m.0 (thread_at m.0 t) v)))
      go true = (Some m.0, refl)
      go false = let a = reacts.answers_some m.1 c (top_frame (thread_at m.0 t)).armed (top_frame (thread_at m.0 t)).place in (with_thread m.0 t (after_verdict m.0 (thread_at m.0 t) a.0), (a.0, a.1, refl))

  some_disturbed_current : (m : Core × E) (c : ℕ) (cur : Option ℕ) → (o : Option Core) × DisturbsCurrent told answers m c cur o
  some_disturbed_current m c None = (Some m.0, refl)
  some_disturbed_current m c (Some t) = some_disturbed m c t

  some_granted : (m : Core × E) (c : ℕ) (rest : Core → Core) (o : Option Core) → Outcome (λ r k. Granted told answers m c o rest r k)
  some_granted m c rest None = (refused (fault_at Held 0), m, (refl, refl))
  some_granted m c rest (Some core) = let f = reacts.becomes_some m.1 (Left c) in (accepted, (rest core, f.0), (refl, refl, f.1))

  abbrev Changes : Core × E → ℕ → Option ℕ → Answered → Core × E → Type 0
  Changes m c to r k = (o : Option Core) × DisturbsCurrent told answers m c (cpu_at m.0 c).current o × Granted told answers m c o (put-current told answers c to) r k

  some_change : (m : Core × E) (c : ℕ) (to : Option ℕ) → Outcome (Changes m c to)
  some_change m c to =
      let d = some_disturbed_current m c (cpu_at m.0 c).current in
      let g = some_granted m c (put-current told answers c to) d.0 in (g.0, g.1, (d.0, d.1, g.2))

  some_signal : (m : Core × E) (t : ℕ) (operation : Operation) (o : Option ℕ) → Outcome (λ r k. Signals told answers m t operation o r k)
  some_signal m t operation None = (accepted, (with_frame told answers t operation m.0, m.1), (refl, refl, refl))
  some_signal m t operation (Some c) = let d = some_disturbed m c t in let g = some_granted m c (with_frame told answers t operation) d.0 in (g.0, g.1, (d.0, d.1, g.2))

  pub some_outcome : (m : Core × E) (x : Call) → (r : Answered) × (k : Core × E) × Step told answers m x r k
  some_outcome m (call.Enlist t raw) =
      with_checks m (has_thread m.0 t ∷ is_operation m.0 raw ∷ has_no_frame m.0 t ∷ []) (λ r k. ByOperation told answers (operation_of m.0.sizes raw) (λ operation. (r ≡ accepted) × (k.0 ≡ with_frame told answers t operation m.0) × (k.1 ≡ m.1)))
      (λ passed.
      with_operation (operation_of m.0.sizes raw) (λ operation r k. (r ≡ accepted) × (k.0 ≡ with_frame told answers t operation m.0) × (k.1 ≡ m.1)) passed.1.0
      (λ operation. (accepted, (with_frame told answers t operation m.0, m.1), (refl, refl, refl)))) _ refl
  some_outcome m (call.Run c) =
      with_checks m (has_cpu m.0 c ∷ has_current m.0 c ∷ has_work m.0 c ∷ [])
      (λ r k. ByCurrent told answers (cpu_at m.0 c).current (λ t. (settling : Option Settling) × (r ≡ ran settling) × Performs told answers m c t settling k))
      (λ passed.
      with_current (cpu_at m.0 c).current (λ t r k. (settling : Option Settling) × (r ≡ ran settling) × Performs told answers m c t settling k) passed.1.0
      (λ t. let one = one_more m c t in (ran one.settling, one.later, (one.settling, refl, one.performs)))) _ refl
  some_outcome m (call.Advance c n) =
      with_checks m (has_cpu m.0 c ∷ has_current m.0 c ∷ has_work m.0 c ∷ [])
      (λ r k.
      ByCurrent told answers (cpu_at m.0 c).current (λ t. (count : ℕ) × (settling : Option Settling) × (r ≡ advanced count settling) × Stopped told answers n count settling × Runs told answers c t count settling m k))
      (λ passed.
      with_current (cpu_at m.0 c).current (λ t r k. (count : ℕ) × (settling : Option Settling) × (r ≡ advanced count settling) × Stopped told answers n count settling × Runs told answers c t count settling m k) passed.1.0
      (λ t. let a = many m c t n in (advanced a.count a.settling, a.later, (a.count, a.settling, refl, a.stopped, a.runs)))) _ refl
  some_outcome m (call.Switch c t) =
      with_checks m (has_cpu m.0 c ∷ has_thread m.0 t ∷ not_current m.0 t ∷ []) (Changes m c (Some t)) (λ passed. some_change m c (Some t)) _ refl
  some_outcome m (call.Idle c) = with_checks m (has_cpu m.0 c ∷ has_current m.0 c ∷ []) (Changes m c None) (λ passed. some_change m c None) _ refl
  some_outcome m (call.Signal t raw) =
      with_checks m (has_thread m.0 t ∷ is_operation m.0 raw ∷ has_room m.0 t ∷ []) (λ r k. ByOperation told answers (operation_of m.0.sizes raw) (λ operation. Signals told answers m t operation (cpu_of m.0 t) r k))
      (λ passed.
      with_operation (operation_of m.0.sizes raw) (λ operation r k. Signals told answers m t operation (cpu_of m.0 t) r k) passed.1.0 (λ operation. some_signal m t operation (cpu_of m.0 t))) _ refl
