-- What holds of every call.
use Rattle.std.proofs.Common.{◌≡◌, ℕ, zero, suc, ◌<◌, ◌≤◌, Bool, true, false, eqb, Some, None, Ok, Err, MatchBool, Option, Result, sym, refl, ap, ap₂, ◌∙◌, subst, ⊎_elim, arith, get_or-set_other}
use Rattle.std.proofs.lemmas.Bool.{cases_lt, cases_order}
use Rattle.std.proofs.lemmas.Option.{none-some}
use Rattle.faults.specs.declared.Fault.{Fault}
use Rattle.calls.specs.declared.Call.{Call}
use Rattle.calls.specs.declared.Call.TheVariants as call
use Rattle.exclusion.specs.declared.meaning.Notice.{Notice}
use Rattle.exclusion.specs.declared.meaning.Verdict.{Verdict}
use Rattle.model.specs.declared.state.Operation.{Operation}
use Rattle.model.specs.declared.state.Settling.{Settling}
use Rattle.model.specs.declared.state.Core.{Core}
use Rattle.model.specs.State.{no_thread, thread_at, cpu_at, top_frame}
use Rattle.model.specs.Words.{performed}
use Rattle.model.specs.Calls.{Answered, refused, accepted, ran, advanced, operation_of, cpu_of, after_verdict, with_thread, Disturbs, DisturbsCurrent, Granted, ByChecks, ToldIf, Performs, Runs, none, more, Stopped, ByCurrent, ByOperation, with_frame, with_current, Signals, Step}
use Rattle.model.specs.Laws.{RefusedChangesNothing, OnlyItsOwnThread, Determined}

module _ {E : Type 0} (told : E → Notice → E → Type 0) (answers : E → ℕ → ℕ → ℕ → Verdict → Type 0) where
  -- A call whose checks are tried: refused, or done.
  unless : (m : Core × E) (x : Result (Unit {0}) Fault) (r : Answered) (k : Core × E) (done : Type 0) → ByChecks told answers m x r k done → (done → k ≡ m) → k ≡ m
  unless m (Ok u) r k done d then = then d
  unless m (Err fault) r k done d then = d.1

  granted_refused : (m : Core × E) (cpu : ℕ) (o : Option Core) (rest : Core → Core) (fault : Fault) (k : Core × E) → Granted told answers m cpu o rest (refused fault) k → k ≡ m
  granted_refused m cpu None rest fault k g = g.1
  granted_refused m cpu (Some core) rest fault k g = cc

  signal_refused : (m : Core × E) (t : ℕ) (operation : Operation) (o : Option ℕ) (fault : Fault) (k : Core × E) → Signals told answers m t operation o (refused fault) k → k ≡ m
  signal_refused m t operation None fault k s = cc
  signal_refused m t operation (Some cpu) fault k s = granted_refused m cpu s.0 (with_frame told answers t operation) fault k s.2

  pub by_operation : (o : Option Operation) (P : Operation → Type 0) (Q : Type 0) → ByOperation told answers o P → ((operation : Operation) → o ≡ Some operation → P operation → Q) → Q
  by_operation None P Q d then = absurd d
  by_operation (Some operation) P Q d then = then operation refl d

  pub by_current : (o : Option ℕ) (P : ℕ → Type 0) (Q : Type 0) → ByCurrent told answers o P → ((t : ℕ) → o ≡ Some t → P t → Q) → Q
  by_current None P Q d then = absurd d
  by_current (Some t) P Q d then = then t refl d

  pub refused_stays : RefusedChangesNothing told answers
  refused_stays m (call.Enlist t raw) fault k s =
      unless m _ (refused fault) k _ s
      (λ d. by_operation (operation_of m.0.sizes raw) (λ operation. (refused fault ≡ accepted) × (k.0 ≡ with_frame told answers t operation m.0) × (k.1 ≡ m.1)) (k ≡ m) d (λ operation is p. cc))
  refused_stays m (call.Run cpu) fault k s =
      unless m _ (refused fault) k _ s
      (λ d. by_current (cpu_at m.0 cpu).current (λ t. (settling : Option Settling) × (refused fault ≡ ran settling) × Performs told answers m cpu t settling k) (k ≡ m) d (λ t is p. cc))
  refused_stays m (call.Advance cpu n) fault k s =
      unless m _ (refused fault) k _ s
      (λ d. by_current (cpu_at m.0 cpu).current (λ t. (count : ℕ) × (settling : Option Settling) × (refused fault ≡ advanced count settling) × Stopped told answers n count settling × Runs told answers cpu t count settling m k) (k ≡ m) d (λ t is p. cc))
  refused_stays m (call.Switch cpu t) fault k s =
      unless m _ (refused fault) k ((o : Option Core) × DisturbsCurrent told answers m cpu (cpu_at m.0 cpu).current o × Granted told answers m cpu o (with_current told answers cpu (Some t)) (refused fault) k) s
      (λ d. granted_refused m cpu d.0 (with_current told answers cpu (Some t)) fault k d.2)
  refused_stays m (call.Idle cpu) fault k s =
      unless m _ (refused fault) k ((o : Option Core) × DisturbsCurrent told answers m cpu (cpu_at m.0 cpu).current o × Granted told answers m cpu o (with_current told answers cpu None) (refused fault) k) s
      (λ d. granted_refused m cpu d.0 (with_current told answers cpu None) fault k d.2)
  refused_stays m (call.Signal t raw) fault k s =
      unless m _ (refused fault) k _ s
      (λ d. by_operation (operation_of m.0.sizes raw) (λ operation. Signals told answers m t operation (cpu_of m.0 t) (refused fault) k) (k ≡ m) d (λ operation is p. signal_refused m t operation (cpu_of m.0 t) fault k p))

pub only_own : OnlyItsOwnThread
only_own core cpu t s ne = get_or-set_other core.threads t s _ no_thread ne

-- Over an exclusion whose reactions are determined, everything is.
module _ {E : Type 0} (told : E → Notice → E → Type 0) (answers : E → ℕ → ℕ → ℕ → Verdict → Type 0) (one : Determined told answers) where
  abbrev Same : Answered → Answered → Core × E → Core × E → Type 0
  Same r s k l = (r ≡ s) × (k ≡ l)

  one_unless : (m : Core × E) (x : Result (Unit {0}) Fault) (r s : Answered) (k l : Core × E) (D F : Type 0) → ByChecks told answers m x r k D → ByChecks told answers m x s l F
      → (D → F → Same r s k l) → Same r s k l
  one_unless m (Ok u) r s k l D F d f then = then d f
  one_unless m (Err fault) r s k l D F d f then = (d.0 ∙ sym f.0, d.1 ∙ sym f.1)

  one_told_if : (e : E) (o : Option Notice) (f g : E) → ToldIf told answers e o f → ToldIf told answers e o g → f ≡ g
  one_told_if e None f g p q = p ∙ sym q
  one_told_if e (Some n) f g p q = one.becomes_one e n f g p q

  one_performs : (m : Core × E) (cpu t : ℕ) (a b : Option Settling) (k l : Core × E) → Performs told answers m cpu t a k → Performs told answers m cpu t b l → (a ≡ b) × (k ≡ l)
  one_performs m cpu t a b k l p q = (p.1 ∙ sym q.1, ap₂ (λ a b. (a, b)) (p.0 ∙ sym q.0) (one_told_if m.1 (performed m.0 cpu t).notice k.1 l.1 p.2 q.2))

  one_disturbs : (m : Core × E) (cpu t : ℕ) (o p : Option Core) → Disturbs told answers m cpu t o → Disturbs told answers m cpu t p → o ≡ p
  one_disturbs m cpu t o p d f = go (eqb (thread_at m.0 t).depth 0) d f
    where
      Asks : Option Core → Type 0
      Asks o = (v : Verdict) × answers m.1 cpu (top_frame (thread_at m.0 t)).armed (top_frame (thread_at m.0 t)).place v × (o ≡ with_thread m.0 t (after_verdict m.0 (thread_at m.0 t) v))

      go : (b : Bool) → MatchBool b (o ≡ Some m.0) (Asks o) → MatchBool b (p ≡ Some m.0) (Asks p) → o ≡ p
      go true x y = x ∙ sym y
      go false (v, a, x) (w, b, y) = x ∙ ap (λ u. with_thread m.0 t (after_verdict m.0 (thread_at m.0 t) u)) (one.answers_one m.1 cpu _ _ v w a b) ∙ sym y

  one_disturbs_current : (m : Core × E) (cpu : ℕ) (c : Option ℕ) (o p : Option Core) → DisturbsCurrent told answers m cpu c o → DisturbsCurrent told answers m cpu c p → o ≡ p
  one_disturbs_current m cpu None o p d f = d ∙ sym f
  one_disturbs_current m cpu (Some t) o p d f = one_disturbs m cpu t o p d f

  one_granted : (m : Core × E) (cpu : ℕ) (o : Option Core) (rest : Core → Core) (r s : Answered) (k l : Core × E) → Granted told answers m cpu o rest r k → Granted told answers m cpu o rest s l → Same r s k l
  one_granted m cpu None rest r s k l d f = (d.0 ∙ sym f.0, d.1 ∙ sym f.1)
  one_granted m cpu (Some core) rest r s k l d f = (d.0 ∙ sym f.0, ap₂ (λ a b. (a, b)) (d.1 ∙ sym f.1) (one.becomes_one m.1 _ k.1 l.1 d.2 f.2))

  one_granted_after : (m : Core × E) (cpu : ℕ) (o p : Option Core) (rest : Core → Core) (r s : Answered) (k l : Core × E) → o ≡ p → Granted told answers m cpu o rest r k → Granted told answers m cpu p rest s l → Same r s k l
  one_granted_after m cpu o p rest r s k l e d f = one_granted m cpu p rest r s k l (subst (λ x. Granted told answers m cpu x rest r k) e d) f

  -- Runs of one length, and runs that stop.
  one_quiet : (cpu t n : ℕ) (m p q : Core × E) → Runs told answers cpu t n None m p → Runs told answers cpu t n None m q → p ≡ q
  one_quiet cpu t zero m p q none none = refl
  one_quiet cpu t (suc n) m p q (more {p = u} r x) (more {p = v} r' y) =
      let same = one_quiet cpu t n m u v r r' in
      (one_performs v cpu t None None p q (subst (λ w. Performs told answers w cpu t None p) same x) y).1

  one_length : (cpu t n : ℕ) (a b : Option Settling) (m p q : Core × E) → Runs told answers cpu t n a m p → Runs told answers cpu t n b m q → (a ≡ b) × (p ≡ q)
  one_length cpu t zero a b m p q none none = (refl, refl)
  one_length cpu t (suc n) a b m p q (more {p = u} r x) (more {p = v} r' y) =
      one_performs v cpu t a b p q (subst (λ w. Performs told answers w cpu t a p) (one_quiet cpu t n m u v r r') x) y

  -- Longer runs begin with shorter ones that settle nothing.
  shorter : (cpu t n k : ℕ) (b : Option Settling) (m q : Core × E) → n < k → Runs told answers cpu t k b m q → (p : Core × E) × Runs told answers cpu t n None m p
  shorter cpu t n zero b m q less none = absurd (omega arith)
  shorter cpu t n (suc k) b m q less (more {p = u} r x) =
      ⊎_elim (λ (low : n < k). shorter cpu t n k None m u low r) (λ (high : k ≤ n). (u, subst (λ i. Runs told answers cpu t i None m u) (omega arith) r)) (cases_lt n k)

  not_shorter : (cpu t n a b : ℕ) (x y : Option Settling) (m k l : Core × E) → Stopped told answers n a x → Stopped told answers n b y → Runs told answers cpu t a x m k → Runs told answers cpu t b y m l → a < b → ⊥
  not_shorter cpu t n a b None None m k l u v p q lt = omega arith
  not_shorter cpu t n a b None (Some y) m k l u v p q lt = omega arith
  not_shorter cpu t n a b (Some x) y m k l u v p q lt =
      let short = shorter cpu t a b y m l lt q in
      none-some x (sym (one_length cpu t a (Some x) None m k short.0 p short.1).0)

  one_stop : (cpu t n a b : ℕ) (x y : Option Settling) (m k l : Core × E) → Stopped told answers n a x → Stopped told answers n b y → Runs told answers cpu t a x m k → Runs told answers cpu t b y m l
      → Same (advanced a x) (advanced b y) k l
  one_stop cpu t n a b x y m k l u v p q =
      ⊎_elim (λ same. let both = one_length cpu t b x y m k l (subst (λ c. Runs told answers cpu t c x m k) same p) q in (ap (λ c. advanced c x) same ∙ ap (advanced b) both.0, both.1))
      (⊎_elim (λ lt. absurd (not_shorter cpu t n a b x y m k l u v p q lt)) (λ gt. absurd (not_shorter cpu t n b a y x m l k v u q p gt))) (cases_order a b)

  -- One operand decides.
  one_operation : (o : Option Operation) (P Q : Operation → Type 0) (R : Type 0) → ByOperation told answers o P → ByOperation told answers o Q → ((operation : Operation) → P operation → Q operation → R) → R
  one_operation None P Q R d f then = absurd d
  one_operation (Some operation) P Q R d f then = then operation d f

  one_current : (o : Option ℕ) (P Q : ℕ → Type 0) (R : Type 0) → ByCurrent told answers o P → ByCurrent told answers o Q → ((t : ℕ) → P t → Q t → R) → R
  one_current None P Q R d f then = absurd d
  one_current (Some t) P Q R d f then = then t d f

  one_signal : (m : Core × E) (t : ℕ) (operation : Operation) (o : Option ℕ) (r s : Answered) (k l : Core × E) → Signals told answers m t operation o r k → Signals told answers m t operation o s l → Same r s k l
  one_signal m t operation None r s k l d f = (d.0 ∙ sym f.0, ap₂ (λ a b. (a, b)) (d.1 ∙ sym f.1) (d.2 ∙ sym f.2))
  one_signal m t operation (Some cpu) r s k l d f = one_granted_after m cpu d.0 f.0 (with_frame told answers t operation) r s k l (one_disturbs m cpu t d.0 f.0 d.1 f.1) d.2 f.2

  abbrev Enlists : Core × E → ℕ → Operation → Answered → Core × E → Type 0
  Enlists m t operation r k = (r ≡ accepted) × (k.0 ≡ with_frame told answers t operation m.0) × (k.1 ≡ m.1)

  abbrev RunsOnce : Core × E → ℕ → ℕ → Answered → Core × E → Type 0
  RunsOnce m cpu t r k = (settling : Option Settling) × (r ≡ ran settling) × Performs told answers m cpu t settling k

  abbrev Advances : Core × E → ℕ → ℕ → ℕ → Answered → Core × E → Type 0
  Advances m cpu n t r k = (count : ℕ) × (settling : Option Settling) × (r ≡ advanced count settling) × Stopped told answers n count settling × Runs told answers cpu t count settling m k

  abbrev Changes : Core × E → ℕ → Option ℕ → Answered → Core × E → Type 0
  Changes m cpu t r k = (o : Option Core) × DisturbsCurrent told answers m cpu (cpu_at m.0 cpu).current o × Granted told answers m cpu o (with_current told answers cpu t) r k

  one_change : (m : Core × E) (cpu : ℕ) (t : Option ℕ) (r s : Answered) (k l : Core × E) → Changes m cpu t r k → Changes m cpu t s l → Same r s k l
  one_change m cpu t r s k l d f = one_granted_after m cpu d.0 f.0 (with_current told answers cpu t) r s k l (one_disturbs_current m cpu (cpu_at m.0 cpu).current d.0 f.0 d.1 f.1) d.2 f.2

  pub one_outcome : (m : Core × E) (c : Call) (r s : Answered) (k l : Core × E) → Step told answers m c r k → Step told answers m c s l → Same r s k l
  one_outcome m (call.Enlist t raw) r s k l d f =
      one_unless m _ r s k l _ _ d f
      (λ p q. one_operation (operation_of m.0.sizes raw) (λ o. Enlists m t o r k) (λ o. Enlists m t o s l) (Same r s k l) p q (λ o x y. (x.0 ∙ sym y.0, ap₂ (λ a b. (a, b)) (x.1 ∙ sym y.1) (x.2 ∙ sym y.2))))
  one_outcome m (call.Run cpu) r s k l d f =
      one_unless m _ r s k l _ _ d f
      (λ p q. one_current (cpu_at m.0 cpu).current (λ t. RunsOnce m cpu t r k) (λ t. RunsOnce m cpu t s l) (Same r s k l) p q
      (λ t x y. let both = one_performs m cpu t x.0 y.0 k l x.2 y.2 in (x.1 ∙ ap ran both.0 ∙ sym y.1, both.1)))
  one_outcome m (call.Advance cpu n) r s k l d f =
      one_unless m _ r s k l _ _ d f
      (λ p q. one_current (cpu_at m.0 cpu).current (λ t. Advances m cpu n t r k) (λ t. Advances m cpu n t s l) (Same r s k l) p q
      (λ t x y. let both = one_stop cpu t n x.0 y.0 x.1 y.1 m k l x.3 y.3 x.4 y.4 in (x.2 ∙ both.0 ∙ sym y.2, both.1)))
  one_outcome m (call.Switch cpu t) r s k l d f = one_unless m _ r s k l (Changes m cpu (Some t) r k) (Changes m cpu (Some t) s l) d f (λ p q. one_change m cpu (Some t) r s k l p q)
  one_outcome m (call.Idle cpu) r s k l d f = one_unless m _ r s k l (Changes m cpu None r k) (Changes m cpu None s l) d f (λ p q. one_change m cpu None r s k l p q)
  one_outcome m (call.Signal t raw) r s k l d f =
      one_unless m _ r s k l _ _ d f
      (λ p q. one_operation (operation_of m.0.sizes raw) (λ o. Signals told answers m t o (cpu_of m.0 t) r k) (λ o. Signals told answers m t o (cpu_of m.0 t) s l) (Same r s k l) p q
      (λ o x y. one_signal m t o (cpu_of m.0 t) r s k l x y))
