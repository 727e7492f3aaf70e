-- The parts of calls: checks that pass or refuse, operations, the CPU that has a thread, and disturbing a CPU's thread.
use Rattle.std.proofs.Common.{◌≡◌, ℕ, zero, suc, ◌-◌, ◌<◌, ◌≤◌, Bool, true, false, cond, eqb, List, [], ◌∷◌, reverse, get_or, take, Some, None, Err, MatchBool, Option, Result, sym, refl, ap, ◌∙◌, subst, ⊎_elim, arith, get_or-set_other}
use Rattle.std.proofs.lemmas.Bool.{cases_lt, eqb-true, eqb-false, ltb-true}
use Rattle.std.proofs.lemmas.Option.{cond_some, same_Some}
use Rattle.std.specs.List.{AllByRecursion}
use Rattle.faults.specs.declared.Fault.{Fault}
use Rattle.image.specs.declared.fields.Sizes.{Sizes}
use Rattle.image.specs.Checks.{Check, first_failing}
use Rattle.words.specs.declared.Kind.{Kind}
use Rattle.words.specs.declared.Kind.TheVariants as kind
use Rattle.words.specs.Words.{kind_of}
use Rattle.calls.specs.declared.RawOperation.{RawOperation}
use Rattle.exclusion.specs.declared.meaning.Notice.{Notice}
use Rattle.exclusion.specs.declared.meaning.Notice.TheVariants.{Left}
use Rattle.exclusion.specs.declared.meaning.Verdict.{Verdict}
use Rattle.exclusion.specs.declared.meaning.Verdict.TheVariants as verdict
use Rattle.exclusion.specs.Meaning.{Meaning, PatienceBecomes}
use Rattle.model.specs.declared.state.Operation.{Operation}
use Rattle.model.specs.declared.state.Operation.TheVariants.{Add, Push, Pop, Put, Take}
use Rattle.model.specs.declared.state.Thread.{Thread}
use Rattle.model.specs.declared.state.Cpu.{Cpu}
use Rattle.model.specs.declared.state.Core.{Core}
use Rattle.model.specs.State.{no_cpu, no_thread, put_thread, thread_at, cpu_at, top_frame}
use Rattle.model.specs.Calls.{by_kind, operation_of, cpu_of, after_verdict, with_thread, Disturbs, DisturbsCurrent}
use Rattle.model.specs.Ledger.{Ledger, updated}
use Rattle.model.specs.Claims.{is_thread, HasMeaning}
use Rattle.lives.proofs.Nodes.{here_or_else, updated_here, updated_else}
use Rattle.lives.proofs.Midway.{Valid}
use Rattle.lives.proofs.Standing.{RestartPoint, Standing, idle, resting, Invariant, thread_written}
use Rattle.lives.proofs.Disturbing.{meaning_changed, Calmed, ByOutcome, by_verdict}
use Rattle.lives.specs.Apart.{frames_of, cpu_among}

-- The fault of checks that do not all pass is that of one of them.
pub fault_among : {X : Type 0} (P : Fault → Type 0) (x : X) (checks : List Check) (fault : Fault) → AllByRecursion (λ (check : Check). P check.fault) checks → first_failing x checks ≡ Err fault → P fault
fault_among P x [] fault all e = cc
fault_among {X} P x (check ∷ checks) fault all e = go check.passes refl (λ rest. fault_among P x checks fault all.1 rest)
  where
    go : (b : Bool) → check.passes ≡ b → (first_failing x checks ≡ Err fault → P fault) → P fault
    go true is then = then (sym (ap (λ t. cond t (first_failing x checks) (Err check.fault)) is) ∙ e)
    go false is then = let failed : ◌≡◌ {A = Result X Fault} (Err check.fault) (Err fault) = sym (ap (λ t. cond t (first_failing x checks) (Err check.fault)) is) ∙ e in let same : check.fault ≡ fault = cc in subst P same all.0

-- What an operand stands for is an operation that the machine can have.
module _ (sizes : Sizes) where
  valid_kind : (k : Option Kind) (counter amount : ℕ) (operation : Operation) → by_kind sizes k counter amount ≡ Some operation → Valid sizes operation
  valid_kind None counter amount operation e = cc
  valid_kind (Some kind.Add) counter amount operation e = let p = cond_some _ (Add counter amount) operation e in subst (Valid sizes) p.1 (ltb-true counter sizes.counters p.0)
  valid_kind (Some kind.Push) counter amount operation e = let p = cond_some _ Push operation e in subst (Valid sizes) p.1 tt
  valid_kind (Some kind.Pop) counter amount operation e = let p = cond_some _ Pop operation e in subst (Valid sizes) p.1 tt
  valid_kind (Some kind.Put) counter amount operation e = let p = cond_some _ (Put amount) operation e in subst (Valid sizes) p.1 tt
  valid_kind (Some kind.Take) counter amount operation e = let p = cond_some _ Take operation e in subst (Valid sizes) p.1 tt

  pub operation_valid : (raw : RawOperation) (operation : Operation) → operation_of sizes raw ≡ Some operation → Valid sizes operation
  operation_valid raw operation e = valid_kind (kind_of raw.kind) raw.counter raw.amount operation e

-- The CPU that has a thread.
module _ (core : Core) (t : ℕ) where
  pub is_there : (o : Option ℕ) → is_thread t o ≡ true → o ≡ Some t
  is_there None e = cc
  is_there (Some s) e = ap Some (eqb-true s t e)

  is_not_there : (o : Option ℕ) → is_thread t o ≡ false → o ≡ Some t → ⊥
  is_not_there None e is = cc
  is_not_there (Some s) e is = eqb-false s t e (same_Some _ _ is)

  none_of : (cpus : List Cpu) (i : ℕ) → cpu_among cpus i t ≡ None → (j : ℕ) → (get_or cpus j no_cpu).current ≡ Some t → ⊥
  none_of [] i e j there = cc
  none_of (cpu ∷ cpus) i e j there = go (is_thread t cpu.current) refl (λ rest. none_of cpus (suc i) rest) j there
    where
      go : (b : Bool) → is_thread t cpu.current ≡ b → (cpu_among cpus (suc i) t ≡ None → (j : ℕ) → (get_or cpus j no_cpu).current ≡ Some t → ⊥) → (j : ℕ) → (get_or (cpu ∷ cpus) j no_cpu).current ≡ Some t → ⊥
      go true is then j there = let clash : Some i ≡ None = sym (ap (λ x. cond x (Some i) (cpu_among cpus (suc i) t)) is) ∙ e in cc
      go false is then zero there = is_not_there cpu.current is there
      go false is then (suc j) there = then (sym (ap (λ x. cond x (Some i) (cpu_among cpus (suc i) t)) is) ∙ e) j there

  one_of : (cpus : List Cpu) (i c : ℕ) → cpu_among cpus i t ≡ Some c → (i ≤ c) × ((get_or cpus (c - i) no_cpu).current ≡ Some t)
  one_of [] i c e = cc
  one_of (cpu ∷ cpus) i c e = go (is_thread t cpu.current) refl (λ rest. one_of cpus (suc i) c rest)
    where
      go : (b : Bool) → is_thread t cpu.current ≡ b → (cpu_among cpus (suc i) t ≡ Some c → (suc i ≤ c) × ((get_or cpus (c - suc i) no_cpu).current ≡ Some t)) → (i ≤ c) × ((get_or (cpu ∷ cpus) (c - i) no_cpu).current ≡ Some t)
      go true is then =
          let here : i ≡ c = same_Some _ _ (sym (ap (λ x. cond x (Some i) (cpu_among cpus (suc i) t)) is) ∙ e) in
          (omega arith, ap (λ n. (get_or (cpu ∷ cpus) n no_cpu).current) {x = c - i} {y = 0} (omega arith) ∙ is_there cpu.current is)
      go false is then =
          let p = then (sym (ap (λ x. cond x (Some i) (cpu_among cpus (suc i) t)) is) ∙ e) in
          (omega (arith, p.0), ap (λ n. (get_or (cpu ∷ cpus) n no_cpu).current) {x = c - i} {y = suc (c - suc i)} (omega (arith, p.0)) ∙ p.1)

  pub no_cpu_has : cpu_of core t ≡ None → (c : ℕ) → (cpu_at core c).current ≡ Some t → ⊥
  no_cpu_has e c there = none_of core.cpus 0 e c there

  pub cpu_has : (c : ℕ) → cpu_of core t ≡ Some c → (cpu_at core c).current ≡ Some t
  cpu_has c e = ap (λ n. (cpu_at core n).current) {x = c} {y = c - 0} (omega arith) ∙ (one_of core.cpus 0 c e).1

-- Disturbing whatever thread a CPU has, for an exclusion that has the meaning.
module _ {E : Type 0} (meaning : E → Meaning) (told : E → Notice → E → Type 0) (answers : E → ℕ → ℕ → ℕ → Verdict → Type 0) (has : HasMeaning meaning told answers)
    (l : Ledger) (m : Core × E) (c : ℕ) (inv : Invariant l (meaning m.1) m.0) (exists : c < m.0.sizes.cpus) where
  -- Held: the CPU has a thread with an operation, and patience.
  pub record IsHeld : Type 0 where
    pub t : ℕ
    pub on : l.current c ≡ Some t
    pub some : 0 < (thread_at m.0 t).depth
    pub patient : 0 < (meaning m.1).patience c

  -- Else all frames of its thread stand at restart points, and nothing else has changed.
  pub record IsCalm (f : E) (later : Core) : Type 0 where
    pub invariant : Invariant l (meaning f) later
    pub restart : (s : ℕ) → l.current c ≡ Some s → AllByRecursion (RestartPoint later.image) (frames_of (thread_at later s))
    pub threads_else : (s : ℕ) → (l.current c ≡ Some s → ⊥) → thread_at later s ≡ thread_at m.0 s
    pub depths : (s : ℕ) → (thread_at later s).depth ≡ (thread_at m.0 s).depth
    pub same_image : later.image ≡ m.0.image
    pub same_sizes : later.sizes ≡ m.0.sizes

  abbrev pub ByCore : Option Core → Type 0
  ByCore None = IsHeld
  ByCore (Some later) = (f : E) → told m.1 (Left c) f → IsCalm f later

  left_becomes : (f : E) → told m.1 (Left c) f → PatienceBecomes (meaning m.1) c 0 (meaning f)
  left_becomes f is = has.obeys m.1 (Left c) f is

  -- Without a thread, or with one that has nothing to do, nothing is asked.
  nothing_asked : ((f : E) → told m.1 (Left c) f → Standing m.0 ((meaning f).patience c) c) → ((s : ℕ) → l.current c ≡ Some s → (thread_at m.0 s).depth ≡ 0) → ByCore (Some m.0)
  nothing_asked standing rests f is =
      let becomes = left_becomes f is in
      record {
        invariant = meaning_changed l (meaning m.1) (meaning f) m.0 c inv becomes.sections_stay becomes.elsewhere (standing f is);
        restart = λ s there. subst (AllByRecursion (RestartPoint m.0.image)) (sym (ap (λ n. reverse (take n (thread_at m.0 s).frames)) (rests s there))) tt;
        threads_else = λ s differs. refl;
        depths = λ s. refl;
        same_image = refl;
        same_sizes = refl;
      }

  -- A thread that is asked about.
  module _ (t : ℕ) (on : l.current c ≡ Some t) (some : 0 < (thread_at m.0 t).depth) where
    t_exists : t < m.0.sizes.threads
    t_exists = (inv.current_exists c t on).1

    verdict_depth : (v : Verdict) (th : Thread) → after_verdict m.0 (thread_at m.0 t) v ≡ Some th → th.depth ≡ (thread_at m.0 t).depth
    verdict_depth verdict.Outside th is = sym (ap (λ (x : Thread). x.depth) (same_Some _ _ is))
    verdict_depth verdict.Held th is = cc
    verdict_depth (verdict.Back place) th is = sym (ap (λ (x : Thread). x.depth) (same_Some _ _ is))

    -- A meaning as it would be after left, to look at what a held thread tells of the one before.
    abbrev without_patience : Meaning
    without_patience = record { section = (meaning m.1).section; patience = updated (meaning m.1).patience c 0 }

    would_become : PatienceBecomes (meaning m.1) c 0 without_patience
    would_become = record { sections_stay = λ d. refl; there = λ below. updated_here (meaning m.1).patience c 0; elsewhere = λ other differs. updated_else (meaning m.1).patience c 0 other differs }

    by_thread : (v : Verdict) → answers m.1 c (top_frame (thread_at m.0 t)).armed (top_frame (thread_at m.0 t)).place v → (o : Option Thread) → after_verdict m.0 (thread_at m.0 t) v ≡ o → ByCore (with_thread m.0 t o)
    by_thread v answer None is = record {
      t = t;
      on = on;
      some = some;
      patient =
          subst (λ o. ByOutcome l (meaning m.1) m.0 c t inv on some o (0 < (meaning m.1).patience c) (λ th. Calmed l (meaning m.1) m.0 c t inv on some without_patience (put_thread m.0 t th))) is
          (by_verdict l (meaning m.1) m.0 c t inv on some without_patience would_become v (has.says m.1 c _ _ v answer));
    }
    by_thread v answer (Some th) is = λ f tells.
        let calmed =
        subst (λ o. ByOutcome l (meaning m.1) m.0 c t inv on some o (0 < (meaning m.1).patience c) (λ x. Calmed l (meaning m.1) m.0 c t inv on some (meaning f) (put_thread m.0 t x))) is
        (by_verdict l (meaning m.1) m.0 c t inv on some (meaning f) (left_becomes f tells) v (has.says m.1 c _ _ v answer)) in
        record {
          invariant = calmed.invariant;
          restart = λ s there. subst (λ x. AllByRecursion (RestartPoint m.0.image) (frames_of (thread_at (put_thread m.0 t th) x))) (same_Some _ _ (sym on ∙ there)) calmed.restart;
          threads_else = λ s differs. get_or-set_other m.0.threads t s th no_thread (λ same. differs (on ∙ ap Some (sym same)));
          depths = here_or_else (λ s. (thread_at (put_thread m.0 t th) s).depth ≡ (thread_at m.0 s).depth) t (ap (λ (x : Thread). x.depth) (thread_written inv t_exists th) ∙ verdict_depth v th is)
              (λ s differs. ap (λ (x : Thread). x.depth) (get_or-set_other m.0.threads t s th no_thread differs));
          same_image = refl;
          same_sizes = refl;
        }

  pub disturbed : (t : ℕ) → l.current c ≡ Some t → (o : Option Core) → Disturbs told answers m c t o → ByCore o
  disturbed t on o d = go (eqb (thread_at m.0 t).depth 0) refl d
    where
      go : (b : Bool) → eqb (thread_at m.0 t).depth 0 ≡ b
          → MatchBool b (o ≡ Some m.0)
          ((v : Verdict) × answers m.1 c (top_frame (thread_at m.0 t)).armed (top_frame (thread_at m.0 t)).place v × (o ≡ with_thread m.0 t (after_verdict m.0 (thread_at m.0 t) v))) → ByCore o
      go true none is =
          let empty = eqb-true (thread_at m.0 t).depth 0 none in
          subst ByCore (sym is)
          (nothing_asked (λ f tells. resting t (inv.current c ∙ on) empty ((left_becomes f tells).there (omega (arith, exists, inv.limits.cpus))))
          (λ s there. ap (λ x. (thread_at m.0 x).depth) (same_Some _ _ (sym there ∙ on)) ∙ empty))
      go false more (v, answer, is) =
          let ne = eqb-false (thread_at m.0 t).depth 0 more in
          let some : 0 < (thread_at m.0 t).depth = ⊎_elim (λ (none : (thread_at m.0 t).depth < 1). absurd (ne (omega arith))) (λ (p : 1 ≤ (thread_at m.0 t).depth). p) (cases_lt (thread_at m.0 t).depth 1) in
          subst ByCore (sym is) (by_thread t on some v answer (after_verdict m.0 (thread_at m.0 t) v) refl)

  pub disturbed_current : (cur : Option ℕ) → l.current c ≡ cur → (o : Option Core) → DisturbsCurrent told answers m c cur o → ByCore o
  disturbed_current None none o is =
      subst ByCore (sym is)
      (nothing_asked (λ f tells. idle (inv.current c ∙ none) ((left_becomes f tells).there (omega (arith, exists, inv.limits.cpus))))
      (λ s there. let clash : None ≡ Some s = sym none ∙ there in cc))
  disturbed_current (Some t) on o d = disturbed t on o d
